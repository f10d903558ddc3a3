-- The table of the PLCA data path (IEEE Std 802.3 148.4.5): its start, what the other machines read of it, and its
-- rows in order. In each state the first row whose condition holds decides. The line is the list of its nibbles,
-- the oldest first.
use Rattle.std.specs.Prelude.{ℕ, ◌-◌, Bool, true, false, not, ◌&&◌, ◌||◌, nat_lt, ◌==◌, if◌then◌else◌, List, [], ◌∷◌, ◌++◌, length}
use Rattle.t1s_symbols.specs.declared.Class.{Class}
use Rattle.t1s_symbols.specs.declared.Class.TheVariants.{None as Unread, Beacon as BeaconHeard, Run as RunHeard, Other as OtherHeard}
use Rattle.t1s_ring.specs.DelayLine.{line_room}
use Rattle.plca_data.specs.declared.DataIn.{DataIn}
use Rattle.plca_data.specs.declared.MacOut.{MacOut}
use Rattle.plca_data.specs.declared.MacOut.TheVariants.{Nothing, Nibble, Ended}
use Rattle.plca_data.specs.declared.data_path.State.{State}
use Rattle.plca_data.specs.declared.data_path.State.TheVariants.{Silent, Idle, Hold, Collide, DelayPending, Pending, WaitMac, Transmit}
use Rattle.plca_data.specs.Ranges.{pending_ticks}

-- the state in which the data path starts
abbrev pub data_path_start : State
data_path_start = Silent

-- the carrier that the MAC is shown, by the carrier that is sensed
abbrev pub carrier : State → Bool → Bool
carrier Silent crs = true
carrier Idle crs = crs
carrier Hold crs = false
carrier Collide crs = true
carrier (DelayPending n) crs = true
carrier Pending crs = true
carrier WaitMac crs = false
carrier (Transmit ended bad) crs = true

-- whether the MAC is told of a collision
abbrev pub collision : State → Bool
collision Silent = false
collision Idle = false
collision Hold = false
collision Collide = true
collision (DelayPending n) = false
collision Pending = false
collision WaitMac = false
collision (Transmit ended bad) = bad

-- whether a frame waits for its opportunity
abbrev pub ready : State → Bool
ready Silent = false
ready Idle = false
ready Hold = true
ready Collide = false
ready (DelayPending n) = false
ready Pending = true
ready WaitMac = false
ready (Transmit ended bad) = false

-- whether the frame goes through the line
abbrev pub begun : State → Bool
begun Silent = false
begun Idle = false
begun Hold = false
begun Collide = false
begun (DelayPending n) = false
begun Pending = false
begun WaitMac = false
begun (Transmit ended bad) = true

-- whether the MAC has ended the frame that goes through the line
abbrev pub ended : State → Bool
ended Silent = false
ended Idle = false
ended Hold = false
ended Collide = false
ended (DelayPending n) = false
ended Pending = false
ended WaitMac = false
ended (Transmit all_given is_bad) = all_given

-- whether the piece that carries this frame is bad
abbrev pub bad : State → Bool
bad Silent = false
bad Idle = false
bad Hold = false
bad Collide = false
bad (DelayPending n) = false
bad Pending = false
bad WaitMac = false
bad (Transmit all_given is_bad) = is_bad

-- what the MAC gives out
abbrev pub is_nibble : MacOut → Bool
is_nibble Nothing = false
is_nibble (Nibble x) = true
is_nibble Ended = false

abbrev pub is_ended : MacOut → Bool
is_ended Nothing = false
is_ended (Nibble x) = false
is_ended Ended = true

-- another node's frame is on the line, or what can't be read
abbrev pub is_run_or_other : Class → Bool
is_run_or_other Unread = false
is_run_or_other BeaconHeard = false
is_run_or_other RunHeard = true
is_run_or_other OtherHeard = true

-- a line that refuses a push
abbrev pub is_full : List ℕ → Bool
is_full line = not (nat_lt (length line) line_room)

-- the line after a push of the nibble that the MAC gives, if it gives one; a full line stays as it is
abbrev pub pushed : MacOut → List ℕ → List ℕ
pushed Nothing line = line
pushed (Nibble x) line = if is_full line then line else line ++ x ∷ []
pushed Ended line = line

-- the rows: the new state and the new line
abbrev pub idle : DataIn → List ℕ → State × List ℕ
idle i line =
    if not i.active && is_nibble i.mac then (Collide, line)
    else if not i.active then (Silent, line)
    else if is_nibble i.mac then (Hold, pushed i.mac line)
    else (Idle, line)

abbrev pub hold : DataIn → List ℕ → State × List ℕ
hold i line =
    if not i.active then (Collide, [])
    else if i.own then (Transmit false false, pushed i.mac line)
    else if i.crs && is_run_or_other i.class then (Collide, [])
    else if is_nibble i.mac && is_full line then (Collide, [])
    else if is_nibble i.mac then (Hold, pushed i.mac line)
    else if is_ended i.mac then (Idle, [])
    else (Hold, line)

abbrev pub collide : DataIn → List ℕ → State × List ℕ
collide i line =
    if is_ended i.mac && not i.active then (Silent, line)
    else if is_ended i.mac then (DelayPending pending_ticks, line)
    else (Collide, line)

abbrev pub delay_pending : ℕ → DataIn → List ℕ → State × List ℕ
delay_pending n i line =
    if is_nibble i.mac then (Collide, line)
    else if not i.active then (Silent, line)
    else if n == 1 then (Pending, line)
    else (DelayPending (n - 1), line)

abbrev pub pending : DataIn → List ℕ → State × List ℕ
pending i line =
    if is_nibble i.mac then (Collide, line)
    else if not i.active then (Silent, line)
    else if i.own then (WaitMac, line)
    else (Pending, line)

abbrev pub wait_mac : DataIn → List ℕ → State × List ℕ
wait_mac i line =
    if not i.own then idle i line
    else if is_nibble i.mac then (Transmit false false, pushed i.mac line)
    else (WaitMac, line)

abbrev pub transmit : Bool → Bool → DataIn → List ℕ → State × List ℕ
transmit ended bad i line =
    if not i.own then idle i []
    else if i.closed then (WaitMac, [])
    else if is_nibble i.mac then (Transmit ended (bad || i.hit || is_full line), pushed i.mac line)
    else if is_ended i.mac then (Transmit true (bad || i.hit), line)
    else (Transmit ended (bad || i.hit), line)

-- one step over the list of the line
abbrev pub data_path_step : State → DataIn → List ℕ → State × List ℕ
data_path_step Silent i line = idle i line
data_path_step Idle i line = idle i line
data_path_step Hold i line = hold i line
data_path_step Collide i line = collide i line
data_path_step (DelayPending n) i line = delay_pending n i line
data_path_step Pending i line = pending i line
data_path_step WaitMac i line = wait_mac i line
data_path_step (Transmit ended bad) i line = transmit ended bad i line
