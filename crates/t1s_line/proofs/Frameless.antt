-- A node that holds no frame: its MAC rests, its data path is idle and its delay line is empty, and so it stays. Its
-- drive phase then is control and the transmitter alone.
use Rattle.std.proofs.Common.{◌≡◌, ℕ, ◌+◌, ◌<◌, Bool, true, false, ◌&&◌, cond, eqb, ne_eqb, List, [], refl, ◌∙◌, ap, arith}
use Rattle.t1s_symbols.specs.declared.Class.{Class}
use Rattle.t1s_ring.specs.Queue.{Queue}
use Rattle.t1s_pcs_tx.specs.declared.TxCmd.{TxCmd}
use Rattle.t1s_pcs_tx.specs.declared.TxIn.{TxIn}
use Rattle.t1s_pcs_tx.specs.State.{Quiet, Beaconing, TxState, quarter_of, is_closed}
use Rattle.t1s_pcs_tx.specs.TransmitTable.{TxTurn, transmit_step, turn_to, chosen_turn, choice_after, at_boundary, report_of, command_choice}
use Rattle.plca_control.specs.declared.ControlIn.{ControlIn}
use Rattle.plca_control.specs.declared.ControlOut.{ControlOut}
use Rattle.plca_control.specs.State.{ControlState}
use Rattle.plca_control.specs.ControlTable.{control_step}
use Rattle.plca_data.specs.declared.MacOut.{MacOut}
use Rattle.plca_data.specs.declared.MacOut.TheVariants.{Nothing}
use Rattle.plca_data.specs.declared.data_path.State.{State as PathState}
use Rattle.plca_data.specs.declared.data_path.State.TheVariants.{Silent, Idle, Hold, Collide, DelayPending, Pending, WaitMac, Transmit}
use Rattle.plca_data.specs.DataPathTable.{carrier, collision, ready, begun, ended, bad, idle, data_path_step}
use Rattle.t1s_mac.specs.declared.outcome.MacNote.TheVariants.{None as NoNote}
use Rattle.t1s_mac.specs.declared.picked_draws.PickedDraws.{PickedDraws}
use Rattle.t1s_mac.specs.PickedDraws.{picked_answer, picked_after}
use Rattle.t1s_mac.specs.MacTable.{Row, row, resting, mac_row}
use Rattle.t1s_mac.specs.State.{Resting, MacState}
use Rattle.t1s_node.specs.Node.{NodeState, node_drive}
use Rattle.t1s_node.specs.Core.{Core, CoreDrive, LineReading, control_turn, mac_turn, tx_turn, path_turn, core_drive}

-- a condition that asks for more than holds
pub never_and : (b c : Bool) → c ≡ false → (b && c) ≡ false
never_and true c e = e
never_and false c e = refl

-- ---- the data path and the MAC

abbrev pub is_idle : PathState → Bool
is_idle Silent = true
is_idle Idle = true
is_idle Hold = false
is_idle Collide = false
is_idle (DelayPending n) = false
is_idle Pending = false
is_idle WaitMac = false
is_idle (Transmit ended bad) = false

-- it shows nothing to control and the transmitter
record ShowsNothing (p : PathState) : Type 0 where
  pub ready : ready p ≡ false
  pub begun : begun p ≡ false
  pub ended : ended p ≡ false
  pub bad : bad p ≡ false

shows_nothing : (p : PathState) → is_idle p ≡ true → ShowsNothing p
shows_nothing Silent e = record { ready = refl; begun = refl; ended = refl; bad = refl }
shows_nothing Idle e = record { ready = refl; begun = refl; ended = refl; bad = refl }
shows_nothing Hold e = cc
shows_nothing Collide e = cc
shows_nothing (DelayPending n) e = cc
shows_nothing Pending e = cc
shows_nothing WaitMac e = cc
shows_nothing (Transmit ended bad) e = cc

-- and stays idle while the MAC gives nothing
abbrev StaysIdle : PathState × List ℕ → Type 0
StaysIdle next = (is_idle next.0 ≡ true) × (next.1 ≡ [])

idle_rests : (active own closed crs : Bool) (class : Class) (hit : Bool) → StaysIdle (idle (record { active = active; own = own; closed = closed; crs = crs; class = class; hit = hit; mac = Nothing }) [])
idle_rests true own closed crs class hit = (refl, refl)
idle_rests false own closed crs class hit = (refl, refl)

path_rests : (p : PathState) (active own closed crs : Bool) (class : Class) (hit : Bool) (mac : MacOut) (line : List ℕ) → is_idle p ≡ true → mac ≡ Nothing → line ≡ []
    → StaysIdle (data_path_step p (record { active = active; own = own; closed = closed; crs = crs; class = class; hit = hit; mac = mac }) line)
path_rests Silent active own closed crs class hit mac line e none empty = rw (none, empty) (idle_rests active own closed crs class hit)
path_rests Idle active own closed crs class hit mac line e none empty = rw (none, empty) (idle_rests active own closed crs class hit)
path_rests Hold active own closed crs class hit mac line e none empty = cc
path_rests Collide active own closed crs class hit mac line e none empty = cc
path_rests (DelayPending n) active own closed crs class hit mac line e none empty = cc
path_rests Pending active own closed crs class hit mac line e none empty = cc
path_rests WaitMac active own closed crs class hit mac line e none empty = cc
path_rests (Transmit ended bad) active own closed crs class hit mac line e none empty = cc

-- a MAC at rest with no frame stays so
resting_row : (q : Queue) (attempts : ℕ) (may : Bool) → q.frames ≡ [] → resting q attempts may ≡ row Resting q attempts Nothing NoNote
resting_row q attempts may e = rw e refl

mac_rests : (m : MacState PickedDraws) (carrier collision : Bool) → m.phase ≡ Resting → m.queue.frames ≡ [] → mac_row picked_answer m carrier collision ≡ row Resting m.queue m.attempts Nothing NoNote
mac_rests m carrier collision rests none = rw rests (resting_row m.queue m.attempts _ none)

-- ---- the transmitter, which has no nibble to pop

abbrev pub told_alone : TxCmd → TxIn
told_alone cmd = record { cmd = cmd; ended = false; bad = false }

-- in Quiet, and after the last quarter of a beacon's symbol, what is told is chosen
pub quiet_told : (part : ℕ) (past : List Bool) (cmd : TxCmd) → transmit_step (record { stage = Quiet; part = part; past = past }) (told_alone cmd) [] ≡ chosen_turn (command_choice cmd past [])
unfolding transmit_step
quiet_told part past cmd = refl

pub beacon_told : (part : ℕ) (past : List Bool) (cmd : TxCmd) → part ≡ 3 → transmit_step (record { stage = Beaconing; part = part; past = past }) (told_alone cmd) [] ≡ chosen_turn (command_choice cmd past [])
unfolding transmit_step
beacon_told part past cmd e = rw e refl

-- and while the symbol has quarters left, the next one is driven
pub beacon_on : (part : ℕ) (past : List Bool) (cmd : TxCmd) → part < 3 → transmit_step (record { stage = Beaconing; part = part; past = past }) (told_alone cmd) [] ≡ turn_to (record { stage = Beaconing; part = part + 1; past = past }) []
unfolding transmit_step
beacon_on part past cmd lt = let more : eqb part 3 ≡ false = ne_eqb part 3 (λ e. omega arith) in rw more refl

-- whatever is told, what is driven is the quarter of the state that is left
turn_drives : (b : Bool) (x y : TxTurn) → x.driven ≡ quarter_of x.state → y.driven ≡ quarter_of y.state → (cond b x y).driven ≡ quarter_of (cond b x y).state
turn_drives true x y h k = h
turn_drives false x y h k = k

step_drives : (x : TxState) (inp : TxIn) (line : List ℕ) → (transmit_step x inp line).driven ≡ quarter_of (transmit_step x inp line).state
unfolding transmit_step
step_drives x inp line = turn_drives (at_boundary x) (chosen_turn (choice_after x.stage x.past inp line)) (turn_to (record x { part = x.part + 1 }) line) refl refl

pub node_drives : (n : NodeState) → (node_drive n).1.quarter ≡ quarter_of (node_drive n).0.core.tx
unfolding core_drive
node_drives n = step_drives n.core.tx _ n.core.line

-- ---- the drive phase

pub record IsFrameless (c : Core PickedDraws) : Type 0 where
  pub rests : c.mac.phase ≡ Resting
  pub none : c.mac.queue.frames ≡ []
  pub line : c.line ≡ []
  pub path : is_idle c.path ≡ true

module _ (s : LineReading) (c : Core PickedDraws) where
  -- what control is told
  abbrev pub told_control : ControlIn
  told_control = record { crs = s.crs; class = s.class; ready = false; begun = false; tx = report_of c.tx }

  abbrev pub given : ControlState × ControlOut
  given = control_step c.control told_control

  abbrev pub left : CoreDrive PickedDraws
  left = core_drive picked_answer picked_after s c

  -- the transmitter is left in x
  pub record DrivesTo (x : TxState) : Type 0 where
    pub control : left.core.control ≡ given.0
    pub tx : left.core.tx ≡ x
    pub quarter : left.quarter ≡ quarter_of x
    pub frameless : IsFrameless left.core

  pub drives_to : (x : TxState) → IsFrameless c → transmit_step c.tx (told_alone given.1.cmd) [] ≡ turn_to x [] → DrivesTo x
  unfolding core_drive
  drives_to x h turn =
      let shown = shows_nothing c.path h.path in
      let rests : mac_row picked_answer c.mac (carrier c.path s.crs) (collision c.path) ≡ row Resting c.mac.queue c.mac.attempts Nothing NoNote = mac_rests c.mac (carrier c.path s.crs) (collision c.path) h.rests h.none in
      let sends : tx_turn (control_turn s c).1.cmd c ≡ turn_to x [] = rw (shown.ready, shown.begun, shown.ended, shown.bad, h.line) turn in
      let path : StaysIdle (path_turn s c (control_turn s c).1 (mac_turn picked_answer picked_after s c).1 (tx_turn (control_turn s c).1.cmd c).line) =
      path_rests c.path (control_turn s c).1.active (control_turn s c).1.own (is_closed (report_of c.tx)) s.crs s.class s.hit (mac_turn picked_answer picked_after s c).1.out (tx_turn (control_turn s c).1.cmd c).line
      h.path (ap (λ (r : Row). r.out) rests) (ap (λ (t : TxTurn). t.line) sends) in
      record {
        control = rw (shown.ready, shown.begun) refl;
        tx = ap (λ (t : TxTurn). t.state) sends;
        quarter = ap (λ (t : TxTurn). t.driven) sends;
        frameless = record {
          rests = ap (λ (r : Row). r.phase) rests;
          none = ap (λ (r : Row). r.queue.frames) rests ∙ h.none;
          line = path.1;
          path = path.0;
        };
      }
