-- A node that is never offered a frame drives nothing but beacons, whatever it hears.
use Rattle.std.proofs.Common.{◌≡◌, ℕ, zero, suc, ◌+◌, ◌-◌, ◌*◌, Bool, true, false, cond, eqb, leb, List, refl, sym, ◌∙◌, ap, Some}
use Rattle.std.specs.Prelude.{◌&&◌, not}
use Rattle.t1s_symbols.specs.declared.Heard.{Heard}
use Rattle.t1s_symbols.specs.declared.Quarter.{Quarter}
use Rattle.t1s_symbols.specs.declared.Symbol.TheVariants.{N}
use Rattle.t1s_scramble.specs.Scrambled.{start_history}
use Rattle.t1s_ring.specs.Queue.{empty_queue}
use Rattle.t1s_pcs_tx.specs.declared.TxCmd.{TxCmd}
use Rattle.t1s_pcs_tx.specs.declared.TxCmd.TheVariants.{None as NoCmd, Beacon as BeaconCmd}
use Rattle.t1s_pcs_tx.specs.State.{quarter_of}
use Rattle.plca_control.specs.declared.ControlSet.{ControlSet}
use Rattle.plca_control.specs.declared.ControlIn.{ControlIn}
use Rattle.plca_control.specs.declared.State.{State}
use Rattle.plca_control.specs.declared.State.TheVariants.{Disabled, Recover, Resync, Early, Beacon, Syncing, WaitTo, Receive, Commit, Transmit, Burst, Drain}
use Rattle.plca_control.specs.State.{ControlState}
use Rattle.plca_control.specs.ControlTable.{control_row, coord, is_out, mine, reach, is_beacon}
use Rattle.t1s_mac.specs.declared.picked_draws.PickedDraws.{PickedDraws}
use Rattle.t1s_node.specs.declared.settings.NodeSet.{NodeSet}
use Rattle.t1s_node.specs.Node.{NodeState, node_start, reading_of, node_drive, node_hear}
use Rattle.t1s_node.specs.NodeRuns.{node_at}
use Rattle.t1s_line.specs.FramelessNodes.{FramelessNodesBeacon, without_offers}
use Rattle.t1s_line.proofs.Frameless.{never_and, DrivesTo, given, told_control}
use Rattle.t1s_line.proofs.Signals.{Signal, quiet, beacon, signal_tx, signal_step, InRange, IsSpare, HasSignal, step_low, signal_drives}

-- control holds no opportunity
abbrev is_waiting : State → Bool
is_waiting Disabled = true
is_waiting (Recover q) = true
is_waiting Resync = true
is_waiting Early = true
is_waiting (Beacon n) = true
is_waiting Syncing = true
is_waiting (WaitTo c n) = true
is_waiting (Receive c) = true
is_waiting (Commit c n b) = false
is_waiting (Transmit c b) = false
is_waiting (Burst c n b) = false
is_waiting (Drain c) = true

-- and with no frame ready it goes on so, and tells nothing but a beacon
record Waits (r : State × TxCmd) : Type 0 where
  pub state : is_waiting r.0 ≡ true
  pub cmd : IsSpare r.1

waits : (x : State) → is_waiting x ≡ true → Waits (x, NoCmd)
waits x e = record { state = e; cmd = tt }

beacons : (n : ℕ) → Waits (Beacon n, BeaconCmd)
beacons n = record { state = refl; cmd = tt }

either : (b : Bool) (x y : State × TxCmd) → Waits x → Waits y → Waits (cond b x y)
either true x y h k = h
either false x y h k = k

unless : (b : Bool) (x y : State × TxCmd) → b ≡ false → Waits y → Waits (cond b x y)
unless true x y e h = cc
unless false x y e h = h

reach_waits : (s : ControlSet) (c : ℕ) → Waits (reach s false c)
reach_waits s c =
    either (coord s && leb s.count c) _ _ (beacons 20)
    (unless (mine s c && false) _ _ (never_and (mine s c) false refl)
    (either (not (coord s) && leb 255 c) _ _ (waits Resync refl) (waits (WaitTo c s.to) refl)))

row_waits : (s : ControlSet) (state : State) (i : ControlIn) → i.ready ≡ false → is_waiting state ≡ true → Waits (control_row s state i)
row_waits s state i none e = go state e (rw none (λ c. reach_waits s c))
  where
    go : (x : State) → is_waiting x ≡ true → ((c : ℕ) → Waits (reach s i.ready c)) → Waits (control_row s x i)
    go Disabled e r = waits Disabled refl
    go (Recover q) e r = either i.crs _ _ (waits (Recover 0) refl) (either (eqb q (258 * s.to)) _ _ (beacons 20) (waits (Recover (q + 1)) refl))
    go Resync e r = either i.crs _ _ (waits Early refl) (waits Resync refl)
    go Early e r = either i.crs _ _ (waits Early refl) (either (is_beacon i.class) _ _ (r 0) (waits Resync refl))
    go (Beacon n) e r = either (eqb n 1) _ _ (waits Syncing refl) (beacons (n - 1))
    go Syncing e r = either i.crs _ _ (waits Syncing refl) (r 0)
    go (WaitTo c n) e r = either i.crs _ _ (waits (Receive c) refl) (either (eqb n 1) _ _ (r (c + 1)) (waits (WaitTo c (n - 1)) refl))
    go (Receive c) e r =
        either i.crs _ _ (waits (Receive c) refl)
        (either (is_beacon i.class && not (coord s)) _ _ (r 0)
        (either (is_beacon i.class && coord s) _ _ (waits (Recover 0) refl) (r (c + 1))))
    go (Commit c n b) e r = cc
    go (Transmit c b) e r = cc
    go (Burst c n b) e r = cc
    go (Drain c) e r = either i.crs _ _ (waits (Drain c) refl) (r (c + 1))

-- such a node from tick to tick
record HoldsNone (n : NodeState) : Type 0 where
  pub state : is_waiting n.core.control.state ≡ true
  pub x : Signal
  pub low : InRange x
  pub signal : HasSignal n x

record DrivesBeacon (n : NodeState) : Type 0 where
  pub left : HoldsNone (node_drive n).0
  pub y : Signal
  pub past : List Bool
  pub quarter : (node_drive n).1.quarter ≡ quarter_of (signal_tx y past)

drives_beacon : (n : NodeState) → HoldsNone n → DrivesBeacon n
drives_beacon n h =
    let i : ControlIn = told_control (reading_of n) n.core in
    let next = row_waits n.core.control.set n.core.control.state i refl h.state in
    let cmd : TxCmd = (given (reading_of n) n.core).1.cmd in
    let y : Signal = signal_step h.x cmd in
    let d : DrivesTo (reading_of n) n.core (signal_tx y h.signal.past) = signal_drives n h.x y cmd h.signal h.low next.cmd refl refl in
    record {
      left = record {
        state = ap (λ (k : ControlState). is_waiting k.state) d.control ∙ next.state;
        x = y;
        low = step_low h.x cmd h.low next.cmd;
        signal = record { past = h.signal.past; tx = d.tx; frameless = d.frameless };
      };
      y = y;
      past = h.signal.past;
      quarter = d.quarter;
    }

hears_on : (n : NodeState) (x : Heard) → HoldsNone n → HoldsNone (node_hear n x)
hears_on n x h = record { state = h.state; x = h.x; low = h.low; signal = record { past = h.signal.past; tx = h.signal.tx; frameless = h.signal.frameless } }

first_waits : (a b : Bool) → is_waiting (cond a Disabled (cond b (Recover 0) Resync)) ≡ true
first_waits true b = refl
first_waits false true = refl
first_waits false false = refl

beacon_symbol : (y : Signal) (past : List Bool) (q : Quarter) → quarter_of (signal_tx y past) ≡ Some q → q.sym ≡ N
beacon_symbol quiet past q e = cc
beacon_symbol (beacon part) past q e =
    let same : q ≡ record { sym = N; part = part } = cc in
    ap (λ (p : Quarter). p.sym) same

module _ (set : NodeSet) (room : ℕ) (draws : PickedDraws) (heard : ℕ → Heard) where
  abbrev start : NodeState
  start = node_start set (empty_queue room) draws

  holds_none : (t : ℕ) → HoldsNone (node_at start (without_offers heard) t)
  unfolding node_at
  holds_none zero = record {
    state = first_waits (is_out set.control.ids) (coord set.control);
    x = quiet;
    low = tt;
    signal = record { past = start_history; tx = refl; frameless = record { rests = refl; none = refl; line = refl; path = refl } };
  }
  holds_none (suc t) =
      let n : NodeState = node_at start (without_offers heard) t in
      hears_on (node_drive n).0 (heard t) (drives_beacon n (holds_none t)).left

pub frameless_nodes_beacon : FramelessNodesBeacon
frameless_nodes_beacon set room draws heard t q e =
    let d = drives_beacon (node_at (node_start set (empty_queue room) draws) (without_offers heard) t) (holds_none set room draws heard t) in
    beacon_symbol d.y d.past q (sym d.quarter ∙ e)
