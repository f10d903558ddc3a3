-- A tick of silence of a node that is still, machine by machine: it is calm exactly where the step of each machine is.
use Rattle.std.proofs.Common.{◌≡◌, ℕ, zero, suc, ◌+◌, ◌-◌, ◌≤◌, ◌==◌, Bool, true, false, if◌then◌else◌, nat_lt, List, [], ◌∷◌, length, None, refl, arith, rules, ap, sym, subst, ◌∙◌}
use Rattle.std.proofs.lemmas.Bool.{cond_both}
use Rattle.t1s_symbols.specs.declared.Class.{Class}
use Rattle.t1s_symbols.specs.CalmSteps.{AreCalm}
use Rattle.t1s_ring.specs.Queue.{Queue}
use Rattle.t1s_pcs_tx.specs.declared.TxCmd.{TxCmd}
use Rattle.t1s_pcs_tx.specs.declared.TxCmd.TheVariants.{None as NoCmd, Beacon as BeaconCmd, Commit as CommitCmd}
use Rattle.t1s_pcs_tx.specs.declared.TxReport.TheVariants.{Quiet as QuietReport}
use Rattle.t1s_pcs_tx.specs.State.{Quiet, quarter_of}
use Rattle.t1s_pcs_tx.specs.TransmitTable.{transmit_step, command_choice}
use Rattle.t1s_pcs_rx.specs.declared.reader.Burst.TheVariants.{Outside}
use Rattle.t1s_pcs_rx.specs.ReceiveTable.{receive_step}
use Rattle.plca_control.specs.declared.ControlIn.{ControlIn}
use Rattle.plca_control.specs.declared.State.{State as ControlPhase}
use Rattle.plca_control.specs.declared.StatusState.{StatusState}
use Rattle.plca_control.specs.State.{ControlState}
use Rattle.plca_control.specs.ControlTable.{control_step, is_active, is_own}
use Rattle.plca_control.specs.StatusTable.{status_step}
use Rattle.plca_control.specs.CalmControl.{state_uncounted, control_uncounted, control_after, IsCalmControl, status_uncounted, IsCalmStatus}
use Rattle.plca_data.specs.declared.DataIn.{DataIn}
use Rattle.plca_data.specs.declared.MacOut.{MacOut}
use Rattle.plca_data.specs.declared.MacOut.TheVariants.{Nothing as NoNibble}
use Rattle.plca_data.specs.declared.data_path.State.{State}
use Rattle.plca_data.specs.declared.data_path.State.TheVariants.{Silent, Idle, Hold, Collide, DelayPending, Pending, WaitMac, Transmit}
use Rattle.plca_data.specs.DataPathTable.{data_path_step, carrier, collision, ready, begun}
use Rattle.plca_data.specs.CalmData.{uncounted, IsCalmData}
use Rattle.t1s_mac.specs.declared.deference.Deference.{Deference}
use Rattle.t1s_mac.specs.declared.outcome.MacNote.TheVariants.{None as NoNote}
use Rattle.t1s_mac.specs.declared.picked_draws.PickedDraws.{PickedDraws}
use Rattle.t1s_mac.specs.PickedDraws.{picked_answer, picked_after}
use Rattle.t1s_mac.specs.DeferenceTable.{may_start}
use Rattle.t1s_mac.specs.MacTable.{Row, row_of, deferring, mac_step}
use Rattle.t1s_mac.specs.State.{Phase, Resting, Deferring, Waiting, Sending, Jamming, MacState, is_sending}
use Rattle.t1s_mac.specs.CalmMac.{phase_uncounted, calm_ticks, mac_uncounted, mac_after, IsCalmMac}
use Rattle.t1s_mac.proofs.CalmTicks.{mac_calm_ticks}
use Rattle.t1s_node.specs.CarrierTable.{carrier_start}
use Rattle.t1s_node.specs.Core.{core_drive}
use Rattle.t1s_node.specs.Node.{NodeState, node_drive}
use Rattle.t1s_node.specs.CalmNode.{node_after_silence, node_uncounted, IsAtRest, IsCalmNode}

-- what a calm tick leaves as it is, beside what its machines keep: the ticks of the carrier reading, the scrambler, and
-- the receiver
pub record Setting : Type 0 where
  pub rise : ℕ
  pub fall : ℕ
  pub past : List Bool
  pub class : Class
  pub history : List Bool
  pub nibbles : List ℕ

-- what its machines keep: control, the status, the MAC, and the data path with its line
pub record Parts : Type 0 where
  pub control : ControlState
  pub status : StatusState
  pub mac : MacState PickedDraws
  pub path : State × List ℕ

-- a node that is still
abbrev pub still_node : Setting → Parts → NodeState
still_node b p = record {
  rise = b.rise;
  fall = b.fall;
  core = record {
    control = p.control;
    mac = p.mac;
    tx = record { stage = Quiet; part = 0; past = b.past };
    path = p.path.0;
    line = p.path.1;
  };
  status = p.status;
  carrier = carrier_start;
  receiver = record { class = b.class; burst = Outside; history = b.history; nibbles = b.nibbles };
  hit = false;
  drove = false;
}

-- what control is told in it
abbrev pub told_control : Class → State → ControlIn
told_control class st = record { crs = false; class = class; ready = ready st; begun = begun st; tx = QuietReport }

-- what the data path is told, by what control gives out and the MAC
abbrev pub told_by : Class → Bool → Bool → MacOut → DataIn
told_by class active own out =
    record { active = active; own = own; closed = false; crs = false; class = class; hit = false; mac = out }

-- and in a calm tick, by the control that it finds
abbrev pub told_path : Class → ControlState → DataIn
told_path class c = told_by class (is_active c.state) (is_own c.state) NoNibble

abbrev pub mac_next : State → MacState PickedDraws → MacState PickedDraws
mac_next st m = mac_after picked_answer picked_after (carrier st false) (collision st) m

abbrev pub IsCalmMacAt : State → MacState PickedDraws → Type 0
IsCalmMacAt st m = IsCalmMac picked_answer picked_after (carrier st false) (collision st) m

-- ---- what a count does not tell

active_uncounted : (st : ControlPhase) → is_active (state_uncounted st) ≡ is_active st
active_uncounted _ = search rules

own_uncounted : (st : ControlPhase) → is_own (state_uncounted st) ≡ is_own st
own_uncounted _ = search rules

sending_uncounted : (phase : Phase) → is_sending (phase_uncounted phase) ≡ is_sending phase
sending_uncounted _ = search rules

pub active_kept : (c d : ControlState) → control_uncounted d ≡ control_uncounted c → is_active d.state ≡ is_active c.state
active_kept c d same =
    sym (active_uncounted d.state) ∙ (ap (λ (x : ControlState). is_active x.state) same ∙ active_uncounted c.state)

pub own_kept : (c d : ControlState) → control_uncounted d ≡ control_uncounted c → is_own d.state ≡ is_own c.state
own_kept c d same = sym (own_uncounted d.state) ∙ (ap (λ (x : ControlState). is_own x.state) same ∙ own_uncounted c.state)

-- ---- the transmitter

-- a transmitter in Quiet that drives nothing has no command
no_command : (cmd : TxCmd) (past : List Bool) (line : List ℕ)
    → quarter_of (record { stage = (command_choice cmd past line).stage; part = 0; past = (command_choice cmd past line).past }) ≡ None
    → cmd ≡ NoCmd
no_command NoCmd past line e = refl
no_command BeaconCmd past line e = absurd (cc)
no_command CommitCmd past (x ∷ rest) e = absurd (cc)
no_command CommitCmd past [] e = absurd (cc)

-- ---- the MAC

-- a row that keeps the name of the state gives out nothing and tells of no frame
abbrev Rests : Phase → Row → Type 0
Rests phase left = phase_uncounted left.phase ≡ phase_uncounted phase → (left.out ≡ NoNibble) × (left.note ≡ NoNote)

module _ (q : Queue) (attempts : ℕ) where
  deferring_rests : (may : Bool) → Rests Deferring (deferring q attempts may)
  deferring_rests true same = absurd (cc)
  deferring_rests false same = (refl, refl)

  resting_leaves : (may : Bool) → Rests Resting (deferring q attempts may)
  resting_leaves true same = absurd (cc)
  resting_leaves false same = absurd (cc)

  waiting_leaves : (left : ℕ) (may : Bool) → Rests (Waiting left) (deferring q attempts may)
  waiting_leaves left true same = absurd (cc)
  waiting_leaves left false same = absurd (cc)

  mac_rests : (phase : Phase) (may collided : Bool) (drawn : ℕ) → is_sending phase ≡ false
      → Rests phase (row_of phase q attempts may collided drawn)
  mac_rests Resting may collided drawn none =
      cond_both (nat_lt 0 (length q.frames)) _ _ (Rests Resting) (λ _. resting_leaves may) (λ _ same. (refl, refl))
  mac_rests Deferring may collided drawn none = deferring_rests may
  mac_rests (Waiting left) may collided drawn none =
      cond_both (left == 0) _ _ (Rests (Waiting left)) (λ _. waiting_leaves left may) (λ _ same. (refl, refl))
  mac_rests (Sending nibble quarter hit) may collided drawn none = absurd (cc)
  mac_rests (Jamming nibble quarter) may collided drawn none = absurd (cc)

lasts_no_sending : (phase : Phase) (q : Queue) (d : Deference) (shown : Bool) → 1 ≤ calm_ticks phase q d shown 1 → is_sending phase ≡ false
lasts_no_sending Resting q d shown some = refl
lasts_no_sending Deferring q d shown some = refl
lasts_no_sending (Waiting left) q d shown some = refl
lasts_no_sending (Sending nibble quarter hit) q d shown some = absurd (omega arith)
lasts_no_sending (Jamming nibble quarter) q d shown some = absurd (omega arith)

once : {A : Type 0} (step : A → A) (Calm : A → Type 0) (a : A) → Calm a → AreCalm step Calm a 1
once step Calm a calm zero below = calm
once step Calm a calm (suc k) below = absurd (omega arith)

-- a MAC that is calm neither sends nor jams
calm_not_sending : (st : State) (m : MacState PickedDraws) → IsCalmMacAt st m → is_sending m.phase ≡ false
calm_not_sending st m calm =
    lasts_no_sending m.phase m.queue m.deference (carrier st false)
    (mac_calm_ticks picked_answer picked_after (carrier st false) (collision st) m 1 (once (mac_next st) (IsCalmMacAt st) m calm))

-- ---- the data path

-- where the MAC gives out nothing, a tick that keeps the name of the state over one line is calm, and leaves the same
-- state over each other line
abbrev PathRests : State → Type 0
PathRests st = (class : Class) (active own : Bool) (line : List ℕ)
    → uncounted (data_path_step st (told_by class active own NoNibble) line).0 ≡ uncounted st
    → (any : List ℕ) → ((data_path_step st (told_by class active own NoNibble) any).1 ≡ any)
    × (uncounted (data_path_step st (told_by class active own NoNibble) any).0 ≡ uncounted st)
    × ((data_path_step st (told_by class active own NoNibble) any).0 ≡ (data_path_step st (told_by class active own NoNibble) line).0)

delay_rests : (last : Bool) (n : ℕ) (line any : List ℕ) →
    let over : List ℕ → State × List ℕ = λ x. if last then (Pending, x) else (DelayPending n, x) in
    uncounted (over line).0 ≡ DelayPending 0 → ((over any).1 ≡ any) × (uncounted (over any).0 ≡ DelayPending 0) × ((over any).0 ≡ (over line).0)
delay_rests true n line any same = absurd (cc)
delay_rests false n line any same = (refl, refl, refl)

pub path_rests : (st : State) → PathRests st
path_rests Silent class true own line same any = absurd (cc)
path_rests Silent class false own line same any = (refl, refl, refl)
path_rests Idle class true own line same any = (refl, refl, refl)
path_rests Idle class false own line same any = absurd (cc)
path_rests Hold class false own line same any = absurd (cc)
path_rests Hold class true true line same any = absurd (cc)
path_rests Hold class true false line same any = (refl, refl, refl)
path_rests Collide class active own line same any = (refl, refl, refl)
path_rests (DelayPending n) class false own line same any = absurd (cc)
path_rests (DelayPending n) class true own line same any = delay_rests (n == 1) (n - 1) line any same
path_rests Pending class false own line same any = absurd (cc)
path_rests Pending class true true line same any = absurd (cc)
path_rests Pending class true false line same any = (refl, refl, refl)
path_rests WaitMac class true false line same any = absurd (cc)
path_rests WaitMac class false false line same any = absurd (cc)
path_rests WaitMac class active true line same any = (refl, refl, refl)
path_rests (Transmit ended bad) class true false line same any = absurd (cc)
path_rests (Transmit ended bad) class false false line same any = absurd (cc)
path_rests (Transmit ended bad) class active true line same any = (refl, same, refl)

-- ---- the node

-- each machine has a calm step, by what it is told
pub record AllCalm (b : Setting) (p : Parts) : Type 0 where
  pub control : IsCalmControl (told_control b.class p.path.0) p.control
  pub status : IsCalmStatus (is_active p.control.state) p.status
  pub mac : IsCalmMacAt p.path.0 p.mac
  pub path : IsCalmData (told_path b.class p.control) p.path

module _ (b : Setting) (p : Parts) where
  abbrev pub control_left : ControlState
  control_left = control_after (told_control b.class p.path.0) p.control

  abbrev out : MacOut
  out = (mac_step picked_answer picked_after p.mac (carrier p.path.0 false) (collision p.path.0)).1.out

  -- what the machines keep after a tick, by what control gives out in it and the MAC
  abbrev parts_by : Bool → Bool → MacOut → Parts
  parts_by active own given = record {
    control = control_left;
    status = status_step p.status active;
    mac = mac_next p.path.0 p.mac;
    path = data_path_step p.path.0 (told_by b.class active own given) p.path.1;
  }

  -- and after a calm one
  abbrev pub parts_next : Parts
  parts_next = parts_by (is_active p.control.state) (is_own p.control.state) NoNibble

  abbrev pub NoCommand : Type 0
  NoCommand = (control_step p.control (told_control b.class p.path.0)).1.cmd ≡ NoCmd

  quiet_tick : NoCommand
      → node_after_silence (still_node b p) ≡ still_node b (parts_by (is_active control_left.state) (is_own control_left.state) out)
  unfolding node_after_silence core_drive transmit_step receive_step
  quiet_tick none = rw none refl

  drives_none : NoCommand → (node_drive (still_node b p)).1.quarter ≡ None
  unfolding core_drive transmit_step
  drives_none none = rw none refl

  none_driven : (node_drive (still_node b p)).1.quarter ≡ None → NoCommand
  unfolding core_drive transmit_step
  none_driven none = no_command _ b.past p.path.1 none

  -- what control gives out, where the name of its state stays, is what its state tells already
  same_given : control_uncounted control_left ≡ control_uncounted p.control → out ≡ NoNibble
      → parts_by (is_active control_left.state) (is_own control_left.state) out ≡ parts_next
  same_given same none =
      ap (λ (active : Bool). parts_by active (is_own control_left.state) out) (active_kept p.control control_left same)
      ∙ (ap (λ (own : Bool). parts_by (is_active p.control.state) own out) (own_kept p.control control_left same)
      ∙ ap (parts_by (is_active p.control.state) (is_own p.control.state)) none)

  module _ (calm : IsCalmNode (still_node b p)) where
    commands-none : NoCommand
    commands-none = none_driven calm.drives

    left-same : node_uncounted (still_node b (parts_by (is_active control_left.state) (is_own control_left.state) out)) ≡ node_uncounted (still_node b p)
    left-same = subst (λ (n : NodeState). node_uncounted n ≡ node_uncounted (still_node b p)) (quiet_tick commands-none) calm.same

    control-same : control_uncounted control_left ≡ control_uncounted p.control
    control-same = ap (λ (n : NodeState). n.core.control) left-same

    mac-same : mac_uncounted (mac_next p.path.0 p.mac) ≡ mac_uncounted p.mac
    mac-same = ap (λ (n : NodeState). n.core.mac) left-same

    mac-rests : (out ≡ NoNibble) × ((mac_step picked_answer picked_after p.mac (carrier p.path.0 false) (collision p.path.0)).1.note ≡ NoNote)
    mac-rests = mac_rests p.mac.queue p.mac.attempts p.mac.phase (may_start p.mac.deference (carrier p.path.0 false)) (collision p.path.0)
        (picked_answer p.mac.draws (p.mac.attempts + 1)) calm.before.mac (ap (λ (m : MacState PickedDraws). m.phase) mac-same)

    left-next : node_uncounted (still_node b parts_next) ≡ node_uncounted (still_node b p)
    left-next = subst (λ (q : Parts). node_uncounted (still_node b q) ≡ node_uncounted (still_node b p)) (same_given control-same mac-rests.0) left-same

    path-rests : IsCalmData (told_path b.class p.control) p.path
    path-rests any =
        let rests = path_rests p.path.0 b.class (is_active p.control.state) (is_own p.control.state) p.path.1 (ap (λ (n : NodeState). n.core.path) left-next) any in
        (rests.0, rests.1)

    -- in a calm tick of the node each machine has a calm step
    pub calm_apart : AllCalm b p
    calm_apart = record {
      control = (commands-none, control-same);
      status = ap (λ (n : NodeState). n.status) left-next;
      mac = (mac-rests.0, mac-rests.1, mac-same);
      path = path-rests;
    }

  module _ (all : AllCalm b p) where
    -- a tick in which each machine has a calm step leads to what these leave
    pub tick_together : node_after_silence (still_node b p) ≡ still_node b parts_next
    tick_together = quiet_tick all.control.0 ∙ ap (still_node b) (same_given all.control.1 all.mac.0)

    -- a node by what its machines keep
    abbrev kept : ControlState → StatusState → MacState PickedDraws → State → List ℕ → NodeState
    kept c s m st line = still_node b (record { control = c; status = s; mac = m; path = (st, line) })

    next-same : node_uncounted (still_node b parts_next) ≡ node_uncounted (still_node b p)
    next-same =
        ap (λ (c : ControlState). kept c (status_uncounted parts_next.status) (mac_uncounted parts_next.mac) (uncounted parts_next.path.0) parts_next.path.1) all.control.1
        ∙ (ap (λ (s : StatusState). kept (control_uncounted p.control) s (mac_uncounted parts_next.mac) (uncounted parts_next.path.0) parts_next.path.1) all.status
        ∙ (ap (λ (m : MacState PickedDraws). kept (control_uncounted p.control) (status_uncounted p.status) m (uncounted parts_next.path.0) parts_next.path.1) all.mac.2
        ∙ (ap (λ (st : State). kept (control_uncounted p.control) (status_uncounted p.status) (mac_uncounted p.mac) st parts_next.path.1) (all.path p.path.1).1
        ∙ ap (kept (control_uncounted p.control) (status_uncounted p.status) (mac_uncounted p.mac) (uncounted p.path.0)) (all.path p.path.1).0)))

    rests-next : is_sending parts_next.mac.phase ≡ false
    rests-next =
        sym (sending_uncounted parts_next.mac.phase) ∙ (ap (λ (m : MacState PickedDraws). is_sending m.phase) all.mac.2
        ∙ (sending_uncounted p.mac.phase ∙ calm_not_sending p.path.0 p.mac all.mac))

    -- such a tick of the node is calm
    pub calm_together : IsCalmNode (still_node b p)
    calm_together = record {
      drives = drives_none all.control.0;
      before = record { carrier = refl; mac = calm_not_sending p.path.0 p.mac all.mac };
      after = subst IsAtRest (sym tick_together) (record { carrier = refl; mac = rests-next });
      same = subst (λ (n : NodeState). node_uncounted n ≡ node_uncounted (still_node b p)) (sym tick_together) next-same;
    }
