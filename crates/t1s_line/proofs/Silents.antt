-- A node that hasn't the ID 0 and that has no frame never drives, whatever it hears.
use Rattle.std.proofs.Common.{ℕ, zero, suc, ◌+◌, ◌-◌, Bool, true, false, cond, eqb, leb, refl, List, [], Some, None, ◌∙◌, ap, ◌≡◌, inl, inr}
use Rattle.std.specs.Prelude.{slice_get, ◌&&◌, not}
use Rattle.std.proofs.lemmas.Bool.{cases_lt}
use Rattle.t1s_base.specs.NodeIds.{has_id}
use Rattle.t1s_symbols.specs.declared.Heard.{Heard}
use Rattle.t1s_world.specs.World.{heard_at}
use Rattle.t1s_world.proofs.ListLemmas.{slice_get-map}
use Rattle.t1s_world.proofs.WorldLemmas.{past-zero, kept_next, driven_is}
use Rattle.t1s_pcs_tx.specs.declared.TxCmd.{TxCmd}
use Rattle.t1s_pcs_tx.specs.declared.TxCmd.TheVariants.{None as NoCmd}
use Rattle.t1s_pcs_tx.specs.State.{Stage, Quiet, TxState}
use Rattle.t1s_pcs_tx.specs.TransmitTable.{transmit_step, turn_to}
use Rattle.plca_control.specs.declared.ControlSet.{ControlSet}
use Rattle.plca_control.specs.declared.ControlIn.{ControlIn}
use Rattle.plca_control.specs.declared.State.{State}
use Rattle.plca_control.specs.declared.State.TheVariants.{Disabled, Recover, Resync, Early, Beacon, Syncing, WaitTo, Receive, Commit, Transmit, Burst, Drain}
use Rattle.plca_control.specs.State.{ControlState}
use Rattle.plca_control.specs.ControlTable.{control_row, coord, is_out, mine, reach, is_beacon}
use Rattle.t1s_node.specs.Node.{NodeState, reading_of, node_drive}
use Rattle.t1s_script.specs.declared.script.Script.{Script}
use Rattle.t1s_script.specs.declared.script.NodeLine.{NodeLine}
use Rattle.t1s_script.specs.Taps.{taps_of}
use Rattle.t1s_line.specs.declared.track.Track.{Track}
use Rattle.t1s_line.specs.Track.{drive_track, hear_track}
use Rattle.t1s_line.specs.World.{machine_of, world, first_track, first_tracks, driven_in}
use Rattle.t1s_line.proofs.HeardTicks.{drive_before, drive_started, hear_before, hear_started}
use Rattle.t1s_line.proofs.WithoutActs.{tick_alone, quarter_alone}
use Rattle.t1s_line.proofs.Frameless.{never_and, IsFrameless, DrivesTo, drives_to, given, told_alone, told_control, quiet_told}

-- the states of such a node's control
abbrev pub is_silent : State → Bool
is_silent Disabled = true
is_silent (Recover q) = false
is_silent Resync = true
is_silent Early = true
is_silent (Beacon n) = false
is_silent Syncing = true
is_silent (WaitTo c n) = true
is_silent (Receive c) = true
is_silent (Commit c n b) = false
is_silent (Transmit c b) = false
is_silent (Burst c n b) = false
is_silent (Drain c) = true

pub record IsSilent (n : NodeState) : Type 0 where
  pub no_zero : coord n.core.control.set ≡ false
  pub state : is_silent n.core.control.state ≡ true
  pub quiet : n.core.tx.stage ≡ Quiet
  pub frameless : IsFrameless n.core

record StaysSilent (r : State × TxCmd) : Type 0 where
  pub state : is_silent r.0 ≡ true
  pub cmd : r.1 ≡ NoCmd

still : (x : State) → is_silent x ≡ true → StaysSilent (x, NoCmd)
still x e = record { state = e; cmd = refl }

-- whichever way a choice goes
either : (b : Bool) (x y : State × TxCmd) → StaysSilent x → StaysSilent y → StaysSilent (cond b x y)
either true x y h k = h
either false x y h k = k

unless : (b : Bool) (x y : State × TxCmd) → b ≡ false → StaysSilent y → StaysSilent (cond b x y)
unless true x y e h = cc
unless false x y e h = h

reach_silent : (s : ControlSet) (c : ℕ) → coord s ≡ false → StaysSilent (reach s false c)
reach_silent s c h =
    let lead : (coord s && leb s.count c) ≡ false = rw h refl in
    unless (coord s && leb s.count c) _ _ lead
    (unless (mine s c && false) _ _ (never_and (mine s c) false refl)
    (either (not (coord s) && leb 255 c) _ _ (still Resync refl) (still (WaitTo c s.to) refl)))

row_silent : (s : ControlSet) (state : State) (i : ControlIn) → coord s ≡ false → i.ready ≡ false → is_silent state ≡ true → StaysSilent (control_row s state i)
row_silent s state i h none e = go state e (let P : Bool → Type 0 = λ b. (c : ℕ) → StaysSilent (reach s b c) in rw none (λ c. reach_silent s c h))
  where
    go : (x : State) → is_silent x ≡ true → ((c : ℕ) → StaysSilent (reach s i.ready c)) → StaysSilent (control_row s x i)
    go Disabled e r = still Disabled refl
    go (Recover q) e r = cc
    go Resync e r = either i.crs _ _ (still Early refl) (still Resync refl)
    go Early e r = either i.crs _ _ (still Early refl) (either (is_beacon i.class) _ _ (r 0) (still Resync refl))
    go (Beacon n) e r = cc
    go Syncing e r = either i.crs _ _ (still Syncing refl) (r 0)
    go (WaitTo c n) e r = either i.crs _ _ (still (Receive c) refl) (either (eqb n 1) _ _ (r (c + 1)) (still (WaitTo c (n - 1)) refl))
    go (Receive c) e r =
        either i.crs _ _ (still (Receive c) refl)
        (either (is_beacon i.class && not (coord s)) _ _ (r 0)
        (unless (is_beacon i.class && coord s) _ _ (never_and (is_beacon i.class) (coord s) h) (r (c + 1))))
    go (Commit c n b) e r = cc
    go (Transmit c b) e r = cc
    go (Burst c n b) e r = cc
    go (Drain c) e r = either i.crs _ _ (still (Drain c) refl) (r (c + 1))

-- its drive phase leaves it silent, and drives nothing
record DrivesNothing (n : NodeState) : Type 0 where
  pub silent : IsSilent (node_drive n).0
  pub quarter : (node_drive n).1.quarter ≡ None

quiet_stays : (stage : Stage) (part : ℕ) (past : List Bool) (cmd : TxCmd) → stage ≡ Quiet → cmd ≡ NoCmd → transmit_step (record { stage = stage; part = part; past = past }) (told_alone cmd) [] ≡ turn_to (record { stage = Quiet; part = 0; past = past }) []
quiet_stays stage part past cmd e none = rw (e, none) (quiet_told part past NoCmd)

driven_silent : (n : NodeState) → IsSilent n → DrivesNothing n
driven_silent n h =
    let stays = row_silent n.core.control.set n.core.control.state (told_control (reading_of n) n.core) h.no_zero refl h.state in
    let x : TxState = record { stage = Quiet; part = 0; past = n.core.tx.past } in
    let d : DrivesTo (reading_of n) n.core x = drives_to (reading_of n) n.core x h.frameless (quiet_stays n.core.tx.stage n.core.tx.part n.core.tx.past (given (reading_of n) n.core).1.cmd h.quiet stays.cmd) in
    record {
      silent = record {
        no_zero = rw d.control h.no_zero;
        state = ap (λ (k : ControlState). is_silent k.state) d.control ∙ stays.state;
        quiet = ap (λ (t : TxState). t.stage) d.tx;
        frameless = d.frameless;
      };
      quarter = d.quarter;
    }

-- the same of a node that may not have started
record IdleTick (t : ℕ) (k : Track) : Type 0 where
  pub silent : IsSilent (drive_track t k).0.node
  pub quarter : (drive_track t k).1.quarter ≡ None

drive_silent : (t : ℕ) (k : Track) → IsSilent k.node → IdleTick t k
drive_silent t k h = elim (cases_lt t k.start) [
  | inl lt ↦ record { silent = rw (drive_before t k lt) h; quarter = rw (drive_before t k lt) refl }
  | inr ge ↦
      let d = driven_silent k.node h in
      record { silent = rw (drive_started t k ge) d.silent; quarter = rw (drive_started t k ge) d.quarter }
]

hear_silent : (t : ℕ) (x : Heard) (k : Track) → IsSilent k.node → IsSilent (hear_track t x k).0.node
hear_silent t x k h = elim (cases_lt t k.start) [
  | inl lt ↦ rw (hear_before t x k lt) h
  | inr ge ↦ rw (hear_started t x k ge) (record { no_zero = h.no_zero; state = h.state; quiet = h.quiet; frameless = h.frameless })
]

first_silent : (a b : Bool) → b ≡ false → is_silent (cond a Disabled (cond b (Recover 0) Resync)) ≡ true
first_silent true b e = refl
first_silent false true e = cc
first_silent false false e = refl

-- a node holds no frame at its start
pub first_frameless : (s : Script) (line : NodeLine) → IsFrameless (first_track s line).node.core
first_frameless s line = record { rests = refl; none = refl; line = refl; path = refl }

module _ (s : Script) (none : s.acts ≡ []) where
  -- such a node is silent at each tick
  silent_at : (t i : ℕ) (line : NodeLine) → slice_get s.nodes i ≡ Some line → has_id line.ids 0 ≡ false → (k : Track) × (slice_get (world s t).nodes i ≡ Some k) × IsSilent k.node
  silent_at zero i line e h =
      let start = past-zero (machine_of s) (taps_of s) (first_tracks s) in
      (first_track s line, rw start (slice_get-map (first_track s) s.nodes i line e), record { no_zero = h; state = first_silent (is_out line.ids) (has_id line.ids 0) h; quiet = refl; frameless = first_frameless s line })
  silent_at (suc t) i line e h =
      let (k, at, silent) = silent_at t i line e h in
      let heard : Heard = heard_at (machine_of s) (taps_of s) (first_tracks s) t i in
      ((hear_track t heard (drive_track t k).0).0, kept_next (machine_of s) (taps_of s) (first_tracks s) t i k at ∙ ap Some (tick_alone s none t heard k), hear_silent t heard (drive_track t k).0 (drive_silent t k silent).silent)

  -- and so it never drives
  pub silent_drives_none : (t i : ℕ) (line : NodeLine) → slice_get s.nodes i ≡ Some line → has_id line.ids 0 ≡ false → driven_in s i t ≡ None
  silent_drives_none t i line e h =
      let (k, at, silent) = silent_at t i line e h in
      driven_is (machine_of s) (taps_of s) (first_tracks s) t i k at ∙ (quarter_alone s none t k ∙ (drive_silent t k silent).quarter)
