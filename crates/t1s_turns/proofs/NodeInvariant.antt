-- One tick of a node over waves: what it keeps is again what the waves say.
use Rattle.std.proofs.Common.{◌≡◌, ℕ, ◌+◌, ◌<◌, ◌≤◌, ◌⊎◌, inl, inr, Bool, true, false, ◌&&◌, ◌||◌, nat_lt, List, [], ◌∷◌, refl, sym, ◌∙◌, ap, subst, arith, rules}
use Rattle.std.specs.List.{All}
use Rattle.std.specs.Prelude.{is_some}
use Rattle.std.proofs.lemmas.List.Elements.{All-head, All-tail}
use Rattle.std.proofs.lemmas.Bool.{cases_Bool, false≢true}
use Rattle.std.proofs.lemmas.Bool.Decides.{nat_tests}
use Rattle.t1s_frame.specs.Frame.{IsFrame}
use Rattle.t1s_symbols.specs.declared.Heard.{Heard}
use Rattle.t1s_ring.specs.declared.queued.Queued.{Queued}
use Rattle.t1s_ring.specs.Queue.{Queue}
use Rattle.t1s_pcs_tx.specs.declared.TxCmd.{TxCmd}
use Rattle.t1s_pcs_tx.specs.State.{Stage, Committing}
use Rattle.plca_control.specs.declared.ControlSet.{ControlSet}
use Rattle.plca_control.specs.declared.ControlIn.{ControlIn}
use Rattle.plca_control.specs.declared.State.{State}
use Rattle.plca_control.specs.declared.StatusState.{StatusState}
use Rattle.plca_control.specs.declared.StatusState.TheVariants.{Inactive, Active, Hysteresis}
use Rattle.plca_control.specs.ControlTable.{mine, control_row, is_active}
use Rattle.plca_control.specs.StatusTable.{status_step, status_is_ok}
use Rattle.plca_data.specs.declared.data_path.State.{State as PathState}
use Rattle.plca_data.specs.DataPathTable.{ready, begun, ended, bad}
use Rattle.t1s_mac.specs.PickedDraws.{picked_answer, picked_after}
use Rattle.t1s_mac.specs.State.{Phase}
use Rattle.t1s_mac.specs.declared.deference.Deference.{Deference}
use Rattle.t1s_mac.specs.declared.picked_draws.PickedDraws.{PickedDraws}
use Rattle.t1s_node.specs.declared.settings.NodeSet.{NodeSet}
use Rattle.t1s_node.specs.Core.{CoreDrive, core_drive, control_in}
use Rattle.t1s_node.specs.Node.{NodeState, IsNodeSet, node_after_offer, reading_of, node_drive, node_hear, is_heard}
use Rattle.t1s_node.specs.NodeRuns.{node_after_offers}
use Rattle.t1s_node.specs.Runs.{DrawsAreBounded}
use Rattle.t1s_node.proofs.CoreSteps.{Stands, active_step, asleep_step, offered_stands}
use Rattle.t1s_node.proofs.JointPlaces.{Place, Asleep, Joint, asleep, idles, holds, collides, jams, delays, pends, waits as opens_waits, rests_in, before, fed, given as all_given, ends as is_ending, closes as is_closing, away, row as in_row, even_away, odd_away, even_row, odd_row, Opening, opens, gap}
use Rattle.t1s_node.proofs.NoPiece.{Free, quiet as free_quiet, beacons as free_beacons, commits as free_commits}
use Rattle.t1s_node.proofs.OwnDrives.{Late}
use Rattle.t1s_node.proofs.View.{View, InCommit, InPause}
use Rattle.t1s_world.specs.Waves.{IsCycleSettings, Wave, AreWaves, arrived, sounds_in}
use Rattle.t1s_world.proofs.ArrivedWaves.{are_apart}
use Rattle.t1s_turns.specs.CarrierOverWaves.{CarrierOverWaves}
use Rattle.t1s_turns.specs.ReceiverOverWaves.{ReceiverOverWaves, HeardOverWaves, nobody, drives, rests, theirs}
use Rattle.t1s_turns.specs.ControlOverWaves.{ControlOverWaves}
use Rattle.t1s_turns.specs.NodeOverWaves.{cycle_of, HasLowIds}
use Rattle.t1s_turns.proofs.CarrierSteps.{carrier_next}
use Rattle.t1s_turns.proofs.ReceiverSteps.{receiver_next}
use Rattle.t1s_turns.proofs.ControlNext.{control_kept}
use Rattle.t1s_turns.proofs.ControlTurns.{drive_turn, active_stays}
use Rattle.t1s_turns.proofs.DriveTurns.{DriveTurn}
use Rattle.t1s_turns.proofs.RunTurns.{SendsRun, RunPlace}

-- ---- what the place of a node says of its own opportunity

free_commits_only : (y part r : ℕ) (stage : Stage) → Free stage part r → Late y stage → stage ≡ Committing
free_commits_only y part r _ free_quiet late = elim late [ ]
free_commits_only y part r _ (free_beacons e) late = elim late [ ]
free_commits_only y part r _ (free_commits e) late = refl

opening_some : (m : ℕ) (d : Deference) → Opening m d → 1 ≤ m
opening_some _ _ opens = omega arith
opening_some m _ (gap e some few) = omega (arith, e)

commits_there : (place : Place) (v : View) (phase : Phase) (q : Queue) (d : Deference) (a : ℕ) (stage : Stage) (part : ℕ) (path : PathState) (line : List ℕ) (y m : ℕ)
    → Joint place v phase q d a stage part path line → Late y stage → v ≡ InCommit m → begun path ≡ false → (1 ≤ m) × (stage ≡ Committing)
commits_there _ _ phase q _ _ _ part _ _ y m (asleep resting) late e none = absurd (cc)
commits_there _ _ phase q d _ stage part _ _ y m (idles away resting free) late e none = absurd (cc)
commits_there _ _ phase q d _ stage part _ _ y m (idles (in_row few) resting free) late e none = absurd (cc)
commits_there _ _ _ q _ _ stage part _ line y m (holds heads early quarter free even_away feeds) late e none = absurd (cc)
commits_there _ _ _ q _ _ stage part _ line y m (holds heads early quarter free (odd_away x) feeds) late e none = absurd (cc)
commits_there _ _ _ q _ _ stage part _ line y m (holds heads early quarter free (even_row k x z) feeds) late e none = absurd (cc)
commits_there _ _ _ q _ _ stage part _ line y m (holds heads early quarter free (odd_row k l x z u w) feeds) late e none = absurd (cc)
commits_there _ _ _ q _ _ stage part _ _ y m (collides away heads within quarter free) late e none = absurd (cc)
commits_there _ _ _ q _ _ stage part _ _ y m (collides (in_row few) heads within quarter free) late e none = absurd (cc)
commits_there _ _ _ q _ _ stage part _ _ y m (jams away heads nibble quarter free) late e none = absurd (cc)
commits_there _ _ _ q _ _ stage part _ _ y m (jams (in_row few) heads nibble quarter free) late e none = absurd (cc)
commits_there _ _ phase q _ _ stage part _ _ y m (delays away heads least back free) late e none = absurd (cc)
commits_there _ _ phase q _ _ stage part _ _ y m (delays (in_row few) heads least back free) late e none = absurd (cc)
commits_there _ _ phase q _ _ stage part _ _ y m (pends away heads back free) late e none = absurd (cc)
commits_there _ _ phase q _ _ stage part _ _ y m (pends (in_row few) heads back free) late e none = absurd (cc)
commits_there _ _ _ q d _ stage part _ _ y m (opens_waits {n = n} {r = r} opening heads free) late e none =
    let some = opening_some n d opening in
    let same : n ≡ m = cc in
    (omega (arith, some, same), free_commits_only y part r stage free late)
commits_there _ _ phase q d _ stage part _ _ y m (rests_in resting free) late e none = absurd (cc)
commits_there _ v _ q _ a stage part _ line y m (before own heads tries quarter near free feeds) late e none = absurd (false≢true (sym none))
commits_there _ v _ q _ a stage _ _ line y m (fed own heads tries quarter ahead least most tx feeds) late e none = absurd (false≢true (sym none))
commits_there _ _ phase q _ _ stage _ _ line y m (all_given resting tx feeds ahead past_start) late e none = absurd (false≢true (sym none))
commits_there _ _ phase q _ _ _ _ _ _ y m (is_ending resting few) late e none = absurd (false≢true (sym none))
commits_there _ _ phase q _ _ _ _ _ _ y m (is_closing resting few) late e none = absurd (false≢true (sym none))

pauses_there : (place : Place) (v : View) (phase : Phase) (q : Queue) (d : Deference) (a : ℕ) (stage : Stage) (part : ℕ) (path : PathState) (line : List ℕ) (y m : ℕ)
    → Joint place v phase q d a stage part path line → Late y stage → v ≡ InPause m → begun path ≡ false → stage ≡ Committing
pauses_there _ _ phase q _ _ _ part _ _ y m (asleep resting) late e none = absurd (cc)
pauses_there _ _ phase q d _ stage part _ _ y m (idles away resting free) late e none = absurd (cc)
pauses_there _ _ phase q d _ stage part _ _ y m (idles (in_row few) resting free) late e none = absurd (cc)
pauses_there _ _ _ q _ _ stage part _ line y m (holds heads early quarter free even_away feeds) late e none = absurd (cc)
pauses_there _ _ _ q _ _ stage part _ line y m (holds heads early quarter free (odd_away x) feeds) late e none = absurd (cc)
pauses_there _ _ _ q _ _ stage part _ line y m (holds heads early quarter free (even_row k x z) feeds) late e none = absurd (cc)
pauses_there _ _ _ q _ _ stage part _ line y m (holds heads early quarter free (odd_row k l x z u w) feeds) late e none = absurd (cc)
pauses_there _ _ _ q _ _ stage part _ _ y m (collides away heads within quarter free) late e none = absurd (cc)
pauses_there _ _ _ q _ _ stage part _ _ y m (collides (in_row few) heads within quarter free) late e none = absurd (cc)
pauses_there _ _ _ q _ _ stage part _ _ y m (jams away heads nibble quarter free) late e none = absurd (cc)
pauses_there _ _ _ q _ _ stage part _ _ y m (jams (in_row few) heads nibble quarter free) late e none = absurd (cc)
pauses_there _ _ phase q _ _ stage part _ _ y m (delays away heads least back free) late e none = absurd (cc)
pauses_there _ _ phase q _ _ stage part _ _ y m (delays (in_row few) heads least back free) late e none = absurd (cc)
pauses_there _ _ phase q _ _ stage part _ _ y m (pends away heads back free) late e none = absurd (cc)
pauses_there _ _ phase q _ _ stage part _ _ y m (pends (in_row few) heads back free) late e none = absurd (cc)
pauses_there _ _ _ q d _ stage part _ _ y m (opens_waits opening heads free) late e none = absurd (cc)
pauses_there _ _ phase q d _ stage part _ _ y m (rests_in {r = r} resting free) late e none = free_commits_only y part r stage free late
pauses_there _ v _ q _ a stage part _ line y m (before own heads tries quarter near free feeds) late e none = absurd (false≢true (sym none))
pauses_there _ v _ q _ a stage _ _ line y m (fed own heads tries quarter ahead least most tx feeds) late e none = absurd (false≢true (sym none))
pauses_there _ _ phase q _ _ stage _ _ line y m (all_given resting tx feeds ahead past_start) late e none = absurd (false≢true (sym none))
pauses_there _ _ phase q _ _ _ _ _ _ y m (is_ending resting few) late e none = absurd (false≢true (sym none))
pauses_there _ _ phase q _ _ _ _ _ _ y m (is_closing resting few) late e none = absurd (false≢true (sym none))

-- before the node takes part no frame is ready
asleep_unready : (v : View) (phase : Phase) (q : Queue) (d : Deference) (a : ℕ) (stage : Stage) (part : ℕ) (path : PathState) (line : List ℕ) → Joint Asleep v phase q d a stage part path line → ready path ≡ false
asleep_unready _ phase q _ _ _ part _ _ (asleep resting) = refl

-- ---- what is heard, as carrier and hit take it

energy_is : (t : ℕ) (xs : List Wave) (h : Heard) (own : Bool) → HeardOverWaves t xs h own → (own || is_heard h) ≡ sounds_in t xs
energy_is t _ _ _ nobody = refl
energy_is t _ _ _ (drives {w = w} own lt) = let b : nat_lt t w.till ≡ true = search (rules, nat_tests) in sym b
energy_is t _ _ _ (rests {w = w} over) = let b : nat_lt t w.till ≡ false = search (rules, nat_tests) in sym b
energy_is t _ _ _ (theirs {w = w} k other lt at spells) = let b : nat_lt t w.till ≡ true = search (rules, nat_tests) in sym b

nothing_met : (t : ℕ) (xs : List Wave) (h : Heard) (own : Bool) → HeardOverWaves t xs h own → (own && is_heard h) ≡ false
nothing_met t _ _ _ nobody = refl
nothing_met t _ _ _ (drives own lt) = refl
nothing_met t _ _ _ (rests over) = refl
nothing_met t _ _ _ (theirs k other lt at spells) = refl

-- the status is OK where control takes part, as long as it goes on to do so
pub status_next : (status : StatusState) (was b : Bool) → status_is_ok status ≡ was → (was ≡ true → b ≡ true) → status_is_ok (status_step status b) ≡ b
status_next Inactive was true ok stays = refl
status_next Inactive was false ok stays = refl
status_next Active was true ok stays = refl
status_next Active was false ok stays = absurd (false≢true (stays (sym ok)))
status_next (Hysteresis k) was true ok stays = refl
status_next (Hysteresis k) was false ok stays = absurd (false≢true (stays (sym ok)))

module _ (set : NodeSet) (is_set : IsNodeSet set) (low_ids : HasLowIds set) (begin : ℕ) (ws : List Wave) where
  pub is_cycle : IsCycleSettings (cycle_of set)
  is_cycle = record {
    low_ids = low_ids;
    count_high = is_set.control.count_high;
    rise_low = is_set.rise_low;
    rise_high = is_set.rise_high;
    fall_low = is_set.fall_low;
    to_high = omega (arith, is_set.rise_high, is_set.control.to_low);
  }

  -- what the node keeps as tick t of the world finds it
  pub record NodeInvariant (t : ℕ) (x : NodeState) : Type 0 where
    pub set_is : x.core.control.set ≡ set.control
    pub rise_is : x.rise ≡ set.rise
    pub fall_is : x.fall ≡ set.fall
    pub carrier : CarrierOverWaves (cycle_of set) begin t (arrived t ws) x.carrier
    pub receiver : ReceiverOverWaves (cycle_of set) begin t (arrived t ws) x.receiver.class x.receiver.burst
    pub no_hit : x.hit ≡ false
    pub control : ControlOverWaves SendsRun (cycle_of set) begin t ws x.core.control.state x.core.tx.stage x.core.tx.part
    pub status : status_is_ok x.status ≡ is_active x.core.control.state
    pub place : Place
    pub stands : Stands place x.core
    pub awake : (place ≡ Asleep) ⊎ (is_active x.core.control.state ≡ true)

  kept_offer : (t : ℕ) (x : NodeState) (q : Queued) → IsFrame q.frame → NodeInvariant t x → NodeInvariant t (node_after_offer x q)
  kept_offer t x q frame h = record {
    set_is = h.set_is;
    rise_is = h.rise_is;
    fall_is = h.fall_is;
    carrier = h.carrier;
    receiver = h.receiver;
    no_hit = h.no_hit;
    control = h.control;
    status = h.status;
    place = h.place;
    stands = offered_stands h.place x.core (q ∷ []) (frame, tt) h.stands;
    awake = h.awake;
  }

  pub kept_offers : (t : ℕ) (x : NodeState) (qs : List Queued) → All (λ (q : Queued). IsFrame q.frame) qs → NodeInvariant t x → NodeInvariant t (node_after_offers x qs)
  kept_offers t x [] all h = h
  kept_offers t x (q ∷ qs) all h =
      kept_offers t (node_after_offer x q) qs (All-tail (λ (y : Queued). IsFrame y.frame) q qs all) (kept_offer t x q (All-head (λ (y : Queued). IsFrame y.frame) q qs all) h)

  -- ---- the drive phase of a tick up to `now`, after the offers

  module _ (t now : ℕ) (soon : t ≤ now) (waves : AreWaves (cycle_of set) begin now ws) (x : NodeState) (h : NodeInvariant t x) where
    abbrev input : ControlIn
    input = control_in (reading_of x) x.core

    abbrev row : State × TxCmd
    row = control_row x.core.control.set x.core.control.state input

    abbrev pub drive : CoreDrive PickedDraws
    drive = core_drive picked_answer picked_after (reading_of x) x.core

    run_place : (y e : ℕ) → SendsRun y e x.core.control.state x.core.tx.stage x.core.tx.part → RunPlace input x.core.control.state x.core.tx.stage x.core.tx.part
    run_place y e sends = record {
      counted = h.stands.counted;
      closes = refl;
      commits = λ m view none. commits_there h.place _ _ _ _ _ _ _ _ _ sends.driving.y m h.stands.joint sends.driving.late view none;
      pauses = λ m view none. pauses_there h.place _ _ _ _ _ _ _ _ _ sends.driving.y m h.stands.joint sends.driving.late view none;
    }

    idle : is_active x.core.control.state ≡ false → ready x.core.path ≡ false
    idle off = elim h.awake [
      | inl sleeping ↦ asleep_unready _ _ _ _ _ _ _ _ _ (subst (λ (p : Place). Stands p x.core) sleeping h.stands).joint
      | inr on ↦ absurd (false≢true (sym off ∙ on))
    ]

    same_owns : (y : ℕ) → (cycle_of set).owns y ≡ mine x.core.control.set y
    same_owns y = ap (λ (s : ControlSet). mine s y) (sym h.set_is)

    same_count : x.core.control.set.count ≡ (cycle_of set).count
    same_count = ap (λ (s : ControlSet). s.count) h.set_is

    same_to : x.core.control.set.to ≡ (cycle_of set).to
    same_to = ap (λ (s : ControlSet). s.to) h.set_is

    pub drive_is : DriveTurn SendsRun (cycle_of set) begin t ws (ready x.core.path) drive.core.control.state drive.core.tx.stage drive.core.tx.part drive.quarter
    unfolding core_drive
    drive_is =
        drive_turn x.core.control.set (cycle_of set) is_cycle same_owns same_count same_to begin t now soon ws waves.behind waves.each waves.first waves.alive
        input x.carrier x.receiver.burst refl h.carrier h.receiver x.core.tx.part x.core.tx.past (ended x.core.path) (bad x.core.path) x.core.line
        x.core.control.state x.core.tx.stage idle run_place h.control

    pub active_is : drive.active ≡ is_active drive.core.control.state
    unfolding core_drive
    active_is = refl

    pub set_stays : drive.core.control.set ≡ set.control
    unfolding core_drive
    set_stays = h.set_is

    pub stays_active : is_active x.core.control.state ≡ true → is_active drive.core.control.state ≡ true
    unfolding core_drive
    stays_active on =
        active_stays x.core.control.set (cycle_of set) is_cycle same_owns same_count same_to begin t now soon ws waves.behind waves.each waves.first waves.alive
        input x.carrier x.receiver.burst refl h.carrier h.receiver x.core.tx.part x.core.tx.past (ended x.core.path) (bad x.core.path) x.core.line
        x.core.control.state x.core.tx.stage h.control on

    -- the place after it
    record NextPlace : Type 0 where
      to : Place
      stands : Stands to drive.core
      awake : (to ≡ Asleep) ⊎ (is_active drive.core.control.state ≡ true)

    next_place : DrawsAreBounded picked_answer → NextPlace
    next_place bounded = elim (cases_Bool drive.active) [
      | inl on ↦
          let step = active_step picked_answer picked_after (reading_of x) x.core h.place bounded h.no_hit on h.stands in
          record { to = step.to; stands = step.stands; awake = inr (sym active_is ∙ on) }
      | inr off ↦ elim h.awake [
        | inl sleeping ↦
            let (step, same) = asleep_step picked_answer picked_after (reading_of x) x.core h.no_hit off (subst (λ (p : Place). Stands p x.core) sleeping h.stands) in
            record { to = step.to; stands = step.stands; awake = inl same }
        | inr on ↦ absurd (false≢true (sym off ∙ (active_is ∙ stays_active on)))
      ]
    ]

    -- ---- and its hear phase

    pub kept_next : DrawsAreBounded picked_answer → begin ≤ t → t < now → (heard : Heard) → HeardOverWaves t (arrived (t + 1) ws) heard (is_some drive.quarter)
        → NodeInvariant (t + 1) (node_hear (node_drive x).0 heard)
    kept_next bounded started early heard hears =
        let apart = are_apart (cycle_of set) is_set.fall_low ws waves.behind in
        let place = next_place bounded in
        record {
          set_is = set_stays;
          rise_is = h.rise_is;
          fall_is = h.fall_is;
          carrier = rw (energy_is t (arrived (t + 1) ws) heard (is_some drive.quarter) hears, h.rise_is, h.fall_is)
              (carrier_next (cycle_of set) is_cycle begin t started ws x.carrier apart h.carrier);
          receiver = receiver_next (cycle_of set) is_cycle begin t started x.receiver ws heard (is_some drive.quarter) apart h.receiver hears;
          no_hit = nothing_met t (arrived (t + 1) ws) heard (is_some drive.quarter) hears;
          control = control_kept SendsRun (cycle_of set) is_cycle begin t now started early ws waves.behind waves.each waves.first (ready x.core.path) heard
              drive.core.control.state drive.core.tx.stage drive.core.tx.part drive.quarter drive_is hears;
          status = status_next x.status (is_active x.core.control.state) drive.active h.status (λ on. active_is ∙ stays_active on) ∙ active_is;
          place = place.to;
          stands = place.stands;
          awake = place.awake;
        }
