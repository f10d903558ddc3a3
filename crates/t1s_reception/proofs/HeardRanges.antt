-- What the nodes of a script drive and hear is in range: nibbles below 16, and parts below 4.
use Rattle.std.proofs.Common.{◌≡◌, refl, ℕ, zero, suc, ◌+◌, ◌-◌, ◌<◌, inl, inr, Bool, true, false, List, [], ◌∷◌, drop, sym, subst, ◌∙◌, arith, if◌then◌else◌}
use Rattle.std.specs.Prelude.{Option, Some, IfSome, slice_get, nat_lt, ◌==◌, ◌||◌}
use Rattle.std.proofs.lemmas.Bool.{cases_lt, eqb-false}
use Rattle.std.proofs.lemmas.Option.{slice_get_cases}
use Rattle.std.proofs.lemmas.List.{length-map}
use Rattle.t1s_symbols.specs.declared.Heard.{Heard}
use Rattle.t1s_symbols.specs.declared.Heard.TheVariants.{Nothing, Many}
use Rattle.t1s_symbols.specs.declared.Quarter.{Quarter}
use Rattle.t1s_symbols.specs.declared.Symbol.TheVariants.{J, H}
use Rattle.t1s_symbols.specs.Ranges.{IsHeard, IsQuarter}
use Rattle.t1s_scramble.proofs.Nibbles.{scrambled_nibble-below}
use Rattle.t1s_ring.specs.declared.queued.Queued.{Queued}
use Rattle.t1s_pcs_tx.specs.declared.TxCmd.{TxCmd}
use Rattle.t1s_pcs_tx.specs.declared.TxCmd.TheVariants.{None as NoCmd, Beacon as BeaconCmd, Commit as CommitCmd}
use Rattle.t1s_pcs_tx.specs.declared.TxIn.{TxIn}
use Rattle.t1s_pcs_tx.specs.State.{Stage, Quiet, Beaconing, Committing, Starting, Sending, ClosingEnd, ClosingCloser, TxState, quarter_of}
use Rattle.t1s_pcs_tx.specs.TransmitTable.{TxTurn, transmit_step, at_boundary, is_quiet, choice, command_choice, data_choice, choice_after, chosen_turn, turn_to}
use Rattle.t1s_mac.specs.PickedDraws.{picked_answer, picked_after}
use Rattle.t1s_node.specs.Core.{core_drive}
use Rattle.t1s_node.specs.Node.{NodeState, node_drive, reading_of}
use Rattle.t1s_world.specs.World.{past, at_depth, heard_at}
use Rattle.t1s_world.proofs.HearingLemmas.{heard_in_range}
use Rattle.t1s_world.proofs.ListLemmas.{slice_get-map}
use Rattle.t1s_world.proofs.WorldLemmas.{past-zero, kept_next, driven_is, driven_past, at_depth-within, at_depth-before}
use Rattle.t1s_script.specs.declared.script.NodeLine.{NodeLine}
use Rattle.t1s_script.specs.declared.script.Script.{Script}
use Rattle.t1s_script.specs.Taps.{taps_of}
use Rattle.t1s_line.specs.declared.track.Track.{Track}
use Rattle.t1s_line.specs.Acts.{offers_to, is_noisy}
use Rattle.t1s_line.specs.Outcomes.{with_offers}
use Rattle.t1s_line.specs.Track.{track_phases, offer_track, drive_track, hear_track}
use Rattle.t1s_line.specs.World.{machine_of, world, first_track, first_tracks, driven_in, start_of, heard_in}
use Rattle.t1s_line.proofs.HeardTicks.{offer_before, offer_started, drive_before, drive_started, hear_before, hear_started}

-- ---- the transmitter

abbrev StageFits : Stage → Type 0
StageFits Quiet = Unit {0}
StageFits Beaconing = Unit {0}
StageFits Committing = Unit {0}
StageFits (Starting place) = Unit {0}
StageFits (Sending nibble) = nibble < 16
StageFits (ClosingEnd good) = Unit {0}
StageFits (ClosingCloser good) = Unit {0}

record TxFits (s : TxState) : Type 0 where
  stage : StageFits s.stage
  part : s.part < 4

command_fits : (cmd : TxCmd) (past : List Bool) (line : List ℕ) → StageFits (command_choice cmd past line).stage
command_fits NoCmd past line = tt
command_fits BeaconCmd past line = tt
command_fits CommitCmd past [] = tt
command_fits CommitCmd past (x ∷ rest) = tt

data_fits : (past : List Bool) (inp : TxIn) (line : List ℕ) → StageFits (data_choice past inp line).stage
data_fits past inp [] = tt
data_fits past inp (x ∷ rest) = scrambled_nibble-below past x

choice_fits : (stage : Stage) (past : List Bool) (inp : TxIn) (line : List ℕ) → StageFits (choice_after stage past inp line).stage
choice_fits Quiet past inp line = command_fits inp.cmd past line
choice_fits Beaconing past inp line = command_fits inp.cmd past line
choice_fits Committing past inp line = command_fits inp.cmd past line
choice_fits (Starting place) past inp line = by_test (nat_lt place 3)
  where
    by_test : (b : Bool) → StageFits (if b then choice (Starting (place + 1)) past (drop 1 line) else data_choice past inp line).stage
    by_test true = tt
    by_test false = data_fits past inp line
choice_fits (Sending nibble) past inp line = data_fits past inp line
choice_fits (ClosingEnd good) past inp line = tt
choice_fits (ClosingCloser good) past inp line = command_fits inp.cmd past line

quarter_fits : (s : TxState) → TxFits s → IfSome (quarter_of s) IsQuarter
quarter_fits s fits = by_stage s.stage fits.stage
  where
    by_stage : (stage : Stage) → StageFits stage → IfSome (quarter_of (record s { stage = stage })) IsQuarter
    by_stage Quiet h = tt
    by_stage Beaconing h = record { sym = tt; part = fits.part }
    by_stage Committing h = record { sym = tt; part = fits.part }
    by_stage (Starting place) h = by_test (nat_lt place 2)
      where
        by_test : (b : Bool) → IsQuarter (record { sym = if b then J else H; part = s.part })
        by_test true = record { sym = tt; part = fits.part }
        by_test false = record { sym = tt; part = fits.part }
    by_stage (Sending nibble) h = record { sym = h; part = fits.part }
    by_stage (ClosingEnd good) h = record { sym = tt; part = fits.part }
    by_stage (ClosingCloser true) h = record { sym = tt; part = fits.part }
    by_stage (ClosingCloser false) h = record { sym = tt; part = fits.part }

abbrev TurnFits : TxTurn → Type 0
TurnFits turn = TxFits turn.state × (turn.driven ≡ quarter_of turn.state)

transmit_fits : (s : TxState) (inp : TxIn) (line : List ℕ) → TxFits s → TurnFits (transmit_step s inp line)
unfolding transmit_step
transmit_fits s inp line fits = by_test (at_boundary s) refl
  where
    inside : (quiet last : Bool) → (quiet || last) ≡ false → last ≡ false
    inside true last e = absurd (cc)
    inside false last e = e

    by_test : (b : Bool) → at_boundary s ≡ b
        → TurnFits (if b then chosen_turn (choice_after s.stage s.past inp line) else turn_to (record s { part = s.part + 1 }) line)
    by_test true e = (record { stage = choice_fits s.stage s.past inp line; part = omega arith }, refl)
    by_test false e =
        let other = eqb-false s.part 3 (inside (is_quiet s.stage) (s.part == 3) e) in
        let low = fits.part in
        (record { stage = fits.stage; part = omega (arith, low, other) }, refl)

-- ---- a node

offer_tx : (t : ℕ) (q : Queued) (k : Track) → (offer_track t q k).0.node.core.tx ≡ k.node.core.tx
offer_tx t q k = elim (cases_lt t k.start) [
  | inl lt ↦ rw (offer_before t q k lt) refl
  | inr ge ↦ rw (offer_started t q k ge) refl
]

offers_tx : (t : ℕ) (qs : List Queued) (k : Track) → (with_offers track_phases t qs k).node.core.tx ≡ k.node.core.tx
offers_tx t [] k = refl
offers_tx t (q ∷ qs) k = offers_tx t qs (offer_track t q k).0 ∙ offer_tx t q k

node_fits : (n : NodeState) → TxFits n.core.tx → TxFits (node_drive n).0.core.tx × IfSome (node_drive n).1.quarter IsQuarter
unfolding core_drive
node_fits n fits =
    let drive = core_drive picked_answer picked_after (reading_of n) n.core in
    let turn = transmit_fits n.core.tx (record { cmd = drive.cmd; ended = _; bad = _ }) n.core.line fits in
    (turn.0, subst (λ (o : Option Quarter). IfSome o IsQuarter) (sym turn.1) (quarter_fits _ turn.0))

drive_fits : (t : ℕ) (k : Track) → TxFits k.node.core.tx
    → TxFits (drive_track t k).0.node.core.tx × IfSome (drive_track t k).1.quarter IsQuarter
drive_fits t k fits = elim (cases_lt t k.start) [
  | inl lt ↦ rw (drive_before t k lt) (fits, tt)
  | inr ge ↦ rw (drive_started t k ge) (node_fits k.node fits)
]

hear_tx : (t : ℕ) (h : Heard) (k : Track) → (hear_track t h k).0.node.core.tx ≡ k.node.core.tx
hear_tx t h k = elim (cases_lt t k.start) [
  | inl lt ↦ rw (hear_before t h k lt) refl
  | inr ge ↦ rw (hear_started t h k ge) refl
]

-- ---- the world

module _ (s : Script) where
  module _ (j : ℕ) (line : NodeLine) (found : slice_get s.nodes j ≡ Some line) where
    record FitsAt (t : ℕ) : Type 0 where
      track : Track
      at : slice_get (world s t).nodes j ≡ Some track
      fits : TxFits track.node.core.tx

    abbrev offered : ℕ → Track → Track
    offered t k = with_offers track_phases t (offers_to s.acts t k.no) k

    offered_fits : (t : ℕ) (k : Track) → TxFits k.node.core.tx → TxFits (offered t k).node.core.tx
    offered_fits t k fits = subst TxFits (sym (offers_tx t (offers_to s.acts t k.no) k)) fits

    fits_at : (t : ℕ) → FitsAt t
    fits_at zero = record {
      track = first_track s line;
      at = rw (past-zero (machine_of s) (taps_of s) (first_tracks s)) (slice_get-map (first_track s) s.nodes j line found);
      fits = record { stage = tt; part = omega arith };
    }
    fits_at (suc t) =
        let h = fits_at t in
        record {
          track = _;
          at = kept_next (machine_of s) (taps_of s) (first_tracks s) t j h.track h.at;
          fits = subst TxFits (sym (hear_tx t _ (drive_track t (offered t h.track)).0)) (drive_fits t (offered t h.track) (offered_fits t h.track h.fits)).0;
        }

    node_driven : (t : ℕ) → IfSome (driven_in s j t) IsQuarter
    node_driven t =
        let h = fits_at t in
        subst (λ (o : Option Quarter). IfSome o IsQuarter) (sym (driven_is (machine_of s) (taps_of s) (first_tracks s) t j h.track h.at))
        (drive_fits t (offered t h.track) (offered_fits t h.track h.fits)).1

  pub driven_fits : (j t : ℕ) → IfSome (driven_in s j t) IsQuarter
  driven_fits j t = elim (slice_get_cases s.nodes j).1 [
    | inl here ↦ node_driven j here.0 here.2 t
    | inr past ↦
        let none = driven_past (machine_of s) (taps_of s) (first_tracks s) t j (omega (arith, past.0, length-map s.nodes (first_track s))) in
        subst (λ (o : Option Quarter). IfSome o IsQuarter) (sym none) tt
  ]

  rows_fit : (t i d : ℕ) → IfSome (at_depth (past (machine_of s) (taps_of s) (first_tracks s) t).rows i d) IsQuarter
  rows_fit t i d = elim (cases_lt d t) [
    | inl lt ↦
        subst (λ (o : Option Quarter). IfSome o IsQuarter)
        (sym (at_depth-within (machine_of s) (taps_of s) (first_tracks s) t d (t - suc d) i (omega (arith, lt))))
        (driven_fits i (t - suc d))
    | inr ge ↦
        subst (λ (o : Option Quarter). IfSome o IsQuarter)
        (sym (at_depth-before (machine_of s) (taps_of s) (first_tracks s) t d i ge)) tt
  ]

  pub heard_fits : (j t : ℕ) → IsHeard (heard_in s j t)
  unfolding heard_in
  heard_fits j t = by_test (nat_lt t (start_of s j)) (is_noisy s.acts t)
    where
      by_test : (before noisy : Bool)
          → IsHeard (if before then Nothing else (if noisy then Many else heard_at (machine_of s) (taps_of s) (first_tracks s) t j))
      by_test true noisy = tt
      by_test false true = tt
      by_test false false =
          heard_in_range (at_depth (past (machine_of s) (taps_of s) (first_tracks s) (suc t)).rows) (rows_fit (suc t)) j (taps_of s)
