-- The drives of a fit script's first ticks are a schedule, and no two of them overlap.
use Rattle.std.proofs.Common.{◌≡◌, ℕ, ◌+◌, Bool, true, false, List, length, Option, refl, sym, ◌∙◌, ap, arith}
use Rattle.t1s_harness.specs.Distances.{Point}
use Rattle.t1s_symbols.specs.declared.Quarter.{Quarter}
use Rattle.t1s_world.specs.Schedule.{Drive, IsOfNode, NoOverlap, next_after}
use Rattle.t1s_world.proofs.Overlaps.{no_overlap}
use Rattle.t1s_script.specs.declared.script.Script.{Script}
use Rattle.t1s_script.specs.Taps.{span_of, taps_of}
use Rattle.t1s_line.specs.World.{driven_in}
use Rattle.t1s_turns.specs.ReceiverOverWaves.{first_symbol}
use Rattle.t1s_schedule.specs.SharedLine.{far_in, at_in, first_beacon, is_beacon_symbol, begins_beacon, IsSchedule}
use Rattle.t1s_schedule.proofs.ExactDrives.{exact_drives}
use Rattle.t1s_schedule.proofs.SharedState.{each_both, FitCable, IsSpelled, SharedAt, of_nodes}

module _ (s : Script) (z : ℕ) (fit : FitCable s z) (t : ℕ) (ds : List Drive) (shared : SharedAt s z t ds) where
  -- a drive is a beacon exactly where its first symbol is N
  begins_as : (a : Drive) → IsOfNode (length s.nodes) a → IsSpelled s a → a.beacon ≡ begins_beacon (driven_in s a.node a.start)
  begins_as a node spelled =
      let (q, driven, spells) = spelled 0 (omega (arith, node.some)) in
      let from : a.start + 0 ≡ a.start = omega arith in
      let first = ap (λ (o : Option Quarter). begins_beacon o) (ap (λ (v : ℕ). driven_in s a.node v) (sym from) ∙ driven) in
      sym (first ∙ (ap is_beacon_symbol (spells.first (omega arith)) ∙ by a.beacon))
    where
      by : (b : Bool) → is_beacon_symbol (first_symbol b) ≡ b
      by true = refl
      by false = refl

  pub none_overlap : (p : Point (taps_of s)) → NoOverlap (far_in s) p ds
  none_overlap p = no_overlap next_after (far_in s) (at_in s) s.rise s.fall s.to (length s.nodes) (span_of s) fit.far p z (first_beacon s z) ds shared.chain

  pub schedule_of : IsSchedule s z t ds
  schedule_of = record {
    exact = exact_drives next_after (far_in s) (at_in s) s.rise s.fall s.to (length s.nodes) z (first_beacon s z) fit.fall_low (driven_in s) t ds
        shared.chain shared.within shared.covers;
    beacons = each_both (IsOfNode (length s.nodes)) (IsSpelled s) (λ (d : Drive). d.beacon ≡ begins_beacon (driven_in s d.node d.start)) begins_as ds
        (of_nodes s z ds shared.chain) shared.speaks;
    chain = shared.chain;
    placed = shared.placed;
    lasts = shared.silent;
  }
