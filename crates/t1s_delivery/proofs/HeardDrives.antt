-- The receiver of a node over a drive of another node: it is outside of a burst as the drive comes, or as the node starts within it,
-- and then hears the quarters of the drive, one after another.
use Rattle.std.proofs.Common.{◌≡◌, ◌≢◌, ℕ, zero, suc, ◌+◌, ◌-◌, ◌<◌, ◌≤◌, inl, inr, Bool, false, List, [], ◌∷◌, length, get_or, Option, Some, None, is_some, slice_get, sym, ◌∙◌, ap, arith}
use Rattle.std.specs.List.{flat_map}
use Rattle.t1s_symbols.specs.declared.Heard.{Heard}
use Rattle.t1s_symbols.specs.declared.Heard.TheVariants.{Nothing, One}
use Rattle.t1s_symbols.specs.declared.Quarter.{Quarter}
use Rattle.t1s_symbols.specs.declared.Symbol.{Symbol}
use Rattle.t1s_pcs_tx.specs.Runs.{all_quarters}
use Rattle.t1s_pcs_rx.specs.declared.reader.Burst.TheVariants.{Outside}
use Rattle.t1s_pcs_rx.specs.Laws.{quarters}
use Rattle.t1s_pcs_rx.specs.Receiver.{Receiver}
use Rattle.t1s_pcs_rx.specs.ReceiveTable.{receive_step, receive_event}
use Rattle.t1s_pcs_rx.specs.Tails.{HearsPart}
use Rattle.t1s_pcs_rx.proofs.Ended.{nothing_ends_burst}
use Rattle.t1s_world.specs.Schedule.{Drive, IsOfNode}
use Rattle.t1s_world.specs.World.{heard_at}
use Rattle.t1s_script.specs.declared.script.NodeLine.{NodeLine}
use Rattle.t1s_script.specs.declared.script.Script.{Script}
use Rattle.t1s_script.specs.Taps.{taps_of}
use Rattle.t1s_line.specs.World.{machine_of, first_tracks, driven_in, piece_at}
use Rattle.t1s_schedule.proofs.ExactDrives.{Has, each_at}
use Rattle.t1s_schedule.proofs.NodeRuns.{given, drives_from}
use Rattle.t1s_schedule.proofs.SharedState.{FitCable, SharedAt, IsSpelled, of_nodes}
use Rattle.t1s_delivery.proofs.NodeHappenings.{receiver, drove, receiver_first, receiver_next, piece_is}
use Rattle.t1s_delivery.proofs.PassingDrives.{late, Passes, Ordered, one, first, second, ordered, silent, hears_quarter, Hears, hears_drive}

-- the quarters of symbols, as they are heard
heard_quarter : (symbols : List Symbol) (m : ℕ) (q : Quarter) → get_or (all_quarters symbols) m None ≡ Some q
    → slice_get (flat_map quarters symbols) m ≡ Some (One q)
heard_quarter [] m q e = absurd (cc)
heard_quarter (x ∷ xs) zero q e = let same : record { sym = x; part = 0 } ≡ q = cc in ap (λ (r : Quarter). Some (One r)) same
heard_quarter (x ∷ xs) (suc zero) q e = let same : record { sym = x; part = 1 } ≡ q = cc in ap (λ (r : Quarter). Some (One r)) same
heard_quarter (x ∷ xs) (suc (suc zero)) q e = let same : record { sym = x; part = 2 } ≡ q = cc in ap (λ (r : Quarter). Some (One r)) same
heard_quarter (x ∷ xs) (suc (suc (suc zero))) q e = let same : record { sym = x; part = 3 } ≡ q = cc in ap (λ (r : Quarter). Some (One r)) same
heard_quarter (x ∷ xs) (suc (suc (suc (suc m)))) q e = heard_quarter xs m q e

module _ (s : Script) (z : ℕ) (fit : FitCable s z) (j : ℕ) (line : NodeLine) (found : slice_get s.nodes j ≡ Some line)
    (t : ℕ) (ds : List Drive) (shared : SharedAt s z t ds) (d : Drive) (has : Has ds d) (other : d.node ≢ j) where
  abbrev way : ℕ
  way = late s z fit j line found d.node

  -- the first of the node's own ticks in which it can hear the drive, and how much of this is missed
  abbrev pub first_tick : ℕ
  first_tick = d.start + way - line.start

  abbrev pub missed : ℕ
  missed = line.start - (d.start + way)

  pub now_is : line.start + first_tick ≡ d.start + way + missed
  now_is = omega arith

  -- its receiver in that tick and from then on, and what it hears
  abbrev receivers : ℕ → Receiver
  receivers m = receiver s j line found (first_tick + m)

  abbrev heard : ℕ → Heard
  heard m = (given s j line found (first_tick + m)).heard

  some : d.start < d.stop
  some = (each_at (IsOfNode (length s.nodes)) ds (of_nodes s z ds shared.chain) d has).some

  after_nothing : (u : ℕ) → (given s j line found u).heard ≡ Nothing → (receiver s j line found (suc u)).burst ≡ Outside
  after_nothing u silence =
      let next = receiver_next s j line found u in
      let ends = (nothing_ends_burst (receiver s j line found u) (drove s j line found u)).1 in
      ap (λ (r : Receiver). r.burst)
      (next ∙ (ap (λ (h : Heard). receive_step (receiver s j line found u) h (drove s j line found u)) silence ∙ ends))

  no_drive_before : (u : ℕ) → line.start + suc u ≡ d.start + way → Hears s z fit j line found t ds shared (line.start + u) → ⊥
  no_drive_before u comes h = by (ordered s z fit j line found t ds shared d h.drive has h.has)
    where
      by : Ordered s z fit j line found d h.drive → ⊥
      by (one same) =
          let begins : d.start + way ≡ h.drive.start + late s z fit j line found h.drive.node =
          ap (λ (x : Drive). x.start + late s z fit j line found x.node) same in
          omega (arith, comes, begins, h.at.from)
      by (first gap) = omega (arith, comes, gap, h.at.from, some)
      by (second gap) = omega (arith, comes, gap, h.at.till, fit.fall_low)

  outside : (u : ℕ) → u ≡ first_tick → line.start + u < t → (receiver s j line found u).burst ≡ Outside
  outside zero is before = ap (λ (r : Receiver). r.burst) (receiver_first s j line found)
  outside (suc u) is before = elim (hears_drive s z fit j line found t ds shared u (omega (arith, before))) [
    | inl silence ↦ after_nothing u silence
    | inr h ↦ absurd (no_drive_before u (omega (arith, is)) h)
  ]

  module _ (symbols : List Symbol)
      (spelled : (m : ℕ) → d.start + m < d.stop → driven_in s d.node (d.start + m) ≡ get_or (all_quarters symbols) m None) where
    -- the tick of the world in which it hears the drive for m ticks
    module _ (m : ℕ) (below : line.start + (first_tick + m) < d.stop + way) (before : line.start + (first_tick + m) < t) where
      abbrev now : ℕ
      now = line.start + (first_tick + m)

      passes : Passes s z fit j line found d now
      passes = record { from = omega (arith, now_is); till = below }

      -- it does not drive then
      pub rests : drove s j line found (first_tick + m) ≡ false
      rests =
          let none = silent s z fit j line found t ds shared d has other now before passes in
          ap (λ (o : Option Quarter). is_some o) (sym (drives_from s j line found (first_tick + m)) ∙ none)

      pub hears : slice_get (flat_map quarters symbols) (missed + m) ≡ Some (heard m)
      hears =
          let within : d.start + (missed + m) < d.stop = omega (arith, below, now_is) in
          let speaks = each_at (IsSpelled s) ds shared.speaks d has in
          let (q, driven, spells) = speaks (missed + m) within in
          let at : now - way ≡ d.start + (missed + m) = omega (arith, now_is) in
          let heard = hears_quarter s z fit j line found t ds shared d has other now before passes q (ap (driven_in s d.node) at ∙ driven) in
          let quiet = fit.quiet now (heard_at (machine_of s) (taps_of s) (first_tracks s) now j) in
          heard_quarter symbols (missed + m) q (sym (spelled (missed + m) within) ∙ driven) ∙ ap Some (sym (quiet ∙ heard))

    -- it hears so many ticks of the drive
    pub hears_part : (ticks : ℕ) → 1 ≤ ticks → line.start + first_tick + ticks ≤ d.stop + way → line.start + first_tick + ticks ≤ t
        → HearsPart receivers heard symbols missed ticks
    hears_part ticks least below before = record {
      outside = outside (first_tick + 0) (omega arith) (omega (arith, before, least));
      hears = λ m few. hears m (omega (arith, below, few)) (omega (arith, before, few));
      goes_on = λ m few. (
          let next : first_tick + (m + 1) ≡ suc (first_tick + m) = omega arith in
          let own = rests m (omega (arith, below, few)) (omega (arith, before, few)) in
          ap (λ (u : ℕ). receiver s j line found u) next
          ∙ (receiver_next s j line found (first_tick + m)
          ∙ ap (λ (b : Bool). receive_step (receivers m) (heard m) b) own));
    }

    -- what its receiver tells in the tick in which it hears the drive for m ticks
    pub told : (m : ℕ) → line.start + (first_tick + m) < d.stop + way → line.start + (first_tick + m) < t
        → piece_at s j (line.start + (first_tick + m)) ≡ receive_event (receivers m) (heard m) false
    told m below before =
        piece_is s j line found (first_tick + m)
        ∙ ap (λ (b : Bool). receive_event (receivers m) (heard m) b) (rests m below before)
