-- A drive of a fit script's run that is no beacon holds the run of its node's opportunity, or the first ticks of it.
use Rattle.std.proofs.Common.{◌≡◌, ◌≢◌, ℕ, zero, suc, ◌+◌, ◌*◌, ◌-◌, ◌<◌, ◌≤◌, inl, inr, true, false, List, [], ◌∷◌, length, get_or, Option, Some, None, is_some, slice_get, refl, sym, ◌∙◌, ap, subst, arith}
use Rattle.std.proofs.lemmas.Bool.{cases_lt, true≢false}
use Rattle.t1s_symbols.specs.declared.Quarter.{Quarter}
use Rattle.t1s_symbols.specs.declared.Symbol.{Symbol}
use Rattle.t1s_symbols.specs.declared.Symbol.TheVariants.{N}
use Rattle.t1s_pcs_tx.specs.Runs.{all_quarters}
use Rattle.t1s_mac.specs.PickedDraws.{picked_answer, picked_after}
use Rattle.t1s_world.specs.Drives.{IsDrive}
use Rattle.t1s_world.specs.Schedule.{Drive}
use Rattle.t1s_turns.specs.OwnRun.{OwnPiece, ticks_of, run_symbols, IsFirstH, quarters_from, AreSent, IsOwnRun}
use Rattle.t1s_script.specs.declared.script.NodeLine.{NodeLine}
use Rattle.t1s_script.specs.declared.script.Script.{Script}
use Rattle.t1s_line.specs.Happenings.{IsLeaving}
use Rattle.t1s_line.specs.World.{driven_in}
use Rattle.t1s_schedule.specs.DriveContents.{IsOfferTo, AreLeavings, HoldsRun}
use Rattle.t1s_schedule.proofs.NodeRuns.{drives_before}
use Rattle.t1s_schedule.proofs.NodeTurns.{start_core, ticks, drive, quarter_at, run_at, leaving_from, leaving_is}
use Rattle.t1s_schedule.proofs.QueueOffers.{first_offered}
use Rattle.t1s_schedule.proofs.RunSymbols.{quarter_some, some_piece}
use Rattle.t1s_schedule.proofs.SharedState.{FitCable, SharedAt}

-- the first H of a piece, in the ticks of the world
first_h_later : (b t v : ℕ) (ps : List OwnPiece) (u : ℕ) → v ≡ b + t → IsFirstH t ps u → IsFirstH v ps (b + u)
first_h_later b t v [] u e h = h
first_h_later b t v (p ∷ ps) u e (inl here) = inl (omega (arith, e, here))
first_h_later b t v (p ∷ ps) u e (inr later) = inr (first_h_later b (t + ticks_of p) (v + ticks_of p) ps u (omega (arith, e)) later)

none_of : (o : Option Quarter) → is_some o ≡ false → o ≡ None
none_of None e = refl
none_of (Some q) e = absurd (true≢false e)

module _ (s : Script) (z : ℕ) (fit : FitCable s z) (known : (t : ℕ) → (ds : List Drive) × SharedAt s z t ds) (few : s.burst ≤ 255)
    (i : ℕ) (line : NodeLine) (found : slice_get s.nodes i ≡ Some line) where
  -- what is driven in some ticks from one on, tick by tick
  quarter_in_run : (t n m : ℕ) → m < n
      → get_or (quarters_from picked_answer picked_after (start_core s z fit known few i line found) (ticks s z fit known few i line found) t n)
      m None
      ≡ (drive s z fit known few i line found (t + m)).quarter
  quarter_in_run t zero m below = absurd (omega (arith, below))
  quarter_in_run t (suc n) zero below = let e : t ≡ t + 0 = omega arith in ap (λ (u : ℕ). (drive s z fit known few i line found u).quarter) e
  quarter_in_run t (suc n) (suc m) below =
      let e : suc t + m ≡ t + suc m = omega arith in
      quarter_in_run (suc t) n m (omega (arith, below)) ∙ ap (λ (u : ℕ). (drive s z fit known few i line found u).quarter) e

  -- what leaves as the node's own ticks tell leaves in the world
  are_leavings : (t v : ℕ) (ps : List OwnPiece) → v ≡ line.start + t
      → AreSent picked_answer picked_after (start_core s z fit known few i line found) (ticks s z fit known few i line found) t ps
      → AreLeavings s i v ps
  are_leavings t v [] e sent = tt
  are_leavings t v (p ∷ ps) e (leaves, stands, later) =
      let when : line.start + (t + 4 * p.lead) ≡ v + 4 * p.lead = omega (arith, e) in
      let leaving = leaving_from s z fit known few i line found (t + 4 * p.lead) p.offer.number leaves.0 in
      let (u, early, there) = first_offered picked_answer picked_after (start_core s z fit known few i line found)
      (ticks s z fit known few i line found) refl
      (t + 4 * p.lead) p.offer leaves.1 in
      let offered : IsOfferTo s i (v + 4 * p.lead) p.offer = (line, found, line.start + u, omega (arith, early, when), there) in (
        subst (λ (w : ℕ). IsLeaving s w i p.offer.number) when leaving,
        offered,
        stands,
        are_leavings (t + ticks_of p) (v + ticks_of p) ps (omega (arith, e)) later,
      )

  module _ (T start stop : ℕ) (is : IsDrive (driven_in s i) T start stop) (u : ℕ) (now : line.start + u ≡ start) where
    quarter_of_tick : (m : ℕ) → driven_in s i (start + m) ≡ (drive s z fit known few i line found (u + m)).quarter
    quarter_of_tick m =
        let e : start + m ≡ line.start + (u + m) = omega (arith, now) in
        ap (driven_in s i) e ∙ quarter_at s z fit known few i line found (u + m)

    module _ (e : ℕ)
        (r : IsOwnRun picked_answer picked_after (start_core s z fit known few i line found) (ticks s z fit known few i line found) s.burst u e) where
      abbrev symbols : List Symbol
      symbols = run_symbols r.pieces r.rest

      abbrev long : ℕ
      long = 4 * length symbols

      spelled_at : (m : ℕ) → m < long → driven_in s i (start + m) ≡ get_or (all_quarters symbols) m None
      spelled_at m below =
          quarter_of_tick m ∙ (sym (quarter_in_run u long m below) ∙ ap (λ (qs : List (Option Quarter)). get_or qs m None) r.drives)

      silent_after : is_some (driven_in s i (start + long)) ≡ false
      silent_after =
          let over : u + long ≡ e = sym r.ends in
          ap is_some (quarter_of_tick long ∙ (ap (λ (v : ℕ). (drive s z fit known few i line found v).quarter) over ∙ r.silent))

      short_enough : stop ≤ start + long
      short_enough = elim (cases_lt (start + long) stop) [
        | inr ge ↦ ge
        | inl lt ↦ let drives = is.all (start + long) (omega arith) lt in absurd (true≢false (sym drives ∙ silent_after))
      ]

      whole_below : stop < T → stop ≡ start + long
      whole_below below = elim (cases_lt stop (start + long)) [
        | inr ge ↦ omega (arith, ge, short_enough)
        | inl lt ↦
            let some = is.some in
            let at : start + (stop - start) ≡ stop = omega (arith, some) in
            let there = spelled_at (stop - start) (omega (arith, lt, some)) in
            let drives : is_some (driven_in s i stop) ≡ true =
            ap (λ (v : ℕ). is_some (driven_in s i v)) (sym at) ∙ (ap is_some there ∙ quarter_some symbols (stop - start) (omega (arith, lt, some))) in
            absurd (true≢false (sym drives ∙ is.after below))
      ]

      other_leavings : (v number : ℕ) → start ≤ v → v < stop → IsLeaving s v i number → IsFirstH start r.pieces v
      other_leavings v number from till leaving =
          let own : ℕ = v - line.start in
          let same : line.start + own ≡ v = omega (arith, now, from) in
          let leaves = leaving_is s z fit known few i line found own number (subst (λ (w : ℕ). IsLeaving s w i number) (sym same) leaving) in
          let first = r.no_other own number (omega (arith, same, now, from)) (omega (arith, same, now, till, short_enough, r.ends)) leaves in
          subst (IsFirstH start r.pieces) same (first_h_later line.start u start r.pieces own (sym now) first)

      holds_these : HoldsRun s T i start stop
      holds_these = record {
        pieces = r.pieces;
        rest = r.rest;
        some = some_piece r.pieces r.rest r.run;
        few = r.few;
        run = r.run;
        short = omega (arith, r.ends, r.short);
        spelled = record { drives = λ m below. spelled_at m (omega (arith, below, short_enough)); within = short_enough; whole = whole_below };
        leavings = are_leavings u start r.pieces (sym now) r.sent;
        no_other = other_leavings;
      }

  -- a maximal interval in which the node drives, and that begins with no beacon
  pub holds_run : (T start stop : ℕ) → IsDrive (driven_in s i) T start stop
      → (q : Quarter) → driven_in s i start ≡ Some q → q.sym ≢ N → HoldsRun s T i start stop
  holds_run T start stop is q first other = elim (cases_lt start line.start) [
    | inl before ↦ let none = drives_before s i line found start before in absurd (cc)
    | inr from ↦
        let u : ℕ = start - line.start in
        let now : line.start + u ≡ start = omega (arith, from) in
        let drives : (drive s z fit known few i line found u).quarter ≡ Some q =
        sym (quarter_at s z fit known few i line found u) ∙ (ap (driven_in s i) now ∙ first) in
        let rests : (v : ℕ) → v + 1 ≡ u → (drive s z fit known few i line found v).quarter ≡ None = (λ v last.
        let silent = none_of (driven_in s i (line.start + v)) (is.before (line.start + v) (omega (arith, last, now))) in
        sym (quarter_at s z fit known few i line found v) ∙ silent) in
        let (e, r) = run_at s z fit known few i line found u q drives other rests in
        holds_these T start stop is u now e r
  ]
