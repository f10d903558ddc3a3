-- An engine that skips a stretch of calm ticks plays the run at the tick that it comes to.
use Rattle.std.proofs.Common.{◌≡◌, ℕ, suc, ◌+◌, ◌<◌, ◌≤◌, inl, inr, Bool, true, false, ltb, lt-ltb, le-ltb, ◌||◌, List, [], ◌∷◌, length, map, Option, Some, refl, sym, ◌∙◌, ap, arith, subst}
use Rattle.std.specs.List.{AllByRecursion}
use Rattle.std.specs.Fn.{iterate}
use Rattle.std.specs.Prelude.{All, Contains, slice_get}
use Rattle.std.proofs.lemmas.Option.{get_or_from_slice_get, slice_get_within}
use Rattle.std.proofs.lemmas.List.{length-map}
use Rattle.std.proofs.lemmas.List.Elements.{All-contains, All-from_recursion, recursion_from_All}
use Rattle.std.proofs.lemmas.Simd.{map-map}
use Rattle.t1s_harness.specs.declared.Tap.{Tap}
use Rattle.t1s_symbols.specs.declared.Heard.TheVariants.{Nothing}
use Rattle.t1s_symbols.specs.declared.Quarter.{Quarter}
use Rattle.t1s_symbols.specs.CalmSteps.{AreCalm}
use Rattle.t1s_world.specs.Hearing.{heard}
use Rattle.t1s_world.specs.World.{past, at_depth}
use Rattle.t1s_cable.specs.Calm.{after_silence as rows_after, IsCalm as IsSilent, IsHeardIn}
use Rattle.t1s_cable.specs.Stands.{Stands as CableStands, no_puts}
use Rattle.t1s_script.specs.declared.script.Act.{Act}
use Rattle.t1s_script.specs.declared.script.NodeLine.{NodeLine}
use Rattle.t1s_script.specs.Taps.{tap_of}
use Rattle.t1s_line.specs.Acts.{has_act, is_noisy}
use Rattle.t1s_line.specs.CalmRuns.{HasCalmTicks, IsCalmAt, IsCalmIn, silent_step}
use Rattle.t1s_line.specs.Outcomes.{NodePhases, machine_with}
use Rattle.t1s_line.specs.Runs.{taps_in, nodes_in}
use Rattle.t1s_line.proofs.CalmRuns.{nodes_hold}
use Rattle.t1s_segment.specs.Stands.{Plays}
use Rattle.t1s_segment.specs.State.{EngineState}
use Rattle.t1s_segment.specs.Stretches.{IsStretch}
use Rattle.t1s_acts.specs.Upcoming.{AreComing}
use Rattle.t1s_acts.proofs.ActSteps.{no_acts, no_noise}
use Rattle.t1s_segment.proofs.Playing.{length_numbered}
use Rattle.t1s_segment.proofs.Stretches.{HasPassed, IsQuiet, quiet_passes, rows_next, silence_turned, steps_counted}

-- what a skip of n ticks leaves of an engine
pub record SkipStep {N : Type 0} (passed : ℕ → ℕ → N → N) (g h : EngineState N) (n : ℕ) : Type 0 where
  pub tick : h.tick ≡ g.tick + n
  pub end : h.end ≡ g.end
  pub settled : h.settled ≡ g.settled
  pub upcoming : h.upcoming ≡ g.upcoming
  pub noise_until : h.noise_until ≡ g.noise_until
  pub nodes : h.nodes ≡ map (passed g.tick n) g.nodes
  pub taps : h.cable.taps ≡ g.cable.taps
  pub cable : (rows : List (List (Option Quarter))) → CableStands rows g.cable → CableStands (rows_after g.cable.taps n rows) h.cable
  pub totals : h.totals ≡ g.totals
  pub states : h.states ≡ g.states
  pub heard : h.heard ≡ map (λ (tap : Tap). (Nothing, false)) g.cable.taps

-- two functions that agree at each element
map_each : {X Y : Type 0} (f g : X → Y) (xs : List X) → ((j : ℕ) (x : X) → slice_get xs j ≡ Some x → f x ≡ g x) → map f xs ≡ map g xs
map_each f g [] same = refl
map_each f g (x ∷ xs) same = ap (λ y. y ∷ map f xs) (same 0 x refl) ∙ ap (λ ys. g x ∷ ys) (map_each f g xs (λ j y at. same (suc j) y at))

here : {X : Type 0} (P : X → Type 0) (xs : List X) (j : ℕ) (x : X) → All P xs → slice_get xs j ≡ Some x → P x
here P xs j x all at = subst P (get_or_from_slice_get xs j x x at) (all j x (slice_get_within xs j x at))

unmapped : {X Y : Type 0} (P : Y → Type 0) (f : X → Y) (xs : List X) → AllByRecursion P (map f xs) → AllByRecursion (λ x. P (f x)) xs
unmapped P f [] all = tt
unmapped P f (x ∷ xs) all = (all.0, unmapped P f xs all.1)

or_no : (a b : Bool) → a ≡ false → b ≡ false → (a || b) ≡ false
or_no a b none other = rw (none, other) refl

or_yes : (a b : Bool) → b ≡ true → (a || b) ≡ true
or_yes true b holds = refl
or_yes false b holds = holds

differ : (b : Bool) → b ≡ true → b ≡ false → ⊥
differ true on off = cc
differ false on off = cc

module _ {N : Type 0} (p : NodePhases N) (holds : N → Type 0) (calm : ℕ → N → Type 0) (passed : ℕ → ℕ → N → N) (laws : HasCalmTicks p holds calm passed)
    (acts : List Act) (lines : List NodeLine) (first : List N) (firsts : All holds first) (some : 1 ≤ length lines) (end t : ℕ) (g : EngineState N) (plays : Plays p acts lines first end t g)
    (most n : ℕ) (stretch : IsStretch p calm g most n) where
  held : AllByRecursion holds first
  held = recursion_from_All holds first firsts

  size : length first ≡ length lines
  size = length_numbered p lines first plays.numbered

  abbrev taps : List Tap
  taps = taps_in lines

  abbrev rows : List (List (Option Quarter))
  rows = (past (machine_with p acts) taps first t).rows

  coming_now : AreComing g.tick g.upcoming
  coming_now = rw plays.tick plays.coming

  coming_then : AreComing (t + n) g.upcoming
  coming_then = subst (λ (u : ℕ). AreComing (u + n) g.upcoming) plays.tick (stretch.coming coming_now)

  acts_none : (k : ℕ) → k < n → has_act acts (t + k) ≡ false
  acts_none k below = sym (plays.due (t + k) (omega arith)) ∙ no_acts (t + n) (t + k) g.upcoming (omega (arith, below)) coming_then

  noise_none : (k : ℕ) → k < n → is_noisy acts (t + k) ≡ false
  noise_none k below =
      let over = stretch.no_noise (omega (arith, below)) in
      let tick = plays.tick in
      let begun : ltb (t + k) g.noise_until ≡ false = le-ltb (t + k) g.noise_until (omega (arith, over, tick)) in
      sym (plays.noise (t + k) (omega arith))
      ∙ or_no (is_noisy g.upcoming (t + k)) (ltb (t + k) g.noise_until) (no_noise (t + n) (t + k) g.upcoming (omega (arith, below)) coming_then) begun

  alone : All (λ x. AreCalm (silent_step p) (IsCalmAt calm) (t, x) n) (nodes_in p acts lines first t)
  alone =
      subst (λ (u : ℕ). All (λ x. AreCalm (silent_step p) (IsCalmAt calm) (u, x) n) (nodes_in p acts lines first t)) plays.tick
      (subst (λ (ns : List N). All (λ x. AreCalm (silent_step p) (IsCalmAt calm) (g.tick, x) n) ns) plays.nodes stretch.nodes)

  quiet : IsQuiet p holds calm passed laws acts lines first held size some t n
  quiet = record {
    acts_none = acts_none;
    noise_none = noise_none;
    alone = alone;
    silent = λ k below.
        subst (λ (ps : List Tap). IsSilent ps (rows_after ps k (no_puts taps ∷ rows))) plays.taps (stretch.silent (no_puts taps ∷ rows) plays.cable k below);
  }

  passes : HasPassed p holds calm passed laws acts lines first held size some t n (t + n)
  passes = quiet_passes p holds calm passed laws acts lines first held size some n t (t + n) refl quiet

  pub skip_calm : (k : ℕ) → t ≤ k → k < t + n → IsCalmIn p calm acts lines first k
  skip_calm = passes.ticks

  rows_then : rows_after taps n (no_puts taps ∷ rows) ≡ no_puts taps ∷ (past (machine_with p acts) taps first (t + n)).rows
  rows_then = silence_turned taps n rows ∙ ap (λ (r : List (List (Option Quarter))). no_puts taps ∷ r) (sym passes.rows_left)

  -- nodes that pass the ticks at once are as they would be after one tick and the other
  passed_nodes : map (passed t n) (nodes_in p acts lines first t) ≡ nodes_in p acts lines first (t + n)
  passed_nodes =
      let hold : All holds (nodes_in p acts lines first t) = All-from_recursion holds (nodes_in p acts lines first t) (nodes_hold p holds calm passed laws acts lines first held t) in
      map_each (passed t n) (λ x. (iterate (silent_step p) n (t, x)).1) (nodes_in p acts lines first t) (λ j x at. laws.passes t n x (here holds (nodes_in p acts lines first t) j x hold at)
      (here (λ y. AreCalm (silent_step p) (IsCalmAt calm) (t, y) n) (nodes_in p acts lines first t) j x alone at))
      ∙ sym passes.nodes_left

  module _ (h : EngineState N) (skips : SkipStep passed g h n) (more : 0 < n) where
    pub plays_after : Plays p acts lines first end (t + n) h
    plays_after =
        let tick = plays.tick in
        record {
          in_time = omega (arith, stretch.in_time, tick, plays.end_is);
          tick = skips.tick ∙ ap (λ (u : ℕ). u + n) tick;
          end_is = skips.end ∙ plays.end_is;
          taps = skips.taps ∙ plays.taps;
          numbered = plays.numbered;
          coming = rw skips.upcoming coming_then;
          due = λ u le. rw skips.upcoming (plays.due u (omega (arith, le)));
          offers = λ u le. rw skips.upcoming (plays.offers u (omega (arith, le)));
          noise = λ u le. rw (skips.upcoming, skips.noise_until) (plays.noise u (omega (arith, le)));
          nodes =
              skips.nodes
              ∙ ap (λ (u : ℕ). map (passed u n) g.nodes) tick
              ∙ ap (map (passed t n)) plays.nodes
              ∙ passed_nodes;
          cable =
              let at : CableStands (rows_after g.cable.taps n (no_puts taps ∷ rows)) h.cable = skips.cable (no_puts taps ∷ rows) plays.cable in
              subst (λ (r : List (List (Option Quarter))). CableStands r h.cable) rows_then
              (subst (λ (ps : List Tap). CableStands (rows_after ps n (no_puts taps ∷ rows)) h.cable) plays.taps at);
          settled = skips.settled ∙ plays.settled ∙ sym passes.settled;
          totals = skips.totals ∙ plays.totals ∙ sym passes.totals;
          states = λ k. rw skips.states (plays.states k) ∙ sym (passes.states k);
          heard =
              skips.heard
              ∙ ap (λ (ps : List Tap). map (λ (tap : Tap). (Nothing, false)) ps) plays.taps
              ∙ map-map (λ (tap : Tap). (Nothing, false)) tap_of lines
              ∙ sym (passes.heard more);
        }

  -- and the tick that it comes to is not calm, but at the end and where no more are asked for
  pub skip_ends : n < most → t + n < end → IsCalmIn p calm acts lines first (t + n) → ⊥
  skip_ends short left is =
      let tick = plays.tick in
      let last = plays.end_is in
      let calm_then : AllByRecursion (calm (t + n)) (nodes_in p acts lines first (t + n)) = recursion_from_All (calm (t + n)) (nodes_in p acts lines first (t + n)) is.nodes in
      elim (stretch.ends short (omega (arith, left, tick, last)) coming_now) [
        | inl (none, lasts) ↦
            let noisy : (is_noisy g.upcoming (t + n) || ltb (t + n) g.noise_until) ≡ true =
            or_yes (is_noisy g.upcoming (t + n)) (ltb (t + n) g.noise_until) (lt-ltb (t + n) g.noise_until (omega (arith, none, lasts, tick))) in
            differ (is_noisy acts (t + n)) (sym (plays.noise (t + n) (omega arith)) ∙ noisy) is.no_noise
        | inr (inl (x, has, acts_then)) ↦
            let mapped : AllByRecursion (calm (t + n)) (map (λ y. (iterate (silent_step p) n (t, y)).1) (nodes_in p acts lines first t)) =
            subst (λ (ns : List N). AllByRecursion (calm (t + n)) ns) passes.nodes_left calm_then in
            let each = unmapped (calm (t + n)) (λ y. (iterate (silent_step p) n (t, y)).1) (nodes_in p acts lines first t) mapped in
            let there : Contains (nodes_in p acts lines first t) x = subst (λ (ns : List N). Contains ns x) plays.nodes has in
            let here : calm (t + n) (iterate (silent_step p) n (t, x)).1 = All-contains (λ y. calm (t + n) (iterate (silent_step p) n (t, y)).1) (nodes_in p acts lines first t) x (All-from_recursion (λ y. calm (t + n) (iterate (silent_step p) n (t, y)).1) (nodes_in p acts lines first t) each) there in
            let at : IsCalmAt calm (iterate (silent_step p) n (t, x)) = subst (λ (u : ℕ). calm u (iterate (silent_step p) n (t, x)).1) (sym (steps_counted p n (t, x))) here in
            acts_then (subst (λ (u : ℕ). IsCalmAt calm (iterate (silent_step p) n (u, x))) (sym tick) at)
        | inr (inr (inl due)) ↦
            let there : has_act g.upcoming (t + n) ≡ true = subst (λ (u : ℕ). has_act g.upcoming (u + n) ≡ true) tick due in
            differ (has_act acts (t + n)) (sym (plays.due (t + n) (omega arith)) ∙ there) is.no_act
        | inr (inr (inr reaches)) ↦
            let later : rows_after taps n (no_puts taps ∷ rows) ≡ (past (machine_with p acts) taps first (suc (t + n))).rows =
            rows_then ∙ sym (rows_next p holds calm passed laws acts lines first held size some (t + n) is.no_act is.nodes) in
            let (j, there, hears) = subst (λ (ps : List Tap). IsHeardIn ps (rows_after ps n (no_puts taps ∷ rows))) plays.taps (reaches (no_puts taps ∷ rows) plays.cable) in
            let none = is.unreached j (omega (arith, there, length-map lines tap_of)) in
            hears (subst (λ (r : List (List (Option Quarter))). heard (at_depth r) taps j ≡ Nothing) (sym later) none)
      ]
