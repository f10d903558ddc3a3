-- A stretch of calm ticks of a run: what is left of it is what one tick after the other leaves.
use Rattle.std.proofs.Common.{◌≡◌, ℕ, zero, suc, ◌+◌, ◌<◌, ◌≤◌, inl, inr, false, List, ◌∷◌, length, map, replicate, Option, None, refl, sym, ◌∙◌, ap, arith, subst}
use Rattle.std.specs.List.{AllByRecursion}
use Rattle.std.specs.Fn.{iterate}
use Rattle.std.specs.Prelude.{All}
use Rattle.std.proofs.lemmas.Bool.{cases_eq}
use Rattle.std.proofs.lemmas.List.{length-map}
use Rattle.std.proofs.lemmas.List.Elements.{All-map, All-weaker, recursion_from_All}
use Rattle.std.proofs.lemmas.Simd.{map-map}
use Rattle.t1s_harness.specs.declared.Tap.{Tap}
use Rattle.t1s_symbols.specs.declared.Heard.TheVariants.{Nothing}
use Rattle.t1s_symbols.specs.declared.Quarter.{Quarter}
use Rattle.t1s_symbols.specs.CalmSteps.{AreCalm}
use Rattle.t1s_world.specs.Hearing.{heard}
use Rattle.t1s_world.specs.World.{past, at_depth}
use Rattle.t1s_cable.specs.Calm.{after_silence as rows_after, IsCalm as IsSilent}
use Rattle.t1s_cable.specs.Stands.{no_puts}
use Rattle.t1s_script.specs.declared.script.Act.{Act}
use Rattle.t1s_script.specs.declared.script.NodeLine.{NodeLine}
use Rattle.t1s_script.specs.Taps.{tap_of}
use Rattle.t1s_line.specs.Acts.{has_act, is_noisy}
use Rattle.t1s_line.specs.CalmRuns.{HasCalmTicks, IsCalmAt, IsCalmIn, after_silence, silent_step}
use Rattle.t1s_line.specs.Outcomes.{NodePhases, machine_with}
use Rattle.t1s_line.specs.Runs.{taps_in, nodes_in, settled_in, totals_in, state_in, heard_below}
use Rattle.t1s_line.proofs.CalmPhases.{no_act_no_offers}
use Rattle.t1s_segment.proofs.OfferedTicks.{map_self}
use Rattle.t1s_line.proofs.CalmRuns.{calm_heard, calm_nodes, calm_settled, calm_state, calm_totals, rows_on}

-- a silent row before a stretch of silence is one more behind it
pub silence_turned : (taps : List Tap) (n : ℕ) (rows : List (List (Option Quarter))) → rows_after taps n (no_puts taps ∷ rows) ≡ no_puts taps ∷ rows_after taps n rows
unfolding rows_after
silence_turned taps zero rows = refl
silence_turned taps (suc n) rows = ap (λ (r : List (List (Option Quarter))). no_puts taps ∷ r) (silence_turned taps n rows)

no_silence : (taps : List Tap) (rows : List (List (Option Quarter))) → rows_after taps 0 rows ≡ rows
unfolding rows_after
no_silence taps rows = refl

pub silence_first : (taps : List Tap) (n : ℕ) (rows : List (List (Option Quarter))) → rows_after taps (suc n) rows ≡ no_puts taps ∷ rows_after taps n rows
unfolding rows_after
silence_first taps n rows = refl

-- n ticks are counted with n steps
pub steps_counted : {N : Type 0} (p : NodePhases N) (n : ℕ) (at : ℕ × N) → (iterate (silent_step p) n at).0 ≡ at.0 + n
steps_counted p zero at = omega arith
steps_counted p (suc n) at = steps_counted p n (silent_step p at) ∙ omega arith

module _ {N : Type 0} (p : NodePhases N) (holds : N → Type 0) (calm : ℕ → N → Type 0) (passed : ℕ → ℕ → N → N) (laws : HasCalmTicks p holds calm passed)
    (acts : List Act) (lines : List NodeLine) (first : List N) (firsts : AllByRecursion holds first) (size : length first ≡ length lines) (some : 1 ≤ length lines) where
  abbrev taps : List Tap
  taps = taps_in lines

  abbrev rows : ℕ → List (List (Option Quarter))
  rows t = (past (machine_with p acts) taps first t).rows

  abbrev nodes : ℕ → List N
  nodes t = nodes_in p acts lines first t

  abbrev CalmFrom : ℕ → ℕ → N → Type 0
  CalmFrom t n x = AreCalm (silent_step p) (IsCalmAt calm) (t, x) n

  abbrev passes : ℕ → ℕ → N → N
  passes t n x = (iterate (silent_step p) n (t, x)).1

  -- n ticks from tick t on have no act and no noise, are calm for each node, and let nothing reach one
  pub record IsQuiet (t n : ℕ) : Type 0 where
    pub acts_none : (k : ℕ) → k < n → has_act acts (t + k) ≡ false
    pub noise_none : (k : ℕ) → k < n → is_noisy acts (t + k) ≡ false
    pub alone : All (CalmFrom t n) (nodes t)
    pub silent : (k : ℕ) → k < n → IsSilent taps (rows_after taps k (no_puts taps ∷ rows t))

  same_size : length taps ≡ length lines
  same_size = length-map lines tap_of

  row_put : replicate (length lines) None ≡ no_puts taps
  row_put = ap (λ (k : ℕ). replicate k None) (sym same_size)

  -- the rows after a tick without acts that is calm for each node
  pub rows_next : (t : ℕ) → has_act acts t ≡ false → All (calm t) (nodes t) → rows (suc t) ≡ no_puts taps ∷ rows t
  rows_next t none all =
      rows_on p holds calm passed laws acts lines first firsts size t (no_act_no_offers acts t none) (recursion_from_All (calm t) (nodes t) all)
      ∙ ap (λ (row : List (Option Quarter)). row ∷ rows t) row_put

  module _ (t n : ℕ) (quiet : IsQuiet t (suc n)) where
    here_none : has_act acts t ≡ false
    here_none = let at : t + 0 ≡ t = omega arith in subst (λ (u : ℕ). has_act acts u ≡ false) at (quiet.acts_none 0 (omega arith))

    here_quiet : is_noisy acts t ≡ false
    here_quiet = let at : t + 0 ≡ t = omega arith in subst (λ (u : ℕ). is_noisy acts u ≡ false) at (quiet.noise_none 0 (omega arith))

    here_calm : All (calm t) (nodes t)
    here_calm = All-weaker (CalmFrom t (suc n)) (calm t) (λ x long. long 0 (omega arith)) (nodes t) quiet.alone

    tick_calm : IsCalmIn p calm acts lines first t
    tick_calm = record {
      no_act = here_none;
      no_noise = here_quiet;
      nodes = here_calm;
      unreached = λ j there.
          let now : rows_after taps 0 (no_puts taps ∷ rows t) ≡ rows (suc t) = no_silence taps (no_puts taps ∷ rows t) ∙ sym (rows_next t here_none here_calm) in
          subst (λ (r : List (List (Option Quarter))). heard (at_depth r) taps j ≡ Nothing) now (quiet.silent 0 (omega arith) j (omega (arith, there, same_size)));
    }

    nodes_next : nodes (suc t) ≡ map (after_silence p t) (nodes t)
    nodes_next = calm_nodes p holds calm passed laws acts lines first firsts size t tick_calm

    quiet_next : IsQuiet (suc t) n
    quiet_next = record {
      acts_none = λ k below. let at : t + suc k ≡ suc t + k = omega arith in subst (λ (u : ℕ). has_act acts u ≡ false) at (quiet.acts_none (suc k) (omega (arith, below)));
      noise_none = λ k below. let at : t + suc k ≡ suc t + k = omega arith in subst (λ (u : ℕ). is_noisy acts u ≡ false) at (quiet.noise_none (suc k) (omega (arith, below)));
      alone =
          subst (λ (ns : List N). All (CalmFrom (suc t) n) ns) (sym nodes_next)
          (All-map (CalmFrom (suc t) n) (after_silence p t) (nodes t)
          (All-weaker (CalmFrom t (suc n)) (λ x. CalmFrom (suc t) n (after_silence p t x)) (λ x long k below. long (suc k) (omega (arith, below))) (nodes t) quiet.alone));
      silent = λ k below.
          let back : rows_after taps (suc k) (no_puts taps ∷ rows t) ≡ rows_after taps k (no_puts taps ∷ rows (suc t)) =
          silence_first taps k (no_puts taps ∷ rows t)
          ∙ sym (silence_turned taps k (no_puts taps ∷ rows t))
          ∙ ap (λ (r : List (List (Option Quarter))). rows_after taps k (no_puts taps ∷ r)) (sym (rows_next t here_none here_calm)) in
          subst (λ (r : List (List (Option Quarter))). IsSilent taps r) back (quiet.silent (suc k) (omega (arith, below)));
    }

  -- what they leave at tick u
  pub record HasPassed (t n u : ℕ) : Type 0 where
    pub nodes_left : nodes u ≡ map (passes t n) (nodes t)
    pub rows_left : rows u ≡ rows_after taps n (rows t)
    pub settled : settled_in p acts lines first u ≡ settled_in p acts lines first t
    pub totals : totals_in p acts lines first u ≡ totals_in p acts lines first t
    pub states : (k : ℕ) → state_in p acts lines first k u ≡ state_in p acts lines first k t
    pub heard : 0 < n → heard_below p acts lines first u ≡ map (λ (n : NodeLine). (Nothing, false)) lines
    pub ticks : (k : ℕ) → t ≤ k → k < u → IsCalmIn p calm acts lines first k

  passed_none : (t : ℕ) → HasPassed t 0 t
  passed_none t = record {
    nodes_left = sym (map_self (λ x. x) (λ x. refl) (nodes t));
    rows_left = sym (no_silence taps (rows t));
    settled = refl;
    totals = refl;
    states = λ k. refl;
    heard = λ some. absurd (omega (arith, some));
    ticks = λ k low high. absurd (omega (arith, low, high));
  }

  passed_more : (t n u : ℕ) → IsQuiet t (suc n) → (n ≡ 0 → u ≡ suc t) → HasPassed (suc t) n u → HasPassed t (suc n) u
  passed_more t n u quiet last later =
      let is = tick_calm t n quiet in
      let next : t + 1 ≡ suc t = omega arith in
      record {
        nodes_left =
            later.nodes_left
            ∙ ap (map (passes (suc t) n)) (nodes_next t n quiet)
            ∙ map-map (passes (suc t) n) (after_silence p t) (nodes t);
        rows_left =
            later.rows_left
            ∙ ap (rows_after taps n) (rows_next t (here_none t n quiet) (here_calm t n quiet))
            ∙ silence_turned taps n (rows t)
            ∙ sym (silence_first taps n (rows t));
        settled = later.settled ∙ subst (λ (v : ℕ). settled_in p acts lines first v ≡ settled_in p acts lines first t) next (calm_settled p holds calm passed laws acts lines first firsts size some t is);
        totals = later.totals ∙ subst (λ (v : ℕ). totals_in p acts lines first v ≡ totals_in p acts lines first t) next (calm_totals p holds calm passed laws acts lines first firsts size t is);
        states = λ k. later.states k ∙ subst (λ (v : ℕ). state_in p acts lines first k v ≡ state_in p acts lines first k t) next (calm_state p holds calm passed laws acts lines first firsts size t is k);
        heard = λ some. elim (cases_eq n 0) [
          | inl none ↦
              let at : t + 1 ≡ u = next ∙ sym (last none) in
              subst (λ (v : ℕ). heard_below p acts lines first v ≡ map (λ (n : NodeLine). (Nothing, false)) lines) at (calm_heard p holds calm passed laws acts lines first firsts size t is)
          | inr more ↦ later.heard (omega (arith, more))
        ];
        ticks = λ k low high. elim (cases_eq k t) [
          | inl same ↦ subst (λ (v : ℕ). IsCalmIn p calm acts lines first v) (sym same) is
          | inr other ↦ later.ticks k (omega (arith, low, other)) high
        ];
      }

  pub quiet_passes : (n t u : ℕ) → t + n ≡ u → IsQuiet t n → HasPassed t n u
  quiet_passes zero t u at quiet = let same : t ≡ u = omega (arith, at) in subst (λ (v : ℕ). HasPassed t 0 v) same (passed_none t)
  quiet_passes (suc n) t u at quiet =
      passed_more t n u quiet (λ none. omega (arith, at, none)) (quiet_passes n (suc t) u (omega (arith, at)) (quiet_next t n quiet))
