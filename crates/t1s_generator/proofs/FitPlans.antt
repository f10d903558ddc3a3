-- The script that the lines of a plan give is fit.
use Rattle.std.proofs.Common.{◌≡◌, ℕ, zero, suc, ◌+◌, ◌<◌, ◌≤◌, Bool, true, false, cond, [], ◌∷◌, map, Some, refl, sym, ap, ◌∙◌, subst, arith, All}
use Rattle.std.specs.Prelude.{◌==◌, ◌||◌, slice_get}
use Rattle.std.specs.List.{range_with_len, sum_by}
use Rattle.std.proofs.lemmas.Bool.Decides.{nat_tests}
use Rattle.std.proofs.lemmas.List.Elements.{All-cons, All-nil}
use Rattle.std.proofs.lemmas.List.Sums.{sum_by-cons}
use Rattle.t1s_base.specs.NodeIds.{has_id}
use Rattle.t1s_harness.specs.Distances.{farthest, span}
use Rattle.t1s_harness.specs.declared.Tap.{Tap}
use Rattle.t1s_script.specs.Values.{setting_of}
use Rattle.t1s_script.specs.Reading.{script_from, nodes_of}
use Rattle.t1s_script.specs.Fit.{coordinators, IsFit}
use Rattle.t1s_script.specs.Taps.{tap_of}
use Rattle.t1s_script.specs.declared.script.NodeLine.{NodeLine}
use Rattle.t1s_script.specs.declared.words.Setting.TheVariants.{To}
use Rattle.t1s_generator.proofs.Left.{each_counted}
use Rattle.t1s_generator.proofs.Plans.{Plan, IsPlan, said}
use Rattle.t1s_generator.proofs.Defaults.{to_default, rise_default, burst_default, one_id, stub_default, timer_default, all_offers}
use Rattle.t1s_generator.proofs.SaidNodes.{node_said, nodes_said}

module _ (p : Plan) (h : IsPlan p) where
  abbrev node : ℕ → NodeLine
  node = node_said p

  -- ---- the node with the ID 0

  abbrev counts : NodeLine → ℕ
  counts n = cond (has_id n.ids 0) 1 0

  ids_of : (k : ℕ) → (node k).ids ≡ k ∷ []
  ids_of k = one_id p k (k, p.place k)

  others : (from count : ℕ) → 1 ≤ from → coordinators (map node (range_with_len from count)) ≡ 0
  others from zero some = refl
  others from (suc count) some =
      let high : (from == 0) ≡ false = grind (arith, nat_tests) in
      let other : has_id (node from).ids 0 ≡ false = ap (λ ids. has_id ids 0) (ids_of from) ∙ ap (λ b. b || false) high in
      sum_by-cons counts (node from) (map node (range_with_len (from + 1) count))
      ∙ ap (λ b. cond b 1 0 + sum_by counts (map node (range_with_len (from + 1) count))) other
      ∙ ap (λ k. 0 + k) (others (from + 1) count (omega arith))

  one_coordinator : (count : ℕ) → 1 ≤ count → coordinators (map node (range_with_len 0 count)) ≡ 1
  one_coordinator zero some = absurd (omega arith)
  one_coordinator (suc count) some =
      sum_by-cons counts (node 0) (map node (range_with_len (0 + 1) count))
      ∙ ap (λ ids. cond (has_id ids 0) 1 0 + sum_by counts (map node (range_with_len (0 + 1) count))) (ids_of 0)
      ∙ ap (λ k. 1 + k) (others (0 + 1) count (omega arith))

  -- ---- each node

  node_at : (from count i : ℕ) (n : NodeLine) → slice_get (map node (range_with_len from count)) i ≡ Some n → n.ids ≡ (from + i) ∷ []
  node_at from zero i n at = cc
  node_at from (suc count) zero n at =
      let same : node from ≡ n = cc in
      let first : from ≡ from + 0 = omega arith in
      subst (λ (m : NodeLine). m.ids ≡ (from + 0) ∷ []) same (ids_of from ∙ ap (λ k. k ∷ []) first)
  node_at from (suc count) (suc i) n at =
      let next : from + 1 + i ≡ from + suc i = omega arith in
      node_at (from + 1) count i n at ∙ ap (λ k. k ∷ []) next

  -- ---- the span

  no_stub : (k : ℕ) → (node k).stub ≡ 0
  no_stub k = stub_default p k (k, p.place k)

  near : (a : Tap) (from count : ℕ) → a.place ≤ 12 → a.stub ≡ 0 → farthest a (map tap_of (map node (range_with_len from count))) ≤ 12
  near a from zero low none = omega arith
  near a from (suc count) low none = omega (arith, h.place_high from, no_stub from, none, near a (from + 1) count low none)

  narrow : (from count : ℕ) → span (map tap_of (map node (range_with_len from count))) ≤ 12
  narrow from zero = omega arith
  narrow from (suc count) = omega (arith, near (tap_of (node from)) (from + 1) count (h.place_high from) (no_stub from), narrow (from + 1) count)

  -- ---- all premises

  abbrev IsLow : NodeLine → Type 0
  IsLow n = All (λ id. id < p.nodes) n.ids

  pub fit_plan : IsFit (script_from (said p) p.last)
  fit_plan =
      let all : nodes_of (said p) ≡ map node (range_with_len 0 p.nodes) = nodes_said p h.nodes_high in
      let short : span (map tap_of (nodes_of (said p))) ≤ 12 = subst (λ ns. span (map tap_of ns) ≤ 12) (sym all) (narrow 0 p.nodes) in
      record {
        one_coordinator = ap coordinators all ∙ one_coordinator p.nodes h.nodes_low;
        distinct_ids = distinct all;
        low_ids = subst (All IsLow) (sym all) (each_counted IsLow node 0 p.nodes (λ k below. subst (All (λ id. id < p.nodes)) (sym (ids_of k)) (All-cons (λ id. id < p.nodes) k [] (omega arith) (All-nil (λ id. id < p.nodes)))));
        one_timer = subst (All (λ (n : NodeLine). n.to ≡ setting_of To (said p))) (sym all) (each_counted (λ (n : NodeLine). n.to ≡ setting_of To (said p)) node 0 p.nodes (λ k below. timer_default p k (k, p.place k)));
        no_noise = all_offers p;
        short_bursts = omega (arith, burst_default p);
        short_cable = omega (arith, short, rise_default p, to_default p);
      }
    where
      distinct : nodes_of (said p) ≡ map node (range_with_len 0 p.nodes) → (i j : ℕ) (m n : NodeLine) → slice_get (nodes_of (said p)) i ≡ Some m → slice_get (nodes_of (said p)) j ≡ Some n → i < j
          → (id : ℕ) → has_id m.ids id ≡ true → has_id n.ids id ≡ false
      distinct all i j m n at there below id has =
          let first = node_at 0 p.nodes i m (ap (λ ns. slice_get ns i) (sym all) ∙ at) in
          let second = node_at 0 p.nodes j n (ap (λ ns. slice_get ns j) (sym all) ∙ there) in
          ap (λ ids. has_id ids id) second ∙ go (0 + i == id) refl (ap (λ ids. has_id ids id) (sym first) ∙ has)
        where
          other : (0 + i == id) ≡ true → (0 + j == id) ≡ false
          other test = grind (arith, nat_tests, below)

          go : (b : Bool) → (0 + i == id) ≡ b → (b || false) ≡ true → ((0 + j == id) || false) ≡ false
          go true test has = ap (λ b. b || false) (other test)
          go false test has = cc
