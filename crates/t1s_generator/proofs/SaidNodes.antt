-- The nodes of the script that the lines of a plan give.
use Rattle.std.proofs.Common.{◌≡◌, ℕ, zero, suc, ◌+◌, ◌-◌, ◌<◌, ◌≤◌, Bool, true, false, cond, leb, [], ◌∷◌, ◌++◌, map, Some, None, refl, sym, ap, ◌∙◌, arith}
use Rattle.std.specs.Prelude.{◌==◌, filter_map, flat_map}
use Rattle.std.specs.List.{range_with_len, cons_option}
use Rattle.std.proofs.lemmas.Bool.Decides.{nat_tests}
use Rattle.t1s_base.specs.Limits.{most_nodes}
use Rattle.t1s_script.specs.Values.{node_for}
use Rattle.t1s_script.specs.Reading.{node_of_line, nodes_of_number, nodes_of}
use Rattle.t1s_script.specs.declared.script.NodeLine.{NodeLine}
use Rattle.t1s_generator.proofs.Left.{first_counted, none_counted}
use Rattle.t1s_generator.proofs.Plans.{Plan, said_node, said_offer, said}
use Rattle.t1s_generator.proofs.SaidValues.{none_given, values_said}

module _ (p : Plan) where
  abbrev pub node_said : ℕ → NodeLine
  node_said k = node_of_line (said p) k (k, p.place k)

  -- ---- the `node` lines of one number

  node_or : (j from count : ℕ) (b : Bool) → (from == j) ≡ b → filter_map (node_for j) (map (said_node p) (range_with_len from (suc count)))
      ≡ cons_option (cond b (Some (from, p.place from)) None) (filter_map (node_for j) (map (said_node p) (range_with_len (from + 1) count)))
  node_or j from count b e = ap (λ x. cons_option (cond x (Some (from, p.place from)) None) (filter_map (node_for j) (map (said_node p) (range_with_len (from + 1) count)))) e

  none_of_number : (j from count : ℕ) → ((k : ℕ) → from ≤ k → k < from + count → (k == j) ≡ false) → filter_map (node_for j) (map (said_node p) (range_with_len from count)) ≡ []
  none_of_number j from zero h = refl
  none_of_number j from (suc count) h =
      node_or j from count false (h from (omega arith) (omega arith)) ∙ none_of_number j (from + 1) count (λ k low high. h k (omega arith) (omega arith))

  one_of_number : (j from count : ℕ) → from ≤ j → j < from + count → filter_map (node_for j) (map (said_node p) (range_with_len from count)) ≡ (j, p.place j) ∷ []
  one_of_number j from zero low high = absurd (omega arith)
  one_of_number j from (suc count) low high = go (from == j) refl (λ above. one_of_number j (from + 1) count above (omega arith))
    where
      other : (k : ℕ) → j < k → (k == j) ≡ false
      other k above = grind (arith, nat_tests)

      go : (b : Bool) → (from == j) ≡ b → (from + 1 ≤ j → filter_map (node_for j) (map (said_node p) (range_with_len (from + 1) count)) ≡ (j, p.place j) ∷ [])
          → filter_map (node_for j) (map (said_node p) (range_with_len from (suc count))) ≡ (j, p.place j) ∷ []
      go true e rest =
          let here : from ≡ j = grind (arith, nat_tests) in
          node_or j from count true e
          ∙ ap (λ xs. (from, p.place from) ∷ xs) (none_of_number j (from + 1) count (λ k below high. other k (omega arith)))
          ∙ ap (λ k. (k, p.place k) ∷ []) here
      go false e rest =
          let later : from < j = grind (arith, nat_tests) in
          node_or j from count false e ∙ rest (omega arith)

  -- of all lines only the `node` lines give a node
  all_of_number : (j : ℕ) → filter_map (node_for j) (said p) ≡ filter_map (node_for j) (map (said_node p) (range_with_len 0 p.nodes)) ++ []
  all_of_number j =
      values_said p (node_for j)
      ∙ ap (λ xs. filter_map (node_for j) (map (said_node p) (range_with_len 0 p.nodes)) ++ (xs ++ [])) (none_given (node_for j) (said_offer p) 0 p.frames (λ k. refl))

  slot_said : (j : ℕ) → j < p.nodes → nodes_of_number (said p) j ≡ node_said j ∷ []
  slot_said j below =
      ap (map (node_of_line (said p) j)) (all_of_number j ∙ ap (λ xs. xs ++ []) (one_of_number j 0 p.nodes (omega arith) (omega arith)))

  slot_free : (j : ℕ) → p.nodes ≤ j → nodes_of_number (said p) j ≡ []
  slot_free j above =
      ap (map (node_of_line (said p) j)) (all_of_number j ∙ ap (λ xs. xs ++ []) (none_of_number j 0 p.nodes (λ k low high. other k (omega arith))))
    where
      other : (k : ℕ) → k < j → (k == j) ≡ false
      other k below = grind (arith, nat_tests)

  -- ---- the nodes of all numbers

  nodes_from_number : (from count : ℕ) → p.nodes ≤ from + count → flat_map (nodes_of_number (said p)) (range_with_len from count) ≡ map node_said (range_with_len from (p.nodes - from))
  nodes_from_number from zero few = sym (none_counted node_said from p.nodes (omega arith))
  nodes_from_number from (suc count) few = go (leb p.nodes from) refl (nodes_from_number (from + 1) count (omega arith))
    where
      go : (b : Bool) → leb p.nodes from ≡ b → flat_map (nodes_of_number (said p)) (range_with_len (from + 1) count) ≡ map node_said (range_with_len (from + 1) (p.nodes - (from + 1)))
          → flat_map (nodes_of_number (said p)) (range_with_len from (suc count)) ≡ map node_said (range_with_len from (p.nodes - from))
      go true e rest =
          let above : p.nodes ≤ from = grind (arith, nat_tests) in
          ap (λ xs. xs ++ flat_map (nodes_of_number (said p)) (range_with_len (from + 1) count)) (slot_free from above)
          ∙ rest
          ∙ none_counted node_said (from + 1) p.nodes (omega arith)
          ∙ sym (none_counted node_said from p.nodes above)
      go false e rest =
          let below : from < p.nodes = grind (arith, nat_tests) in
          ap (λ xs. xs ++ flat_map (nodes_of_number (said p)) (range_with_len (from + 1) count)) (slot_said from below)
          ∙ ap (λ xs. node_said from ∷ xs) rest
          ∙ sym (first_counted node_said from p.nodes below)

  pub nodes_said : p.nodes ≤ 16 → nodes_of (said p) ≡ map node_said (range_with_len 0 p.nodes)
  nodes_said few =
      let all : p.nodes - 0 ≡ p.nodes = omega arith in
      nodes_from_number 0 most_nodes (omega arith) ∙ ap (λ n. map node_said (range_with_len 0 n)) all
