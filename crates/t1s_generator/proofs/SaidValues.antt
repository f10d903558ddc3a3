-- What all lines of a plan give.
use Rattle.std.proofs.Common.{◌≡◌, ℕ, zero, suc, ◌+◌, List, [], ◌∷◌, ◌++◌, map, Option, None, Ok, refl, ap, ◌∙◌}
use Rattle.std.specs.Prelude.{filter_map}
use Rattle.std.specs.List.{range_with_len, cons_option}
use Rattle.std.proofs.lemmas.List.Elements.{filter_map-append}
use Rattle.t1s_script.specs.ParsedLine.{ParsedLine}
use Rattle.t1s_script.specs.Values.{end_from}
use Rattle.t1s_script.specs.declared.words.Setting.TheVariants.{Count}
use Rattle.t1s_script.specs.declared.words.ScriptLine.TheVariants.{Set, Seed, End}
use Rattle.t1s_generator.proofs.Plans.{Plan, said_node, said_offer, said_after, said}

-- lines that are counted, of which none gives it
pub none_given : {X : Type 0} (value : ParsedLine → Option X) (line : ℕ → ParsedLine) (from count : ℕ) → ((k : ℕ) → value (line k) ≡ None) → filter_map value (map line (range_with_len from count)) ≡ []
none_given value line from zero h = refl
none_given value line from (suc count) h =
    ap (λ o. cons_option o (filter_map value (map line (range_with_len (from + 1) count)))) (h from) ∙ none_given value line (from + 1) count h

module _ (p : Plan) where
  abbrev nodes : List ParsedLine
  nodes = map (said_node p) (range_with_len 0 p.nodes)

  abbrev offers : List ParsedLine
  offers = map (said_offer p) (range_with_len 0 p.frames)

  -- all that the lines give, kind by kind
  pub values_said : {X : Type 0} (value : ParsedLine → Option X) → filter_map value (said p)
      ≡ cons_option (value (Ok (Set Count p.nodes))) (cons_option (value (Ok (Seed p.seed))) (filter_map value nodes ++ (filter_map value offers ++ cons_option (value (Ok (End p.last))) [])))
  values_said value =
      ap (λ xs. cons_option (value (Ok (Set Count p.nodes))) (cons_option (value (Ok (Seed p.seed))) xs))
      (filter_map-append value nodes (said_after p) ∙ ap (λ xs. filter_map value nodes ++ xs) (filter_map-append value offers (Ok (End p.last) ∷ [])))

  -- no line gives it
  pub none_said : {X : Type 0} (value : ParsedLine → Option X) → value (Ok (Set Count p.nodes)) ≡ None → value (Ok (Seed p.seed)) ≡ None → ((k : ℕ) → value (said_node p k) ≡ None)
      → ((k : ℕ) → value (said_offer p k) ≡ None) → value (Ok (End p.last)) ≡ None → filter_map value (said p) ≡ []
  none_said value count seed node offer end =
      values_said value
      ∙ ap (λ o. cons_option o (cons_option (value (Ok (Seed p.seed))) (filter_map value nodes ++ (filter_map value offers ++ cons_option (value (Ok (End p.last))) [])))) count
      ∙ ap (λ o. cons_option o (filter_map value nodes ++ (filter_map value offers ++ cons_option (value (Ok (End p.last))) []))) seed
      ∙ ap (λ xs. xs ++ (filter_map value offers ++ cons_option (value (Ok (End p.last))) [])) (none_given value (said_node p) 0 p.nodes node)
      ∙ ap (λ xs. xs ++ cons_option (value (Ok (End p.last))) []) (none_given value (said_offer p) 0 p.frames offer)
      ∙ ap (λ o. cons_option o []) end

  -- the one `end` line
  pub end_said : filter_map end_from (said p) ≡ p.last ∷ []
  end_said =
      values_said end_from
      ∙ ap (λ xs. xs ++ (filter_map end_from offers ++ p.last ∷ [])) (none_given end_from (said_node p) 0 p.nodes (λ k. refl))
      ∙ ap (λ xs. xs ++ p.last ∷ []) (none_given end_from (said_offer p) 0 p.frames (λ k. refl))
