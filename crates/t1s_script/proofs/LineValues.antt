-- All that lines give of one value, and of one more line.
use Rattle.std.proofs.Common.{◌≡◌, List, [], ◌∷◌, ◌++◌, get_or, Option, Some, None, refl, sym, ◌∙◌, ap, unwrap_or}
use Rattle.std.specs.Prelude.{◌||◌, is_some, filter_map}
use Rattle.std.specs.Option.{option_to_list}
use Rattle.std.specs.List.{cons_option}
use Rattle.std.proofs.lemmas.List.{append-nil}
use Rattle.std.proofs.lemmas.List.Elements.{filter_map-append}
use Rattle.t1s_script.specs.ParsedLine.{ParsedLine}
use Rattle.t1s_script.specs.Values.{some_gives, first_given}

module _ {X : Type 0} (value : ParsedLine → Option X) where
  -- the test over all lines is the test of the value
  pub gives : (lines : List ParsedLine) (o : Option X) → option_to_list o ≡ filter_map value lines → some_gives value lines ≡ is_some o
  gives [] None e = refl
  gives [] (Some v) e = absurd cc
  gives (line ∷ lines) o e = go (value line) o (gives lines o) e
    where
      go : (here : Option X) (o : Option X) → (option_to_list o ≡ filter_map value lines → some_gives value lines ≡ is_some o) → option_to_list o ≡ cons_option here (filter_map value lines) → (is_some here || some_gives value lines) ≡ is_some o
      go None o later e = later e
      go (Some v) None later e = absurd cc
      go (Some v) (Some w) later e = refl

  -- a line that gives none
  pub kept : (lines : List ParsedLine) (line : ParsedLine) (o : Option X) → option_to_list o ≡ filter_map value lines → value line ≡ None → option_to_list o ≡ filter_map value (lines ++ line ∷ [])
  kept lines line o e none =
      e ∙ sym (append-nil (filter_map value lines)) ∙ sym (filter_map-append value lines (line ∷ []) ∙ ap (λ here. filter_map value lines ++ cons_option here []) none)

  -- the first line that gives one
  pub gained : (lines : List ParsedLine) (line : ParsedLine) (o : Option X) (v : X) → option_to_list o ≡ filter_map value lines → o ≡ None → value line ≡ Some v → v ∷ [] ≡ filter_map value (lines ++ line ∷ [])
  gained lines line o v e none some =
      let free : [] ≡ filter_map value lines = ap option_to_list (sym none) ∙ e in
      sym (filter_map-append value lines (line ∷ []) ∙ ap (λ here. filter_map value lines ++ cons_option here []) some ∙ ap (λ before. before ++ v ∷ []) (sym free))

  -- all that the lines give, where one more line gives none, and where it gives one
  pub same_values : (lines : List ParsedLine) (line : ParsedLine) → value line ≡ None → filter_map value lines ≡ filter_map value (lines ++ line ∷ [])
  same_values lines line none =
      sym (append-nil (filter_map value lines)) ∙ sym (filter_map-append value lines (line ∷ []) ∙ ap (λ here. filter_map value lines ++ cons_option here []) none)

  pub one_more : (lines : List ParsedLine) (line : ParsedLine) (v : X) → value line ≡ Some v → filter_map value lines ++ v ∷ [] ≡ filter_map value (lines ++ line ∷ [])
  one_more lines line v some =
      sym (filter_map-append value lines (line ∷ []) ∙ ap (λ here. filter_map value lines ++ cons_option here []) some)

  -- the value or a default
  pub first : (lines : List ParsedLine) (o : Option X) (otherwise : X) → option_to_list o ≡ filter_map value lines → unwrap_or o otherwise ≡ first_given value lines otherwise
  first lines None otherwise e = ap (λ xs. get_or xs 0 otherwise) e
  first lines (Some v) otherwise e = ap (λ xs. get_or xs 0 otherwise) e
