-- Texts that are cut into parts.
use Rattle.std.proofs.Common.{◌≡◌, ℕ, ◌+◌, ◌<◌, ◌≤◌, Bool, nat_lt, Option, Some, None, List, [], ◌∷◌, length, take, drop, position, refl, sym, ap, ◌∙◌, arith, subst, ◌==◌, unwrap_or, MatchOption, Bor}
use Rattle.std.specs.List.{slice_split, position_or_len}
use Rattle.std.proofs.lemmas.Option.{cond_some}
use Rattle.std.proofs.lemmas.List.Splits.{slice_split_first, slice_split_none, length-slice_split}
use Rattle.std.specs.Option.{option_map_or}
use Rattle.std.proofs.lemmas.List.Sums.{fails_before_first}
use borrow.Author.Tests.{ltb-true}
use Rattle.t1s_script.specs.Lines.{without_empty_last, lines_of}

-- the parts where the first element that passes stands at i
pub slice_split-found : (p : ℕ → Bool) (xs : List ℕ) (i : ℕ) → position p xs ≡ Some i → slice_split p xs ≡ take i xs ∷ slice_split p (drop (i + 1) xs)
slice_split-found p xs i h =
    let found = cond_some (nat_lt (position_or_len p xs) (length xs)) (position_or_len p xs) i h in
    let parts = slice_split_first p xs 0 (ltb-true _ _ found.0) in
    subst (λ k. slice_split p xs ≡ take k xs ∷ slice_split p (drop (k + 1) xs)) found.1 parts

-- the one part where no element passes
pub slice_split-lacks : (p : ℕ → Bool) (xs : List ℕ) → position p xs ≡ None → slice_split p xs ≡ xs ∷ []
slice_split-lacks p xs h =
    let far : length xs ≤ position_or_len p xs = grind arith in
    slice_split_none p xs (λ k d below. fails_before_first p xs k d (omega arith))

-- ---- lines

-- a part before others
without_empty_last-cons : (part : List ℕ) (parts : List (List ℕ)) → 0 < length parts → without_empty_last (part ∷ parts) ≡ part ∷ without_empty_last parts
without_empty_last-cons part [] some = absurd (omega arith)
without_empty_last-cons part (next ∷ parts) some = refl

-- the last part, where it isn't empty
without_empty_last-one : (part : List ℕ) → 0 < length part → without_empty_last (part ∷ []) ≡ part ∷ []
without_empty_last-one part some = grind arith

-- the first line of a text and those of what stands after it
pub lines_of-cut : (text line : List ℕ) (rest : Option (Bor (List ℕ))) (none : Bor (List ℕ)) → none.now ≡ [] → 0 < length text
    → slice_split (λ x. x == 10) text ≡ line ∷ option_map_or (λ (r : Bor (List ℕ)). slice_split (λ x. x == 10) r.now) rest []
    → MatchOption rest (line ≡ text) (λ r. length line + 1 + length r.now ≡ length text)
    → lines_of text ≡ line ∷ lines_of (unwrap_or rest none).now
lines_of-cut text line None none empty some parts whole =
    ap without_empty_last parts ∙ without_empty_last-one line (omega (arith, ap length whole)) ∙ ap (λ xs. line ∷ lines_of xs) (sym empty)
lines_of-cut text line (Some rest) none empty some parts whole =
    ap without_empty_last parts ∙ without_empty_last-cons line _ (omega (arith, length-slice_split (λ x. x == 10) rest.now))
