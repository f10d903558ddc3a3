-- Texts that are cut into parts.
use Rattle.std.proofs.Common.{◌≡◌, ℕ, ◌+◌, ◌≤◌, Bool, nat_lt, Some, None, List, [], ◌∷◌, length, take, drop, position, arith, subst}
use Rattle.std.specs.List.{slice_split, position_or_len}
use Rattle.std.proofs.lemmas.Option.{cond_some}
use Rattle.std.proofs.lemmas.List.Splits.{slice_split_first, slice_split_none}
use Rattle.std.proofs.lemmas.List.Sums.{fails_before_first}
use borrow.Author.Tests.{ltb-true}

-- the parts where the first element that passes stands at i
pub slice_split-found : (p : ℕ → Bool) (xs : List ℕ) (i : ℕ) → position p xs ≡ Some i → slice_split p xs ≡ take i xs ∷ slice_split p (drop (i + 1) xs)
slice_split-found p xs i h =
    let found = cond_some (nat_lt (position_or_len p xs) (length xs)) (position_or_len p xs) i h in
    let parts = slice_split_first p xs 0 (ltb-true _ _ found.0) in
    subst (λ k. slice_split p xs ≡ take k xs ∷ slice_split p (drop (k + 1) xs)) found.1 parts

-- the one part where no element passes
pub slice_split-lacks : (p : ℕ → Bool) (xs : List ℕ) → position p xs ≡ None → slice_split p xs ≡ xs ∷ []
slice_split-lacks p xs h =
    let far : length xs ≤ position_or_len p xs = grind arith in
    slice_split_none p xs (λ k d below. fails_before_first p xs k d (omega arith))
