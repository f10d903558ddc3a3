-- The nibbles that carry a frame, by their places.
use Rattle.std.proofs.Common.{◌≡◌, ℕ, zero, suc, ◌+◌, ◌*◌, ◌/◌, ◌%◌, ◌<◌, ◌≢◌, List, [], ◌∷◌, ◌++◌, Some, length, get_or, replicate, refl, sym, ◌∙◌, arith, slice_get}
use Rattle.t1s_frame.specs.Frame.{nibble_list, nibbles_of}

pub length-nibbles_of : (xs : List ℕ) → length (nibbles_of xs) ≡ 2 * length xs
length-nibbles_of [] = refl
length-nibbles_of (x ∷ xs) = omega (arith, length-nibbles_of xs)

pub length-nibble_list : (xs : List ℕ) → length (nibble_list xs) ≡ 16 + 2 * length xs
unfolding nibble_list
length-nibble_list xs = omega (arith, length-nibbles_of xs)

-- the two nibbles of an octet
even : (xs : List ℕ) (k j : ℕ) → k ≡ 2 * j → j < length xs → slice_get (nibbles_of xs) k ≡ Some (get_or xs j 0 % 16)
even [] k j e below = absurd (omega arith)
even (x ∷ xs) k zero e below = let at : k ≡ 0 = omega arith in rw at refl
even (x ∷ xs) k (suc j) e below =
    let at : k ≡ suc (suc (2 * j)) = omega arith in rw at (even xs (2 * j) j refl (omega arith))

odd : (xs : List ℕ) (k j : ℕ) → k ≡ 2 * j + 1 → j < length xs → slice_get (nibbles_of xs) k ≡ Some (get_or xs j 0 / 16)
odd [] k j e below = absurd (omega arith)
odd (x ∷ xs) k zero e below = let at : k ≡ 1 = omega arith in rw at refl
odd (x ∷ xs) k (suc j) e below =
    let at : k ≡ suc (suc (2 * j + 1)) = omega arith in rw at (odd xs (2 * j + 1) j refl (omega arith))

slice_get-append : (xs ys : List ℕ) (i k : ℕ) → i ≡ length xs + k → slice_get (xs ++ ys) i ≡ slice_get ys k
slice_get-append [] ys i k e = let at : i ≡ k = omega arith in rw at refl
slice_get-append (x ∷ xs) ys i k e =
    let at : i ≡ suc (length xs + k) = omega arith in rw at (slice_get-append xs ys (length xs + k) k refl)

slice_get-replicate : (n x i : ℕ) (ys : List ℕ) → i < n → slice_get (replicate n x ++ ys) i ≡ Some x
slice_get-replicate zero x i ys below = absurd (omega arith)
slice_get-replicate (suc n) x zero ys below = refl
slice_get-replicate (suc n) x (suc i) ys below = slice_get-replicate n x i ys (omega arith)

pub in_preamble : (xs : List ℕ) (i : ℕ) → i < 15 → Some 5 ≡ slice_get (nibble_list xs) i
unfolding nibble_list
in_preamble xs i below = sym (slice_get-replicate 15 5 i (13 ∷ nibbles_of xs) below)

pub at_delimiter : (xs : List ℕ) (i : ℕ) → i ≡ 15 → Some 13 ≡ slice_get (nibble_list xs) i
unfolding nibble_list
at_delimiter xs i at = rw at refl

after_preamble : (xs : List ℕ) (i k : ℕ) → i ≡ 16 + k → slice_get (nibble_list xs) i ≡ slice_get (nibbles_of xs) k
unfolding nibble_list
after_preamble xs i k at = slice_get-append (replicate 15 5 ++ 13 ∷ []) (nibbles_of xs) i k at

pub low_nibble : (xs : List ℕ) (i place : ℕ) → i ≡ 16 + place → place % 2 ≡ 0 → place / 2 < length xs
    → Some (get_or xs (place / 2) 0 % 16) ≡ slice_get (nibble_list xs) i
low_nibble xs i place at digit below =
    sym (after_preamble xs i place at ∙ even xs place (place / 2) (omega arith) below)

pub high_nibble : (xs : List ℕ) (i place : ℕ) → i ≡ 16 + place → place % 2 ≢ 0 → place / 2 < length xs
    → Some (get_or xs (place / 2) 0 / 16) ≡ slice_get (nibble_list xs) i
high_nibble xs i place at digit below =
    sym (after_preamble xs i place at ∙ odd xs place (place / 2) (omega arith) below)
