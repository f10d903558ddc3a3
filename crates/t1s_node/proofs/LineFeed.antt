-- The delay line between a MAC that gives the nibbles of a frame and a transmitter that pops them.
use Rattle.std.proofs.Common.{◌≡◌, ℕ, ◌+◌, ◌<◌, ◌≤◌, false, List, [], ◌∷◌, ◌++◌, length, drop, slice_index, refl, sym, ◌∙◌, ap, append_assoc, arith}
use Rattle.std.proofs.lemmas.List.{drop_more, length-append}
use Rattle.std.proofs.lemmas.Bool.Decides.{nat_tests}
use Rattle.plca_data.specs.DataPathTable.{is_full, pushed}
use Rattle.plca_data.specs.declared.MacOut.TheVariants.{Nibble}

-- of these nibbles so many have been given and so many popped, and the line holds those between
pub record Feeds (ns : List ℕ) (given popped : ℕ) (line : List ℕ) : Type 0 where
  pub rest : line ++ drop given ns ≡ drop popped ns
  pub count : length line + popped ≡ given
  pub within : given ≤ length ns

pub first_given : (ns : List ℕ) (x : ℕ) → x ≡ slice_index ns 0 → 0 < length ns → Feeds ns 1 0 (x ∷ [])
first_given [] x is some = absurd (omega arith)
first_given (n ∷ ns) x is some = record { rest = ap (λ y. y ∷ ns) is; count = refl; within = omega arith }

pub one_given : (ns : List ℕ) (given popped : ℕ) (line : List ℕ) → Feeds ns given popped line → given < length ns
    → Feeds ns (given + 1) popped (line ++ slice_index ns given ∷ [])
one_given ns given popped line h more = record {
  rest = append_assoc line (slice_index ns given ∷ []) (drop (given + 1) ns) ∙ ap (λ xs. line ++ xs) (sym (drop_more ns given 0 more)) ∙ h.rest;
  count = let e = length-append line (slice_index ns given ∷ []) in omega (arith, h.count);
  within = omega arith;
}

pub one_popped : (ns : List ℕ) (given popped : ℕ) (x : ℕ) (line : List ℕ) → Feeds ns given popped (x ∷ line)
    → Feeds ns given (popped + 1) line
one_popped ns given popped x line h =
    let more : popped < length ns = omega (arith, h.count, h.within) in
    let same : x ∷ (line ++ drop given ns) ≡ slice_index ns popped ∷ drop (popped + 1) ns = h.rest ∙ drop_more ns popped 0 more in
    record { rest = ap (drop 1) same; count = omega (arith, h.count); within = h.within }

pub popped_is : (ns : List ℕ) (given popped : ℕ) (x : ℕ) (line : List ℕ) → Feeds ns given popped (x ∷ line)
    → slice_index ns popped ≡ x
popped_is ns given popped x line h =
    let more : popped < length ns = omega (arith, h.count, h.within) in
    let same : x ∷ (line ++ drop given ns) ≡ slice_index ns popped ∷ drop (popped + 1) ns = h.rest ∙ drop_more ns popped 0 more in
    sym (ap (λ xs. slice_index xs 0) same)

-- a line with room takes what the MAC gives
pub not_full : (line : List ℕ) → length line < 97 → is_full line ≡ false
not_full line room = grind (arith, nat_tests)

pub takes : (line : List ℕ) (x : ℕ) → length line < 97 → pushed (Nibble x) line ≡ line ++ x ∷ []
takes line x room = let e = not_full line room in rw e refl

pub full_or_room : (line : List ℕ) → is_full line ≡ false → length line < 97
full_or_room line e = grind (arith, nat_tests)
