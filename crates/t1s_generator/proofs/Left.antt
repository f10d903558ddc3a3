-- Lists that are counted, the lines that are left, and the first of them.
use Rattle.std.proofs.Common.{◌≡◌, ℕ, zero, suc, All, ◌+◌, ◌-◌, ◌<◌, ◌≤◌, List, [], ◌∷◌, ◌++◌, map, drop, refl, ap, arith}
use Rattle.std.specs.List.{range_with_len}
use Rattle.std.proofs.lemmas.List.Elements.{All-cons, All-nil}
use Rattle.t1s_generator.specs.Generated.{head_lines}

-- the first of the lines that are counted
pub first_counted : {X : Type 0} (f : ℕ → X) (k n : ℕ) → k < n → map f (range_with_len k (n - k)) ≡ f k ∷ map f (range_with_len (k + 1) (n - (k + 1)))
first_counted f k n below =
    let more : n - k ≡ suc (n - (k + 1)) = omega arith in
    ap (λ m. map f (range_with_len k m)) more

-- all of them were given
pub none_counted : {X : Type 0} (f : ℕ → X) (k n : ℕ) → n ≤ k → map f (range_with_len k (n - k)) ≡ []
none_counted f k n above =
    let none : n - k ≡ 0 = omega arith in
    ap (λ m. map f (range_with_len k m)) none

-- what holds of each that is counted
pub each_counted : {X : Type 0} (P : X → Type 0) (f : ℕ → X) (from count : ℕ) → ((k : ℕ) → k < from + count → P (f k)) → All P (map f (range_with_len from count))
each_counted P f from zero each = All-nil P
each_counted P f from (suc count) each =
    All-cons P (f from) (map f (range_with_len (from + 1) count)) (each from (omega arith)) (each_counted P f (from + 1) count (λ k below. each k (omega arith)))

-- all lines before the nodes were given
pub none_before : (seed nodes heads : ℕ) → 3 ≤ heads → heads ≤ 3 → drop heads (head_lines seed nodes) ≡ []
none_before seed nodes heads low high =
    let all : heads ≡ 3 = omega arith in
    ap (λ k. drop k (head_lines seed nodes)) all

-- the first line where those of earlier kinds were given
pub first_node : {X : Type 0} (h a b rest : List X) (x y : X) → h ≡ [] → a ≡ x ∷ b → y ≡ x → h ++ (a ++ rest) ≡ y ∷ (h ++ (b ++ rest))
first_node h a b rest x y no_head here is = rw (no_head, here, is) refl

pub first_frame : {X : Type 0} (h n a b rest : List X) (x y : X) → h ≡ [] → n ≡ [] → a ≡ x ∷ b → y ≡ x → h ++ (n ++ (a ++ rest)) ≡ y ∷ (h ++ (n ++ (b ++ rest)))
first_frame h n a b rest x y no_head no_node here is = rw (no_head, no_node, here, is) refl

pub last_line : {X : Type 0} (h n f : List X) (x y : X) → h ≡ [] → n ≡ [] → f ≡ [] → y ≡ x → h ++ (n ++ (f ++ x ∷ [])) ≡ y ∷ (h ++ (n ++ (f ++ [])))
last_line h n f x y no_head no_node no_frame is = rw (no_head, no_node, no_frame, is) refl
