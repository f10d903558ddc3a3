-- Nibbles that are packed into octets, one after another.
use Rattle.std.proofs.Common.{◌≡◌, ℕ, zero, suc, ◌+◌, ◌-◌, ◌*◌, ◌/◌, ◌%◌, ◌<◌, ◌≤◌, ◌≢◌, Bool, true, false, ◌==◌, List, [], ◌∷◌, ◌++◌, length, get_or, set, take, drop, refl, ap, sym, ◌∙◌, arith, length-take, length-drop, nat_eq, if◌then◌else◌}
use Rattle.std.specs.List.{starts_with}
use Rattle.std.proofs.lemmas.Grind.{common_steps}
use Rattle.std.proofs.lemmas.Bool.{eqb-true, eqb-false}
use Rattle.t1s_frame.specs.Frame.{nibbles_of}
use Rattle.t1s_frame.specs.Arrivals.{octets_of}
use Rattle.t1s_frame.specs.PackedNibbles.{packed_nibbles, packed_octet, is_delimiter, IsEnd}
use Rattle.t1s_frame.proofs.Nibbles.{length-nibbles_of}
use Rattle.t1s_frame.proofs.Pieces.{delimiter_from}

pub length-packed : (xs : List ℕ) (e : ℕ) → 1 ≤ e → e ≤ 2 * length xs → length (packed_nibbles xs e) + 1 ≡ e
unfolding packed_nibbles
length-packed xs e some fits =
    let all : length (nibbles_of xs) ≡ 2 * length xs = length-nibbles_of xs in
    simp (length-drop, length-take, all) (grind (arith, common_steps))

pub packed-none : (xs : List ℕ) → packed_nibbles xs 1 ≡ []
unfolding packed_nibbles
packed-none [] = refl
packed-none (x ∷ xs) = refl

-- ---- one nibble more

take-low : (xs : List ℕ) (j k m n : ℕ) → k ≡ 2 * j → m ≡ 2 * j + 1 → j < length xs → n < 16
    → take m (nibbles_of (set xs j n)) ≡ take k (nibbles_of xs) ++ n ∷ []
take-low [] j k m n ek em lt low = absurd (omega arith)
take-low (x ∷ xs) zero k m n ek em lt low =
    let k_is : k ≡ 0 = omega arith in
    let m_is : m ≡ 1 = omega arith in
    let n_is : n % 16 ≡ n = omega arith in
    rw (k_is, m_is, n_is) refl
take-low (x ∷ xs) (suc j) k m n ek em lt low =
    let k_is : k ≡ suc (suc (2 * j)) = omega arith in
    let m_is : m ≡ suc (suc (2 * j + 1)) = omega arith in
    rw (k_is, m_is) (ap (λ ys. x % 16 ∷ x / 16 ∷ ys) (take-low xs j (2 * j) (2 * j + 1) n refl refl (omega arith) low))

take-high : (xs : List ℕ) (j k m n : ℕ) → k ≡ 2 * j + 1 → m ≡ 2 * j + 2 → j < length xs → n < 16
    → take m (nibbles_of (set xs j (get_or xs j 0 % 16 + 16 * n))) ≡ take k (nibbles_of xs) ++ n ∷ []
take-high [] j k m n ek em lt low = absurd (omega arith)
take-high (x ∷ xs) zero k m n ek em lt low =
    let k_is : k ≡ 1 = omega arith in
    let m_is : m ≡ 2 = omega arith in
    let low_is : (x % 16 + 16 * n) % 16 ≡ x % 16 = omega arith in
    let high_is : (x % 16 + 16 * n) / 16 ≡ n = omega arith in
    rw (k_is, m_is, low_is, high_is) refl
take-high (x ∷ xs) (suc j) k m n ek em lt low =
    let k_is : k ≡ suc (suc (2 * j + 1)) = omega arith in
    let m_is : m ≡ suc (suc (2 * j + 2)) = omega arith in
    rw (k_is, m_is) (ap (λ ys. x % 16 ∷ x / 16 ∷ ys) (take-high xs j (2 * j + 1) (2 * j + 2) n refl refl (omega arith) low))

-- the place before the first nibble is left out of both
drop-first : (xs zs : List ℕ) (e : ℕ) → 1 ≤ e → 1 ≤ length xs
    → drop 1 (take e (nibbles_of xs) ++ zs) ≡ drop 1 (take e (nibbles_of xs)) ++ zs
drop-first [] zs e some long = absurd (omega arith)
drop-first (x ∷ xs) zs zero some long = absurd (omega arith)
drop-first (x ∷ xs) zs (suc e) some long = refl

packed-low : (xs : List ℕ) (e n : ℕ) → 1 ≤ e → e % 2 ≡ 0 → e < 2 * length xs → n < 16
    → packed_nibbles (set xs (e / 2) n) (e + 1) ≡ packed_nibbles xs e ++ n ∷ []
unfolding packed_nibbles
packed-low xs e n some even fits low =
    ap (drop 1) (take-low xs (e / 2) e (e + 1) n (omega arith) (omega arith) (omega arith) low)
    ∙ drop-first xs (n ∷ []) e some (omega arith)

packed-high : (xs : List ℕ) (e n : ℕ) → 1 ≤ e → e % 2 ≢ 0 → e < 2 * length xs → n < 16
    → packed_nibbles (set xs (e / 2) (get_or xs (e / 2) 0 % 16 + 16 * n)) (e + 1) ≡ packed_nibbles xs e ++ n ∷ []
unfolding packed_nibbles
packed-high xs e n some odd fits low =
    ap (drop 1) (take-high xs (e / 2) e (e + 1) n (omega arith) (omega arith) (omega arith) low)
    ∙ drop-first xs (n ∷ []) e some (omega arith)

pub packed-push : (xs : List ℕ) (e n : ℕ) → 1 ≤ e → e < 2 * length xs → n < 16
    → packed_nibbles (set xs (e / 2) (packed_octet (get_or xs (e / 2) 0) e n)) (e + 1) ≡ packed_nibbles xs e ++ n ∷ []
packed-push xs e n some fits low = by_place (e % 2 == 0) refl
  where
    by_place : (b : Bool) → (e % 2 == 0) ≡ b
        → packed_nibbles (set xs (e / 2) (if b then n else get_or xs (e / 2) 0 % 16 + 16 * n)) (e + 1) ≡ packed_nibbles xs e ++ n ∷ []
    by_place true h = packed-low xs e n some (eqb-true (e % 2) 0 h) fits low
    by_place false h = packed-high xs e n some (eqb-false (e % 2) 0 h) fits low

-- where there is room for a nibble
pub packed-room : (xs ns : List ℕ) (e : ℕ) → length xs ≡ 1524 → IsEnd e → packed_nibbles xs e ≡ ns → length ns < 3047 → e < 3048
packed-room xs ns e long h is room =
    let least : 1 ≤ e = h.least in
    let most : e ≤ 3048 = h.most in
    let count : length (packed_nibbles xs e) + 1 ≡ e = length-packed xs e least (omega arith) in
    let same : length (packed_nibbles xs e) ≡ length ns = ap length is in
    omega arith

-- ---- the octets after the first three nibbles

take-nil : (m : ℕ) → take {A = ℕ} m [] ≡ []
take-nil zero = refl
take-nil (suc m) = refl

octets-take : (xs : List ℕ) (k : ℕ) → octets_of (take k (nibbles_of xs)) ≡ take (k / 2) xs
octets-take [] zero = refl
octets-take [] (suc k) = sym (take-nil (suc k / 2))
octets-take (x ∷ xs) zero = refl
octets-take (x ∷ xs) (suc zero) = refl
octets-take (x ∷ xs) (suc (suc k)) =
    let half : suc (suc k) / 2 ≡ suc (k / 2) = omega arith in
    let whole : x % 16 + 16 * (x / 16) ≡ x = omega arith in
    rw (half, whole) (ap (λ ys. x ∷ ys) (octets-take xs k))

pub octets-packed : (xs : List ℕ) (e : ℕ) → 2 ≤ length xs → octets_of (drop 3 (packed_nibbles xs e)) ≡ take (e / 2 - 2) (drop 2 xs)
unfolding packed_nibbles
octets-packed [] e long = absurd (omega arith)
octets-packed (x ∷ []) e long = absurd (omega arith)
octets-packed (x ∷ y ∷ xs) zero long = refl
octets-packed (x ∷ y ∷ xs) (suc zero) long = refl
octets-packed (x ∷ y ∷ xs) (suc (suc zero)) long = refl
octets-packed (x ∷ y ∷ xs) (suc (suc (suc zero))) long = refl
octets-packed (x ∷ y ∷ xs) (suc (suc (suc (suc k)))) long =
    let half : suc (suc (suc (suc k))) / 2 - 2 ≡ k / 2 = omega arith in rw half (octets-take xs k)

-- ---- the delimiter

pub delimited-packed : (xs : List ℕ) (e : ℕ) → 2 ≤ length xs → 4 ≤ e
    → starts_with nat_eq (packed_nibbles xs e) (5 ∷ 5 ∷ 13 ∷ [])
    ≡ is_delimiter (get_or xs 0 0) (get_or xs 1 0)
unfolding packed_nibbles
delimited-packed [] e long some = absurd (omega arith)
delimited-packed (x ∷ []) e long some = absurd (omega arith)
delimited-packed (x ∷ y ∷ xs) zero long some = absurd (omega arith)
delimited-packed (x ∷ y ∷ xs) (suc zero) long some = absurd (omega arith)
delimited-packed (x ∷ y ∷ xs) (suc (suc zero)) long some = absurd (omega arith)
delimited-packed (x ∷ y ∷ xs) (suc (suc (suc zero))) long some = absurd (omega arith)
delimited-packed (x ∷ y ∷ xs) (suc (suc (suc (suc k)))) long some = grind (arith, common_steps)

pub undelimited-packed : (xs : List ℕ) (e : ℕ) → e < 4 → starts_with nat_eq (packed_nibbles xs e) (5 ∷ 5 ∷ 13 ∷ []) ≡ false
unfolding packed_nibbles
undelimited-packed xs e few = by_test (starts_with nat_eq (packed_nibbles xs e) (5 ∷ 5 ∷ 13 ∷ [])) refl
  where
    by_test : (b : Bool) → starts_with nat_eq (packed_nibbles xs e) (5 ∷ 5 ∷ 13 ∷ []) ≡ b → b ≡ false
    by_test false h = refl
    by_test true h =
        let is : packed_nibbles xs e ≡ 5 ∷ 5 ∷ 13 ∷ drop 3 (packed_nibbles xs e) = delimiter_from (packed_nibbles xs e) h in
        let long : length (packed_nibbles xs e) ≡ suc (suc (suc (length (drop 3 (packed_nibbles xs e))))) = ap length is in
        let short : length (packed_nibbles xs e) ≤ e - 1 = simp (length-drop, length-take) (grind (arith, common_steps)) in
        absurd (omega arith)

-- ---- what follows the delimiter

rest-counted : (ns : List ℕ) → starts_with nat_eq ns (5 ∷ 5 ∷ 13 ∷ []) ≡ true → length ns ≡ suc (suc (suc (length (drop 3 ns))))
rest-counted ns h = ap length (delimiter_from ns h)

pub odd-rest : (ns : List ℕ) (count : ℕ) → count ≡ length ns → starts_with nat_eq ns (5 ∷ 5 ∷ 13 ∷ []) ≡ true → count % 2 ≡ 0
    → length (drop 3 ns) % 2 ≡ 1
odd-rest ns count is h even = let counted = rest-counted ns h in omega arith

pub even-rest : (ns : List ℕ) (count : ℕ) → count ≡ length ns → starts_with nat_eq ns (5 ∷ 5 ∷ 13 ∷ []) ≡ true → count % 2 ≢ 0
    → length (drop 3 ns) % 2 ≢ 1
even-rest ns count is h odd = λ one. let counted = rest-counted ns h in absurd (odd (omega arith))
