-- Pieces that a receiver took off the line, and the frames in them.
use Rattle.std.proofs.Common.{◌≡◌, ℕ, zero, suc, ◌+◌, ◌-◌, ◌*◌, ◌/◌, ◌%◌, ◌<◌, ◌≤◌, ◌≢◌, Bool, true, false, cond, not, List, [], ◌∷◌, ◌++◌, length, get_or, take, drop, refl, ap, sym, ◌∙◌, arith, length-take, length-drop, take-append-drop, nat_eq, nat_lt, ◌==◌}
use Rattle.std.specs.List.{All, starts_with}
use Rattle.std.proofs.lemmas.Bool.{eqb-false, ltb-false, le-ltb, ne_eqb}
use Rattle.std.proofs.lemmas.Bool.Decides.{Decides-eqb, Decides-ltb}
use Rattle.std.proofs.lemmas.List.{drop_at, take_all}
use Rattle.std.proofs.lemmas.List.Elements.{All-nil, All-cons, All-head, All-tail, All-drop}
use Rattle.std.proofs.lemmas.Slice.Eq.{starts_is, ends_is}
use Rattle.t1s_frame.proofs.Nibbles.{length-nibbles_of}
use Rattle.t1s_frame.specs.Arrivals.{arrival_of, ends_with_check, octets_of}
use Rattle.t1s_frame.specs.Frame.{EndsWithCheck, IsFrame, nibbles_of}
use Rattle.t1s_frame.specs.FrameCheck.{check_octets, frame_check}
use Rattle.t1s_frame.specs.Laws.{GoodExactlyForFrames}
use Rattle.t1s_frame.specs.declared.arrivals.Arrival.TheVariants.{Good, BadFcs, Odd, Runt, NoSfd}

-- ---- octets and nibbles
pub octets_of-nibbles_of : (xs : List ℕ) → octets_of (nibbles_of xs) ≡ xs
octets_of-nibbles_of [] = refl
octets_of-nibbles_of (x ∷ xs) =
    let whole : x % 16 + 16 * (x / 16) ≡ x = omega arith in rw (whole, octets_of-nibbles_of xs) refl

abbrev IsNibble : ℕ → Type 0
IsNibble n = n < 16

abbrev IsOctet : ℕ → Type 0
IsOctet x = x < 256

nibbles_of-octets_of : (ns : List ℕ) → All IsNibble ns → length ns % 2 ≡ 0 → nibbles_of (octets_of ns) ≡ ns
nibbles_of-octets_of [] all even = refl
nibbles_of-octets_of (low ∷ []) all even = absurd (omega arith)
nibbles_of-octets_of (low ∷ high ∷ rest) all even =
    let below : low < 16 = All-head IsNibble low (high ∷ rest) all in
    let low_is : (low + 16 * high) % 16 ≡ low = omega arith in
    let high_is : (low + 16 * high) / 16 ≡ high = omega arith in
    rw (low_is, high_is)
    (ap (λ ys. low ∷ high ∷ ys)
    (nibbles_of-octets_of rest (All-tail IsNibble high rest (All-tail IsNibble low (high ∷ rest) all)) (omega arith)))

pub length-octets_of : (ns : List ℕ) → length (octets_of ns) ≡ length ns / 2
length-octets_of [] = refl
length-octets_of (low ∷ []) = refl
length-octets_of (low ∷ high ∷ rest) = omega (arith, length-octets_of rest)

octets_of-octets : (ns : List ℕ) → All IsNibble ns → All IsOctet (octets_of ns)
octets_of-octets [] all = All-nil IsOctet
octets_of-octets (low ∷ []) all = All-nil IsOctet
octets_of-octets (low ∷ high ∷ rest) all =
    let tail = All-tail IsNibble low (high ∷ rest) all in
    let low_below : low < 16 = All-head IsNibble low (high ∷ rest) all in
    let high_below : high < 16 = All-head IsNibble high rest tail in
    All-cons IsOctet (low + 16 * high) (octets_of rest) (omega arith) (octets_of-octets rest (All-tail IsNibble high rest tail))

-- one octet more
pub octets_of-more : (ns : List ℕ) (i : ℕ) → 2 * i + 1 < length ns
    → octets_of (take (2 * (i + 1)) ns) ≡ octets_of (take (2 * i) ns) ++ (get_or ns (2 * i) 0 + 16 * get_or ns (2 * i + 1) 0) ∷ []
octets_of-more [] i below = absurd (omega arith)
octets_of-more (low ∷ []) i below = absurd (omega arith)
octets_of-more (low ∷ high ∷ rest) zero below = refl
octets_of-more (low ∷ high ∷ rest) (suc i) below =
    let next : 2 * (suc i + 1) ≡ suc (suc (2 * (i + 1))) = omega arith in
    let here : 2 * suc i ≡ suc (suc (2 * i)) = omega arith in
    let after : suc (suc (2 * i)) + 1 ≡ suc (suc (2 * i + 1)) = omega arith in
    rw (next, here, after) (ap (λ ys. (low + 16 * high) ∷ ys) (octets_of-more rest i (omega arith)))

-- an odd last nibble makes no octet
pub octets_of-pairs : (ns : List ℕ) → octets_of (take (2 * (length ns / 2)) ns) ≡ octets_of ns
octets_of-pairs [] = refl
octets_of-pairs (low ∷ []) = refl
octets_of-pairs (low ∷ high ∷ rest) =
    let pairs : 2 * (suc (suc (length rest)) / 2) ≡ suc (suc (2 * (length rest / 2))) = omega arith in
    rw pairs (ap (λ ys. (low + 16 * high) ∷ ys) (octets_of-pairs rest))

-- ---- the check at the end
ends_with_check-true : (xs : List ℕ) → 4 ≤ length xs → ends_with_check xs ≡ true → EndsWithCheck xs
ends_with_check-true xs long test =
    let front = take (length xs - 4) xs in
    let check = check_octets (frame_check front) in
    let whole : xs ≡ front ++ check = (ends_is Decides-eqb xs check true (sym test)).0 refl in
    ap (drop (length xs - 4)) whole ∙ drop_at front check (length xs - 4) (simp length-take (omega arith))

ends_with_check-holds : (xs : List ℕ) → EndsWithCheck xs → ends_with_check xs ≡ true
ends_with_check-holds xs ends =
    let front = take (length xs - 4) xs in
    let check = check_octets (frame_check front) in
    (ends_is Decides-eqb xs check (ends_with_check xs) refl).1 front
    (sym (take-append-drop (length xs - 4) xs) ∙ ap (λ ys. front ++ ys) ends)

-- ---- the rows
good_tests : (sfd odd runt check : Bool)
    → cond (not sfd) NoSfd (cond odd Odd (cond runt Runt (cond (not check) BadFcs Good))) ≡ Good
    → (sfd ≡ true) × (odd ≡ false) × (runt ≡ false) × (check ≡ true)
good_tests false odd runt check e = absurd cc
good_tests true true runt check e = absurd cc
good_tests true false true check e = absurd cc
good_tests true false false false e = absurd cc
good_tests true false false true e = (refl, refl, refl, refl)

tests_good : (sfd odd runt check : Bool) → sfd ≡ true → odd ≡ false → runt ≡ false → check ≡ true
    → cond (not sfd) NoSfd (cond odd Odd (cond runt Runt (cond (not check) BadFcs Good))) ≡ Good
tests_good false odd runt check p q r s = absurd cc
tests_good true true runt check p q r s = absurd cc
tests_good true false true check p q r s = absurd cc
tests_good true false false false p q r s = absurd cc
tests_good true false false true p q r s = refl

even_from : (n : ℕ) → (n % 2 == 1) ≡ false → n % 2 ≡ 0
even_from n test =
    let not_one : n % 2 ≢ 1 = eqb-false (n % 2) 1 test in omega arith

pub delimiter_from : (ns : List ℕ) → starts_with nat_eq ns (5 ∷ 5 ∷ 13 ∷ []) ≡ true → ns ≡ 5 ∷ 5 ∷ 13 ∷ drop 3 ns
delimiter_from ns test = (starts_is Decides-eqb ns (5 ∷ 5 ∷ 13 ∷ []) true (sym test)).0 refl

good_only : (ns : List ℕ) → All IsNibble ns → length ns ≤ 3047 → arrival_of ns ≡ Good
    → (octets : List ℕ) × IsFrame octets × (ns ≡ 5 ∷ 5 ∷ 13 ∷ nibbles_of octets)
unfolding arrival_of
good_only ns all fits good =
    let body = drop 3 ns in
    let octets = octets_of body in
    let tests =
    good_tests (starts_with nat_eq ns (5 ∷ 5 ∷ 13 ∷ [])) (length body % 2 == 1) (nat_lt (length body / 2) 64)
    (ends_with_check octets) good in
    let nibbles : All IsNibble body = All-drop IsNibble 3 ns all in
    let body_length : length body ≡ length ns - 3 = length-drop 3 ns in
    let octets_length : length octets ≡ length body / 2 = length-octets_of body in
    let not_runt : 64 ≤ length body / 2 = ltb-false (length body / 2) 64 tests.2 in
    let shortest : 64 ≤ length octets = omega arith in
    let longest : length octets ≤ 1522 = omega arith in
    let frame : IsFrame octets =
    record {
      shortest = shortest;
      longest = longest;
      ranges = octets_of-octets body nibbles;
      checked = ends_with_check-true octets (omega arith) tests.3;
    } in (
      octets,
      frame,
      delimiter_from ns tests.0
          ∙ ap (λ ys. 5 ∷ 5 ∷ 13 ∷ ys) (sym (nibbles_of-octets_of body nibbles (even_from (length body) tests.1))),
    )

good_frame : (octets : List ℕ) → IsFrame octets → arrival_of (5 ∷ 5 ∷ 13 ∷ nibbles_of octets) ≡ Good
unfolding arrival_of
good_frame octets frame =
    let twice = length-nibbles_of octets in
    let shortest = frame.shortest in
    tests_good true (length (nibbles_of octets) % 2 == 1) (nat_lt (length (nibbles_of octets) / 2) 64)
    (ends_with_check (octets_of (nibbles_of octets))) refl
    (ne_eqb (length (nibbles_of octets) % 2) 1 (λ one. absurd (omega arith)))
    (le-ltb (length (nibbles_of octets) / 2) 64 (omega arith))
    (ap ends_with_check (octets_of-nibbles_of octets) ∙ ends_with_check-holds octets frame.checked)

pub good_exactly_for_frames : GoodExactlyForFrames
good_exactly_for_frames ns all fits = (good_only ns all fits, λ (octets, frame, is). ap arrival_of is ∙ good_frame octets frame)

-- ---- the rows, one by one
-- the rest of a slice after the delimiter
pub take-drop_delimiter : (ns : List ℕ) → take (length ns - 3) (drop 3 ns) ≡ drop 3 ns
take-drop_delimiter ns = take_all (length ns - 3) (drop 3 ns) (simp length-drop (omega arith))

pub no_delimiter : (ns : List ℕ) → starts_with nat_eq ns (5 ∷ 5 ∷ 13 ∷ []) ≡ false → NoSfd ≡ arrival_of ns
unfolding arrival_of
no_delimiter ns none = rw none refl

module _ (ns : List ℕ) (begins : starts_with nat_eq ns (5 ∷ 5 ∷ 13 ∷ []) ≡ true) where
  pub odd_nibbles : length (drop 3 ns) % 2 ≡ 1 → Odd ≡ arrival_of ns
  unfolding arrival_of
  odd_nibbles one = rw (begins, (Decides-eqb (length (drop 3 ns) % 2) 1).1 one) refl

  module _ (even : length (drop 3 ns) % 2 ≢ 1) where
    pub few_octets : length (drop 3 ns) / 2 < 64 → Runt ≡ arrival_of ns
    unfolding arrival_of
    few_octets few = rw (begins, ne_eqb (length (drop 3 ns) % 2) 1 even, (Decides-ltb (length (drop 3 ns) / 2) 64).1 few) refl

    module _ (enough : 64 ≤ length (drop 3 ns) / 2) where
      pub wrong_check : ends_with_check (octets_of (drop 3 ns)) ≡ false → BadFcs ≡ arrival_of ns
      unfolding arrival_of
      wrong_check wrong =
          rw (begins, ne_eqb (length (drop 3 ns) % 2) 1 even, le-ltb (length (drop 3 ns) / 2) 64 enough, wrong) refl

      pub right_check : ends_with_check (octets_of (drop 3 ns)) ≡ true → Good ≡ arrival_of ns
      unfolding arrival_of
      right_check right =
          rw (begins, ne_eqb (length (drop 3 ns) % 2) 1 even, le-ltb (length (drop 3 ns) / 2) 64 enough, right) refl
