-- Scrambled and descrambled lists of nibbles, for loops that take a nibble a turn.
use Rattle.std.proofs.Common.{◌≡◌, refl, ℕ, zero, suc, ◌<◌, Bool, List, [], ◌∷◌, ◌++◌, length, drop, sym, ◌∙◌, ap, arith}
use Rattle.std.specs.Prelude.{All}
use Rattle.std.proofs.lemmas.List.{drop-drop}
use Rattle.std.proofs.lemmas.List.Elements.{All-cons}
use Rattle.t1s_scramble.specs.Bits.{bits_of, all_bits, number_of, nibbles_of}
use Rattle.t1s_scramble.specs.Scrambled.{scrambled, descrambled, history_after, scrambled_nibble, descrambled_nibble, scrambled_nibbles, descrambled_nibbles, scrambler_after, descrambler_after}
use Rattle.t1s_scramble.proofs.Bits.{number_of-bits_of, number_of-below, bits_of-number_of}
use Rattle.t1s_scramble.proofs.Histories.{scrambled-append, descrambled-append, history_after-append}
use Rattle.t1s_scramble.proofs.InStep.{in_step, finds_step}

-- ---- one nibble

pub bits_of-scrambled_nibble : (p : List Bool) (n : ℕ) → bits_of (scrambled_nibble p n) ≡ scrambled p (bits_of n)
unfolding bits_of scrambled scrambled_nibble
bits_of-scrambled_nibble p n = bits_of-number_of _ _ _ _

pub scrambled_nibble-below : (p : List Bool) (n : ℕ) → scrambled_nibble p n < 16
unfolding bits_of scrambled scrambled_nibble
scrambled_nibble-below p n = number_of-below _ _ _ _

pub descrambled_nibble-below : (p : List Bool) (n : ℕ) → descrambled_nibble p n < 16
unfolding bits_of descrambled descrambled_nibble
descrambled_nibble-below p n = number_of-below _ _ _ _

one_scrambled : (p : List Bool) (n : ℕ) → scrambled p (all_bits (n ∷ [])) ≡ scrambled p (bits_of n)
unfolding bits_of
one_scrambled p n = refl

-- the history after one nibble
pub scrambler_after-one : (p : List Bool) (n : ℕ)
    → scrambler_after p (n ∷ []) ≡ history_after p (bits_of (scrambled_nibble p n))
unfolding scrambler_after
scrambler_after-one p n = ap (history_after p) (one_scrambled p n ∙ sym (bits_of-scrambled_nibble p n))

pub descrambler_after-one : (p : List Bool) (n : ℕ) → descrambler_after p (n ∷ []) ≡ history_after p (bits_of n)
unfolding descrambler_after bits_of
descrambler_after-one p n = refl

-- ---- a nibble, and then a list

pub scrambled_nibbles-nil : (p : List Bool) → scrambled_nibbles p [] ≡ []
unfolding scrambled_nibbles scrambled
scrambled_nibbles-nil p = refl

pub descrambled_nibbles-nil : (p : List Bool) → descrambled_nibbles p [] ≡ []
unfolding descrambled_nibbles descrambled
descrambled_nibbles-nil p = refl

pub scrambler_after-nil : (p : List Bool) → scrambler_after p [] ≡ p
unfolding scrambler_after scrambled history_after
scrambler_after-nil p = refl

pub descrambler_after-nil : (p : List Bool) → descrambler_after p [] ≡ p
unfolding descrambler_after history_after
descrambler_after-nil p = refl

pub scrambled_nibbles-cons : (p : List Bool) (n : ℕ) (ns : List ℕ)
    → scrambled_nibbles p (n ∷ ns) ≡ scrambled_nibble p n ∷ scrambled_nibbles (scrambler_after p (n ∷ [])) ns
unfolding scrambled_nibbles scrambled_nibble scrambler_after bits_of scrambled
scrambled_nibbles-cons p n ns = ap nibbles_of (scrambled-append p (bits_of n) (all_bits ns))

pub descrambled_nibbles-cons : (p : List Bool) (n : ℕ) (ns : List ℕ)
    → descrambled_nibbles p (n ∷ ns) ≡ descrambled_nibble p n ∷ descrambled_nibbles (descrambler_after p (n ∷ [])) ns
unfolding descrambled_nibbles descrambled_nibble descrambler_after bits_of descrambled
descrambled_nibbles-cons p n ns = ap nibbles_of (descrambled-append p (bits_of n) (all_bits ns))

pub scrambler_after-cons : (p : List Bool) (n : ℕ) (ns : List ℕ)
    → scrambler_after p (n ∷ ns) ≡ scrambler_after (scrambler_after p (n ∷ [])) ns
unfolding scrambler_after bits_of scrambled
scrambler_after-cons p n ns =
    let four : List Bool = scrambled p (bits_of n) in
    ap (history_after p) (scrambled-append p (bits_of n) (all_bits ns))
    ∙ history_after-append p four (scrambled (history_after p four) (all_bits ns))

pub descrambler_after-cons : (p : List Bool) (n : ℕ) (ns : List ℕ)
    → descrambler_after p (n ∷ ns) ≡ descrambler_after (descrambler_after p (n ∷ [])) ns
unfolding descrambler_after bits_of
descrambler_after-cons p n ns = history_after-append p (bits_of n) (all_bits ns)

-- ---- a list, and then a list

pub scrambled_nibbles-append : (p : List Bool) (a b : List ℕ)
    → scrambled_nibbles p (a ++ b) ≡ scrambled_nibbles p a ++ scrambled_nibbles (scrambler_after p a) b
scrambled_nibbles-append p [] b = rw (scrambled_nibbles-nil p, scrambler_after-nil p) refl
scrambled_nibbles-append p (n ∷ ns) b =
    let q : List Bool = scrambler_after p (n ∷ []) in
    scrambled_nibbles-cons p n (ns ++ b)
    ∙ ap (λ xs. scrambled_nibble p n ∷ xs) (scrambled_nibbles-append q ns b)
    ∙ ap (λ h. scrambled_nibble p n ∷ (scrambled_nibbles q ns ++ scrambled_nibbles h b)) (sym (scrambler_after-cons p n ns))
    ∙ ap (λ xs. xs ++ scrambled_nibbles (scrambler_after p (n ∷ ns)) b) (sym (scrambled_nibbles-cons p n ns))

pub descrambled_nibbles-append : (p : List Bool) (a b : List ℕ)
    → descrambled_nibbles p (a ++ b) ≡ descrambled_nibbles p a ++ descrambled_nibbles (descrambler_after p a) b
descrambled_nibbles-append p [] b = rw (descrambled_nibbles-nil p, descrambler_after-nil p) refl
descrambled_nibbles-append p (n ∷ ns) b =
    let q : List Bool = descrambler_after p (n ∷ []) in
    descrambled_nibbles-cons p n (ns ++ b)
    ∙ ap (λ xs. descrambled_nibble p n ∷ xs) (descrambled_nibbles-append q ns b)
    ∙ ap (λ h. descrambled_nibble p n ∷ (descrambled_nibbles q ns ++ descrambled_nibbles h b)) (sym (descrambler_after-cons p n ns))
    ∙ ap (λ xs. xs ++ descrambled_nibbles (descrambler_after p (n ∷ ns)) b) (sym (descrambled_nibbles-cons p n ns))

pub scrambler_after-append : (p : List Bool) (a b : List ℕ)
    → scrambler_after p (a ++ b) ≡ scrambler_after (scrambler_after p a) b
scrambler_after-append p [] b = ap (λ h. scrambler_after h b) (sym (scrambler_after-nil p))
scrambler_after-append p (n ∷ ns) b =
    let q : List Bool = scrambler_after p (n ∷ []) in
    scrambler_after-cons p n (ns ++ b)
    ∙ scrambler_after-append q ns b
    ∙ ap (λ h. scrambler_after h b) (sym (scrambler_after-cons p n ns))

pub descrambler_after-append : (p : List Bool) (a b : List ℕ)
    → descrambler_after p (a ++ b) ≡ descrambler_after (descrambler_after p a) b
descrambler_after-append p [] b = ap (λ h. descrambler_after h b) (sym (descrambler_after-nil p))
descrambler_after-append p (n ∷ ns) b =
    let q : List Bool = descrambler_after p (n ∷ []) in
    descrambler_after-cons p n (ns ++ b)
    ∙ descrambler_after-append q ns b
    ∙ ap (λ h. descrambler_after h b) (sym (descrambler_after-cons p n ns))

-- one nibble more at the end
pub scrambled_nibbles-push : (p : List Bool) (ns : List ℕ) (n : ℕ)
    → scrambled_nibbles p (ns ++ n ∷ []) ≡ scrambled_nibbles p ns ++ scrambled_nibble (scrambler_after p ns) n ∷ []
scrambled_nibbles-push p ns n =
    let q : List Bool = scrambler_after p ns in
    scrambled_nibbles-append p ns (n ∷ [])
    ∙ ap (λ xs. scrambled_nibbles p ns ++ xs)
    (scrambled_nibbles-cons q n [] ∙ ap (λ xs. scrambled_nibble q n ∷ xs) (scrambled_nibbles-nil (scrambler_after q (n ∷ []))))

pub descrambled_nibbles-push : (p : List Bool) (ns : List ℕ) (n : ℕ)
    → descrambled_nibbles p (ns ++ n ∷ []) ≡ descrambled_nibbles p ns ++ descrambled_nibble (descrambler_after p ns) n ∷ []
descrambled_nibbles-push p ns n =
    let q : List Bool = descrambler_after p ns in
    descrambled_nibbles-append p ns (n ∷ [])
    ∙ ap (λ xs. descrambled_nibbles p ns ++ xs)
    (descrambled_nibbles-cons q n [] ∙ ap (λ xs. descrambled_nibble q n ∷ xs) (descrambled_nibbles-nil (descrambler_after q (n ∷ []))))

-- ---- lengths and ranges

pub length-scrambled_nibbles : (p : List Bool) (ns : List ℕ) → length (scrambled_nibbles p ns) ≡ length ns
length-scrambled_nibbles p [] = ap length (scrambled_nibbles-nil p)
length-scrambled_nibbles p (n ∷ ns) =
    ap length (scrambled_nibbles-cons p n ns) ∙ ap suc (length-scrambled_nibbles (scrambler_after p (n ∷ [])) ns)

pub length-descrambled_nibbles : (p : List Bool) (ns : List ℕ) → length (descrambled_nibbles p ns) ≡ length ns
length-descrambled_nibbles p [] = ap length (descrambled_nibbles-nil p)
length-descrambled_nibbles p (n ∷ ns) =
    ap length (descrambled_nibbles-cons p n ns) ∙ ap suc (length-descrambled_nibbles (descrambler_after p (n ∷ [])) ns)

pub scrambled_nibbles-below : (p : List Bool) (ns : List ℕ) → All (λ n. n < 16) (scrambled_nibbles p ns)
scrambled_nibbles-below p [] = rw (scrambled_nibbles-nil p) (λ k d h. absurd (omega arith))
scrambled_nibbles-below p (n ∷ ns) =
    let q : List Bool = scrambler_after p (n ∷ []) in
    rw (scrambled_nibbles-cons p n ns)
    (All-cons (λ m. m < 16) (scrambled_nibble p n) (scrambled_nibbles q ns) (scrambled_nibble-below p n) (scrambled_nibbles-below q ns))

pub descrambled_nibbles-below : (p : List Bool) (ns : List ℕ) → All (λ n. n < 16) (descrambled_nibbles p ns)
descrambled_nibbles-below p [] = rw (descrambled_nibbles-nil p) (λ k d h. absurd (omega arith))
descrambled_nibbles-below p (n ∷ ns) =
    let q : List Bool = descrambler_after p (n ∷ []) in
    rw (descrambled_nibbles-cons p n ns)
    (All-cons (λ m. m < 16) (descrambled_nibble p n) (descrambled_nibbles q ns) (descrambled_nibble-below p n) (descrambled_nibbles-below q ns))

-- ---- one after the other

-- the bits of a scrambled list of nibbles
pub all_bits-scrambled : (p : List Bool) (ns : List ℕ) → all_bits (scrambled_nibbles p ns) ≡ scrambled p (all_bits ns)
unfolding scrambled
all_bits-scrambled p [] = ap all_bits (scrambled_nibbles-nil p)
all_bits-scrambled p (n ∷ ns) =
    let q : List Bool = scrambler_after p (n ∷ []) in
    let h : List Bool = history_after p (scrambled p (bits_of n)) in
    let same : q ≡ h = scrambler_after-one p n ∙ ap (history_after p) (bits_of-scrambled_nibble p n) in
    ap all_bits (scrambled_nibbles-cons p n ns)
    ∙ ap (λ xs. xs ++ all_bits (scrambled_nibbles q ns)) (bits_of-scrambled_nibble p n)
    ∙ ap (λ xs. scrambled p (bits_of n) ++ xs) (all_bits-scrambled q ns ∙ ap (λ past. scrambled past (all_bits ns)) same)
    ∙ sym (scrambled-append p (bits_of n) (all_bits ns))

pub nibbles_of-all_bits : (ns : List ℕ) → All (λ n. n < 16) ns → nibbles_of (all_bits ns) ≡ ns
unfolding bits_of
nibbles_of-all_bits [] h = refl
nibbles_of-all_bits (n ∷ ns) h =
    let here : number_of (bits_of n) ≡ n = number_of-bits_of n (h 0 0 (omega arith)) in
    let rest : nibbles_of (all_bits ns) ≡ ns = nibbles_of-all_bits ns (λ k d l. h (suc k) d (omega arith)) in
    cc

-- four times a number
abbrev fourfold : ℕ → ℕ
fourfold zero = zero
fourfold (suc k) = suc (suc (suc (suc (fourfold k))))

drop-nibbles_of : (k : ℕ) (bs : List Bool) → drop k (nibbles_of bs) ≡ nibbles_of (drop (fourfold k) bs)
drop-nibbles_of zero bs = refl
drop-nibbles_of (suc k) [] = refl
drop-nibbles_of (suc k) (a ∷ []) = refl
drop-nibbles_of (suc k) (a ∷ b ∷ []) = refl
drop-nibbles_of (suc k) (a ∷ b ∷ c ∷ []) = refl
drop-nibbles_of (suc k) (a ∷ b ∷ c ∷ d ∷ rest) = drop-nibbles_of k rest

-- the descrambled nibbles of scrambled ones, as bits
descrambled-of_scrambled : (heard sent : List Bool) (ns : List ℕ)
    → descrambled_nibbles heard (scrambled_nibbles sent ns) ≡ nibbles_of (descrambled heard (scrambled sent (all_bits ns)))
unfolding descrambled_nibbles
descrambled-of_scrambled heard sent ns = ap (λ bs. nibbles_of (descrambled heard bs)) (all_bits-scrambled sent ns)

-- a descrambler with the scrambler's history gives every nibble back
pub nibbles_in_step : (p : List Bool) (ns : List ℕ) → All (λ n. n < 16) ns
    → descrambled_nibbles p (scrambled_nibbles p ns) ≡ ns
nibbles_in_step p ns h =
    descrambled-of_scrambled p p ns ∙ ap nibbles_of (in_step p p (all_bits ns) refl) ∙ nibbles_of-all_bits ns h

pub nibbles_find_step : (heard sent : List Bool) (ns : List ℕ) → All (λ n. n < 16) ns
    → drop 5 (descrambled_nibbles heard (scrambled_nibbles sent ns)) ≡ drop 5 ns
nibbles_find_step heard sent ns h =
    let got : List Bool = descrambled heard (scrambled sent (all_bits ns)) in
    let right : drop 20 got ≡ drop 20 (all_bits ns)
    = sym (drop-drop 3 17 got) ∙ ap (drop 3) (finds_step heard sent (all_bits ns)) ∙ drop-drop 3 17 (all_bits ns) in
    ap (drop 5) (descrambled-of_scrambled heard sent ns)
    ∙ drop-nibbles_of 5 got
    ∙ ap nibbles_of right
    ∙ sym (drop-nibbles_of 5 (all_bits ns))
    ∙ ap (drop 5) (nibbles_of-all_bits ns h)
