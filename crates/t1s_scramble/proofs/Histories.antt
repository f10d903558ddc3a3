-- Lists that go on: a scrambled and a descrambled list of two parts, and the history between them.
use Rattle.std.proofs.Common.{◌≡◌, refl, ℕ, zero, suc, ◌≤◌, Bool, false, List, [], ◌∷◌, ◌++◌, length, get_or, take, reverse, sym, ◌∙◌, ap, append_assoc, arith}
use Rattle.std.proofs.lemmas.List.{get_or-take, take-take, reverse-append, append-nil}
use Rattle.t1s_scramble.specs.Scrambled.{mixed, scrambled, descrambled, history_after}

-- two pasts with the same newest seventeen bits, and one bit more
pub same-cons : (x y : Bool) (p q : List Bool) → x ≡ y → take 17 p ≡ take 17 q → take 17 (x ∷ p) ≡ take 17 (y ∷ q)
same-cons x y p q e h =
    let cut : take 16 p ≡ take 16 q
    = sym (take-take 16 17 p (omega arith)) ∙ ap (take 16) h ∙ take-take 16 17 q (omega arith) in
    cc

same-bit : (p q : List Bool) (i : ℕ) → i ≤ 16 → take 17 p ≡ take 17 q → get_or p i false ≡ get_or q i false
same-bit p q i l h =
    sym (get_or-take 17 p i false (omega arith)) ∙ ap (λ xs. get_or xs i false) h ∙ get_or-take 17 q i false (omega arith)

pub same-mixed : (p q : List Bool) (b : Bool) → take 17 p ≡ take 17 q → mixed p b ≡ mixed q b
same-mixed p q b h =
    let e : get_or p 13 false ≡ get_or q 13 false = same-bit p q 13 (omega arith) h in
    let f : get_or p 16 false ≡ get_or q 16 false = same-bit p q 16 (omega arith) h in
    cc

-- only the newest seventeen bits of the past count
pub same-scrambled : (p q ds : List Bool) → take 17 p ≡ take 17 q → scrambled p ds ≡ scrambled q ds
unfolding scrambled
same-scrambled p q [] h = refl
same-scrambled p q (d ∷ ds) h =
    let e : mixed p d ≡ mixed q d = same-mixed p q d h in
    let rest : scrambled (mixed p d ∷ p) ds ≡ scrambled (mixed q d ∷ q) ds
    = same-scrambled (mixed p d ∷ p) (mixed q d ∷ q) ds (same-cons (mixed p d) (mixed q d) p q e h) in
    cc

pub same-descrambled : (p q ss : List Bool) → take 17 p ≡ take 17 q → descrambled p ss ≡ descrambled q ss
unfolding descrambled
same-descrambled p q [] h = refl
same-descrambled p q (s ∷ ss) h =
    let e : mixed p s ≡ mixed q s = same-mixed p q s h in
    let rest : descrambled (s ∷ p) ss ≡ descrambled (s ∷ q) ss
    = same-descrambled (s ∷ p) (s ∷ q) ss (same-cons s s p q refl h) in
    cc

pub length-scrambled : (p ds : List Bool) → length (scrambled p ds) ≡ length ds
unfolding scrambled
length-scrambled p [] = refl
length-scrambled p (d ∷ ds) = ap suc (length-scrambled (mixed p d ∷ p) ds)

pub length-descrambled : (p ss : List Bool) → length (descrambled p ss) ≡ length ss
unfolding descrambled
length-descrambled p [] = refl
length-descrambled p (s ∷ ss) = ap suc (length-descrambled (s ∷ p) ss)

-- a bit before a list goes to the end of the turned list
reverse-cons : (b : Bool) (bs p : List Bool) → reverse (b ∷ bs) ++ p ≡ reverse bs ++ (b ∷ p)
reverse-cons b bs p = ap (λ xs. xs ++ p) (reverse-append (b ∷ []) bs) ∙ append_assoc (reverse bs) (b ∷ []) p

-- the history after some bits stands for the whole past
pub same-history : (p bits : List Bool) → take 17 (history_after p bits) ≡ take 17 (reverse bits ++ p)
unfolding history_after
same-history p [] = refl
same-history p (b ∷ bs) = take-take 17 17 (reverse (b ∷ bs) ++ p) (omega arith)

whole-scrambled : (p a b : List Bool) → scrambled p (a ++ b) ≡ scrambled p a ++ scrambled (reverse (scrambled p a) ++ p) b
unfolding scrambled
whole-scrambled p [] b = refl
whole-scrambled p (d ∷ ds) b =
    let m : Bool = mixed p d in
    let rest : scrambled (m ∷ p) (ds ++ b)
    ≡ scrambled (m ∷ p) ds ++ scrambled (reverse (scrambled (m ∷ p) ds) ++ (m ∷ p)) b
    = whole-scrambled (m ∷ p) ds b in
    let turned : reverse (m ∷ scrambled (m ∷ p) ds) ++ p ≡ reverse (scrambled (m ∷ p) ds) ++ (m ∷ p)
    = reverse-cons m (scrambled (m ∷ p) ds) p in
    ap (λ xs. m ∷ xs) (rest ∙ ap (λ past. scrambled (m ∷ p) ds ++ scrambled past b) (sym turned))

whole-descrambled : (p a b : List Bool) → descrambled p (a ++ b) ≡ descrambled p a ++ descrambled (reverse a ++ p) b
unfolding descrambled
whole-descrambled p [] b = refl
whole-descrambled p (s ∷ ss) b =
    let rest : descrambled (s ∷ p) (ss ++ b) ≡ descrambled (s ∷ p) ss ++ descrambled (reverse ss ++ (s ∷ p)) b
    = whole-descrambled (s ∷ p) ss b in
    ap (λ xs. mixed p s ∷ xs)
    (rest ∙ ap (λ past. descrambled (s ∷ p) ss ++ descrambled past b) (sym (reverse-cons s ss p)))

pub scrambled-append : (p a b : List Bool)
    → scrambled p (a ++ b) ≡ scrambled p a ++ scrambled (history_after p (scrambled p a)) b
scrambled-append p a b =
    whole-scrambled p a b
    ∙ ap (λ xs. scrambled p a ++ xs)
    (sym (same-scrambled (history_after p (scrambled p a)) (reverse (scrambled p a) ++ p) b (same-history p (scrambled p a))))

pub descrambled-append : (p a b : List Bool)
    → descrambled p (a ++ b) ≡ descrambled p a ++ descrambled (history_after p a) b
descrambled-append p a b =
    whole-descrambled p a b
    ∙ ap (λ xs. descrambled p a ++ xs) (sym (same-descrambled (history_after p a) (reverse a ++ p) b (same-history p a)))

-- only the newest bits of the later part of a list count, where its head is long enough
same-after : {A : Type 0} (n : ℕ) (xs ys zs : List A) → take n ys ≡ take n zs → take n (xs ++ ys) ≡ take n (xs ++ zs)
same-after zero xs ys zs h = refl
same-after (suc n) [] ys zs h = h
same-after {A} (suc n) (x ∷ xs) ys zs h =
    let cut : take n ys ≡ take n zs
    = sym (take-take n (suc n) ys (omega arith)) ∙ ap (take n) h ∙ take-take n (suc n) zs (omega arith) in
    ap (λ rest. x ∷ rest) (same-after n xs ys zs cut)

pub history_after-append : (p a b : List Bool) → history_after p (a ++ b) ≡ history_after (history_after p a) b
unfolding history_after
history_after-append p [] b = refl
history_after-append p (x ∷ xs) [] = ap (history_after p) (append-nil (x ∷ xs))
history_after-append p (x ∷ xs) (y ∷ ys) =
    let turned : reverse ((x ∷ xs) ++ (y ∷ ys)) ++ p ≡ reverse (y ∷ ys) ++ (reverse (x ∷ xs) ++ p)
    = ap (λ l. l ++ p) (reverse-append (x ∷ xs) (y ∷ ys)) ∙ append_assoc (reverse (y ∷ ys)) (reverse (x ∷ xs)) p in
    ap (take 17) turned
    ∙ sym (same-after 17 (reverse (y ∷ ys)) (take 17 (reverse (x ∷ xs) ++ p)) (reverse (x ∷ xs) ++ p)
    (take-take 17 17 (reverse (x ∷ xs) ++ p) (omega arith)))
