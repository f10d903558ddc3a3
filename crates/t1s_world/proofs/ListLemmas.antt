-- Lists: elements of a mapped list, lists that are rewritten from the front, and elements changed pairwise.
use Rattle.std.proofs.Common.{◌≡◌, ℕ, zero, suc, ◌+◌, ◌<◌, Bool, not, cond, List, [], ◌∷◌, ◌++◌, length, get_or, map, take, drop, set, position, Some, refl, ◌∙◌, ap, sym, arith, append_assoc}
use Rattle.std.specs.Prelude.{slice_get}
use Rattle.std.specs.List.{prefix_len}
use Rattle.std.proofs.lemmas.List.{length-map, drop_more, set_at, get_or_at, take_more, length-take-le}
use Rattle.t1s_world.specs.Lists.{each_with}

-- an element of a mapped list
pub slice_get-map : {X Y : Type 0} (f : X → Y) (xs : List X) (i : ℕ) (x : X) → slice_get xs i ≡ Some x → slice_get (map f xs) i ≡ Some (f x)
slice_get-map f [] i x e = cc
slice_get-map f (y ∷ xs) zero x e = cc
slice_get-map f (y ∷ xs) (suc i) x e = slice_get-map f xs i x e

pub get_or-map : {X Y : Type 0} (f : X → Y) (xs : List X) (i : ℕ) (x : X) (d : Y) → slice_get xs i ≡ Some x → get_or (map f xs) i d ≡ f x
get_or-map f [] i x d e = cc
get_or-map f (y ∷ xs) zero x d e = cc
get_or-map f (y ∷ xs) (suc i) x d e = get_or-map f xs i x d e

-- the first element of a mapped list that passes a test
prefix_len-map : {X Y : Type 0} (f : X → Y) (p : Y → Bool) (xs : List X) → prefix_len p (map f xs) ≡ prefix_len (λ x. p (f x)) xs
prefix_len-map f p [] = refl
prefix_len-map f p (x ∷ xs) = ap (λ (n : ℕ). cond (p (f x)) (1 + n) 0) (prefix_len-map f p xs)

pub position-map : {X Y : Type 0} (f : X → Y) (p : Y → Bool) (xs : List X) → position p (map f xs) ≡ position (λ x. p (f x)) xs
position-map f p xs = rw (prefix_len-map f (λ y. not (p y)) xs, length-map xs f) refl

-- a list that is rewritten from the front: one more element is written
pub written_more : {X : Type 0} (done xs ys : List X) (i : ℕ) (y d : X) → length done ≡ i → i < length xs → ys ≡ done ++ drop i xs → set ys i y ≡ (done ++ y ∷ []) ++ drop (i + 1) xs
written_more done xs ys i y d l h e =
    rw (e, drop_more xs i d h) (set_at done (get_or xs i d) (drop (i + 1) xs) y i l ∙ sym (append_assoc done (y ∷ []) (drop (i + 1) xs)))

-- and the element there is still the old one
pub get_or-unwritten : {X : Type 0} (done xs ys : List X) (i : ℕ) (d : X) → length done ≡ i → i < length xs → ys ≡ done ++ drop i xs → get_or ys i d ≡ get_or xs i d
get_or-unwritten done xs ys i d l h e = rw (e, drop_more xs i d h) (get_or_at done (get_or xs i d) (drop (i + 1) xs) d i l)

module _ {X Y : Type 0} (f : X → Y → X) where
  pub length-each_with : (xs : List X) (ys : List Y) → length (each_with f xs ys) ≡ length xs
  length-each_with [] ys = refl
  length-each_with (x ∷ xs) [] = refl
  length-each_with (x ∷ xs) (y ∷ ys) = ap suc (length-each_with xs ys)

  pub each_with-append : (xs : List X) (ys : List Y) (x : X) (y : Y) → length xs ≡ length ys → each_with f (xs ++ x ∷ []) (ys ++ y ∷ []) ≡ each_with f xs ys ++ f x y ∷ []
  each_with-append [] [] x y e = refl
  each_with-append [] (z ∷ ys) x y e = cc
  each_with-append (w ∷ xs) [] x y e = cc
  each_with-append (w ∷ xs) (z ∷ ys) x y e = ap (λ (r : List X). f w z ∷ r) (each_with-append xs ys x y cc)

  pub get_or-each_with : (xs : List X) (ys : List Y) (i : ℕ) (d : X) (y : Y) → i < length xs → length ys ≡ length xs → get_or (each_with f xs ys) i d ≡ f (get_or xs i d) (get_or ys i y)
  get_or-each_with [] ys i d y h e = absurd (omega arith)
  get_or-each_with (x ∷ xs) [] i d y h e = cc
  get_or-each_with (x ∷ xs) (z ∷ ys) zero d y h e = refl
  get_or-each_with (x ∷ xs) (z ∷ ys) (suc i) d y h e = get_or-each_with xs ys i d y (omega arith) (omega arith)

  -- one more element is changed
  pub each_with_more : (xs zs : List X) (done : List Y) (i : ℕ) (x : X) (y : Y) → i < length xs → length done ≡ i → zs ≡ each_with f (take i xs) done ++ drop i xs → x ≡ get_or zs i x → set zs i (f x y) ≡ each_with f (take (i + 1) xs) (done ++ y ∷ []) ++ drop (i + 1) xs
  each_with_more xs zs done i x y lt sized e is =
      let front : List X = each_with f (take i xs) done in
      let short : length (take i xs) ≡ i = length-take-le i xs (omega arith) in
      let len : length front ≡ i = length-each_with (take i xs) done ∙ short in
      let same : x ≡ get_or xs i x = is ∙ get_or-unwritten front xs zs i x len lt e in
      rw (take_more xs i x lt, ← same, each_with-append (take i xs) done x y (short ∙ sym sized))
      (written_more front xs zs i (f x y) x len lt e)
