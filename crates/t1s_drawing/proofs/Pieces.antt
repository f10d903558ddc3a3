-- The texts of the first shapes of a part.
use Rattle.std.proofs.Common.{◌≡◌, ℕ, zero, suc, ◌+◌, ◌-◌, ◌<◌, List, [], ◌++◌, Ok, Err, Option, sym, ap, ◌∙◌, arith, append_assoc, add-one}
use Rattle.std.proofs.lemmas.List.{append-nil}
use Rattle.t1s_drawing.specs.Calls.{Wrote}
use Rattle.t1s_drawing.specs.Pieces.{each_text}
use Rattle.t1s_drawing.proofs.Writes.{wrote_part, wrote_then}

pub each_text-next : (f : ℕ → List ℕ) (n : ℕ) → each_text f (n + 1) ≡ each_text f n ++ f n
each_text-next f n = ap (each_text f) (add-one n)

-- the texts up to a number begin the texts up to a greater one
each_text-more : (f : ℕ → List ℕ) (n k : ℕ) → (rest : List ℕ) × (each_text f (n + k) ≡ each_text f n ++ rest)
each_text-more f n zero =
    let none : n + 0 ≡ n = omega arith in
    ([], ap (each_text f) none ∙ sym (append-nil (each_text f n)))
each_text-more f n (suc k) =
    let (rest, e) = each_text-more f n k in
    let next : n + suc k ≡ suc (n + k) = omega arith in
    (rest ++ f (n + k), ap (each_text f) next ∙ (ap (λ (t : List ℕ). t ++ f (n + k)) e ∙ append_assoc (each_text f n) rest (f (n + k))))

module _ {K : Type 0} (written : K → Option (List ℕ)) (faults : K → ℕ) (f : ℕ → List ℕ) where
  pub each_then : {T U E : Type 0} (a b c : K) (n : ℕ) (x : U) (y : T) → Wrote {T = U} {E = E} written faults (each_text f n) a b (Ok x) → Wrote {T = T} {E = E} written faults (f n) b c (Ok y) →
      Wrote {T = T} {E = E} written faults (each_text f (n + 1)) a c (Ok y)
  each_then a b c n x y h k = rw (each_text-next f n) (wrote_then written faults a b c (each_text f n) (f n) x (Ok y) h k)

  -- the text of one of them was not written whole
  pub each_part : {T U V E : Type 0} (a b c : K) (n count : ℕ) (x : U) (e : E) → n < count → Wrote {T = U} {E = E} written faults (each_text f n) a b (Ok x) → Wrote {T = T} {E = E} written faults (f n) b c (Err e) →
      Wrote {T = V} {E = E} written faults (each_text f count) a c (Err e)
  each_part {T} a b c n count x e below h k =
      let (rest, is) = each_text-more f (n + 1) (count - (n + 1)) in
      let all : n + 1 + (count - (n + 1)) ≡ count = omega arith in
      let here : Wrote {T = T} written faults (each_text f n ++ f n) a c (Err e) = wrote_then written faults a b c (each_text f n) (f n) x (Err e) h k in
      let text : each_text f count ≡ (each_text f n ++ f n) ++ rest = sym (ap (each_text f) all) ∙ (is ∙ ap (λ (t : List ℕ). t ++ rest) (each_text-next f n)) in
      rw text (wrote_part written faults a c (each_text f n ++ f n) rest e e here)
