-- The lines of a text of which a part is known.
use Rattle.std.proofs.Common.{◌≡◌, ℕ, ◌==◌, true, false, List, [], ◌∷◌, ◌++◌, refl, ap, cond, arith}
use Rattle.std.specs.List.{onto_first}
use Rattle.t1s_drawing.specs.Lines.{parts_of}
use Rattle.t1s_drawing.specs.Drawn.{is_in_line}

-- an octet that is no line feed, and then others
in_line_first : (x : ℕ) (xs : List ℕ) → is_in_line (x ∷ xs) ≡ true → (x == 10) ≡ false
in_line_first x xs h = grind arith

in_line_rest : (x : ℕ) (xs : List ℕ) → is_in_line (x ∷ xs) ≡ true → is_in_line xs ≡ true
in_line_rest x xs h = grind arith

pub in_line_push : (xs : List ℕ) (octet : ℕ) → is_in_line xs ≡ true → (octet ≡ 10 → ⊥) → is_in_line (xs ++ octet ∷ []) ≡ true
in_line_push [] octet h n = grind arith
in_line_push (x ∷ xs) octet h n = let rest = in_line_push xs octet (in_line_rest x xs h) n in grind arith

-- there is a first part
pub first_part : (xs : List ℕ) → (head : List ℕ) × (tail : List (List ℕ)) × (parts_of xs ≡ head ∷ tail)
first_part [] = ([], [], refl)
first_part (x ∷ xs) =
    let (head, tail, e) = first_part xs in
    elim (x == 10) as (λ b. (h : List ℕ) × (t : List (List ℕ)) × (cond b ([] ∷ parts_of xs) (onto_first x (parts_of xs)) ≡ h ∷ t)) [
      | true ↦ ([], parts_of xs, refl)
      | false ↦ (x ∷ head, tail, ap (onto_first x) e)
    ]

-- a line, its line feed, and more
pub parts-line : (line more : List ℕ) → is_in_line line ≡ true → parts_of (line ++ 10 ∷ more) ≡ line ∷ parts_of more
parts-line [] more h = refl
parts-line (x ∷ line) more h = rw (in_line_first x line h) (ap (onto_first x) (parts-line line more (in_line_rest x line h)))

-- a line that has begun, and more
pub parts-begun : (line more : List ℕ) → is_in_line line ≡ true → (head : List ℕ) × (tail : List (List ℕ)) × (parts_of (line ++ more) ≡ (line ++ head) ∷ tail)
parts-begun [] more h = first_part more
parts-begun (x ∷ line) more h =
    let (head, tail, e) = parts-begun line more (in_line_rest x line h) in
    (head, tail, rw (in_line_first x line h) (ap (onto_first x) e))

-- a line without a line feed
pub parts-last : (line : List ℕ) → is_in_line line ≡ true → parts_of line ≡ line ∷ []
parts-last [] h = refl
parts-last (x ∷ line) h = rw (in_line_first x line h) (ap (onto_first x) (parts-last line (in_line_rest x line h)))
