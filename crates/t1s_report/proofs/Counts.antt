-- Texts that are put together piece by piece.
use Rattle.std.proofs.Common.{◌≡◌, ℕ, List, [], ◌∷◌, ◌++◌, ap, ◌∙◌, append_assoc}

pub eight_counts : (w1 d1 w2 d2 w3 d3 w4 d4 w5 d5 w6 d6 w7 d7 w8 d8 e : List ℕ) →
    w1 ++ d1 ++ w2 ++ d2 ++ w3 ++ d3 ++ w4 ++ d4 ++ w5 ++ d5 ++ w6 ++ d6 ++ w7 ++ d7 ++ w8 ++ d8 ++ e
    ≡ (w1 ++ (d1 ++ (w2 ++ (d2 ++ (w3 ++ (d3 ++ (w4 ++ (d4 ++ (w5 ++ (d5 ++ (w6 ++ (d6 ++ (w7 ++ (d7 ++ (w8 ++ d8))))))))))))))) ++ e
eight_counts w1 d1 w2 d2 w3 d3 w4 d4 w5 d5 w6 d6 w7 d7 w8 d8 e = ap (λ (r : List ℕ). r ++ e) (simp append_assoc)

pub seven_counts : (w1 d1 w2 d2 w3 d3 w4 d4 w5 d5 w6 d6 w7 d7 e : List ℕ) →
    w1 ++ d1 ++ w2 ++ d2 ++ w3 ++ d3 ++ w4 ++ d4 ++ w5 ++ d5 ++ w6 ++ d6 ++ w7 ++ d7 ++ e
    ≡ (w1 ++ (d1 ++ (w2 ++ (d2 ++ (w3 ++ (d3 ++ (w4 ++ (d4 ++ (w5 ++ (d5 ++ (w6 ++ (d6 ++ (w7 ++ d7))))))))))))) ++ e
seven_counts w1 d1 w2 d2 w3 d3 w4 d4 w5 d5 w6 d6 w7 d7 e = ap (λ (r : List ℕ). r ++ e) (simp append_assoc)

pub five_counts : (w1 d1 w2 d2 w3 d3 w4 d4 w5 d5 e : List ℕ) →
    w1 ++ d1 ++ w2 ++ d2 ++ w3 ++ d3 ++ w4 ++ d4 ++ w5 ++ d5 ++ e
    ≡ (w1 ++ (d1 ++ (w2 ++ (d2 ++ (w3 ++ (d3 ++ (w4 ++ (d4 ++ (w5 ++ d5))))))))) ++ e
five_counts w1 d1 w2 d2 w3 d3 w4 d4 w5 d5 e = ap (λ (r : List ℕ). r ++ e) (simp append_assoc)

pub four_counts : (w1 d1 w2 d2 w3 d3 w4 d4 e : List ℕ) →
    w1 ++ d1 ++ w2 ++ d2 ++ w3 ++ d3 ++ w4 ++ d4 ++ e ≡ (w1 ++ (d1 ++ (w2 ++ (d2 ++ (w3 ++ (d3 ++ (w4 ++ d4))))))) ++ e
four_counts w1 d1 w2 d2 w3 d3 w4 d4 e = ap (λ (r : List ℕ). r ++ e) (simp append_assoc)

pub three_counts : (w1 d1 w2 d2 w3 d3 e : List ℕ) → w1 ++ d1 ++ w2 ++ d2 ++ w3 ++ d3 ++ e ≡ (w1 ++ (d1 ++ (w2 ++ (d2 ++ (w3 ++ d3))))) ++ e
three_counts w1 d1 w2 d2 w3 d3 e = ap (λ (r : List ℕ). r ++ e) (simp append_assoc)

pub three_fields : (a b c : List ℕ) → a ++ (32 ∷ []) ++ b ++ (32 ∷ []) ++ c ≡ a ++ (32 ∷ (b ++ (32 ∷ c)))
three_fields a b c = simp append_assoc

-- one field more
pub fourth_field : (a b c d : List ℕ) → (a ++ (32 ∷ (b ++ (32 ∷ c)))) ++ (32 ∷ []) ++ d ≡ a ++ (32 ∷ (b ++ (32 ∷ (c ++ (32 ∷ d)))))
fourth_field a b c d =
    append_assoc (a ++ (32 ∷ (b ++ (32 ∷ c)))) (32 ∷ []) d ∙
    (append_assoc a (32 ∷ (b ++ (32 ∷ c))) (32 ∷ d) ∙ ap (λ (r : List ℕ). a ++ (32 ∷ r)) (append_assoc b (32 ∷ c) (32 ∷ d)))
