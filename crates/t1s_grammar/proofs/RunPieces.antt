-- A run is read in one way: its symbols are those of one list of pieces alone.
use Rattle.std.proofs.Common.{◌≡◌, ℕ, zero, suc, List, [], ◌∷◌, ◌++◌, map, replicate, refl, sym, ◌∙◌, ap, ap₂, append_assoc}
use Rattle.t1s_symbols.specs.declared.Symbol.{Symbol}
use Rattle.t1s_symbols.specs.declared.Symbol.TheVariants.{Nibble, J, T, H}
use Rattle.t1s_grammar.specs.Burst.{Piece, piece_symbols, pieces_symbols}

-- ---- the symbols of a piece before others

lead_first : (n : ℕ) (xs ys zs : List Symbol) → ((replicate n J ++ xs) ++ ys) ++ zs ≡ replicate n J ++ ((xs ++ ys) ++ zs)
lead_first zero xs ys zs = refl
lead_first (suc n) xs ys zs = ap (λ (r : List Symbol). J ∷ r) (lead_first n xs ys zs)

abbrev behind_lead : Piece → List Symbol → List Symbol
behind_lead p rest = H ∷ (map Nibble p.nibbles ++ T ∷ p.closer ∷ rest)

piece_first : (p : Piece) (rest : List Symbol) → piece_symbols p ++ rest ≡ replicate p.lead J ++ H ∷ behind_lead p rest
piece_first p rest =
    lead_first p.lead (H ∷ H ∷ map Nibble p.nibbles) (T ∷ p.closer ∷ []) rest
    ∙ ap (λ (r : List Symbol). replicate p.lead J ++ H ∷ H ∷ r) (append_assoc (map Nibble p.nibbles) (T ∷ p.closer ∷ []) rest)

run_first : (p : Piece) (ps : List Piece) (r : ℕ)
    → pieces_symbols (p ∷ ps) ++ replicate r J ≡ replicate p.lead J ++ H ∷ behind_lead p (pieces_symbols ps ++ replicate r J)
run_first p ps r = append_assoc (piece_symbols p) (pieces_symbols ps) (replicate r J) ∙ piece_first p (pieces_symbols ps ++ replicate r J)

-- ---- read in one way

same_lead : (m n : ℕ) (xs ys : List Symbol) → replicate m J ++ H ∷ xs ≡ replicate n J ++ H ∷ ys → (m ≡ n) × (xs ≡ ys)
same_lead zero zero xs ys e = (refl, cc)
same_lead zero (suc n) xs ys e = absurd (cc)
same_lead (suc m) zero xs ys e = absurd (cc)
same_lead (suc m) (suc n) xs ys e = let (k, rest) = same_lead m n xs ys (cc) in (ap suc k, rest)

same_nibbles : (ms ns : List ℕ) (xs ys : List Symbol) → map Nibble ms ++ T ∷ xs ≡ map Nibble ns ++ T ∷ ys → (ms ≡ ns) × (xs ≡ ys)
same_nibbles [] [] xs ys e = (refl, cc)
same_nibbles [] (n ∷ ns) xs ys e = absurd (cc)
same_nibbles (m ∷ ms) [] xs ys e = absurd (cc)
same_nibbles (m ∷ ms) (n ∷ ns) xs ys e =
    let first : m ≡ n = cc in
    let (later, rest) = same_nibbles ms ns xs ys (cc) in
    (ap₂ (λ (k : ℕ) (ks : List ℕ). k ∷ ks) first later, rest)

j_alone : (r n : ℕ) (xs : List Symbol) → replicate r J ≡ replicate n J ++ H ∷ xs → ⊥
j_alone zero zero xs e = absurd (cc)
j_alone zero (suc n) xs e = absurd (cc)
j_alone (suc r) zero xs e = absurd (cc)
j_alone (suc r) (suc n) xs e = j_alone r n xs (cc)

piece_is : (p q : Piece) → p.lead ≡ q.lead → p.nibbles ≡ q.nibbles → p.closer ≡ q.closer → p ≡ q
piece_is p q lead nibbles closer =
    ap₂ (λ (k : ℕ) (ns : List ℕ). record { lead = k; nibbles = ns; closer = p.closer }) lead nibbles
    ∙ ap (λ (x : Symbol). record { lead = q.lead; nibbles = q.nibbles; closer = x }) closer

pub same_pieces : (ps qs : List Piece) (r s : ℕ) → pieces_symbols ps ++ replicate r J ≡ pieces_symbols qs ++ replicate s J → ps ≡ qs
same_pieces [] [] r s e = refl
same_pieces [] (q ∷ qs) r s e = absurd (j_alone r q.lead (behind_lead q (pieces_symbols qs ++ replicate s J)) (e ∙ run_first q qs s))
same_pieces (p ∷ ps) [] r s e = absurd (j_alone s p.lead (behind_lead p (pieces_symbols ps ++ replicate r J)) (sym e ∙ run_first p ps r))
same_pieces (p ∷ ps) (q ∷ qs) r s e =
    let xs : List Symbol = pieces_symbols ps ++ replicate r J in
    let ys : List Symbol = pieces_symbols qs ++ replicate s J in
    let (lead, behind) = same_lead p.lead q.lead (behind_lead p xs) (behind_lead q ys) (sym (run_first p ps r) ∙ (e ∙ run_first q qs s)) in
    let (nibbles, ends) = same_nibbles p.nibbles q.nibbles (p.closer ∷ xs) (q.closer ∷ ys) (cc) in
    let closer : p.closer ≡ q.closer = cc in
    ap₂ (λ (x : Piece) (zs : List Piece). x ∷ zs) (piece_is p q lead nibbles closer) (same_pieces ps qs r s (cc))
