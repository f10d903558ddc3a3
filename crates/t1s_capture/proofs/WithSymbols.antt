-- The beginning of a burst with a list of symbols more.
use Rattle.std.proofs.Common.{◌≡◌, refl, ℕ, zero, suc, ◌+◌, List, [], ◌∷◌, ◌++◌, map, replicate, sym, ap, ◌∙◌, arith, append_assoc}
use Rattle.std.proofs.lemmas.List.{append-nil}
use Rattle.t1s_symbols.specs.declared.Symbol.{Symbol}
use Rattle.t1s_symbols.specs.declared.Symbol.TheVariants.{Nibble, J, T, H, N}
use Rattle.t1s_grammar.specs.Burst.{Piece, open_symbols, piece_symbols, pieces_symbols}
use Rattle.t1s_grammar.specs.Prefixes.{Beginning, beginning_symbols, IsBeginning, beacon, between, opened, within, ended}
use Rattle.t1s_grammar.specs.Longer.{with_symbol}
use Rattle.t1s_capture.specs.Captures.{no_symbols}

abbrev pub with_symbols : Beginning → List Symbol → Beginning
with_symbols b [] = b
with_symbols b (s ∷ ss) = with_symbols (with_symbol b s) ss

with_symbols-append : (b : Beginning) (xs ys : List Symbol) → with_symbols b (xs ++ ys) ≡ with_symbols (with_symbols b xs) ys
with_symbols-append b [] ys = refl
with_symbols-append b (x ∷ xs) ys = with_symbols-append (with_symbol b x) xs ys

with_symbols-leads : (n i : ℕ) (ps : List Piece) → with_symbols (between ps i) (replicate n J) ≡ between ps (i + n)
with_symbols-leads zero i ps = let same : i ≡ i + 0 = omega arith in ap (between ps) same
with_symbols-leads (suc n) i ps =
    let same : i + 1 + n ≡ i + suc n = omega arith in with_symbols-leads n (i + 1) ps ∙ ap (between ps) same

with_symbols-lead : (n : ℕ) (ps : List Piece) → with_symbols (between ps 0) (replicate n J) ≡ between ps n
with_symbols-lead n ps = let same : 0 + n ≡ n = omega arith in with_symbols-leads n 0 ps ∙ ap (between ps) same

with_symbols-beacon : (n i : ℕ) → with_symbols (beacon i) (replicate n N) ≡ beacon (i + n)
with_symbols-beacon zero i = let same : i ≡ i + 0 = omega arith in ap beacon same
with_symbols-beacon (suc n) i = let same : i + 1 + n ≡ i + suc n = omega arith in with_symbols-beacon n (i + 1) ∙ ap beacon same

with_symbols-nibbles : (xs ns : List ℕ) (ps : List Piece) (lead : ℕ)
    → with_symbols (within ps lead ns) (map Nibble xs) ≡ within ps lead (ns ++ xs)
with_symbols-nibbles [] ns ps lead = ap (within ps lead) (sym (append-nil ns))
with_symbols-nibbles (x ∷ xs) ns ps lead =
    with_symbols-nibbles xs (ns ++ x ∷ []) ps lead ∙ ap (within ps lead) (append_assoc ns (x ∷ []) xs)

with_symbols-open : (ps : List Piece) (lead : ℕ) (ns : List ℕ) → with_symbols (between ps 0) (open_symbols lead ns) ≡ within ps lead ns
with_symbols-open ps lead ns =
    with_symbols-append (between ps 0) (replicate lead J) (H ∷ H ∷ map Nibble ns)
    ∙ ap (λ b. with_symbols b (H ∷ H ∷ map Nibble ns)) (with_symbols-lead lead ps)
    ∙ with_symbols-nibbles ns [] ps lead

with_symbols-piece : (ps : List Piece) (p : Piece) → with_symbols (between ps 0) (piece_symbols p) ≡ between (ps ++ p ∷ []) 0
with_symbols-piece ps p =
    with_symbols-append (between ps 0) (open_symbols p.lead p.nibbles) (T ∷ p.closer ∷ [])
    ∙ ap (λ b. with_symbols b (T ∷ p.closer ∷ [])) (with_symbols-open ps p.lead p.nibbles)

with_symbols-pieces : (qs ps : List Piece) → with_symbols (between ps 0) (pieces_symbols qs) ≡ between (ps ++ qs) 0
with_symbols-pieces [] ps = ap (λ xs. between xs 0) (sym (append-nil ps))
with_symbols-pieces (q ∷ qs) ps =
    with_symbols-append (between ps 0) (piece_symbols q) (pieces_symbols qs)
    ∙ ap (λ b. with_symbols b (pieces_symbols qs)) (with_symbols-piece ps q)
    ∙ with_symbols-pieces qs (ps ++ q ∷ [])
    ∙ ap (λ xs. between xs 0) (append_assoc ps (q ∷ []) qs)

with_symbols-run : (ps : List Piece) (ss : List Symbol) → with_symbols no_symbols (pieces_symbols ps ++ ss) ≡ with_symbols (between ps 0) ss
with_symbols-run ps ss =
    with_symbols-append no_symbols (pieces_symbols ps) ss ∙ ap (λ b. with_symbols b ss) (with_symbols-pieces ps [])

-- a beginning grows from its symbols
pub with_symbols-beginning : (b : Beginning) → IsBeginning b → with_symbols no_symbols (beginning_symbols b) ≡ b
with_symbols-beginning (beacon zero) h = absurd (omega arith)
with_symbols-beginning (beacon (suc n)) h = let same : 1 + n ≡ suc n = omega arith in with_symbols-beacon n 1 ∙ ap beacon same
with_symbols-beginning (between ps lead) h = with_symbols-run ps (replicate lead J) ∙ with_symbols-lead lead ps
with_symbols-beginning (opened ps lead) h =
    with_symbols-append no_symbols (pieces_symbols ps ++ replicate lead J) (H ∷ [])
    ∙ ap (λ b. with_symbols b (H ∷ [])) (with_symbols-run ps (replicate lead J) ∙ with_symbols-lead lead ps)
with_symbols-beginning (within ps lead ns) h = with_symbols-run ps (open_symbols lead ns) ∙ with_symbols-open ps lead ns
with_symbols-beginning (ended ps lead ns) h =
    with_symbols-append no_symbols (pieces_symbols ps ++ open_symbols lead ns) (T ∷ [])
    ∙ ap (λ b. with_symbols b (T ∷ [])) (with_symbols-run ps (open_symbols lead ns) ∙ with_symbols-open ps lead ns)
