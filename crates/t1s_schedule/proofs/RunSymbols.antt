-- Symbols of runs, and their quarters one by one.
use Rattle.std.proofs.Common.{◌≡◌, ℕ, zero, suc, ◌*◌, ◌<◌, ◌≤◌, Bool, true, false, ◌&&◌, List, [], ◌∷◌, ◌++◌, length, get_or, map, replicate, None, is_some, refl, sym, ◌∙◌, ap, arith}
use Rattle.std.proofs.lemmas.Bool.{true≢false}
use Rattle.t1s_symbols.specs.declared.Symbol.{Symbol}
use Rattle.t1s_symbols.specs.declared.Symbol.TheVariants.{Nibble, J, T, H}
use Rattle.t1s_grammar.specs.Burst.{Piece, open_symbols, piece_symbols, pieces_symbols, IsRun}
use Rattle.t1s_pcs_tx.specs.Runs.{all_quarters}
use Rattle.t1s_turns.specs.OwnRun.{OwnPiece, run_symbols}

-- ---- quarters

-- each symbol has a quarter in each of its four ticks
pub quarter_some : (symbols : List Symbol) (m : ℕ) → m < 4 * length symbols → is_some (get_or (all_quarters symbols) m None) ≡ true
quarter_some [] m below = absurd (omega (arith, below))
quarter_some (x ∷ xs) zero below = refl
quarter_some (x ∷ xs) (suc zero) below = refl
quarter_some (x ∷ xs) (suc (suc zero)) below = refl
quarter_some (x ∷ xs) (suc (suc (suc zero))) below = refl
quarter_some (x ∷ xs) (suc (suc (suc (suc m)))) below = quarter_some xs m (omega (arith, below))

-- ---- a run is not J alone

abbrev is_j : Symbol → Bool
is_j J = true
is_j _ = false

abbrev all_j : List Symbol → Bool
all_j [] = true
all_j (x ∷ xs) = is_j x && all_j xs

all_j-replicate : (n : ℕ) → all_j (replicate n J) ≡ true
all_j-replicate zero = refl
all_j-replicate (suc n) = all_j-replicate n

-- what begins with J and goes on with H
not_j : (n : ℕ) (xs : List Symbol) → all_j (replicate n J ++ H ∷ xs) ≡ false
not_j zero xs = refl
not_j (suc n) xs = not_j n xs

false_step : (b c d : Bool) → (b && c) ≡ false → (c ≡ false → d ≡ false) → (b && d) ≡ false
false_step true c d e f = f e
false_step false c d e f = refl

false_more : (xs ys : List Symbol) → all_j xs ≡ false → all_j (xs ++ ys) ≡ false
false_more [] ys e = absurd (true≢false e)
false_more (x ∷ xs) ys e = false_step (is_j x) (all_j xs) (all_j (xs ++ ys)) e (λ f. false_more xs ys f)

piece_not_j : (p : Piece) → all_j (piece_symbols p) ≡ false
piece_not_j p = false_more (open_symbols p.lead p.nibbles) (T ∷ p.closer ∷ []) (not_j p.lead (H ∷ map Nibble p.nibbles))

run_not_j : (symbols : List Symbol) → IsRun symbols → all_j symbols ≡ true → ⊥
run_not_j symbols run all = by run.pieces run.least_pieces run.spelled
  where
    by : (ps : List Piece) → 1 ≤ length ps → symbols ≡ pieces_symbols ps ++ replicate run.rest J → ⊥
    by [] some spelled = absurd (omega (arith, some))
    by (p ∷ ps) some spelled =
        let pieces = false_more (piece_symbols p) (pieces_symbols ps) (piece_not_j p) in
        let other = false_more (piece_symbols p ++ pieces_symbols ps) (replicate run.rest J) pieces in
        absurd (true≢false (sym all ∙ (ap all_j spelled ∙ other)))

-- so it has a piece
pub some_piece : (pieces : List OwnPiece) (rest : ℕ) → IsRun (run_symbols pieces rest) → 1 ≤ length pieces
some_piece [] rest run = absurd (run_not_j (run_symbols [] rest) run (all_j-replicate rest))
some_piece (p ∷ ps) rest run = omega arith
