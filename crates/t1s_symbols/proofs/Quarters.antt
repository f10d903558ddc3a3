-- Symbols that are the same, and quarters that continue a symbol.
use Rattle.std.proofs.Common.{refl, ◌≡◌, ℕ, ◌+◌, ◌<◌, Bool, true, false, ◌&&◌, ◌||◌, ◌==◌, arith, ap, ◌∙◌, if◌then◌else◌, Option}
use Rattle.std.specs.Prelude.{IsTrue}
use Rattle.std.proofs.lemmas.Grind.{common_steps}
use Rattle.std.proofs.lemmas.Bool.{eq-eqb, ne_eqb, eqb-true}
use Rattle.t1s_symbols.specs.declared.Symbol.{Symbol}
use Rattle.t1s_symbols.specs.declared.Symbol.TheVariants.{Nibble, J, K, T, R, H, N, S}
use Rattle.t1s_symbols.specs.declared.Quarter.{Quarter}
use Rattle.t1s_symbols.specs.Symbols.{same_symbol}
use Rattle.t1s_symbols.specs.declared.QuarterReading.TheVariants.{Broken, Partial, Complete}
use Rattle.t1s_symbols.specs.Quarters.{continues, continues_last, quarter_reading}

pub same_symbol-sound : (s t : Symbol) → IsTrue (same_symbol s t) → s ≡ t
same_symbol-sound (Nibble m) (Nibble n) h = let e : m ≡ n = grind (arith, common_steps) in ap Nibble e
same_symbol-sound J J h = refl
same_symbol-sound K K h = refl
same_symbol-sound T T h = refl
same_symbol-sound R R h = refl
same_symbol-sound H H h = refl
same_symbol-sound N N h = refl
same_symbol-sound S S h = refl
same_symbol-sound _ _ h = cc

pub same_symbol-refl : (s : Symbol) → same_symbol s s ≡ true
same_symbol-refl (Nibble n) = eq-eqb n n refl
same_symbol-refl J = refl
same_symbol-refl K = refl
same_symbol-refl T = refl
same_symbol-refl R = refl
same_symbol-refl H = refl
same_symbol-refl N = refl
same_symbol-refl S = refl

-- after a part that is not the last one, only the next part of the same symbol follows
pub continues-partial : (s : Symbol) (k : ℕ) (q : Quarter) → k < 3
    → continues (record { sym = s; part = k }) q ≡ (same_symbol s q.sym && (q.part == (k + 1)))
continues-partial s k q below =
    ap (λ (b : Bool). ((q.part == (k + 1)) && same_symbol s q.sym) || (b && (q.part == 0))) (ne_eqb k 3 (λ e. omega arith))
    ∙ by_cases (q.part == (k + 1)) (same_symbol s q.sym)
  where
    by_cases : (a b : Bool) → ((a && b) || false) ≡ (b && a)
    by_cases true true = refl
    by_cases true false = refl
    by_cases false true = refl
    by_cases false false = refl

by_tests : (goes last : Bool) → (if goes then (if last then Complete else Partial) else Broken) ≡ Complete
    → (goes ≡ true) × (last ≡ true)
by_tests true true e = (refl, refl)
by_tests true false e = absurd cc
by_tests false last e = absurd cc

-- a quarter that completes its symbol continues the last one, and is part 3
pub complete-from : (last : Option Quarter) (q : Quarter) → quarter_reading last q ≡ Complete
    → (continues_last last q ≡ true) × (q.part ≡ 3)
complete-from last q e =
    let tests = by_tests (continues_last last q) (q.part == 3) e in (tests.0, eqb-true q.part 3 tests.1)
