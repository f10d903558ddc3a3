-- The tests of a range and its fact say the same.
use Rattle.std.proofs.Common.{refl, ◌≡◌, true, nat_lt, arith}
use Rattle.std.proofs.lemmas.Grind.{common_steps}
use Rattle.std.proofs.lemmas.Bool.{ltb-true, lt-ltb, and_parts, and_from}
use Rattle.t1s_symbols.specs.declared.Symbol.{Symbol}
use Rattle.t1s_symbols.specs.declared.Symbol.TheVariants.{Nibble, J, K, T, R, H, N, S}
use Rattle.t1s_symbols.specs.declared.Quarter.{Quarter}
use Rattle.t1s_symbols.specs.declared.Heard.{Heard}
use Rattle.t1s_symbols.specs.declared.Heard.TheVariants.{Nothing, One, Many}
use Rattle.t1s_symbols.specs.Ranges.{IsSymbol, IsQuarter, IsHeard, symbol_in_range, quarter_in_range, heard_in_range}

pub symbol_from_range : (s : Symbol) → symbol_in_range s ≡ true → IsSymbol s
symbol_from_range (Nibble n) h = grind (arith, common_steps)
symbol_from_range J h = tt
symbol_from_range K h = tt
symbol_from_range T h = tt
symbol_from_range R h = tt
symbol_from_range H h = tt
symbol_from_range N h = tt
symbol_from_range S h = tt

pub symbol_to_range : (s : Symbol) → IsSymbol s → symbol_in_range s ≡ true
symbol_to_range (Nibble n) h = grind (arith, common_steps)
symbol_to_range J h = refl
symbol_to_range K h = refl
symbol_to_range T h = refl
symbol_to_range R h = refl
symbol_to_range H h = refl
symbol_to_range N h = refl
symbol_to_range S h = refl

pub quarter_from_range : (q : Quarter) → quarter_in_range q ≡ true → IsQuarter q
quarter_from_range q h = record {
  sym = symbol_from_range q.sym (and_parts (symbol_in_range q.sym) (nat_lt q.part 4) h).0;
  part = ltb-true q.part 4 (and_parts (symbol_in_range q.sym) (nat_lt q.part 4) h).1;
}

pub quarter_to_range : (q : Quarter) → IsQuarter q → quarter_in_range q ≡ true
quarter_to_range q h =
    and_from (symbol_in_range q.sym) (nat_lt q.part 4) (symbol_to_range q.sym h.sym) (lt-ltb q.part 4 h.part)

pub heard_from_range : (h : Heard) → heard_in_range h ≡ true → IsHeard h
heard_from_range Nothing e = tt
heard_from_range (One q) e = quarter_from_range q e
heard_from_range Many e = tt

pub heard_to_range : (h : Heard) → IsHeard h → heard_in_range h ≡ true
heard_to_range Nothing e = refl
heard_to_range (One q) e = quarter_to_range q e
heard_to_range Many e = refl
