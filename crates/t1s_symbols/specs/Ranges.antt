-- The ranges of the numbers in symbols, quarters and what is heard: a nibble is below 16, a part below 4.
use Rattle.std.specs.Prelude.{◌<◌, Bool, true, ◌&&◌, nat_lt}
use Rattle.t1s_symbols.specs.declared.Symbol.{Symbol}
use Rattle.t1s_symbols.specs.declared.Symbol.TheVariants.{Nibble, J, K, T, R, H, N, S}
use Rattle.t1s_symbols.specs.declared.Quarter.{Quarter}
use Rattle.t1s_symbols.specs.declared.Heard.{Heard}
use Rattle.t1s_symbols.specs.declared.Heard.TheVariants.{Nothing, One, Many}

abbrev pub IsSymbol : Symbol → Type 0
IsSymbol (Nibble n) = n < 16
IsSymbol J = Unit {0}
IsSymbol K = Unit {0}
IsSymbol T = Unit {0}
IsSymbol R = Unit {0}
IsSymbol H = Unit {0}
IsSymbol N = Unit {0}
IsSymbol S = Unit {0}

pub record IsQuarter (q : Quarter) : Type 0 where
  pub sym : IsSymbol q.sym
  pub part : q.part < 4

abbrev pub IsHeard : Heard → Type 0
IsHeard Nothing = Unit {0}
IsHeard (One q) = IsQuarter q
IsHeard Many = Unit {0}

-- The same ranges as tests that compute.

abbrev pub symbol_in_range : Symbol → Bool
symbol_in_range (Nibble n) = nat_lt n 16
symbol_in_range J = true
symbol_in_range K = true
symbol_in_range T = true
symbol_in_range R = true
symbol_in_range H = true
symbol_in_range N = true
symbol_in_range S = true

abbrev pub quarter_in_range : Quarter → Bool
quarter_in_range q = symbol_in_range q.sym && nat_lt q.part 4

abbrev pub heard_in_range : Heard → Bool
heard_in_range Nothing = true
heard_in_range (One q) = quarter_in_range q
heard_in_range Many = true
