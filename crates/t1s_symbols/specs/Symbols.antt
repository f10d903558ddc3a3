-- When two symbols are the same.
use Rattle.std.specs.Prelude.{Bool, true, false, ◌==◌}
use Rattle.t1s_symbols.specs.declared.Symbol.{Symbol}
use Rattle.t1s_symbols.specs.declared.Symbol.TheVariants.{Nibble, J, K, T, R, H, N, S}

-- whether two symbols are the same, nibbles by their number
abbrev pub same_symbol : Symbol → Symbol → Bool
same_symbol (Nibble m) (Nibble n) = m == n
same_symbol J J = true
same_symbol K K = true
same_symbol T T = true
same_symbol R R = true
same_symbol H H = true
same_symbol N N = true
same_symbol S S = true
same_symbol _ _ = false
