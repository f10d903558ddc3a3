-- The beginning of a burst with one symbol more.
use Rattle.std.specs.Prelude.{ℕ, ◌+◌, List, [], ◌∷◌, ◌++◌}
use Rattle.t1s_symbols.specs.declared.Symbol.{Symbol}
use Rattle.t1s_symbols.specs.declared.Symbol.TheVariants.{Nibble, J, H}
use Rattle.t1s_grammar.specs.Burst.{Piece}
use Rattle.t1s_grammar.specs.Prefixes.{Beginning, beacon, between, opened, within, ended}

abbrev pub piece_of : ℕ → List ℕ → Symbol → Piece
piece_of lead nibbles closer = record { lead = lead; nibbles = nibbles; closer = closer }

-- where the symbol may stand there
abbrev pub with_symbol : Beginning → Symbol → Beginning
with_symbol (beacon count) s = beacon (count + 1)
with_symbol (between ps lead) J = between ps (lead + 1)
with_symbol (between ps lead) H = opened ps lead
with_symbol (between ps lead) _ = beacon 1
with_symbol (opened ps lead) s = within ps lead []
with_symbol (within ps lead ns) (Nibble n) = within ps lead (ns ++ n ∷ [])
with_symbol (within ps lead ns) _ = ended ps lead ns
with_symbol (ended ps lead ns) s = between (ps ++ piece_of lead ns s ∷ []) 0
