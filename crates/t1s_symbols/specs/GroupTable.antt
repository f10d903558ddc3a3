-- The 5B groups of the symbols: one table, read both ways.
use Rattle.std.specs.Prelude.{◌≡◌, ℕ, ◌&&◌, ◌==◌, IsTrue, List, [], ◌∷◌, Option, None, Some, if◌then◌else◌}
use Rattle.std.specs.List.{list_any}
use Rattle.t1s_symbols.specs.declared.Symbol.{Symbol}
use Rattle.t1s_symbols.specs.declared.Symbol.TheVariants.{Nibble, J, K, T, R, H, N, S}
use Rattle.t1s_symbols.specs.Ranges.{IsSymbol}
use Rattle.t1s_symbols.specs.Symbols.{same_symbol}

-- the 23 pairs of a symbol and its group: a closed list of this project's own, and no statement about the
-- standard. Silence (0x1F) is no symbol, and has no row
abbrev pub group_table : List (Symbol × ℕ)
group_table =
    (Nibble 0x0, 0x1E) ∷ (Nibble 0x1, 0x09) ∷ (Nibble 0x2, 0x14) ∷ (Nibble 0x3, 0x15)
    ∷ (Nibble 0x4, 0x0A) ∷ (Nibble 0x5, 0x0B) ∷ (Nibble 0x6, 0x0E) ∷ (Nibble 0x7, 0x0F)
    ∷ (Nibble 0x8, 0x12) ∷ (Nibble 0x9, 0x13) ∷ (Nibble 0xA, 0x16) ∷ (Nibble 0xB, 0x17)
    ∷ (Nibble 0xC, 0x1A) ∷ (Nibble 0xD, 0x1B) ∷ (Nibble 0xE, 0x1C) ∷ (Nibble 0xF, 0x1D)
    ∷ (J, 0x18) ∷ (K, 0x11) ∷ (T, 0x0D) ∷ (R, 0x07) ∷ (H, 0x04) ∷ (N, 0x08) ∷ (S, 0x19) ∷ []

-- a symbol and a group are a pair of the table
unfoldable pub IsPair : Symbol → ℕ → Type 0
IsPair s g = IsTrue (list_any (λ pair. same_symbol s pair.0 && (g == pair.1)) group_table)

-- the group beside the first row of a table that has the symbol, and 0 where no row has it
abbrev pub group_in : List (Symbol × ℕ) → Symbol → ℕ
group_in [] s = 0
group_in (pair ∷ pairs) s = if same_symbol s pair.0 then pair.1 else group_in pairs s

unfoldable pub group : Symbol → ℕ
group s = group_in group_table s

-- the symbol of the first row of a table that has the group, if there is one
abbrev pub symbol_in : List (Symbol × ℕ) → ℕ → Option Symbol
symbol_in [] g = None
symbol_in (pair ∷ pairs) g = if g == pair.1 then Some pair.0 else symbol_in pairs g

unfoldable pub symbol : ℕ → Option Symbol
symbol g = symbol_in group_table g

-- no two symbols have one group
abbrev pub NoSharedGroup : Type 0
NoSharedGroup = (s t : Symbol) (g : ℕ) → IsPair s g → IsPair t g → s ≡ t

-- the two readings of the table undo each other
pub record UndoEachOther : Type 0 where
  pub of_symbol : (s : Symbol) → IsSymbol s → symbol (group s) ≡ Some s
  pub of_group : (s : Symbol) (g : ℕ) → symbol g ≡ Some s → group s ≡ g
