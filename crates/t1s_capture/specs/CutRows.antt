-- What is cut, in the words of the grammar: rows are cut apart, and the symbols of a row are those that are heard in it.
use Rattle.std.specs.Prelude.{◌≡◌, ◌≢◌, ℕ, true, false, List, [], ◌∷◌, ◌++◌, length}
use Rattle.std.specs.List.{flat_map}
use Rattle.t1s_symbols.specs.declared.Symbol.{Symbol}
use Rattle.t1s_symbols.specs.declared.Heard.TheVariants.{One}
use Rattle.t1s_grammar.specs.Burst.{IsBurst, BeginsBurst}
use Rattle.t1s_grammar.specs.Prefixes.{Beginning, beginning_symbols}
use Rattle.t1s_capture.specs.Captures.{Gap, Burst, Torn}
use Rattle.t1s_capture.specs.Cut.{Tick, is_silent, AreSilent, AreHeard, cut}

-- a tick in which this part of this symbol alone is heard, and the node doesn't drive
abbrev pub part_tick : Symbol → ℕ → Tick
part_tick s part = (One (record { sym = s; part = part }), false)

-- the four ticks in which a symbol is heard: its parts 0 to 3
abbrev pub symbol_ticks : Symbol → List Tick
symbol_ticks s = part_tick s 0 ∷ part_tick s 1 ∷ part_tick s 2 ∷ part_tick s 3 ∷ []

-- A row is read as these symbols: they are heard one after another from its first tick on, and after them some ticks
-- are left over, or none. They begin a burst; and where the ticks that are left over begin with one symbol more, no
-- burst begins with it too.
pub record IsReadAs (row : List Tick) (symbols : List Symbol) (left : List Tick) : Type 0 where
  pub heard : row ≡ flat_map symbol_ticks symbols ++ left
  pub begins : BeginsBurst symbols
  pub longest : (s : Symbol) (rest : List Tick) → left ≡ symbol_ticks s ++ rest → BeginsBurst (symbols ++ s ∷ []) → ⊥

-- One item is cut from a row. It is a burst, where nothing is left over and the symbols are a burst; else it is a torn
-- burst, whose blur is what is left over.
pub record IsCutAsRead (row : List Tick) : Type 0 where
  pub symbols : Beginning
  pub left : List Tick
  pub read : IsReadAs row (beginning_symbols symbols) left
  pub whole : left ≡ [] → IsBurst (beginning_symbols symbols) → cut row ≡ Burst symbols ∷ []
  pub torn : (left ≡ [] → IsBurst (beginning_symbols symbols) → ⊥) → cut row ≡ Torn symbols (length left) ∷ []

-- this holds of each row of ticks of which none is silent
abbrev pub CutsReadWhatIsHeard : Type 0
CutsReadWhatIsHeard = (row : List Tick) → row ≢ [] → AreSilent false row → AreHeard row → IsCutAsRead row

-- a row of silent ticks is one gap
abbrev pub SilenceIsOneGap : Type 0
SilenceIsOneGap = (row : List Tick) → row ≢ [] → AreSilent true row → cut row ≡ Gap (length row) ∷ []

-- where silence begins or ends, what is before and what is after are cut apart
abbrev pub RowsAreCutApart : Type 0
RowsAreCutApart = (before after : List Tick) (x y : Tick) → is_silent x ≢ is_silent y →
    cut (before ++ x ∷ y ∷ after) ≡ cut (before ++ x ∷ []) ++ cut (y ∷ after)
