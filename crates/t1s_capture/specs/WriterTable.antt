-- What a writer keeps of the ticks so far, and what it gives out: its own table.
use Rattle.std.specs.Prelude.{◌≡◌, ℕ, ◌+◌, ◌≤◌, ◌==◌, ◌&&◌, Bool, true, false, List, [], ◌∷◌, ◌++◌, replicate, Option, None, Some, Result, Ok, Err, if◌then◌else◌}
use Rattle.std.specs.List.{flat_map}
use Rattle.t1s_base.specs.Limits.{most_ticks}
use Rattle.t1s_symbols.specs.declared.Symbol.{Symbol}
use Rattle.t1s_symbols.specs.declared.Quarter.{Quarter}
use Rattle.t1s_symbols.specs.declared.Heard.TheVariants.{Nothing}
use Rattle.t1s_symbols.specs.GroupTable.{group}
use Rattle.t1s_symbols.specs.Quarters.{continues_last}
use Rattle.t1s_grammar.specs.PlaceTable.{start_phase, place_step, ends_burst}
use Rattle.t1s_grammar.specs.declared.place.Phase.{Phase}
use Rattle.t1s_grammar.specs.declared.place.PlaceFault.{PlaceFault}
use Rattle.t1s_capture.specs.declared.row.ReadingSoFar.{ReadingSoFar}
use Rattle.t1s_capture.specs.declared.row.RowSoFar.{RowSoFar}
use Rattle.t1s_capture.specs.declared.row.RowSoFar.TheVariants.{Empty, Silent, Reading, Torn}
use Rattle.t1s_capture.specs.Captures.{CaptureItem, count_octets, item_octets}
use Rattle.t1s_capture.specs.Cut.{Tick, is_silent, IsRow, quarter_of, cut, cut_from}

-- a row, and the octets that are given out
abbrev pub Step : Type 0
Step = RowSoFar × List ℕ

abbrev pub reading : Phase → Option Quarter → RowSoFar
reading place last = Reading (record { place = place; last = last })

-- the ticks of the symbol that is begun
abbrev pub ticks_begun : Option Quarter → ℕ
ticks_begun None = 0
ticks_begun (Some q) = q.part + 1

-- a symbol is complete
abbrev pub symbol_ends : Symbol → Result Phase PlaceFault → Step
symbol_ends s (Ok place) = (reading place None, group s ∷ [])
symbol_ends s (Err fault) = (Torn 4, [])

abbrev pub quarter_step : ReadingSoFar → Quarter → Step
quarter_step r q =
    if continues_last r.last q then (if q.part == 3 then symbol_ends q.sym (place_step r.place q.sym) else (reading r.place (Some q), []))
    else (Torn (ticks_begun r.last + 1), [])

abbrev pub reading_step : ReadingSoFar → Option Quarter → Step
reading_step r None = (Torn (ticks_begun r.last + 1), [])
reading_step r (Some q) = quarter_step r q

-- no symbol yet
abbrev pub nothing_read : ReadingSoFar
nothing_read = record { place = start_phase; last = None }

-- what a row that ends gives out
abbrev pub blur_octets : ℕ → List ℕ
blur_octets n = 0x22 ∷ count_octets n

abbrev pub reading_end : ReadingSoFar → List ℕ
reading_end r = if (ticks_begun r.last == 0) && ends_burst r.place then [] else blur_octets (ticks_begun r.last)

abbrev pub row_end : RowSoFar → List ℕ
row_end Empty = []
row_end (Silent n) = 0x20 ∷ count_octets n
row_end (Reading r) = reading_end r
row_end (Torn n) = blur_octets n

-- a tick that is not silent
abbrev pub sound_step : RowSoFar → Option Quarter → Step
sound_step Empty q = reading_step nothing_read q
sound_step (Silent n) q = ((reading_step nothing_read q).0, row_end (Silent n))
sound_step (Reading r) q = reading_step r q
sound_step (Torn n) q = (Torn (n + 1), [])

-- a silent tick
abbrev pub silent_step : RowSoFar → Step
silent_step Empty = (Silent 1, [])
silent_step (Silent n) = (Silent (n + 1), [])
silent_step (Reading r) = (Silent 1, row_end (Reading r))
silent_step (Torn n) = (Silent 1, row_end (Torn n))

abbrev pub row_step : RowSoFar → Tick → Step
row_step row tick = if is_silent tick then silent_step row else sound_step row (quarter_of tick)

-- what contracts see of a writer: its node, how many ticks were handed in, and the row that they end in
pub record WriterState : Type 0 where
  pub node : ℕ
  pub ticks : ℕ
  pub row : RowSoFar

-- the ranges of the numbers in it
abbrev pub RowFits : ℕ → RowSoFar → Type 0
RowFits ticks Empty = Unit {0}
RowFits ticks (Silent n) = n ≤ ticks
RowFits ticks (Reading r) = Unit {0}
RowFits ticks (Torn n) = n ≤ ticks + 300

pub record WriterFits (node ticks : ℕ) (row : RowSoFar) : Type 0 where
  pub few : ticks ≤ most_ticks
  pub row_fits : RowFits ticks row

-- ---- what a writer stands for

-- a row and the octets given out for it, with these ticks more
abbrev pub row_from : Step → List Tick → Step
row_from step [] = step
row_from step (t ∷ ts) = row_from ((row_step step.0 t).0, step.1 ++ (row_step step.0 t).1) ts

abbrev pub row_after : List Tick → Step
row_after ticks = row_from (Empty, []) ticks

-- so many ticks in which nothing is heard and the node doesn't drive
abbrev pub quiet_ticks : ℕ → List Tick
quiet_ticks n = replicate n (Nothing, false)

-- a row that is kept as silent, or as not
abbrev pub IsKind : Bool → RowSoFar → Type 0
IsKind true (Silent n) = Unit {0}
IsKind false (Reading r) = Unit {0}
IsKind false (Torn n) = Unit {0}
IsKind _ _ = ⊥

abbrev pub RowIsKind : List Tick → RowSoFar → Type 0
RowIsKind [] row = row ≡ Empty
RowIsKind (t ∷ ts) row = IsKind (is_silent t) row

-- A writer stands for the ticks that were handed in, of which it has given out some octets after the header: those of
-- the items before the row that the ticks end in, and those of the symbols in that row.
pub record WriterStands (ticks : List Tick) (given : List ℕ) (writer : WriterState) : Type 0 where
  pub items : List CaptureItem
  pub row : List Tick
  pub cuts : (more : List Tick) → cut (ticks ++ more) ≡ items ++ cut_from row more
  pub one_kind : IsRow row
  pub kind : RowIsKind row writer.row
  pub keeps : writer.row ≡ (row_after row).0
  pub gives : given ≡ flat_map item_octets items ++ (row_after row).1
