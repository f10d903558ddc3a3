-- The items that are cut from what a node heard, tick by tick.
use Rattle.std.specs.Prelude.{◌^◌, ◌<◌, ◌≡◌, ℕ, ◌*◌, ◌-◌, ◌==◌, ◌&&◌, Bool, true, false, not, List, [], ◌∷◌, ◌++◌, length, Option, None, Some, Result, Ok, Err, if◌then◌else◌}
use Rattle.t1s_symbols.specs.declared.Symbol.{Symbol}
use Rattle.t1s_symbols.specs.declared.Quarter.{Quarter}
use Rattle.t1s_symbols.specs.declared.Heard.{Heard}
use Rattle.t1s_symbols.specs.declared.Heard.TheVariants.{Nothing, One, Many}
use Rattle.t1s_symbols.specs.Symbols.{same_symbol}
use Rattle.t1s_symbols.specs.Ranges.{IsHeard}
use Rattle.t1s_grammar.specs.Prefixes.{Beginning, phase_of}
use Rattle.t1s_grammar.specs.PlaceTable.{place_step, ends_burst}
use Rattle.t1s_grammar.specs.declared.place.Phase.{Phase}
use Rattle.t1s_grammar.specs.declared.place.PlaceFault.{PlaceFault}
use Rattle.t1s_capture.specs.Captures.{CaptureItem, Gap, Burst, Torn, no_symbols, symbol_count, IsItemList, ticks_of}
use Rattle.t1s_grammar.specs.Longer.{with_symbol}

-- what a node hears in a tick, and whether it drives itself
abbrev pub Tick : Type 0
Tick = Heard × Bool

abbrev pub nothing_heard : Heard → Bool
nothing_heard Nothing = true
nothing_heard (One q) = false
nothing_heard Many = false

-- a silent tick belongs to a gap, also where the node drives
abbrev pub is_silent : Tick → Bool
is_silent tick = nothing_heard tick.0

-- these ticks are all silent, or all not
abbrev pub AreSilent : Bool → List Tick → Type 0
AreSilent silent [] = Unit {0}
AreSilent silent (t ∷ ts) = (is_silent t ≡ silent) × AreSilent silent ts

-- a row: its ticks are all silent or all not
abbrev pub IsRow : List Tick → Type 0
IsRow [] = Unit {0}
IsRow (t ∷ ts) = AreSilent (is_silent t) ts

-- the quarter that is heard in a tick. What is heard while the node drives counts as more than one signal
abbrev pub quarter_heard : Heard → Bool → Option Quarter
quarter_heard (One q) false = Some q
quarter_heard _ _ = None

abbrev pub quarter_of : Tick → Option Quarter
quarter_of tick = quarter_heard tick.0 tick.1

-- whether that is this part of this symbol
abbrev pub is_part : Symbol → ℕ → Option Quarter → Bool
is_part s part None = false
is_part s part (Some q) = same_symbol s q.sym && (q.part == part)

-- the symbol whose four quarters are heard in four ticks, one after another
abbrev pub symbol_by : Option Quarter → Option Quarter → Option Quarter → Option Quarter → Option Symbol
symbol_by None b c d = None
symbol_by (Some q) b c d =
    if (q.part == 0) && (is_part q.sym 1 b && (is_part q.sym 2 c && is_part q.sym 3 d)) then Some q.sym else None

-- go on with the symbols and one more, where it may stand there
abbrev pub on_place : Beginning → Symbol → Result Phase PlaceFault → (Beginning → Beginning) → Beginning
on_place b s (Ok place) next = next (with_symbol b s)
on_place b s (Err fault) next = b

abbrev pub on_symbol : Beginning → Option Symbol → (Beginning → Beginning) → Beginning
on_symbol b None next = b
on_symbol b (Some s) next = on_place b s (place_step (phase_of b) s) next

-- the symbols that are read from ticks, after these: four ticks a symbol, up to the first four that are no symbol,
-- or one that may not stand there
abbrev pub read_on : Beginning → List Tick → Beginning
read_on b (t ∷ u ∷ v ∷ w ∷ rest) =
    on_symbol b (symbol_by (quarter_of t) (quarter_of u) (quarter_of v) (quarter_of w)) (λ c. read_on c rest)
read_on b _ = b

-- a row of ticks that are not silent is a burst, where its symbols are one and take all of its ticks; else it is a
-- torn burst, whose blur is the ticks after the symbols
abbrev pub burst_or_torn : Beginning → ℕ → CaptureItem
burst_or_torn b ticks =
    if (ticks == 4 * symbol_count b) && ends_burst (phase_of b) then Burst b else Torn b (ticks - 4 * symbol_count b)

-- the item of a row of ticks, which are all silent or all not; a row without ticks is none
abbrev pub row_items : List Tick → List CaptureItem
row_items [] = []
row_items (t ∷ ts) =
    (if is_silent t then Gap (length (t ∷ ts)) else burst_or_torn (read_on no_symbols (t ∷ ts)) (length (t ∷ ts))) ∷ []

-- whether a row goes on with this tick
abbrev pub goes_on : List Tick → Tick → Bool
goes_on [] tick = true
goes_on (t ∷ ts) tick = if is_silent t then is_silent tick else not (is_silent tick)

-- the items of a row that is begun and of the ticks after it
abbrev pub cut_from : List Tick → List Tick → List CaptureItem
cut_from row [] = row_items row
cut_from row (t ∷ ts) = if goes_on row t then cut_from (row ++ t ∷ []) ts else row_items row ++ cut_from (t ∷ []) ts

-- the items that are cut from ticks: each row of silent ticks is a gap, and each row of others is a burst or a
-- torn burst
unfoldable pub cut : List Tick → List CaptureItem
cut ticks = cut_from [] ticks

-- what is heard in these ticks is in range
abbrev pub AreHeard : List Tick → Type 0
AreHeard [] = Unit {0}
AreHeard (t ∷ ts) = IsHeard t.0 × AreHeard ts

-- what is cut from ticks may stand in a capture, and lasts as long as the ticks
pub record IsCut (ticks : List Tick) : Type 0 where
  pub valid : IsItemList (cut ticks)
  pub lasts : ticks_of (cut ticks) ≡ length ticks

-- this holds of all ticks, where they are so few that their counts fit four octets
abbrev pub CutsAreCaptures : Type 0
CutsAreCaptures = (ticks : List Tick) → AreHeard ticks → length ticks < 2 ^ 32 → IsCut ticks
