-- Whole runs of the transmitter.
use Rattle.std.specs.Prelude.{ℕ, ◌+◌, ◌-◌, ◌==◌, if◌then◌else◌, List, [], ◌∷◌, ◌++◌, length, take, Option, Some, None}
use Rattle.std.specs.List.{flat_map}
use Rattle.t1s_symbols.specs.declared.Quarter.{Quarter}
use Rattle.t1s_symbols.specs.declared.Symbol.{Symbol}
use Rattle.t1s_symbols.specs.declared.Symbol.TheVariants.{Nibble, J, K, T, R, H, N, S}
use Rattle.t1s_pcs_tx.specs.declared.TxIn.{TxIn}
use Rattle.t1s_pcs_tx.specs.State.{TxState}
use Rattle.t1s_pcs_tx.specs.TransmitTable.{TxTurn, transmit_step, last_part}

-- a tick: what is told in it, and the delay line as it is found then, whatever was pushed to it or cleared since
pub record Tick : Type 0 where
  pub inp : TxIn
  pub line : List ℕ

abbrev pub turn : TxState → Tick → TxTurn
turn s tick = transmit_step s tick.inp tick.line

-- the transmitter after ticks
abbrev pub after : TxState → List Tick → TxState
after s [] = s
after s (tick ∷ ticks) = after (turn s tick).state ticks

-- what is driven in them, tick by tick
abbrev pub driven_ticks : TxState → List Tick → List (Option Quarter)
driven_ticks s [] = []
driven_ticks s (tick ∷ ticks) = (turn s tick).driven ∷ driven_ticks (turn s tick).state ticks

-- the nibbles that a line has lost at its beginning
abbrev pub lost_nibbles : List ℕ → List ℕ → List ℕ
lost_nibbles before left = take (length before - length left) before

-- the nibbles that are popped in them
abbrev pub popped_nibbles : TxState → List Tick → List ℕ
popped_nibbles s [] = []
popped_nibbles s (tick ∷ ticks) = lost_nibbles tick.line (turn s tick).line ++ popped_nibbles (turn s tick).state ticks

-- symbols on the line, each in its four quarters
abbrev pub quarters : Symbol → List (Option Quarter)
quarters symbol =
    Some (record { sym = symbol; part = 0 }) ∷ Some (record { sym = symbol; part = 1 })
    ∷ Some (record { sym = symbol; part = 2 }) ∷ Some (record { sym = symbol; part = 3 }) ∷ []

abbrev pub all_quarters : List Symbol → List (Option Quarter)
all_quarters symbols = flat_map quarters symbols

-- how many symbols J have ended in a row, by the one tick more: any other drive, and silence, begins the row anew
abbrev pub lead_by : ℕ → Symbol → ℕ → ℕ
lead_by lead J part = if part == last_part then lead + 1 else lead
lead_by lead (Nibble n) part = 0
lead_by lead K part = 0
lead_by lead T part = 0
lead_by lead R part = 0
lead_by lead H part = 0
lead_by lead N part = 0
lead_by lead S part = 0

abbrev pub lead_with : ℕ → Option Quarter → ℕ
lead_with lead None = 0
lead_with lead (Some quarter) = lead_by lead quarter.sym quarter.part

abbrev pub lead_from : ℕ → List (Option Quarter) → ℕ
lead_from lead [] = lead
lead_from lead (tick ∷ ticks) = lead_from (lead_with lead tick) ticks

-- the symbols J in a row at the end of what was driven
abbrev pub lead_of : List (Option Quarter) → ℕ
lead_of ticks = lead_from 0 ticks
