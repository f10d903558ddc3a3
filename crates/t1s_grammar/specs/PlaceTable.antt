-- What a `Place` makes of the next symbol, as a table on the counts that it keeps.
use Rattle.std.specs.Prelude.{ℕ, ◌+◌, ◌==◌, ◌&&◌, ◌||◌, nat_lt, Bool, false, if◌then◌else◌, Result, Ok, Err}
use Rattle.t1s_symbols.specs.declared.Symbol.{Symbol}
use Rattle.t1s_symbols.specs.declared.Symbol.TheVariants.{Nibble, J, K, T, R, H, N, S}
use Rattle.t1s_grammar.specs.declared.place.Phase.{Phase}
use Rattle.t1s_grammar.specs.declared.place.Phase.TheVariants.{Beacon, Between, Opened, Within, Ended}
use Rattle.t1s_grammar.specs.declared.place.PlaceFault.{PlaceFault}
use Rattle.t1s_grammar.specs.declared.place.PlaceFault.TheVariants.{NotHere, TooLong}

abbrev pub start_phase : Phase
start_phase = Between 0 0

-- in a beacon
abbrev pub beacon_step : ℕ → Symbol → Result Phase PlaceFault
beacon_step count N = if nat_lt count 5 then Ok (Beacon (count + 1)) else Err NotHere
beacon_step count _ = Err NotHere

-- after pieces, and some J
abbrev pub between_step : ℕ → ℕ → Symbol → Result Phase PlaceFault
between_step closed lead J = if nat_lt lead 4096 then Ok (Between closed (lead + 1)) else Err TooLong
between_step closed lead H =
    if nat_lt lead 2 then Err NotHere else (if nat_lt closed 4096 then Ok (Opened closed lead) else Err TooLong)
between_step closed lead N = if closed == 0 && (lead == 0) then Ok (Beacon 1) else Err NotHere
between_step closed lead _ = Err NotHere

-- after the first H of a piece
abbrev pub opened_step : ℕ → ℕ → Symbol → Result Phase PlaceFault
opened_step closed lead H = Ok (Within closed lead 0)
opened_step closed lead _ = Err NotHere

-- among the nibbles of a piece
abbrev pub within_step : ℕ → ℕ → ℕ → Symbol → Result Phase PlaceFault
within_step closed lead nibbles (Nibble n) =
    if nat_lt nibbles 3056 then Ok (Within closed lead (nibbles + 1)) else Err TooLong
within_step closed lead nibbles T = if nat_lt nibbles 9 then Err NotHere else Ok (Ended closed lead nibbles)
within_step closed lead nibbles _ = Err NotHere

-- after the T of a piece
abbrev pub ended_step : ℕ → Symbol → Result Phase PlaceFault
ended_step closed R = Ok (Between (closed + 1) 0)
ended_step closed K = Ok (Between (closed + 1) 0)
ended_step closed S = Ok (Between (closed + 1) 0)
ended_step closed _ = Err NotHere

abbrev pub place_step : Phase → Symbol → Result Phase PlaceFault
place_step (Beacon count) s = beacon_step count s
place_step (Between closed lead) s = between_step closed lead s
place_step (Opened closed lead) s = opened_step closed lead s
place_step (Within closed lead nibbles) s = within_step closed lead nibbles s
place_step (Ended closed lead nibbles) s = ended_step closed s

-- how many pieces are closed, how many J stand after these, and how many nibbles after these
abbrev pub pieces_at : Phase → ℕ
pieces_at (Beacon count) = 0
pieces_at (Between closed lead) = closed
pieces_at (Opened closed lead) = closed
pieces_at (Within closed lead nibbles) = closed
pieces_at (Ended closed lead nibbles) = closed

abbrev pub lead_at : Phase → ℕ
lead_at (Beacon count) = 0
lead_at (Between closed lead) = lead
lead_at (Opened closed lead) = lead
lead_at (Within closed lead nibbles) = lead
lead_at (Ended closed lead nibbles) = lead

abbrev pub nibbles_at : Phase → ℕ
nibbles_at (Beacon count) = 0
nibbles_at (Between closed lead) = 0
nibbles_at (Opened closed lead) = 0
nibbles_at (Within closed lead nibbles) = nibbles
nibbles_at (Ended closed lead nibbles) = nibbles

-- whether the symbols so far are a burst
abbrev pub ends_burst : Phase → Bool
ends_burst (Beacon count) = count == 5
ends_burst (Between closed lead) = nat_lt 0 closed || nat_lt 0 lead
ends_burst (Opened closed lead) = false
ends_burst (Within closed lead nibbles) = false
ends_burst (Ended closed lead nibbles) = false

-- the counts that a `Place` can have
abbrev pub phase_in_range : Phase → Bool
phase_in_range (Beacon count) = nat_lt 0 count && nat_lt count 6
phase_in_range (Between closed lead) = nat_lt closed 4097 && nat_lt lead 4097
phase_in_range (Opened closed lead) = nat_lt closed 4096 && (nat_lt 1 lead && nat_lt lead 4097)
phase_in_range (Within closed lead nibbles) =
    nat_lt closed 4096 && (nat_lt 1 lead && (nat_lt lead 4097 && nat_lt nibbles 3057))
phase_in_range (Ended closed lead nibbles) =
    nat_lt closed 4096 && (nat_lt 1 lead && (nat_lt lead 4097 && (nat_lt 8 nibbles && nat_lt nibbles 3057)))
