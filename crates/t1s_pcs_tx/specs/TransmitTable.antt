-- The table of the transmitter, one tick of it.
use Rattle.std.specs.Prelude.{ℕ, ◌+◌, ◌==◌, Bool, true, false, not, ◌&&◌, ◌||◌, nat_lt, List, [], ◌∷◌, drop, Option, if◌then◌else◌}
use Rattle.t1s_symbols.specs.declared.Quarter.{Quarter}
use Rattle.t1s_scramble.specs.Scrambled.{scrambled_nibble, scrambler_after}
use Rattle.t1s_pcs_tx.specs.declared.TxCmd.{TxCmd}
use Rattle.t1s_pcs_tx.specs.declared.TxCmd.TheVariants.{None as NoCmd, Beacon, Commit}
use Rattle.t1s_pcs_tx.specs.declared.TxIn.{TxIn}
use Rattle.t1s_pcs_tx.specs.declared.TxReport.{TxReport}
use Rattle.t1s_pcs_tx.specs.State.{Stage, Quiet, Beaconing, Committing, Starting, Sending, ClosingEnd, ClosingCloser, TxState, quarter_of, report_by}

-- the last quarter of a symbol
abbrev pub last_part : ℕ
last_part = 3

abbrev pub is_quiet : Stage → Bool
is_quiet Quiet = true
is_quiet Beaconing = false
is_quiet Committing = false
is_quiet (Starting place) = false
is_quiet (Sending nibble) = false
is_quiet (ClosingEnd good) = false
is_quiet (ClosingCloser good) = false

-- whether the next tick is a symbol boundary: each tick in Quiet, and each after a last quarter
abbrev pub at_boundary : TxState → Bool
at_boundary s = is_quiet s.stage || (s.part == last_part)

-- what is chosen at a symbol boundary: the next stage, the scrambler's history, and the delay line
pub record Choice : Type 0 where
  pub stage : Stage
  pub past : List Bool
  pub line : List ℕ

abbrev pub choice : Stage → List Bool → List ℕ → Choice
choice stage past line = record { stage = stage; past = past; line = line }

-- after the last of Starting, and in Sending: the next nibble, or T where the line has none
abbrev pub data_choice : List Bool → TxIn → List ℕ → Choice
data_choice past inp (x ∷ rest) = choice (Sending (scrambled_nibble past x)) (scrambler_after past (x ∷ [])) rest
data_choice past inp [] = choice (ClosingEnd (inp.ended && not inp.bad)) past []

-- where no piece is open: what is told
abbrev pub command_choice : TxCmd → List Bool → List ℕ → Choice
command_choice Beacon past line = choice Beaconing past line
command_choice Commit past (x ∷ rest) = choice (Starting 0) past rest
command_choice Commit past [] = choice Committing past []
command_choice NoCmd past line = choice Quiet past line

-- the rows. A nibble that is popped in Starting is dropped, and an empty line stays empty
abbrev pub choice_after : Stage → List Bool → TxIn → List ℕ → Choice
choice_after (Starting place) past inp line =
    if nat_lt place 3 then choice (Starting (place + 1)) past (drop 1 line) else data_choice past inp line
choice_after (Sending nibble) past inp line = data_choice past inp line
choice_after (ClosingEnd good) past inp line = choice (ClosingCloser (good && not inp.bad)) past line
choice_after (ClosingCloser good) past inp line = command_choice inp.cmd past line
choice_after Quiet past inp line = command_choice inp.cmd past line
choice_after Beaconing past inp line = command_choice inp.cmd past line
choice_after Committing past inp line = command_choice inp.cmd past line

-- what a tick leaves: the transmitter, the quarter that is driven in it, and the delay line
pub record TxTurn : Type 0 where
  pub state : TxState
  pub driven : Option Quarter
  pub line : List ℕ

abbrev pub turn_to : TxState → List ℕ → TxTurn
turn_to s line = record { state = s; driven = quarter_of s; line = line }

-- at a symbol boundary, the first quarter of what is chosen
abbrev pub chosen_turn : Choice → TxTurn
chosen_turn c = turn_to (record { stage = c.stage; part = 0; past = c.past }) c.line

-- one tick, by what is told and the delay line; while a symbol has quarters left, the next one is driven
unfoldable pub transmit_step : TxState → TxIn → List ℕ → TxTurn
transmit_step s inp line =
    if at_boundary s then chosen_turn (choice_after s.stage s.past inp line)
    else turn_to (record s { part = s.part + 1 }) line

-- what is reported after a tick
abbrev pub report_of : TxState → TxReport
report_of s = report_by s.stage (s.part == last_part)
