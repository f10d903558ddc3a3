-- What a transmitter holds, as contracts see it.
use Rattle.std.specs.Prelude.{ℕ, ◌==◌, Bool, true, false, ◌&&◌, nat_lt, List, Option, Some, None, if◌then◌else◌, IsTrue}
use Rattle.t1s_symbols.specs.declared.Quarter.{Quarter}
use Rattle.t1s_symbols.specs.declared.Symbol.{Symbol}
use Rattle.t1s_symbols.specs.declared.Symbol.TheVariants.{Nibble, J, T, H, N}
use Rattle.t1s_scramble.specs.Scrambled.{start_history}
use Rattle.t1s_grammar.specs.Sent.{sent_closer}
use Rattle.t1s_pcs_tx.specs.declared.TxReport.{TxReport}
use Rattle.t1s_pcs_tx.specs.declared.TxReport.TheVariants.{Quiet as QuietReport, Leading, Framing, Closed}
use Rattle.t1s_pcs_tx.specs.declared.states.Closing.{Closing}
use Rattle.t1s_pcs_tx.specs.declared.states.Closing.TheVariants.{End, Closer}
use Rattle.t1s_pcs_tx.specs.declared.states.State.{State}
use Rattle.t1s_pcs_tx.specs.declared.states.State.TheVariants.{Quiet as AtRest, Beaconing as InBeacon, Committing as InCommit, Starting as AtStart, Sending as InData, Closing as AtEnd}

-- the states of the table, by the symbol that is driven
pub data Stage : Type 0 where
  Quiet : Stage
  Beaconing : Stage
  Committing : Stage
  -- the place of the symbol among the four that stand for the first nibbles of the preamble
  Starting : ℕ → Stage
  -- the scrambled nibble
  Sending : ℕ → Stage
  -- T, and whether the piece has been good so far
  ClosingEnd : Bool → Stage
  -- the closer, and whether it closes a good piece
  ClosingCloser : Bool → Stage

-- a transmitter: its stage, the quarter of the symbol that was driven last (0 in Quiet, where it says nothing),
-- and the history of its scrambler
pub record TxState : Type 0 where
  pub stage : Stage
  pub part : ℕ
  pub past : List Bool

-- a transmitter at its start
abbrev pub tx_start : TxState
tx_start = record { stage = Quiet; part = 0; past = start_history }

-- the symbol of a stage, if it has one
abbrev pub symbol_of : Stage → Option Symbol
symbol_of Quiet = None
symbol_of Beaconing = Some N
symbol_of Committing = Some J
symbol_of (Starting place) = Some (if nat_lt place 2 then J else H)
symbol_of (Sending nibble) = Some (Nibble nibble)
symbol_of (ClosingEnd good) = Some T
symbol_of (ClosingCloser good) = Some (sent_closer good)

-- a quarter of a symbol, if there is one
abbrev pub quarter_in : Option Symbol → ℕ → Option Quarter
quarter_in None part = None
quarter_in (Some symbol) part = Some (record { sym = symbol; part = part })

-- the quarter that the last tick drove, if it drove one
abbrev pub quarter_of : TxState → Option Quarter
quarter_of s = quarter_in (symbol_of s.stage) s.part

-- what the last tick left to report: a closer is reported with its last quarter
abbrev pub report_by : Stage → Bool → TxReport
report_by Quiet ended = QuietReport
report_by Beaconing ended = Leading
report_by Committing ended = Leading
report_by (Starting place) ended = Framing
report_by (Sending nibble) ended = Framing
report_by (ClosingEnd good) ended = Framing
report_by (ClosingCloser good) ended = if ended then Closed good else Framing

-- a closer has just ended, of a good piece or of a bad one
abbrev pub is_closed : TxReport → Bool
is_closed QuietReport = false
is_closed Leading = false
is_closed Framing = false
is_closed (Closed good) = true

-- the first H of a piece begins: its third symbol, in its first quarter
abbrev pub is_first_h : Stage → Bool
is_first_h Quiet = false
is_first_h Beaconing = false
is_first_h Committing = false
is_first_h (Starting place) = place == 2
is_first_h (Sending nibble) = false
is_first_h (ClosingEnd good) = false
is_first_h (ClosingCloser good) = false

abbrev pub first_h_begins : TxState → Bool
first_h_begins tx = is_first_h tx.stage && (tx.part == 0)

-- the ranges of the numbers of a stage
abbrev pub stage_in_range : Stage → Bool
stage_in_range Quiet = true
stage_in_range Beaconing = true
stage_in_range Committing = true
stage_in_range (Starting place) = nat_lt place 4
stage_in_range (Sending nibble) = nat_lt nibble 16
stage_in_range (ClosingEnd good) = true
stage_in_range (ClosingCloser good) = true

-- what holds of every transmitter
abbrev pub IsTxState : TxState → Type 0
IsTxState s = IsTrue (stage_in_range s.stage && nat_lt s.part 4)

-- the stage of the table that a typed state stands for
abbrev pub closing_stage : Closing → Stage
closing_stage (End good) = ClosingEnd good
closing_stage (Closer good) = ClosingCloser good

abbrev pub stage_of : State → Stage
stage_of (AtRest s) = Quiet
stage_of (InBeacon s) = Beaconing
stage_of (InCommit s) = Committing
stage_of (AtStart s) = Starting s.place
stage_of (InData s) = Sending s.nibble
stage_of (AtEnd s) = closing_stage s
