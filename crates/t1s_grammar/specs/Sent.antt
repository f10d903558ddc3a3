-- The piece that carries a frame.
use Rattle.std.specs.Prelude.{ℕ, Bool, List, drop, map, if◌then◌else◌}
use Rattle.t1s_symbols.specs.GroupTable.{group}
use Rattle.t1s_symbols.specs.declared.Symbol.{Symbol}
use Rattle.t1s_symbols.specs.declared.Symbol.TheVariants.{K, R}
use Rattle.t1s_scramble.specs.Scrambled.{scrambled_nibbles}
use Rattle.t1s_frame.specs.Frame.{nibble_list}
use Rattle.t1s_grammar.specs.Burst.{Piece}

-- the nibbles of a frame that a piece carries. The first four of the preamble are not among them: the last two J
-- of the lead and the two H stand for these
abbrev pub carried_nibbles : List ℕ → List ℕ
carried_nibbles octets = drop 4 (nibble_list octets)

-- R closes a good piece, and K a bad one
abbrev pub sent_closer : Bool → Symbol
sent_closer good = if good then R else K

-- the piece with this lead that stands for a frame, scrambled after what was sent before
abbrev pub sent_piece : ℕ → List Bool → List ℕ → Bool → Piece
sent_piece lead past octets good = record {
  lead = lead;
  nibbles = scrambled_nibbles past (carried_nibbles octets);
  closer = sent_closer good;
}

-- the groups of symbols
abbrev pub groups : List Symbol → List ℕ
groups symbols = map group symbols
