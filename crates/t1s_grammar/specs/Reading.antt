-- How a piece is read.
use Rattle.std.specs.Prelude.{◌≡◌, ℕ, Bool, List, ◌∷◌, ◌++◌, drop, replicate}
use Rattle.t1s_symbols.specs.declared.Symbol.{Symbol}
use Rattle.t1s_symbols.specs.declared.Symbol.TheVariants.{K, R, S}
use Rattle.t1s_scramble.specs.Scrambled.{descrambled_nibbles}
use Rattle.t1s_frame.specs.Frame.{nibbles_of}
use Rattle.t1s_frame.specs.Arrivals.{arrival_of}
use Rattle.t1s_frame.specs.declared.arrivals.Arrival.{Arrival}
use Rattle.t1s_grammar.specs.Burst.{Piece}

-- the heard nibbles of a piece: its nibbles, descrambled after what was heard before, from the tenth on
abbrev pub heard_nibbles : List Bool → Piece → List ℕ
heard_nibbles past piece = drop 9 (descrambled_nibbles past piece.nibbles)

-- all the nibbles that a receiver takes from a piece: the first nine as 5, while its descrambler finds its step
abbrev pub read_nibbles : List Bool → Piece → List ℕ
read_nibbles past piece = replicate 9 5 ++ heard_nibbles past piece

-- the kind of a piece: that of its heard nibbles where it is closed as good, else that of its closer
pub data Kind : Type 0 where
  classified : Arrival → Kind
  errored : Kind
  jabber : Kind

abbrev pub kind_by : Symbol → List ℕ → Kind
kind_by K heard = errored
kind_by S heard = jabber
kind_by _ heard = classified (arrival_of heard)

abbrev pub kind_of : List Bool → Piece → Kind
kind_of past piece = kind_by piece.closer (heard_nibbles past piece)

-- a piece stands for a frame: it is closed as good, and its heard nibbles are 5, 5, D and those of the octets
pub record StandsForFrame (past : List Bool) (piece : Piece) (octets : List ℕ) : Type 0 where
  pub closer : piece.closer ≡ R
  pub heard : heard_nibbles past piece ≡ 5 ∷ 5 ∷ 13 ∷ nibbles_of octets
