-- What the definitions say together.
use Rattle.std.specs.Prelude.{◌≡◌, ℕ, ◌≤◌, Bool, true, List}
use Rattle.t1s_frame.specs.Frame.{IsFrame}
use Rattle.t1s_frame.specs.declared.arrivals.Arrival.TheVariants.{Good}
use Rattle.t1s_grammar.specs.Burst.{IsPiece, IsBurst, piece_symbols}
use Rattle.t1s_grammar.specs.Sent.{sent_piece}
use Rattle.t1s_grammar.specs.Reading.{kind_of, classified, StandsForFrame}

pub record IsRead (lead : ℕ) (sent heard : List Bool) (octets : List ℕ) (good : Bool) : Type 0 where
  pub piece : IsPiece (piece_symbols (sent_piece lead sent octets good))
  pub burst : IsBurst (piece_symbols (sent_piece lead sent octets good))
  pub frame : good ≡ true → StandsForFrame heard (sent_piece lead sent octets good) octets
  pub kind : good ≡ true → kind_of heard (sent_piece lead sent octets good) ≡ classified Good

-- Whatever was sent and whatever was heard before, a piece that is sent for a frame, with a lead that a piece may
-- have, is a piece of the grammar and a burst by itself; where it is good, it stands for the frame and its kind is Good.
abbrev pub SentPiecesAreRead : Type 0
SentPiecesAreRead =
    (lead : ℕ) (sent heard : List Bool) (octets : List ℕ) (good : Bool)
    → 2 ≤ lead → lead ≤ 4096 → IsFrame octets → IsRead lead sent heard octets good
