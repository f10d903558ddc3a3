-- What contracts see of a decoder, of a held item and of what reads octets in place.
use Rattle.std.specs.Prelude.{ℕ, List}
use Rattle.t1s_pcs_rx.specs.PieceReading.{PieceReading}
use Rattle.t1s_capture.specs.declared.items.Counts.{Counts}
use Rattle.t1s_capture.specs.declared.stage.Stage.{Stage}
use Rattle.t1s_capture.specs.DecodedItems.{DecodedItem}

-- `taken` octets were taken, `stage` is what they end in, and `counts` counts the items that are complete, and
-- all pieces
pub record DecoderState : Type 0 where
  pub taken : ℕ
  pub counts : Counts
  pub reader : PieceReading
  pub stage : Stage

-- an item, and the decoder that goes on after it
pub record HeldState : Type 0 where
  pub item : DecodedItem
  pub decoder : DecoderState

-- what a reader of captures keeps: a decoder, and the nibbles of the piece that was handed out, or else that has begun
pub record ReaderState : Type 0 where
  pub decoder : DecoderState
  pub nibbles : List ℕ
