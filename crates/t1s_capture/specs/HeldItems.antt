-- The items that are held, and what items show.
use Rattle.std.specs.Prelude.{ℕ, List}
use Rattle.t1s_pcs_rx.specs.Views.{View, frame_of, view_shown}
use Rattle.t1s_capture.specs.declared.items.Item.{Item}
use Rattle.t1s_capture.specs.declared.items.Item.TheVariants.{Piece as ShownPiece, Beacon as ShownBeacon, Run as ShownRun, Bare as ShownBare, Torn as ShownTorn}
use Rattle.t1s_capture.specs.declared.held_item.HeldPiece.{HeldPiece}
use Rattle.t1s_capture.specs.declared.held_item.HeldItem.{HeldItem}
use Rattle.t1s_capture.specs.declared.held_item.HeldItem.TheVariants.{Piece, Beacon, Run, Bare, Torn}
use Rattle.t1s_capture.specs.DecodedItems.{DecodedItem, PieceItem, BeaconItem, RunItem, BareItem, TornItem}

-- the view of a held piece, by the nibbles that were heard of it from the tenth on
abbrev pub held_view : HeldPiece → List ℕ → View
held_view p heard =
    record { lead = p.lead; groups = p.groups; closer = p.closer; kind = p.kind; frame = frame_of p.kind heard }

-- the item that a held one is, by these nibbles
abbrev pub held_item : HeldItem → List ℕ → DecodedItem
held_item (Piece start piece) heard = PieceItem start (held_view piece heard)
held_item (Beacon start) heard = BeaconItem start
held_item (Run start end pieces) heard = RunItem start end pieces
held_item (Bare start end) heard = BareItem start end
held_item (Torn start end symbols blur) heard = TornItem start end symbols blur

-- what an item shows
abbrev pub decoded_item : Item → DecodedItem
decoded_item (ShownPiece start view) = PieceItem start (view_shown view)
decoded_item (ShownBeacon start) = BeaconItem start
decoded_item (ShownRun start end pieces) = RunItem start end pieces
decoded_item (ShownBare start end) = BareItem start end
decoded_item (ShownTorn start end symbols blur) = TornItem start end symbols blur
