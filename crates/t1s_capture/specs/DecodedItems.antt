-- The items that a decoder hands out, and the octets at which it does.
use Rattle.std.specs.Prelude.{◌≡◌, ℕ, ◌+◌, ◌*◌, ◌^◌, ◌<◌, ◌⊎◌, List, [], ◌∷◌, ◌++◌, length}
use Rattle.t1s_scramble.specs.Scrambled.{descrambler_after}
use Rattle.t1s_grammar.specs.Burst.{Piece, IsBurst, pieces_symbols}
use Rattle.t1s_grammar.specs.Prefixes.{Beginning, beginning_symbols, beacon, between, opened, within, ended}
use Rattle.t1s_pcs_rx.specs.Views.{View, view_of}
use Rattle.t1s_capture.specs.Captures.{CaptureItem, Torn, ticks_of, symbol_count}
use Rattle.t1s_capture.specs.Pieces.{items_history, pieces_nibbles}
use Rattle.t1s_capture.specs.PrefixParts.{in_burst, after_torn, with_items, AreMadeOf}

-- an item without its loan. Ticks count from the capture's start
pub data DecodedItem : Type 0 where
  PieceItem : (start : ℕ) → (view : View) → DecodedItem
  BeaconItem : (start : ℕ) → DecodedItem
  RunItem : (start end pieces : ℕ) → DecodedItem
  BareItem : (start end : ℕ) → DecodedItem
  TornItem : (start end symbols blur : ℕ) → DecodedItem

-- the octets of the frame that an item shows, frame check sequence included; a piece that is not good shows none
abbrev pub frame_of_item : DecodedItem → List ℕ
frame_of_item (PieceItem start view) = view.frame
frame_of_item (BeaconItem start) = []
frame_of_item (RunItem start end pieces) = []
frame_of_item (BareItem start end) = []
frame_of_item (TornItem start end symbols blur) = []

-- A piece ends with this octet, its closer. It starts with the first J of its lead, directly after the closer of the
-- piece before, or with the burst. Whether the burst is torn later does not matter.
pub record IsPieceOctet (before : List ℕ) (octet start : ℕ) (view : View) : Type 0 where
  pub node : ℕ
  pub items : List CaptureItem
  pub pieces : List Piece
  pub piece : Piece
  pub within_limit : length before < 2 ^ 30
  pub made : AreMadeOf (before ++ octet ∷ []) (with_items node items (in_burst (between (pieces ++ piece ∷ []) 0)))
  pub starts : start ≡ ticks_of items + 4 * length (pieces_symbols pieces)
  pub shows : view ≡ view_of (descrambler_after (items_history items) (pieces_nibbles pieces)) piece

-- the item of a burst that starts at this tick
abbrev pub burst_item : ℕ → Beginning → DecodedItem
burst_item start (beacon count) = BeaconItem start
burst_item start (between [] lead) = BareItem start (start + 4 * symbol_count (between [] lead))
burst_item start (between (p ∷ ps) lead) =
    RunItem start (start + 4 * symbol_count (between (p ∷ ps) lead)) (length (p ∷ ps))
burst_item start (opened pieces lead) = BeaconItem start
burst_item start (within pieces lead nibbles) = BeaconItem start
burst_item start (ended pieces lead nibbles) = BeaconItem start

-- A burst is complete before this octet, which begins a gap or ends the capture. It starts with its first symbol.
pub record IsBurstOctet (before : List ℕ) (octet : ℕ) (item : DecodedItem) : Type 0 where
  pub node : ℕ
  pub items : List CaptureItem
  pub symbols : Beginning
  pub within_limit : length before < 2 ^ 30
  pub made : AreMadeOf before (with_items node items (in_burst symbols))
  pub burst : IsBurst (beginning_symbols symbols)
  pub next : (octet ≡ 0x20) ⊎ (octet ≡ 0x21)
  pub is : item ≡ burst_item (ticks_of items) symbols

-- A torn burst ends with this octet, the last one of its count. It starts with its first symbol, or with its blur where it has none.
pub record IsTornOctet (before : List ℕ) (octet start end symbols blur : ℕ) : Type 0 where
  pub node : ℕ
  pub items : List CaptureItem
  pub begun : Beginning
  pub within_limit : length before < 2 ^ 30
  pub made : AreMadeOf (before ++ octet ∷ []) (with_items node (items ++ Torn begun blur ∷ []) after_torn)
  pub starts : start ≡ ticks_of items
  pub ends : end ≡ ticks_of items + (4 * symbol_count begun + blur)
  pub counted : symbols ≡ symbol_count begun

-- This octet, after those before it, is the one at which the item is handed out. An octet past the limit hands out
-- nothing.
abbrev pub IsItemOctet : List ℕ → ℕ → DecodedItem → Type 0
IsItemOctet before octet (PieceItem start view) = IsPieceOctet before octet start view
IsItemOctet before octet (BeaconItem start) = IsBurstOctet before octet (BeaconItem start)
IsItemOctet before octet (RunItem start end pieces) = IsBurstOctet before octet (RunItem start end pieces)
IsItemOctet before octet (BareItem start end) = IsBurstOctet before octet (BareItem start end)
IsItemOctet before octet (TornItem start end symbols blur) = IsTornOctet before octet start end symbols blur
