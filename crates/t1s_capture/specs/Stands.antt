-- A decoder stands for the octets that it has taken.
use Rattle.std.specs.Prelude.{◌≡◌, ℕ, ◌^◌, ◌≤◌, ◌==◌, ◌||◌, Bool, false, List, [], ◌∷◌, ◌++◌, length, drop}
use Rattle.t1s_scramble.specs.Scrambled.{start_history, descrambled_nibbles, descrambler_after}
use Rattle.t1s_grammar.specs.Burst.{pieces_symbols}
use Rattle.t1s_grammar.specs.Prefixes.{Beginning, phase_of, whole_pieces, last_nibbles}
use Rattle.t1s_grammar.specs.PlaceTable.{ends_burst}
use Rattle.t1s_pcs_rx.specs.Views.{View}
use Rattle.t1s_pcs_rx.specs.PieceReading.{PieceReading}
use Rattle.t1s_capture.specs.declared.items.Counts.{Counts}
use Rattle.t1s_capture.specs.declared.stage.BurstSoFar.{BurstSoFar}
use Rattle.t1s_capture.specs.declared.stage.Stage.{Stage}
use Rattle.t1s_capture.specs.declared.stage.Stage.TheVariants.{Magic, Version, Node, InGap, InBurst, InBlur, AfterTorn, Ended}
use Rattle.t1s_capture.specs.Captures.{CaptureItem, is_gap, no_symbols, symbol_count}
use Rattle.t1s_capture.specs.Pieces.{pieces_nibbles, nibbles_in, items_history, piece_views, views_of, counts_with}
use Rattle.t1s_capture.specs.PrefixParts.{Tail, in_gap, in_burst, in_blur, after_torn, ended, PrefixParts, in_magic, at_version, at_node, with_items, AreMadeOf}
use Rattle.t1s_capture.specs.State.{DecoderState}

-- whether the last item is a gap
abbrev pub ends_with_gap : List CaptureItem → Bool
ends_with_gap [] = false
ends_with_gap (x ∷ []) = is_gap x
ends_with_gap (x ∷ y ∷ ys) = ends_with_gap (y ∷ ys)

-- whether the blur after these symbols has to be at least 1
abbrev pub needs_blur : Beginning → Bool
needs_blur b = (symbol_count b == 0) || ends_burst (phase_of b)

abbrev pub burst_stage : List CaptureItem → Beginning → BurstSoFar
burst_stage items b = record {
  place = phase_of b;
  symbols = symbol_count b;
  closed = length (pieces_symbols (whole_pieces b));
  after_gap = ends_with_gap items;
}

abbrev pub tail_stage : List CaptureItem → Tail → Stage
tail_stage items (in_gap count) = InGap count
tail_stage items (in_burst b) = InBurst (burst_stage items b)
tail_stage items (in_blur b count) = InBlur (record { needed = needs_blur b; symbols = symbol_count b; count = count })
tail_stage items after_torn = AfterTorn
tail_stage items ended = Ended

-- the symbols after the items that are complete
abbrev pub tail_symbols : Tail → Beginning
tail_symbols (in_gap count) = no_symbols
tail_symbols (in_burst b) = b
tail_symbols (in_blur b count) = b
tail_symbols after_torn = no_symbols
tail_symbols ended = no_symbols

-- the nibbles that are kept of the piece that has begun, where the descrambler had this history before the burst
abbrev pub piece_nibbles : List Bool → Beginning → List ℕ
piece_nibbles past b =
    drop 9 (descrambled_nibbles (descrambler_after past (pieces_nibbles (whole_pieces b))) (last_nibbles b))

abbrev pub tail_nibbles : List Bool → Tail → List ℕ
tail_nibbles past (in_burst b) = piece_nibbles past b
tail_nibbles past _ = []

-- the views of all pieces so far
abbrev pub views_at : List CaptureItem → Beginning → List View
views_at items b = views_of items ++ piece_views (items_history items) (whole_pieces b)

abbrev pub counts_at : List CaptureItem → Tail → Counts
counts_at items tail = counts_with items (views_at items (tail_symbols tail))

abbrev pub reader_at : List CaptureItem → Tail → PieceReading
reader_at items tail = record {
  history = descrambler_after (items_history items) (nibbles_in (tail_symbols tail));
  nibbles = tail_nibbles (items_history items) tail;
}

-- what a decoder keeps of so many octets that are made of this
abbrev pub header_state : ℕ → Stage → DecoderState
header_state taken stage = record {
  taken = taken;
  counts = counts_with [] [];
  reader = record { history = start_history; nibbles = [] };
  stage = stage;
}

abbrev pub state_of : ℕ → PrefixParts → DecoderState
state_of taken (in_magic n) = header_state taken (Magic n)
state_of taken at_version = header_state taken Version
state_of taken at_node = header_state taken Node
state_of taken (with_items node items tail) = record {
  taken = taken;
  counts = counts_at items tail;
  reader = reader_at items tail;
  stage = tail_stage items tail;
}

-- what a decoder keeps is right for the octets that it has taken
pub record Stands (octets : List ℕ) (decoder : DecoderState) : Type 0 where
  pub parts : PrefixParts
  pub made : AreMadeOf octets parts
  pub limit : length octets ≤ 2 ^ 30
  pub keeps : decoder ≡ state_of (length octets) parts
