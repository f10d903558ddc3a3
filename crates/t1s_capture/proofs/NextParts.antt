-- What octets that begin a capture are made of, with one octet more.
use Rattle.std.proofs.Common.{ℕ, ◌+◌, ◌*◌, List, [], ◌∷◌, ◌++◌, length, Result, Ok, Err, Option, None, Some, nat_lt, if◌then◌else◌}
use Rattle.std.specs.Prelude.{◌==◌, ◌&&◌, slice_index}
use Rattle.t1s_base.specs.Limits.{most_nodes}
use Rattle.t1s_symbols.specs.declared.Symbol.{Symbol}
use Rattle.t1s_symbols.specs.declared.Symbol.TheVariants.{K, R, S}
use Rattle.t1s_scramble.specs.Scrambled.{descrambler_after}
use Rattle.t1s_grammar.specs.Burst.{pieces_symbols}
use Rattle.t1s_grammar.specs.Prefixes.{Beginning, phase_of, whole_pieces, last_lead, last_nibbles}
use Rattle.t1s_grammar.specs.PlaceTable.{place_step, ends_burst}
use Rattle.t1s_grammar.specs.declared.place.Phase.{Phase}
use Rattle.t1s_grammar.specs.declared.place.PlaceFault.{PlaceFault}
use Rattle.t1s_grammar.specs.declared.place.PlaceFault.TheVariants.{NotHere, TooLong as OneTooMany}
use Rattle.t1s_pcs_rx.specs.Views.{view_of}
use Rattle.t1s_capture.specs.declared.items.Why.{Why}
use Rattle.t1s_capture.specs.declared.items.Why.TheVariants.{Magic as BadMagic, Version as BadVersion, NodeByte, CountZero, GapTwice, Group, Place, BurstLong, AfterEnd}
use Rattle.t1s_capture.specs.declared.stage.CountSoFar.{CountSoFar}
use Rattle.t1s_capture.specs.declared.stage.CountSoFar.TheVariants.{Nothing, One, Two, Three}
use Rattle.t1s_capture.specs.declared.stage.OctetKind.{OctetKind}
use Rattle.t1s_capture.specs.declared.stage.OctetKind.TheVariants.{Gap as GapOctet, End, Torn as TornOctet, Known, Unknown}
use Rattle.t1s_capture.specs.Captures.{CaptureItem, Gap, Burst, Torn, magic, no_symbols, symbol_count, ticks_of}
use Rattle.t1s_capture.specs.Pieces.{items_history, pieces_nibbles}
use Rattle.t1s_capture.specs.PrefixParts.{Tail, in_gap, in_burst, in_blur, after_torn, ended, PrefixParts, in_magic, at_version, at_node, with_items}
use Rattle.t1s_capture.specs.DecodedItems.{DecodedItem, PieceItem, TornItem, burst_item}
use Rattle.t1s_capture.specs.DecoderTable.{octet_kind, count_of}
use Rattle.t1s_capture.specs.Stands.{ends_with_gap, needs_blur}
use Rattle.t1s_grammar.specs.Longer.{with_symbol, piece_of}

abbrev pub NextParts : Type 0
NextParts = Result PrefixParts Why

abbrev pub next_is : PrefixParts → NextParts
next_is f = Ok f

abbrev pub fails : Why → NextParts
fails why = Err why

abbrev pub next_in_magic : ℕ → ℕ → NextParts
next_in_magic n o =
    if o == slice_index magic n then (if n == 3 then next_is at_version else next_is (in_magic (n + 1))) else fails BadMagic

abbrev pub next_at_version : ℕ → NextParts
next_at_version o = if o == 1 then next_is at_node else fails BadVersion

abbrev pub next_at_node : ℕ → NextParts
next_at_node o = if nat_lt o most_nodes then next_is (with_items o [] (in_burst no_symbols)) else fails NodeByte

abbrev pub end_gap : ℕ → List CaptureItem → ℕ → NextParts
end_gap node items n =
    if n == 0 then fails CountZero else next_is (with_items node (items ++ Gap n ∷ []) (in_burst no_symbols))

abbrev pub next_in_gap : ℕ → List CaptureItem → CountSoFar → ℕ → NextParts
next_in_gap node items Nothing d = next_is (with_items node items (in_gap (One d)))
next_in_gap node items (One a) d = next_is (with_items node items (in_gap (Two a d)))
next_in_gap node items (Two a b) d = next_is (with_items node items (in_gap (Three a b d)))
next_in_gap node items (Three a b c) d = end_gap node items (count_of a b c d)

abbrev pub end_blur : ℕ → List CaptureItem → Beginning → ℕ → NextParts
end_blur node items b n =
    if needs_blur b && (n == 0) then fails CountZero else next_is (with_items node (items ++ Torn b n ∷ []) after_torn)

abbrev pub next_in_blur : ℕ → List CaptureItem → Beginning → CountSoFar → ℕ → NextParts
next_in_blur node items b Nothing d = next_is (with_items node items (in_blur b (One d)))
next_in_blur node items b (One a) d = next_is (with_items node items (in_blur b (Two a d)))
next_in_blur node items b (Two a c) d = next_is (with_items node items (in_blur b (Three a c d)))
next_in_blur node items b (Three a c e) d = end_blur node items b (count_of a c e d)

abbrev pub next_by_symbol : ℕ → List CaptureItem → Beginning → Symbol → Result Phase PlaceFault → NextParts
next_by_symbol node items b s (Ok q) = next_is (with_items node items (in_burst (with_symbol b s)))
next_by_symbol node items b s (Err OneTooMany) = fails BurstLong
next_by_symbol node items b s (Err NotHere) = fails Place

abbrev pub next_in_burst : OctetKind → ℕ → List CaptureItem → Beginning → NextParts
next_in_burst GapOctet node items b =
    if ends_burst (phase_of b) then next_is (with_items node (items ++ Burst b ∷ []) (in_gap Nothing))
    else (if symbol_count b == 0 then (if ends_with_gap items then fails GapTwice else next_is (with_items node items (in_gap Nothing)))
    else fails Place)
next_in_burst End node items b =
    if ends_burst (phase_of b) then next_is (with_items node (items ++ Burst b ∷ []) ended)
    else (if symbol_count b == 0 then next_is (with_items node items ended) else fails Place)
next_in_burst TornOctet node items b = next_is (with_items node items (in_blur b Nothing))
next_in_burst (Known s) node items b = next_by_symbol node items b s (place_step (phase_of b) s)
next_in_burst Unknown node items b = fails Group

abbrev pub next_after_torn : OctetKind → ℕ → List CaptureItem → NextParts
next_after_torn GapOctet node items = next_is (with_items node items (in_gap Nothing))
next_after_torn End node items = next_is (with_items node items ended)
next_after_torn TornOctet node items = fails Place
next_after_torn (Known s) node items = fails Place
next_after_torn Unknown node items = fails Group

abbrev pub next_in_tail : Tail → ℕ → List CaptureItem → ℕ → NextParts
next_in_tail (in_gap count) node items o = next_in_gap node items count o
next_in_tail (in_burst b) node items o = next_in_burst (octet_kind o) node items b
next_in_tail (in_blur b count) node items o = next_in_blur node items b count o
next_in_tail after_torn node items o = next_after_torn (octet_kind o) node items
next_in_tail ended node items o = fails AfterEnd

abbrev pub next_parts : PrefixParts → ℕ → NextParts
next_parts (in_magic n) o = next_in_magic n o
next_parts at_version o = next_at_version o
next_parts at_node o = next_at_node o
next_parts (with_items node items tail) o = next_in_tail tail node items o

-- ---- the item that is handed out at the octet, where there is one

-- the item of a piece that this closer ends
abbrev pub piece_item : List CaptureItem → Beginning → Symbol → DecodedItem
piece_item items b s =
    PieceItem (ticks_of items + 4 * length (pieces_symbols (whole_pieces b)))
    (view_of (descrambler_after (items_history items) (pieces_nibbles (whole_pieces b))) (piece_of (last_lead b) (last_nibbles b) s))

abbrev pub closer_item : List CaptureItem → Beginning → Symbol → Option DecodedItem
closer_item items b R = Some (piece_item items b R)
closer_item items b K = Some (piece_item items b K)
closer_item items b S = Some (piece_item items b S)
closer_item items b _ = None

abbrev pub symbol_item : List CaptureItem → Beginning → Symbol → Result Phase PlaceFault → Option DecodedItem
symbol_item items b s (Ok q) = closer_item items b s
symbol_item items b s (Err e) = None

abbrev pub whole_burst_item : List CaptureItem → Beginning → Option DecodedItem
whole_burst_item items b = if ends_burst (phase_of b) then Some (burst_item (ticks_of items) b) else None

abbrev pub burst_item_at : OctetKind → List CaptureItem → Beginning → Option DecodedItem
burst_item_at GapOctet items b = whole_burst_item items b
burst_item_at End items b = whole_burst_item items b
burst_item_at TornOctet items b = None
burst_item_at (Known s) items b = symbol_item items b s (place_step (phase_of b) s)
burst_item_at Unknown items b = None

abbrev pub torn_item : List CaptureItem → Beginning → ℕ → Option DecodedItem
torn_item items b n =
    if needs_blur b && (n == 0) then None
    else Some (TornItem (ticks_of items) (ticks_of items + (4 * symbol_count b + n)) (symbol_count b) n)

abbrev pub blur_item_at : CountSoFar → List CaptureItem → Beginning → ℕ → Option DecodedItem
blur_item_at Nothing items b d = None
blur_item_at (One a) items b d = None
blur_item_at (Two a c) items b d = None
blur_item_at (Three a c e) items b d = torn_item items b (count_of a c e d)

abbrev pub tail_item_at : Tail → List CaptureItem → ℕ → Option DecodedItem
tail_item_at (in_gap count) items o = None
tail_item_at (in_burst b) items o = burst_item_at (octet_kind o) items b
tail_item_at (in_blur b count) items o = blur_item_at count items b o
tail_item_at after_torn items o = None
tail_item_at ended items o = None

abbrev pub item_at : PrefixParts → ℕ → Option DecodedItem
item_at (in_magic n) o = None
item_at at_version o = None
item_at at_node o = None
item_at (with_items node items tail) o = tail_item_at tail items o
