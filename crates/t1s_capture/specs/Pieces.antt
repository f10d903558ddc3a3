-- The pieces of a capture, and what is counted in it. The descrambler goes on through the whole capture: every nibble of
-- it moves the descrambler, and nothing else does.
use Rattle.std.specs.Prelude.{ℕ, Bool, true, false, List, [], ◌∷◌, ◌++◌, length, count_by}
use Rattle.std.specs.List.{flat_map}
use Rattle.t1s_scramble.specs.Scrambled.{start_history, descrambler_after}
use Rattle.t1s_grammar.specs.Burst.{Piece}
use Rattle.t1s_grammar.specs.Prefixes.{Beginning, whole_pieces, last_nibbles, beacon, between}
use Rattle.t1s_pcs_rx.specs.Views.{View, view_of}
use Rattle.t1s_pcs_rx.specs.declared.piece.Kind.{Kind}
use Rattle.t1s_pcs_rx.specs.declared.piece.Kind.TheVariants.{Good, BadFcs, Odd, Runt, NoSfd, Errored, Jabber}
use Rattle.t1s_capture.specs.declared.items.Counts.{Counts}
use Rattle.t1s_capture.specs.Captures.{CaptureItem, Gap, Burst, Torn, no_symbols, ticks_of}

-- the nibbles of pieces, and of a beginning: those of its whole pieces, and those of the piece that has begun
abbrev pub pieces_nibbles : List Piece → List ℕ
pieces_nibbles pieces = flat_map (λ (p : Piece). p.nibbles) pieces

abbrev pub nibbles_in : Beginning → List ℕ
nibbles_in b = pieces_nibbles (whole_pieces b) ++ last_nibbles b

abbrev pub item_symbols : CaptureItem → Beginning
item_symbols (Gap n) = no_symbols
item_symbols (Burst b) = b
item_symbols (Torn b blur) = b

abbrev pub item_nibbles : CaptureItem → List ℕ
item_nibbles item = nibbles_in (item_symbols item)

abbrev pub item_pieces : CaptureItem → List Piece
item_pieces item = whole_pieces (item_symbols item)

-- the history of the descrambler after these items
unfoldable pub items_history : List CaptureItem → List Bool
items_history items = descrambler_after start_history (flat_map item_nibbles items)

-- the views of pieces that follow a history, one after another
unfoldable pub piece_views : List Bool → List Piece → List View
piece_views past [] = []
piece_views past (p ∷ ps) = view_of past p ∷ piece_views (descrambler_after past p.nibbles) ps

-- the views of all pieces of these items, those in torn bursts too
unfoldable pub item_views : List Bool → List CaptureItem → List View
item_views past [] = []
item_views past (x ∷ xs) = piece_views past (item_pieces x) ++ item_views (descrambler_after past (item_nibbles x)) xs

abbrev pub views_of : List CaptureItem → List View
views_of items = item_views start_history items

abbrev pub kind_is_good : Kind → Bool
kind_is_good Good = true
kind_is_good BadFcs = false
kind_is_good Odd = false
kind_is_good Runt = false
kind_is_good NoSfd = false
kind_is_good Errored = false
kind_is_good Jabber = false

abbrev pub is_good : View → Bool
is_good view = kind_is_good view.kind

-- a burst is a beacon, a bare commit or a run, by what it begins with; a torn burst is none of these
abbrev pub is_beacon : CaptureItem → Bool
is_beacon (Burst (beacon count)) = true
is_beacon _ = false

abbrev pub is_bare : CaptureItem → Bool
is_bare (Burst (between [] lead)) = true
is_bare _ = false

abbrev pub is_run : CaptureItem → Bool
is_run (Burst (between (p ∷ ps) lead)) = true
is_run _ = false

abbrev pub is_torn : CaptureItem → Bool
is_torn (Torn b blur) = true
is_torn _ = false

-- the counts of these items, where the pieces so far have these views
abbrev pub counts_with : List CaptureItem → List View → Counts
counts_with items views = record {
  ticks = ticks_of items;
  beacons = count_by is_beacon items;
  runs = count_by is_run items;
  bare = count_by is_bare items;
  torn = count_by is_torn items;
  pieces = length views;
  good = count_by is_good views;
}

-- the counts of these items
abbrev pub counts_of : List CaptureItem → Counts
counts_of items = counts_with items (views_of items)
