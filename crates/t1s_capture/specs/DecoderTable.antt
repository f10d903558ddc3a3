-- How a decoder goes on by one octet: its own table, by what it keeps.
use Rattle.std.specs.Prelude.{ℕ, suc, List, ◌+◌, ◌*◌, ◌^◌, ◌==◌, ◌&&◌, ◌||◌, Bool, true, false, [], ◌∷◌, nat_lt, if◌then◌else◌, slice_index, Option, None, Some, Result, Ok, Err}
use Rattle.t1s_base.specs.Limits.{most_nodes}
use Rattle.t1s_symbols.specs.declared.Symbol.{Symbol}
use Rattle.t1s_symbols.specs.declared.Symbol.TheVariants.{Nibble, J, K, T, R, H, N, S}
use Rattle.t1s_symbols.specs.GroupTable.{symbol}
use Rattle.t1s_grammar.specs.declared.place.Phase.{Phase}
use Rattle.t1s_grammar.specs.declared.place.PlaceFault.{PlaceFault}
use Rattle.t1s_grammar.specs.declared.place.PlaceFault.TheVariants.{NotHere, TooLong as OneTooMany}
use Rattle.t1s_grammar.specs.PlaceTable.{start_phase, place_step, pieces_at, lead_at, nibbles_at, ends_burst}
use Rattle.t1s_pcs_rx.specs.Views.{View, view_by, closer_of}
use Rattle.t1s_pcs_rx.specs.PieceReading.{PieceReading, reading_after, without_nibbles}
use Rattle.t1s_capture.specs.declared.items.Why.{Why}
use Rattle.t1s_capture.specs.declared.items.Why.TheVariants.{Magic as BadMagic, Version as BadVersion, NodeByte, CountZero, GapTwice, Group, Place, BurstLong, AfterEnd, TooLong, Truncated}
use Rattle.t1s_capture.specs.declared.items.Refusal.{Refusal}
use Rattle.t1s_capture.specs.declared.items.Counts.{Counts}
use Rattle.t1s_capture.specs.declared.stage.CountSoFar.{CountSoFar}
use Rattle.t1s_capture.specs.declared.stage.CountSoFar.TheVariants.{Nothing, One, Two, Three}
use Rattle.t1s_capture.specs.declared.stage.BurstSoFar.{BurstSoFar}
use Rattle.t1s_capture.specs.declared.stage.BlurSoFar.{BlurSoFar}
use Rattle.t1s_capture.specs.declared.stage.Stage.{Stage}
use Rattle.t1s_capture.specs.declared.stage.Stage.TheVariants.{Magic, Version, Node, InGap, InBurst, InBlur, AfterTorn, Ended}
use Rattle.t1s_capture.specs.declared.stage.OctetKind.{OctetKind}
use Rattle.t1s_capture.specs.declared.stage.OctetKind.TheVariants.{Gap, End, Torn, Known, Unknown}
use Rattle.t1s_capture.specs.declared.progress.Progress.{Progress}
use Rattle.t1s_capture.specs.declared.decoder.Next.{Next}
use Rattle.t1s_capture.specs.declared.decoder.Next.TheVariants.{More, Held, Refused}
use Rattle.t1s_capture.specs.Captures.{magic}
use Rattle.t1s_capture.specs.Pieces.{is_good}
use Rattle.t1s_capture.specs.State.{DecoderState}
use Rattle.t1s_capture.specs.DecodedItems.{DecodedItem, PieceItem, BeaconItem, RunItem, BareItem, TornItem}

-- ---- octets and counts

-- what an octet is where an item or a symbol may be tried
abbrev pub symbol_kind : Option Symbol → OctetKind
symbol_kind None = Unknown
symbol_kind (Some s) = Known s

abbrev pub octet_kind : ℕ → OctetKind
octet_kind octet =
    if octet == 0x20 then Gap
    else (if octet == 0x21 then End
    else (if octet == 0x22 then Torn
    else symbol_kind (symbol octet)))

-- a count by its four octets, the high one first
abbrev pub count_of : ℕ → ℕ → ℕ → ℕ → ℕ
count_of a b c d = ((a * 256 + b) * 256 + c) * 256 + d

-- the counts with so many more ticks, with a burst, with a torn burst and with a piece
abbrev pub with_ticks : Counts → ℕ → Counts
with_ticks c n = record {
  ticks = c.ticks + n;
  beacons = c.beacons;
  runs = c.runs;
  bare = c.bare;
  torn = c.torn;
  pieces = c.pieces;
  good = c.good;
}

abbrev pub with_beacon : Counts → Counts
with_beacon c = record {
  ticks = c.ticks;
  beacons = c.beacons + 1;
  runs = c.runs;
  bare = c.bare;
  torn = c.torn;
  pieces = c.pieces;
  good = c.good;
}

abbrev pub with_run : Counts → Counts
with_run c = record {
  ticks = c.ticks;
  beacons = c.beacons;
  runs = c.runs + 1;
  bare = c.bare;
  torn = c.torn;
  pieces = c.pieces;
  good = c.good;
}

abbrev pub with_bare : Counts → Counts
with_bare c = record {
  ticks = c.ticks;
  beacons = c.beacons;
  runs = c.runs;
  bare = c.bare + 1;
  torn = c.torn;
  pieces = c.pieces;
  good = c.good;
}

abbrev pub with_torn : Counts → Counts
with_torn c = record {
  ticks = c.ticks;
  beacons = c.beacons;
  runs = c.runs;
  bare = c.bare;
  torn = c.torn + 1;
  pieces = c.pieces;
  good = c.good;
}

abbrev pub with_piece : Counts → Bool → Counts
with_piece c good = record {
  ticks = c.ticks;
  beacons = c.beacons;
  runs = c.runs;
  bare = c.bare;
  torn = c.torn;
  pieces = c.pieces + 1;
  good = c.good + (if good then 1 else 0);
}

-- ---- answers

abbrev pub refuses : Progress → Why → Next
refuses p why = Refused (record { offset = p.taken; why = why })

-- the decoder after one more octet
abbrev pub after_octet : Progress → Counts → PieceReading → Stage → DecoderState
after_octet p counts reader stage = record { taken = p.taken + 1; counts = counts; reader = reader; stage = stage }

abbrev pub goes : Progress → Stage → Next
goes p stage = More (after_octet p p.counts p.reader stage)

-- an item is held, and the nibbles of its piece are let go with it
abbrev pub yields : DecodedItem → Progress → Counts → Stage → Next
yields item p counts stage = Held (record { item = item; decoder = after_octet p counts (without_nibbles p.reader) stage })

-- ---- the header

abbrev pub magic_step : Progress → ℕ → ℕ → Next
magic_step p n octet =
    if octet == slice_index magic n then (if n == 3 then goes p Version else goes p (Magic (n + 1)))
    else refuses p BadMagic

-- no symbol yet, where a burst may begin
abbrev pub no_burst : Bool → BurstSoFar
no_burst after_gap = record { place = start_phase; symbols = 0; closed = 0; after_gap = after_gap }

abbrev pub version_step : Progress → ℕ → Next
version_step p octet = if octet == 1 then goes p Node else refuses p BadVersion

abbrev pub node_step : Progress → ℕ → Next
node_step p octet = if nat_lt octet most_nodes then goes p (InBurst (no_burst false)) else refuses p NodeByte

-- ---- counts of ticks

abbrev pub gap_ends : Progress → ℕ → Next
gap_ends p n =
    if n == 0 then refuses p CountZero
    else More (after_octet p (with_ticks p.counts n) p.reader (InBurst (no_burst true)))

abbrev pub gap_step : Progress → CountSoFar → ℕ → Next
gap_step p Nothing d = goes p (InGap (One d))
gap_step p (One a) d = goes p (InGap (Two a d))
gap_step p (Two a b) d = goes p (InGap (Three a b d))
gap_step p (Three a b c) d = gap_ends p (count_of a b c d)

abbrev pub blur_ends : Progress → BlurSoFar → ℕ → Next
blur_ends p blur n =
    if blur.needed && (n == 0) then refuses p CountZero
    else yields (TornItem p.counts.ticks (p.counts.ticks + (4 * blur.symbols + n)) blur.symbols n) p
    (with_torn (with_ticks p.counts (4 * blur.symbols + n))) AfterTorn

abbrev pub counting : Progress → BlurSoFar → CountSoFar → Next
counting p blur count = goes p (InBlur (record { needed = blur.needed; symbols = blur.symbols; count = count }))

abbrev pub blur_step_by : CountSoFar → Progress → BlurSoFar → ℕ → Next
blur_step_by Nothing p blur d = counting p blur (One d)
blur_step_by (One a) p blur d = counting p blur (Two a d)
blur_step_by (Two a b) p blur d = counting p blur (Three a b d)
blur_step_by (Three a b c) p blur d = blur_ends p blur (count_of a b c d)

abbrev pub blur_step : Progress → BlurSoFar → ℕ → Next
blur_step p blur d = blur_step_by blur.count p blur d

-- ---- bursts

-- the item of a whole burst, by how many pieces it has and how many J stand after these
abbrev pub whole_item : ℕ → ℕ → ℕ → ℕ → DecodedItem
whole_item pieces lead start end =
    if pieces == 0 then (if lead == 0 then BeaconItem start else BareItem start end) else RunItem start end pieces

abbrev pub with_whole : ℕ → ℕ → Counts → Counts
with_whole pieces lead c =
    if pieces == 0 then (if lead == 0 then with_beacon c else with_bare c) else with_run c

abbrev pub burst_ends : Progress → BurstSoFar → Stage → Next
burst_ends p burst stage =
    yields
    (whole_item (pieces_at burst.place) (lead_at burst.place) p.counts.ticks (p.counts.ticks + 4 * burst.symbols))
    p
    (with_whole (pieces_at burst.place) (lead_at burst.place) (with_ticks p.counts (4 * burst.symbols)))
    stage

-- 20 after these symbols
abbrev pub gap_here : Progress → BurstSoFar → Next
gap_here p burst =
    if ends_burst burst.place then burst_ends p burst (InGap Nothing)
    else (if burst.symbols == 0 then (if burst.after_gap then refuses p GapTwice else goes p (InGap Nothing))
    else refuses p Place)

-- 21 after these symbols
abbrev pub end_here : Progress → BurstSoFar → Next
end_here p burst =
    if ends_burst burst.place then burst_ends p burst Ended
    else (if burst.symbols == 0 then goes p Ended else refuses p Place)

-- 22 after these symbols
abbrev pub torn_here : Progress → BurstSoFar → Next
torn_here p burst =
    More (after_octet p p.counts (without_nibbles p.reader)
    (InBlur (record {
      needed = (burst.symbols == 0) || ends_burst burst.place;
      symbols = burst.symbols;
      count = Nothing;
    })))

-- the symbols with one more, after which the place is this
abbrev pub longer : BurstSoFar → Phase → BurstSoFar
longer burst place =
    record { place = place; symbols = burst.symbols + 1; closed = burst.closed; after_gap = burst.after_gap }

-- the view of the piece that a closer ends here
abbrev pub view_here : Progress → ℕ → ℕ → Symbol → View
view_here p lead groups s = view_by lead groups (closer_of s) p.reader.nibbles

-- A closer, with which the symbols are these: it ends a piece of this lead and so many groups.
abbrev pub piece_ends : Progress → ℕ → ℕ → Symbol → BurstSoFar → Next
piece_ends p lead groups s burst =
    yields (PieceItem (p.counts.ticks + 4 * burst.closed) (view_here p lead groups s)) p
    (with_piece p.counts (is_good (view_here p lead groups s)))
    (InBurst (record {
      place = burst.place;
      symbols = burst.symbols;
      closed = burst.symbols;
      after_gap = burst.after_gap;
    }))

-- A symbol that may stand here, with which the symbols are these. The piece that is begun had this lead and so many
-- groups before it.
abbrev pub symbol_taken : Progress → ℕ → ℕ → Symbol → BurstSoFar → Next
symbol_taken p lead groups (Nibble n) burst =
    More (after_octet p p.counts (reading_after groups p.reader (Nibble n)) (InBurst burst))
symbol_taken p lead groups R burst = piece_ends p lead groups R burst
symbol_taken p lead groups K burst = piece_ends p lead groups K burst
symbol_taken p lead groups S burst = piece_ends p lead groups S burst
symbol_taken p lead groups J burst = goes p (InBurst burst)
symbol_taken p lead groups T burst = goes p (InBurst burst)
symbol_taken p lead groups H burst = goes p (InBurst burst)
symbol_taken p lead groups N burst = goes p (InBurst burst)

abbrev pub symbol_step : Progress → BurstSoFar → Symbol → Result Phase PlaceFault → Next
symbol_step p burst s (Ok place) =
    symbol_taken p (lead_at burst.place) (nibbles_at burst.place) s (longer burst place)
symbol_step p burst s (Err OneTooMany) = refuses p BurstLong
symbol_step p burst s (Err NotHere) = refuses p Place

abbrev pub burst_step_by : OctetKind → Progress → BurstSoFar → Next
burst_step_by Gap p burst = gap_here p burst
burst_step_by End p burst = end_here p burst
burst_step_by Torn p burst = torn_here p burst
burst_step_by (Known s) p burst = symbol_step p burst s (place_step burst.place s)
burst_step_by Unknown p burst = refuses p Group

-- after a torn burst
abbrev pub torn_step_by : OctetKind → Progress → Next
torn_step_by Gap p = goes p (InGap Nothing)
torn_step_by End p = goes p Ended
torn_step_by Torn p = refuses p Place
torn_step_by (Known s) p = refuses p Place
torn_step_by Unknown p = refuses p Group

-- ---- all stages

abbrev pub stage_step : Stage → Progress → ℕ → Next
stage_step (Magic n) p octet = magic_step p n octet
stage_step Version p octet = version_step p octet
stage_step Node p octet = node_step p octet
stage_step (InGap count) p octet = gap_step p count octet
stage_step (InBurst burst) p octet = burst_step_by (octet_kind octet) p burst
stage_step (InBlur blur) p octet = blur_step p blur octet
stage_step AfterTorn p octet = torn_step_by (octet_kind octet) p
stage_step Ended p octet = refuses p AfterEnd

abbrev pub progress_of : DecoderState → Progress
progress_of d = record { taken = d.taken; counts = d.counts; reader = d.reader }

abbrev pub advance : DecoderState → ℕ → Next
advance d octet =
    if d.taken == 2 ^ 30 then refuses (progress_of d) TooLong else stage_step d.stage (progress_of d) octet

-- ---- the octets of a piece

abbrev pub feed_on : Next → (DecoderState → ℕ × Next) → ℕ × Next
feed_on (More d) others = (suc (others d).0, (others d).1)
feed_on (Held held) others = (1, Held held)
feed_on (Refused refusal) others = (1, Refused refusal)

-- one octet after another, up to the first at which an item is held or that is refused: how many these are, and what
-- the last of them leads to
abbrev pub fed : DecoderState → List ℕ → ℕ × Next
fed d [] = (0, More d)
fed d (octet ∷ octets) = feed_on (advance d octet) (λ e. fed e octets)

-- ---- the end of the octets

abbrev pub finished_at : Stage → DecoderState → Result Counts Refusal
finished_at Ended d = Ok d.counts
finished_at _ d = Err (record { offset = d.taken; why = Truncated })

abbrev pub finished : DecoderState → Result Counts Refusal
finished d = finished_at d.stage d
