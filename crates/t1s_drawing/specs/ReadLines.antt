-- What a line of a report says.
use Rattle.std.specs.Prelude.{ℕ, ◌==◌, ◌&&◌, ◌||◌, Bool, List, [], ◌∷◌, nat_le, codes, Option, Some, None, if◌then◌else◌, is_some}
use Rattle.std.specs.Char.{is_ascii_digit, is_ascii_lowercase}
use Rattle.std.specs.List.{list_all}
use Rattle.std.specs.Str.{bytes_eq}
use Rattle.t1s_base.specs.Numbers.{number_of}
use Rattle.t1s_waveform.specs.declared.heard.Heard.TheVariants.{Silence, Beacon as HeardBeacon, Run, Bare, Torn, Blur}
use Rattle.t1s_drawing.specs.Lines.{fields_of}
use Rattle.t1s_drawing.specs.declared.report.Happening.{Happening}
use Rattle.t1s_drawing.specs.declared.report.Happening.TheVariants.{Taken, Full, Off, InStep, LostStep, Jam, Drop, Beacon, Commit, Quiet, Leave, Good, Bad, Hears}
use Rattle.t1s_drawing.specs.declared.report.ReportLine.{ReportLine}
use Rattle.t1s_drawing.specs.declared.report.ReportLine.TheVariants.{Event, Settled, Totals, Offer}

-- a small letter, a digit or a space
abbrev pub is_line_octet : ℕ → Bool
is_line_octet octet = is_ascii_lowercase octet || is_ascii_digit octet || octet == 32

-- the line has no other octets
abbrev pub is_plain : List ℕ → Bool
is_plain line = list_all is_line_octet line

-- a number, where it is below 2^32
abbrev pub below_2_32 : Option ℕ → Option ℕ
below_2_32 (Some n) = if nat_le n 4294967295 then Some n else None
below_2_32 None = None

-- the number below 2^32 that a field is
abbrev pub small_number : List ℕ → Option ℕ
small_number field = below_2_32 (number_of field)

-- ---- the line of an event: `TICK WORD NODE` and what else there is to tell

-- what happened to the frame of that number
abbrev pub of_frame : List ℕ → ℕ → Option Happening
of_frame word number =
    if bytes_eq word (codes "taken") then Some (Taken number)
    else if bytes_eq word (codes "full") then Some (Full number)
    else if bytes_eq word (codes "off") then Some (Off number)
    else if bytes_eq word (codes "jam") then Some (Jam number)
    else if bytes_eq word (codes "drop") then Some (Drop number)
    else if bytes_eq word (codes "leave") then Some (Leave number)
    else None

abbrev pub of_numbered : List ℕ → Option ℕ → Option Happening
of_numbered word (Some number) = of_frame word number
of_numbered word None = None

-- the word of a status
abbrev pub status_in : List ℕ → Option Happening
status_in field = if bytes_eq field (codes "ok") then Some InStep else if bytes_eq field (codes "lost") then Some LostStep else None

-- the word of what is heard
abbrev pub heard_in : List ℕ → Option Happening
heard_in field =
    if bytes_eq field (codes "silence") then Some (Hears Silence)
    else if bytes_eq field (codes "beacon") then Some (Hears HeardBeacon)
    else if bytes_eq field (codes "run") then Some (Hears Run)
    else if bytes_eq field (codes "bare") then Some (Hears Bare)
    else if bytes_eq field (codes "torn") then Some (Hears Torn)
    else if bytes_eq field (codes "blur") then Some (Hears Blur)
    else None

-- the field names a piece that is no good frame
abbrev pub is_kind : List ℕ → Bool
is_kind field =
    bytes_eq field (codes "badfcs") || bytes_eq field (codes "odd") || bytes_eq field (codes "runt")
    || bytes_eq field (codes "nosfd") || bytes_eq field (codes "errored") || bytes_eq field (codes "jabber")

-- what a word says with no field after the node
abbrev pub alone : List ℕ → Option Happening
alone word =
    if bytes_eq word (codes "beacon") then Some Beacon
    else if bytes_eq word (codes "commit") then Some Commit
    else if bytes_eq word (codes "quiet") then Some Quiet
    else None

-- with one field
abbrev pub told : List ℕ → List ℕ → Option Happening
told word field =
    if bytes_eq word (codes "status") then status_in field
    else if bytes_eq word (codes "arrive") then (if is_kind field then Some Bad else None)
    else if bytes_eq word (codes "hears") then heard_in field
    else of_numbered word (small_number field)

-- with all fields after the node; the octets of a good frame come last
abbrev pub happening_in : List ℕ → List (List ℕ) → Option Happening
happening_in word [] = alone word
happening_in word (field ∷ []) = told word field
happening_in word (field ∷ frame ∷ []) = if bytes_eq word (codes "arrive") && bytes_eq field (codes "good") then Some Good else None
happening_in word (field ∷ frame ∷ more ∷ rest) = None

abbrev pub placed : Option ℕ → Option ℕ → Option Happening → Option ReportLine
placed (Some tick) (Some node) (Some what) = Some (Event (record { tick = tick; node = node; what = what }))
placed _ _ _ = None

abbrev pub event_in : List ℕ → List (List ℕ) → Option ReportLine
event_in tick (word ∷ node ∷ fields) = placed (small_number tick) (small_number node) (happening_in word fields)
event_in tick _ = None

-- ---- the lines of the summary

abbrev pub settled_in : List (List ℕ) → Option ReportLine
settled_in (tick ∷ []) = if bytes_eq tick (codes "never") || is_some (small_number tick) then Some Settled else None
settled_in _ = None

abbrev pub totals_at : Option ℕ → Option ReportLine
totals_at (Some node) = Some (Totals node)
totals_at None = None

-- the node, and what was counted at it
abbrev pub totals_in : List (List ℕ) → Option ReportLine
totals_in (node ∷ counts) = totals_at (small_number node)
totals_in [] = None

-- the number of the offer, and what has become of it
abbrev pub offer_in : List (List ℕ) → Option ReportLine
offer_in (number ∷ rest) = if is_some (small_number number) then Some Offer else None
offer_in [] = None

abbrev pub is_summary_word : List ℕ → Bool
is_summary_word word = bytes_eq word (codes "settled") || bytes_eq word (codes "node") || bytes_eq word (codes "offer")

abbrev pub summary_in : List ℕ → List (List ℕ) → Option ReportLine
summary_in word fields =
    if bytes_eq word (codes "settled") then settled_in fields
    else if bytes_eq word (codes "node") then totals_in fields
    else offer_in fields

-- ---- whole lines

abbrev pub line_in : List (List ℕ) → Option ReportLine
line_in [] = None
line_in (word ∷ fields) = if is_summary_word word then summary_in word fields else event_in word fields

-- what a line says, if it is one of a report
abbrev pub line_of : List ℕ → Option ReportLine
line_of line = if is_plain line then line_in (fields_of line) else None
