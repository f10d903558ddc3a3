-- What is written for a report: a picture or a dump, or the line of the refusal after what stands before it.
use Rattle.std.specs.Prelude.{ℕ, ◌+◌, Bool, true, false, List, [], ◌∷◌, ◌++◌, length, nat_lt, codes, decimal, Option, Some, None, Ok, Err, if◌then◌else◌}
use Rattle.t1s_drawing.specs.Lines.{parts_of}
use Rattle.t1s_drawing.specs.ReadLines.{line_of}
use Rattle.t1s_drawing.specs.Progress.{at_start, step, Stepped}
use Rattle.t1s_drawing.specs.Picture.{picture_closing, picture_opening, shapes_text}
use Rattle.t1s_drawing.specs.Dump.{changes_text, dump_closing, dump_opening}
use Rattle.t1s_drawing.specs.declared.report.ReportLine.{ReportLine}
use Rattle.t1s_drawing.specs.declared.progress.Progress.{Progress}
use Rattle.t1s_drawing.specs.declared.progress.Reason.{Reason}
use Rattle.t1s_drawing.specs.declared.progress.Reason.TheVariants.{TooLong, Line, Order, Node, TooMany, End}
use Rattle.t1s_drawing.specs.declared.progress.Told.{Told}
use Rattle.t1s_drawing.specs.declared.window.Form.{Form}
use Rattle.t1s_drawing.specs.declared.window.Form.TheVariants.{Picture, Waveform}
use Rattle.t1s_drawing.specs.declared.window.Window.{Window}

-- ---- by the form

abbrev pub opening_of : Form → Window → List ℕ
opening_of Picture w = picture_opening w
opening_of Waveform w = dump_opening w

-- what stands before the texts of the lines
abbrev pub opening : Window → List ℕ
opening w = opening_of w.form w

abbrev pub told_of : Form → Window → List ℕ → Told → List ℕ
told_of Picture w line told = shapes_text w line told
told_of Waveform w line told = changes_text w told.before told.event

-- the text of what a line gives
abbrev pub told_text : Window → List ℕ → Told → List ℕ
told_text w line told = told_of w.form w line told

abbrev pub closing_of : Form → Window → Progress → List ℕ
closing_of Picture w p = picture_closing w p
closing_of Waveform w p = dump_closing w p

-- what stands after the texts of the lines
abbrev pub closing : Window → Progress → List ℕ
closing w p = closing_of w.form w p

-- ---- refusals

abbrev pub reason_name : Reason → List ℕ
reason_name TooLong = codes "TooLong"
reason_name Line = codes "Line"
reason_name Order = codes "Order"
reason_name Node = codes "Node"
reason_name TooMany = codes "TooMany"
reason_name End = codes "End"

-- the line of the refusal of a line of the report, which are numbered from 1
abbrev pub refused_line : ℕ → Reason → List ℕ
refused_line number reason = codes "refused " ++ decimal number ++ codes " " ++ reason_name reason ++ codes "\n"

-- ---- what is written

-- a text, and whether it ends with a refusal
pub record Outcome : Type 0 where
  pub text : List ℕ
  pub refused : Bool

-- an outcome after a text
unfoldable pub after : List ℕ → Outcome → Outcome
after text outcome = record { text = text ++ outcome.text; refused = outcome.refused }

abbrev pub refusal : ℕ → Reason → Outcome
refusal number reason = record { text = refused_line number reason; refused = true }

abbrev pub step_of : Window → Progress → Option ReportLine → Stepped
step_of w p (Some line) = step w p line
step_of w p None = Err Line

-- what a line gives: it has at most 4096 octets, there are at most 2^30 lines, and it is one of a report
abbrev pub line_step : Window → Progress → ℕ → List ℕ → Stepped
line_step w p number line =
    if nat_lt 4096 (length line) then Err TooLong
    else if nat_lt 1073741824 number then Err TooMany
    else step_of w p (line_of line)

-- what stands after the last line feed: nothing, and the summary has begun
abbrev pub end_of : Window → Progress → ℕ → List ℕ → Outcome
end_of w p number [] = if p.in_summary then record { text = closing w p; refused = false } else refusal number End
end_of w p number (octet ∷ octets) = refusal number (if nat_lt 4096 (length (octet ∷ octets)) then TooLong else End)

-- what a line gives, and then what follows it
abbrev pub going_on : Window → ℕ → List ℕ → Stepped → (Progress → Outcome) → Outcome
going_on w number line (Ok stepped) next = after (told_text w line stepped.1) (next stepped.0)
going_on w number line (Err reason) next = refusal number reason

-- what the lines give from the one with this number on, where the report has come so far
unfoldable pub drawn : Window → List (List ℕ) → Progress → ℕ → Outcome
drawn w [] p number = refusal number End
drawn w (part ∷ []) p number = end_of w p number part
drawn w (part ∷ next ∷ parts) p number = going_on w number part (line_step w p number part) (λ q. drawn w (next ∷ parts) q (number + 1))

-- what is written for the octets of an input
unfoldable pub drawing_of : Window → List ℕ → Outcome
drawing_of w octets = after (opening w) (drawn w (parts_of octets) at_start 1)
