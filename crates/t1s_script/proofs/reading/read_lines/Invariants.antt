use Rattle.std.proofs.Common.{◌≡◌, Ok, map, length}
use Rattle.t1s_script.specs.Lines.{lines_of}
use Rattle.t1s_script.specs.ParsedLine.{parsed_line}
use Rattle.t1s_script.specs.Reading.{script_after_first}
use Rattle.t1s_script.proofs.Drafts.{reading_from}
use Rattle.t1s_script.proofs.reading.read_lines.Given as goal

-- what is left to read, after the draft of the lines so far, gives what all lines give
abbrev pub invariant-loop-line : goal.invariant-loop-line
invariant-loop-line l =
    reading_from l.lines.taken (Ok l.draft) (map (parsed_line l.version) (lines_of l.lines.rest.now))
    ≡ script_after_first (map (parsed_line l.version) (lines_of l.initial.lines.rest.now))

abbrev pub decreases-loop-line : goal.decreases-loop-line
decreases-loop-line l = length l.lines.rest.now
