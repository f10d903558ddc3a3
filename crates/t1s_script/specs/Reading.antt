-- What the octets of a script give, said over the list of all its lines: the script, or the first line that
-- breaks a rule and the first reason of the table for it.
use Rattle.std.specs.Prelude.{ℕ, ◌+◌, List, [], ◌∷◌, length, map, take, flat_map, None, Some, filter_map, nat_lt, Option, option_map, Result, Ok, Err, ⊤, ◌≡◌, if◌then◌else◌}
use Rattle.std.specs.List.{enumerate_from, range_with_len}
use Rattle.t1s_base.specs.Limits.{most_nodes}
use Rattle.t1s_script.specs.Lines.{lines_of}
use Rattle.t1s_script.specs.ParsedLine.{ParsedLine, parsed_line}
use Rattle.t1s_script.specs.Versions.{version_of}
use Rattle.t1s_script.specs.Values.{seed_from, node_for, also_for, stub_for, start_for, timer_for, draw_for, offer_from, end_from, first_given, setting_of}
use Rattle.t1s_script.specs.Rules.{reason_of}
use Rattle.t1s_script.specs.Script.{IsScript}
use Rattle.t1s_script.specs.declared.refusals.ScriptReason.{ScriptReason}
use Rattle.t1s_script.specs.declared.refusals.ScriptReason.TheVariants.{TooLong, FirstLine, NoEnd}
use Rattle.t1s_script.specs.declared.refusals.ScriptRefusal.{ScriptRefusal}
use Rattle.t1s_script.specs.declared.refusals.ScriptFault.{ScriptFault}
use Rattle.t1s_script.specs.declared.refusals.ScriptFault.TheVariants.{Refused, Memory}
use Rattle.t1s_script.specs.declared.script.Act.{Act}
use Rattle.t1s_script.specs.declared.script.Deed.{Deed}
use Rattle.t1s_script.specs.declared.script.Deed.TheVariants.{Offer, Noise}
use Rattle.t1s_script.specs.declared.script.NodeLine.{NodeLine}
use Rattle.t1s_script.specs.declared.script.Script.{Script}
use Rattle.t1s_script.specs.declared.versions.Version.{Version}
use Rattle.t1s_script.specs.declared.words.Setting.TheVariants.{Count, To, Rise, Fall, Burst, Room}
use Rattle.t1s_script.specs.declared.words.ScriptLine.TheVariants.{Offer as OfferLine, Noise as NoiseLine}

-- ---- the script of lines that break no rule

-- the draws that lines list for a node, in their order; without such a line there is no list
abbrev pub draw_list : List ℕ → Option (List ℕ)
draw_list [] = None
draw_list (draw ∷ draws) = Some (draw ∷ draws)

-- the node of that number, as its `node` line names it: its IDs are that of this line and those of its `also` lines, in
-- their order; without a `stub` line it has no stub, without a `tonode` line its timer is that of the script, and without
-- a `late` line it starts at tick 0
abbrev pub node_of_line : List ParsedLine → ℕ → ℕ × ℕ → NodeLine
node_of_line lines number line = record {
  no = number;
  ids = line.0 ∷ filter_map (also_for number) lines;
  place = line.1;
  stub = first_given (stub_for number) lines 0;
  to = first_given (timer_for number) lines (setting_of To lines);
  start = first_given (start_for number) lines 0;
  draws = draw_list (filter_map (draw_for number) lines);
}

-- the node of that number, if it has a `node` line
abbrev pub nodes_of_number : List ParsedLine → ℕ → List NodeLine
nodes_of_number lines number = map (node_of_line lines number) (filter_map (node_for number) lines)

-- the nodes in ascending number
abbrev pub nodes_of : List ParsedLine → List NodeLine
nodes_of lines = flat_map (nodes_of_number lines) (range_with_len 0 most_nodes)

abbrev pub act_at : ℕ → Deed → Act
act_at tick deed = record { tick = tick; deed = deed }

-- the act of a timed line that stands below so many offers: these are numbered from 1 in line order
abbrev pub act_below : ℕ → ParsedLine → Option Act
act_below offers (Ok (OfferLine tick number frame)) = Some (act_at tick (Offer (1 + offers) number frame))
act_below offers (Ok (NoiseLine tick until)) = Some (act_at tick (Noise until))
act_below offers _ = None

-- the act of one of these lines; it comes with the number of lines between it and the first line
abbrev pub act_of : List ParsedLine → ℕ × ParsedLine → Option Act
act_of lines line = act_below (length (filter_map offer_from (take line.0 lines))) line.1

-- the acts of all lines, in line order
abbrev pub acts_of : List ParsedLine → List Act
acts_of lines = filter_map (act_of lines) (enumerate_from 0 lines)

-- the script that these lines give, with that `end`
abbrev pub script_from : List ParsedLine → ℕ → Script
script_from lines last = record {
  count = setting_of Count lines;
  to = setting_of To lines;
  rise = setting_of Rise lines;
  fall = setting_of Fall lines;
  burst = setting_of Burst lines;
  room = setting_of Room lines;
  seed = first_given seed_from lines 1;
  nodes = nodes_of lines;
  acts = acts_of lines;
  end = last;
}

abbrev pub refused_at : ℕ → ScriptReason → Result Script ScriptRefusal
refused_at number reason = Err (record { line = number; reason = reason })

-- by the `end` lines: without one the refused line is the one after all lines
abbrev pub script_by : List ParsedLine → List ℕ → Result Script ScriptRefusal
script_by lines [] = refused_at (length lines + 2) NoEnd
script_by lines (last ∷ further) = Ok (script_from lines last)

-- ---- the refused line

-- the refusal of a line, if it breaks a rule; it comes with the number of lines between it and the first line
abbrev pub refusal_of : List ParsedLine → ℕ × ParsedLine → Option ScriptRefusal
refusal_of lines line = option_map (λ reason. record { line = line.0 + 2; reason = reason }) (reason_of (take line.0 lines) line.1)

-- the refusals of all lines after the first that break a rule
abbrev pub refusals_of : List ParsedLine → List ScriptRefusal
refusals_of lines = filter_map (refusal_of lines) (enumerate_from 0 lines)

-- the first refusal, and where there is none the other answer
abbrev pub first_refusal_or : List ScriptRefusal → Result Script ScriptRefusal → Result Script ScriptRefusal
first_refusal_or [] answer = answer
first_refusal_or (refusal ∷ further) answer = Err refusal

-- ---- all lines

-- the lines after the first
abbrev pub script_after_first : List ParsedLine → Result Script ScriptRefusal
script_after_first lines = first_refusal_or (refusals_of lines) (script_by lines (filter_map end_from lines))

-- the lines after one that names this version, or none
abbrev pub script_with_version : Option Version → List (List ℕ) → Result Script ScriptRefusal
script_with_version (Some version) lines = script_after_first (map (parsed_line version) lines)
script_with_version None lines = refused_at 1 FirstLine

abbrev pub script_in : List (List ℕ) → Result Script ScriptRefusal
script_in [] = refused_at 1 FirstLine
script_in (first ∷ lines) = script_with_version (version_of first) lines

-- what the octets of a script give: the script, or the refused line and the reason
abbrev pub script_of : List ℕ → Result Script ScriptRefusal
script_of octets = if nat_lt 1048576 (length octets) then refused_at 0 TooLong else script_in (lines_of octets)

-- The answer is the one that reading gives. Out of memory may come in place of any.
abbrev pub IsAnswer : Result Script ScriptRefusal → Result Script ScriptFault → Type 0
IsAnswer reading (Ok script) = reading ≡ Ok script
IsAnswer reading (Err (Refused refusal)) = reading ≡ Err refusal
IsAnswer reading (Err (Memory error)) = ⊤

-- a script that reading gives is valid
abbrev pub ReadScriptsAreValid : Type 0
ReadScriptsAreValid = (octets : List ℕ) (s : Script) → script_of octets ≡ Ok s → IsScript s
