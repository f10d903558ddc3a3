-- What a task gives for an input.
use Rattle.std.specs.Prelude.{ℕ, ◌⊎◌, ◌==◌, Bool, List, Result, Ok, Err, if◌then◌else◌}
use Rattle.std.specs.List.{list_any}
use Rattle.t1s_script.specs.Reading.{script_of}
use Rattle.t1s_script.specs.declared.script.NodeLine.{NodeLine}
use Rattle.t1s_script.specs.declared.script.Script.{Script}
use Rattle.t1s_script.specs.declared.refusals.ScriptReason.TheVariants.{UnknownNode}
use Rattle.t1s_script.specs.declared.refusals.ScriptRefusal.{ScriptRefusal}
use Rattle.t1s_report.specs.DecodedText.{IsItemText, IsCaptureText, IsOffenceText}
use Rattle.t1s_report.specs.FitnessLines.{check_line}
use Rattle.t1s_report.specs.HeardText.{heard_text}
use Rattle.t1s_report.specs.JsonSummary.{json_summary}
use Rattle.t1s_report.specs.PcapText.{node_pcap}
use Rattle.t1s_report.specs.RefusalLines.{refused_line}
use Rattle.t1s_report.specs.Report.{report}
use Rattle.t1s_cli.specs.declared.commands.ScriptTask.{ScriptTask}
use Rattle.t1s_cli.specs.declared.commands.ScriptTask.TheVariants.{Run, Check, Json, Capture, Pcap}
use Rattle.t1s_cli.specs.declared.commands.CaptureTask.{CaptureTask}
use Rattle.t1s_cli.specs.declared.commands.CaptureTask.TheVariants.{Decode}
use Rattle.t1s_cli.specs.declared.status.Status.{Status}
use Rattle.t1s_cli.specs.declared.status.Status.TheVariants.{Done, Refused, Usage, ReadFault, WriteFault, Memory}

-- whether the script has a node with this number
abbrev pub has_node : Script → ℕ → Bool
has_node s node = list_any (λ (n : NodeLine). n.no == node) s.nodes

-- the script has no node with the number that the words name
abbrev pub no_such_node : ScriptRefusal
no_such_node = record { line = 0; reason = UnknownNode }

-- what a task gives for a script: a text, or why it is refused
abbrev pub task_answer : ScriptTask → Script → Result (List ℕ) ScriptRefusal
task_answer Run s = Ok (report s)
task_answer Check s = Ok (check_line s)
task_answer Json s = Ok (json_summary s)
task_answer (Capture node) s = if has_node s node then Ok (heard_text s node) else Err no_such_node
task_answer (Pcap node) s = if has_node s node then Ok (node_pcap s node) else Err no_such_node

-- what it gives where reading gave this
abbrev pub answer_for : ScriptTask → Result Script ScriptRefusal → Result (List ℕ) ScriptRefusal
answer_for task (Ok s) = task_answer task s
answer_for task (Err refusal) = Err refusal

-- what a task gives for the octets of an input
unfoldable pub answer_of : ScriptTask → List ℕ → Result (List ℕ) ScriptRefusal
answer_of task octets = answer_for task (script_of octets)

-- the text that is written: that one, or the line of the refusal
abbrev pub text_of : Result (List ℕ) ScriptRefusal → List ℕ
text_of (Ok text) = text
text_of (Err refusal) = refused_line refusal

-- the answer where that text was written
abbrev pub status_of : Result (List ℕ) ScriptRefusal → Status
status_of (Ok text) = Done
status_of (Err refusal) = Refused

-- the text of a task for octets that are a capture of at most 2^30 octets
abbrev pub IsWholeText : CaptureTask → List ℕ → List ℕ → Type 0
IsWholeText Decode octets text = IsCaptureText octets text

-- the text of a task for octets with an offence
abbrev pub IsRefusedText : CaptureTask → List ℕ → List ℕ → Type 0
IsRefusedText Decode octets text = IsOffenceText octets text

-- the text of a task for octets that begin a capture, as far as they go
abbrev pub IsTextSoFar : CaptureTask → List ℕ → List ℕ → Type 0
IsTextSoFar Decode octets text = IsItemText octets text

-- the text of a task for the octets of an input
abbrev pub IsTaskText : CaptureTask → List ℕ → List ℕ → Type 0
IsTaskText task octets text = IsWholeText task octets text ⊎ IsRefusedText task octets text

-- the exit status of the program
abbrev pub exit_code_of : Status → ℕ
exit_code_of Done = 0
exit_code_of Refused = 1
exit_code_of Usage = 2
exit_code_of ReadFault = 3
exit_code_of WriteFault = 4
exit_code_of Memory = 5
