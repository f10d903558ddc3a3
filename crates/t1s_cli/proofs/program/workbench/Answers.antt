use Rattle.std.proofs.Common.{◌≡◌, List, Option, Some, Global, sym, ap, ◌∙◌}
use Rattle.std.specs.declared.string.String.{String}
use Rattle.t1s_cli.specs.ScriptCall.{ScriptCall}
use Rattle.t1s_cli.specs.declared.commands.Command.{Command}
use Rattle.t1s_cli.specs.declared.commands.Command.TheVariants.{OnScript, OnNumbers}
use Rattle.t1s_cli.specs.declared.commands.ScriptTask.{ScriptTask}
use Rattle.t1s_cli.specs.declared.commands.CaptureTask.TheVariants.{Decode}
use Rattle.t1s_cli.specs.declared.commands.GeneratedTask.{GeneratedTask}
use Rattle.t1s_cli.specs.declared.commands.GeneratedTask.TheVariants.{Gen, Load}
use Rattle.t1s_cli.specs.Generated.{AreInRange, numbers_of}
use Rattle.t1s_cli.specs.Words.{AreTask, AreGeneratedTask}
use Rattle.t1s_cli.proofs.CaptureCalls.{says_refused, says_prefix, capture_done, offence_refused}
use Rattle.t1s_cli.proofs.ScriptCalls.{script_read_whole, script_text, script_refusal, script_prefix, script_rest, script_calm}
use Rattle.t1s_cli.proofs.ScriptRuns.{run_laws}
use Rattle.t1s_cli.proofs.program.workbench.Given.{Over}
use Rattle.t1s_cli.proofs.program.workbench.Goals as goal

-- the words ask for one task
one_task : (asked : Option Command) (t u : ScriptTask) → asked ≡ Some (OnScript t) → asked ≡ Some (OnScript u) → t ≡ u
one_task asked t u is also = cc

one_made : (asked : Option Command) (t u : GeneratedTask) → asked ≡ Some (OnNumbers t) → asked ≡ Some (OnNumbers u) → t ≡ u
one_made asked t u is also = cc

-- and it either reads an input, or is with a generated script
one_kind : (asked : Option Command) (t : ScriptTask) (u : GeneratedTask) → asked ≡ Some (OnScript t) → asked ≡ Some (OnNumbers u) → ⊥
one_kind asked t u is also = let z = sym is ∙ also in cc

-- ---- a task on a script

module _ (g : Over) (c : goal.After-script_command g) where
  asked : c.command_of.result ≡ Some (OnScript c.in-Some-OnScript.task)
  asked = c.in-Some-OnScript.is ∙ ap Some c.in-Some-OnScript.field-0-is

  -- the call did the task that the words ask for
  abbrev Call : ScriptTask → Type 0
  Call task = ScriptCall g.S.Source.left g.S.Source.faults g.K.Sink.written g.K.Sink.faults g.K.Sink.finished task c.args.source.now c.script_command.new.source c.args.sink.now c.script_command.new.sink c.script_command.result

  call_of : (task : ScriptTask) → AreTask c.args.words.now task → Call task
  call_of task are =
      let same : c.in-Some-OnScript.task ≡ task = one_task c.command_of.result c.in-Some-OnScript.task task asked ((c.command_of.ensures.script task).1 are) in
      rw same at c.script_command.ensures

pub returns-in-Some-OnScript-clause-done_reads_all : goal.returns-in-Some-OnScript-clause-done_reads_all
returns-in-Some-OnScript-clause-done_reads_all g c octets reads told e =
    script_read_whole g.S.Source.left g.S.Source.faults g.K.Sink.written g.K.Sink.faults g.K.Sink.finished c.in-Some-OnScript.task c.args.source.now c.script_command.new.source c.args.sink.now c.script_command.new.sink c.script_command.result c.script_command.ensures octets told e

pub returns-in-Some-OnScript-clause-script_done : goal.returns-in-Some-OnScript-clause-script_done
returns-in-Some-OnScript-clause-script_done g c task octets are told e =
    script_text g.S.Source.left g.S.Source.faults g.K.Sink.written g.K.Sink.faults g.K.Sink.finished task c.args.source.now c.script_command.new.source c.args.sink.now c.script_command.new.sink c.script_command.result (call_of g c task are) octets told e

pub returns-in-Some-OnScript-clause-script_refused : goal.returns-in-Some-OnScript-clause-script_refused
returns-in-Some-OnScript-clause-script_refused g c task octets are told e =
    script_refusal g.S.Source.left g.S.Source.faults g.K.Sink.written g.K.Sink.faults g.K.Sink.finished task c.args.source.now c.script_command.new.source c.args.sink.now c.script_command.new.sink c.script_command.result (call_of g c task are) octets told e

pub returns-in-Some-OnScript-clause-script_write_fault : goal.returns-in-Some-OnScript-clause-script_write_fault
returns-in-Some-OnScript-clause-script_write_fault g c task octets are told e =
    script_prefix g.S.Source.left g.S.Source.faults g.K.Sink.written g.K.Sink.faults g.K.Sink.finished task c.args.source.now c.script_command.new.source c.args.sink.now c.script_command.new.sink c.script_command.result (call_of g c task are) octets told e

pub returns-in-Some-OnScript-clause-script_reads : goal.returns-in-Some-OnScript-clause-script_reads
returns-in-Some-OnScript-clause-script_reads g c task octets are told w =
    script_rest g.S.Source.left g.S.Source.faults g.K.Sink.written g.K.Sink.faults g.K.Sink.finished task c.args.source.now c.script_command.new.source c.args.sink.now c.script_command.new.sink c.script_command.result (call_of g c task are) octets told w

pub returns-in-Some-OnScript-clause-script_completes : goal.returns-in-Some-OnScript-clause-script_completes
returns-in-Some-OnScript-clause-script_completes g c task octets are told calm_source calm_sink =
    script_calm g.S.Source.left g.S.Source.faults g.K.Sink.written g.K.Sink.faults g.K.Sink.finished task c.args.source.now c.script_command.new.source c.args.sink.now c.script_command.new.sink c.script_command.result (call_of g c task are) octets told calm_source calm_sink

pub returns-in-Some-OnScript-clause-run_laws : goal.returns-in-Some-OnScript-clause-run_laws
returns-in-Some-OnScript-clause-run_laws g c octets s are told reads = run_laws octets s reads

pub returns-in-Some-OnScript-clause-gen_takes_no_memory : goal.returns-in-Some-OnScript-clause-gen_takes_no_memory
returns-in-Some-OnScript-clause-gen_takes_no_memory g c n are e = one_kind c.command_of.result c.in-Some-OnScript.task (Gen n) (asked g c) ((c.command_of.ensures.generated (Gen n)).1 are)

-- ---- a task on a capture

pub returns-in-Some-OnCapture-Decode-clause-run_laws : goal.returns-in-Some-OnCapture-Decode-clause-run_laws
returns-in-Some-OnCapture-Decode-clause-run_laws g c octets s are told reads = run_laws octets s reads

pub returns-in-Some-OnCapture-Decode-clause-capture_refused : goal.returns-in-Some-OnCapture-Decode-clause-capture_refused
returns-in-Some-OnCapture-Decode-clause-capture_refused g c Decode octets are told e =
    says_refused g.S.Source.left g.S.Source.faults g.K.Sink.written g.K.Sink.faults g.K.Sink.finished c.args.source.now c.decode_command.new.source c.args.sink.now c.decode_command.new.sink c.decode_command.result c.decode_command.ensures octets told e

pub returns-in-Some-OnCapture-Decode-clause-capture_write_fault : goal.returns-in-Some-OnCapture-Decode-clause-capture_write_fault
returns-in-Some-OnCapture-Decode-clause-capture_write_fault g c Decode octets are told e =
    says_prefix g.S.Source.left g.S.Source.faults g.K.Sink.written g.K.Sink.faults g.K.Sink.finished c.args.source.now c.decode_command.new.source c.args.sink.now c.decode_command.new.sink c.decode_command.result c.decode_command.ensures octets told e

pub returns-in-Some-OnCapture-Decode-clause-capture_completes : goal.returns-in-Some-OnCapture-Decode-clause-capture_completes
returns-in-Some-OnCapture-Decode-clause-capture_completes g c task octets are told calm_source calm_sink = (
  λ capture within. capture_done g.S.Source.left g.S.Source.faults g.K.Sink.written g.K.Sink.faults g.K.Sink.finished c.args.source.now c.decode_command.new.source c.args.sink.now c.decode_command.new.sink c.decode_command.result c.decode_command.ensures
      octets told calm_source calm_sink capture within,
  λ refusal offence. offence_refused g.S.Source.left g.S.Source.faults g.K.Sink.written g.K.Sink.faults g.K.Sink.finished c.args.source.now c.decode_command.new.source c.args.sink.now c.decode_command.new.sink c.decode_command.result c.decode_command.ensures
      octets told calm_source calm_sink refusal offence,
)

-- ---- a task with a generated script

in_range : (words : List (String Global)) (task : GeneratedTask) → AreGeneratedTask words task → AreInRange (numbers_of task)
in_range words (Gen n) are = are.0
in_range words (Load n) are = are.0

pub generated_command-requires : goal.generated_command-requires
generated_command-requires g c =
    let task = c.in-Some-OnNumbers.task in
    let made : c.command_of.result ≡ Some (OnNumbers task) = c.in-Some-OnNumbers.is ∙ ap Some c.in-Some-OnNumbers.field-0-is in
    in_range c.args.words.now task ((c.command_of.ensures.generated task).0 made)

pub returns-in-Some-OnNumbers-clause-script_reads : goal.returns-in-Some-OnNumbers-clause-script_reads
returns-in-Some-OnNumbers-clause-script_reads g c task octets are told w =
    let made : c.command_of.result ≡ Some (OnNumbers c.in-Some-OnNumbers.task) = c.in-Some-OnNumbers.is ∙ ap Some c.in-Some-OnNumbers.field-0-is in
    absurd (one_kind c.command_of.result task c.in-Some-OnNumbers.task ((c.command_of.ensures.script task).1 are) made)

pub returns-in-Some-OnNumbers-clause-run_laws : goal.returns-in-Some-OnNumbers-clause-run_laws
returns-in-Some-OnNumbers-clause-run_laws g c octets s are told reads = run_laws octets s reads

pub returns-in-Some-OnNumbers-clause-gen_takes_no_memory : goal.returns-in-Some-OnNumbers-clause-gen_takes_no_memory
returns-in-Some-OnNumbers-clause-gen_takes_no_memory g c n are e =
    let made : c.command_of.result ≡ Some (OnNumbers c.in-Some-OnNumbers.task) = c.in-Some-OnNumbers.is ∙ ap Some c.in-Some-OnNumbers.field-0-is in
    let same : c.in-Some-OnNumbers.task ≡ Gen n = one_made c.command_of.result c.in-Some-OnNumbers.task (Gen n) made ((c.command_of.ensures.generated (Gen n)).1 are) in
    c.generated_command.ensures.takes_none n same e

-- ---- no task

pub returns-in-None-clause-run_laws : goal.returns-in-None-clause-run_laws
returns-in-None-clause-run_laws g c octets s are told reads = run_laws octets s reads
