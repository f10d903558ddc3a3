-- What a call with a task on a script has done.
use Rattle.std.specs.Prelude.{◌≡◌, ◌≢◌, ℕ, Bool, List, Option, Some, drop}
use Rattle.t1s_script.specs.Reading.{script_of}
use Rattle.t1s_cli.specs.Answers.{answer_of, status_of, text_of}
use Rattle.t1s_cli.specs.Faults.{HasFaultCause}
use Rattle.t1s_cli.specs.TextOutcome.{TextOutcome}
use Rattle.t1s_cli.specs.declared.commands.ScriptTask.{ScriptTask}
use Rattle.t1s_cli.specs.declared.status.Status.{Status}
use Rattle.t1s_cli.specs.declared.status.Status.TheVariants.{ReadFault, Memory}

-- It read octets, where `left` tells what the source has left, and wrote what the task gives for them. They are read as
-- all octets are that the source had left: those after the octet 1,048,577 stay there. A failed read ends the call
-- before anything is written, and so does being out of memory.
pub record ScriptCall {S K : Type 0} (left : S → Option (List ℕ)) (read_faults : S → ℕ) (written : K → Option (List ℕ)) (write_faults : K → ℕ) (finished : K → Bool) (task : ScriptTask) (source source' : S) (sink sink' : K) (status : Status) : Type 0 where
  pub octets : List ℕ
  pub cause : HasFaultCause (read_faults source) (read_faults source') ReadFault status
  pub unwritten : status ≡ ReadFault → sink' ≡ sink
  pub outcome : status ≢ ReadFault → TextOutcome written write_faults finished (status_of (answer_of task octets)) (text_of (answer_of task octets)) sink sink' status
  pub all : (whole : List ℕ) → status ≢ ReadFault → status ≢ Memory → left source ≡ Some whole → (script_of octets ≡ script_of whole) × (left source' ≡ Some (drop 1048577 whole))
