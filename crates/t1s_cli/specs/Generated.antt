-- The scripts that are made from three numbers, and what is written of them.
use Rattle.std.specs.Prelude.{◌≡◌, ◌≢◌, ℕ, ◌≤◌, Bool, List, Option, Ok}
use Rattle.t1s_generator.specs.Generated.{generated}
use Rattle.t1s_script.specs.Reading.{script_of}
use Rattle.t1s_script.specs.declared.script.Script.{Script}
use Rattle.t1s_report.specs.Report.{summary}
use Rattle.t1s_cli.specs.TextOutcome.{TextOutcome}
use Rattle.t1s_cli.specs.declared.commands.ScriptNumbers.{ScriptNumbers}
use Rattle.t1s_cli.specs.declared.commands.GeneratedTask.{GeneratedTask}
use Rattle.t1s_cli.specs.declared.commands.GeneratedTask.TheVariants.{Gen, Load}
use Rattle.t1s_cli.specs.declared.status.Status.{Status}
use Rattle.t1s_cli.specs.declared.status.Status.TheVariants.{Done, Memory}

-- the numbers of a task
abbrev pub numbers_of : GeneratedTask → ScriptNumbers
numbers_of (Gen n) = n
numbers_of (Load n) = n

-- the most nodes of a script that is made, fewer than a segment may have
abbrev pub most_nodes_made : ℕ
most_nodes_made = 16

-- the ranges of the numbers: a seed, nodes and frames
pub record AreInRange (n : ScriptNumbers) : Type 0 where
  pub seed : n.seed ≤ 4294967295
  pub some : 1 ≤ n.nodes
  pub nodes : n.nodes ≤ most_nodes_made
  pub frames : n.frames ≤ 400

-- the text of the script that they make
abbrev pub script_text : ScriptNumbers → List ℕ
script_text n = generated n.seed n.nodes n.frames

-- the text of a task: the script, or the summary of the run of the script that it is read to
abbrev pub IsGeneratedText : GeneratedTask → List ℕ → Type 0
IsGeneratedText (Gen n) text = text ≡ script_text n
IsGeneratedText (Load n) text = (s : Script) × (script_of (script_text n) ≡ Ok s) × (text ≡ summary s)

-- What a call with such a task has done: it wrote its text. One that writes the script takes no memory.
pub record GeneratedCall {K : Type 0} (written : K → Option (List ℕ)) (faults : K → ℕ) (finished : K → Bool) (task : GeneratedTask) (sink sink' : K) (status : Status) : Type 0 where
  pub text : List ℕ
  pub is : IsGeneratedText task text
  pub outcome : TextOutcome written faults finished Done text sink sink' status
  pub takes_none : (n : ScriptNumbers) → task ≡ Gen n → status ≢ Memory
