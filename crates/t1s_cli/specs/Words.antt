-- The words of the command line that the program takes: a row for each task.
use Rattle.std.specs.Prelude.{◌≡◌, ◌⊎◌, ℕ, ◌≤◌, List, [], ◌∷◌, map, codes, decimal}
use Rattle.std.specs.String.{string_bytes}
use Rattle.std.specs.declared.string.String.{String}
use Rattle.std.proofs.Common.{Global}
use Rattle.t1s_base.specs.Limits.{last_node}
use Rattle.t1s_cli.specs.declared.commands.ScriptTask.{ScriptTask}
use Rattle.t1s_cli.specs.declared.commands.ScriptTask.TheVariants.{Run, Check, Json, Capture, Pcap}
use Rattle.t1s_cli.specs.Generated.{AreInRange}
use Rattle.t1s_cli.specs.declared.commands.CaptureTask.{CaptureTask}
use Rattle.t1s_cli.specs.declared.commands.CaptureTask.TheVariants.{Decode}
use Rattle.t1s_cli.specs.declared.commands.GeneratedTask.{GeneratedTask}
use Rattle.t1s_cli.specs.declared.commands.GeneratedTask.TheVariants.{Gen, Load}
use Rattle.t1s_cli.specs.declared.commands.ScriptNumbers.{ScriptNumbers}

-- the words ask for this task with a script; the number of a node is 0 to `last_node`
abbrev pub AreTask : List (String Global) → ScriptTask → Type 0
AreTask words Run = map string_bytes words ≡ codes "run" ∷ []
AreTask words Check = map string_bytes words ≡ codes "check" ∷ []
AreTask words Json = map string_bytes words ≡ codes "json" ∷ []
AreTask words (Capture node) = (node ≤ last_node) × (map string_bytes words ≡ codes "capture" ∷ decimal node ∷ [])
AreTask words (Pcap node) = (node ≤ last_node) × (map string_bytes words ≡ codes "pcap" ∷ decimal node ∷ [])

-- the words ask for this task with a capture
abbrev pub AreCaptureTask : List (String Global) → CaptureTask → Type 0
AreCaptureTask words Decode = map string_bytes words ≡ codes "decode" ∷ []

-- a word and three numbers in range
abbrev pub AreNumbered : List (String Global) → List ℕ → ScriptNumbers → Type 0
AreNumbered words word n = AreInRange n × (map string_bytes words ≡ word ∷ decimal n.seed ∷ decimal n.nodes ∷ decimal n.frames ∷ [])

-- the words ask for this task with a script that is made from numbers
abbrev pub AreGeneratedTask : List (String Global) → GeneratedTask → Type 0
AreGeneratedTask words (Gen n) = AreNumbered words (codes "gen") n
AreGeneratedTask words (Load n) = AreNumbered words (codes "load") n

-- the words ask for a task that reads an input
abbrev pub ReadsInput : List (String Global) → Type 0
ReadsInput words = ((task : ScriptTask) × AreTask words task) ⊎ ((task : CaptureTask) × AreCaptureTask words task)

-- the words are a row of the table
abbrev pub AreCommand : List (String Global) → Type 0
AreCommand words = ReadsInput words ⊎ ((task : GeneratedTask) × AreGeneratedTask words task)
