-- What is promised of the text.
use Rattle.std.specs.Prelude.{ℕ, ◌≡◌, ◌≤◌, Ok}
use Rattle.t1s_script.specs.Reading.{script_of}
use Rattle.t1s_script.specs.Fit.{IsFit}
use Rattle.t1s_script.specs.declared.script.Script.{Script}
use Rattle.t1s_generator.specs.Generated.{generated}

-- for all numbers in range, the text is read as a script, and this script is fit
abbrev pub GeneratedScriptsAreFit : Type 0
GeneratedScriptsAreFit = (seed nodes frames : ℕ) → seed ≤ 4294967295 → 1 ≤ nodes → nodes ≤ 16 → frames ≤ 400
    → (s : Script) × (script_of (generated seed nodes frames) ≡ Ok s) × IsFit s
