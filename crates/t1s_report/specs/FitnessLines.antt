-- The line that tells whether a script is fit. Numbers are plain decimal.
use Rattle.std.specs.Prelude.{ℕ, List, [], ◌∷◌, Option, None, Some, codes, decimal}
use Rattle.t1s_script.specs.declared.fitness.Unfit.{Unfit}
use Rattle.t1s_script.specs.declared.script.Script.{Script}
use Rattle.t1s_script.specs.Fit.{start_bound, unmet}
use Rattle.t1s_script.specs.Taps.{span_of}
use Rattle.t1s_report.specs.Lines.{line}

-- the line of a script that is fit: the span and the bound of a start
abbrev pub fit_line : Script → List ℕ
fit_line s = line (codes "fit" ∷ decimal (span_of s) ∷ decimal (start_bound s) ∷ [])

-- the line of a premise that isn't met, and its two values
abbrev pub unfit_line : Unfit → List ℕ
unfit_line u = line (codes "unfit" ∷ decimal u.premise ∷ decimal u.left ∷ decimal u.right ∷ [])

-- the line of this premise that isn't met, or of the script where all are
abbrev pub fitness_line : Script → Option Unfit → List ℕ
fitness_line s (Some u) = unfit_line u
fitness_line s None = fit_line s

-- the line that tells whether a script is fit
abbrev pub check_line : Script → List ℕ
check_line s = fitness_line s (unmet s)
