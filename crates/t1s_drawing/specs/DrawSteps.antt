-- What a step of the drawing does.
use Rattle.std.specs.Prelude.{◌≡◌, ◌⊎◌, ℕ, ◌-◌, ◌*◌, Bool, true, List, length, Option}
use Rattle.t1s_base.specs.Octets.{Grows, GrowsByPrefix}
use Rattle.t1s_drawing.specs.Calls.{HasFaultCause}
use Rattle.t1s_drawing.specs.declared.drawing.Drawing.{Drawing}
use Rattle.t1s_drawing.specs.declared.status.Status.{Status}
use Rattle.t1s_drawing.specs.declared.status.Status.TheVariants.{WriteFault}

-- how many octets more are taken at most: a line has 4096 and its line feed, and there are 2^30 lines
abbrev pub octets_left : Drawing → ℕ
octets_left d = 4097 * (1073741826 - d.number) - length d.line

-- A text was written and the sink finished, which `whole` answers; or the sink failed, and a prefix of the text stands
-- written.
pub record TextOutcome {K : Type 0} (written : K → Option (List ℕ)) (faults : K → ℕ) (finished : K → Bool) (whole : Status) (text : List ℕ) (before after : K) (status : Status) : Type 0 where
  pub answer : (status ≡ whole) ⊎ (status ≡ WriteFault)
  pub whole_text : status ≡ whole → Grows (written before) (written after) text
  pub end : status ≡ whole → finished after ≡ true
  pub prefix : status ≡ WriteFault → GrowsByPrefix (written before) (written after) text
  pub cause : HasFaultCause (faults before) (faults after) WriteFault status
