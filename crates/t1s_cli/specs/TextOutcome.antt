-- How the writing of a text ends.
use Rattle.std.specs.Prelude.{◌≡◌, ◌⊎◌, ℕ, Bool, true, List, Option}
use Rattle.t1s_base.specs.Octets.{Grows, GrowsByPrefix}
use Rattle.t1s_cli.specs.Faults.{HasFaultCause}
use Rattle.t1s_cli.specs.declared.status.Status.{Status}
use Rattle.t1s_cli.specs.declared.status.Status.TheVariants.{WriteFault, Memory}

-- A text was written and the sink finished, which `whole` answers; or the sink failed, and a prefix of the text stands
-- written; or it was out of memory before the first octet.
pub record TextOutcome {K : Type 0} (written : K → Option (List ℕ)) (faults : K → ℕ) (finished : K → Bool) (whole : Status) (text : List ℕ) (before after : K) (status : Status) : Type 0 where
  pub answer : (status ≡ whole) ⊎ ((status ≡ WriteFault) ⊎ (status ≡ Memory))
  pub whole_text : status ≡ whole → Grows (written before) (written after) text
  pub end : status ≡ whole → finished after ≡ true
  pub prefix : status ≡ WriteFault → GrowsByPrefix (written before) (written after) text
  pub cause : HasFaultCause (faults before) (faults after) WriteFault status
  pub silent : status ≡ Memory → after ≡ before
