-- The count of faults of an object, the answer that tells of them, and what was written.
use Rattle.std.specs.Prelude.{◌≡◌, ◌≢◌, ℕ, ◌≤◌, List, Option, Result, OnOk, OnErr}
use Rattle.t1s_base.specs.Causes.{FaultCountRose, HasCause}
use Rattle.t1s_base.specs.Octets.{Grows, GrowsByPrefix}
use Rattle.t1s_drawing.specs.declared.status.Status.{Status}
use Rattle.t1s_drawing.specs.declared.status.Status.TheVariants.{Done, Refused, Usage, ReadFault, WriteFault}

-- the exit status of the program
abbrev pub exit_code_of : Status → ℕ
exit_code_of Done = 0
exit_code_of Refused = 1
exit_code_of Usage = 2
exit_code_of ReadFault = 3
exit_code_of WriteFault = 4

-- What a call does to the count of faults of an object that it uses, where it answers `status`: the count never falls,
-- the answer `fault` comes only where it rose, and every other answer leaves it as it was.
pub record HasFaultCause (before after : ℕ) (fault status : Status) : Type 0 where
  pub later : before ≤ after
  pub rose : status ≡ fault → FaultCountRose before after
  pub kept : status ≢ fault → after ≡ before

-- A text was written to a sink, where `written` tells what it holds and `faults` counts its faults; or the sink failed, and
-- a prefix of the text stands written.
pub record Wrote {K T E : Type 0} (written : K → Option (List ℕ)) (faults : K → ℕ) (text : List ℕ) (before after : K) (result : Result T E) : Type 0 where
  pub whole : OnOk result (Grows (written before) (written after) text)
  pub prefix : OnErr result (GrowsByPrefix (written before) (written after) text)
  pub cause : HasCause (faults before) (faults after) result
