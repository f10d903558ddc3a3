-- The count of faults of an object, and the answer that tells of them.
use Rattle.std.specs.Prelude.{◌≡◌, ◌≢◌, ℕ, ◌≤◌}
use Rattle.t1s_base.specs.Causes.{FaultCountRose}
use Rattle.t1s_cli.specs.declared.status.Status.{Status}

-- What a call does to the count of faults of an object that it uses, where it answers `status`: the count never falls,
-- the answer `fault` comes only where it rose, and every other answer leaves it as it was.
pub record HasFaultCause (before after : ℕ) (fault status : Status) : Type 0 where
  pub later : before ≤ after
  pub rose : status ≡ fault → FaultCountRose before after
  pub kept : status ≢ fault → after ≡ before
