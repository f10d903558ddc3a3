-- The shared line: what holds of the drives in the first ticks of a fit script's run.
use Rattle.std.specs.Prelude.{ℕ, List}
use Rattle.t1s_harness.specs.Distances.{Point}
use Rattle.t1s_world.specs.Schedule.{Drive, EachDrive, NoOverlap}
use Rattle.t1s_script.specs.Fit.{IsFit}
use Rattle.t1s_script.specs.Script.{IsScript}
use Rattle.t1s_script.specs.declared.script.Script.{Script}
use Rattle.t1s_script.specs.Taps.{taps_of}
use Rattle.t1s_schedule.specs.SharedLine.{far_in, IsCoordinator, IsSchedule}
use Rattle.t1s_schedule.specs.DriveContents.{Holds}

-- The drives of the first T ticks are a schedule, each holds a beacon, or a run of pieces that carry the frames of offers, and no
-- two of them overlap at a point of the cable: the points are the whole ones of the trunk and of every stub.
pub record SharesLine (s : Script) (T : ℕ) : Type 0 where
  pub coordinator : ℕ
  pub has_zero : IsCoordinator s coordinator
  pub drives : List Drive
  pub schedule : IsSchedule s coordinator T drives
  pub holds : EachDrive (Holds s T) drives
  pub apart : (p : Point (taps_of s)) → NoOverlap (far_in s) p drives

-- it is so on a fit script, for however many ticks
abbrev pub SharesTheLine : Type 0
SharesTheLine = (s : Script) (T : ℕ) → IsScript s → IsFit s → SharesLine s T
