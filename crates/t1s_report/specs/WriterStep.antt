-- What a writer does with text.
use Rattle.std.specs.Prelude.{◌≡◌, ℕ, ◌<◌, ◌≤◌, Bool, true, false, List, length, Option}
use Rattle.t1s_base.specs.Causes.{FaultCountRose}
use Rattle.t1s_base.specs.Octets.{Grows, GrowsByPrefix}
use Rattle.t1s_report.specs.declared.writer.Writer.{Writer}

-- A writer has been given a text, where `written` tells what its sink holds, `faults` counts the sink's faults and
-- `finished` tells whether the sink is finished. A writer that goes on has written all of it. One that stops in it has
-- written a prefix of it, at a fault of the sink. One that had stopped before leaves its sink alone. It finishes no
-- sink, and one to which it has written something is not finished.
pub record WriterStep {K : Type 0} (written : K → Option (List ℕ)) (faults : K → ℕ) (finished : K → Bool) (before : Writer K) (text : List ℕ) (after : Writer K) : Type 0 where
  pub same_reference : after.sink.ghost_name ≡ before.sink.ghost_name
  pub later : faults before.sink.now ≤ faults after.sink.now
  pub idle : before.stopped ≡ true → (after.stopped ≡ true) × (after.sink.now ≡ before.sink.now)
  pub whole : before.stopped ≡ false → after.stopped ≡ false → Grows (written before.sink.now) (written after.sink.now) text × (faults after.sink.now ≡ faults before.sink.now)
  pub prefix : before.stopped ≡ false → after.stopped ≡ true → GrowsByPrefix (written before.sink.now) (written after.sink.now) text × FaultCountRose (faults before.sink.now) (faults after.sink.now)
  pub still_unfinished : finished before.sink.now ≡ false → finished after.sink.now ≡ false
  pub unfinished : before.stopped ≡ false → after.stopped ≡ false → 0 < length text → finished after.sink.now ≡ false
