use Rattle.std.proofs.Common.{◌≤◌, ◌+◌, ap, arith}
use Rattle.t1s_base.specs.Limits.{most_ticks}
use Rattle.t1s_capture.specs.WriterTable.{WriterState}
use Rattle.t1s_capture.proofs.writer.CaptureWriter.go_on.Goals as goal
use Rattle.t1s_capture.proofs.writer.CaptureWriter.go_on.Goals.{in-Nothing, in-One, in_default}

pub invariant_of-self : goal.invariant_of-self
invariant_of-self c =
    let same = ap (λ (w : WriterState). w.ticks) c.self.view_is in
    let few : c.self.inside.ticks + 1 ≤ most_ticks = omega (arith, same, c.requires.fewer) in
    elim c.match-h.branch [
      | in-Nothing w ↦ record { few = few; row_fits = rw w.row-is (w.hears_silence.ensures.fits c.self.inside.ticks (rw c.replace-row.ensures.value c.self.invariant.row_fits)) }
      | in-One w ↦ record { few = few; row_fits = rw w.row-is (w.hears_sound.ensures.fits c.self.inside.ticks (rw c.replace-row.ensures.value c.self.invariant.row_fits)) }
      | in_default w ↦ record { few = few; row_fits = rw w.row-is (w.hears_sound-in_default.ensures.fits c.self.inside.ticks (rw c.replace-row.ensures.value c.self.invariant.row_fits)) }
    ]
