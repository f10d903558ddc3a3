use Rattle.std.proofs.Common.{◌≡◌, [], ap, ◌∙◌, arith}
use Rattle.t1s_capture.specs.declared.row.RowSoFar.{RowSoFar}
use Rattle.t1s_capture.specs.WriterTable.{Step, WriterState, row_from, quiet_ticks}
use Rattle.t1s_capture.proofs.QuietRows.{writer_stands_on}
use Rattle.t1s_capture.proofs.writer.CaptureWriter.quiet.Goals as goal

pub invariant_of-self : goal.invariant_of-self
invariant_of-self c =
    let same = ap (λ (w : WriterState). w.ticks) c.self.view_is in
    record {
      few = omega (arith, same, c.requires.fewer);
      row_fits = c.hears_silence-row.ensures.fits c.self.inside.ticks (rw c.replace-row.ensures.value c.self.invariant.row_fits);
    }

pub returns-clause-stands : goal.returns-clause-stands
returns-clause-stands c ticks given w =
    let kept = ap (λ (s : WriterState). s.row) c.self.view_is in
    let taken = c.replace-row.ensures.value in
    let row : c.replace-row.result ≡ c.args.self.now.row = cc in
    let step : c.hears_silence-row.result ≡ row_from (c.args.self.now.row, []) (quiet_ticks c.args.n) =
    c.hears_silence-row.ensures.step ∙ ap (λ (r : RowSoFar). row_from (r, []) (quiet_ticks c.args.n)) row in
    rw (ap (λ (s : Step). s.1) step) (writer_stands_on (quiet_ticks c.args.n) ticks given c.args.self.now _ (ap (λ (s : Step). s.0) step) w)
