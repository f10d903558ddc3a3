use Rattle.std.proofs.Common.{◌≡◌, ◌≤◌, ◌<◌, ℕ, length}
use Rattle.t1s_script.specs.declared.script.Script.{Script}
use Rattle.t1s_segment.specs.Stands.{Stands}
use Rattle.t1s_report.specs.SummaryLines.{waits_below}
use Rattle.t1s_report.proofs.Ascending.{keyed_below}
use Rattle.t1s_report.proofs.OfferWaits.{number_of}
use Rattle.t1s_report.proofs.summary_lines.wait_at.Given as goal

abbrev pub invariant-loop-number : goal.invariant-loop-number
invariant-loop-number l = record {
  counted : (s : Script) (t : ℕ) → Stands s t l.seg → l.offers ≡ length (keyed_below number_of l.number (waits_below s t));
  few : l.offers < l.number;
  before : l.offers ≤ l.k;
}
