use Rattle.std.proofs.Common.{ℕ}
use Rattle.t1s_script.specs.declared.script.Script.{Script}
use Rattle.t1s_segment.specs.Stands.{Stands}
use Rattle.t1s_report.specs.JsonSummary.{offer_value}
use Rattle.t1s_report.specs.SummaryLines.{waits_below}
use Rattle.t1s_report.proofs.JsonValues.{ValuesBelow}
use Rattle.t1s_report.proofs.OfferWaits.{number_of}
use Rattle.t1s_report.proofs.json_summary.offer_values.Given as goal

abbrev pub invariant-loop-number : goal.invariant-loop-number
invariant-loop-number l = (s : Script) (t : ℕ) → Stands s t l.seg → ValuesBelow number_of offer_value (waits_below s t) l.number l.offers.items
