use Rattle.std.proofs.Common.{◌≡◌, sym, ap, ◌∙◌, map, arith}
use Rattle.t1s_report.specs.JsonSummary.{offer_value}
use Rattle.t1s_report.specs.SummaryLines.{waits_below}
use Rattle.t1s_report.proofs.Ascending.{keyed_below}
use Rattle.t1s_report.proofs.JsonValues.{no_value, value_found, value_missed}
use Rattle.t1s_report.proofs.OfferWaits.{number_of, waits_ascend, waits_all_below, found_wait, missed_wait}
use Rattle.t1s_report.proofs.json_summary.offer_values.Goals as goal
use Rattle.t1s_report.proofs.json_summary.offer_values.Goals.{in-Some+in_ok-wait_value+in_ok-push, in_default}

pub loop-number-init : goal.loop-number-init
loop-number-init c s t stands = rw c.new-offers.ensures.items (no_value number_of offer_value (waits_below s t) 1 (waits_ascend s t stands.valid) 1 (omega arith))

pub loop-number-preserved : goal.loop-number-preserved
loop-number-preserved c = elim c.match-wait.branch [
  | in-Some+in_ok-wait_value+in_ok-push w ↦ λ s t stands.
      rw (w.offers-is, w.in_ok-push.ensures.items)
      (value_found number_of offer_value (waits_below s t) 1 (waits_ascend s t stands.valid) c.loop-number.number (c.loop-number.number, w.in-Some.wait) c.loop-number.offers.items w.in_ok-wait_value.field-0
      (found_wait s t c.loop-number.number w.in-Some.wait (sym (c.wait.ensures s t stands) ∙ w.in-Some.is)) w.in_ok-wait_value.ensures (c.loop-number.invariant s t stands))
  | in_default w ↦ λ s t stands.
      rw w.offers-is
      (value_missed number_of offer_value (waits_below s t) 1 (waits_ascend s t stands.valid) c.loop-number.number c.loop-number.offers.items
      (missed_wait s t c.loop-number.number (sym (c.wait.ensures s t stands) ∙ w.in_default.is)) (c.loop-number.invariant s t stands))
]

pub returns : goal.returns
returns c s t stands =
    let last : c.loop-number.number ≡ 4097 = omega arith in
    let all : keyed_below number_of c.loop-number.number (waits_below s t) ≡ waits_below s t = rw last (waits_all_below s t stands.valid) in
    c.loop-number.invariant s t stands ∙ ap (map offer_value) all
