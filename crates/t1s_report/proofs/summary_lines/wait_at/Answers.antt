use Rattle.std.proofs.Common.{◌≡◌, ◌≤◌, length, sym, ap, ◌∙◌, arith}
use Rattle.std.proofs.lemmas.Option.{slice_get_past}
use Rattle.t1s_report.specs.SummaryLines.{waits_below}
use Rattle.t1s_report.proofs.Ascending.{keyed_below, none_below, found_after, count_found, count_missed}
use Rattle.t1s_report.proofs.OfferWaits.{number_of, waits_ascend, waits_all_below, found_wait, missed_wait}
use Rattle.t1s_report.proofs.summary_lines.wait_at.Goals as goal
use Rattle.t1s_report.proofs.summary_lines.wait_at.Goals.{in-Some+else-offers-k, in_default}

pub loop-number-init : goal.loop-number-init
loop-number-init c = record {
  counted = λ s t stands. sym (ap length (none_below number_of 1 1 (waits_below s t) (waits_ascend s t stands.valid) (omega arith)));
  few = omega arith;
  before = omega arith;
}

pub loop-number-preserved : goal.loop-number-preserved
loop-number-preserved c = elim c.match-wait.branch [
  | in-Some+else-offers-k w ↦ record {
    counted = λ s t stands.
        let so_far = c.loop-number.invariant.counted s t stands in
        let more = count_found number_of 1 c.loop-number.number (c.loop-number.number, w.in-Some.wait) (waits_below s t) (waits_ascend s t stands.valid)
        (found_wait s t c.loop-number.number w.in-Some.wait (sym (c.wait.ensures s t stands) ∙ w.in-Some.is)) in
        omega arith;
    few = omega arith;
    before = omega arith;
  }
  | in_default w ↦ record {
    counted = λ s t stands.
        let so_far = c.loop-number.invariant.counted s t stands in
        let same = count_missed number_of 1 c.loop-number.number (waits_below s t) (waits_ascend s t stands.valid) (missed_wait s t c.loop-number.number (sym (c.wait.ensures s t stands) ∙ w.in_default.is)) in
        omega arith;
    few = omega arith;
    before = omega arith;
  }
]

pub returns-then-offers-k-clause-waits : goal.returns-then-offers-k-clause-waits
returns-then-offers-k-clause-waits c s t stands =
    let so_far = c.loop-number.invariant.counted s t stands in
    let here : c.args.k ≡ length (keyed_below number_of c.loop-number.number (waits_below s t)) = omega arith in
    rw here (sym (found_after number_of 1 c.loop-number.number (c.loop-number.number, c.in-Some.wait) (waits_below s t) (waits_ascend s t stands.valid)
    (found_wait s t c.loop-number.number c.in-Some.wait (sym (c.wait.ensures s t stands) ∙ c.in-Some.is))))

pub returns-clause-waits : goal.returns-clause-waits
returns-clause-waits c s t stands =
    let so_far = c.loop-number.invariant.counted s t stands in
    let last : c.loop-number.number ≡ 4097 = omega arith in
    let all : keyed_below number_of c.loop-number.number (waits_below s t) ≡ waits_below s t = rw last (waits_all_below s t stands.valid) in
    let few : length (waits_below s t) ≤ c.args.k = omega (arith, ap length all) in
    sym (slice_get_past (waits_below s t) c.args.k few)
