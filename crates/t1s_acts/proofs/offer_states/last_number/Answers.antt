use Rattle.std.proofs.Common.{◌≡◌, ◌≤◌, length, arith}
use Rattle.std.specs.Option.{unwrap_or}
use Rattle.std.proofs.lemmas.List.{take_all}
use Rattle.t1s_script.specs.Script.{offer_number}
use Rattle.t1s_acts.proofs.ActNumbers.{some_or_zero, within_more}
use Rattle.t1s_acts.proofs.offer_states.last_number.Goals as goal

pub loop-act-preserved : goal.loop-act-preserved
loop-act-preserved c =
    let act = c.act-item.result in
    let e : c.unwrap_or.result ≡ unwrap_or (offer_number act) 0 = rw c.offer_number.ensures at c.unwrap_or.ensures in
    let here = some_or_zero (offer_number act) c.max-last.result (omega (arith, e, c.max-last.ensures)) in
    within_more c.args.acts.now c.loop-act.act-index c.loop-act.last c.max-last.result act (omega arith) c.act-item.is (omega (arith, c.max-last.ensures)) c.loop-act.invariant here

pub returns : goal.returns
returns c =
    let all : length c.args.acts.now ≤ c.loop-act.act-index = omega arith in
    rw (take_all c.loop-act.act-index c.args.acts.now all) at c.loop-act.invariant
