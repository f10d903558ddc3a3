use Rattle.std.proofs.Common.{length, arith, ◌≤◌}
use Rattle.std.proofs.lemmas.List.{take_all}
use Rattle.t1s_harness.specs.Distances.{tap_at}
use Rattle.t1s_world.specs.Hearing.{heard}
use Rattle.t1s_world.proofs.HearingLemmas.{heard_of-take_more}
use Rattle.t1s_cable.specs.Rings.{put_at}
use Rattle.t1s_cable.proofs.kept.hear_at.Goals as goal

pub loop-i-preserved : goal.loop-i-preserved
loop-i-preserved c =
    let taps = c.args.taps.now in
    let at = put_at c.args.row.now c.args.rings.now c.args.clock in
    rw (heard_of-take_more at c.args.j (tap_at taps c.args.j) taps c.loop-i.i (omega arith), ← c.loop-i.invariant, ← c.arriving.ensures)
    c.heard_with-heard.ensures

pub returns : goal.returns
unfolding heard
returns c =
    let all : length c.args.taps.now ≤ c.loop-i.i = omega arith in
    rw take_all at c.loop-i.invariant
