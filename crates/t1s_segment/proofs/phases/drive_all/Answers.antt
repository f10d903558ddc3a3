use Rattle.std.proofs.Common.{take, drop, length, get_or, ◌++◌, arith, ◌<◌, ◌∙◌, sym}
use Rattle.std.proofs.lemmas.List.{get_or_default}
use Rattle.t1s_world.proofs.EventLemmas.{SeesEvents-append}
use Rattle.t1s_world.specs.World.{drive_outcomes, row_of}
use Rattle.t1s_cable.specs.Stands.{no_puts}
use Rattle.t1s_line.specs.declared.offers.OfferState.TheVariants.{Unknown}
use Rattle.t1s_line.specs.declared.totals.NodeTotals.{NodeTotals}
use Rattle.t1s_line.specs.Runs.{drive_events_of}
use Rattle.t1s_line.specs.Totals.{after_driving, no_totals}
use Rattle.t1s_segment.specs.State.{two_phases}
use Rattle.t1s_segment.proofs.PhaseSteps.{nodes_more, put_more, driven_more, leaves_more, events_more, ok_more, all_put}
use Rattle.t1s_segment.proofs.phases.drive_all.Goals as goal

pub loop-i-preserved : goal.loop-i-preserved
loop-i-preserved g c =
    let m = two_phases g.N.NodeMachine.phases in
    let xs = c.args.nodes.now in
    let ys = c.loop-i.nodes in
    let i = c.loop-i.i in
    let t = c.args.tick in
    let x = c.index-nodes-i.result in
    let lt : i < length xs = omega arith in
    let is = c.index-nodes-i.is in
    let before = c.loop-i.invariant in
    let drives = c.drive-report.ensures in
    let more = put_more m t xs ys i x lt before.nodes is c.args.cable.now.taps c.requires.taps in
    let ms = c.loop-i.totals in
    let n : NodeTotals = get_or ms i (no_totals 0) in
    let at = get_or_default ms i (no_totals 0) n (omega arith) in
    record {
      nodes = rw (drives.node, ← is) (nodes_more m t xs ys i x lt before.nodes is);
      taps = c.put.ensures.taps ∙ before.taps;
      row = rw (c.put.ensures.row, before.row, drives.quarter, ← is) more;
      put = λ past stands.
          let row = row_of m t (take i xs) ++ drop i (no_puts c.args.cable.now.taps) in
          rw (drives.quarter, ← is, more) at (c.put.ensures.stands row past (before.put past stands));
      totals =
          rw (c.after_driving.ensures (m.drive t x).1 (rw (← is) at drives.note))
          (driven_more m t xs ys i x lt before.nodes is after_driving c.args.totals.now ms n (omega arith) before.totals at);
      states = λ k.
          let d = (m.drive t x).1 in
          c.keep_leave.ensures d k (rw (← is) at drives.leaves)
          ∙ rw (before.states k) (sym (leaves_more m t xs ys i x lt before.nodes is k (get_or c.args.states.now k Unknown)));
      events =
          let told = rw (← is) at drives.events in
          rw (events_more m t xs ys i x lt before.nodes is)
          (SeesEvents-append g.W.Watch.sees c.args.watch.now c.loop-i.watch c.drive-report.new.watch (drive_events_of (drive_outcomes m t (take i xs))) (m.drive t x).1.events before.events told);
      ok = rw (c.both-ok.ensures, before.ok, drives.ok, ← is) (sym (ok_more m t xs ys i x lt before.nodes is));
    }

pub returns-clause-put : goal.returns-clause-put
returns-clause-put g c past stands =
    let m = two_phases g.N.NodeMachine.phases in
    let all = all_put m c.args.tick c.args.nodes.now c.args.cable.now.taps c.loop-i.i c.requires.taps (omega arith) in
    rw all at (c.loop-i.invariant.put past stands)
