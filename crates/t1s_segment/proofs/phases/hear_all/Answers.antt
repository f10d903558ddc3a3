use Rattle.std.proofs.Common.{ℕ, take, arith, get_or, length, ◌<◌, ◌≤◌, ◌∙◌, Bool, false}
use Rattle.std.proofs.lemmas.List.{get_or_default, take_all, drop_all, append-nil}
use Rattle.t1s_symbols.specs.declared.Heard.{Heard}
use Rattle.t1s_symbols.specs.declared.Heard.TheVariants.{Nothing}
use Rattle.t1s_world.specs.Hearing.{heard}
use Rattle.t1s_world.specs.World.{at_depth, hear_outcomes}
use Rattle.t1s_world.proofs.WorldLemmas.{after_hear_more, length-hear_outcomes}
use Rattle.t1s_line.specs.declared.totals.NodeTotals.{NodeTotals}
use Rattle.t1s_world.proofs.EventLemmas.{SeesEvents-append}
use Rattle.t1s_line.specs.Totals.{after_hearing, no_totals}
use Rattle.t1s_line.specs.Runs.{hear_events_of}
use Rattle.t1s_segment.specs.State.{two_phases, under_noise}
use Rattle.t1s_segment.proofs.PhaseSteps.{each_more, heard_more, kept_last, all_heard, heard_set}
use Rattle.t1s_segment.proofs.phases.hear_all.Goals as goal

pub loop-j-preserved : goal.loop-j-preserved
loop-j-preserved g c =
    let m = two_phases g.N.NodeMachine.phases in
    let t = c.args.tick in
    let xs = c.args.nodes.now in
    let j = c.loop-j.j in
    let x = c.index-nodes-j.result in
    let lt : j < length xs = omega arith in
    let is = c.index-nodes-j.is in
    let before = c.loop-j.invariant in
    let hears = c.hear-report.ensures in
    let ms = c.loop-j.totals in
    let n : NodeTotals = get_or ms j (no_totals 0) in
    let at = get_or_default ms j (no_totals 0) n (omega arith) in
    let ls = c.loop-j.last in
    let silence : Heard × Bool = (Nothing, false) in
    let l : Heard × Bool = get_or ls j silence in
    let kept = get_or_default ls j silence l (omega arith) in
    record {
      nodes = λ rows stands.
          let h : ℕ → Heard = λ k. under_noise c.args.noisy (heard (at_depth rows) c.args.cable.now.taps k) in
          rw (hears.node, ← is, c.arriving-heard.ensures.value rows stands)
          (after_hear_more m t h xs c.loop-j.nodes j x lt (before.nodes rows stands) is);
      totals = λ rows stands.
          let h : ℕ → Heard = λ k. under_noise c.args.noisy (heard (at_depth rows) c.args.cable.now.taps k) in
          let arrival = rw (← is, c.arriving-heard.ensures.value rows stands) at hears.arrival in
          let clash = rw (← is, c.arriving-heard.ensures.value rows stands) at hears.clash in
          rw (c.after_hearing.ensures (m.hear t (h j) x).1 arrival clash)
          (each_more m t xs c.loop-j.nodes j x lt h (before.nodes rows stands) is after_hearing c.args.totals.now ms n (omega arith) (before.totals rows stands) at);
      last = λ rows stands.
          let h : ℕ → Heard = λ k. under_noise c.args.noisy (heard (at_depth rows) c.args.cable.now.taps k) in
          rw (hears.heard, hears.drove, ← is, c.arriving-heard.ensures.value rows stands)
          (each_more m t xs c.loop-j.nodes j x lt h (before.nodes rows stands) is kept_last c.args.last.now ls l (omega arith) (before.last rows stands) kept);
      events = λ rows stands.
          let h : ℕ → Heard = λ k. under_noise c.args.noisy (heard (at_depth rows) c.args.cable.now.taps k) in
          let told = rw (← is, c.arriving-heard.ensures.value rows stands) at hears.events in
          rw (heard_more m t xs c.loop-j.nodes j x lt h (before.nodes rows stands) is)
          (SeesEvents-append g.W.Watch.sees c.args.watch.now c.loop-j.watch c.hear-report.new.watch (hear_events_of (hear_outcomes m t h 0 (take j xs))) (m.hear t (h j) x).1.events (before.events rows stands) told);
      in_range = heard_set ls j (c.hear-report.result.heard, c.hear-report.result.drove) hears.range before.in_range;
    }

pub returns-clause-last : goal.returns-clause-last
returns-clause-last g c rows stands =
    let m = two_phases g.N.NodeMachine.phases in
    let h : ℕ → Heard = λ k. under_noise c.args.noisy (heard (at_depth rows) c.args.cable.now.taps k) in
    let xs = c.args.nodes.now in
    let ticks = c.args.last.now in
    let ds = hear_outcomes m c.args.tick h 0 xs in
    let all : length xs ≤ c.loop-j.j = omega arith in
    let whole : length ticks ≤ c.loop-j.j = omega arith in
    rw (take_all c.loop-j.j xs all, take_all c.loop-j.j ticks whole, drop_all c.loop-j.j ticks whole, append-nil) at (c.loop-j.invariant.last rows stands)
    ∙ all_heard ticks ds (omega (arith, length-hear_outcomes m c.args.tick h 0 xs))
