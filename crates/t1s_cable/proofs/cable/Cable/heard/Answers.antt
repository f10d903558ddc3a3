use Rattle.std.proofs.Common.{sym, ◌∙◌}
use Rattle.t1s_harness.specs.Distances.{span}
use Rattle.t1s_world.proofs.HearingLemmas.{heard_in_range}
use Rattle.t1s_cable.specs.Rings.{put_at}
use Rattle.t1s_cable.proofs.Histories.{heard_is, put_in_range}
use Rattle.t1s_cable.proofs.Silence.{heard_silent}
use Rattle.t1s_cable.proofs.cable.Cable.heard.Goals as goal

pub returns-then-self-eq0-clause-value : goal.returns-then-self-eq0-clause-value
returns-then-self-eq0-clause-value c rows stands =
    let inside = c.self.inside in
    let before = rw (← c.self.view_is) at stands in
    let there = rw (← c.self.view_is) at c.requires in
    let quiet = rw c.if-self-eq0.true at c.self.invariant.quiet in
    let silent = heard_silent inside.taps.items inside.row.items inside.rings.items inside.clock quiet c.args.node there in
    rw (← c.self.view_is) (sym silent ∙ heard_is _ c.self.invariant.rings_len rows before c.args.node there)

pub returns-clause-value : goal.returns-clause-value
returns-clause-value c rows stands =
    let before = rw (← c.self.view_is) at stands in
    let there = rw (← c.self.view_is) at c.requires in
    let hears = rw (c.as_slice.ensures.value, c.as_slice-2.ensures.value, c.as_slice-3.ensures.value, c.from.ensures) at c.hear_at.ensures in
    rw (← c.self.view_is) (hears ∙ heard_is _ c.self.invariant.rings_len rows before c.args.node there)

pub returns-clause-range : goal.returns-clause-range
returns-clause-range c =
    let inside = c.self.inside in
    let hears = rw (c.as_slice.ensures.value, c.as_slice-2.ensures.value, c.as_slice-3.ensures.value, c.from.ensures) at c.hear_at.ensures in
    rw hears
    (heard_in_range (put_at inside.row.items inside.rings.items inside.clock)
    (put_in_range (span inside.taps.items) inside.clock inside.row.items inside.rings.items c.self.invariant.quarters c.self.invariant.rings) c.args.node inside.taps.items)

pub hear_at-requires-clause-quiet : goal.hear_at-requires-clause-quiet
hear_at-requires-clause-quiet c =
    rw (c.as_slice.ensures.value, c.as_slice-2.ensures.value, c.as_slice-3.ensures.value, c.as_slice-4.ensures.value) c.self.invariant.quiet_nodes
