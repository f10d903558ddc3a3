use Rattle.std.proofs.Common.{◌<◌, arith, inl, inr}
use Rattle.std.proofs.lemmas.Bool.{cases_lt}
use Rattle.t1s_cable.specs.Rings.{put_at}
use Rattle.t1s_cable.proofs.CalmTicks.{calm_of, heard_in_of, all_past}
use Rattle.t1s_cable.proofs.cable.Cable.calm_for.Goals as goal

pub returns-then-calm-limit-clause-calm : goal.returns-then-calm-limit-clause-calm
returns-then-calm-limit-clause-calm c rows stands n high =
    let before = rw (← c.self.view_is) at stands in
    let all = rw (c.as_slice.ensures.value, c.as_slice-2.ensures.value, c.as_slice-3.ensures.value) at c.calm_ticks-calm.ensures.calm in
    let few : n < c.calm_ticks-calm.result = omega (arith, high, c.from-then-calm-limit.ensures) in
    rw (← c.self.view_is) (calm_of _ c.self.invariant.rings_len rows before n (all n few))

pub returns-then-calm-limit-clause-greatest : goal.returns-then-calm-limit-clause-greatest
returns-then-calm-limit-clause-greatest c rows stands below =
    let before = rw (← c.self.view_is) at stands in
    let hears = rw (c.as_slice.ensures.value, c.as_slice-2.ensures.value, c.as_slice-3.ensures.value) at (c.calm_ticks-calm.ensures.heard c.if-calm-limit.true) in
    rw (← c.self.view_is, c.from-then-calm-limit.ensures) (heard_in_of _ c.self.invariant.rings_len rows before _ hears)

pub returns-else-calm-limit-clause-calm : goal.returns-else-calm-limit-clause-calm
returns-else-calm-limit-clause-calm c rows stands n high =
    let inside = c.self.inside in
    let before = rw (← c.self.view_is) at stands in
    let all = rw (c.as_slice.ensures.value, c.as_slice-2.ensures.value, c.as_slice-3.ensures.value) at c.calm_ticks-calm.ensures.calm in
    rw (← c.self.view_is)
    (calm_of _ c.self.invariant.rings_len rows before n
    (elim (cases_lt n inside.busy) [
      | inl few ↦ all n (omega (arith, few, high, c.if-calm-limit.false, c.min-limit.ensures, c.from.ensures))
      | inr past ↦ all_past inside.taps.items (put_at inside.row.items inside.rings.items inside.clock) inside.busy c.self.invariant.quiet n (omega (arith, past))
    ]))
