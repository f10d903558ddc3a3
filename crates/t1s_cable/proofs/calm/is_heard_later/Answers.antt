use Rattle.std.proofs.Common.{arith, inl, inr, ℕ, get_or}
use Rattle.std.proofs.lemmas.Bool.{cases_eq}
use Rattle.t1s_cable.specs.Rings.{put_at}
use Rattle.t1s_cable.proofs.CalmTicks.{one_hears, none_hears, carried_misses}
use Rattle.t1s_cable.proofs.calm.is_heard_later.Goals as goal
use Rattle.t1s_cable.proofs.calm.is_heard_later.Goals.{else-carried-i-via-then-carried-i+else-reaches_later, else-carried-i-via-else-carried-i}

pub returns-then-reaches_later-clause-yes : goal.returns-then-reaches_later-clause-yes
returns-then-reaches_later-clause-yes c _ =
    let a = c.args in
    let (j, there, is) = c.reaches_later.ensures.yes c.if-reaches_later.true in
    one_hears a.taps.now (put_at a.row.now a.rings.now a.clock) a.ticks j c.loop-i.i there (omega arith) is

pub loop-i-preserved : goal.loop-i-preserved
loop-i-preserved c i below j there =
    let a = c.args in
    let at = put_at a.row.now a.rings.now a.clock in
    elim (cases_eq i c.loop-i.i) [
      | inr other ↦ c.loop-i.invariant i (omega (arith, below, other)) j there
      | inl same ↦ rw same (elim c.else-carried-i.branch [
        | else-carried-i-via-then-carried-i+else-reaches_later w ↦ w.reaches_later.ensures.no w.if-reaches_later.false j there
        | else-carried-i-via-else-carried-i w ↦
            carried_misses a.taps.now at (λ (k : ℕ). get_or a.carried.now k 0) c.requires.quiet a.ticks c.loop-i.i (omega arith)
            (omega (arith, w.if-carried-i.false)) j there
      ])
    ]

pub returns-clause-no : goal.returns-clause-no
returns-clause-no c _ =
    let a = c.args in
    none_hears a.taps.now (put_at a.row.now a.rings.now a.clock) a.ticks (λ i lt. c.loop-i.invariant i (omega (arith, lt)))
