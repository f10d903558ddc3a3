use Rattle.std.proofs.Common.{◌≡◌, ◌+◌, ◌-◌, ◌==◌, ◌∙◌, ℕ, false, ap, arith, rules}
use Rattle.std.proofs.lemmas.Bool.Decides.{nat_tests}
use Rattle.t1s_cable.specs.Calm.{after_silence}
use Rattle.t1s_cable.specs.State.{CableState}
use Rattle.t1s_cable.proofs.CalmTicks.{silence_more, stays_silent}
use Rattle.t1s_cable.proofs.Silence.{row_silent}
use Rattle.t1s_cable.proofs.cable.Cable.pass.Goals as goal

pub returns-then-self-eq0-clause-row : goal.returns-then-self-eq0-clause-row
returns-then-self-eq0-clause-row c =
    let now = c.self.inside in
    let quiet = rw c.if-self-eq0.true at c.self.invariant.quiet in
    let silent = rw c.self.invariant.row_len at (row_silent now.taps.items now.row.items now.rings.items now.clock quiet) in
    let some : (c.args.n == 0) ≡ false = (let more = c.loop-passed-test.true in search (rules, nat_tests, more)) in
    rw (some, ← c.loop-passed.invariant.taps, ← c.self.view_is) silent

-- in the ticks that are left the cable is silent, and stays as it is
pub returns-then-self-eq0-clause-stands : goal.returns-then-self-eq0-clause-stands
returns-then-self-eq0-clause-stands c rows stands =
    let now = c.self.inside in
    let taps = c.args.self.now.taps in
    let passed = c.loop-passed._passed in
    let left : ℕ = c.args.n - passed in
    let before = rw (← c.self.view_is) at (c.loop-passed.invariant.stands rows stands) in
    let same : now.taps.items ≡ taps = rw (← c.self.view_is) at c.loop-passed.invariant.taps in
    let quiet = rw c.if-self-eq0.true at c.self.invariant.quiet in
    let is : CableState = record { taps = now.taps.items; row = now.row.items; clock = now.clock; rings = now.rings.items } in
    let stays = stays_silent is c.self.invariant.row_len c.self.invariant.rings_len quiet (after_silence taps passed rows) before left in
    let all : left + passed ≡ c.args.n = omega (arith, c.loop-passed-test.true) in
    let joined : after_silence now.taps.items left (after_silence taps passed rows) ≡ after_silence taps c.args.n rows =
    rw same (silence_more taps left passed rows ∙ ap (λ (k : ℕ). after_silence taps k rows) all) in
    rw (← c.self.view_is, ← joined) stays
