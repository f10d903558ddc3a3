use Rattle.std.proofs.Common.{ap, sym, subst, ◌∙◌}
use Rattle.std.specs.Fn.{iterate}
use Rattle.t1s_symbols.specs.CalmSteps.{AreCalm}
use Rattle.t1s_ring.specs.Queue.{Queue}
use Rattle.t1s_mac.specs.declared.deference.Deference.{Deference}
use Rattle.t1s_mac.specs.State.{Phase, MacState, phase_of, queue_of}
use Rattle.t1s_mac.specs.CalmMac.{mac_after, IsCalmMac, phase_passed}
use Rattle.t1s_mac.proofs.CalmTicks.{mac_calm_ticks, mac_pass, calm_deference, calm_backoff}
use Rattle.t1s_mac.proofs.mac.Mac.pass.Goals as goal

pub pass-requires : goal.pass-requires
pass-requires g c =
    let inside = c.self.inside in
    let held : MacState g.row.D.Denot = record { phase = phase_of inside.state; queue = queue_of inside.state; deference = inside.deference; attempts = inside.attempts; draws = inside.draws } in
    let CalmFrom : MacState g.row.D.Denot → Type 0 = λ m.
    AreCalm (mac_after g.D.Draws.answer g.D.Draws.after c.args.carrier c.args.collision)
    (IsCalmMac g.D.Draws.answer g.D.Draws.after c.args.carrier c.args.collision) m c.args.n in
    calm_backoff held.phase held.queue held.deference c.args.carrier c.args.n
    (mac_calm_ticks g.D.Draws.answer g.D.Draws.after c.args.carrier c.args.collision held c.args.n (subst CalmFrom (sym c.self.view_is) c.requires))

pub passed-requires : goal.passed-requires
passed-requires g c =
    let inside = c.self.inside in
    let held : MacState g.row.D.Denot = record { phase = phase_of inside.state; queue = queue_of inside.state; deference = inside.deference; attempts = inside.attempts; draws = inside.draws } in
    let CalmFrom : MacState g.row.D.Denot → Type 0 = λ m.
    AreCalm (mac_after g.D.Draws.answer g.D.Draws.after c.args.carrier c.args.collision)
    (IsCalmMac g.D.Draws.answer g.D.Draws.after c.args.carrier c.args.collision) m c.args.n in
    calm_deference held.phase held.queue held.deference c.args.carrier c.args.n
    (mac_calm_ticks g.D.Draws.answer g.D.Draws.after c.args.carrier c.args.collision held c.args.n (subst CalmFrom (sym c.self.view_is) c.requires))

pub returns-clause-steps : goal.returns-clause-steps
returns-clause-steps g c =
    let inside = c.self.inside in
    let held : MacState g.row.D.Denot = record { phase = phase_of inside.state; queue = queue_of inside.state; deference = inside.deference; attempts = inside.attempts; draws = inside.draws } in
    let CalmFrom : MacState g.row.D.Denot → Type 0 = λ m.
    AreCalm (mac_after g.D.Draws.answer g.D.Draws.after c.args.carrier c.args.collision)
    (IsCalmMac g.D.Draws.answer g.D.Draws.after c.args.carrier c.args.collision) m c.args.n in
    let with_phase : Phase → MacState g.row.D.Denot = λ phase. record { phase = phase; queue = queue_of c.pass.new.self; deference = c.passed.result; attempts = inside.attempts; draws = inside.draws } in
    let with_queue : Queue → MacState g.row.D.Denot = λ queue. record (with_phase (phase_passed held.phase c.args.n)) { queue = queue } in
    let with_deference : Deference → MacState g.row.D.Denot = λ d. record (with_queue held.queue) { deference = d } in
    ap with_phase c.pass.ensures.phase
    ∙ (ap with_queue c.pass.ensures.queue
    ∙ (ap with_deference c.passed.ensures
    ∙ (mac_pass g.D.Draws.answer g.D.Draws.after c.args.carrier c.args.collision held c.args.n (subst CalmFrom (sym c.self.view_is) c.requires)
    ∙ ap (iterate (mac_after g.D.Draws.answer g.D.Draws.after c.args.carrier c.args.collision) c.args.n) c.self.view_is)))
