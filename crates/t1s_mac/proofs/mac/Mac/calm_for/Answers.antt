use Rattle.std.proofs.Common.{ℕ, sym, subst}
use Rattle.t1s_symbols.specs.CalmSteps.{IsCalmFor}
use Rattle.t1s_mac.specs.State.{MacState, phase_of, queue_of}
use Rattle.t1s_mac.specs.CalmMac.{mac_after, IsCalmMac}
use Rattle.t1s_mac.proofs.CalmTicks.{mac_calm_for}
use Rattle.t1s_mac.proofs.mac.Mac.calm_for.Goals as goal

pub returns-clause-calm : goal.returns-clause-calm
returns-clause-calm g c =
    let inside = c.self.inside in
    let held : MacState g.row.D.Denot = record {
      phase = phase_of inside.state;
      queue = queue_of inside.state;
      deference = inside.deference;
      attempts = inside.attempts;
      draws = inside.draws;
    } in
    let Calm : MacState g.row.D.Denot → ℕ → Type 0 = λ m n.
    IsCalmFor (mac_after g.D.Draws.answer g.D.Draws.after c.args.carrier c.args.collision)
    (IsCalmMac g.D.Draws.answer g.D.Draws.after c.args.carrier c.args.collision) m c.args.most n in
    let CalmInside : ℕ → Type 0 = Calm held in
    let CalmBy : MacState g.row.D.Denot → Type 0 = λ m. Calm m c.calm_ticks.result in
    subst CalmBy c.self.view_is (subst CalmInside (sym c.calm_ticks.ensures)
    (mac_calm_for g.D.Draws.answer g.D.Draws.after c.args.carrier c.args.collision held c.args.most))
