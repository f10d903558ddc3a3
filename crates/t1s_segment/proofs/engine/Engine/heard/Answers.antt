use Rattle.std.proofs.Common.{Some, arith, ap, sym, ◌∙◌, false, Bool}
use Rattle.std.specs.Prelude.{◌==◌}
use Rattle.std.proofs.lemmas.List.{get_or_default}
use Rattle.std.proofs.lemmas.List.Quantifiers.{position-Some}
use Rattle.t1s_line.specs.declared.totals.NodeTotals.{NodeTotals}
use Rattle.t1s_line.specs.Totals.{no_totals}
use Rattle.t1s_symbols.specs.declared.Heard.{Heard}
use Rattle.t1s_symbols.specs.declared.Heard.TheVariants.{Nothing}
use Rattle.t1s_segment.proofs.Playing.{heard_is}
use Rattle.t1s_segment.proofs.engine.Engine.heard.Goals as goal

pub returns-in_err-j-clause-value : goal.returns-in_err-j-clause-value
returns-in_err-j-clause-value g c acts lines first end t plays =
    let before = rw (← c.self.view_is) at plays in
    let is = heard_is g.N.NodeMachine.phases acts lines first end t _ c.args.node before (omega arith) in
    let none = rw c.as_slice.ensures.value at (sym c.position_of.ensures ∙ c.in_err-j.was) in
    c.from_residual.ensures ∙ rw none at is

pub returns-clause-value : goal.returns-clause-value
returns-clause-value g c acts lines first end t plays =
    let before = rw (← c.self.view_is) at plays in
    let is = heard_is g.N.NodeMachine.phases acts lines first end t _ c.args.node before (omega arith) in
    let found = rw c.as_slice.ensures.value at (sym c.position_of.ensures ∙ c.in_ok-j.was) in
    let silence : Heard × Bool = (Nothing, false) in
    let within = (position-Some (λ (n : NodeTotals). n.node == c.args.node) c.self.inside.totals.items c.in_ok-j.j (no_totals 0) found).0 in
    let here = get_or_default c.self.inside.heard.items c.in_ok-j.j silence c.index.result.now (omega (arith, within, c.self.invariant.heard_len, c.self.invariant.totals_len)) in
    ap Some (c.index.ensures ∙ sym here) ∙ rw found at is
