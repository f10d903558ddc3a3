use Rattle.std.proofs.Common.{List, map, get_or, refl, sym, ◌∙◌, ap, subst}
use Rattle.std.specs.Prelude.{◌==◌}
use Rattle.std.proofs.lemmas.List.{get_or_default}
use Rattle.std.proofs.lemmas.List.Quantifiers.{position-Some}
use Rattle.t1s_world.specs.Events.{SeesEvents}
use Rattle.t1s_line.specs.declared.offers.OfferState.TheVariants.{Unknown}
use Rattle.t1s_line.specs.declared.totals.NodeTotals.{NodeTotals}
use Rattle.t1s_line.specs.Acts.{Offer}
use Rattle.t1s_line.specs.Offers.{OfferRecord, after_records, offer_event}
use Rattle.t1s_line.specs.Totals.{after_refusals, no_totals}
use Rattle.t1s_segment.proofs.OfferSteps.{no_nodes, no_records, one_node, one_record, one_refused}
use Rattle.t1s_segment.proofs.offer_phase.offer_one.Goals as goal

pub returns-in_default-clause-nodes : goal.returns-in_default-clause-nodes
returns-in_default-clause-nodes g c have =
    let o : Offer = record { node = c.args.node; queued = c.args.queued } in
    sym (no_nodes g.N.NodeMachine.phases c.args.tick o c.args.nodes.now c.args.totals.now have (sym c.position_of.ensures ∙ c.in_default.is))

pub returns-in_default-clause-totals : goal.returns-in_default-clause-totals
returns-in_default-clause-totals g c have =
    let o : Offer = record { node = c.args.node; queued = c.args.queued } in
    let none = no_records g.N.NodeMachine.phases c.args.tick o c.args.nodes.now c.args.totals.now have (sym c.position_of.ensures ∙ c.in_default.is) in
    sym (ap (λ (rs : List OfferRecord). after_refusals c.args.totals.now rs) none)

pub returns-in_default-clause-states : goal.returns-in_default-clause-states
returns-in_default-clause-states g c have k =
    let o : Offer = record { node = c.args.node; queued = c.args.queued } in
    let none = no_records g.N.NodeMachine.phases c.args.tick o c.args.nodes.now c.args.totals.now have (sym c.position_of.ensures ∙ c.in_default.is) in
    sym (ap (λ (rs : List OfferRecord). after_records k (get_or c.args.states.now k Unknown) rs) none)

pub returns-in_default-clause-events : goal.returns-in_default-clause-events
returns-in_default-clause-events g c have =
    let o : Offer = record { node = c.args.node; queued = c.args.queued } in
    let none = no_records g.N.NodeMachine.phases c.args.tick o c.args.nodes.now c.args.totals.now have (sym c.position_of.ensures ∙ c.in_default.is) in
    subst (λ (rs : List OfferRecord). SeesEvents g.W.Watch.sees c.args.watch.now (map offer_event rs) c.args.watch.now) (sym none) refl

pub returns-clause-nodes : goal.returns-clause-nodes
returns-clause-nodes g c have =
    let o : Offer = record { node = c.args.node; queued = c.args.queued } in
    let is = c.index-nodes-i.is in
    rw (c.offer-outcome.ensures.node, ← is)
    (one_node g.N.NodeMachine.phases c.args.tick o c.args.nodes.now c.args.totals.now have c.in-Some.i (sym c.position_of.ensures ∙ c.in-Some.is) c.index-nodes-i.result is)

pub returns-clause-totals : goal.returns-clause-totals
returns-clause-totals g c have =
    let o : Offer = record { node = c.args.node; queued = c.args.queued } in
    let is = c.index-nodes-i.is in
    let ms = c.args.totals.now in
    let i = c.in-Some.i in
    let found = sym c.position_of.ensures ∙ c.in-Some.is in
    let n : NodeTotals = get_or ms i (no_totals 0) in
    let within = (position-Some (λ (m : NodeTotals). m.node == c.args.node) ms i (no_totals 0) found).0 in
    let here = get_or_default ms i (no_totals 0) n within in
    rw (c.after_refusal.ensures, c.offer-outcome.ensures.outcome, ← is)
    (one_refused g.N.NodeMachine.phases c.args.tick o c.args.nodes.now ms have i found c.index-nodes-i.result is n here)

pub returns-clause-states : goal.returns-clause-states
returns-clause-states g c have k =
    let o : Offer = record { node = c.args.node; queued = c.args.queued } in
    let is = c.index-nodes-i.is in
    let one = one_record g.N.NodeMachine.phases c.args.tick o c.args.nodes.now c.args.totals.now have c.in-Some.i (sym c.position_of.ensures ∙ c.in-Some.is) c.index-nodes-i.result is in
    let told = ap (λ (rs : List OfferRecord). after_records k (get_or c.args.states.now k Unknown) rs) one in
    rw (c.offer-outcome.ensures.outcome, ← is) at (c.keep_outcome.ensures k) ∙ sym told

pub returns-clause-events : goal.returns-clause-events
returns-clause-events g c have =
    let o : Offer = record { node = c.args.node; queued = c.args.queued } in
    let is = c.index-nodes-i.is in
    let one = one_record g.N.NodeMachine.phases c.args.tick o c.args.nodes.now c.args.totals.now have c.in-Some.i (sym c.position_of.ensures ∙ c.in-Some.is) c.index-nodes-i.result is in
    let told = rw (c.offer-outcome.ensures.outcome, ← is) at c.tell_outcome.ensures in
    subst (λ (rs : List OfferRecord). SeesEvents g.W.Watch.sees c.args.watch.now (map offer_event rs) c.tell_outcome.new.watch) (sym one) told
