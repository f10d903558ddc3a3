use Rattle.std.proofs.Common.{◌+◌, List, map, get_or, refl, sym, ◌∙◌, arith, subst}
use Rattle.t1s_world.specs.Events.{SeesEvents}
use Rattle.t1s_line.specs.declared.offers.OfferState.TheVariants.{Unknown}
use Rattle.t1s_line.specs.Acts.{Offer}
use Rattle.t1s_line.specs.Offers.{offer_event, records_of}
use Rattle.t1s_acts.specs.Upcoming.{offers_of}
use Rattle.t1s_acts.proofs.ActSteps.{no_offers, none_due}
use Rattle.t1s_segment.proofs.DueActs.{one_less, coming_rest, later_acts, later_offers, later_noise, nodes_split, totals_split, states_split, events_split}
use Rattle.t1s_segment.proofs.OfferSteps.{still_have}
use Rattle.t1s_segment.proofs.offer_phase.offer_all.Goals as goal

pub loop-deed-smaller : goal.loop-deed-smaller
loop-deed-smaller g c =
    let next = sym c.take_due.ensures.deed ∙ c.in-Some.is in
    let less = one_less c.args.tick c.loop-deed.upcoming c.in-Some.deed next in
    rw c.take_due.ensures.rest less

pub loop-deed-preserved : goal.loop-deed-preserved
loop-deed-preserved g c =
    let p = g.N.NodeMachine.phases in
    let t = c.args.tick in
    let deed = c.in-Some.deed in
    let ns = c.loop-deed.nodes in
    let before = c.loop-deed.invariant in
    let one = c.act_one-until.ensures in
    let left = c.take_due.ensures.rest in
    let upcoming = c.loop-deed.upcoming in
    let next = sym c.take_due.ensures.deed ∙ c.in-Some.is in
    record {
      sizes = omega arith;
      await = λ all.
          let now = before.await all in
          record {
            have = rw (one.nodes now.have, one.totals now.have) (still_have p t (offers_of deed) ns c.loop-deed.totals now.have);
            coming = rw left (coming_rest t upcoming deed next now.coming);
          };
      nodes = λ all. rw (left, one.nodes (before.await all).have) (nodes_split t upcoming deed next p ns ∙ before.nodes all);
      totals = λ all.
          let have = (before.await all).have in
          rw (left, one.totals have, one.nodes have) (totals_split t upcoming deed next p ns c.loop-deed.totals ∙ before.totals all);
      states = λ all k.
          let have = (before.await all).have in
          rw (left, one.states have k, one.nodes have) (states_split t upcoming deed next p ns k (get_or c.loop-deed.states k Unknown) ∙ before.states all k);
      events = λ all v later.
          let have = (before.await all).have in
          before.events all v (events_split t upcoming deed next p ns g.W.Watch.sees c.loop-deed.watch c.act_one-until.new.watch v (one.events have) (rw (left, one.nodes have) at later));
      coming = λ all. rw left (coming_rest t upcoming deed next (before.coming all));
      due = λ all u lt. rw left (later_acts t upcoming deed next u lt ∙ before.due all u lt);
      offers = λ all u lt. rw left (later_offers t upcoming deed next u lt ∙ before.offers all u lt);
      noise = λ all u le. rw (left, one.noise) (later_noise t upcoming deed next u c.loop-deed.until le ∙ before.noise all u le);
    }

pub returns : goal.returns
returns g c =
    let p = g.N.NodeMachine.phases in
    let t = c.args.tick in
    let before = c.loop-deed.invariant in
    let upcoming = c.loop-deed.upcoming in
    let none = sym c.take_due.ensures.deed ∙ c.in_default.is in
    let left = c.take_due.ensures.rest in
    record {
      nodes = λ all. rw (no_offers (t + 1) t upcoming (omega arith) (none_due t upcoming none (before.await all).coming).1) at (before.nodes all);
      totals = λ all. rw (no_offers (t + 1) t upcoming (omega arith) (none_due t upcoming none (before.await all).coming).1) at (before.totals all);
      states = λ all k. rw (no_offers (t + 1) t upcoming (omega arith) (none_due t upcoming none (before.await all).coming).1) at (before.states all k);
      events = λ all.
          let quiet = no_offers (t + 1) t upcoming (omega arith) (none_due t upcoming none (before.await all).coming).1 in
          before.events all c.loop-deed.watch
          (subst (λ (os : List Offer). SeesEvents g.W.Watch.sees c.loop-deed.watch (map offer_event (records_of p t os c.loop-deed.nodes)) c.loop-deed.watch) (sym quiet) refl);
      coming = λ all. let done = none_due t upcoming none (before.coming all) in rw (left, done.0) done.1;
      due = λ all u lt. rw (left, (none_due t upcoming none (before.coming all)).0) (before.due all u lt);
      offers = λ all u lt. rw (left, (none_due t upcoming none (before.coming all)).0) (before.offers all u lt);
      noise = λ all u le. rw (left, (none_due t upcoming none (before.coming all)).0) (before.noise all u le);
    }
