use Rattle.std.proofs.Common.{◌+◌, List, get_or, arith, ◌∙◌, ap, refl, rules}
use Rattle.std.proofs.lemmas.List.{with_items_is}
use Rattle.std.specs.Vec.{with_items}
use Rattle.t1s_world.proofs.EventLemmas.{SeesEvents-append}
use Rattle.t1s_line.specs.declared.offers.OfferState.{OfferState}
use Rattle.t1s_line.specs.declared.offers.OfferState.TheVariants.{Unknown}
use Rattle.t1s_segment.specs.State.{EngineState}
use Rattle.t1s_segment.proofs.Playing.{Awaits, TickStep, awaits, plays_next, tick_events}
use Rattle.t1s_segment.proofs.engine.Engine.tick.Goals as goal

pub returns : goal.returns
returns g c =
    let p = g.N.NodeMachine.phases in
    let old = c.self.inside in
    let offers = c.offer_all-self-inside in
    let drives = c.drive_all-ok in
    let hears = c.hear_all in
    let before : EngineState g.row.N.Denot = record {
      tick = old.tick;
      end = old.end;
      settled = old.settled;
      upcoming = old.upcoming;
      noise_until = old.noise_until;
      nodes = old.nodes.items;
      cable = old.cable;
      totals = old.totals.items;
      states = old.states.items;
      heard = old.heard.items;
    } in
    let after : EngineState g.row.N.Denot = record {
      tick = old.tick + 1;
      end = old.end;
      settled = c.settled_after-self-inside.result;
      upcoming = offers.new.upcoming;
      noise_until = offers.result;
      nodes = hears.new.nodes;
      cable = c.turn.new.self;
      totals = hears.new.totals;
      states = drives.new.states;
      heard = hears.new.last;
    } in
    let nodes_given = c.as_mut_slice-4.ensures.value ∙ with_items_is old.nodes offers.new.nodes (omega arith) in
    let totals_given = c.as_mut_slice-5.ensures.value ∙ with_items_is old.totals offers.new.totals (omega arith) in
    let states_given = c.as_mut_slice-6.ensures.value ∙ with_items_is old.states offers.new.states (omega arith) in
    let nodes_driven = c.as_mut_slice-7.ensures.value ∙ with_items_is (with_items old.nodes offers.new.nodes) drives.new.nodes (omega arith) in
    let totals_driven = c.as_mut_slice-8.ensures.value ∙ with_items_is (with_items old.totals offers.new.totals) drives.new.totals (omega arith) in
    let nodes_began = c.as_mut_slice.ensures.value in
    let totals_began = c.as_mut_slice-2.ensures.value in
    let states_began = c.as_mut_slice-3.ensures.value in
    let kept = drives.ensures.taps in
    let ticked : TickStep p before after = record {
      tick = refl;
      end = refl;
      taps = c.turn.ensures.taps ∙ kept;
      coming = offers.ensures.coming;
      due = offers.ensures.due;
      offers = offers.ensures.offers;
      noise = offers.ensures.noise;
      driven_on = drives.new.cable;
      drives_on = λ all rows stands.
          let given = rw (nodes_began) at (offers.ensures.nodes (rw (nodes_began, totals_began) all)) in
          rw (nodes_given, given) at (drives.ensures.put rows stands);
      turns = λ rows stands. rw kept at (c.turn.ensures.stands rows stands);
      nodes = λ all rows stands.
          let given = rw (nodes_began) at (offers.ensures.nodes (rw (nodes_began, totals_began) all)) in
          rw (nodes_driven, drives.ensures.nodes, nodes_given, given, kept) at (hears.ensures.nodes rows stands);
      settled = λ all.
          let given = rw (nodes_began) at (offers.ensures.nodes (rw (nodes_began, totals_began) all)) in
          rw (drives.ensures.ok, nodes_given, given) at c.settled_after-self-inside.ensures;
      totals = λ all rows stands.
          let given = rw (nodes_began) at (offers.ensures.nodes (rw (nodes_began, totals_began) all)) in
          let refused = rw (nodes_began, totals_began) at (offers.ensures.totals (rw (nodes_began, totals_began) all)) in
          rw (totals_driven, drives.ensures.totals, totals_given, refused, nodes_driven, drives.ensures.nodes, nodes_given, given, kept) at (hears.ensures.totals rows stands);
      states = λ all k.
          let given = rw (nodes_began) at (offers.ensures.nodes (rw (nodes_began, totals_began) all)) in
          let told = rw (nodes_began, states_began) at (offers.ensures.states (rw (nodes_began, totals_began) all) k) in
          rw (states_given, told, nodes_given, given) at (drives.ensures.states k);
      heard = λ all rows stands.
          let given = rw (nodes_began) at (offers.ensures.nodes (rw (nodes_began, totals_began) all)) in
          rw (nodes_driven, drives.ensures.nodes, nodes_given, given, kept) at (hears.ensures.last rows stands);
    } in
    let nodes_heard = with_items_is (with_items (with_items old.nodes offers.new.nodes) drives.new.nodes) hears.new.nodes (omega arith) in
    let totals_heard = with_items_is (with_items (with_items old.totals offers.new.totals) drives.new.totals) hears.new.totals (omega arith) in
    let states_left = with_items_is (with_items old.states offers.new.states) drives.new.states (omega arith) in
    let last_heard = with_items_is old.heard hears.new.last (omega arith) in
    record {
      left = search rules;
      plays = λ acts lines first end t plays.
          let stands = rw (← c.self.view_is) at plays in
          let next = plays_next p acts lines first end t before stands after ticked (omega arith) in
          record {
            in_time = next.in_time;
            tick = next.tick;
            end_is = next.end_is;
            taps = next.taps;
            numbered = next.numbered;
            coming = next.coming;
            due = next.due;
            offers = next.offers;
            noise = next.noise;
            nodes = nodes_heard ∙ next.nodes;
            cable = next.cable;
            settled = next.settled;
            totals = totals_heard ∙ next.totals;
            states = λ k. ap (λ (states : List OfferState). get_or states k Unknown) states_left ∙ next.states k;
            heard = last_heard ∙ next.heard;
          };
      events = λ acts lines first end t plays.
          let stands = rw (← c.self.view_is) at plays in
          let all : Awaits p before = awaits p acts lines first end t before stands in
          tick_events p acts lines first end t before stands after ticked g.W.Watch.sees c.args.watch.now hears.new.watch
          (λ rows kept_rows.
          let given = rw (nodes_began) at (offers.ensures.nodes (rw (nodes_began, totals_began) all)) in
          let offered = rw (nodes_began) at (offers.ensures.events (rw (nodes_began, totals_began) all)) in
          let driven = rw (nodes_given, given) at drives.ensures.events in
          let arrived = rw (nodes_driven, drives.ensures.nodes, nodes_given, given, kept) at (hears.ensures.events rows kept_rows) in
          SeesEvents-append g.W.Watch.sees c.args.watch.now offers.new.watch hears.new.watch _ _ offered
          (SeesEvents-append g.W.Watch.sees offers.new.watch drives.new.watch hears.new.watch _ _ driven arrived));
    }
