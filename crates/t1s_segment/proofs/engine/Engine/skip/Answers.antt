use Rattle.std.proofs.Common.{◌+◌, ◌≡◌, ◌≤◌, ◌∙◌, Bool, arith, false, length, refl}
use Rattle.std.proofs.lemmas.List.{with_items_is}
use Rattle.t1s_symbols.specs.declared.Heard.{Heard}
use Rattle.t1s_symbols.specs.declared.Heard.TheVariants.{Nothing}
use Rattle.t1s_segment.specs.State.{EngineState}
use Rattle.t1s_segment.specs.Stretches.{IsStretch}
use Rattle.t1s_segment.proofs.NodeStretches.{filled}
use Rattle.t1s_segment.proofs.Passing.{SkipStep, plays_after, skip_calm, skip_ends}
use Rattle.t1s_segment.proofs.engine.Engine.skip.Goals as goal

pub returns : goal.returns
returns g c =
    let m = g.N.NodeMachine in
    let old = c.self.inside in
    let n = c.calm_for-n.result in
    let before : EngineState g.row.N.Denot = record {
      tick = old.tick;
      end = old.end;
      settled = old.settled;
      upcoming = old.upcoming;
      noise_until = old.noise_until;
      nodes = old.nodes.items;
      cable = old.cable;
      totals = old.totals.items;
      states = old.states.items;
      heard = old.heard.items;
    } in
    let after : EngineState g.row.N.Denot = record before {
      tick = old.tick + n;
      nodes = c.pass_all.new.nodes;
      cable = c.pass.new.self;
      heard = c.pass_all.new.last;
    } in
    let stretch : IsStretch m.phases m.calm before c.args.most n = rw (← c.self.view_is) at c.calm_for-n.ensures in
    let silence : Heard × Bool = (Nothing, false) in
    let sizes : length old.heard.items ≡ length old.cable.taps = c.self.invariant.heard_len in
    let skips : SkipStep m.passed before after n = record {
      tick = refl;
      end = refl;
      settled = refl;
      upcoming = refl;
      noise_until = refl;
      nodes = rw c.as_mut_slice.ensures.value at c.pass_all.ensures.nodes;
      taps = c.pass.ensures.taps;
      cable = c.pass.ensures.stands;
      totals = refl;
      states = refl;
      heard = rw (c.as_mut_slice-2.ensures.value, sizes) at c.pass_all.ensures.last ∙ filled silence old.cable.taps;
    } in
    let in_time : old.tick + n ≤ old.end = stretch.in_time in
    let nodes_left = with_items_is old.nodes c.pass_all.new.nodes (omega arith) in
    let heard_left = with_items_is old.heard c.pass_all.new.last (omega arith) in
    record {
      left = rw (← c.self.view_is) (omega (arith, in_time));
      none = λ none. absurd (omega (arith, none));
      within = stretch.within;
      plays = λ acts lines first end t laws firsts some plays.
          let stands = rw (← c.self.view_is) at plays in
          let next = plays_after m.phases m.holds m.calm m.passed laws acts lines first firsts some end t before stands c.args.most n stretch after skips (omega arith) in
          record {
            in_time = next.in_time;
            tick = next.tick;
            end_is = next.end_is;
            taps = next.taps;
            numbered = next.numbered;
            coming = next.coming;
            due = next.due;
            offers = next.offers;
            noise = next.noise;
            nodes = nodes_left ∙ next.nodes;
            cable = next.cable;
            settled = next.settled;
            totals = next.totals;
            states = next.states;
            heard = heard_left ∙ next.heard;
          };
      calm = λ acts lines first end t laws firsts some plays.
          let stands = rw (← c.self.view_is) at plays in
          skip_calm m.phases m.holds m.calm m.passed laws acts lines first firsts some end t before stands c.args.most n stretch;
      ends = λ acts lines first end t laws firsts some plays.
          let stands = rw (← c.self.view_is) at plays in
          skip_ends m.phases m.holds m.calm m.passed laws acts lines first firsts some end t before stands c.args.most n stretch;
    }

pub returns-then-n-eq0-clause-ends : goal.returns-then-n-eq0-clause-ends
returns-then-n-eq0-clause-ends g c acts lines first end t laws firsts some plays =
    let m = g.N.NodeMachine in
    rw c.if-n-eq0.true at
    (skip_ends m.phases m.holds m.calm m.passed laws acts lines first firsts some end t c.args.self.now plays c.args.most c.calm_for-n.result c.calm_for-n.ensures)

pub pass_all-requires-clause-calm : goal.pass_all-requires-clause-calm
pass_all-requires-clause-calm g c =
    let stretch = rw (← c.self.view_is) at c.calm_for-n.ensures in
    rw c.as_mut_slice.ensures.value stretch.nodes
