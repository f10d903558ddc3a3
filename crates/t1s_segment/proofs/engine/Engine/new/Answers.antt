use Rattle.std.proofs.Common.{◌≡◌, ◌≤◌, length, refl, ◌∙◌, arith}
use Rattle.std.proofs.lemmas.List.{length-map, take_all}
use Rattle.std.proofs.lemmas.List.Elements.{All-map}
use Rattle.t1s_cable.specs.Taps.{most_stub}
use Rattle.t1s_script.specs.Taps.{tap_of}
use Rattle.t1s_script.specs.declared.script.NodeLine.{NodeLine}
use Rattle.t1s_line.specs.Runs.{taps_in}
use Rattle.t1s_segment.proofs.LineTaps.{taps_are}
use Rattle.t1s_segment.proofs.PhaseSteps.{nothing_heard}
use Rattle.t1s_segment.proofs.Playing.{length_numbered, plays_first}
use Rattle.t1s_segment.proofs.engine.Engine.new.Goals as goal

pub new-requires-2-clause-paired : goal.new-requires-2-clause-paired
new-requires-2-clause-paired g c =
    let lines = c.args.lines.now in
    let all : length lines ≤ c.loop-line.line-index = omega arith in
    let places = c.as_slice.ensures.value ∙ rw take_all at c.loop-line.invariant.places in
    let stubs = c.as_slice-2.ensures.value ∙ rw take_all at c.loop-line.invariant.stubs in
    rw (places, stubs, length-map lines (λ (n : NodeLine). n.place)) (length-map lines (λ (n : NodeLine). n.stub))

pub new-requires-2-clause-stubs : goal.new-requires-2-clause-stubs
new-requires-2-clause-stubs g c =
    let lines = c.args.lines.now in
    let all : length lines ≤ c.loop-line.line-index = omega arith in
    let stubs = c.as_slice-2.ensures.value ∙ rw take_all at c.loop-line.invariant.stubs in
    rw stubs (All-map (λ stub. stub ≤ most_stub) (λ (n : NodeLine). n.stub) lines c.requires.short)

pub invariant_of-result : goal.invariant_of-result
invariant_of-result g c =
    let lines = c.args.lines.now in
    let all : length lines ≤ c.loop-line.line-index = omega arith in
    let loop = c.loop-line.invariant in
    let places = c.as_slice.ensures.value ∙ rw take_all at loop.places in
    let stubs = c.as_slice-2.ensures.value ∙ rw take_all at loop.stubs in
    let taps : c.in_ok-cable.cable.taps ≡ taps_in lines = c.in_ok-cable.ensures.taps ∙ rw (places, stubs) (taps_are lines) in
    let totals = rw take_all at loop.totals in
    let heard = rw take_all at loop.heard in
    let size : length c.in_ok-cable.cable.taps ≡ length lines = rw taps (length-map lines tap_of) in
    let as_many = length_numbered g.N.NodeMachine.phases lines c.args.nodes.items c.requires.numbered in
    record {
      in_time = omega arith;
      few = omega (arith, size, c.requires.few);
      free = rw c.in_ok-cable.ensures.taps c.in_ok-cable.ensures.row;
      nodes_len = omega (arith, size, as_many);
      totals_len = rw (totals, size) (length-map lines _);
      heard_len = rw (heard, size) (length-map lines _);
      heard_in_range = rw heard (nothing_heard lines);
    }

pub returns : goal.returns
returns g c =
    let lines = c.args.lines.now in
    let all : length lines ≤ c.loop-line.line-index = omega arith in
    let loop = c.loop-line.invariant in
    let places = c.as_slice.ensures.value ∙ rw take_all at loop.places in
    let stubs = c.as_slice-2.ensures.value ∙ rw take_all at loop.stubs in
    let cable = c.in_ok-cable.ensures in
    plays_first g.N.NodeMachine.phases c.args.acts.now lines c.args.nodes.items c.args.end _ c.requires.numbered c.requires.in_order refl refl refl
    c.in_ok-upcoming.ensures
    refl
    (cable.taps ∙ rw (places, stubs) (taps_are lines))
    refl
    (rw (places, stubs, taps_are lines) at cable.stands)
    (rw take_all at loop.totals)
    c.in_ok-states.ensures
    (rw take_all at loop.heard)
