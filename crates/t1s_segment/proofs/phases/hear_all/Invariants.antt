use Rattle.std.proofs.Common.{◌≡◌, List, Option, ◌++◌, take, drop}
use Rattle.t1s_symbols.specs.declared.Quarter.{Quarter}
use Rattle.t1s_world.specs.Hearing.{heard}
use Rattle.t1s_world.specs.Events.{SeesEvents}
use Rattle.t1s_world.specs.Lists.{each_with}
use Rattle.t1s_world.specs.World.{after_hear, at_depth, hear_outcomes}
use Rattle.t1s_cable.specs.Stands.{Stands}
use Rattle.t1s_line.specs.Runs.{hear_events_of}
use Rattle.t1s_line.specs.Totals.{after_hearing}
use Rattle.t1s_segment.specs.State.{AreHeard, two_phases, under_noise}
use Rattle.t1s_segment.proofs.PhaseSteps.{kept_last}
use Rattle.t1s_segment.proofs.phases.hear_all.Given as goal

abbrev pub invariant-loop-j : goal.invariant-loop-j
invariant-loop-j g l =
    record {
      nodes : (rows : List (List (Option Quarter))) → Stands rows l.cable →
          l.nodes ≡ after_hear (two_phases g.N.NodeMachine.phases) l.tick (λ j. under_noise l.noisy (heard (at_depth rows) l.cable.taps j)) 0 (take l.j l.initial.nodes) ++ drop l.j l.initial.nodes;
      totals : (rows : List (List (Option Quarter))) → Stands rows l.cable →
          l.totals ≡ each_with after_hearing (take l.j l.initial.totals) (hear_outcomes (two_phases g.N.NodeMachine.phases) l.tick (λ j. under_noise l.noisy (heard (at_depth rows) l.cable.taps j)) 0 (take l.j l.initial.nodes)) ++ drop l.j l.initial.totals;
      last : (rows : List (List (Option Quarter))) → Stands rows l.cable →
          l.last ≡ each_with kept_last (take l.j l.initial.last) (hear_outcomes (two_phases g.N.NodeMachine.phases) l.tick (λ j. under_noise l.noisy (heard (at_depth rows) l.cable.taps j)) 0 (take l.j l.initial.nodes)) ++ drop l.j l.initial.last;
      events : (rows : List (List (Option Quarter))) → Stands rows l.cable →
          SeesEvents g.W.Watch.sees l.initial.watch (hear_events_of (hear_outcomes (two_phases g.N.NodeMachine.phases) l.tick (λ j. under_noise l.noisy (heard (at_depth rows) l.cable.taps j)) 0 (take l.j l.initial.nodes))) l.watch;
      in_range : AreHeard l.last;
    }
