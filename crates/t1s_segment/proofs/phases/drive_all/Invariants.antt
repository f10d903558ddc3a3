use Rattle.std.proofs.Common.{◌≡◌, ℕ, List, Option, ◌∷◌, ◌++◌, get_or, take, drop}
use Rattle.t1s_symbols.specs.declared.Quarter.{Quarter}
use Rattle.t1s_world.specs.Events.{SeesEvents}
use Rattle.t1s_world.specs.Lists.{each_with}
use Rattle.t1s_world.specs.World.{after_drive, drive_outcomes, row_of}
use Rattle.t1s_cable.specs.Stands.{Stands, no_puts}
use Rattle.t1s_line.specs.declared.offers.OfferState.TheVariants.{Unknown}
use Rattle.t1s_line.specs.Offers.{after_leaves}
use Rattle.t1s_line.specs.Runs.{are_ok, drive_events_of}
use Rattle.t1s_line.specs.Totals.{after_driving}
use Rattle.t1s_segment.specs.State.{two_phases}
use Rattle.t1s_segment.proofs.phases.drive_all.Given as goal

abbrev pub invariant-loop-i : goal.invariant-loop-i
invariant-loop-i g l =
    record {
      nodes : l.nodes ≡ after_drive (two_phases g.N.NodeMachine.phases) l.tick (take l.i l.initial.nodes) ++ drop l.i l.initial.nodes;
      taps : l.cable.taps ≡ l.initial.cable.taps;
      row : l.cable.row ≡ row_of (two_phases g.N.NodeMachine.phases) l.tick (take l.i l.initial.nodes) ++ drop l.i (no_puts l.initial.cable.taps);
      put : (past : List (List (Option Quarter))) → Stands (no_puts l.initial.cable.taps ∷ past) l.initial.cable →
          Stands ((row_of (two_phases g.N.NodeMachine.phases) l.tick (take l.i l.initial.nodes) ++ drop l.i (no_puts l.initial.cable.taps)) ∷ past) l.cable;
      totals : l.totals ≡ each_with after_driving (take l.i l.initial.totals) (drive_outcomes (two_phases g.N.NodeMachine.phases) l.tick (take l.i l.initial.nodes)) ++ drop l.i l.initial.totals;
      states : (k : ℕ) → get_or l.states k Unknown ≡ after_leaves l.tick k (get_or l.initial.states k Unknown) (drive_outcomes (two_phases g.N.NodeMachine.phases) l.tick (take l.i l.initial.nodes));
      events : SeesEvents g.W.Watch.sees l.initial.watch (drive_events_of (drive_outcomes (two_phases g.N.NodeMachine.phases) l.tick (take l.i l.initial.nodes))) l.watch;
      ok : l.ok ≡ are_ok (drive_outcomes (two_phases g.N.NodeMachine.phases) l.tick (take l.i l.initial.nodes));
    }
