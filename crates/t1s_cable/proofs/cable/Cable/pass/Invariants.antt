use Rattle.std.proofs.Common.{◌≡◌, ◌==◌, List, Option, cond}
use Rattle.t1s_symbols.specs.declared.Quarter.{Quarter}
use Rattle.t1s_cable.specs.Calm.{after_silence}
use Rattle.t1s_cable.specs.Stands.{Stands, no_puts}
use Rattle.t1s_cable.proofs.cable.Cable.pass.Given as goal

abbrev pub invariant-loop-passed : goal.invariant-loop-passed
invariant-loop-passed l =
    record {
      taps : l.self.taps ≡ l.initial.self.taps;
      row : l.self.row ≡ cond (l._passed == 0) l.initial.self.row (no_puts l.initial.self.taps);
      stands : (rows : List (List (Option Quarter))) → Stands rows l.initial.self → Stands (after_silence l.initial.self.taps l._passed rows) l.self;
    }
