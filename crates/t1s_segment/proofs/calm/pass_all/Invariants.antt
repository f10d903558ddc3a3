use Rattle.std.proofs.Common.{◌≡◌, ◌++◌, drop, false, map, replicate, take}
use Rattle.t1s_symbols.specs.declared.Heard.TheVariants.{Nothing}
use Rattle.t1s_segment.proofs.calm.pass_all.Given as goal

abbrev pub invariant-loop-j : goal.invariant-loop-j
invariant-loop-j g l =
    record {
      nodes : l.nodes ≡ map (g.N.NodeMachine.passed l.tick l.n) (take l.j l.initial.nodes) ++ drop l.j l.initial.nodes;
      last : l.last ≡ replicate l.j (Nothing, false) ++ drop l.j l.initial.last;
    }
