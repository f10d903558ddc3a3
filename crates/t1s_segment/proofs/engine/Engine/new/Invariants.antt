use Rattle.std.proofs.Common.{◌≡◌, take, map, false}
use Rattle.t1s_symbols.specs.declared.Heard.TheVariants.{Nothing}
use Rattle.t1s_script.specs.declared.script.NodeLine.{NodeLine}
use Rattle.t1s_line.specs.Totals.{no_totals}
use Rattle.t1s_segment.proofs.engine.Engine.new.Given as goal

abbrev pub invariant-loop-line : goal.invariant-loop-line
invariant-loop-line g l =
    record {
      places : l.places.items ≡ map (λ (n : NodeLine). n.place) (take l.line-index l.lines);
      stubs : l.stubs.items ≡ map (λ (n : NodeLine). n.stub) (take l.line-index l.lines);
      totals : l.totals.items ≡ map (λ (n : NodeLine). no_totals n.no) (take l.line-index l.lines);
      heard : l.heard.items ≡ map (λ (n : NodeLine). (Nothing, false)) (take l.line-index l.lines);
    }
