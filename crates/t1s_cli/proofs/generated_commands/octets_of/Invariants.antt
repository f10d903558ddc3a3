use Rattle.std.proofs.Common.{length}
use Rattle.t1s_cli.proofs.GivenLines.{GivenLines}
use Rattle.t1s_cli.proofs.generated_commands.octets_of.Given as goal

abbrev pub decreases-loop-line : goal.decreases-loop-line
decreases-loop-line l = length l.lines

abbrev pub invariant-loop-line : goal.invariant-loop-line
invariant-loop-line l = GivenLines l.fn.lines l.lines l.octets.items
