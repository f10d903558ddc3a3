use Rattle.std.proofs.Common.{◌≡◌, ◌≤◌, ◌-◌, length, vec_len}
use Rattle.t1s_base.specs.Octets.{Gives}
use Rattle.t1s_cli.proofs.script_input.read_whole.Given as goal

abbrev pub decreases-loop-piece : goal.decreases-loop-piece
decreases-loop-piece g l = 1048577 - vec_len l.bytes

abbrev pub invariant-loop-piece : goal.invariant-loop-piece
invariant-loop-piece g l = record {
  octets : Gives (g.S.Source.left l.initial.source) (g.S.Source.left l.source) l.bytes.items;
  bound : length l.bytes.items ≤ 1048577;
  kept : g.S.Source.faults l.source ≡ g.S.Source.faults l.initial.source;
}
