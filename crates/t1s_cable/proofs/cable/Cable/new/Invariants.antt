use Rattle.std.proofs.Common.{◌≡◌, ◌+◌, [], replicate, None}
use Rattle.t1s_harness.specs.Distances.{span}
use Rattle.t1s_cable.specs.Taps.{taps_of}
use Rattle.circular_buffer.specs.Buffer.{buffer}
use Rattle.t1s_cable.proofs.cable.Cable.new.Given as goal

abbrev pub invariant-loop-node : goal.invariant-loop-node
invariant-loop-node l =
    record {
      row : l.row.items ≡ replicate l._node None;
      carried : l.carried.items ≡ replicate l._node 0;
      rings : l.rings.items ≡ replicate l._node (buffer [] (span (taps_of l.initial.places l.initial.stubs) + 1));
    }
