-- The cable of a script: how far a point of it is from its nodes, and how far any two of these are apart.
use Rattle.std.proofs.Common.{ℕ, ◌<◌, ◌≤◌, length, arith}
use Rattle.std.proofs.lemmas.List.{length-map}
use Rattle.t1s_harness.proofs.Distances.{far_self, far_by, far-within}
use Rattle.t1s_world.specs.Schedule.{IsFar}
use Rattle.t1s_script.specs.declared.script.Script.{Script}
use Rattle.t1s_script.specs.Taps.{span_of, tap_of, taps_of}
use Rattle.t1s_schedule.specs.SharedLine.{far_in, at_in}

near_of : (s : Script) (i k : ℕ) → i < length s.nodes → k < length s.nodes → far_in s i (at_in s k) ≤ span_of s
near_of s i k here there =
    let nodes = length-map s.nodes tap_of in
    far-within (taps_of s) i k (omega (arith, here, nodes)) (omega (arith, there, nodes))

pub is_far : (s : Script) → IsFar (far_in s) (at_in s) (length s.nodes) (span_of s)
is_far s = record {
  self = far_self (taps_of s);
  triangle = far_by (taps_of s);
  near = near_of s;
}
