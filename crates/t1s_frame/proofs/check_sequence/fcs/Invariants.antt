use Rattle.std.proofs.Common.{◌≡◌, ◌-◌, ◌^◌, take}
use Rattle.std.specs.List.{fold}
use Rattle.t1s_frame.specs.FrameCheck.{check_bit, octet_bits}
use Rattle.t1s_frame.proofs.check_sequence.fcs.Given as goal

abbrev pub invariant-loop-octet : goal.invariant-loop-octet
invariant-loop-octet l =
    l.remainder ≡ fold check_bit (2 ^ 32 - 1) (octet_bits (take l.octet-index l.octets))
