use Rattle.std.proofs.Common.{◌≡◌, ◌<◌, ◌^◌, take}
use Rattle.t1s_base.specs.Numbers.{value_of}
use Rattle.t1s_base.proofs.numbers.worth.Given as goal

-- the value is that of the digits so far
abbrev pub invariant-loop-digit : goal.invariant-loop-digit
invariant-loop-digit l = record {
  value : l.value ≡ value_of (take l.digit-index l.digits);
  bound : l.value < 10 ^ l.digit-index;
}
