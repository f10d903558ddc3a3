use Rattle.std.proofs.Common.{arith, sym}
use Rattle.t1s_world.proofs.ChainWaves.{one_starts}
use Rattle.t1s_world.proofs.laws.opportunities_are_alone.Goals as goal

pub returns : goal.returns
returns g c next far at n nodes span is_far rise short p q own other a x y near_p near_q from_x from_y is =
    let low = one_starts next far at n nodes span is_far rise short p q own other a x y near_p near_q from_x from_y is in
    let high = one_starts next far at n nodes span is_far rise short q p other own a y x near_q near_p from_y from_x (sym is) in
    omega (arith, low, high)
