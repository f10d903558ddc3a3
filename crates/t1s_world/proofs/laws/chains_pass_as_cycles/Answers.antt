use Rattle.t1s_world.proofs.CycleWaves.{are_waves}
use Rattle.t1s_world.proofs.laws.chains_pass_as_cycles.Goals as goal

pub returns : goal.returns
returns g c far at n is nodes span z first is_far short owner owners coordinator ds chain placed t whole silent j here same_owns begin begins =
    are_waves far at n is nodes span is_far short owner z first owners coordinator j here same_owns begin t begins ds chain placed whole silent
