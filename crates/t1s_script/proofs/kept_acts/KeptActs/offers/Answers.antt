use Rattle.std.proofs.Common.{◌≡◌, ◌≤◌, length, arith}
use Rattle.t1s_script.specs.Script.{offer_number, offers_in}
use Rattle.t1s_script.proofs.LineActs.{length-filter_map}
use Rattle.t1s_script.proofs.kept_acts.KeptActs.offers.Goals as goal

pub returns-clause-few : goal.returns-clause-few
returns-clause-few c =
    let counted : c.self.inside.offers ≡ offers_in c.self.inside.list = c.self.invariant.0 in
    let few : length c.self.inside.list ≤ 4096 = c.self.invariant.1 in
    let fewer : offers_in c.self.inside.list ≤ length c.self.inside.list = length-filter_map offer_number c.self.inside.list in
    omega arith
