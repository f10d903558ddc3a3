use Rattle.std.proofs.Common.{◌≡◌, ◌≤◌, ◌<◌, ◌+◌, ◌∷◌, ◌++◌, [], length, ap, ◌∙◌, arith, length-append}
use Rattle.t1s_script.specs.Script.{offer_number, offers_in}
use Rattle.t1s_script.proofs.LineActs.{length-filter_map, offers_in-append}
use Rattle.t1s_script.proofs.kept_acts.KeptActs.push.Goals as goal

pub overflow_add-offers : goal.overflow_add-offers
overflow_add-offers c =
    let counted : c.self.inside.offers ≡ offers_in c.self.inside.list = c.self.invariant.0 in
    let few : length c.self.inside.list ≤ 4096 = c.self.invariant.1 in
    let fewer : offers_in c.self.inside.list ≤ length c.self.inside.list = length-filter_map offer_number c.self.inside.list in
    let one : c.offers_of.result ≤ 1 = c.offers_of.ensures.few in
    omega arith

pub invariant_of-self-2 : goal.invariant_of-self-2
invariant_of-self-2 c =
    let counted : c.self.inside.offers ≡ offers_in c.self.inside.list = c.self.invariant.0 in
    let room : length c.self.inside.list < 4096 = rw c.self.view_is c.requires in
    let one : c.offers_of.result ≡ offers_in (c.args.act ∷ []) = c.offers_of.ensures.value in
    let more : c.push.new.self ≡ c.self.inside.list ++ c.args.act ∷ [] = c.in_ok-push.ensures in
    let offers : offers_in c.push.new.self ≡ offers_in c.self.inside.list + offers_in (c.args.act ∷ []) = ap offers_in more ∙ offers_in-append c.self.inside.list (c.args.act ∷ []) in
    let size : length c.push.new.self ≡ length c.self.inside.list + 1 = ap length more ∙ length-append c.self.inside.list (c.args.act ∷ []) in
    (omega arith, omega arith)
