use Rattle.std.proofs.Common.{◌≡◌, ◌<◌, ℕ, None, replicate, get_or, arith}
use Rattle.std.proofs.lemmas.Grind.{common_steps}
use Rattle.t1s_base.specs.Limits.{most_nodes}
use Rattle.t1s_script.proofs.Nodes.{all_free}
use Rattle.t1s_script.proofs.draft.Draft.start.Goals as goal

pub returns : goal.returns
returns c =
    let free : (i : ℕ) → i < most_nodes → get_or c.from_fn.result i None ≡ None = λ i below. (let step = c.from_fn.ensures.items.at i None below in grind (arith, common_steps)) in
    let slots : c.from_fn.result ≡ replicate most_nodes None = all_free c.from_fn.result most_nodes c.from_fn.ensures.items.long free in
    λ k. record { settings = c.none.ensures k; seed = None; slots = slots k; acts = c.none-2.ensures k; latest = 0; end = None }
