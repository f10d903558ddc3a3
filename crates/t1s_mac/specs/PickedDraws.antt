-- Draws of either kind mean what the kind that was picked means.
use Rattle.std.specs.Prelude.{ℕ}
use Rattle.t1s_mac.specs.Draws.{seed_answer, seed_after, list_answer, list_after}
use Rattle.t1s_mac.specs.declared.picked_draws.PickedDraws.{PickedDraws}
use Rattle.t1s_mac.specs.declared.picked_draws.PickedDraws.TheVariants.{Seed, List}

-- the number that a draw for this attempt would answer
abbrev pub picked_answer : PickedDraws → ℕ → ℕ
picked_answer (Seed draws) attempt = seed_answer draws attempt
picked_answer (List draws) attempt = list_answer draws attempt

-- what stands after one draw
abbrev pub picked_after : PickedDraws → PickedDraws
picked_after (Seed draws) = Seed (seed_after draws)
picked_after (List draws) = List (list_after draws)
