-- A node's run is a run of its core.
use Rattle.std.proofs.Common.{◌≡◌, ℕ, zero, suc, List, [], ◌∷◌, refl, sym, ◌∙◌, ap}
use Rattle.t1s_ring.specs.declared.queued.Queued.{Queued}
use Rattle.t1s_mac.specs.PickedDraws.{picked_answer, picked_after}
use Rattle.t1s_mac.specs.declared.picked_draws.PickedDraws.{PickedDraws}
use Rattle.t1s_node.specs.Core.{Core, CoreDrive, LineReading, core_drive}
use Rattle.t1s_node.specs.Node.{NodeState, node_after_offer, reading_of}
use Rattle.t1s_node.specs.NodeRuns.{NodeTick, node_after_offers, node_at, core_ticks}
use Rattle.t1s_node.specs.Runs.{core_after_offers, core_at, drive_at}

pub offers_core : (n : NodeState) (qs : List Queued) → (node_after_offers n qs).core ≡ core_after_offers n.core qs
offers_core n [] = refl
offers_core n (q ∷ qs) = offers_core (node_after_offer n q) qs

reading-offers : (n : NodeState) (qs : List Queued) → reading_of (node_after_offers n qs) ≡ reading_of n
reading-offers n [] = refl
reading-offers n (q ∷ qs) = reading-offers (node_after_offer n q) qs

module _ (start : NodeState) (given : ℕ → NodeTick) where
  abbrev drives : Core PickedDraws → LineReading → CoreDrive PickedDraws
  drives c s = core_drive picked_answer picked_after s c

  -- what the core of the node comes to in a tick
  abbrev core_driven : ℕ → CoreDrive PickedDraws
  core_driven t =
      drives (node_after_offers (node_at start given t) (given t).offers).core (reading_of (node_after_offers (node_at start given t) (given t).offers))

  at_zero : node_at start given zero ≡ start
  unfolding node_at
  at_zero = refl

  at_suc : (t : ℕ) → (node_at start given (suc t)).core ≡ (core_driven t).core
  unfolding node_at
  at_suc t = refl

  core_zero : core_at picked_answer picked_after start.core (core_ticks start given) zero ≡ start.core
  unfolding core_at
  core_zero = refl

  core_suc : (t : ℕ) → core_at picked_answer picked_after start.core (core_ticks start given) (suc t)
      ≡ (drive_at picked_answer picked_after start.core (core_ticks start given) t).core
  unfolding core_at
  core_suc t = refl

  pub driven_same : (t : ℕ) → (node_at start given t).core ≡ core_at picked_answer picked_after start.core (core_ticks start given) t
      → core_driven t ≡ drive_at picked_answer picked_after start.core (core_ticks start given) t
  driven_same t same =
      ap (λ (s : LineReading). drives (node_after_offers (node_at start given t) (given t).offers).core s) (reading-offers (node_at start given t) (given t).offers)
      ∙ ap (λ (c : Core PickedDraws). drives c (reading_of (node_at start given t)))
      (offers_core (node_at start given t) (given t).offers ∙ ap (λ (c : Core PickedDraws). core_after_offers c (given t).offers) same)

  pub core_same : (t : ℕ) → (node_at start given t).core ≡ core_at picked_answer picked_after start.core (core_ticks start given) t
  core_same zero = ap (λ (n : NodeState). n.core) at_zero ∙ sym core_zero
  core_same (suc t) = at_suc t ∙ (ap (λ (d : CoreDrive PickedDraws). d.core) (driven_same t (core_same t)) ∙ sym (core_suc t))
