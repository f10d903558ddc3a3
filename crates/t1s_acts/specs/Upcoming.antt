-- The acts that are still to come, act by act.
use Rattle.std.specs.Prelude.{ℕ, ◌==◌, ◌-◌, ◌≤◌, min, ⊤, All, IfSome, List, [], ◌∷◌, Option, None, Some, if◌then◌else◌}
use Rattle.std.specs.Option.{option_to_list}
use Rattle.t1s_script.specs.Script.{offer_number}
use Rattle.t1s_script.specs.declared.script.Act.{Act}
use Rattle.t1s_script.specs.declared.script.Deed.{Deed}
use Rattle.t1s_script.specs.declared.script.Deed.TheVariants.{Offer as OfferDeed, Noise}
use Rattle.t1s_line.specs.Acts.{Offer, offer_of}

-- these acts come in the order of their ticks, none before tick t
abbrev pub AreComing : ℕ → List Act → Type 0
AreComing t [] = ⊤
AreComing t (a ∷ acts) = (t ≤ a.tick) × AreComing a.tick acts

-- the next act, where it is one of tick t
abbrev pub next_due : ℕ → List Act → Option Deed
next_due t [] = None
next_due t (a ∷ acts) = if a.tick == t then Some a.deed else None

-- and those that are to come after it
abbrev pub after_due : ℕ → List Act → List Act
after_due t [] = []
after_due t (a ∷ acts) = if a.tick == t then acts else a ∷ acts

-- how many ticks from tick t on come before the next act, at most so many
abbrev pub free_ticks : ℕ → ℕ → List Act → ℕ
free_ticks t most [] = most
free_ticks t most (a ∷ acts) = min (a.tick - t) most

-- the frame that an act offers, if it does, and the tick up to which it makes noise
abbrev pub offers_of : Deed → List Offer
offers_of deed = option_to_list (offer_of deed)

abbrev pub noise_end : Deed → ℕ
noise_end (OfferDeed number node frame) = 0
noise_end (Noise until) = until

-- no offer among these acts has a number above this one
abbrev pub AreWithin : List Act → ℕ → Type 0
AreWithin acts last = All (λ a. IfSome (offer_number a) (λ number. number ≤ last)) acts
