-- The acts of a script, tick by tick: offers of frames to nodes, and noise.
use Rattle.std.specs.Prelude.{ℕ, ◌==◌, nat_lt, not, ◌&&◌, Bool, false, List, filter_map, Option, None, Some, if◌then◌else◌}
use Rattle.std.specs.List.{list_any}
use Rattle.t1s_symbols.specs.declared.Heard.{Heard}
use Rattle.t1s_symbols.specs.declared.Heard.TheVariants.{Many}
use Rattle.t1s_ring.specs.declared.queued.Queued.{Queued}
use Rattle.t1s_script.specs.declared.script.Act.{Act}
use Rattle.t1s_script.specs.declared.script.Deed.{Deed}
use Rattle.t1s_script.specs.declared.script.Deed.TheVariants.{Offer as OfferDeed, Noise}

-- a frame that is offered to the node with this number
pub record Offer : Type 0 where
  pub node : ℕ
  pub queued : Queued

abbrev pub offer_of : Deed → Option Offer
offer_of (OfferDeed number node frame) = Some (record { node = node; queued = record { number = number; frame = frame } })
offer_of (Noise until) = None

-- the offers of tick t, in the order of their lines
unfoldable pub offers_at : List Act → ℕ → List Offer
offers_at acts t = filter_map (λ (a : Act). if a.tick == t then offer_of a.deed else None) acts

abbrev pub queued_to : ℕ → Offer → Option Queued
queued_to node o = if o.node == node then Some o.queued else None

-- those of them that the node with this number is offered
abbrev pub offers_to : List Act → ℕ → ℕ → List Queued
offers_to acts t node = filter_map (queued_to node) (offers_at acts t)

-- one of the acts has the tick t
unfoldable pub has_act : List Act → ℕ → Bool
has_act acts t = list_any (λ (a : Act). a.tick == t) acts

-- a noise that began at this tick lasts in tick t: it lasts up to the tick that it names, which is quiet again
abbrev pub is_noise_in : ℕ → ℕ → Deed → Bool
is_noise_in t begin (OfferDeed number node frame) = false
is_noise_in t begin (Noise until) = not (nat_lt t begin) && nat_lt t until

unfoldable pub is_noisy : List Act → ℕ → Bool
is_noisy acts t = list_any (λ (a : Act). is_noise_in t a.tick a.deed) acts

-- what a node hears in tick t where the cable brings it this: many signals while a noise lasts
abbrev pub with_noise : List Act → ℕ → Heard → Heard
with_noise acts t h = if is_noisy acts t then Many else h
