-- The record of an offer names the tick in which it is made, so a record below a tick names one below it.
use Rattle.std.proofs.Common.{◌≡◌, ℕ, zero, suc, ◌<◌, Bool, true, false, cond, List, [], ◌∷◌, ◌++◌, All, refl, arith}
use Rattle.std.specs.Prelude.{◌==◌}
use Rattle.std.proofs.lemmas.List.Elements.{All-nil, All-cons, All-append, All-weaker}
use Rattle.t1s_world.specs.Events.{events_below}
use Rattle.t1s_script.specs.declared.script.Script.{Script}
use Rattle.t1s_line.specs.Acts.{Offer, offers_at}
use Rattle.t1s_line.specs.Offers.{OfferRecord, offer_record, records_of_offer, records_of, after_offer}
use Rattle.t1s_line.specs.Outcomes.{NodePhases}
use Rattle.t1s_line.specs.Runs.{records_in}
use Rattle.t1s_line.specs.Track.{track_phases}
use Rattle.t1s_line.specs.World.{world, offer_records_at, offer_records_below}

module _ {N : Type 0} (p : NodePhases N) (t : ℕ) where
  abbrev IsMadeNow : OfferRecord → Type 0
  IsMadeNow r = r.tick ≡ t

  offer_made_now : (o : Offer) (nodes : List N) → All IsMadeNow (records_of_offer p t o nodes)
  offer_made_now o [] = All-nil IsMadeNow
  offer_made_now o (n ∷ nodes) = go (p.number n == o.node) (offer_made_now o nodes)
    where
      go : (b : Bool) → All IsMadeNow (records_of_offer p t o nodes)
          → All IsMadeNow (cond b (offer_record p t o n ∷ []) [] ++ records_of_offer p t o nodes)
      go true rest = All-cons IsMadeNow (offer_record p t o n) (records_of_offer p t o nodes) refl rest
      go false rest = rest

  made_now : (os : List Offer) (nodes : List N) → All IsMadeNow (records_of p t os nodes)
  made_now [] nodes = All-nil IsMadeNow
  made_now (o ∷ os) nodes =
      All-append IsMadeNow (records_of_offer p t o nodes) (records_of p t os (after_offer p t o nodes)) (offer_made_now o nodes)
      (made_now os (after_offer p t o nodes))

module _ (s : Script) where
  pub ticks_at : (t : ℕ) → All (λ (r : OfferRecord). r.tick ≡ t) (offer_records_at s t)
  unfolding records_in
  ticks_at t = made_now track_phases t (offers_at s.acts t) (world s t).nodes

  pub ticks_below : (t : ℕ) → All (λ (r : OfferRecord). r.tick < t) (offer_records_below s t)
  unfolding events_below
  ticks_below zero = All-nil (λ (r : OfferRecord). r.tick < 0)
  ticks_below (suc t) =
      let early : OfferRecord → Type 0 = λ (r : OfferRecord). r.tick < suc t in
      All-append early (offer_records_below s t) (offer_records_at s t)
      (All-weaker (λ (r : OfferRecord). r.tick < t) early (λ r lt. omega (arith, lt)) (offer_records_below s t) (ticks_below t))
      (All-weaker (λ (r : OfferRecord). r.tick ≡ t) early (λ r e. omega (arith, e)) (offer_records_at s t) (ticks_at t))
