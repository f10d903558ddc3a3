-- How many offers a tick has, and how many records of offers a tick and a run of ticks have.
use Rattle.std.proofs.Common.{◌≡◌, ℕ, zero, suc, ◌+◌, ◌*◌, ◌≤◌, Bool, true, false, cond, List, [], ◌∷◌, ◌++◌, length, length-append, map, Option, Some, None, refl, ◌∙◌, ap, arith, if◌then◌else◌}
use Rattle.std.specs.Prelude.{◌==◌}
use Rattle.std.specs.List.{filter, filter_map, cons_option}
use Rattle.std.proofs.lemmas.List.{length-map}
use Rattle.std.proofs.lemmas.List.Elements.{filter-append}
use Rattle.std.proofs.lemmas.List.Sums.{length-filter, count_by-le-length}
use Rattle.t1s_world.specs.Events.{events_below}
use Rattle.t1s_script.specs.declared.script.Act.{Act}
use Rattle.t1s_line.specs.Acts.{Offer, offer_of, offers_at}
use Rattle.t1s_line.specs.Offers.{offer_record, records_of_offer, records_of, after_offer}
use Rattle.t1s_line.specs.Outcomes.{NodePhases}

-- ---- lists

pub length-filter-le : {X : Type 0} (p : X → Bool) (xs : List X) → length (filter p xs) ≤ length xs
length-filter-le p xs = rw (length-filter p xs) (count_by-le-length p xs)

-- an element in front, if it passes
pub length-filter-cons : {X : Type 0} (p : X → Bool) (x : X) (xs : List X) → length (filter p (x ∷ xs)) ≡ cond (p x) 1 0 + length (filter p xs)
length-filter-cons p x xs = go (p x)
  where
    go : (b : Bool) → length (cond b (x ∷ filter p xs) (filter p xs)) ≡ cond b 1 0 + length (filter p xs)
    go true = omega arith
    go false = omega arith

pub length-filter-append : {X : Type 0} (p : X → Bool) (xs ys : List X) → length (filter p (xs ++ ys)) ≡ length (filter p xs) + length (filter p ys)
length-filter-append p xs ys = ap length (filter-append p xs ys) ∙ length-append (filter p xs) (filter p ys)

length-filter_map-le : {X Y : Type 0} (f : X → Option Y) (xs : List X) → length (filter_map f xs) ≤ length xs
length-filter_map-le f [] = omega arith
length-filter_map-le {X} {Y} f (x ∷ xs) = go (f x) (length-filter_map-le f xs)
  where
    go : (o : Option Y) → length (filter_map f xs) ≤ length xs → length (cons_option o (filter_map f xs)) ≤ suc (length xs)
    go None rest = omega (arith, rest)
    go (Some y) rest = omega (arith, rest)

-- ticks of at most so many events
pub length-events_below : {E : Type 0} (events : ℕ → List E) (k : ℕ) → ((t : ℕ) → length (events t) ≤ k) → (t : ℕ)
    → length (events_below events t) ≤ k * t
unfolding events_below
length-events_below events k few zero = omega arith
length-events_below events k few (suc t) = omega (arith, length-append (events_below events t) (events t), length-events_below events k few t, few t)

-- ---- offers

pub length-offers_at : (acts : List Act) (t : ℕ) → length (offers_at acts t) ≤ length acts
unfolding offers_at
length-offers_at acts t = length-filter_map-le (λ (a : Act). if a.tick == t then offer_of a.deed else None) acts

module _ {N : Type 0} (p : NodePhases N) (t : ℕ) where
  -- an offer becomes one record at each node of its number
  pub length-records_of_offer : (o : Offer) (nodes : List N)
      → length (records_of_offer p t o nodes) ≡ length (filter (λ m. m == o.node) (map p.number nodes))
  length-records_of_offer o [] = refl
  length-records_of_offer o (n ∷ nodes) = go (p.number n == o.node) (filter (λ m. m == o.node) (map p.number nodes)) (length-records_of_offer o nodes)
    where
      go : (b : Bool) (those : List ℕ) → length (records_of_offer p t o nodes) ≡ length those
          → length (cond b (offer_record p t o n ∷ []) [] ++ records_of_offer p t o nodes) ≡ length (cond b (p.number n ∷ those) those)
      go true those rest = ap suc rest
      go false those rest = rest

  pub length-records_of : (k : ℕ) (os : List Offer) (nodes : List N) → length nodes ≤ k → length (records_of p t os nodes) ≤ k * length os
  length-records_of k [] nodes few = omega arith
  length-records_of k (o ∷ os) nodes few =
      let here = length-append (records_of_offer p t o nodes) (records_of p t os (after_offer p t o nodes)) in
      let each = length-filter-le (λ m. m == o.node) (map p.number nodes) in
      let same : length (after_offer p t o nodes) ≡ length nodes = length-map nodes _ in
      let rest = length-records_of k os (after_offer p t o nodes) (omega (arith, same)) in
      omega (arith, here, length-records_of_offer o nodes, each, length-map nodes p.number, rest)
