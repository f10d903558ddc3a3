-- The offers of a valid script: they stand in the order of their ticks and of their numbers, so no two have one number.
use Rattle.std.proofs.Common.{◌≡◌, ℕ, zero, suc, ◌+◌, ◌==◌, ◌<◌, ◌≤◌, ◌⊎◌, inl, inr, Bool, true, false, cond, List, [], ◌∷◌, ◌++◌, map, filter_map, Option, Some, None, refl, sym, ◌∙◌, ap, ap₂, subst, arith}
use Rattle.std.specs.List.{AllPairs, cons_option}
use Rattle.std.proofs.lemmas.Bool.Decides.{nat_tests}
use Rattle.std.proofs.lemmas.List.Kept.{AllPairs-from_increasing}
use Rattle.t1s_ring.specs.declared.queued.Queued.{Queued}
use Rattle.t1s_script.specs.Script.{IsScript, offer_number}
use Rattle.t1s_script.specs.declared.script.Act.{Act}
use Rattle.t1s_script.specs.declared.script.Deed.{Deed}
use Rattle.t1s_script.specs.declared.script.Deed.TheVariants.{Offer as OfferDeed, Noise}
use Rattle.t1s_script.specs.declared.script.Script.{Script}
use Rattle.t1s_line.specs.Acts.{Offer, offer_of, offers_at, queued_to, offers_to}
use Rattle.t1s_turns.specs.Leavings.{offers_from, AllAbove, RanksAscend}
use Rattle.t1s_node.specs.Runs.{CoreTick}
use Rattle.t1s_delivery.proofs.Members.{Among, place_of, among_cases, among_first, among_rest, nothing_among, among_map, among_kept, kept_from}

-- ---- acts in order

-- act b stands behind act a
abbrev pub IsBehind : Act → Act → Type 0
IsBehind a b = (a.tick ≤ b.tick) × ((m n : ℕ) → offer_number a ≡ Some m → offer_number b ≡ Some n → m < n)

abbrev pub AreInOrder : List Act → Type 0
AreInOrder [] = Unit {0}
AreInOrder (a ∷ acts) = ((b : Act) → Among acts b → IsBehind a b) × AreInOrder acts

rest_pairs : (R : ℕ → ℕ → Type 0) (n : ℕ) (ns : List ℕ) → AllPairs R (n ∷ ns) → AllPairs R ns
rest_pairs R n ns pairs i j d less within = pairs (suc i) (suc j) d (omega (arith, less)) (omega (arith, within))

-- the first number of a list is below each later one
first_below : (R : ℕ → ℕ → Type 0) (n : ℕ) (ns : List ℕ) → AllPairs R (n ∷ ns) → (m : ℕ) → Among ns m → R n m
first_below R n ns pairs m h =
    let (k, below, at) = place_of ns m h in
    subst (λ (x : ℕ). R n x) (at 0) (pairs 0 (suc k) 0 (omega arith) (omega (arith, below)))

rest_numbers : (o : Option ℕ) (ns : List ℕ) → AllPairs (λ x y. x < y) (cons_option o ns) → AllPairs (λ x y. x < y) ns
rest_numbers None ns pairs = pairs
rest_numbers (Some n) ns pairs = rest_pairs (λ x y. x < y) n ns pairs

above_first : (o : Option ℕ) (ns : List ℕ) → AllPairs (λ x y. x < y) (cons_option o ns) → (m n : ℕ) → o ≡ Some m → Among ns n → m < n
above_first None ns pairs m n e h = absurd (cc)
above_first (Some x) ns pairs m n e h = let same : x ≡ m = cc in subst (λ (y : ℕ). y < n) same (first_below (λ x y. x < y) x ns pairs n h)

in_order : (acts : List Act) → AllPairs (λ x y. x ≤ y) (map (λ (a : Act). a.tick) acts) → AllPairs (λ x y. x < y) (filter_map offer_number acts)
    → AreInOrder acts
in_order [] ticks numbers = tt
in_order (a ∷ acts) ticks numbers = (
  λ b there. (
    first_below (λ x y. x ≤ y) a.tick (map (λ (x : Act). x.tick) acts) ticks b.tick (among_map (λ (x : Act). x.tick) acts b there),
    λ m n is_m is_n. above_first (offer_number a) (filter_map offer_number acts) numbers m n is_m (among_kept offer_number acts b n there is_n),
  ),
  in_order acts (rest_pairs (λ x y. x ≤ y) a.tick (map (λ (x : Act). x.tick) acts) ticks)
      (rest_numbers (offer_number a) (filter_map offer_number acts) numbers),
)

pub acts_in_order : (s : Script) → IsScript s → AreInOrder s.acts
acts_in_order s script =
    in_order s.acts (λ i j d less within. script.acts_in_order i j d (omega (arith, less)) within)
    (AllPairs-from_increasing (filter_map offer_number s.acts) script.offers_in_order)

-- so one number has one offer
pub one_offer : (acts : List Act) → AreInOrder acts → (a b : Act) (n : ℕ) → Among acts a → Among acts b → offer_number a ≡ Some n
    → offer_number b ≡ Some n → a ≡ b
one_offer [] order a b n has_a has_b is_a is_b = absurd (nothing_among a has_a)
one_offer (x ∷ acts) order a b n has_a has_b is_a is_b =
    go (among_cases x acts a has_a) (among_cases x acts b has_b) (λ in_a in_b. one_offer acts order.1 a b n in_a in_b is_a is_b)
  where
    go : (x ≡ a) ⊎ Among acts a → (x ≡ b) ⊎ Among acts b → (Among acts a → Among acts b → a ≡ b) → a ≡ b
    go (inl same) (inl equal) rest = sym same ∙ equal
    go (inl same) (inr later) rest = absurd (omega (arith, (order.0 b later).1 n n (ap offer_number same ∙ is_a) is_b))
    go (inr later) (inl same) rest = absurd (omega (arith, (order.0 a later).1 n n (ap offer_number same ∙ is_b) is_a))
    go (inr later) (inr too) rest = rest later too

-- ---- what a node is offered in a tick

abbrev pub act_of : ℕ → ℕ → Queued → Act
act_of t node q = record { tick = t; deed = OfferDeed q.number node q.frame }

deed_offered : (t node : ℕ) (q : Queued) (tick : ℕ) (d : Deed) (o : Offer) → tick ≡ t → offer_of d ≡ Some o → queued_to node o ≡ Some q
    → record { tick = tick; deed = d } ≡ act_of t node q
deed_offered t node q tick (OfferDeed number to frame) o now is given =
    let same : record { node = to; queued = record { number = number; frame = frame } } ≡ o = cc in
    by (to == node) refl (subst (λ (x : Offer). queued_to node x ≡ Some q) (sym same) given)
  where
    by : (b : Bool) → (to == node) ≡ b → cond b (Some (record { number = number; frame = frame })) None ≡ Some q
        → record { tick = tick; deed = OfferDeed number to frame } ≡ act_of t node q
    by true e f =
        let equal : record { number = number; frame = frame } ≡ q = cc in
        let mine : to ≡ node = grind (arith, nat_tests, e) in
        ap₂ (λ (k l : ℕ). record { tick = k; deed = OfferDeed number l frame }) now mine ∙ ap (λ (x : Queued). act_of t node x) equal
    by false e f = absurd (cc)
deed_offered t node q tick (Noise until) o now is given = absurd (cc)

act_offered : (t node : ℕ) (q : Queued) (a : Act) (o : Offer) → cond (a.tick == t) (offer_of a.deed) None ≡ Some o → queued_to node o ≡ Some q
    → a ≡ act_of t node q
act_offered t node q a o is given = by (a.tick == t) refl is
  where
    by : (b : Bool) → (a.tick == t) ≡ b → cond b (offer_of a.deed) None ≡ Some o → a ≡ act_of t node q
    by true e f = let now : a.tick ≡ t = grind (arith, nat_tests, e) in deed_offered t node q a.tick a.deed o now f given
    by false e f = absurd (cc)

-- it stands among the acts
pub offer_act : (acts : List Act) (t node : ℕ) (q : Queued) → Among (offers_to acts t node) q → Among acts (act_of t node q)
unfolding offers_at
offer_act acts t node q h =
    let (o, offered, given) = kept_from (queued_to node) (offers_at acts t) q h in
    let (a, there, is) = kept_from (λ (x : Act). cond (x.tick == t) (offer_of x.deed) None) acts o offered in
    subst (Among acts) (act_offered t node q a o is given) there

-- and what stands among the acts is offered
deed_given : (t node : ℕ) (q : Queued) → cond (t == t) (offer_of (OfferDeed q.number node q.frame)) None ≡ Some (record { node = node; queued = q })
deed_given t node q = let b : (t == t) ≡ true = grind (arith, nat_tests) in rw b refl

queued_given : (node : ℕ) (q : Queued) → queued_to node (record { node = node; queued = q }) ≡ Some q
queued_given node q = let b : (node == node) ≡ true = grind (arith, nat_tests) in rw b refl

pub act_offers : (acts : List Act) (t node : ℕ) (q : Queued) → Among acts (act_of t node q) → Among (offers_to acts t node) q
unfolding offers_at
act_offers acts t node q h =
    among_kept (queued_to node) (offers_at acts t) (record { node = node; queued = q }) q
    (among_kept (λ (x : Act). cond (x.tick == t) (offer_of x.deed) None) acts (act_of t node q) (record { node = node; queued = q }) h
    (deed_given t node q))
    (queued_given node q)

-- ---- the numbers ascend in a tick, and from tick to tick

module _ (node t u : ℕ) (p q : Queued) (less : t < u) where
  between : (xs : List Act) → AreInOrder xs → Among xs (act_of t node p) → Among xs (act_of u node q) → p.number < q.number
  between [] o has_p has_q = absurd (nothing_among (act_of t node p) has_p)
  between (x ∷ xs) o has_p has_q =
      go (among_cases x xs (act_of t node p) has_p) (among_cases x xs (act_of u node q) has_q) (λ in_p in_q. between xs o.1 in_p in_q)
    where
      go : (x ≡ act_of t node p) ⊎ Among xs (act_of t node p) → (x ≡ act_of u node q) ⊎ Among xs (act_of u node q)
          → (Among xs (act_of t node p) → Among xs (act_of u node q) → p.number < q.number) → p.number < q.number
      go (inl same) (inl equal) rest = absurd (omega (arith, less, ap (λ (a : Act). a.tick) (sym same ∙ equal)))
      go (inl same) (inr later) rest = (o.0 (act_of u node q) later).1 p.number q.number (ap offer_number same) refl
      go (inr later) (inl same) rest = absurd (omega (arith, less, (o.0 (act_of t node p) later).0, ap (λ (a : Act). a.tick) same))
      go (inr later) (inr too) rest = rest later too

abbrev Ascend : List Queued → Type 0
Ascend qs = RanksAscend (λ (x : ℕ). x) qs

above_from : (least : ℕ) (qs : List Queued) → ((q : Queued) → Among qs q → least < q.number) → AllAbove (λ (x : ℕ). x) least qs
above_from least [] each = tt
above_from least (q ∷ qs) each = (each q (among_first q qs), above_from least qs (λ r there. each r (among_rest q qs r there)))

module _ (t node : ℕ) (a : Act) (xs : List Act) (o : AreInOrder (a ∷ xs)) where
  abbrev kept : Option Offer
  kept = cond (a.tick == t) (offer_of a.deed) None

  offered : (x : Offer) (r : Option Queued) → kept ≡ Some x → queued_to node x ≡ r → Ascend (offers_to xs t node)
      → Ascend (cons_option r (offers_to xs t node))
  offered x None is given rest = rest
  offered x (Some p) is given rest = (
    above_from p.number (offers_to xs t node) (λ q there.
        let mine : a ≡ act_of t node p = act_offered t node p a x is given in
        (o.0 (act_of t node q) (offer_act xs t node q there)).1 p.number q.number (ap offer_number mine) refl),
    rest,
  )

  put : (x : Option Offer) → kept ≡ x → Ascend (offers_to xs t node) → Ascend (filter_map (queued_to node) (cons_option x (offers_at xs t)))
  put None is rest = rest
  put (Some x) is rest = offered x (queued_to node x) is refl rest

in_tick : (t node : ℕ) (xs : List Act) → AreInOrder xs → Ascend (offers_to xs t node)
unfolding offers_at
in_tick t node [] o = tt
in_tick t node (a ∷ xs) o = put t node a xs o (cond (a.tick == t) (offer_of a.deed) None) refl (in_tick t node xs o.1)

above_append : (least : ℕ) (ps qs : List Queued) → AllAbove (λ (x : ℕ). x) least ps → AllAbove (λ (x : ℕ). x) least qs
    → AllAbove (λ (x : ℕ). x) least (ps ++ qs)
above_append least [] qs first then = then
above_append least (p ∷ ps) qs first then = (first.0, above_append least ps qs first.1 then)

ascend_append : (ps qs : List Queued) → Ascend ps → Ascend qs → ((p q : Queued) → Among ps p → Among qs q → p.number < q.number) → Ascend (ps ++ qs)
ascend_append [] qs first then less = then
ascend_append (p ∷ ps) qs first then less = (
  above_append p.number ps qs first.0 (above_from p.number qs (λ q there. less p q (among_first p ps) there)),
  ascend_append ps qs first.1 then (λ r q has_r has_q. less r q (among_rest p ps r has_r) has_q),
)

in_append : (ps qs : List Queued) (x : Queued) → Among (ps ++ qs) x → Among ps x ⊎ Among qs x
in_append [] qs x h = inr h
in_append (p ∷ ps) qs x h = go (among_cases p (ps ++ qs) x h) (λ later. in_append ps qs x later)
  where
    go : (p ≡ x) ⊎ Among (ps ++ qs) x → (Among (ps ++ qs) x → Among ps x ⊎ Among qs x) → Among (p ∷ ps) x ⊎ Among qs x
    go (inl same) rest = inl (subst (λ (y : Queued). Among (p ∷ ps) y) same (among_first p ps))
    go (inr later) rest = elim (rest later) [ inl here ↦ inl (among_rest p ps x here) | inr then ↦ inr then ]

module _ (acts : List Act) (order : AreInOrder acts) (node begin : ℕ) (told : ℕ → CoreTick)
    (are : (u : ℕ) → (told u).offers ≡ offers_to acts (begin + u) node) where
  abbrev Given : ℕ → Queued → Type 0
  Given u q = Among (offers_to acts (begin + u) node) q

  from_tick : (n u : ℕ) (q : Queued) → Among (offers_from told u n) q → (w : ℕ) × (u ≤ w) × Given w q
  from_tick zero u q h = absurd (nothing_among q h)
  from_tick (suc n) u q h = elim (in_append (told u).offers (offers_from told (suc u) n) q h) [
    | inl here ↦ (u, omega arith, subst (λ (qs : List Queued). Among qs q) (are u) here)
    | inr later ↦ let (w, low, there) = from_tick n (suc u) q later in (w, omega (arith, low), there)
  ]

  -- the numbers of a node's offers ascend
  pub numbers_ascend : (n u : ℕ) → Ascend (offers_from told u n)
  numbers_ascend zero u = tt
  numbers_ascend (suc n) u =
      ascend_append (told u).offers (offers_from told (suc u) n) (subst Ascend (sym (are u)) (in_tick (begin + u) node acts order))
      (numbers_ascend n (suc u))
      (λ p q first then.
      let here : Given u p = subst (λ (qs : List Queued). Among qs p) (are u) first in
      let (w, low, there) = from_tick n (suc u) q then in
      between node (begin + u) (begin + w) p q (omega (arith, low)) acts order (offer_act acts (begin + u) node p here)
      (offer_act acts (begin + w) node q there))
