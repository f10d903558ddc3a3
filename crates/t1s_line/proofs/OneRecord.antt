-- An offer of a valid script comes to at most one record over all ticks, since the numbers of its offers differ and so do
-- those of its nodes.
use Rattle.std.proofs.Common.{◌≡◌, ℕ, zero, suc, ◌+◌, ◌<◌, ◌≤◌, inl, inr, Bool, true, false, cond, eq-eqb, ne_eqb, eqb-true, lt-ltb, le-ltb, List, [], ◌∷◌, ◌++◌, length, get_or, map, Option, Some, None, refl, ◌∙◌, ap, arith}
use Rattle.std.specs.Prelude.{◌==◌, nat_lt}
use Rattle.std.specs.List.{AllPairs, filter, filter_map, cons_option}
use Rattle.std.specs.List.Sorted.{IsStrictlyIncreasing}
use Rattle.std.proofs.lemmas.Bool.{cases_order}
use Rattle.std.proofs.lemmas.List.Kept.{AllPairs-from_increasing}
use Rattle.t1s_world.specs.Events.{events_below}
use Rattle.t1s_script.specs.Script.{IsScript, number_in, numbers_of, offer_number}
use Rattle.t1s_script.specs.declared.script.Act.{Act}
use Rattle.t1s_script.specs.declared.script.Deed.{Deed}
use Rattle.t1s_script.specs.declared.script.Deed.TheVariants.{Offer as OfferDeed, Noise}
use Rattle.t1s_script.specs.declared.script.Script.{Script}
use Rattle.t1s_line.specs.Acts.{Offer, offer_of, offers_at}
use Rattle.t1s_line.specs.Offers.{OfferRecord, offer_record, records_of_offer, records_of, after_offer}
use Rattle.t1s_line.specs.Outcomes.{NodePhases, KeepsNumber}
use Rattle.t1s_line.specs.Runs.{records_in}
use Rattle.t1s_line.specs.Track.{track_phases}
use Rattle.t1s_line.specs.World.{world, offer_records_at, offer_records_below}
use Rattle.t1s_line.proofs.RecordCounts.{length-filter-le, length-filter-cons, length-filter-append, length-records_of_offer}
use Rattle.t1s_line.proofs.ScriptNodes.{offer_no, numbers_stay}

-- ---- numbers of which none stands twice

abbrev pub times : ℕ → List ℕ → ℕ
times k ns = length (filter (λ m. m == k) ns)

abbrev pub AreDistinct : List ℕ → Type 0
AreDistinct ns = (k : ℕ) → times k ns ≤ 1

times_below : (k : ℕ) (ns : List ℕ) → ((i d : ℕ) → i < length ns → k < get_or ns i d) → times k ns ≡ 0
times_below k [] above = refl
times_below k (n ∷ ns) above =
    let high : k < n = above 0 0 (omega arith) in
    let other : (n == k) ≡ false = ne_eqb n k (omega arith) in
    let here = length-filter-cons (λ m. m == k) n ns in
    let none : cond {A = ℕ} (n == k) 1 0 ≡ 0 = rw other refl in
    omega (arith, here, none, times_below k ns (λ i d lt. above (suc i) d (omega arith)))

times_paired : (ns : List ℕ) → AllPairs (λ x y. x < y) ns → AreDistinct ns
times_paired [] pairs k = omega arith
times_paired (n ∷ ns) pairs k = go (n == k) refl (times_paired ns (λ i j d lt within. pairs (suc i) (suc j) d (omega arith) (omega arith)) k)
  where
    go : (b : Bool) → (n == k) ≡ b → times k ns ≤ 1 → times k (n ∷ ns) ≤ 1
    go true is rest =
        let same : n ≡ k = eqb-true n k is in
        let none : times k ns ≡ 0 = times_below k ns (λ i d lt. rw (← same) (pairs 0 (suc i) d (omega arith) (omega arith))) in
        let one : cond {A = ℕ} (n == k) 1 0 ≡ 1 = rw is refl in
        omega (arith, length-filter-cons (λ m. m == k) n ns, none, one)
    go false is rest =
        let none : cond {A = ℕ} (n == k) 1 0 ≡ 0 = rw is refl in
        omega (arith, length-filter-cons (λ m. m == k) n ns, none, rest)

distinct : (ns : List ℕ) → IsStrictlyIncreasing ns → AreDistinct ns
distinct ns rise = times_paired ns (AllPairs-from_increasing ns rise)

-- ---- the records of one tick

abbrev pub has_number : ℕ → OfferRecord → Bool
has_number number r = r.number == number

abbrev is_of : ℕ → Offer → Bool
is_of number o = o.queued.number == number

module _ {N : Type 0} (p : NodePhases N) (t number : ℕ) where
  abbrev records_with : List OfferRecord → ℕ
  records_with rs = length (filter (has_number number) rs)

  others : (o : Offer) (nodes : List N) → is_of number o ≡ false → records_with (records_of_offer p t o nodes) ≡ 0
  others o [] other = refl
  others o (n ∷ nodes) other = go (p.number n == o.node) (others o nodes other)
    where
      go : (b : Bool) → records_with (records_of_offer p t o nodes) ≡ 0
          → records_with (cond b (offer_record p t o n ∷ []) [] ++ records_of_offer p t o nodes) ≡ 0
      go true rest = rw other rest
      go false rest = rest

  record_of_offer : (o : Offer) (nodes : List N) → AreDistinct (map p.number nodes)
      → records_with (records_of_offer p t o nodes) ≤ cond (is_of number o) 1 0
  record_of_offer o nodes once = go (is_of number o) refl
    where
      go : (b : Bool) → is_of number o ≡ b → records_with (records_of_offer p t o nodes) ≤ cond b 1 0
      go true is =
          omega (arith, length-filter-le (has_number number) (records_of_offer p t o nodes), length-records_of_offer p t o nodes, once o.node)
      go false is = omega (arith, others o nodes is)

  module _ (keeps : KeepsNumber p) where
    offer_keeps : (o : Offer) (nodes : List N) → map p.number (after_offer p t o nodes) ≡ map p.number nodes
    offer_keeps o [] = refl
    offer_keeps o (n ∷ nodes) =
        ap (λ (k : ℕ). k ∷ map p.number (after_offer p t o nodes)) (go (p.number n == o.node))
        ∙ ap (λ (r : List ℕ). p.number n ∷ r) (offer_keeps o nodes)
      where
        go : (b : Bool) → p.number (cond b (p.offer t o.queued n).0 n) ≡ p.number n
        go true = keeps t o.queued n
        go false = refl

    records_of_offers : (os : List Offer) (nodes : List N) → AreDistinct (map p.number nodes)
        → records_with (records_of p t os nodes) ≤ length (filter (is_of number) os)
    records_of_offers [] nodes once = omega arith
    records_of_offers (o ∷ os) nodes once =
        let first : List OfferRecord = records_of_offer p t o nodes in
        let then : List OfferRecord = records_of p t os (after_offer p t o nodes) in
        let split : records_with (first ++ then) ≡ records_with first + records_with then = length-filter-append (has_number number) first then in
        let rest = records_of_offers os (after_offer p t o nodes) (rw (offer_keeps o nodes) once) in
        omega (arith, split, record_of_offer o nodes once, rest, length-filter-cons (is_of number) o os)

-- ---- the offers of this number among the acts, and among those before a tick

module _ (number : ℕ) where
  abbrev offers_it : Option ℕ → ℕ
  offers_it None = 0
  offers_it (Some n) = cond (n == number) 1 0

  abbrev offered_before : ℕ → List Act → ℕ
  offered_before t [] = 0
  offered_before t (a ∷ more) = cond (nat_lt a.tick t) (offers_it (number_in a.deed)) 0 + offered_before t more

  abbrev offers_with : List Act → ℕ → ℕ
  offers_with acts t = length (filter (is_of number) (offers_at acts t))

  offers_cons : (a : Act) (more : List Act) (t : ℕ)
      → offers_at (a ∷ more) t ≡ cons_option (cond (a.tick == t) (offer_of a.deed) None) (offers_at more t)
  unfolding offers_at
  offers_cons a more t = refl

  -- an act in front counts if it stands at this tick
  offers_with_cons : (a : Act) (more : List Act) (t : ℕ)
      → offers_with (a ∷ more) t ≡ cond (a.tick == t) (offers_it (number_in a.deed)) 0 + offers_with more t
  offers_with_cons a more t = ap (λ (os : List Offer). length (filter (is_of number) os)) (offers_cons a more t) ∙ go (a.tick == t)
    where
      deed : (x : Deed) → length (filter (is_of number) (cons_option (offer_of x) (offers_at more t))) ≡ offers_it (number_in x) + offers_with more t
      deed (OfferDeed n node frame) =
          length-filter-cons (is_of number) (record { node = node; queued = record { number = n; frame = frame } }) (offers_at more t)
      deed (Noise until) = omega arith

      go : (b : Bool) → length (filter (is_of number) (cons_option (cond b (offer_of a.deed) None) (offers_at more t)))
          ≡ cond b (offers_it (number_in a.deed)) 0 + offers_with more t
      go true = deed a.deed
      go false = omega arith

  -- an act is before the next tick if it is before this one or at it
  next_tick : (tick t count : ℕ) → cond (nat_lt tick (suc t)) count 0 ≡ cond (nat_lt tick t) count 0 + cond (tick == t) count 0
  next_tick tick t count = elim (cases_order tick t) [
    | inl same ↦ rw (lt-ltb tick (suc t) (omega arith), le-ltb tick t (omega arith), eq-eqb tick t same) (omega arith)
    | inr order ↦ elim order [
      | inl lt ↦ rw (lt-ltb tick (suc t) (omega arith), lt-ltb tick t lt, ne_eqb tick t (omega arith)) (omega arith)
      | inr gt ↦ rw (le-ltb tick (suc t) (omega arith), le-ltb tick t (omega arith), ne_eqb tick t (omega arith)) (omega arith)
    ]
  ]

  offered_next : (acts : List Act) (t : ℕ) → offered_before t acts + offers_with acts t ≡ offered_before (suc t) acts
  unfolding offers_at
  offered_next [] t = omega arith
  offered_next (a ∷ more) t =
      let here = offers_with_cons a more t in
      let next = next_tick a.tick t (offers_it (number_in a.deed)) in
      omega (arith, here, next, offered_next more t)

  offered_once : (acts : List Act) (t : ℕ) → offered_before t acts ≤ times number (filter_map offer_number acts)
  offered_once [] t = omega arith
  offered_once (a ∷ more) t = go (nat_lt a.tick t) a.deed (filter_map offer_number more) (offered_once more t)
    where
      go : (b : Bool) (x : Deed) (numbers : List ℕ) → offered_before t more ≤ times number numbers
          → cond b (offers_it (number_in x)) 0 + offered_before t more ≤ times number (cons_option (number_in x) numbers)
      go true (OfferDeed n node frame) numbers rest = omega (arith, rest, length-filter-cons (λ m. m == number) n numbers)
      go false (OfferDeed n node frame) numbers rest = omega (arith, rest, length-filter-cons (λ m. m == number) n numbers)
      go true (Noise until) numbers rest = omega (arith, rest)
      go false (Noise until) numbers rest = omega (arith, rest)

-- ---- all ticks

module _ (s : Script) (valid : IsScript s) (number : ℕ) where
  records_at_tick : (t : ℕ) → length (filter (has_number number) (offer_records_at s t)) ≤ offers_with number s.acts t
  unfolding records_in
  records_at_tick t =
      records_of_offers track_phases t number offer_no (offers_at s.acts t) (world s t).nodes
      (rw (numbers_stay s t) (distinct (numbers_of s.nodes) valid.ascending))

  records_below_tick : (t : ℕ) → length (filter (has_number number) (offer_records_below s t)) ≤ offered_before number t s.acts
  unfolding events_below
  records_below_tick zero = omega arith
  records_below_tick (suc t) =
      let old : List OfferRecord = offer_records_below s t in
      let new : List OfferRecord = offer_records_at s t in
      let split = length-filter-append (has_number number) old new in
      omega (arith, split, records_below_tick t, records_at_tick t, offered_next number s.acts t)

  pub one_record : (t : ℕ) → length (filter (has_number number) (offer_records_below s t)) ≤ 1
  one_record t =
      omega (arith, records_below_tick t, offered_once number s.acts t, distinct (filter_map offer_number s.acts) valid.offers_in_order number)
