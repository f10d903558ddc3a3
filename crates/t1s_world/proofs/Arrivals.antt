-- The nodes whose quarters arrive at a place, where one or more do.
use Rattle.std.proofs.Common.{◌≡◌, ℕ, zero, suc, ◌+◌, ◌-◌, ◌<◌, ◌≤◌, inl, inr, true, eqb, List, [], ◌∷◌, ◌++◌, length, length-append, Option, None, Some, is_some, refl, ◌∙◌, ap, arith, rules, add-zero, zero-add}
use Rattle.std.specs.Prelude.{◌≢◌}
use Rattle.std.specs.Option.{option_to_list}
use Rattle.t1s_harness.specs.declared.Tap.{Tap}
use Rattle.t1s_harness.specs.Distances.{tap_at, distance}
use Rattle.std.proofs.lemmas.Bool.{cases_lt, cases_eq}
use Rattle.std.proofs.lemmas.Bool.Decides.{nat_tests}
use Rattle.t1s_symbols.specs.declared.Quarter.{Quarter}
use Rattle.t1s_world.specs.Hearing.{heard_of, arriving, arriving_from, heard}
use Rattle.t1s_world.specs.World.{Machine, past, at_depth, driven_at, heard_at}
use Rattle.t1s_world.proofs.SingleSender.{reaches, reaches_not_yet}

module _ (at : ℕ → ℕ → Option Quarter) (j : ℕ) (a : Tap) where
  -- a quarter of the node i places behind the first of these, which is node s, arrives
  abbrev arrives : ℕ → List Tap → ℕ → Type 0
  arrives s taps i = is_some (arriving at j a (s + i) (tap_at taps i)) ≡ true

  -- what arrives of all is what arrives of the first, and of the others
  first_more : (s : ℕ) (b : Tap) (taps : List Tap) (n : ℕ) → n ≤ length (arriving_from at j a (s + 1) taps) → arrives s (b ∷ taps) 0 → suc n ≤ length (arriving_from at j a s (b ∷ taps))
  first_more s b taps n rest first = by (arriving at j a s b) (rw add-zero at first)
    where
      by : (o : Option Quarter) → is_some o ≡ true → suc n ≤ length (option_to_list o ++ arriving_from at j a (s + 1) taps)
      by None e = absurd (cc)
      by (Some q) e = omega (arith, rest)

  others_more : (s : ℕ) (b : Tap) (taps : List Tap) (n : ℕ) → n ≤ length (arriving_from at j a (s + 1) taps) → n ≤ length (arriving_from at j a s (b ∷ taps))
  others_more s b taps n rest =
      omega (arith, rest, length-append (option_to_list (arriving at j a s b)) (arriving_from at j a (s + 1) taps))

  on : (s : ℕ) (b : Tap) (taps : List Tap) (i : ℕ) → arrives (s + 1) taps i → arrives s (b ∷ taps) (suc i)
  on s b taps i is = let next : s + suc i ≡ s + 1 + i = omega arith in rw next is

  off : (s : ℕ) (b : Tap) (taps : List Tap) (i : ℕ) → arrives s (b ∷ taps) (suc i) → arrives (s + 1) taps i
  off s b taps i is = let next : s + suc i ≡ s + 1 + i = omega arith in rw next at is

  pub one_in : (s : ℕ) (taps : List Tap) (i : ℕ) → i < length taps → arrives s taps i → 1 ≤ length (arriving_from at j a s taps)
  one_in s [] i below is = absurd (omega (arith, below))
  one_in s (b ∷ taps) zero below is = first_more s b taps 0 (omega arith) is
  one_in s (b ∷ taps) (suc i) below is = others_more s b taps 1 (one_in (s + 1) taps i (omega (arith, below)) (off s b taps i is))

  pub two_in : (s : ℕ) (taps : List Tap) (i k : ℕ) → i < k → k < length taps → arrives s taps i → arrives s taps k → 2 ≤ length (arriving_from at j a s taps)
  two_in s [] i k less below one other = absurd (omega (arith, below))
  two_in s (b ∷ taps) i zero less below one other = absurd (omega (arith, less))
  two_in s (b ∷ taps) zero (suc k) less below one other =
      first_more s b taps 1 (one_in (s + 1) taps k (omega (arith, below)) (off s b taps k other)) one
  two_in s (b ∷ taps) (suc i) (suc k) less below one other =
      others_more s b taps 2 (two_in (s + 1) taps i k (omega (arith, less)) (omega (arith, below)) (off s b taps i one) (off s b taps k other))

  -- one of these nodes of which a quarter arrives, or two
  abbrev One : List Tap → ℕ → Type 0
  One taps s = (i : ℕ) × (i < length taps) × arrives s taps i

  abbrev Two : List Tap → ℕ → Type 0
  Two taps s = (i k : ℕ) × (i < k) × (k < length taps) × arrives s taps i × arrives s taps k

  pub one_of : (s : ℕ) (taps : List Tap) → 1 ≤ length (arriving_from at j a s taps) → One taps s
  one_of s [] some = absurd (omega (arith, some))
  one_of s (b ∷ taps) some = by (arriving at j a s b) refl (λ rest. one_of (s + 1) taps rest)
    where
      by : (o : Option Quarter) → arriving at j a s b ≡ o → (1 ≤ length (arriving_from at j a (s + 1) taps) → One taps (s + 1)) → One (b ∷ taps) s
      by None e others =
          let (i, below, is) = others (rw e at some) in
          (suc i, omega (arith, below), on s b taps i is)
      by (Some q) e others = (0, omega arith, rw (add-zero, e) refl)

  pub two_of : (s : ℕ) (taps : List Tap) → 2 ≤ length (arriving_from at j a s taps) → Two taps s
  two_of s [] some = absurd (omega (arith, some))
  two_of s (b ∷ taps) some = by (arriving at j a s b) refl (λ rest. two_of (s + 1) taps rest)
    where
      by : (o : Option Quarter) → arriving at j a s b ≡ o → (2 ≤ length (arriving_from at j a (s + 1) taps) → Two taps (s + 1)) → Two (b ∷ taps) s
      by None e others =
          let (i, k, less, below, one, other) = others (rw e at some) in
          (suc i, suc k, omega (arith, less), omega (arith, below), on s b taps i one, on s b taps k other)
      by (Some q) e others =
          let two : 2 ≤ suc (length (arriving_from at j a (s + 1) taps)) = rw e at some in
          let (k, below, is) = one_of (s + 1) taps (omega (arith, two)) in
          (0, suc k, omega arith, omega (arith, below), rw (add-zero, e) refl, on s b taps k is)

-- ---- of any machine

module _ {Node DriveOutcome HearOutcome : Type 0} (m : Machine Node DriveOutcome HearOutcome) (taps : List Tap) (first : List Node) (t j : ℕ) where
  abbrev away : ℕ → ℕ
  away i = distance taps j i

  -- a quarter of node i is at the place of node j in tick t
  pub record Reaches (i : ℕ) : Type 0 where
    pub near : away i ≤ t
    pub drives : is_some (driven_at m taps first (t - away i) i) ≡ true

  -- the quarters of the other nodes that are there
  abbrev pub arrivals : List Quarter
  arrivals = arriving_from (at_depth (past m taps first (suc t)).rows) j (tap_at taps j) 0 taps

  pub heard_is : heard_at m taps first t j ≡ heard_of arrivals
  unfolding heard
  heard_is = refl

  abbrev arrives_of : ℕ → Type 0
  arrives_of i = is_some (arriving (at_depth (past m taps first (suc t)).rows) j (tap_at taps j) i (tap_at taps i)) ≡ true

  reaches_of : (i : ℕ) → arrives_of i → (i ≢ j) × Reaches i
  reaches_of i is = elim (cases_eq i j) [
    | inl same ↦ let own : eqb i j ≡ true = search (rules, nat_tests) in absurd (let none = rw own at is in cc)
    | inr other ↦ elim (cases_lt t (away i)) [
      | inl soon ↦ let none = reaches_not_yet m taps first t j i soon in absurd (let no = rw none at is in cc)
      | inr near ↦ (other, record { near = near; drives = rw (reaches m taps first t j i other near) at is })
    ]
  ]

  arrives_from : (i : ℕ) → i ≢ j → Reaches i → arrives_of i
  arrives_from i other reaching = ap (λ (o : Option Quarter). is_some o) (reaches m taps first t j i other reaching.near) ∙ reaching.drives

  pub one_reaches : 1 ≤ length arrivals → (i : ℕ) × (i ≢ j) × Reaches i
  one_reaches some =
      let (i, below, is) = one_of (at_depth (past m taps first (suc t)).rows) j (tap_at taps j) 0 taps some in
      let (other, reaching) = reaches_of i (rw zero-add at is) in
      (i, other, reaching)

  pub two_reach : 2 ≤ length arrivals → (i k : ℕ) × (i < k) × (i ≢ j) × (k ≢ j) × Reaches i × Reaches k
  two_reach some =
      let (i, k, less, below, one, other) = two_of (at_depth (past m taps first (suc t)).rows) j (tap_at taps j) 0 taps some in
      let (first_apart, first_there) = reaches_of i (rw zero-add at one) in
      let (second_apart, second_there) = reaches_of k (rw zero-add at other) in
      (i, k, less, first_apart, second_apart, first_there, second_there)

  pub one_heard : (i : ℕ) → i < length taps → i ≢ j → Reaches i → 1 ≤ length arrivals
  one_heard i below other reaching =
      one_in (at_depth (past m taps first (suc t)).rows) j (tap_at taps j) 0 taps i below (rw zero-add (arrives_from i other reaching))

  pub two_heard : (i k : ℕ) → i < k → k < length taps → i ≢ j → k ≢ j → Reaches i → Reaches k → 2 ≤ length arrivals
  two_heard i k less below one other first_there second_there =
      two_in (at_depth (past m taps first (suc t)).rows) j (tap_at taps j) 0 taps i k less below
      (rw zero-add (arrives_from i one first_there)) (rw zero-add (arrives_from k other second_there))
