-- The acts of a tick, one after another: which are still to come, what they offer, and how long their noise lasts.
use Rattle.std.proofs.Common.{◌≡◌, ℕ, suc, ◌+◌, ◌<◌, ◌≤◌, max, inl, inr, Bool, true, false, eqb, ltb, ◌||◌, List, [], ◌∷◌, ◌++◌, length, get_or, map, Option, Some, None, refl, sym, ◌∙◌, arith, rules}
use Rattle.std.specs.List.{cons_option}
use Rattle.std.specs.List.Sorted.{IsNonDecreasing}
use Rattle.std.specs.Option.{option_to_list}
use Rattle.std.proofs.lemmas.Bool.{cases_eq, eq-eqb}
use Rattle.std.proofs.lemmas.Bool.Decides.{nat_tests}
use Rattle.t1s_script.specs.declared.script.Act.{Act}
use Rattle.t1s_script.specs.declared.script.Deed.{Deed}
use Rattle.t1s_script.specs.declared.script.Deed.TheVariants.{Offer as OfferDeed, Noise}
use Rattle.t1s_line.specs.Acts.{Offer, offer_of, offers_at, has_act, is_noise_in, is_noisy}
use Rattle.t1s_acts.specs.Upcoming.{AreComing, next_due, after_due, free_ticks, offers_of, noise_end}

-- acts in the order of their ticks
pub coming_first : (t : ℕ) (acts : List Act) → IsNonDecreasing (map (λ (a : Act). a.tick) acts) → (0 < length acts → t ≤ get_or (map (λ (a : Act). a.tick) acts) 0 0) → AreComing t acts
coming_first t [] order low = tt
coming_first t (a ∷ acts) order low = (
  low (omega arith),
  coming_first a.tick acts (λ i j d le lt. order (suc i) (suc j) d (omega arith) (omega arith)) (λ some. second a acts order some),
)
  where
    second : (a : Act) (acts : List Act) → IsNonDecreasing (map (λ (a : Act). a.tick) (a ∷ acts)) → 0 < length acts → a.tick ≤ get_or (map (λ (a : Act). a.tick) acts) 0 0
    second a [] order some = absurd (omega arith)
    second a (b ∷ acts) order some = order 0 1 0 (omega arith) (omega arith)

pub coming_later : (t u : ℕ) (acts : List Act) → t ≤ u → AreComing u acts → AreComing t acts
coming_later t u [] le coming = tt
coming_later t u (a ∷ acts) le coming = (omega (arith, coming.0), coming.1)

-- ---- one act

pub offers_none : (u : ℕ) → offers_at [] u ≡ []
unfolding offers_at
offers_none u = refl

one_offer : (o : Option Offer) (rest : List Offer) → cons_option o rest ≡ option_to_list o ++ rest
one_offer None rest = refl
one_offer (Some o) rest = refl

pub offers_due : (a : Act) (acts : List Act) (u : ℕ) → a.tick ≡ u → offers_at (a ∷ acts) u ≡ offers_of a.deed ++ offers_at acts u
unfolding offers_at
offers_due a acts u e = rw (eq-eqb a.tick u e) (one_offer (offer_of a.deed) (offers_at acts u))

pub offers_other : (a : Act) (acts : List Act) (u : ℕ) → (a.tick ≡ u → ⊥) → offers_at (a ∷ acts) u ≡ offers_at acts u
unfolding offers_at
offers_other a acts u ne = let b : eqb a.tick u ≡ false = search (rules, nat_tests) in rw b refl

pub act_none : (u : ℕ) → has_act [] u ≡ false
unfolding has_act
act_none u = refl

pub act_here : (a : Act) (acts : List Act) (u : ℕ) → a.tick ≡ u → has_act (a ∷ acts) u ≡ true
unfolding has_act
act_here a acts u e = rw (eq-eqb a.tick u e) refl

pub act_other : (a : Act) (acts : List Act) (u : ℕ) → (a.tick ≡ u → ⊥) → has_act (a ∷ acts) u ≡ has_act acts u
unfolding has_act
act_other a acts u ne = let b : eqb a.tick u ≡ false = search (rules, nat_tests) in rw b refl

pub noisy_none : (u : ℕ) → is_noisy [] u ≡ false
unfolding is_noisy
noisy_none u = refl

pub noisy_one : (a : Act) (acts : List Act) (u : ℕ) → is_noisy (a ∷ acts) u ≡ (is_noise_in u a.tick a.deed || is_noisy acts u)
unfolding is_noisy
noisy_one a acts u = refl

noise_begun : (u begin : ℕ) (deed : Deed) → begin ≤ u → is_noise_in u begin deed ≡ ltb u (noise_end deed)
noise_begun u begin (OfferDeed number node frame) le = let b : ltb u 0 ≡ false = search (rules, nat_tests) in sym b
noise_begun u begin (Noise until) le = let b : ltb u begin ≡ false = search (rules, nat_tests) in rw b refl

noise_not_begun : (u begin : ℕ) (deed : Deed) → u < begin → is_noise_in u begin deed ≡ false
noise_not_begun u begin (OfferDeed number node frame) lt = refl
noise_not_begun u begin (Noise until) lt = let b : ltb u begin ≡ true = search (rules, nat_tests) in rw b refl

below_max : (u a b : ℕ) → ltb u (max a b) ≡ (ltb u b || ltb u a)
below_max u a b = grind (arith, nat_tests)

or_turn : (a b c : Bool) → (a || (b || c)) ≡ ((b || a) || c)
or_turn true true c = refl
or_turn true false c = refl
or_turn false true c = refl
or_turn false false c = refl

-- the noise of an act that is done lasts on
pub noise_done : (a : Act) (acts : List Act) (u until : ℕ) → a.tick ≤ u → (is_noisy acts u || ltb u (max until (noise_end a.deed))) ≡ (is_noisy (a ∷ acts) u || ltb u until)
noise_done a acts u until le =
    rw (noisy_one a acts u, noise_begun u a.tick a.deed le, below_max u until (noise_end a.deed)) (or_turn (is_noisy acts u) (ltb u (noise_end a.deed)) (ltb u until))

-- ---- in a tick before all of them there is no offer and no noise

pub no_offers : (t u : ℕ) (acts : List Act) → u < t → AreComing t acts → offers_at acts u ≡ []
no_offers t u [] lt coming = offers_none u
no_offers t u (a ∷ acts) lt coming =
    offers_other a acts u (λ e. omega (arith, coming.0, e)) ∙ no_offers a.tick u acts (omega (arith, coming.0)) coming.1

pub no_acts : (t u : ℕ) (acts : List Act) → u < t → AreComing t acts → has_act acts u ≡ false
no_acts t u [] lt coming = act_none u
no_acts t u (a ∷ acts) lt coming =
    act_other a acts u (λ e. omega (arith, coming.0, e)) ∙ no_acts a.tick u acts (omega (arith, coming.0)) coming.1

pub no_noise : (t u : ℕ) (acts : List Act) → u < t → AreComing t acts → is_noisy acts u ≡ false
no_noise t u [] lt coming = noisy_none u
no_noise t u (a ∷ acts) lt coming =
    noisy_one a acts u
    ∙ rw (noise_not_begun u a.tick a.deed (omega (arith, coming.0))) (no_noise a.tick u acts (omega (arith, coming.0)) coming.1)

-- ---- the next act

-- it is one of tick t, or all that are still to come are later
pub record IsDue (t : ℕ) (acts : List Act) (deed : Deed) : Type 0 where
  pub act : Act
  pub tick : act.tick ≡ t
  pub deed_is : act.deed ≡ deed
  pub acts_are : acts ≡ act ∷ after_due t acts

pub due : (t : ℕ) (acts : List Act) (deed : Deed) → next_due t acts ≡ Some deed → IsDue t acts deed
due t [] deed e = cc
due t (a ∷ acts) deed e = elim (cases_eq a.tick t) [
  | inl same ↦
      let b : eqb a.tick t ≡ true = eq-eqb a.tick t same in
      let is : Some a.deed ≡ Some deed = rw b at e in
      record { act = a; tick = same; deed_is = cc; acts_are = rw b refl }
  | inr other ↦
      let b : eqb a.tick t ≡ false = search (rules, nat_tests) in
      let none : ◌≡◌ {A = Option Deed} None (Some deed) = rw b at e in
      cc
]

pub none_due : (t : ℕ) (acts : List Act) → next_due t acts ≡ None → AreComing t acts → (after_due t acts ≡ acts) × AreComing (t + 1) acts
none_due t [] e coming = (refl, tt)
none_due t (a ∷ acts) e coming = elim (cases_eq a.tick t) [
  | inl same ↦
      let b : eqb a.tick t ≡ true = eq-eqb a.tick t same in
      let some : ◌≡◌ {A = Option Deed} (Some a.deed) None = rw b at e in
      cc
  | inr other ↦
      let b : eqb a.tick t ≡ false = search (rules, nat_tests) in
      (rw b refl, (omega (arith, coming.0, other), coming.1))
]

-- the ticks before it are free, and where they are fewer than asked for, it comes then
pub free_coming : (t most n : ℕ) (acts : List Act) → n ≤ free_ticks t most acts → AreComing t acts → AreComing (t + n) acts
free_coming t most n [] le coming = tt
free_coming t most n (a ∷ acts) le coming = (omega (arith, coming.0, le), coming.1)

pub free_ends : (t most n : ℕ) (acts : List Act) → n ≡ free_ticks t most acts → AreComing t acts → n < most → has_act acts (t + n) ≡ true
free_ends t most n [] is coming lt = absurd (omega (arith, is, lt))
free_ends t most n (a ∷ acts) is coming lt = act_here a acts (t + n) (omega (arith, coming.0, is, lt))

pub free_within : (t most : ℕ) (acts : List Act) → free_ticks t most acts ≤ most
free_within t most [] = omega arith
free_within t most (a ∷ acts) = omega arith
