-- The waves that have come against those that control has seen: the same, or one more that still rises.
use Rattle.std.proofs.Common.{◌≡◌, ℕ, ◌+◌, ◌<◌, ◌≤◌, ◌⊎◌, inl, inr, Bool, true, false, nat_lt, List, [], ◌∷◌, refl, sym, ◌∙◌, ap, subst, arith, rules}
use Rattle.std.proofs.lemmas.Bool.{cases_lt, cases_eq, cond_both}
use Rattle.std.proofs.lemmas.Bool.Decides.{nat_tests}
use Rattle.t1s_world.specs.Waves.{CycleSettings, IsCycleSettings, Wave, Behind, AreBehind, EachWave, OldestWave, arrived, seen, lag}
use Rattle.t1s_world.proofs.ArrivedWaves.{older}

-- the newest wave that has come, against a, the newest that control has seen
pub data NewestArrived (n : CycleSettings) (t : ℕ) (ws : List Wave) (a : Wave) (rest : List Wave) : Type 0 where
  is_seen : arrived t ws ≡ a ∷ rest → a.from + lag n a < t → NewestArrived n t ws a rest
  still_rises : (w : Wave) → arrived t ws ≡ w ∷ a ∷ rest → w.own ≡ false → w.from < t → t ≤ w.from + n.rise → Behind n a w → NewestArrived n t ws a rest

-- the head of a list that is known
pub head_is : (a b : Wave) (xs ys : List Wave) → a ∷ xs ≡ b ∷ ys → (a ≡ b) × (xs ≡ ys)
head_is a b xs ys e = (cc, cc)

pub lag_of : (n : CycleSettings) (w : Wave) (b : Bool) → w.own ≡ b → (b ≡ true) × (lag n w ≡ 0) ⊎ ((b ≡ false) × (lag n w ≡ n.rise))
lag_of n w true e = inl (refl, rw e refl)
lag_of n w false e = inr (refl, rw e refl)

pub lag_low : (n : CycleSettings) → IsCycleSettings n → (w : Wave) → lag n w ≤ n.rise
lag_low n is w = elim (lag_of n w w.own refl) [
  | inl own ↦ omega (arith, own.1)
  | inr other ↦ omega (arith, other.1)
]

-- what is known of each wave of a list, and of its oldest, is known of those that have come, and of those that are seen
pub each_arrived : (P : Wave → Type 0) (t : ℕ) (ws : List Wave) → EachWave P ws → EachWave P (arrived t ws)
each_arrived P t [] h = tt
each_arrived P t (w ∷ ws) h = cond_both (nat_lt w.from t) _ _ (EachWave P) (λ _. h) (λ _. each_arrived P t ws h.1)

pub each_seen : (P : Wave → Type 0) (n : CycleSettings) (t : ℕ) (ws : List Wave) → EachWave P ws → EachWave P (seen n t ws)
each_seen P n t [] h = tt
each_seen P n t (w ∷ ws) h = cond_both (nat_lt (w.from + lag n w) t) _ _ (EachWave P) (λ _. h) (λ _. each_seen P n t ws h.1)

pub oldest_arrived : (P : Wave → Type 0) (t : ℕ) (ws : List Wave) → OldestWave P ws → OldestWave P (arrived t ws)
oldest_arrived P t [] h = tt
oldest_arrived P t (w ∷ []) h = cond_both (nat_lt w.from t) _ _ (OldestWave P) (λ _. h) (λ _. tt)
oldest_arrived P t (w ∷ v ∷ ws) h = cond_both (nat_lt w.from t) _ _ (OldestWave P) (λ _. h) (λ _. oldest_arrived P t (v ∷ ws) h)

pub behind_arrived : (n : CycleSettings) (t : ℕ) (ws : List Wave) → AreBehind n ws → AreBehind n (arrived t ws)
behind_arrived n t [] h = tt
behind_arrived n t (w ∷ ws) h = cond_both (nat_lt w.from t) _ _ (AreBehind n) (λ _. h) (λ _. behind_arrived n t ws (older n w ws h))

-- from tick to tick control has seen the same waves, or one more: another's whose carrier is on now, or an own one that begins
pub data SeenNext (n : CycleSettings) (t : ℕ) (ws : List Wave) : Type 0 where
  as_before : seen n (t + 1) ws ≡ seen n t ws → SeenNext n t ws
  risen : (w : Wave) → w.own ≡ false → w.from + n.rise ≡ t → arrived t ws ≡ w ∷ seen n t ws → seen n (t + 1) ws ≡ w ∷ seen n t ws → SeenNext n t ws
  begun : (w : Wave) → w.own ≡ true → w.from ≡ t → arrived (t + 1) ws ≡ w ∷ seen n t ws → seen n (t + 1) ws ≡ w ∷ seen n t ws → SeenNext n t ws

module _ (n : CycleSettings) (is : IsCycleSettings n) where
  -- what is older than a wave that has come has been seen
  all_seen : (t : ℕ) (w : Wave) (ws : List Wave) → AreBehind n (w ∷ ws) → w.from ≤ t → seen n t ws ≡ ws
  all_seen t w [] h come = refl
  all_seen t w (x ∷ xs) h come =
      let few = lag_low n is x in
      let past : x.from + lag n x < t = omega (arith, few, h.1.long, h.1.gap, come, is.fall_low) in
      let s : nat_lt (x.from + lag n x) t ≡ true = search (rules, nat_tests) in
      rw s refl

  module _ (t : ℕ) where
    pub standing : (ws : List Wave) (a : Wave) (rest : List Wave) → AreBehind n ws → seen n t ws ≡ a ∷ rest → NewestArrived n t ws a rest
    standing [] a rest h e = absurd (cc)
    standing (w ∷ ws) a rest h e = elim (cases_lt (w.from + lag n w) t) [
      | inl past ↦
          let s : nat_lt (w.from + lag n w) t ≡ true = search (rules, nat_tests) in
          let b : nat_lt w.from t ≡ true = search (rules, nat_tests, past) in
          let (same, tail) = head_is w a ws rest (rw s at e) in
          is_seen (rw b (ap (λ (x : Wave). x ∷ ws) same ∙ ap (λ (xs : List Wave). a ∷ xs) tail)) (rw same at past)
      | inr not_yet ↦
          let s : nat_lt (w.from + lag n w) t ≡ false = search (rules, nat_tests) in
          let e' : seen n t ws ≡ a ∷ rest = rw s at e in
          elim (cases_lt w.from t) [
            | inl come ↦ let b : nat_lt w.from t ≡ true = search (rules, nat_tests) in rising_one ws h e' come not_yet b (lag_of n w w.own refl)
            | inr later ↦ let b : nat_lt w.from t ≡ false = search (rules, nat_tests) in skip b (standing ws a rest (older n w ws h) e')
          ]
    ]
      where
        skip : nat_lt w.from t ≡ false → NewestArrived n t ws a rest → NewestArrived n t (w ∷ ws) a rest
        skip b (is_seen at past) = is_seen (rw b at) past
        skip b (still_rises v at theirs come soon behind) = still_rises v (rw b at) theirs come soon behind

        rising_one : (ws : List Wave) → AreBehind n (w ∷ ws) → seen n t ws ≡ a ∷ rest → w.from < t → t ≤ w.from + lag n w → nat_lt w.from t ≡ true
            → (w.own ≡ true) × (lag n w ≡ 0) ⊎ ((w.own ≡ false) × (lag n w ≡ n.rise)) → NewestArrived n t (w ∷ ws) a rest
        rising_one ws h e come not_yet b (inl own) = absurd (omega (arith, own.1, come, not_yet))
        rising_one [] h e come not_yet b (inr theirs) = absurd (cc)
        rising_one (x ∷ xs) h e come not_yet b (inr theirs) =
            let few = lag_low n is x in
            let past : x.from + lag n x < t = omega (arith, few, h.1.long, h.1.gap, come, is.fall_low) in
            let s : nat_lt (x.from + lag n x) t ≡ true = search (rules, nat_tests) in
            let (same, tail) = head_is x a xs rest (rw s at e) in
            still_rises w (rw b (ap (λ (y : Wave). w ∷ y ∷ xs) same ∙ ap (λ (ys : List Wave). w ∷ a ∷ ys) tail)) theirs.0 come (omega (arith, not_yet, theirs.1)) (subst (λ (y : Wave). Behind n y w) same h.1)

    pub sees : (ws : List Wave) → AreBehind n ws → SeenNext n t ws
    sees [] h = as_before refl
    sees (w ∷ ws) h = elim (cases_lt (w.from + lag n w) t) [
      | inl past ↦
          let b : nat_lt (w.from + lag n w) t ≡ true = search (rules, nat_tests) in
          let d : nat_lt (w.from + lag n w) (t + 1) ≡ true = search (rules, nat_tests, past) in
          as_before (rw (b, d) refl)
      | inr not_yet ↦
          let b : nat_lt (w.from + lag n w) t ≡ false = search (rules, nat_tests) in
          elim (cases_eq (w.from + lag n w) t) [
            | inl now ↦
                let d : nat_lt (w.from + lag n w) (t + 1) ≡ true = search (rules, nat_tests) in
                one_more d b now (lag_of n w w.own refl)
            | inr later ↦
                let d : nat_lt (w.from + lag n w) (t + 1) ≡ false = search (rules, nat_tests) in
                elim (cases_lt w.from (t + 1)) [
                  | inl come ↦ as_before (rw (d, b) (all_seen (t + 1) w ws h (omega (arith, come)) ∙ sym (all_seen t w ws h (omega (arith, come)))))
                  | inr far ↦
                      let f : nat_lt w.from t ≡ false = search (rules, nat_tests, far) in
                      let g : nat_lt w.from (t + 1) ≡ false = search (rules, nat_tests) in
                      skip d b f g (sees ws (older n w ws h))
                ]
          ]
    ]
      where
        skip : nat_lt (w.from + lag n w) (t + 1) ≡ false → nat_lt (w.from + lag n w) t ≡ false → nat_lt w.from t ≡ false → nat_lt w.from (t + 1) ≡ false
            → SeenNext n t ws → SeenNext n t (w ∷ ws)
        skip d b f g (as_before e) = as_before (rw (d, b) e)
        skip d b f g (risen v theirs now at e) = risen v theirs now (rw (f, b) at) (rw (d, b) e)
        skip d b f g (begun v own now at e) = begun v own now (rw (g, b) at) (rw (d, b) e)

        one_more : nat_lt (w.from + lag n w) (t + 1) ≡ true → nat_lt (w.from + lag n w) t ≡ false → w.from + lag n w ≡ t
            → (w.own ≡ true) × (lag n w ≡ 0) ⊎ ((w.own ≡ false) × (lag n w ≡ n.rise)) → SeenNext n t (w ∷ ws)
        one_more d b now (inl own) =
            let from : w.from ≡ t = omega (arith, now, own.1) in
            let g : nat_lt w.from (t + 1) ≡ true = search (rules, nat_tests, from) in
            let all : seen n t ws ≡ ws = all_seen t w ws h (omega (arith, from)) in
            begun w own.0 from (rw (g, b, all) refl) (rw (d, b, all) refl)
        one_more d b now (inr theirs) =
            let from : w.from + n.rise ≡ t = omega (arith, now, theirs.1) in
            let g : nat_lt w.from t ≡ true = search (rules, nat_tests, from, is.rise_low) in
            let all : seen n t ws ≡ ws = all_seen t w ws h (omega (arith, from)) in
            risen w theirs.0 from (rw (g, b, all) refl) (rw (d, b, all) refl)

    -- an own wave is seen as it comes
    pub own_seen : (ws : List Wave) (a : Wave) (rest : List Wave) → AreBehind n ws → arrived t ws ≡ a ∷ rest → a.own ≡ true → seen n t ws ≡ a ∷ rest
    own_seen [] a rest h e own = absurd (cc)
    own_seen (w ∷ ws) a rest h e own = elim (cases_lt w.from t) [
      | inl come ↦
          let b : nat_lt w.from t ≡ true = search (rules, nat_tests) in
          let (same, tail) = head_is w a ws rest (rw b at e) in
          let mine : w.own ≡ true = ap (λ (x : Wave). x.own) same ∙ own in
          let no_lag : lag n w ≡ 0 = rw mine refl in
          let s : nat_lt (w.from + lag n w) t ≡ true = search (rules, nat_tests, no_lag) in
          rw s (ap (λ (x : Wave). x ∷ ws) same ∙ ap (λ (xs : List Wave). a ∷ xs) tail)
      | inr later ↦
          let b : nat_lt w.from t ≡ false = search (rules, nat_tests) in
          let s : nat_lt (w.from + lag n w) t ≡ false = search (rules, nat_tests, later) in
          rw s (own_seen ws a rest (older n w ws h) (rw b at e) own)
    ]

    -- and another's where the rise of carrier has passed
    pub risen_seen : (ws : List Wave) (a : Wave) (rest : List Wave) → AreBehind n ws → arrived t ws ≡ a ∷ rest → a.from + n.rise < t → seen n t ws ≡ a ∷ rest
    risen_seen [] a rest h e past = absurd (cc)
    risen_seen (w ∷ ws) a rest h e past = elim (cases_lt w.from t) [
      | inl come ↦
          let b : nat_lt w.from t ≡ true = search (rules, nat_tests) in
          let (same, tail) = head_is w a ws rest (rw b at e) in
          let from = ap (λ (x : Wave). x.from) same in
          let few = lag_low n is w in
          let s : nat_lt (w.from + lag n w) t ≡ true = search (rules, nat_tests, few, from, past) in
          rw s (ap (λ (x : Wave). x ∷ ws) same ∙ ap (λ (xs : List Wave). a ∷ xs) tail)
      | inr later ↦
          let b : nat_lt w.from t ≡ false = search (rules, nat_tests) in
          let s : nat_lt (w.from + lag n w) t ≡ false = search (rules, nat_tests, later) in
          rw s (risen_seen ws a rest (older n w ws h) (rw b at e) past)
    ]

-- before the oldest wave none has come
pub none_before : (n : CycleSettings) (first t : ℕ) (ws : List Wave) → AreBehind n ws → OldestWave (λ (w : Wave). w.from ≡ first) ws → t ≤ first → arrived t ws ≡ []
none_before n first t [] h oldest soon = refl
none_before n first t (w ∷ ws) h oldest soon =
    let b : nat_lt w.from t ≡ false = (let low = from_low w ws h oldest in search (rules, nat_tests, low, soon)) in
    rw b (none_before n first t ws (older n w ws h) (oldest_tail w ws oldest) soon)
  where
    oldest_tail : (w : Wave) (ws : List Wave) → OldestWave (λ (x : Wave). x.from ≡ first) (w ∷ ws) → OldestWave (λ (x : Wave). x.from ≡ first) ws
    oldest_tail w [] o = tt
    oldest_tail w (v ∷ vs) o = o

    from_low : (w : Wave) (ws : List Wave) → AreBehind n (w ∷ ws) → OldestWave (λ (x : Wave). x.from ≡ first) (w ∷ ws) → first ≤ w.from
    from_low w [] h o = omega (arith, o)
    from_low w (v ∷ vs) h o = let low = from_low v vs h.2 o in omega (arith, low, h.1.gap, h.1.long)
