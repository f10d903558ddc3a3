-- What a node knows of the newest wave that it has seen, by the premises on its waves.
use Rattle.std.proofs.Common.{◌≡◌, ℕ, ◌+◌, ◌<◌, ◌≤◌, ◌⊎◌, inl, inr, Bool, true, false, nat_lt, List, [], ◌∷◌, length, refl, sym, ◌∙◌, ap, subst, arith, rules}
use Rattle.std.proofs.lemmas.Bool.{cases_lt, false≢true}
use Rattle.std.proofs.lemmas.Bool.Decides.{nat_tests}
use Rattle.t1s_world.specs.Waves.{CycleSettings, IsCycleSettings, Wave, Behind, AreBehind, IsWave, EachWave, IsAlive, arrived, seen, lag, opportunity_start, reads_beacon}
use Rattle.t1s_world.proofs.Opportunities.{opportunity_far, opportunity_low}
use Rattle.t1s_world.proofs.SeenWaves.{NewestArrived, is_seen, still_rises, standing, head_is, each_arrived, each_seen, lag_low}
use Rattle.t1s_turns.specs.ControlOverWaves.{WasThere, from_start, from_within}
use Rattle.t1s_turns.proofs.WaitingSteps.{NewestSeen}

-- a wave that is seen has come
pub seen_past : (n : CycleSettings) (t : ℕ) (ws : List Wave) (a : Wave) (rest : List Wave) → seen n t ws ≡ a ∷ rest → a.from + lag n a < t
seen_past n t [] a rest e = absurd (cc)
seen_past n t (w ∷ ws) a rest e = elim (cases_lt (w.from + lag n w) t) [
  | inl past ↦
      let s : nat_lt (w.from + lag n w) t ≡ true = search (rules, nat_tests) in
      let head = (head_is w a ws rest (rw s at e)).0 in
      subst (λ (x : Wave). x.from + lag n x < t) head past
  | inr later ↦
      let s : nat_lt (w.from + lag n w) t ≡ false = search (rules, nat_tests) in
      seen_past n t ws a rest (rw s at e)
]

-- a place is at most the count of IDs
pub place_low : (n : CycleSettings) (now : ℕ) (w : Wave) → IsWave n now w → w.place ≤ n.count
place_low n now w h = by w.beacon refl
  where
    by : (b : Bool) → w.beacon ≡ b → w.place ≤ n.count
    by true e = omega (arith, h.beacon e)
    by false e = omega (arith, (h.run e).0)

-- a coordinator reads no beacon of another
pub none_read : (n : CycleSettings) (now : ℕ) (w : Wave) → IsWave n now w → n.owns 0 ≡ true → w.own ≡ false → reads_beacon w ≡ false
none_read n now w h zero other = by w.beacon refl
  where
    by : (b : Bool) → w.beacon ≡ b → reads_beacon w ≡ false
    by true e = absurd (false≢true (sym other ∙ (sym (h.by_owner e) ∙ zero)))
    by false e = rw e refl

module _ (n : CycleSettings) (is : IsCycleSettings n) (begin t now : ℕ) (soon : t ≤ now) (ws : List Wave) (behind : AreBehind n ws) (each : EachWave (IsWave n now) ws) (a : Wave) (rest : List Wave)
    (newest : seen n t ws ≡ a ∷ rest) where
  pub seen_wave : IsWave n now a
  seen_wave = (subst (λ (xs : List Wave). EachWave (IsWave n now) xs) newest (each_seen (IsWave n now) n t ws each)).0

  pub long_or_lasts : (a.from + n.rise ≤ a.till) ⊎ (t ≤ a.till)
  long_or_lasts = elim seen_wave.over [ inl going ↦ inr (omega (arith, going, soon)) | inr long ↦ inl long ]

  pub was_there : WasThere n begin t a → begin < a.till
  was_there (from_within over long) = omega (arith, long, is.rise_low)
  was_there (from_start from) =
      let past = seen_past n t ws a rest newest in
      elim long_or_lasts [ inl long ↦ omega (arith, from, long, is.rise_low) | inr lasting ↦ omega (arith, from, past, lasting) ]

  pub knows_of : WasThere n begin t a → NewestSeen n begin t ws a rest
  knows_of there = record {
    newest = newest;
    there = was_there there;
    whole = there;
    long = long_or_lasts;
    coming = λ v e. comes_on v e (standing n is t ws a rest behind newest);
    low = seen_wave.low;
  }
    where
      same_list : (v : Wave) (xs : List Wave) → xs ≡ v ∷ a ∷ rest → xs ≡ a ∷ rest → ⊥
      same_list v xs e f = let lengths = ap (λ (ys : List Wave). length ys) (sym f ∙ e) in absurd (omega (arith, lengths))

      comes_on : (v : Wave) → arrived t ws ≡ v ∷ a ∷ rest → NewestArrived n t ws a rest → t ≤ v.till
      comes_on v e (is_seen at past) = absurd (same_list v (arrived t ws) e at)
      comes_on v e (still_rises w at other come late b) =
          let wave = (subst (λ (xs : List Wave). EachWave (IsWave n now) xs) e (each_arrived (IsWave n now) t ws each)).0 in
          let from = ap (λ (x : Wave). x.from) (head_is w v (a ∷ rest) (a ∷ rest) (sym at ∙ e)).0 in
          elim wave.over [ inl going ↦ omega (arith, going, soon) | inr long ↦ omega (arith, long, late, from) ]

  sooner : (xs : List Wave) → IsAlive n now xs → IsAlive n t xs
  sooner [] h = tt
  sooner (w ∷ ws) h = omega (arith, h, soon)

  -- no node that counts passes all IDs
  pub never_asleep : IsAlive n now ws → ((v : Wave) → arrived t ws ≡ v ∷ a ∷ rest → t < v.from + n.rise) → t ≡ opportunity_start n a 255 → ⊥
  never_asleep alive none at = go ws behind each (sooner ws alive) newest none
    where
      last : (b : Wave) → IsWave n now b → a.next ≤ b.place → opportunity_start n a b.place + n.to ≤ t
      last b h order = let room = opportunity_far n a b.place 255 order (omega (arith, place_low n now b h, is.count_high)) in omega (arith, room, at)

      by_newest : (w : Wave) (ws : List Wave) → IsWave n now w → t < opportunity_start n w n.count + n.to → w ∷ ws ≡ a ∷ rest → ⊥
      by_newest w ws h alive e =
          let alive_a = subst (λ (x : Wave). t < opportunity_start n x n.count + n.to) (head_is w a ws rest e).0 alive in
          let room = opportunity_far n a n.count 255 seen_wave.low (omega (arith, is.count_high)) in
          absurd (omega (arith, alive_a, room, at))

      go : (ws : List Wave) → AreBehind n ws → EachWave (IsWave n now) ws → IsAlive n t ws → seen n t ws ≡ a ∷ rest → ((v : Wave) → arrived t ws ≡ v ∷ a ∷ rest → t < v.from + n.rise) → ⊥
      go [] h each alive e none = absurd (cc)
      go (w ∷ []) h each alive e none = elim (cases_lt (w.from + lag n w) t) [
        | inl past ↦ let s : nat_lt (w.from + lag n w) t ≡ true = search (rules, nat_tests) in by_newest w [] each.0 alive (rw s at e)
        | inr later ↦ let s : nat_lt (w.from + lag n w) t ≡ false = search (rules, nat_tests) in let none_seen : [] ≡ a ∷ rest = rw s at e in absurd (cc)
      ]
      go (w ∷ x ∷ xs) h each alive e none = elim (cases_lt (w.from + lag n w) t) [
        | inl past ↦ let s : nat_lt (w.from + lag n w) t ≡ true = search (rules, nat_tests) in by_newest w (x ∷ xs) each.0 alive (rw s at e)
        | inr later ↦
            let s : nat_lt (w.from + lag n w) t ≡ false = search (rules, nat_tests) in
            let e' : seen n t (x ∷ xs) ≡ a ∷ rest = rw s at e in
            elim (cases_lt (x.from + lag n x) t) [
              | inl seen_x ↦
                  let s' : nat_lt (x.from + lag n x) t ≡ true = search (rules, nat_tests) in
                  let same : x ∷ xs ≡ a ∷ rest = rw s' at e' in
                  let pair = subst (λ (y : Wave). Behind n y w) (head_is x a xs rest same).0 h.1 in
                  let end = last w each.0 pair.order in
                  elim (cases_lt w.from t) [
                    | inl come ↦
                        let b : nat_lt w.from t ≡ true = search (rules, nat_tests) in
                        let rising = none w (rw b (ap (λ (ys : List Wave). w ∷ ys) same)) in
                        absurd (omega (arith, rising, pair.high, end))
                    | inr not_come ↦ absurd (omega (arith, not_come, pair.high, end, is.rise_low))
                  ]
              | inr unseen_x ↦
                  let few = lag_low n is x in
                  let b : nat_lt w.from t ≡ false = (let far : t ≤ w.from = omega (arith, unseen_x, few, h.1.long, h.1.gap) in search (rules, nat_tests)) in
                  let alive_x : t < opportunity_start n x n.count + n.to = (let low = opportunity_low n x n.count in omega (arith, low, unseen_x, few, h.1.long, is.fall_low)) in
                  go (x ∷ xs) h.2 each.1 alive_x e' (λ v f. none v (rw b f))
            ]
      ]
