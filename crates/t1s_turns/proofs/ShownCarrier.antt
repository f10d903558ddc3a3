-- What control is shown of the carrier, by the newest wave that it has seen.
use Rattle.std.proofs.Common.{◌≡◌, ℕ, ◌+◌, ◌<◌, ◌≤◌, max, ◌⊎◌, inl, inr, Bool, true, false, List, ◌∷◌, sym, ap, arith}
use Rattle.std.proofs.lemmas.Bool.{false≢true}
use Rattle.t1s_node.specs.declared.carrier.Carrier.{Carrier}
use Rattle.t1s_world.specs.Waves.{CycleSettings, IsCycleSettings, Wave, Behind, AreBehind, arrived, seen, opportunity_start}
use Rattle.t1s_world.proofs.SeenWaves.{NewestArrived, is_seen, still_rises, standing, head_is}
use Rattle.t1s_turns.specs.CarrierOverWaves.{CarrierOverWaves, silent, missed, rising, steady, fading, faded, short}

-- carrier at the node, where `came` are the waves that have come: a is over, or fading, or gone; or it has risen for a newer
-- wave, within the opportunity of its place behind a
pub data CarrierShown (n : CycleSettings) (t : ℕ) (came : List Wave) (a : Wave) : Bool → Type 0 where
  lasts_on : t < a.till + n.fall → CarrierShown n t came a true
  gone : a.till + n.fall ≤ t → CarrierShown n t came a false
  caught : (w : Wave) (rest : List Wave) → came ≡ w ∷ a ∷ rest → w.own ≡ false → t ≡ w.from + n.rise → t ≤ w.till
      → opportunity_start n a w.place + 1 ≤ t → t ≤ opportunity_start n a w.place + n.to → a.next ≤ w.place → CarrierShown n t came a true

module _ (n : CycleSettings) (is : IsCycleSettings n) (t : ℕ) where
  module _ (begin : ℕ) (a : Wave) (rest : List Wave) (known : begin < a.till) where
    -- where carrier is off, a newer wave still rises
    pub still_off : (v : Wave) (ws : List Wave) (c : Carrier) → ws ≡ v ∷ a ∷ rest → t ≤ v.till → Behind n a v → c.on ≡ false → v.from < t → CarrierOverWaves n begin t ws c → t < v.from + n.rise
    still_off v _ _ e lasting_on behind quiet come silent = absurd (cc)
    still_off v _ _ e lasting_on behind quiet come (missed {w = w} {ws = ws} past) =
        let till = ap (λ (x : Wave). x.till) (head_is w v ws (a ∷ rest) e).0 in absurd (omega (arith, till, past, known, behind.gap, lasting_on, come))
    still_off v _ _ e lasting_on behind quiet come (rising {w = w} {ws = ws} within is_at few) =
        let from = ap (λ (x : Wave). x.from) (head_is w v ws (a ∷ rest) e).0 in omega (arith, from, is_at, few, known, behind.gap)
    still_off v _ _ e lasting_on behind quiet come (steady within long) = absurd (false≢true (sym quiet))
    still_off v _ _ e lasting_on behind quiet come (fading long at some few) = absurd (false≢true (sym quiet))
    still_off v _ _ e lasting_on behind quiet come (faded {w = w} {ws = ws} past) =
        let till = ap (λ (x : Wave). x.till) (head_is w v ws (a ∷ rest) e).0 in absurd (omega (arith, till, past, lasting_on, is.fall_low))
    still_off v _ _ e lasting_on behind quiet come (short {w = w} {ws = ws} few past) =
        let till = ap (λ (x : Wave). x.till) (head_is w v ws (a ∷ rest) e).0 in absurd (omega (arith, till, past, lasting_on))

  -- what control is shown of the carrier, by the newest wave that it has seen
  module _ (begin : ℕ) (a : Wave) (rest : List Wave) (known : begin < a.till) (risen : (a.till < t) ⊎ (max begin a.from + n.rise < t))
      (read : (max begin a.from + n.rise ≤ a.till) ⊎ (t ≤ a.till)) where
    pub by_seen : (ws : List Wave) (c : Carrier) → ws ≡ a ∷ rest → CarrierOverWaves n begin t ws c → CarrierShown n t ws a c.on
    by_seen _ _ e silent = absurd (cc)
    by_seen _ _ e (missed {w = w} {ws = ws} past) = let same = (head_is w a ws rest e).0 in absurd (omega (arith, ap (λ (x : Wave). x.till) same, past, known))
    by_seen _ _ e (rising {w = w} {ws = ws} within is_at few) =
        let same = (head_is w a ws rest e).0 in
        let till = ap (λ (x : Wave). x.till) same in
        let from = ap (λ (x : Wave). x.from) same in
        elim risen [
          | inl over ↦ absurd (omega (arith, till, within, over))
          | inr more ↦ absurd (omega (arith, from, is_at, few, more))
        ]
    by_seen _ _ e (steady {w = w} {ws = ws} within long) = let till = ap (λ (x : Wave). x.till) (head_is w a ws rest e).0 in lasts_on (omega (arith, till, within, is.fall_low))
    by_seen _ _ e (fading {w = w} {ws = ws} long at some few) = let till = ap (λ (x : Wave). x.till) (head_is w a ws rest e).0 in lasts_on (omega (arith, till, at, few))
    by_seen _ _ e (faded {w = w} {ws = ws} past) = let till = ap (λ (x : Wave). x.till) (head_is w a ws rest e).0 in gone (omega (arith, till, past))
    by_seen _ _ e (short {w = w} {ws = ws} few past) =
        let same = (head_is w a ws rest e).0 in
        let till = ap (λ (x : Wave). x.till) same in
        let from = ap (λ (x : Wave). x.from) same in
        elim read [
          | inl whole ↦ absurd (omega (arith, till, from, few, whole))
          | inr within ↦ absurd (omega (arith, till, past, within))
        ]

    pub by_rising : (v : Wave) (ws : List Wave) (c : Carrier) → ws ≡ v ∷ a ∷ rest → v.own ≡ false → v.from < t → t ≤ v.from + n.rise → t ≤ v.till → Behind n a v → CarrierOverWaves n begin t ws c → CarrierShown n t ws a c.on
    by_rising v _ _ e theirs come soon lasting_on behind silent = absurd (cc)
    by_rising v _ _ e theirs come soon lasting_on behind (missed {w = w} {ws = ws} past) =
        let till = ap (λ (x : Wave). x.till) (head_is w v ws (a ∷ rest) e).0 in absurd (omega (arith, till, past, known, lasting_on, behind.gap, come))
    by_rising v _ _ e theirs come soon lasting_on behind (rising within is_at few) = gone (omega (arith, behind.gap, come))
    by_rising v _ _ e theirs come soon lasting_on behind (steady {w = w} {ws = ws} within long) =
        let from = ap (λ (x : Wave). x.from) (head_is w v ws (a ∷ rest) e).0 in
        let now : t ≡ v.from + n.rise = omega (arith, from, long, soon) in
        caught v rest e theirs now lasting_on (omega (arith, behind.low, now, is.rise_low)) (omega (arith, behind.high, now)) behind.order
    by_rising v _ _ e theirs come soon lasting_on behind (fading {w = w} {ws = ws} long at some few) =
        let till = ap (λ (x : Wave). x.till) (head_is w v ws (a ∷ rest) e).0 in absurd (omega (arith, till, at, some, lasting_on))
    by_rising v _ _ e theirs come soon lasting_on behind (faded {w = w} {ws = ws} past) =
        let till = ap (λ (x : Wave). x.till) (head_is w v ws (a ∷ rest) e).0 in absurd (omega (arith, till, past, lasting_on, is.fall_low))
    by_rising v _ _ e theirs come soon lasting_on behind (short {w = w} {ws = ws} few past) =
        let till = ap (λ (x : Wave). x.till) (head_is w v ws (a ∷ rest) e).0 in absurd (omega (arith, till, past, lasting_on))

    pub crs_of : (ws : List Wave) (c : Carrier) → AreBehind n ws → seen n t ws ≡ a ∷ rest → ((v : Wave) → arrived t ws ≡ v ∷ a ∷ rest → t ≤ v.till)
        → CarrierOverWaves n begin t (arrived t ws) c → CarrierShown n t (arrived t ws) a c.on
    crs_of ws c h e lasting_on carrier = go (standing n is t ws a rest h e)
      where
        go : NewestArrived n t ws a rest → CarrierShown n t (arrived t ws) a c.on
        go (is_seen at past) = by_seen (arrived t ws) c at carrier
        go (still_rises v at theirs come soon behind) = by_rising v (arrived t ws) c at theirs come soon (lasting_on v at) behind carrier
