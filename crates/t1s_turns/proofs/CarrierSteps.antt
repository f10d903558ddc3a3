-- The carrier reading along waves.
use Rattle.std.proofs.Common.{◌≡◌, ℕ, ◌+◌, ◌<◌, ◌≤◌, inl, inr, true, false, nat_lt, nat_le, List, ◌∷◌, refl, arith, rules}
use Rattle.std.proofs.lemmas.Bool.{cases_lt}
use Rattle.std.proofs.lemmas.Bool.Decides.{nat_tests}
use Rattle.t1s_node.specs.declared.carrier.Carrier.{Carrier}
use Rattle.t1s_node.specs.CarrierTable.{carrier_step}
use Rattle.t1s_world.specs.Waves.{CycleSettings, IsCycleSettings, Wave, AreApart, arrived, sounds_in}
use Rattle.t1s_world.proofs.ArrivedWaves.{ArrivedNext, same, more, comes, lasts}
use Rattle.t1s_turns.specs.CarrierOverWaves.{CarrierOverWaves, off, silent, missed, rising, steady, fading, faded, short}

module _ (n : CycleSettings) (is : IsCycleSettings n) (begin t : ℕ) (started : begin ≤ t) where
  -- the same waves
  keeps : (ws : List Wave) (c : Carrier) → CarrierOverWaves n begin t ws c → CarrierOverWaves n begin (t + 1) ws (carrier_step c (sounds_in t ws) n.rise n.fall)
  keeps _ _ silent = silent
  keeps (w ∷ _) _ (missed gone) = let b : nat_lt t w.till ≡ false = search (rules, nat_tests) in rw b (missed {w = w} gone)
  keeps (w ∷ _) _ (rising {e = e} within is_at few) = elim (cases_lt t w.till) [
    | inl lt ↦
        let b : nat_lt t w.till ≡ true = search (rules, nat_tests) in
        elim (cases_lt (e + 1) n.rise) [
          | inl less ↦ let d : nat_le n.rise (e + 1) ≡ false = search (rules, nat_tests) in rw (b, d) (rising {w = w} {e = e + 1} (omega (arith, lt)) (omega (arith, is_at)) less)
          | inr full ↦ let d : nat_le n.rise (e + 1) ≡ true = search (rules, nat_tests) in rw (b, d) (steady {w = w} (omega (arith, lt)) (omega (arith, is_at, few)))
        ]
    | inr ge ↦ let b : nat_lt t w.till ≡ false = search (rules, nat_tests) in rw b (short {w = w} (omega (arith, within, is_at, few)) (omega (arith, ge)))
  ]
  keeps (w ∷ _) _ (steady within long) = elim (cases_lt t w.till) [
    | inl lt ↦ let b : nat_lt t w.till ≡ true = search (rules, nat_tests) in rw b (steady {w = w} (omega (arith, lt)) (omega (arith, long)))
    | inr ge ↦
        let b : nat_lt t w.till ≡ false = search (rules, nat_tests) in
        elim (cases_lt 1 n.fall) [
          | inl less ↦ let d : nat_le n.fall (0 + 1) ≡ false = search (rules, nat_tests) in rw (b, d) (fading {w = w} {m = 1} (omega (arith, within, ge, long)) (omega (arith, within, ge)) (omega arith) less)
          | inr last ↦ let d : nat_le n.fall (0 + 1) ≡ true = search (rules, nat_tests) in rw (b, d) (faded {w = w} (omega (arith, within, ge, last)))
        ]
  ]
  keeps (w ∷ _) _ (fading {m = m} long is_at some few) =
      let b : nat_lt t w.till ≡ false = search (rules, nat_tests, is_at) in
      elim (cases_lt (m + 1) n.fall) [
        | inl less ↦ let d : nat_le n.fall (m + 1) ≡ false = search (rules, nat_tests) in rw (b, d) (fading {w = w} {m = m + 1} long (omega (arith, is_at)) (omega arith) less)
        | inr last ↦ let d : nat_le n.fall (m + 1) ≡ true = search (rules, nat_tests) in rw (b, d) (faded {w = w} (omega (arith, is_at, few, last)))
      ]
  keeps (w ∷ _) _ (faded gone) = let b : nat_lt t w.till ≡ false = search (rules, nat_tests, gone) in rw b (faded {w = w} (omega (arith, gone)))
  keeps (w ∷ _) _ (short few gone) = let b : nat_lt t w.till ≡ false = search (rules, nat_tests, gone) in rw b (short {w = w} few (omega (arith, gone)))

  -- before a newer wave comes, the carrier is off
  quiet_before : (w : Wave) (ws : List Wave) (c : Carrier) → AreApart n (w ∷ ws) → w.from ≡ t → CarrierOverWaves n begin t ws c → c ≡ off 0
  quiet_before w _ _ h now silent = refl
  quiet_before w _ _ h now (missed gone) = refl
  quiet_before w (a ∷ ws) _ h now (rising within is_at few) = absurd (omega (arith, now, within, h.1.still))
  quiet_before w (a ∷ ws) _ h now (steady within long) = absurd (omega (arith, now, within, h.1.still))
  quiet_before w (a ∷ ws) _ h now (fading long is_at some few) = let far = h.1.fades (omega (arith, long)) in absurd (omega (arith, now, is_at, few, far))
  quiet_before w _ _ h now (faded gone) = refl
  quiet_before w _ _ h now (short few gone) = refl

  -- one wave more
  begins : (w : Wave) (ws : List Wave) → w.from ≡ t → w.from < w.till → CarrierOverWaves n begin (t + 1) (w ∷ ws) (carrier_step (off 0) (sounds_in t (w ∷ ws)) n.rise n.fall)
  begins w ws now lt =
      let b : nat_lt t w.till ≡ true = search (rules, nat_tests, now) in
      elim (cases_lt 1 n.rise) [
        | inl less ↦ let d : nat_le n.rise (0 + 1) ≡ false = search (rules, nat_tests) in rw (b, d) (rising {w = w} {e = 1} (omega (arith, now, lt)) (omega (arith, now, started)) less)
        | inr full ↦ let d : nat_le n.rise (0 + 1) ≡ true = search (rules, nat_tests) in rw (b, d) (steady {w = w} (omega (arith, now, lt)) (omega (arith, now, started, full)))
      ]

  pub carrier_next : (ws : List Wave) (c : Carrier) → AreApart n ws → CarrierOverWaves n begin t (arrived t ws) c
      → CarrierOverWaves n begin (t + 1) (arrived (t + 1) ws) (carrier_step c (sounds_in t (arrived (t + 1) ws)) n.rise n.fall)
  carrier_next ws c h at = go (comes n t ws h)
    where
      go : ArrivedNext n t ws → CarrierOverWaves n begin (t + 1) (arrived (t + 1) ws) (carrier_step c (sounds_in t (arrived (t + 1) ws)) n.rise n.fall)
      go (same e) = rw e (keeps (arrived t ws) c at)
      go (more w e now behind) =
          let quiet : c ≡ off 0 = quiet_before w (arrived t ws) c behind now at in
          rw (e, quiet) (begins w (arrived t ws) now (lasts n w (arrived t ws) behind))
