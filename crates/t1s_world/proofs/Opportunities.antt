-- The opportunities behind a wave.
use Rattle.std.proofs.Common.{inl, inr, ◌≡◌, ℕ, ◌+◌, ◌-◌, ◌*◌, ◌<◌, ◌≤◌, arith}
use Rattle.std.proofs.lemmas.Bool.{cases_lt, cases_eq}
use Rattle.std.proofs.Math.Nat.{mul-le-mul_right}
use Rattle.t1s_world.specs.Waves.{CycleSettings, Wave, opportunity_start}

pub mul_far : (x y k to : ℕ) → k ≤ x → x < y → (x - k) * to + to ≤ (y - k) * to
mul_far x y k to h lt =
    let room : (x - k + 1) * to ≤ (y - k) * to = mul-le-mul_right to (omega (arith, h, lt)) in
    omega (arith, room)

module _ (n : CycleSettings) (w : Wave) where
  pub opportunity_first : opportunity_start n w w.next ≡ w.till + n.fall
  unfolding opportunity_start
  opportunity_first = let e : w.next - w.next ≡ 0 = omega arith in rw e (omega arith)

  pub opportunity_next : (x : ℕ) → w.next ≤ x → opportunity_start n w (x + 1) ≡ opportunity_start n w x + n.to
  unfolding opportunity_start
  opportunity_next x h = let e : x + 1 - w.next ≡ x - w.next + 1 = omega (arith, h) in rw e (omega arith)

  pub opportunity_low : (x : ℕ) → w.till + n.fall ≤ opportunity_start n w x
  unfolding opportunity_start
  opportunity_low x = omega arith

  pub opportunity_far : (x y : ℕ) → w.next ≤ x → x < y → opportunity_start n w x + n.to ≤ opportunity_start n w y
  unfolding opportunity_start
  opportunity_far x y h lt = let room = mul_far x y w.next n.to h lt in omega (arith, room)

  -- no two opportunities behind one wave begin in one tick
  pub opportunity_one : (x y : ℕ) → 1 ≤ n.to → w.next ≤ x → w.next ≤ y → opportunity_start n w x ≡ opportunity_start n w y → x ≡ y
  opportunity_one x y some low high e = elim (cases_eq x y) [
    | inl equal ↦ equal
    | inr other ↦ elim (cases_lt x y) [
      | inl lt ↦ let room = opportunity_far x y low lt in absurd (omega (arith, room, e, some))
      | inr ge ↦ let room = opportunity_far y x high (omega (arith, ge, other)) in absurd (omega (arith, room, e, some))
    ]
  ]
