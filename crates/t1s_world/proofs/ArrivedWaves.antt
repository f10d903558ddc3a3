-- From tick to tick the same waves have come, or one more.
use Rattle.std.proofs.Common.{◌≡◌, ℕ, ◌+◌, ◌<◌, ◌≤◌, inl, inr, true, false, nat_lt, List, [], ◌∷◌, refl, arith, rules}
use Rattle.std.proofs.lemmas.Bool.{cases_lt, cases_eq}
use Rattle.std.proofs.lemmas.Bool.Decides.{nat_tests}
use Rattle.t1s_world.specs.Waves.{CycleSettings, Wave, AreBehind, AreApart, arrived}

pub lasts : (n : CycleSettings) (w : Wave) (ws : List Wave) → AreApart n (w ∷ ws) → w.from < w.till
lasts n w [] h = h
lasts n w (a ∷ ws) h = h.0

pub older : (n : CycleSettings) (w : Wave) (ws : List Wave) → AreBehind n (w ∷ ws) → AreBehind n ws
older n w [] h = tt
older n w (a ∷ ws) h = h.2

pub earlier : (n : CycleSettings) (w : Wave) (ws : List Wave) → AreApart n (w ∷ ws) → AreApart n ws
earlier n w [] h = tt
earlier n w (a ∷ ws) h = h.2

-- waves of a cycle are apart
pub are_apart : (n : CycleSettings) → 1 ≤ n.fall → (ws : List Wave) → AreBehind n ws → AreApart n ws
are_apart n some [] h = tt
are_apart n some (a ∷ []) h = h
are_apart n some (b ∷ a ∷ ws) h = (h.0, record { still = omega (arith, h.1.gap, some); fades = λ long. omega (arith, h.1.gap) }, are_apart n some (a ∷ ws) h.2)

-- what has come
pub data ArrivedNext (n : CycleSettings) (t : ℕ) (ws : List Wave) : Type 0 where
  same : arrived (t + 1) ws ≡ arrived t ws → ArrivedNext n t ws
  more : (w : Wave) → arrived (t + 1) ws ≡ w ∷ arrived t ws → w.from ≡ t → AreApart n (w ∷ arrived t ws) → ArrivedNext n t ws

pub arrived_all : (n : CycleSettings) (t : ℕ) (a : Wave) (ws : List Wave) → AreApart n (a ∷ ws) → a.from < t → arrived t (a ∷ ws) ≡ a ∷ ws
arrived_all n t a ws h lt = let b : nat_lt a.from t ≡ true = search (rules, nat_tests) in rw b refl

pub comes : (n : CycleSettings) (t : ℕ) (ws : List Wave) → AreApart n ws → ArrivedNext n t ws
comes n t [] h = same refl
comes n t (w ∷ ws) h = elim (cases_lt w.from t) [
  | inl lt ↦
      let b : nat_lt w.from t ≡ true = search (rules, nat_tests) in
      let d : nat_lt w.from (t + 1) ≡ true = search (rules, nat_tests) in
      same (rw (b, d) refl)
  | inr ge ↦
      let b : nat_lt w.from t ≡ false = search (rules, nat_tests) in
      elim (cases_eq w.from t) [
        | inl now ↦
            let d : nat_lt w.from (t + 1) ≡ true = search (rules, nat_tests) in
            let all : arrived t ws ≡ ws = before_now ws now h in
            more w (rw (b, d, all) refl) now (rw (b, all) h)
        | inr later ↦
            let d : nat_lt w.from (t + 1) ≡ false = search (rules, nat_tests) in
            on d b (comes n t ws (earlier n w ws h))
      ]
]
  where
    before_now : (ws : List Wave) → w.from ≡ t → AreApart n (w ∷ ws) → arrived t ws ≡ ws
    before_now [] now h = refl
    before_now (a ∷ rest) now h =
        let lt : a.from < t = omega (arith, now, h.1.still, lasts n a rest h.2) in
        let b : nat_lt a.from t ≡ true = search (rules, nat_tests) in
        rw b refl

    on : nat_lt w.from (t + 1) ≡ false → nat_lt w.from t ≡ false → ArrivedNext n t ws → ArrivedNext n t (w ∷ ws)
    on d b (same e) = same (rw (d, b) e)
    on d b (more v e now behind) = more v (rw (d, b) e) now (rw b behind)
