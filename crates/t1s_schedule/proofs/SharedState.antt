-- What is known of the drives of a fit script's run as tick t finds them.
use Rattle.std.proofs.Common.{◌≡◌, ℕ, ◌+◌, ◌<◌, ◌≤◌, ◌⊎◌, inl, inr, true, false, nat_lt, nat_le, ◌==◌, List, [], ◌∷◌, length, Some, is_some, refl, sym, ◌∙◌, arith, rules}
use Rattle.std.proofs.lemmas.Bool.{cases_lt, cases_eq}
use Rattle.std.proofs.lemmas.Bool.Decides.{nat_tests}
use Rattle.t1s_symbols.specs.declared.Quarter.{Quarter}
use Rattle.t1s_world.specs.Waves.{Wave}
use Rattle.t1s_world.specs.Schedule.{Drive, next_after, IsPlaced, EachDrive, IsWhole, IsChain, IsSilent, IsOfNode, wave_at}
use Rattle.t1s_script.specs.declared.script.Script.{Script}
use Rattle.t1s_line.specs.World.{driven_in}
use Rattle.t1s_turns.specs.ReceiverOverWaves.{SpellsWave}
use Rattle.t1s_schedule.specs.SharedLine.{far_in, at_in, owner_in, first_beacon}
pub use Rattle.t1s_schedule.proofs.ExactDrives.{is_drive_of, drives_in}
pub use Rattle.t1s_schedule.proofs.FitNodes.{cycle_with, cycle_in}
pub use Rattle.t1s_schedule.proofs.FitNumbers.{FitCable}

-- ---- the drives of a list, tick by tick

-- it is another node's, or not on in tick v
abbrev pub Misses : ℕ → ℕ → Drive → Type 0
Misses i v a = a.node ≡ i → (v < a.start) ⊎ (a.stop ≤ v)

pub misses_it : (a : Drive) (i v : ℕ) → Misses i v a → is_drive_of a i v ≡ false
misses_it a i v misses = elim (cases_eq a.node i) [
  | inl same ↦ elim (misses same) [
    | inl soon ↦ let b : nat_le a.start v ≡ false = search (rules, nat_tests) in let c : (a.node == i) ≡ true = grind (arith, nat_tests, same) in rw (b, c) refl
    | inr late ↦ elim (cases_lt v a.start) [
      | inl soon ↦ let b : nat_le a.start v ≡ false = search (rules, nat_tests) in let c : (a.node == i) ≡ true = grind (arith, nat_tests, same) in rw (b, c) refl
      | inr from ↦
          let b : nat_le a.start v ≡ true = search (rules, nat_tests) in
          let d : nat_lt v a.stop ≡ false = search (rules, nat_tests, late) in
          let c : (a.node == i) ≡ true = grind (arith, nat_tests, same) in
          rw (b, c, d) refl
    ]
  ]
  | inr other ↦ let c : (a.node == i) ≡ false = grind (arith, nat_tests, other) in rw c refl
]

pub is_on : (a : Drive) (i v : ℕ) → a.node ≡ i → a.start ≤ v → v < a.stop → is_drive_of a i v ≡ true
is_on a i v same from before =
    let b : nat_le a.start v ≡ true = search (rules, nat_tests) in
    let d : nat_lt v a.stop ≡ true = search (rules, nat_tests) in
    let c : (a.node == i) ≡ true = grind (arith, nat_tests, same) in
    rw (b, c, d) refl

pub none_drives : (i v : ℕ) (ds : List Drive) → EachDrive (Misses i v) ds → drives_in ds i v ≡ false
none_drives i v [] h = refl
none_drives i v (a ∷ ds) h = let b = misses_it a i v h.0 in rw b (none_drives i v ds h.1)

pub each_as : (P Q : Drive → Type 0) → ((a : Drive) → P a → Q a) → (ds : List Drive) → EachDrive P ds → EachDrive Q ds
each_as P Q f [] h = tt
each_as P Q f (a ∷ ds) h = (f a h.0, each_as P Q f ds h.1)

-- ---- the drives so far

-- a drive as its own node hears it
abbrev pub own_wave : Script → Drive → Wave
own_wave s a = wave_at next_after (far_in s) (at_in s) (at_in s a.node) true a

-- its node drives a quarter in each of its ticks, and they spell it
abbrev pub IsSpelled : Script → Drive → Type 0
IsSpelled s a = (m : ℕ) → a.start + m < a.stop → (q : Quarter) × (driven_in s a.node (a.start + m) ≡ Some q) × SpellsWave (own_wave s a) m q

-- As tick t finds them the drives are a chain, each node has driven exactly in its drives, which spell what they are, and
-- each that has ended was long enough; and the next beacon is not yet due.
pub record SharedAt (s : Script) (z t : ℕ) (ds : List Drive) : Type 0 where
  pub chain : IsChain next_after (far_in s) (at_in s) s.rise s.fall s.to (length s.nodes) z (first_beacon s z) ds
  pub placed : EachDrive (IsPlaced (owner_in s) s.count z) ds
  pub whole : EachDrive (IsWhole t) ds
  pub silent : IsSilent next_after (far_in s) (at_in s) s.fall s.to s.count z (first_beacon s z) t ds
  pub covers : (i v : ℕ) → v < t → is_some (driven_in s i v) ≡ drives_in ds i v
  pub within : EachDrive (λ (a : Drive). a.stop ≤ t) ds
  pub speaks : EachDrive (IsSpelled s) ds

-- the drives of a chain are of its nodes
pub of_nodes : (s : Script) (z : ℕ) (ds : List Drive)
    → IsChain next_after (far_in s) (at_in s) s.rise s.fall s.to (length s.nodes) z (first_beacon s z) ds
    → EachDrive (IsOfNode (length s.nodes)) ds
of_nodes s z [] h = tt
of_nodes s z (a ∷ []) h = (h.0, tt)
of_nodes s z (b ∷ a ∷ ds) h = (h.0, of_nodes s z (a ∷ ds) h.2)

-- what a quarter spells of a wave it spells of any that is a beacon or not alike
pub spells_as : (v w : Wave) (k : ℕ) (q : Quarter) → v.beacon ≡ w.beacon → SpellsWave v k q → SpellsWave w k q
spells_as v w k q e h = record { symbol = h.symbol; part = h.part; low = h.low; first = λ few. rw (sym e) (h.first few); other = λ f. h.other (e ∙ f) }

pub each_both : (P Q R : Drive → Type 0) → ((a : Drive) → P a → Q a → R a) → (ds : List Drive) → EachDrive P ds → EachDrive Q ds → EachDrive R ds
each_both P Q R f [] p q = tt
each_both P Q R f (a ∷ ds) p q = (f a p.0 q.0, each_both P Q R f ds p.1 q.1)
