-- How a sink grows by one text and then another.
use Rattle.std.proofs.Common.{◌≡◌, ℕ, ◌+◌, List, [], ◌++◌, inl, inr, length, take, Option, Some, None, min, refl, sym, ◌∙◌, ap, arith, append_assoc}
use Rattle.std.specs.Io.KnownBytes.{append_known}
use Rattle.std.proofs.Math.Seq.{take-append-add, take-append_seam}
use Rattle.std.proofs.Math.Nat.{min-eq_left, min-eq_right}
use Rattle.std.proofs.lemmas.Bool.{cases_lt}
use Rattle.std.proofs.lemmas.List.{append-nil, take-append-le, take_all}
use Rattle.t1s_base.specs.Octets.{Grows, GrowsByPrefix}

append_known_none : (o : Option (List ℕ)) → o ≡ append_known o []
append_known_none None = refl
append_known_none (Some xs) = ap Some (sym (append-nil xs))

append_known_more : (o : Option (List ℕ)) (a b : List ℕ) → append_known (append_known o a) b ≡ append_known o (a ++ b)
append_known_more None a b = refl
append_known_more (Some xs) a b = ap Some (append_assoc xs a b)

pub grows_none : (o : Option (List ℕ)) → Grows o o []
grows_none o = append_known_none o

pub grows_more : (o p q : Option (List ℕ)) (a b : List ℕ) → Grows o p a → Grows p q b → Grows o q (a ++ b)
grows_more o p q a b h k = k ∙ ap (λ x. append_known x b) h ∙ append_known_more o a b

take_within : (a b : List ℕ) (n : ℕ) → take (min n (length a)) (a ++ b) ≡ take n a
take_within a b n = elim (cases_lt n (length a)) [
  | inl lt ↦ rw (min-eq_left {n = n} {m = length a} (omega arith)) (take-append-le n a b (omega arith))
  | inr le ↦ rw (min-eq_right {n = length a} {m = n} le, take-append_seam a b) (sym (take_all n a le))
]

-- all of one text and a prefix of the next
pub prefix_more : (o p q : Option (List ℕ)) (a b : List ℕ) → Grows o p a → GrowsByPrefix p q b → GrowsByPrefix o q (a ++ b)
prefix_more o p q a b h (n, k) = (length a + n, rw (take-append-add a b n) (grows_more o p q a (take n b) h k))

-- a prefix of the first text
pub prefix_wider : (o p : Option (List ℕ)) (a b : List ℕ) → GrowsByPrefix o p a → GrowsByPrefix o p (a ++ b)
prefix_wider o p a b (n, k) = (min n (length a), rw (take_within a b n) k)
