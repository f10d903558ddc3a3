-- The numbers of offers among acts, act by act.
use Rattle.std.proofs.Common.{◌≡◌, ℕ, zero, suc, ◌+◌, ◌<◌, ◌≤◌, ◌||◌, Bool, true, false, cond, List, [], ◌∷◌, ◌++◌, length, get_or, take, replicate, Option, Some, None, refl, ◌∙◌, ap, arith}
use Rattle.std.specs.Prelude.{IfSome}
use Rattle.std.specs.Option.{unwrap_or}
use Rattle.std.proofs.lemmas.List.{take_more}
use Rattle.std.proofs.lemmas.List.Folds.{list_any_more}
use Rattle.t1s_script.specs.Script.{number_in, offer_number}
use Rattle.t1s_script.specs.declared.script.Act.{Act}
use Rattle.t1s_line.specs.declared.offers.OfferState.{OfferState}
use Rattle.t1s_line.specs.declared.offers.OfferState.TheVariants.{Unknown, Expected}
use Rattle.t1s_line.specs.Offers.{first_state, is_number}
use Rattle.t1s_acts.specs.Upcoming.{AreWithin}

pub some_higher : (o : Option ℕ) (a b : ℕ) → a ≤ b → IfSome o (λ n. n ≤ a) → IfSome o (λ n. n ≤ b)
some_higher None a b le h = tt
some_higher (Some n) a b le h = omega (arith, h)

pub some_below : (o : Option ℕ) (a b : ℕ) → a < b → IfSome o (λ n. n ≤ a) → IfSome o (λ n. n < b)
some_below None a b lt h = tt
some_below (Some n) a b lt h = omega (arith, h)

pub some_or_zero : (o : Option ℕ) (m : ℕ) → unwrap_or o 0 ≤ m → IfSome o (λ n. n ≤ m)
some_or_zero None m le = tt
some_or_zero (Some n) m le = le

-- one more act
pub within_more : (acts : List Act) (i last new : ℕ) (a : Act) → i < length acts → a ≡ get_or acts i a → last ≤ new → AreWithin (take i acts) last → IfSome (offer_number a) (λ n. n ≤ new) → AreWithin (take (i + 1) acts) new
within_more acts i last new a lt is le before here =
    rw (take_more acts i a lt, ← is) (both (take i acts) before)
  where
    both : (xs : List Act) → AreWithin xs last → AreWithin (xs ++ a ∷ []) new
    both [] before zero d lt = here
    both [] before (suc k) d lt = absurd (omega arith)
    both (x ∷ xs) before zero d lt = some_higher (offer_number x) last new le (before 0 d (omega arith))
    both (x ∷ xs) before (suc k) d lt = both xs (λ j e h. before (suc j) e (omega arith)) k d (omega arith)

one_of : (a b : Bool) → cond (a || b) Expected Unknown ≡ cond b Expected (cond a Expected Unknown)
one_of true true = refl
one_of true false = refl
one_of false true = refl
one_of false false = refl

pub expected_more : (acts : List Act) (i : ℕ) (a : Act) (k : ℕ) → i < length acts → a ≡ get_or acts i a → first_state (take (i + 1) acts) k ≡ cond (is_number k (offer_number a)) Expected (first_state (take i acts) k)
expected_more acts i a k lt is =
    let more = list_any_more (λ (b : Act). is_number k (number_in b.deed)) acts i a lt in
    let here = rw (← is) at more in
    ap (λ (b : Bool). cond b Expected Unknown) here ∙ one_of _ (is_number k (offer_number a))

-- ---- before the first act

pub take_none : (n : ℕ) → ◌≡◌ {A = List OfferState} (take n []) []
take_none zero = refl
take_none (suc n) = refl

pub none_known : (n k : ℕ) → get_or (replicate n Unknown) k Unknown ≡ Unknown
none_known zero k = refl
none_known (suc n) zero = refl
none_known (suc n) (suc k) = none_known n k
