-- How a sink grows by one text and then another.
use Rattle.std.proofs.Common.{◌≡◌, ◌≢◌, ◌⊎◌, ℕ, Bool, true, List, [], ◌++◌, inl, inr, length, take, Option, Result, Ok, Err, min, refl, sym, ◌∙◌, arith}
use Rattle.std.proofs.Math.Seq.{take-append_seam, take-length}
use Rattle.std.proofs.Math.Nat.{min-eq_left, min-eq_right}
use Rattle.std.proofs.lemmas.Bool.{cases_lt}
use Rattle.std.proofs.lemmas.List.{take-append-le, take_all}
use Rattle.t1s_base.specs.Octets.{GrowsByPrefix}
use Rattle.t1s_base.proofs.Growth.{grows_nothing, grows_then, grows_then_prefix}
use Rattle.t1s_drawing.specs.Calls.{HasFaultCause, Wrote}
use Rattle.t1s_drawing.specs.DrawSteps.{TextOutcome}
use Rattle.t1s_drawing.specs.declared.status.Status.{Status}
use Rattle.t1s_drawing.specs.declared.status.Status.TheVariants.{WriteFault}

take_within : (a b : List ℕ) (n : ℕ) → take (min n (length a)) (a ++ b) ≡ take n a
take_within a b n = elim (cases_lt n (length a)) [
  | inl lt ↦ rw (min-eq_left {n = n} {m = length a} (omega arith)) (take-append-le n a b (omega arith))
  | inr le ↦ rw (min-eq_right {n = length a} {m = n} le, take-append_seam a b) (sym (take_all n a le))
]

-- a prefix of a text is one of a longer text
pub prefix_longer : (o p : Option (List ℕ)) (a b : List ℕ) → GrowsByPrefix o p a → GrowsByPrefix o p (a ++ b)
prefix_longer o p a b (n, k) = (min n (length a), rw (take_within a b n) k)

module _ {K : Type 0} (written : K → Option (List ℕ)) (faults : K → ℕ) where
  -- nothing is written
  pub wrote_nothing : {T E : Type 0} (x : T) (a : K) → Wrote {T = T} {E = E} written faults [] a a (Ok x)
  wrote_nothing x a = record {
    whole = grows_nothing (written a);
    prefix = tt;
    cause = record { later = omega arith; failed = tt; kept = refl };
  }

  -- first one text, and then another
  pub wrote_then : {T U E : Type 0} (a b c : K) (xs ys : List ℕ) (x : U) (r : Result T E) → Wrote {T = U} {E = E} written faults xs a b (Ok x) → Wrote written faults ys b c r → Wrote written faults (xs ++ ys) a c r
  wrote_then a b c xs ys x (Ok v) h k =
      let same = h.cause.kept in
      record {
        whole = grows_then (written a) (written b) (written c) xs ys h.whole k.whole;
        prefix = tt;
        cause = rw same at k.cause;
      }
  wrote_then a b c xs ys x (Err e) h k =
      let same = h.cause.kept in
      record {
        whole = tt;
        prefix = grows_then_prefix (written a) (written b) (written c) xs ys h.whole k.prefix;
        cause = rw same at k.cause;
      }

  -- the first text was not written whole
  pub wrote_part : {T U E F : Type 0} (a b : K) (xs ys : List ℕ) (e : E) (f : F) → Wrote {T = T} {E = E} written faults xs a b (Err e) → Wrote {T = U} {E = F} written faults (xs ++ ys) a b (Err f)
  wrote_part a b xs ys e f h = record {
    whole = tt;
    prefix = prefix_longer (written a) (written b) xs ys h.prefix;
    cause = record { later = h.cause.later; failed = h.cause.failed; kept = tt };
  }

  module _ (finished : K → Bool) where
    -- the whole text is written, and then the sink finished
    pub outcome_finished : {T E : Type 0} (whole : Status) (text : List ℕ) (a b c : K) (x : T) (status : Status) → whole ≢ WriteFault → Wrote {T = T} {E = E} written faults text a b (Ok x) →
        (status ≡ whole) ⊎ (status ≡ WriteFault) → (status ≡ whole → finished c ≡ true) → written c ≡ written b → HasFaultCause (faults b) (faults c) WriteFault status →
        TextOutcome written faults finished whole text a c status
    outcome_finished whole text a b c x status other h answer end same cause =
        let kept = h.cause.kept in
        record {
          answer = answer;
          whole_text = λ e. same ∙ h.whole;
          end = end;
          prefix = λ e. (length text, rw (take-length text) (same ∙ h.whole));
          cause = rw kept at cause;
        }

    -- the text is not written whole
    pub outcome_failed : {T E : Type 0} (whole : Status) (text : List ℕ) (a b : K) (x : E) → whole ≢ WriteFault → Wrote {T = T} {E = E} written faults text a b (Err x) → TextOutcome written faults finished whole text a b WriteFault
    outcome_failed whole text a b x other h = record {
      answer = inr refl;
      whole_text = λ e. absurd (other (sym e));
      end = λ e. absurd (other (sym e));
      prefix = λ e. h.prefix;
      cause = record { later = h.cause.later; rose = λ e. h.cause.failed; kept = λ n. absurd (n refl) };
    }
