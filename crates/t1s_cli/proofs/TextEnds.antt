-- How a command ends once its text was written.
use Rattle.std.proofs.Common.{◌≡◌, ◌≢◌, ◌⊎◌, ℕ, Bool, true, List, length, Option, sym, ap, ◌∙◌, inl, inr}
use Rattle.std.proofs.Math.Seq.{take-length}
use Rattle.t1s_base.specs.Octets.{Grows}
use Rattle.t1s_cli.specs.Faults.{HasFaultCause}
use Rattle.t1s_cli.specs.TextOutcome.{TextOutcome}
use Rattle.t1s_cli.specs.declared.status.Status.{Status}
use Rattle.t1s_cli.specs.declared.status.Status.TheVariants.{WriteFault, Memory}

-- the text is written when the sink is finished
pub text_finished : {K : Type 0} (written : K → Option (List ℕ)) (faults : K → ℕ) (finished : K → Bool) (whole : Status) (text : List ℕ) (a b c : K) (r : Status) →
    whole ≢ WriteFault → whole ≢ Memory → Grows (written a) (written b) text → faults b ≡ faults a →
    (r ≡ whole) ⊎ (r ≡ WriteFault) → (r ≡ whole → finished c ≡ true) → written c ≡ written b → HasFaultCause (faults b) (faults c) WriteFault r →
    TextOutcome written faults finished whole text a c r
text_finished written faults finished whole text a b c r no_fault no_want grows same why end octets cause = record {
  answer = elim why [ inl e ↦ inl e | inr e ↦ inr (inl e) ];
  whole_text = λ e. octets ∙ grows;
  end = end;
  prefix = λ e. (length text, rw (take-length text) (octets ∙ grows));
  cause = rw same at cause;
  silent = λ e. absurd (elim why [ inl f ↦ no_want (sym f ∙ e) | inr f ↦ cc ]);
}

-- a sink that was lent has grown by what was written to it meanwhile
pub lent_back : {K : Type 0} (written : K → Option (List ℕ)) (before lent after : K) (text : List ℕ) → after ≡ lent → Grows (written before) (written lent) text → Grows (written before) (written after) text
lent_back written before lent after text same grows = ap written same ∙ grows
