-- The reading of a generated script, and the call that has no memory for it.
use Rattle.std.proofs.Common.{◌≡◌, ℕ, Bool, List, Option, Ok, Err, refl, sym, ap, ◌∙◌, inr, arith}
use Rattle.t1s_script.specs.Reading.{script_of}
use Rattle.t1s_script.specs.declared.script.Script.{Script}
use Rattle.t1s_script.specs.declared.refusals.ScriptRefusal.{ScriptRefusal}
use Rattle.t1s_report.specs.Report.{summary}
use Rattle.t1s_generator.proofs.GeneratedScripts.{generated_fit}
use Rattle.t1s_cli.specs.Generated.{AreInRange, GeneratedCall, script_text}
use Rattle.t1s_cli.specs.TextOutcome.{TextOutcome}
use Rattle.t1s_cli.specs.declared.commands.GeneratedTask.TheVariants.{Load}
use Rattle.t1s_cli.specs.declared.commands.ScriptNumbers.{ScriptNumbers}
use Rattle.t1s_cli.specs.declared.status.Status.{Status}
use Rattle.t1s_cli.specs.declared.status.Status.TheVariants.{Done, Memory}

-- the text that numbers in range make is read as a script
pub script_made : (n : ScriptNumbers) → AreInRange n → (s : Script) × (script_of (script_text n) ≡ Ok s)
script_made n range =
    let (s, reads, fit) = generated_fit n.seed n.nodes n.frames range.seed range.some range.nodes range.frames in
    (s, reads)

-- and so is never refused
pub not_refused : (n : ScriptNumbers) (octets : List ℕ) (refusal : ScriptRefusal) → AreInRange n → octets ≡ script_text n → script_of octets ≡ Err refusal → ⊥
not_refused n octets refusal range same refused =
    let (s, reads) = script_made n range in
    let z = sym (ap script_of same ∙ reads) ∙ refused in
    cc

module _ {K : Type 0} (written : K → Option (List ℕ)) (faults : K → ℕ) (finished : K → Bool) where
  -- the summary of the script's run was written
  load_call : (n : ScriptNumbers) (s : Script) (before after : K) (r : Status) → script_of (script_text n) ≡ Ok s → TextOutcome written faults finished Done (summary s) before after r →
      GeneratedCall written faults finished (Load n) before after r
  load_call n s before after r reads outcome = record {
    text = summary s;
    is = (s, reads, refl);
    outcome = outcome;
    takes_none = λ m e. absurd cc;
  }

  -- it was out of memory before anything was written
  pub load_memory : (n : ScriptNumbers) (sink : K) → AreInRange n → GeneratedCall written faults finished (Load n) sink sink Memory
  load_memory n sink range =
      let (s, reads) = script_made n range in
      load_call n s sink sink Memory reads record {
        answer = inr (inr refl);
        whole_text = λ e. absurd cc;
        end = λ e. absurd cc;
        prefix = λ e. absurd cc;
        cause = record { later = omega arith; rose = λ e. absurd cc; kept = λ e. refl };
        silent = λ e. refl;
      }
