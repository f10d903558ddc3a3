-- What a call with a task on a script says of the answer of the program.
use Rattle.std.proofs.Common.{◌≡◌, ◌≢◌, ◌⊎◌, ℕ, Bool, true, List, [], drop, Option, Some, Result, Ok, Err, refl, ap, ◌∙◌, inl, inr, arith}
use Rattle.std.specs.Prelude.{IsOk}
use Rattle.t1s_base.specs.Causes.{FaultCountRose}
use Rattle.t1s_base.specs.Octets.{Grows, GrowsByPrefix}
use Rattle.t1s_script.specs.Reading.{script_of}
use Rattle.t1s_script.specs.declared.script.Script.{Script}
use Rattle.t1s_script.specs.declared.refusals.ScriptRefusal.{ScriptRefusal}
use Rattle.t1s_report.specs.RefusalLines.{refused_line}
use Rattle.t1s_cli.specs.Answers.{answer_for, answer_of, status_of, text_of}
use Rattle.t1s_cli.specs.Faults.{HasFaultCause}
use Rattle.t1s_cli.specs.ScriptCall.{ScriptCall}
use Rattle.t1s_cli.specs.TextOutcome.{TextOutcome}
use Rattle.t1s_cli.specs.declared.commands.ScriptTask.{ScriptTask}
use Rattle.t1s_cli.specs.declared.status.Status.{Status}
use Rattle.t1s_cli.specs.declared.status.Status.TheVariants.{Done, Refused, Usage, ReadFault, WriteFault, Memory}
use Rattle.t1s_cli.proofs.TaskAnswers.{outcome_done, outcome_refused, outcome_calm, outcome_no_usage, outcome_finishes}
use Rattle.t1s_cli.proofs.WholeInput.{all_of_script}

-- what a task gives stands on what reading gives
pub answer_by_reading : (task : ScriptTask) (octets : List ℕ) (reading : Result Script ScriptRefusal) → script_of octets ≡ reading → answer_of task octets ≡ answer_for task reading
unfolding answer_of
answer_by_reading task octets reading is = ap (λ (r : Result Script ScriptRefusal). answer_for task r) is

pub same_answer : (task : ScriptTask) (octets whole : List ℕ) → script_of octets ≡ script_of whole → answer_of task octets ≡ answer_of task whole
unfolding answer_of
same_answer task octets whole same = ap (λ (r : Result Script ScriptRefusal). answer_for task r) same

ok_reading : (task : ScriptTask) (reading : Result Script ScriptRefusal) (text : List ℕ) → answer_for task reading ≡ Ok text → IsOk reading
ok_reading task (Ok s) text is = refl
ok_reading task (Err refusal) text is = absurd cc

-- a task that gives a text was given a script
pub task_reads : (task : ScriptTask) (octets text : List ℕ) → answer_of task octets ≡ Ok text → IsOk (script_of octets)
unfolding answer_of
task_reads task octets text is = ok_reading task (script_of octets) text is

module _ {S K : Type 0} (left : S → Option (List ℕ)) (read_faults : S → ℕ) (written : K → Option (List ℕ)) (write_faults : K → ℕ) (finished : K → Bool) (task : ScriptTask) where
  module _ (source source' : S) (sink sink' : K) (status : Status) (call : ScriptCall left read_faults written write_faults finished task source source' sink sink' status) where
    -- the answer that the task gave for what was read
    abbrev Outcome : List ℕ → Type 0
    Outcome octets = TextOutcome written write_faults finished (status_of (answer_of task octets)) (text_of (answer_of task octets)) sink sink' status

    -- is the one that it gives for the whole input
    outcome_of_all : (whole : List ℕ) → status ≢ ReadFault → status ≢ Memory → left source ≡ Some whole → Outcome whole
    outcome_of_all whole n m told =
        let same : answer_of task call.octets ≡ answer_of task whole = same_answer task call.octets whole (call.all whole n m told).0 in
        rw same at (call.outcome n)

    pub script_no_usage : status ≢ Usage
    script_no_usage e = outcome_no_usage written write_faults finished sink sink' status (answer_of task call.octets) (call.outcome (λ f. cc)) e

    pub script_silent : status ≡ Memory → sink' ≡ sink
    script_silent e = (call.outcome (λ f. cc)).silent e

    pub script_finishes : (status ≡ Done) ⊎ (status ≡ Refused) → finished sink' ≡ true
    script_finishes w = outcome_finishes written write_faults finished sink sink' status (answer_of task call.octets) (call.outcome (λ f. elim w [ inl d ↦ cc | inr d ↦ cc ])) w

    pub script_text : (whole : List ℕ) → left source ≡ Some whole → status ≡ Done → (text : List ℕ) × (answer_of task whole ≡ Ok text) × Grows (written sink) (written sink') text
    script_text whole told e = outcome_done written write_faults finished sink sink' status (answer_of task whole) (outcome_of_all whole (λ f. cc) (λ f. cc) told) e

    pub script_refusal : (whole : List ℕ) → left source ≡ Some whole → status ≡ Refused →
        (refusal : ScriptRefusal) × (answer_of task whole ≡ Err refusal) × Grows (written sink) (written sink') (refused_line refusal)
    script_refusal whole told e = outcome_refused written write_faults finished sink sink' status (answer_of task whole) (outcome_of_all whole (λ f. cc) (λ f. cc) told) e

    pub script_prefix : (whole : List ℕ) → left source ≡ Some whole → status ≡ WriteFault → GrowsByPrefix (written sink) (written sink') (text_of (answer_of task whole))
    script_prefix whole told e = (outcome_of_all whole (λ f. cc) (λ f. cc) told).prefix e

    pub script_rest : (whole : List ℕ) → left source ≡ Some whole → (status ≡ Done) ⊎ ((status ≡ Refused) ⊎ (status ≡ WriteFault)) → left source' ≡ Some (drop 1048577 whole)
    script_rest whole told w = (call.all whole (λ f. elim w [ inl a ↦ cc | inr b ↦ elim b [ inl c ↦ cc | inr d ↦ cc ] ]) (λ f. elim w [ inl a ↦ cc | inr b ↦ elim b [ inl c ↦ cc | inr d ↦ cc ] ]) told).1

    pub script_read_whole : (whole : List ℕ) → left source ≡ Some whole → status ≡ Done → left source' ≡ Some []
    script_read_whole whole told e =
        let (text, is, grows) = script_text whole told e in
        script_rest whole told (inl e) ∙ ap Some (all_of_script whole (task_reads task whole text is))

  pub script_write_fault : (source source' : S) (sink sink' : K) (status : Status) → ScriptCall left read_faults written write_faults finished task source source' sink sink' status → HasFaultCause (write_faults sink) (write_faults sink') WriteFault status
  script_write_fault source source' sink sink' ReadFault call = record {
    later = let same : sink' ≡ sink = call.unwritten refl in rw same (omega arith);
    rose = λ e. absurd cc;
    kept = λ n. ap write_faults (call.unwritten refl);
  }
  script_write_fault source source' sink sink' Done call = (call.outcome (λ e. cc)).cause
  script_write_fault source source' sink sink' Refused call = (call.outcome (λ e. cc)).cause
  script_write_fault source source' sink sink' Usage call = (call.outcome (λ e. cc)).cause
  script_write_fault source source' sink sink' WriteFault call = (call.outcome (λ e. cc)).cause
  script_write_fault source source' sink sink' Memory call = (call.outcome (λ e. cc)).cause

  pub script_calm : (source source' : S) (sink sink' : K) (status : Status) → ScriptCall left read_faults written write_faults finished task source source' sink sink' status →
      (whole : List ℕ) → left source ≡ Some whole → ¬ (FaultCountRose (read_faults source) (read_faults source')) → ¬ (FaultCountRose (write_faults sink) (write_faults sink')) →
      (status ≡ status_of (answer_of task whole)) ⊎ (status ≡ Memory)
  script_calm source source' sink sink' ReadFault call whole told calm_source calm_sink = absurd (calm_source (call.cause.rose refl))
  script_calm source source' sink sink' Memory call whole told calm_source calm_sink = inr refl
  script_calm source source' sink sink' Done call whole told calm_source calm_sink =
      outcome_calm written write_faults finished sink sink' Done (answer_of task whole) (outcome_of_all source source' sink sink' Done call whole (λ e. cc) (λ e. cc) told) calm_sink
  script_calm source source' sink sink' Refused call whole told calm_source calm_sink =
      outcome_calm written write_faults finished sink sink' Refused (answer_of task whole) (outcome_of_all source source' sink sink' Refused call whole (λ e. cc) (λ e. cc) told) calm_sink
  script_calm source source' sink sink' Usage call whole told calm_source calm_sink =
      outcome_calm written write_faults finished sink sink' Usage (answer_of task whole) (outcome_of_all source source' sink sink' Usage call whole (λ e. cc) (λ e. cc) told) calm_sink
  script_calm source source' sink sink' WriteFault call whole told calm_source calm_sink =
      outcome_calm written write_faults finished sink sink' WriteFault (answer_of task whole) (outcome_of_all source source' sink sink' WriteFault call whole (λ e. cc) (λ e. cc) told) calm_sink
