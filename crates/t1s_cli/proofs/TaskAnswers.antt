-- What the ending of a text says of the answer that a task gave.
use Rattle.std.proofs.Common.{◌≡◌, ◌≢◌, ◌⊎◌, ◌<◌, ◌==◌, ℕ, Bool, true, List, Option, refl, inl, inr, arith}
use Rattle.std.proofs.lemmas.Bool.{eqb-true}
use Rattle.std.proofs.lemmas.List.Folds.{Any-from_list_any}
use Rattle.std.specs.Prelude.{Result, Ok, Err}
use Rattle.t1s_base.specs.Limits.{most_nodes}
use Rattle.t1s_base.specs.Causes.{FaultCountRose}
use Rattle.t1s_base.specs.Octets.{Grows}
use Rattle.t1s_script.specs.Script.{IsScript, IsNodeLine}
use Rattle.t1s_script.specs.declared.script.NodeLine.{NodeLine}
use Rattle.t1s_script.specs.declared.script.Script.{Script}
use Rattle.t1s_script.specs.declared.refusals.ScriptRefusal.{ScriptRefusal}
use Rattle.t1s_report.specs.RefusalLines.{refused_line}
use Rattle.t1s_cli.specs.Answers.{has_node, status_of, text_of}
use Rattle.t1s_cli.specs.TextOutcome.{TextOutcome}
use Rattle.t1s_cli.specs.declared.status.Status.{Status}
use Rattle.t1s_cli.specs.declared.status.Status.TheVariants.{Done, Refused, Usage, ReadFault, Memory}

-- a node of a valid script has a number below `most_nodes`
pub node_below : (s : Script) (node : ℕ) → IsScript s → has_node s node ≡ true → node < most_nodes
node_below s node valid has =
    let (k, line, within, at, is) = Any-from_list_any (λ (n : NodeLine). n.no == node) s.nodes has in
    let here : IsNodeLine line = rw at at (valid.nodes k line within) in
    omega (arith, here.no_high, eqb-true line.no node is)

module _ {K : Type 0} (written : K → Option (List ℕ)) (faults : K → ℕ) (finished : K → Bool) (before after : K) (r : Status) where
  abbrev pub OutcomeOf : Result (List ℕ) ScriptRefusal → Type 0
  OutcomeOf answer = TextOutcome written faults finished (status_of answer) (text_of answer) before after r

  pub outcome_done : (answer : Result (List ℕ) ScriptRefusal) → OutcomeOf answer → r ≡ Done → (text : List ℕ) × (answer ≡ Ok text) × Grows (written before) (written after) text
  outcome_done (Ok text) h e = (text, refl, h.whole_text e)
  outcome_done (Err refusal) h e = absurd (elim h.answer [ inl a ↦ cc | inr a ↦ elim a [ inl b ↦ cc | inr b ↦ cc ] ])

  pub outcome_refused : (answer : Result (List ℕ) ScriptRefusal) → OutcomeOf answer → r ≡ Refused →
      (refusal : ScriptRefusal) × (answer ≡ Err refusal) × Grows (written before) (written after) (refused_line refusal)
  outcome_refused (Ok text) h e = absurd (elim h.answer [ inl a ↦ cc | inr a ↦ elim a [ inl b ↦ cc | inr b ↦ cc ] ])
  outcome_refused (Err refusal) h e = (refusal, refl, h.whole_text e)

  pub outcome_calm : (answer : Result (List ℕ) ScriptRefusal) → OutcomeOf answer → ¬ (FaultCountRose (faults before) (faults after)) → (r ≡ status_of answer) ⊎ (r ≡ Memory)
  outcome_calm answer h calm =
      elim h.answer [ inl a ↦ inl a | inr a ↦ elim a [ inl b ↦ absurd (calm (h.cause.rose b)) | inr b ↦ inr b ] ]

  pub outcome_no_usage : (answer : Result (List ℕ) ScriptRefusal) → OutcomeOf answer → r ≢ Usage
  outcome_no_usage (Ok text) h e = elim h.answer [ inl a ↦ cc | inr a ↦ elim a [ inl b ↦ cc | inr b ↦ cc ] ]
  outcome_no_usage (Err refusal) h e = elim h.answer [ inl a ↦ cc | inr a ↦ elim a [ inl b ↦ cc | inr b ↦ cc ] ]

  pub outcome_no_read_fault : (answer : Result (List ℕ) ScriptRefusal) → OutcomeOf answer → r ≢ ReadFault
  outcome_no_read_fault (Ok text) h e = elim h.answer [ inl a ↦ cc | inr a ↦ elim a [ inl b ↦ cc | inr b ↦ cc ] ]
  outcome_no_read_fault (Err refusal) h e = elim h.answer [ inl a ↦ cc | inr a ↦ elim a [ inl b ↦ cc | inr b ↦ cc ] ]

  pub outcome_finishes : (answer : Result (List ℕ) ScriptRefusal) → OutcomeOf answer → (r ≡ Done) ⊎ (r ≡ Refused) → finished after ≡ true
  outcome_finishes answer h w = elim h.answer [
    | inl a ↦ h.end a
    | inr a ↦ absurd (elim w [
      | inl d ↦ elim a [ inl b ↦ cc | inr b ↦ cc ]
      | inr d ↦ elim a [ inl b ↦ cc | inr b ↦ cc ]
    ])
  ]
