-- What the whole call has done.
use Rattle.std.proofs.Common.{◌≡◌, ◌≢◌, ℕ, ◌^◌, ◌≤◌, ◌⊎◌, Bool, true, List, [], ◌++◌, length, Option, Some, None, refl, sym, ap, subst, ◌∙◌, inl, inr, arith}
use Rattle.std.specs.Prelude.{◌↔◌, IfSome}
use Rattle.std.proofs.lemmas.List.{append-nil}
use Rattle.t1s_base.specs.Causes.{FaultCountRose}
use Rattle.t1s_base.specs.Octets.{Gives, Grows, GrowsByPrefix}
use Rattle.t1s_capture.specs.declared.items.Refusal.{Refusal}
use Rattle.t1s_capture.specs.State.{DecoderState}
use Rattle.t1s_capture.specs.Captures.{IsCapture, IsCapturePrefix}
use Rattle.t1s_capture.specs.Offences.{IsFirstOffence}
use Rattle.t1s_capture.proofs.Steps.{begins}
use Rattle.t1s_cli.specs.declared.status.Status.{Status}
use Rattle.t1s_cli.specs.declared.status.Status.TheVariants.{Done, Refused, Usage, ReadFault, WriteFault, Memory}
use Rattle.t1s_report.specs.DecodedText.{IsItemText, IsCaptureText, IsOffenceText, IsDecodedText}
use Rattle.t1s_report.proofs.DecodedTexts.{capture_of, unoffending}
use Rattle.t1s_cli.specs.CaptureCall.{IsReadInPieces, CaptureCall}
use Rattle.t1s_cli.specs.DecodeProgress.{DecodeProgress, DecodeEnd, DecodeStop}
use Rattle.t1s_cli.specs.Faults.{HasFaultCause}
use Rattle.t1s_cli.proofs.DecodeEnds.{no_read_fault}

-- what is left, where the source tells it
abbrev pub left_over : Option (List ℕ) → List ℕ
left_over None = []
left_over (Some octets) = octets

pub left_over_is : (o : Option (List ℕ)) → IfSome o (λ octets. left_over o ≡ octets)
left_over_is None = tt
left_over_is (Some octets) = refl

-- at the end of the input a source has nothing left
pub nothing_left : (o p : Option (List ℕ)) (count : ℕ) → count ≡ 0 → Gives o p [] → IfSome o (λ octets. (count ≡ 0) ↔ (octets ≡ [])) → IfSome p (λ octets. [] ≡ octets)
nothing_left o None count z h e = tt
nothing_left None (Some octets) count z h e = cc
nothing_left (Some all) (Some octets) count z h e = let none : all ≡ [] = e.0 z in cc

pub read_whole_pieces : (octets piece : List ℕ) → IsCapturePrefix octets → length octets ≤ 2 ^ 30 → length piece ≤ 4096 → IsReadInPieces (octets ++ piece)
read_whole_pieces octets piece begins' within short = record {
  before = octets;
  piece = piece;
  octets_are = refl;
  begins = begins';
  within = within;
  short = short;
}

-- where no read failed, and the answer doesn't say that one did
unfailed : {before after : ℕ} {status : Status} → after ≡ before → status ≢ ReadFault → HasFaultCause before after ReadFault status
unfailed same other = record { later = omega arith; rose = λ e. absurd (other e); kept = λ n. same }

module _ {S K : Type 0} (left : S → Option (List ℕ)) (read_faults : S → ℕ) (written : K → Option (List ℕ)) (faults : K → ℕ) (finished : K → Bool) where
  module _ (s0 s : S) (first k : K) (octets : List ℕ) (d : DecoderState) (h : DecodeProgress written faults octets d first k) where
    few : length octets ≤ 2 ^ 30
    few = let t = h.stands in t.limit

    starts : IsCapturePrefix octets
    starts = begins octets d h.stands

    -- a read failed
    pub calls_failed : Gives (left s0) (left s) octets → HasFaultCause (read_faults s0) (read_faults s) ReadFault ReadFault → CaptureCall left read_faults written faults finished s0 s first k ReadFault
    calls_failed gives cause = record {
      cause = cause;
      taken = octets;
      beyond = left_over (left s);
      gives = gives;
      rest = left_over_is (left s);
      pieces = subst (λ (o : List ℕ). IsReadInPieces o) (append-nil octets) (read_whole_pieces octets [] starts few (omega arith));
      failed = λ e. (starts, h.shown);
      ended = λ n. absurd (n refl);
      whole = λ e. cc;
    }

    -- the decoding stopped in a piece
    pub calls_stopped : (piece : List ℕ) (s' : S) (k' : K) (status : Status) → Gives (left s0) (left s') (octets ++ piece) → read_faults s' ≡ read_faults s0 → length piece ≤ 4096 →
        DecodeStop written faults finished (octets ++ piece) first k' status → CaptureCall left read_faults written faults finished s0 s' first k' status
    calls_stopped piece s' k' status gives same short stop =
        let ends = stop.ends (left_over (left s')) in
        record {
          cause = unfailed same (no_read_fault written faults finished ((octets ++ piece) ++ left_over (left s')) first k' status ends);
          taken = octets ++ piece;
          beyond = left_over (left s');
          gives = gives;
          rest = left_over_is (left s');
          pieces = read_whole_pieces octets piece starts few short;
          failed = λ e. absurd (no_read_fault written faults finished ((octets ++ piece) ++ left_over (left s')) first k' status ends e);
          ended = λ n. ends;
          whole = λ e. absurd (stop.early e);
        }

    -- the input ended
    pub calls_ended : (s' : S) (k' : K) (status : Status) → Gives (left s0) (left s') octets → read_faults s' ≡ read_faults s0 → IfSome (left s') (λ more. [] ≡ more) →
        DecodeEnd written faults finished octets first k' status → CaptureCall left read_faults written faults finished s0 s' first k' status
    calls_ended s' k' status gives same none ends = record {
      cause = unfailed same (no_read_fault written faults finished octets first k' status ends);
      taken = octets;
      beyond = [];
      gives = gives;
      rest = none;
      pieces = subst (λ (o : List ℕ). IsReadInPieces o) (append-nil octets) (read_whole_pieces octets [] starts few (omega arith));
      failed = λ e. absurd (no_read_fault written faults finished octets first k' status ends e);
      ended = λ n. subst (λ (o : List ℕ). DecodeEnd written faults finished o first k' status) (sym (append-nil octets)) ends;
      whole = λ e. refl;
    }

  -- What the program's answer says.
  module _ (s s' : S) (k k' : K) (status : Status) (d : CaptureCall left read_faults written faults finished s s' k k' status) where
    answers : status ≢ ReadFault → (status ≡ Done) ⊎ ((status ≡ Refused) ⊎ (status ≡ WriteFault))
    answers n = (d.ended n).answer

    pub no_usage : status ≢ Usage
    no_usage e = elim (answers (λ f. cc)) [ inl a ↦ cc | inr a ↦ elim a [ inl b ↦ cc | inr b ↦ cc ] ]

    pub no_memory : status ≢ Memory
    no_memory e = elim (answers (λ f. cc)) [ inl a ↦ cc | inr a ↦ elim a [ inl b ↦ cc | inr b ↦ cc ] ]

    pub finishes : (status ≡ Done) ⊎ (status ≡ Refused) → finished k' ≡ true
    finishes w = (d.ended (λ f. elim w [ inl a ↦ cc | inr a ↦ cc ])).finish w

    all_octets : (octets : List ℕ) → left s ≡ Some octets → octets ≡ d.taken ++ d.beyond
    all_octets octets told = go (left s') d.gives d.rest
      where
        go : (o : Option (List ℕ)) → Gives (left s) o d.taken → IfSome o (λ more. d.beyond ≡ more) → octets ≡ d.taken ++ d.beyond
        go None gives rest = cc
        go (Some more) gives rest = cc

    ended_of_all : (octets : List ℕ) → left s ≡ Some octets → status ≢ ReadFault → DecodeEnd written faults finished octets k k' status
    ended_of_all octets told n = subst (λ (o : List ℕ). DecodeEnd written faults finished o k k' status) (sym (all_octets octets told)) (d.ended n)

    pub says_done : (octets : List ℕ) → left s ≡ Some octets → status ≡ Done → (text : List ℕ) × IsCaptureText octets text × Grows (written k) (written k') text
    says_done octets told e = (ended_of_all octets told (λ f. cc)).done e

    pub says_refused : (octets : List ℕ) → left s ≡ Some octets → status ≡ Refused → (text : List ℕ) × IsOffenceText octets text × Grows (written k) (written k') text
    says_refused octets told e = (ended_of_all octets told (λ f. cc)).refused e

    pub says_prefix : (octets : List ℕ) → left s ≡ Some octets → status ≡ WriteFault → (text : List ℕ) × IsDecodedText octets text × GrowsByPrefix (written k) (written k') text
    says_prefix octets told e = (ended_of_all octets told (λ f. cc)).prefix e

    pub says_failed : status ≡ ReadFault → (taken : List ℕ) × (text : List ℕ) × Gives (left s) (left s') taken × IsCapturePrefix taken × IsItemText taken text × Grows (written k) (written k') text
    says_failed e =
        let (starts', shown) = d.failed e in
        (d.taken, shown.lines, d.gives, starts', shown.items, shown.grows)

    pub reads_all : (octets : List ℕ) → left s ≡ Some octets → status ≡ Done → left s' ≡ Some []
    reads_all octets told e = go (left s') d.gives d.rest
      where
        go : (o : Option (List ℕ)) → Gives (left s) o d.taken → IfSome o (λ more. d.beyond ≡ more) → o ≡ Some []
        go None gives rest = cc
        go (Some more) gives rest = ap Some (sym rest ∙ d.whole e)

    -- how the call ends where nothing fails
    module _ (octets : List ℕ) (told : left s ≡ Some octets) (calm_source : ¬ (FaultCountRose (read_faults s) (read_faults s'))) (calm_sink : ¬ (FaultCountRose (faults k) (faults k'))) where
      ended_calm : DecodeEnd written faults finished octets k k' status
      ended_calm = ended_of_all octets told (λ e. calm_source (d.cause.rose e))

      pub capture_done : IsCapture octets → length octets ≤ 2 ^ 30 → status ≡ Done
      capture_done capture within =
          elim ended_calm.answer [
            | inl a ↦ a
            | inr a ↦ elim a [
              | inl b ↦ let (text, t, grows) = ended_calm.refused b in let r = t.refusal in absurd (unoffending octets r.offset r.why capture within t.offence)
              | inr b ↦ absurd (calm_sink (ended_calm.cause.rose b))
            ]
          ]

      pub offence_refused : (refusal : Refusal) → IsFirstOffence octets refusal.offset refusal.why → status ≡ Refused
      offence_refused refusal offence =
          elim ended_calm.answer [
            | inl a ↦ let (text, t, grows) = ended_calm.done a in absurd (unoffending octets refusal.offset refusal.why (capture_of octets t.counts t.capture) t.within offence)
            | inr a ↦ elim a [ inl b ↦ b | inr b ↦ absurd (calm_sink (ended_calm.cause.rose b)) ]
          ]

  pub capture_write_fault : (s s' : S) (k k' : K) (status : Status) → CaptureCall left read_faults written faults finished s s' k k' status → HasFaultCause (faults k) (faults k') WriteFault status
  capture_write_fault s s' k k' ReadFault d =
      let same = (d.failed refl).1.kept in
      record { later = omega arith; rose = λ e. absurd cc; kept = λ n. same }
  capture_write_fault s s' k k' Done d = (d.ended (λ e. cc)).cause
  capture_write_fault s s' k k' Refused d = (d.ended (λ e. cc)).cause
  capture_write_fault s s' k k' Usage d = (d.ended (λ e. cc)).cause
  capture_write_fault s s' k k' WriteFault d = (d.ended (λ e. cc)).cause
  capture_write_fault s s' k k' Memory d = (d.ended (λ e. cc)).cause
