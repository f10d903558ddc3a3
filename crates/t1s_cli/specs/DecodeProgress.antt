-- How far the decoding of octets has come, and how it ends.
use Rattle.std.specs.Prelude.{◌≡◌, ◌≢◌, ◌↔◌, ℕ, ◌⊎◌, Bool, true, List, [], ◌∷◌, ◌++◌, length, Option}
use Rattle.t1s_base.specs.Octets.{Grows, GrowsByPrefix}
use Rattle.t1s_capture.specs.declared.decoder.Next.{Next}
use Rattle.t1s_capture.specs.declared.decoder.Next.TheVariants.{Refused as RefusedNext}
use Rattle.t1s_capture.specs.declared.items.Refusal.{Refusal}
use Rattle.t1s_capture.specs.Answers.{YieldsItem, StandsAfter}
use Rattle.t1s_capture.specs.DecodedItems.{DecodedItem, IsItemOctet}
use Rattle.t1s_capture.specs.Offences.{IsFirstOffence}
use Rattle.t1s_capture.specs.State.{DecoderState}
use Rattle.t1s_capture.specs.Stands.{Stands}
use Rattle.t1s_report.specs.DecodedText.{IsItemText, IsCaptureText, IsOffenceText, IsDecodedText}
use Rattle.t1s_cli.specs.Faults.{HasFaultCause}
use Rattle.t1s_cli.specs.declared.status.Status.{Status}
use Rattle.t1s_cli.specs.declared.status.Status.TheVariants.{Done, Refused, WriteFault}

-- What a decoder answers to an octet after those before it, where it stands for these: the item that is handed out at
-- it, or its refusal, or that it goes on.
pub record AnswersOctet (before : List ℕ) (octet : ℕ) (next : Next) : Type 0 where
  pub item : (item : DecodedItem) → YieldsItem next item ↔ IsItemOctet before octet item
  pub refused : (r : Refusal) → (next ≡ RefusedNext r) ↔ ((r.offset ≡ length before) × IsFirstOffence (before ++ octet ∷ []) r.offset r.why)
  pub goes_on : StandsAfter (before ++ octet ∷ []) next

-- A sink, where `written` tells what it holds and `faults` counts its faults, has grown by the lines of the items that
-- the octets complete, and has not failed.
pub record ShownItems {K : Type 0} (written : K → Option (List ℕ)) (faults : K → ℕ) (octets : List ℕ) (before after : K) : Type 0 where
  pub lines : List ℕ
  pub items : IsItemText octets lines
  pub grows : Grows (written before) (written after) lines
  pub kept : faults after ≡ faults before

-- the decoder stands for the octets, and their lines are written
pub record DecodeProgress {K : Type 0} (written : K → Option (List ℕ)) (faults : K → ℕ) (octets : List ℕ) (decoder : DecoderState) (before after : K) : Type 0 where
  pub stands : Stands octets decoder
  pub shown : ShownItems written faults octets before after

-- The decoding of these octets, the whole input, has ended. After Done and Refused their decoded text is
-- written and the sink is finished; a sink that failed holds a prefix of the text.
pub record DecodeEnd {K : Type 0} (written : K → Option (List ℕ)) (faults : K → ℕ) (finished : K → Bool) (octets : List ℕ) (before after : K) (status : Status) : Type 0 where
  pub answer : (status ≡ Done) ⊎ ((status ≡ Refused) ⊎ (status ≡ WriteFault))
  pub done : status ≡ Done → (text : List ℕ) × IsCaptureText octets text × Grows (written before) (written after) text
  pub refused : status ≡ Refused → (text : List ℕ) × IsOffenceText octets text × Grows (written before) (written after) text
  pub prefix : status ≡ WriteFault → (text : List ℕ) × IsDecodedText octets text × GrowsByPrefix (written before) (written after) text
  pub finish : (status ≡ Done) ⊎ (status ≡ Refused) → finished after ≡ true
  pub cause : HasFaultCause (faults before) (faults after) WriteFault status

-- the decoding has ended within these octets, whatever follows them
pub record DecodeStop {K : Type 0} (written : K → Option (List ℕ)) (faults : K → ℕ) (finished : K → Bool) (octets : List ℕ) (before after : K) (status : Status) : Type 0 where
  pub early : status ≢ Done
  pub ends : (more : List ℕ) → DecodeEnd written faults finished (octets ++ more) before after status
