-- A piece that is fed to a decoder which stays in its place.
use Rattle.std.proofs.Common.{◌≡◌, ℕ, ◌<◌, ◌≤◌, List, length, sym, ap, subst, ◌∙◌}
use Rattle.std.specs.Prelude.{All}
use Rattle.t1s_capture.specs.declared.capture_reader.Outcome.{Outcome}
use Rattle.t1s_capture.specs.declared.decoder.Next.{Next}
use Rattle.t1s_capture.specs.State.{DecoderState, ReaderState}
use Rattle.t1s_capture.specs.Stands.{Stands}
use Rattle.t1s_capture.specs.Answers.{IsFed}
use Rattle.t1s_capture.specs.DecoderTable.{fed}
use Rattle.t1s_capture.specs.Outcomes.{outcome_next, decoder_left}
use Rattle.t1s_capture.proofs.Feeding.{fed-least, fed-most, fed_is}

-- so many octets are taken, and the last leads to this
pub record IsAdvanced (d : DecoderState) (piece : List ℕ) (count : ℕ) (next : Next) : Type 0 where
  pub some : 1 ≤ count
  pub within : count ≤ length piece
  pub fed_to : (before : List ℕ) → Stands before d → IsFed before piece count next

advanced_by : (d : DecoderState) (piece : List ℕ) (x : ℕ × Next) → 1 ≤ length piece → All (λ o. o < 256) piece → x ≡ fed d piece
    → IsAdvanced d piece x.0 x.1
advanced_by d piece x some low e =
    subst (λ (y : ℕ × Next). IsAdvanced d piece y.0 y.1) (sym e)
    (record { some = fed-least d piece some; within = fed-most piece d; fed_to = λ before stands. fed_is piece before d stands some low })

-- a reader that was opened as the decoder `d` reads the piece
module _ (d opened : DecoderState) (same : opened ≡ d) (r : ReaderState) (piece : List ℕ) (left : r.decoder ≡ decoder_left opened piece) where
  pub left_is : r.decoder ≡ decoder_left d piece
  left_is = left ∙ ap (λ (x : DecoderState). decoder_left x piece) same

  pub advanced : (o : Outcome) (count : ℕ) (next : Next) → 1 ≤ length piece → All (λ o. o < 256) piece
      → (count, outcome_next o r) ≡ fed opened piece → outcome_next o (record { decoder = decoder_left d piece; nibbles = r.nibbles }) ≡ next
      → IsAdvanced d piece count next
  advanced o count next some low is leads =
      advanced_by d piece (count, next) some low
      (ap (λ (n : Next). (count, n)) (sym leads)
      ∙ ap (λ (e : DecoderState). (count, outcome_next o (record { decoder = e; nibbles = r.nibbles }))) (sym left_is)
      ∙ is
      ∙ ap (λ (x : DecoderState). fed x piece) same)
