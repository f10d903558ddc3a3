-- The octets of a piece that a decoder takes at once.
use Rattle.std.proofs.Common.{◌≡◌, ℕ, ◌+◌, ◌-◌, List, [], ◌∷◌, ◌++◌, length, take, drop, sym, ap, ◌∙◌, arith, append_assoc, length-append, length-drop}
use Rattle.std.proofs.Math.Seq.{take-add, take-append_seam}
use Rattle.std.proofs.lemmas.List.{take-append-drop, take_all}
use Rattle.t1s_capture.specs.declared.decoder.Next.{Next}
use Rattle.t1s_capture.specs.Answers.{IsFed}
use Rattle.t1s_cli.specs.DecodeProgress.{AnswersOctet}

-- what is left of a piece is all that follows what was taken
pub rest_all : (piece : List ℕ) (at : ℕ) → take (length piece - at) (drop at piece) ≡ drop at piece
rest_all piece at = take_all (length piece - at) (drop at piece) (omega (arith, length-drop at piece))

module _ (octets piece : List ℕ) (at count : ℕ) (next : Next) (fed : IsFed (octets ++ take at piece) (drop at piece) count next) where
  -- the octets up to the last one taken
  abbrev pub Before : List ℕ
  Before = (octets ++ take at piece) ++ fed.silent

  pub answers : AnswersOctet Before fed.last next
  answers = record { item = fed.item; refused = fed.refused; goes_on = fed.goes_on }

  -- those taken are the first of the piece
  pub taken : Before ++ fed.last ∷ [] ≡ octets ++ take (at + count) piece
  taken =
      let front : List ℕ = fed.silent ++ fed.last ∷ [] in
      let all : drop at piece ≡ front ++ fed.rest = fed.piece_is ∙ sym (append_assoc fed.silent (fed.last ∷ []) fed.rest) in
      let many : count ≡ length front = omega (arith, fed.counted, length-append fed.silent (fed.last ∷ [])) in
      let first : take count (drop at piece) ≡ front = rw (all, many) (take-append_seam front fed.rest) in
      append_assoc (octets ++ take at piece) fed.silent (fed.last ∷ [])
      ∙ (append_assoc octets (take at piece) front ∙ ap (λ (o : List ℕ). octets ++ o) (ap (λ (o : List ℕ). take at piece ++ o) (sym first) ∙ sym (take-add at count piece)))

  -- and the rest follows them
  pub taken_of_all : (Before ++ fed.last ∷ []) ++ drop (at + count) piece ≡ octets ++ piece
  taken_of_all =
      ap (λ (o : List ℕ). o ++ drop (at + count) piece) taken ∙ (append_assoc octets (take (at + count) piece) (drop (at + count) piece) ∙ ap (λ (o : List ℕ). octets ++ o) (take-append-drop (at + count) piece))
