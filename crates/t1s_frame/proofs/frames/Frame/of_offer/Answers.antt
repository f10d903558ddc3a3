use Rattle.std.proofs.Common.{◌≡◌, ◌-◌, ◌<◌, ◌++◌, ℕ, length, replicate, drop, min, take, arith, ap, ◌∙◌}
use Rattle.std.proofs.lemmas.List.{drop-replicate, length-replicate, take_all}
use Rattle.std.proofs.lemmas.List.Elements.{All-from_get_or}
use Rattle.std.specs.List.{All}
use Rattle.t1s_frame.proofs.Whole.{IsFrame-frame_of}
use Rattle.t1s_frame.specs.Frame.{frame_of, padded}
use Rattle.t1s_frame.specs.FrameCheck.{check_octets, frame_check}
use Rattle.t1s_frame.specs.declared.frames.TheConstants.{PADDING}
use Rattle.t1s_frame.proofs.frames.Frame.of_offer.Goals as goal

-- the rest of the padding from a place on
rest_of : (place : ℕ) → drop place PADDING ≡ replicate (60 - place) 0
rest_of place = drop-replicate place 60 0

padding : (n place : ℕ) → place ≡ min n 60 → take (60 - place) (drop place PADDING) ≡ replicate (60 - n) 0
padding n place at =
    let rest : 60 - place ≡ 60 - n = omega arith in
    ap (take (60 - place)) (rest_of place)
    ∙ take_all (60 - place) (replicate (60 - place) 0) (simp length-replicate (omega arith))
    ∙ ap (λ count. replicate count 0) rest

module _ (c : goal.After-append-3) where
  padded_is : c.append-2.new.held.items ≡ padded c.args.octets.now
  padded_is =
      let after_preamble : c.append-2.new.held.items ≡ c.append.new.held.items ++ take (60 - c.min.result) (drop c.min.result PADDING) =
      c.append-2.ensures in
      let before : c.append.new.held.items ≡ c.args.octets.now =
      c.append.ensures ∙ ap (λ xs. xs ++ c.args.octets.now) c.new-held.ensures in
      after_preamble ∙ ap (λ xs. xs ++ take (60 - c.min.result) (drop c.min.result PADDING)) before
      ∙ ap (λ ys. c.args.octets.now ++ ys) (padding (length c.args.octets.now) c.min.result c.min.ensures)

  frame_is : c.append-3.new.held.items ≡ frame_of c.args.octets.now
  unfolding frame_of
  frame_is =
      let seen : c.as_slice.result.now ≡ padded c.args.octets.now = c.as_slice.ensures.value ∙ padded_is in
      let check : c.to_le_bytes.result ≡ check_octets (frame_check (padded c.args.octets.now)) =
      c.to_le_bytes.ensures ∙ ap check_octets (c.fcs-check.ensures ∙ ap frame_check seen) in
      c.append-3.ensures ∙ ap (λ ys. c.append-2.new.held.items ++ ys) check
      ∙ ap (λ xs. xs ++ check_octets (frame_check (padded c.args.octets.now))) padded_is

pub returns-clause-frame : goal.returns-clause-frame
returns-clause-frame c = frame_is c

pub invariant_of-result : goal.invariant_of-result
invariant_of-result c =
    let xs = c.args.octets.now in
    let octets : All (λ x. x < 256) xs = All-from_get_or (λ x. x < 256) xs 0 (λ i below. omega (arith, c.type_inv.octets i)) in
    rw (frame_is c) (IsFrame-frame_of xs (omega arith) octets)

pub returns-clause-whole : goal.returns-clause-whole
returns-clause-whole c = invariant_of-result c
