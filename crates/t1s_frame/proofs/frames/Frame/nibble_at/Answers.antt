use Rattle.std.proofs.Common.{◌-◌, ◌/◌, ◌%◌, ◌≤◌, Some, length, get_or, ap, sym, ◌∙◌, arith}
use Rattle.std.proofs.lemmas.Option.{slice_get_past}
use Rattle.t1s_frame.specs.Frame.{nibble_list}
use Rattle.t1s_frame.proofs.Nibbles.{in_preamble, at_delimiter, low_nibble, high_nibble, length-nibble_list}
use Rattle.t1s_frame.proofs.frames.Frame.nibble_at.Goals as goal

pub returns-then-i-lt-PREAMBLE-clause-value : goal.returns-then-i-lt-PREAMBLE-clause-value
returns-then-i-lt-PREAMBLE-clause-value c = in_preamble c.args.self.now c.args.i c.if-i-lt-PREAMBLE.true

pub returns-then-i-eq-PREAMBLE-clause-value : goal.returns-then-i-eq-PREAMBLE-clause-value
returns-then-i-eq-PREAMBLE-clause-value c = at_delimiter c.args.self.now c.args.i c.if-i-eq-PREAMBLE.true

pub returns-in_err-octet-clause-value : goal.returns-in_err-octet-clause-value
returns-in_err-octet-clause-value c =
    let xs = c.args.self.now in
    let past : length c.octets.result.now ≤ c.from.result = c.in_err-octet.ensures.lookup.3 in
    let same = ap length c.octets.ensures.value in
    c.from_residual.ensures ∙ sym (slice_get_past (nibble_list xs) c.args.i (omega (arith, length-nibble_list xs)))

pub returns-then-place-eq0-clause-value : goal.returns-then-place-eq0-clause-value
returns-then-place-eq0-clause-value c =
    let found = c.in_ok-octet.ensures.lookup.3 in
    let xs = c.args.self.now in
    let place = c.args.i - 15 - 1 in
    let same = ap length c.octets.ensures.value in
    ap (λ x. Some (x % 16)) (found.1 0 ∙ ap (λ k. get_or c.octets.result.now k 0) c.from.ensures ∙ ap (λ ys. get_or ys (place / 2) 0) c.octets.ensures.value)
    ∙ low_nibble xs c.args.i place (omega arith) c.if-place-eq0.true (omega (arith, found.0))

pub returns-else-place-eq0-clause-value : goal.returns-else-place-eq0-clause-value
returns-else-place-eq0-clause-value c =
    let found = c.in_ok-octet.ensures.lookup.3 in
    let xs = c.args.self.now in
    let place = c.args.i - 15 - 1 in
    let same = ap length c.octets.ensures.value in
    ap (λ x. Some (x / 16)) (found.1 0 ∙ ap (λ k. get_or c.octets.result.now k 0) c.from.ensures ∙ ap (λ ys. get_or ys (place / 2) 0) c.octets.ensures.value)
    ∙ high_nibble xs c.args.i place (omega arith) c.if-place-eq0.false (omega (arith, found.0))
