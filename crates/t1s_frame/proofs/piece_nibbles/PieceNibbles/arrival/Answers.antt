use Rattle.std.proofs.Common.{◌≡◌, ◌/◌, length, drop, sym, ap, ◌∙◌, arith}
use Rattle.t1s_frame.specs.Arrivals.{ends_with_check, octets_of}
use Rattle.t1s_frame.proofs.Pieces.{no_delimiter, odd_nibbles, few_octets, wrong_check, right_check, length-octets_of}
use Rattle.t1s_frame.proofs.PackedNibbles.{odd-rest, even-rest}
use Rattle.t1s_frame.proofs.piece_nibbles.PieceNibbles.arrival.Goals as goal

pub returns-then-not-is_delimited : goal.returns-then-not-is_delimited
returns-then-not-is_delimited c = no_delimiter c.args.self.now (sym c.if-not-is_delimited.ensures)

pub returns-then-count-eq0 : goal.returns-then-count-eq0
returns-then-count-eq0 c =
    let ns = c.args.self.now in
    odd_nibbles ns (sym c.if-not-is_delimited.ensures) (odd-rest ns c.count.result c.count.ensures (sym c.if-not-is_delimited.ensures) c.if-count-eq0.true)

pub returns-then-octets-lt-SHORTEST : goal.returns-then-octets-lt-SHORTEST
returns-then-octets-lt-SHORTEST c =
    let ns = c.args.self.now in
    let begins = sym c.is_delimited.ensures ∙ c.if-not-is_delimited.false in
    let long : length (octets_of (drop 3 ns)) ≡ length (drop 3 ns) / 2 = length-octets_of (drop 3 ns) in
    let same : length c.octets-octets.result.now ≡ length (octets_of (drop 3 ns)) = ap length c.octets-octets.ensures.value in
    few_octets ns begins (even-rest ns c.count.result c.count.ensures begins c.if-count-eq0.false) (omega (arith, c.if-octets-lt-SHORTEST.true))

pub returns-then-not-has_check : goal.returns-then-not-has_check
returns-then-not-has_check c =
    let ns = c.args.self.now in
    let begins = sym c.is_delimited.ensures ∙ c.if-not-is_delimited.false in
    let long : length (octets_of (drop 3 ns)) ≡ length (drop 3 ns) / 2 = length-octets_of (drop 3 ns) in
    let same : length c.octets-octets.result.now ≡ length (octets_of (drop 3 ns)) = ap length c.octets-octets.ensures.value in
    wrong_check ns begins (even-rest ns c.count.result c.count.ensures begins c.if-count-eq0.false) (omega (arith, c.if-octets-lt-SHORTEST.false))
    (ap ends_with_check (sym c.octets-octets.ensures.value) ∙ sym c.has_check.ensures ∙ c.if-not-has_check.true)

pub returns : goal.returns
returns c =
    let ns = c.args.self.now in
    let begins = sym c.is_delimited.ensures ∙ c.if-not-is_delimited.false in
    let long : length (octets_of (drop 3 ns)) ≡ length (drop 3 ns) / 2 = length-octets_of (drop 3 ns) in
    let same : length c.octets-octets.result.now ≡ length (octets_of (drop 3 ns)) = ap length c.octets-octets.ensures.value in
    right_check ns begins (even-rest ns c.count.result c.count.ensures begins c.if-count-eq0.false) (omega (arith, c.if-octets-lt-SHORTEST.false))
    (ap ends_with_check (sym c.octets-octets.ensures.value) ∙ sym c.has_check.ensures ∙ c.if-not-has_check.false)
