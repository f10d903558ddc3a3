use Rattle.std.proofs.Common.{◌≡◌, ◌-◌, ◌/◌, length, take, drop, sym, ap, ◌∙◌, arith, ℕ, List}
use Rattle.t1s_frame.specs.Arrivals.{octets_of}
use Rattle.t1s_frame.proofs.PackedNibbles.{octets-packed}
use Rattle.t1s_frame.proofs.piece_nibbles.PieceNibbles.octets.Goals as goal

pub returns-clause-value : goal.returns-clause-value
returns-clause-value c =
    let long : length c.self.inside.packed ≡ 1524 = c.self.told in
    let end : c.max.result - 2 ≡ c.self.inside.end / 2 - 2 = omega (arith, c.max.ensures) in
    ap (λ (n : ℕ). take n (drop 2 c.self.inside.packed)) end
    ∙ sym (octets-packed c.self.inside.packed c.self.inside.end (omega arith))
    ∙ ap (λ (ns : List ℕ). octets_of (drop 3 ns)) c.self.view_is
