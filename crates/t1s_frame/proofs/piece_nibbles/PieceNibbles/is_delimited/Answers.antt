use Rattle.std.proofs.Common.{◌≡◌, nat_eq, sym, ap, ◌∙◌, arith, ◌∷◌, [], ℕ, List, length}
use Rattle.std.specs.List.{starts_with}
use Rattle.t1s_frame.proofs.PackedNibbles.{delimited-packed, undelimited-packed}
use Rattle.t1s_frame.proofs.piece_nibbles.PieceNibbles.is_delimited.Goals as goal

pub returns : goal.returns
returns c =
    let long : length c.self.inside.packed ≡ 1524 = c.self.told in
    c.is_delimiter.ensures
    ∙ sym (delimited-packed c.self.inside.packed c.self.inside.end (omega arith) c.if-self-lt4.false)
    ∙ ap (λ (ns : List ℕ). starts_with nat_eq ns (5 ∷ 5 ∷ 13 ∷ [])) c.self.view_is

pub returns-then-self-lt4 : goal.returns-then-self-lt4
returns-then-self-lt4 c =
    sym (undelimited-packed c.self.inside.packed c.self.inside.end c.if-self-lt4.true)
    ∙ ap (λ (ns : List ℕ). starts_with nat_eq ns (5 ∷ 5 ∷ 13 ∷ [])) c.self.view_is
