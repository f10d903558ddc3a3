use Rattle.std.proofs.Common.{◌≡◌, ◌+◌, ◌/◌, set, ◌++◌, ◌∷◌, [], length, ap, ◌∙◌, arith, ℕ, List}
use Rattle.t1s_frame.specs.PackedNibbles.{packed_nibbles}
use Rattle.t1s_frame.proofs.PackedNibbles.{packed-push, packed-room}
use Rattle.t1s_frame.proofs.piece_nibbles.PieceNibbles.push.Goals as goal

pub bounds-self-inside-place : goal.bounds-self-inside-place
bounds-self-inside-place c =
    let room = packed-room c.self.inside.packed c.args.self.now c.self.inside.end c.self.told c.self.invariant c.self.view_is c.requires.room in
    omega arith

pub bounds-self-inside-place-2 : goal.bounds-self-inside-place-2
bounds-self-inside-place-2 c =
    let room = packed-room c.self.inside.packed c.args.self.now c.self.inside.end c.self.told c.self.invariant c.self.view_is c.requires.room in
    omega arith

pub invariant_of-self : goal.invariant_of-self
invariant_of-self c =
    let room = packed-room c.self.inside.packed c.args.self.now c.self.inside.end c.self.told c.self.invariant c.self.view_is c.requires.room in
    record { least = omega arith; most = omega arith }

pub returns : goal.returns
returns c =
    let ns = c.args.self.now in
    let room = packed-room c.self.inside.packed ns c.self.inside.end c.self.told c.self.invariant c.self.view_is c.requires.room in
    let long : length c.self.inside.packed ≡ 1524 = c.self.told in
    ap (λ (x : ℕ). packed_nibbles (set c.self.inside.packed (c.self.inside.end / 2) x) (c.self.inside.end + 1)) c.with_nibble.ensures
    ∙ packed-push c.self.inside.packed c.self.inside.end c.args.nibble c.self.invariant.least (omega arith) c.requires.range
    ∙ ap (λ (xs : List ℕ). xs ++ c.args.nibble ∷ []) c.self.view_is
