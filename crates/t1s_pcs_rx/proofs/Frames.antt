-- The view of a piece that stands for a frame.
use Rattle.std.proofs.Common.{◌≡◌, refl, ℕ, ◌+◌, ◌*◌, ◌<◌, ◌≤◌, Bool, List, length, drop, ap, ◌∙◌, arith}
use Rattle.std.specs.Prelude.{All}
use Rattle.std.proofs.lemmas.List.Elements.{All-drop}
use Rattle.t1s_scramble.specs.Scrambled.{descrambled_nibbles}
use Rattle.t1s_scramble.proofs.Nibbles.{descrambled_nibbles-below}
use Rattle.t1s_frame.specs.Frame.{IsFrame}
use Rattle.t1s_frame.specs.Arrivals.{arrival_of, octets_of}
use Rattle.t1s_frame.specs.declared.arrivals.Arrival.TheVariants.{Good as WholeFrame}
use Rattle.t1s_frame.proofs.Nibbles.{length-nibbles_of}
use Rattle.t1s_frame.proofs.Pieces.{good_exactly_for_frames, octets_of-nibbles_of}
use Rattle.t1s_grammar.specs.Burst.{Piece}
use Rattle.t1s_grammar.specs.Reading.{StandsForFrame, heard_nibbles}
use Rattle.t1s_pcs_rx.specs.declared.piece.Closer.TheVariants.{R}
use Rattle.t1s_pcs_rx.specs.declared.piece.Kind.TheVariants.{Good}
use Rattle.t1s_pcs_rx.specs.Views.{closer_of, view_by}
use Rattle.t1s_pcs_rx.specs.Laws.{FramesAreShown}

-- the heard nibbles of a frame are Good
frame-good : (past : List Bool) (piece : Piece) (octets : List ℕ) → IsFrame octets → StandsForFrame past piece octets
    → arrival_of (heard_nibbles past piece) ≡ WholeFrame
frame-good past piece octets h s =
    let heard : List ℕ = heard_nibbles past piece in
    let longest : length octets ≤ 1522 = h.longest in
    let long : length heard ≡ 3 + 2 * length octets
    = ap length s.heard ∙ omega (arith, length-nibbles_of octets) in
    let below : All (λ n. n < 16) heard
    = All-drop (λ n. n < 16) 9 (descrambled_nibbles past piece.nibbles) (descrambled_nibbles-below past piece.nibbles) in
    (good_exactly_for_frames heard below (omega arith)).1 (octets, h, s.heard)

frame-octets : (past : List Bool) (piece : Piece) (octets : List ℕ) → StandsForFrame past piece octets
    → octets_of (drop 3 (heard_nibbles past piece)) ≡ octets
frame-octets past piece octets s = ap (λ ns. octets_of (drop 3 ns)) s.heard ∙ octets_of-nibbles_of octets

-- a view by its parts
view-good : (lead groups : ℕ) (heard octets : List ℕ) → arrival_of heard ≡ WholeFrame → octets_of (drop 3 heard) ≡ octets
    → view_by lead groups R heard ≡ record { lead = lead; groups = groups; closer = R; kind = Good; frame = octets }
view-good lead groups heard octets e f = rw (e, f) refl

pub frames_are_shown : FramesAreShown
frames_are_shown past piece octets h s =
    ap (λ c. view_by piece.lead (length piece.nibbles) (closer_of c) (heard_nibbles past piece)) s.closer
    ∙ view-good piece.lead (length piece.nibbles) (heard_nibbles past piece) octets (frame-good past piece octets h s)
    (frame-octets past piece octets s)
