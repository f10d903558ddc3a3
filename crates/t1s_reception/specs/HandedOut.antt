-- The pieces that a capture shows are those that a decoder hands out.
use Rattle.std.specs.Prelude.{◌≡◌, ℕ, ◌≤◌, ◌^◌, List, ◌∷◌, ◌++◌, All, Contains, length, map}
use Rattle.t1s_capture.specs.Captures.{CaptureItem, IsCaptureOf}
use Rattle.t1s_capture.specs.DecodedItems.{PieceItem, IsItemOctet}
use Rattle.t1s_capture.specs.Pieces.{views_of}
use Rattle.t1s_reception.specs.ShownPieces.{ShownPiece, shown_in}

-- at one of these octets, after those before it, this piece is handed out, with its start
abbrev pub IsHandedOut : List ℕ → ShownPiece → Type 0
IsHandedOut octets p =
    (before : List ℕ) × (octet : ℕ) × (rest : List ℕ) × (octets ≡ before ++ octet ∷ rest) × IsItemOctet before octet (PieceItem p.start p.view)

-- So is each piece that a capture of at most 2^30 octets shows, and no other. In their order they have the views that are counted in
-- it.
pub record AreHandedOut (octets : List ℕ) (items : List CaptureItem) : Type 0 where
  pub each : All (IsHandedOut octets) (shown_in items)
  pub only : (p : ShownPiece) → IsHandedOut octets p → Contains (shown_in items) p
  pub counted : map (λ (p : ShownPiece). p.view) (shown_in items) ≡ views_of items

abbrev pub ShownPiecesAreHandedOut : Type 0
ShownPiecesAreHandedOut =
    (octets : List ℕ) (node : ℕ) (items : List CaptureItem) → IsCaptureOf octets node items → length octets ≤ 2 ^ 30 → AreHandedOut octets items
