-- The octets of an item that has pieces, up to a piece of it and behind it.
use Rattle.std.proofs.Common.{◌≡◌, refl, ℕ, List, [], ◌∷◌, ◌++◌, replicate, sym, ap, subst, ◌∙◌, arith, append_assoc, length-append}
use Rattle.std.specs.List.{flat_map}
use Rattle.std.proofs.lemmas.List.{append-nil, get_or_append_left}
use Rattle.std.proofs.lemmas.List.Concat.{flat_map-append}
use Rattle.t1s_symbols.specs.declared.Symbol.{Symbol}
use Rattle.t1s_symbols.specs.declared.Symbol.TheVariants.{J, T, H, N}
use Rattle.t1s_grammar.specs.Burst.{Piece, IsPieceInRange, open_symbols, pieces_symbols}
use Rattle.t1s_grammar.specs.Prefixes.{Beginning, beginning_symbols, whole_pieces, ArePieces, IsBeginning, beacon, between, opened, within, ended}
use Rattle.t1s_grammar.proofs.Longer.{All-nil, more_pieces}
use Rattle.t1s_capture.specs.Captures.{CaptureItem, Gap, Burst, Torn, IsItem, symbol_octets, count_octets, item_octets, header, begun_text, capture_text}
use Rattle.t1s_capture.specs.Pieces.{item_symbols, item_pieces}

-- ---- the symbols of an item behind its whole pieces

abbrev pub behind : Beginning → List Symbol
behind (beacon count) = replicate count N
behind (between ps lead) = replicate lead J
behind (opened ps lead) = replicate lead J ++ H ∷ []
behind (within ps lead ns) = open_symbols lead ns
behind (ended ps lead ns) = open_symbols lead ns ++ T ∷ []

pub split : (b : Beginning) → beginning_symbols b ≡ pieces_symbols (whole_pieces b) ++ behind b
split (beacon count) = refl
split (between ps lead) = refl
split (opened ps lead) = append_assoc (pieces_symbols ps) (replicate lead J) (H ∷ [])
split (within ps lead ns) = refl
split (ended ps lead ns) = append_assoc (pieces_symbols ps) (open_symbols lead ns) (T ∷ [])

pub whole_fit : (b : Beginning) → IsBeginning b → ArePieces (whole_pieces b) 4096
whole_fit (beacon count) h = record { count = omega arith; in_range = All-nil IsPieceInRange }
whole_fit (between ps lead) h = h.0
whole_fit (opened ps lead) h = let few = h.0.count in record { count = omega (arith, few); in_range = h.0.in_range }
whole_fit (within ps lead ns) h = let few = h.0.count in record { count = omega (arith, few); in_range = h.0.in_range }
whole_fit (ended ps lead ns) h = let few = h.0.count in record { count = omega (arith, few); in_range = h.0.in_range }

pub before_fit : (xs ys : List Piece) → ArePieces (xs ++ ys) 4096 → ArePieces xs 4096
before_fit xs ys h =
    let few = h.count in
    record {
      count = omega (arith, few, length-append xs ys);
      in_range = λ k d lt. subst IsPieceInRange (get_or_append_left xs ys d k lt) (h.in_range k d (omega (arith, lt, length-append xs ys)));
    }

-- up to the closer of a piece
pub up_to_end : List Piece → Piece → List Symbol
up_to_end ps p = pieces_symbols ps ++ (open_symbols p.lead p.nibbles ++ T ∷ [])

pub closes : (ps : List Piece) (p : Piece) → pieces_symbols (ps ++ p ∷ []) ≡ up_to_end ps p ++ p.closer ∷ []
unfolding up_to_end
closes ps p =
    more_pieces ps p
    ∙ ap (λ (ss : List Symbol). pieces_symbols ps ++ ss) (sym (append_assoc (open_symbols p.lead p.nibbles) (T ∷ []) (p.closer ∷ [])))
    ∙ sym (append_assoc (pieces_symbols ps) (open_symbols p.lead p.nibbles ++ T ∷ []) (p.closer ∷ []))

-- ---- the octets of an item, and of a capture around it

pub blur_of : CaptureItem → List ℕ
blur_of (Gap n) = []
blur_of (Burst b) = []
blur_of (Torn b n) = 0x22 ∷ count_octets n

-- an item with a piece is no gap
pub data HasPieces : CaptureItem → Type 0 where
  in_whole : {b : Beginning} → HasPieces (Burst b)
  in_torn : {b : Beginning} {n : ℕ} → HasPieces (Torn b n)

pub has_pieces : (x : CaptureItem) (ps qs : List Piece) (p : Piece) → item_pieces x ≡ (ps ++ p ∷ []) ++ qs → HasPieces x
has_pieces (Gap n) [] qs p e = absurd (cc)
has_pieces (Gap n) (r ∷ rs) qs p e = absurd (cc)
has_pieces (Burst b) ps qs p e = in_whole
has_pieces (Torn b n) ps qs p e = in_torn

pub octets_are : (x : CaptureItem) → HasPieces x → item_octets x ≡ symbol_octets (item_symbols x) ++ blur_of x
unfolding item_octets blur_of
octets_are _ (in_whole {b = b}) = sym (append-nil (symbol_octets b))
octets_are _ in_torn = refl

pub symbols_fit : (x : CaptureItem) → HasPieces x → IsItem x → IsBeginning (item_symbols x)
symbols_fit _ in_whole h = h.0
symbols_fit _ in_torn h = h.0

five : (a b c d e : List ℕ) → (a ++ (b ++ (c ++ d))) ++ e ≡ (a ++ b) ++ (c ++ (d ++ e))
five a b c d e =
    append_assoc a (b ++ (c ++ d)) e
    ∙ ap (λ (xs : List ℕ). a ++ xs) (append_assoc b (c ++ d) e ∙ ap (λ (xs : List ℕ). b ++ xs) (append_assoc c d e))
    ∙ sym (append_assoc a b (c ++ (d ++ e)))

pub text_around : (node : ℕ) (xs ys : List CaptureItem) (x : CaptureItem)
    → capture_text node (xs ++ x ∷ ys) ≡ begun_text node xs ++ (item_octets x ++ (flat_map item_octets ys ++ 0x21 ∷ []))
text_around node xs ys x =
    ap (λ (os : List ℕ). (header node ++ os) ++ 0x21 ∷ []) (flat_map-append item_octets xs (x ∷ ys))
    ∙ five (header node) (flat_map item_octets xs) (item_octets x) (flat_map item_octets ys) (0x21 ∷ [])
