-- A symbol that is taken: what a receiver keeps of its burst then, and the pieces that it has completed.
use Rattle.std.proofs.Common.{◌≡◌, refl, ℕ, suc, ◌+◌, ◌-◌, ◌*◌, Bool, List, [], ◌∷◌, ◌++◌, length, map, replicate, drop, sym, ap, ap₂, ◌∙◌, arith, append_assoc, length-append}
use Rattle.std.specs.Prelude.{Option, Some, Ok}
use Rattle.std.proofs.lemmas.List.{append-nil, length-map, length-replicate, map-append}
use Rattle.std.proofs.lemmas.List.Concat.{flat_map-append}
use Rattle.t1s_symbols.specs.declared.Symbol.{Symbol}
use Rattle.t1s_symbols.specs.declared.Symbol.TheVariants.{Nibble, J, K, T, R, H, N, S}
use Rattle.t1s_scramble.specs.Scrambled.{descrambled_nibbles, descrambler_after}
use Rattle.t1s_scramble.proofs.Nibbles.{descrambled_nibbles-nil, descrambler_after-nil, descrambler_after-append}
use Rattle.t1s_grammar.specs.declared.place.Phase.{Phase}
use Rattle.t1s_grammar.specs.declared.place.PlaceFault.TheVariants.{NotHere}
use Rattle.t1s_grammar.specs.Burst.{Piece, open_symbols, piece_symbols, pieces_symbols}
use Rattle.t1s_grammar.specs.Longer.{with_symbol, piece_of}
use Rattle.t1s_grammar.specs.PlaceTable.{place_step, lead_at, nibbles_at}
use Rattle.t1s_grammar.specs.Prefixes.{Beginning, phase_of, whole_pieces, beacon, between, opened, within, ended}
use Rattle.t1s_grammar.proofs.Longer.{none_before, refused-taken}
use Rattle.t1s_pcs_rx.specs.PieceReading.{history_after, nibbles_after}
use Rattle.t1s_pcs_rx.specs.ReceiveTable.{closed_by, view_closed}
use Rattle.t1s_pcs_rx.specs.Views.{View, view_of, view_by, closer_of}
use Rattle.t1s_pcs_rx.proofs.Bursts.{heard-more}
use Rattle.t1s_capture.specs.Captures.{symbol_count}
use Rattle.t1s_capture.specs.Pieces.{pieces_nibbles, nibbles_in}
use Rattle.t1s_reception.specs.Receptions.{Reception, in_tick}
use Rattle.t1s_reception.specs.ShownPieces.{ShownPiece, shown_pieces, completed}

-- one piece more
pub shown_pieces-push : (start : ℕ) (past : List Bool) (ps : List Piece) (p : Piece)
    → shown_pieces start past (ps ++ p ∷ [])
    ≡ shown_pieces start past ps
    ++ record { start = start + 4 * length (pieces_symbols ps); view = view_of (descrambler_after past (pieces_nibbles ps)) p } ∷ []
shown_pieces-push start past [] p =
    let same : start ≡ start + 4 * length (pieces_symbols []) = omega arith in
    ap₂ (λ (n : ℕ) (h : List Bool). record { start = n; view = view_of h p } ∷ []) same (sym (descrambler_after-nil past))
shown_pieces-push start past (x ∷ xs) p =
    let here : ShownPiece = record { start = start; view = view_of past x } in
    let same : start + 4 * length (piece_symbols x) + 4 * length (pieces_symbols xs) ≡ start + 4 * length (pieces_symbols (x ∷ xs))
    = omega (arith, length-append (piece_symbols x) (pieces_symbols xs)) in
    let next : ℕ = start + 4 * length (piece_symbols x) in
    let later : List Bool = descrambler_after past x.nibbles in
    ap (λ (ys : List ShownPiece). here ∷ ys)
    (shown_pieces-push next later xs p
    ∙ ap₂ (λ (n : ℕ) (h : List Bool). shown_pieces next later xs ++ record { start = n; view = view_of h p } ∷ []) same
    (sym (descrambler_after-append past x.nibbles (pieces_nibbles xs))))

-- a burst that starts at this tick, before which the descrambler had this history
module _ (start : ℕ) (past : List Bool) where
  -- the history after its first symbols
  abbrev pub history_in : Beginning → List Bool
  history_in b = descrambler_after past (nibbles_in b)

  -- the nibbles that are kept then: those of the piece that has begun, from the tenth on
  abbrev pub Keeps : Beginning → List ℕ → Type 0
  Keeps (beacon count) heard = Unit {0}
  Keeps (between ps lead) heard = Unit {0}
  Keeps (opened ps lead) heard = Unit {0}
  Keeps (within ps lead ns) heard = heard ≡ drop 9 (descrambled_nibbles (descrambler_after past (pieces_nibbles ps)) ns)
  Keeps (ended ps lead ns) heard = heard ≡ drop 9 (descrambled_nibbles (descrambler_after past (pieces_nibbles ps)) ns)

  -- the pieces that are completed then, and the tick after these symbols
  abbrev pub told_in : Beginning → List Reception
  told_in b = map completed (shown_pieces start past (whole_pieces b))

  abbrev pub now_in : Beginning → ℕ
  now_in b = start + 4 * symbol_count b

  -- what is told as this symbol ends
  abbrev pub told_by : Beginning → List ℕ → Symbol → Option View
  told_by b heard s = view_closed heard (closed_by (lead_at (phase_of b)) (nibbles_at (phase_of b)) s)

  pub record Takes (b : Beginning) (s : Symbol) (heard : List ℕ) : Type 0 where
    pub history : history_after (history_in b) s ≡ history_in (with_symbol b s)
    pub keeps : Keeps (with_symbol b s) (nibbles_after (nibbles_at (phase_of b)) (history_in b) heard s)
    pub tells : told_in b ++ in_tick (suc (suc (suc (now_in b)))) (told_by b heard s) ≡ told_in (with_symbol b s)

  abbrev base : List Piece → List Bool
  base ps = descrambler_after past (pieces_nibbles ps)

  ended_ticks : (ps : List Piece) (lead : ℕ) (ns : List ℕ)
      → suc (suc (suc (now_in (ended ps lead ns)))) ≡ start + 4 * length (pieces_symbols ps) + 4 * (lead + length ns + 4) - 1
  ended_ticks ps lead ns =
      let begun : length (open_symbols lead ns) ≡ lead + (2 + length ns) =
      length-append (replicate lead J) (H ∷ H ∷ map Nibble ns) ∙ omega (arith, length-replicate lead J, length-map ns Nibble) in
      let count : symbol_count (ended ps lead ns) ≡ length (pieces_symbols ps) + length (open_symbols lead ns) + 1 =
      length-append (pieces_symbols ps ++ open_symbols lead ns) (T ∷ [])
      ∙ ap (λ (n : ℕ). n + 1) (length-append (pieces_symbols ps) (open_symbols lead ns)) in
      omega (arith, begun, count)

  -- a closer ends the piece
  closes : (ps : List Piece) (lead : ℕ) (ns heard : List ℕ) (s : Symbol) → Keeps (ended ps lead ns) heard
      → told_in (ended ps lead ns)
      ++ in_tick (suc (suc (suc (now_in (ended ps lead ns))))) (Some (view_by lead (length ns) (closer_of s) heard))
      ≡ told_in (between (ps ++ piece_of lead ns s ∷ []) 0)
  closes ps lead ns heard s kept =
      let p : Piece = piece_of lead ns s in
      let last : ShownPiece = record { start = start + 4 * length (pieces_symbols ps); view = view_of (base ps) p } in
      let told : List Reception = told_in (ended ps lead ns) in
      ap₂ (λ (t : ℕ) (xs : List ℕ). told ++ record { tick = t; view = view_by lead (length ns) (closer_of s) xs } ∷ []) (ended_ticks ps lead ns) kept
      ∙ sym (map-append completed (shown_pieces start past ps) (last ∷ []))
      ∙ ap (map completed) (sym (shown_pieces-push start past ps p))

  closed_history : (ps : List Piece) (lead : ℕ) (ns : List ℕ) (s : Symbol)
      → history_in (ended ps lead ns) ≡ history_in (between (ps ++ piece_of lead ns s ∷ []) 0)
  closed_history ps lead ns s =
      let p : Piece = piece_of lead ns s in
      let all : pieces_nibbles (ps ++ p ∷ []) ++ [] ≡ pieces_nibbles ps ++ ns =
      append-nil (pieces_nibbles (ps ++ p ∷ []))
      ∙ flat_map-append (λ (x : Piece). x.nibbles) ps (p ∷ [])
      ∙ ap (λ (xs : List ℕ). pieces_nibbles ps ++ xs) (append-nil ns) in
      ap (descrambler_after past) (sym all)

  pub takes : (b : Beginning) (s : Symbol) (q : Phase) (heard : List ℕ) → place_step (phase_of b) s ≡ Ok q → Keeps b heard → Takes b s heard
  takes (beacon count) N q heard e k = record { history = refl; keeps = tt; tells = refl }
  takes (beacon count) _ q heard e k = absurd (refused-taken NotHere q e)
  takes (between ps lead) J q heard e k = record { history = refl; keeps = tt; tells = append-nil (told_in (between ps lead)) }
  takes (between ps lead) H q heard e k = record { history = refl; keeps = tt; tells = append-nil (told_in (between ps lead)) }
  takes (between ps lead) N q heard e k =
      let none = none_before ps lead q e in
      record { history = rw (none.0) refl; keeps = tt; tells = rw (none.0) refl }
  takes (between ps lead) _ q heard e k = absurd (refused-taken NotHere q e)
  takes (opened ps lead) H q heard e k = record {
    history = refl;
    keeps = sym (ap (drop 9) (descrambled_nibbles-nil (base ps)));
    tells = append-nil (told_in (opened ps lead));
  }
  takes (opened ps lead) _ q heard e k = absurd (refused-taken NotHere q e)
  takes (within ps lead ns) (Nibble n) q heard e k =
      let before : List ℕ = pieces_nibbles ps in
      record {
        history = sym (descrambler_after-append past (before ++ ns) (n ∷ [])) ∙ ap (descrambler_after past) (append_assoc before ns (n ∷ []));
        keeps = ap₂ (λ (h : List Bool) (xs : List ℕ). nibbles_after (length ns) h xs (Nibble n)) (descrambler_after-append past before ns) k
            ∙ heard-more (base ps) ns n;
        tells = append-nil (told_in (within ps lead ns));
      }
  takes (within ps lead ns) T q heard e k = record { history = refl; keeps = k; tells = append-nil (told_in (within ps lead ns)) }
  takes (within ps lead ns) _ q heard e k = absurd (refused-taken NotHere q e)
  takes (ended ps lead ns) R q heard e k = record { history = closed_history ps lead ns R; keeps = tt; tells = closes ps lead ns heard R k }
  takes (ended ps lead ns) K q heard e k = record { history = closed_history ps lead ns K; keeps = tt; tells = closes ps lead ns heard K k }
  takes (ended ps lead ns) S q heard e k = record { history = closed_history ps lead ns S; keeps = tt; tells = closes ps lead ns heard S k }
  takes (ended ps lead ns) _ q heard e k = absurd (refused-taken NotHere q e)
