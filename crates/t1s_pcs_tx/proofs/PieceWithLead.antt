-- A piece with the J that ended before it.
use Rattle.std.proofs.Common.{◌≡◌, ℕ, ◌+◌, Bool, List, [], ◌∷◌, ◌++◌, replicate, ap, subst, sym, ◌∙◌, append_assoc, append-nil, arith}
use Rattle.std.proofs.lemmas.List.{replicate-append-replicate}
use Rattle.std.proofs.lemmas.List.Concat.{flat_map-append}
use Rattle.t1s_symbols.specs.declared.Symbol.{Symbol}
use Rattle.t1s_symbols.specs.declared.Symbol.TheVariants.{J}
use Rattle.t1s_grammar.specs.Burst.{Piece, piece_symbols}
use Rattle.t1s_grammar.proofs.Sent.{sent_pieces_are_read}
use Rattle.t1s_pcs_tx.specs.State.{TxState}
use Rattle.t1s_pcs_tx.specs.Runs.{after, driven_ticks, popped_nibbles, quarters, all_quarters, lead_of}
use Rattle.t1s_pcs_tx.specs.Laws.{EndsWithPiece, spelled_piece, lead_after, SpellsWhatItPops, SendsFrames}
use Rattle.t1s_pcs_tx.proofs.Pieces.{driven_ticks-piece}
use Rattle.t1s_pcs_tx.proofs.Leads.{Row, row-of-run, driven_ticks-append}

replicate-two : (n : ℕ) (xs : List Symbol) → replicate n J ++ (J ∷ J ∷ xs) ≡ replicate (n + 2) J ++ xs
replicate-two n xs =
    sym (append_assoc (replicate n J) (J ∷ J ∷ []) xs) ∙ ap (λ js. js ++ xs) (replicate-append-replicate n 2 J)

-- J before a piece of two J lengthen its lead
longer-lead : (n : ℕ) (past : List Bool) (nibbles : List ℕ) (good : Bool)
    → replicate n J ++ piece_symbols (spelled_piece 2 past nibbles good)
    ≡ piece_symbols (spelled_piece (n + 2) past nibbles good)
longer-lead n past nibbles good =
    let piece : Piece = spelled_piece (n + 2) past nibbles good in
    replicate-two n _ ∙ sym (append_assoc (replicate (n + 2) J) _ _)

pub spells_what_it_pops : SpellsWhatItPops
spells_what_it_pops s before ticks good boundary run =
    let found : TxState = after s before in
    let n : ℕ = lead_of (driven_ticks s before) in
    let nibbles : List ℕ = popped_nibbles found ticks in
    let row : Row (driven_ticks s before) [] = row-of-run s before boundary run.boundary in
    let own : List Symbol = piece_symbols (spelled_piece 2 found.past nibbles good) in
    record {
      earlier = row.earlier;
      apart = row.apart;
      spelled =
          driven_ticks-append s before ticks
          ∙ ap (λ xs. xs ++ driven_ticks found ticks) (row.spelled ∙ append-nil (row.earlier ++ all_quarters (replicate n J)))
          ∙ append_assoc row.earlier (all_quarters (replicate n J)) (driven_ticks found ticks)
          ∙ ap (λ xs. row.earlier ++ (all_quarters (replicate n J) ++ xs)) (driven_ticks-piece found ticks good run)
          ∙ ap (λ xs. row.earlier ++ xs) (sym (flat_map-append quarters (replicate n J) own))
          ∙ ap (λ xs. row.earlier ++ all_quarters xs) (longer-lead n found.past nibbles good);
    }

pub sends_frames : SendsFrames
sends_frames s before ticks good octets heard boundary run frame all most =
    let found : TxState = after s before in
    let spelled = spells_what_it_pops s before ticks good boundary run in
    let lead : ℕ = lead_after s before in (
      subst (λ xs. EndsWithPiece (driven_ticks s (before ++ ticks)) (spelled_piece lead found.past xs good)) all spelled,
      sent_pieces_are_read lead found.past heard octets good (omega arith) most frame,
    )
