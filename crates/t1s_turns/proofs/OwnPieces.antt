-- The pieces of an own run, read back from its symbols, are its own.
use Rattle.std.proofs.Common.{◌≡◌, ℕ, List, map, sym}
use Rattle.t1s_grammar.specs.Burst.{IsRun}
use Rattle.t1s_grammar.proofs.RunPieces.{same_pieces}
use Rattle.t1s_turns.specs.OwnRun.{OwnPiece, piece_of, run_symbols}

pub own_pieces : (pieces : List OwnPiece) (rest : ℕ) (run : IsRun (run_symbols pieces rest)) → run.pieces ≡ map piece_of pieces
own_pieces pieces rest run = same_pieces run.pieces (map piece_of pieces) run.rest rest (sym run.spelled)
