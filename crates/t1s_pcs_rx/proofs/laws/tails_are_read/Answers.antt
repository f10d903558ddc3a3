use Rattle.t1s_pcs_rx.proofs.Tails.{tails_are_read as are_read}
use Rattle.t1s_pcs_rx.proofs.TailTicks.{each_piece_gives_event, only_pieces_give_events, pieces_end_apart, tails_show_frames, whole_pieces_give_events}
use Rattle.t1s_pcs_rx.proofs.laws.tails_are_read.Goals as goal

pub returns-clause-events : goal.returns-clause-events
returns-clause-events c = are_read

pub returns-clause-only_pieces : goal.returns-clause-only_pieces
returns-clause-only_pieces c = only_pieces_give_events

pub returns-clause-each_piece : goal.returns-clause-each_piece
returns-clause-each_piece c = each_piece_gives_event

pub returns-clause-whole_pieces : goal.returns-clause-whole_pieces
returns-clause-whole_pieces c = whole_pieces_give_events

pub returns-clause-apart : goal.returns-clause-apart
returns-clause-apart c = pieces_end_apart

pub returns-clause-frames : goal.returns-clause-frames
returns-clause-frames c = tails_show_frames
