-- A piece that is closed by R, in any run of one node: whatever it hears, and however often its drive has met another signal.
use Rattle.std.specs.Prelude.{◌≡◌, ◌≢◌, ℕ, suc, ◌+◌, ◌*◌, ◌<◌, ◌≤◌, Bool, true, List, [], ◌∷◌, ◌++◌, All, length, get_or, Option, Some, None}
use Rattle.t1s_symbols.specs.declared.Quarter.{Quarter}
use Rattle.t1s_symbols.specs.declared.Symbol.TheVariants.{J, R}
use Rattle.t1s_frame.specs.Frame.{IsFrame}
use Rattle.t1s_grammar.specs.Burst.{Piece, IsPieceInRange, pieces_symbols}
use Rattle.t1s_grammar.specs.Sent.{sent_piece}
use Rattle.t1s_ring.specs.Queue.{empty_queue}
use Rattle.t1s_ring.specs.declared.queued.Queued.{Queued}
use Rattle.t1s_pcs_tx.specs.Runs.{all_quarters}
use Rattle.plca_control.specs.declared.ControlSet.{ControlSet}
use Rattle.t1s_node.specs.Core.{Core, core_start}
use Rattle.t1s_node.specs.Laws.{LeavesAt}
use Rattle.t1s_node.specs.Runs.{CoreTick, drive_at, leaves_at}

-- The piece whose first H begins in tick t is closed by R in tick `last`: from t on the node drives in each tick, and no J, with which
-- another piece would begin; and in the last tick it drives the last quarter of R.
pub record IsClosedByR (driven : ℕ → Option Quarter) (t last : ℕ) : Type 0 where
  pub from : t ≤ last
  pub goes_on : (u : ℕ) → t ≤ u → u ≤ last → (q : Quarter) × (driven u ≡ Some q) × (q.sym ≢ J)
  pub closer : driven last ≡ Some (record { sym = R; part = 3 })

-- From its beginning to tick `last` the drive spells some pieces of a run, at most so many, and then the piece of this frame, whole,
-- and its first H begins in tick t.
pub record SpellsFrame (driven : ℕ → Option Quarter) (most t last : ℕ) (frame : List ℕ) : Type 0 where
  pub start : ℕ
  pub earlier : List Piece
  pub lead : ℕ
  pub past : List Bool
  pub few : length earlier ≤ most
  pub in_range : All IsPieceInRange earlier
  pub least_lead : 2 ≤ lead
  pub most_lead : lead ≤ 4096
  pub is_frame : IsFrame frame
  pub first : t ≡ start + 4 * (length (pieces_symbols earlier) + lead)
  pub whole : suc last ≡ start + 4 * length (pieces_symbols (earlier ++ sent_piece lead past frame true ∷ []))
  pub drives : (m : ℕ) → m < 4 * length (pieces_symbols (earlier ++ sent_piece lead past frame true ∷ []))
      → driven (start + m) ≡ get_or (all_quarters (pieces_symbols (earlier ++ sent_piece lead past frame true ∷ []))) m None
  pub before : (u : ℕ) → suc u ≡ start → driven u ≡ None

module _ {D : Type 0} (answer : D → ℕ → ℕ) (after : D → D) where
  -- what is driven in each tick
  abbrev pub quarters_of : Core D → (ℕ → CoreTick) → ℕ → Option Quarter
  quarters_of start given u = (drive_at answer after start given u).quarter

  -- Where a frame leaves in a piece that is closed by R, it is the first in the MAC's queue as it leaves, and the piece is that of
  -- this frame.
  abbrev pub ClosesWholeFrames : Type 0
  ClosesWholeFrames =
      (set : ControlSet) (room : ℕ) (draws : D) (given : ℕ → CoreTick) (t last number : ℕ)
      → let start : Core D = core_start set (empty_queue room) draws in
      ((u : ℕ) → u ≤ last → All (λ (q : Queued). IsFrame q.frame) (given u).offers)
      → leaves_at answer after start given t ≡ Some number → IsClosedByR (quarters_of start given) t last
      → (f : Queued) × LeavesAt answer after start given f t × (f.number ≡ number)
      × SpellsFrame (quarters_of start given) set.burst t last f.frame
