-- What a node drives while the opportunity is its own.
use Rattle.std.specs.Prelude.{◌≡◌, ℕ, zero, suc, ◌+◌, ◌*◌, ◌<◌, ◌≤◌, ◌⊎◌, Bool, true, false, List, [], ◌∷◌, ◌++◌, length, map, replicate, Option, Some, None}
use Rattle.t1s_symbols.specs.declared.Quarter.{Quarter}
use Rattle.t1s_symbols.specs.declared.Symbol.{Symbol}
use Rattle.t1s_symbols.specs.declared.Symbol.TheVariants.{J}
use Rattle.t1s_grammar.specs.Burst.{Piece, piece_symbols, pieces_symbols, IsRun}
use Rattle.t1s_grammar.specs.Reading.{StandsForFrame}
use Rattle.t1s_grammar.specs.Sent.{sent_piece}
use Rattle.t1s_ring.specs.Queue.{empty_queue}
use Rattle.t1s_ring.specs.declared.queued.Queued.{Queued}
use Rattle.t1s_pcs_tx.specs.State.{Quiet}
use Rattle.t1s_pcs_tx.specs.Runs.{all_quarters}
use Rattle.plca_control.specs.declared.ControlSet.{ControlSet}
use Rattle.t1s_node.specs.Core.{Core, core_start}
use Rattle.t1s_node.specs.Laws.{LeavesAt}
use Rattle.t1s_node.specs.Runs.{CoreTick, IsUndisturbed, drive_at, left_at, own_at, leaves_at}

-- a piece of an own run: how many J lead it, the history of the scrambler before it, and the frame that it carries
pub record OwnPiece : Type 0 where
  pub lead : ℕ
  pub past : List Bool
  pub offer : Queued

abbrev pub piece_of : OwnPiece → Piece
piece_of p = sent_piece p.lead p.past p.offer.frame true

-- how many ticks it takes, with its lead
abbrev pub ticks_of : OwnPiece → ℕ
ticks_of p = 4 * length (piece_symbols (piece_of p))

-- the symbols of an own run: its pieces, and the J after the last of them
abbrev pub run_symbols : List OwnPiece → ℕ → List Symbol
run_symbols pieces rest = pieces_symbols (map piece_of pieces) ++ replicate rest J

-- the most ticks of an own run, by how many further frames an opportunity may have
abbrev pub longest_run : ℕ → ℕ
longest_run burst = (1 + burst) * 12384 + 136

-- the first H of one of these pieces begins in tick u, where the lead of the first of them begins in tick t
abbrev pub IsFirstH : ℕ → List OwnPiece → ℕ → Type 0
IsFirstH t [] u = ⊥
IsFirstH t (p ∷ ps) u = (u ≡ t + 4 * p.lead) ⊎ IsFirstH (t + ticks_of p) ps u

module _ {D : Type 0} (answer : D → ℕ → ℕ) (after : D → D) (start : Core D) (given : ℕ → CoreTick) where
  -- what is driven in n ticks from tick t on
  abbrev pub quarters_from : ℕ → ℕ → List (Option Quarter)
  quarters_from t zero = []
  quarters_from t (suc n) = (drive_at answer after start given t).quarter ∷ quarters_from (suc t) n

  -- each of these pieces carries a frame, which leaves as the first H of the piece begins, and stands for it whatever
  -- was heard before
  abbrev pub AreSent : ℕ → List OwnPiece → Type 0
  AreSent t [] = Unit {0}
  AreSent t (p ∷ ps) =
      LeavesAt answer after start given p.offer (t + 4 * p.lead)
      × ((heard : List Bool) → StandsForFrame heard (piece_of p) p.offer.frame)
      × AreSent (t + ticks_of p) ps

  -- the opportunity is the node's own from tick t to tick e, and what it drives in it is a run
  pub record IsOwnRun (burst t e : ℕ) : Type 0 where
    pub pieces : List OwnPiece
    pub rest : ℕ
    pub few : length pieces ≤ 1 + burst
    pub run : IsRun (run_symbols pieces rest)
    pub drives : quarters_from t (4 * length (run_symbols pieces rest)) ≡ all_quarters (run_symbols pieces rest)
    pub ends : e ≡ t + 4 * length (run_symbols pieces rest)
    pub short : e ≤ t + longest_run burst
    pub sent : AreSent t pieces
    pub no_other : (u number : ℕ) → t ≤ u → u < e → leaves_at answer after start given u ≡ Some number → IsFirstH t pieces u
    pub owns : (u : ℕ) → t ≤ u → u < e → own_at answer after start given u ≡ true
    pub over : own_at answer after start given e ≡ false
    pub quiet : (left_at answer after start given e).tx.stage ≡ Quiet
    pub silent : (drive_at answer after start given e).quarter ≡ None

module _ {D : Type 0} (answer : D → ℕ → ℕ) (after : D → D) where
  -- Where the own opportunity begins, what the node drives while it lasts is a run of one to 1 + burst pieces; each
  -- carries a frame that leaves in it, and no other frame leaves. It ends within `longest_run` ticks, at a symbol's
  -- boundary, and the transmitter is Quiet then.
  abbrev pub OwnsARun : Type 0
  OwnsARun =
      (set : ControlSet) (room : ℕ) (draws : D) (given : ℕ → CoreTick) (t end : ℕ)
      → let start : Core D = core_start set (empty_queue room) draws in
      set.burst ≤ 255 → IsUndisturbed answer after start given end → t + longest_run set.burst ≤ end
      → own_at answer after start given t ≡ true → ((u : ℕ) → u + 1 ≡ t → own_at answer after start given u ≡ false)
      → (e : ℕ) × IsOwnRun answer after start given set.burst t e
