-- What ties control, MAC, transmitter, data path and line together in any run of a node, whatever it hears: what meets its drive and
-- how often it collides is free. Beside it stands the drive that is on.
use Rattle.std.proofs.Common.{◌≡◌, ◌⊎◌, ℕ, suc, ◌+◌, ◌*◌, ◌==◌, ◌<◌, ◌≤◌, Bool, true, false, List, [], ◌∷◌, ◌++◌, length, drop, replicate, Option, Some, None, if◌then◌else◌}
use Rattle.std.specs.Prelude.{All}
use Rattle.t1s_symbols.specs.declared.Symbol.{Symbol}
use Rattle.t1s_symbols.specs.declared.Symbol.TheVariants.{J, H, T}
use Rattle.t1s_scramble.specs.Scrambled.{scrambled_nibbles, scrambler_after}
use Rattle.t1s_frame.specs.Frame.{IsFrame, nibble_list}
use Rattle.t1s_grammar.specs.Burst.{Piece, IsPieceInRange, open_symbols, piece_symbols, pieces_symbols}
use Rattle.t1s_grammar.specs.Sent.{sent_piece, carried_nibbles}
use Rattle.t1s_ring.specs.Queue.{Queue}
use Rattle.t1s_ring.specs.declared.queued.Queued.{Queued}
use Rattle.t1s_pcs_tx.specs.State.{Stage, Quiet, Beaconing, Committing, Starting, Sending, ClosingEnd, ClosingCloser, symbol_of, is_first_h}
use Rattle.plca_control.specs.declared.State.{State as ControlStage}
use Rattle.plca_control.specs.declared.State.TheVariants.{Beacon, Transmit as InTransmit}
use Rattle.plca_data.specs.declared.data_path.State.{State}
use Rattle.plca_data.specs.declared.data_path.State.TheVariants.{Silent, Idle, Hold, Collide, DelayPending, Pending, WaitMac, Transmit}
use Rattle.t1s_mac.specs.declared.deference.Deference.{Deference}
use Rattle.t1s_mac.specs.declared.deference.Deference.TheVariants.{Busy}
use Rattle.t1s_mac.specs.State.{Phase, Sending as Giving}
use Rattle.t1s_node.proofs.LineFeed.{Feeds}
use Rattle.t1s_node.proofs.MacTurns.{Heads, count_of}
use Rattle.t1s_node.proofs.AnyMac.{Gone, Gives}
use Rattle.t1s_node.proofs.AnyControl.{is_away, Owns, Waits}

-- the symbols of the drive that is on after tick `now`, the last one begun or whole, and the last tick in which a first H began
pub record Past : Type 0 where
  pub symbols : List Symbol
  pub now : ℕ
  pub last : ℕ

abbrev pub with_symbol : List Symbol → Option Symbol → List Symbol
with_symbol symbols None = []
with_symbol symbols (Some x) = symbols ++ x ∷ []

-- the same after one more tick, which leaves a transmitter so
abbrev pub grown : Past → Stage → ℕ → Past
grown g stage part =
    if part == 0 then record {
      symbols = with_symbol g.symbols (symbol_of stage);
      now = suc g.now;
      last = if is_first_h stage then suc g.now else g.last;
    } else record { symbols = g.symbols; now = suc g.now; last = g.last }

-- outside of the own opportunity: data path, MAC and line
pub data AtRest : State → Phase → Queue → Deference → List ℕ → Type 0 where
  silent : {phase : Phase} {q : Queue} {d : Deference} → Gone phase q → AtRest Silent phase q d []
  idle : {phase : Phase} {q : Queue} {d : Deference} → Gone phase q → AtRest Idle phase q d []
  delays : {n : ℕ} {phase : Phase} {q : Queue} → Gone phase q → AtRest (DelayPending n) phase q Busy []
  pends : {phase : Phase} {q : Queue} → Gone phase q → AtRest Pending phase q Busy []
  holds : {f : Queued} {k p : ℕ} {q : Queue} {line : List ℕ} → Heads q f → k ≤ 96 → p ≤ 3 → Feeds (nibble_list f.frame) (k + 1) 0 line
      → AtRest Hold (Giving k p false) q Busy line
  collides : {p : ℕ} {phase : Phase} {q : Queue} → Gives p phase q → AtRest Collide phase q Busy []

-- within it, before a piece of which b may follow it: the pieces of the drive so far
pub record Before (burst b : ℕ) (earlier : List Piece) : Type 0 where
  pub few : length earlier + b ≤ burst
  pub in_range : All IsPieceInRange earlier

-- The symbol of the nibble of f that was popped last, which is nibble i, and the drive up to it: m symbols J had ended before the
-- first pop, and the scrambler had this history then.
pub data OpenPiece (earlier : List Piece) (m : ℕ) (before : List Bool) (f : Queued) : ℕ → Stage → List Bool → List Symbol → Type 0 where
  first : {symbols : List Symbol} → symbols ≡ pieces_symbols earlier ++ replicate (m + 1) J → OpenPiece earlier m before f 0 (Starting 0) before symbols
  second : {symbols : List Symbol} → symbols ≡ pieces_symbols earlier ++ replicate (m + 2) J → OpenPiece earlier m before f 1 (Starting 1) before symbols
  third : {symbols : List Symbol} → symbols ≡ pieces_symbols earlier ++ (replicate (m + 2) J ++ H ∷ [])
      → OpenPiece earlier m before f 2 (Starting 2) before symbols
  fourth : {symbols : List Symbol} → symbols ≡ pieces_symbols earlier ++ open_symbols (m + 2) [] → OpenPiece earlier m before f 3 (Starting 3) before symbols
  later : {i x : ℕ} {past : List Bool} {symbols : List Symbol} (given : List ℕ) → length given + 3 ≡ i → 1 ≤ length given
      → past ≡ scrambler_after before given → given ++ drop (i + 1) (nibble_list f.frame) ≡ carried_nibbles f.frame
      → symbols ≡ pieces_symbols earlier ++ open_symbols (m + 2) (scrambled_nibbles before given)
      → OpenPiece earlier m before f i (Sending x) past symbols

-- in a piece
pub data InPiece : Stage → Type 0 where
  starts : {i : ℕ} → InPiece (Starting i)
  sends : {x : ℕ} → InPiece (Sending x)

-- at the end of one that will not be closed by R
pub data EndsBadly : Stage → Type 0 where
  ends : {good : Bool} → EndsBadly (ClosingEnd good)
  closes : EndsBadly (ClosingCloser false)

-- the MAC of a piece that has met another signal: the line has a nibble at the next pop unless the MAC has ended
pub data Works (s : ℕ) : Phase → Queue → List ℕ → Type 0 where
  gone : {phase : Phase} {q : Queue} {line : List ℕ} → Gone phase q → Works s phase q line
  gives : {p : ℕ} {phase : Phase} {q : Queue} {line : List ℕ} → Gives p phase q → (0 < length line) ⊎ (s < p) → Works s phase q line

-- `Leaves t f` says that the first H of f began in tick t
module _ (Leaves : ℕ → Queued → Type 0) where
  -- it did so n ticks ago
  pub record Left (g : Past) (f : Queued) (n : ℕ) : Type 0 where
    pub since : g.last + n ≡ g.now
    pub leaves : Leaves g.last f

  -- so it is for a piece whose nibble i is on, in its quarter s, once the first H has begun
  abbrev pub Marked : Past → Queued → ℕ → ℕ → Type 0
  Marked g f i s = 2 ≤ i → (n : ℕ) × (n + 8 ≡ 4 * i + s) × Left g f n

module _ (burst : ℕ) (Leaves : ℕ → Queued → Type 0) where
  -- Of the parts: control's state, the MAC's phase, frames and deference, the transmitter's stage, quarter and history, the data
  -- path's state, the line, and the drive.
  pub data Stands : ControlStage → Phase → Queue → Deference → Stage → ℕ → List Bool → State → List ℕ → Past → Type 0 where
    away : {st : ControlStage} {phase : Phase} {q : Queue} {d : Deference} {part : ℕ} {past : List Bool} {path : State} {line : List ℕ} {g : Past}
        → is_away st ≡ true → AtRest path phase q d line → g.symbols ≡ [] → Stands st phase q d Quiet part past path line g
    in_row : {n part : ℕ} {phase : Phase} {q : Queue} {d : Deference} {past : List Bool} {path : State} {line : List ℕ} {g : Past}
        (x : ℕ) → n + part ≡ 4 * x → 1 ≤ n → part ≤ 3 → AtRest path phase q d line → Stands (Beacon n) phase q d Beaconing part past path line g
    waits : {c n b part : ℕ} {st : ControlStage} {phase : Phase} {q : Queue} {d : Deference} {past : List Bool} {g : Past}
        (earlier : List Piece) (m x : ℕ) → Waits c n b st → 1 ≤ n → part ≤ 3 → n + part + 4 * (m + x) ≡ 292 → Gone phase q → Before burst b earlier
        → g.symbols ≡ pieces_symbols earlier ++ replicate m J → Stands st phase q d Committing part past WaitMac [] g
    opens : {c b p part : ℕ} {f : Queued} {st : ControlStage} {q : Queue} {past : List Bool} {line : List ℕ} {g : Past}
        (earlier : List Piece) (m : ℕ) → Owns c b st → Heads q f → p ≤ part → part ≤ 3 → m ≤ 72 → Before burst b earlier
        → g.symbols ≡ pieces_symbols earlier ++ replicate m J → Feeds (nibble_list f.frame) 1 0 line
        → Stands st (Giving 0 p false) q Busy Committing part past (Transmit false false) line g
    fed : {c b i s k p : ℕ} {f : Queued} {st : ControlStage} {q : Queue} {stage : Stage} {past : List Bool} {line : List ℕ} {g : Past}
        (earlier : List Piece) (m : ℕ) (before : List Bool) → Owns c b st → Heads q f → 4 * i + s < 4 * k + p → p ≤ 3 → s ≤ 3 → k < count_of f → m ≤ 72
        → OpenPiece earlier m before f i stage past g.symbols → Marked Leaves g f i s → Before burst b earlier
        → Feeds (nibble_list f.frame) (k + 1) (i + 1) line → length line ≤ 97
        → Stands st (Giving k p false) q Busy stage s past (Transmit false false) line g
    given : {c b i s : ℕ} {f : Queued} {phase : Phase} {q : Queue} {stage : Stage} {past : List Bool} {line : List ℕ} {g : Past}
        (earlier : List Piece) (m : ℕ) (before : List Bool) → Gone phase q → IsFrame f.frame → s ≤ 3 → m ≤ 72
        → OpenPiece earlier m before f i stage past g.symbols → Marked Leaves g f i s → 3 ≤ i → Before burst b earlier
        → Feeds (nibble_list f.frame) (count_of f) (i + 1) line
        → Stands (InTransmit c b) phase q Busy stage s past (Transmit true false) line g
    ends : {c b s : ℕ} {f : Queued} {phase : Phase} {q : Queue} {past : List Bool} {g : Past}
        (earlier : List Piece) (m : ℕ) (before : List Bool) → Gone phase q → IsFrame f.frame → s ≤ 3 → m ≤ 72
        → g.symbols ≡ pieces_symbols earlier ++ (open_symbols (m + 2) (scrambled_nibbles before (carried_nibbles f.frame)) ++ T ∷ [])
        → Marked Leaves g f (count_of f) s → Before burst b earlier
        → Stands (InTransmit c b) phase q Busy (ClosingEnd true) s past (Transmit true false) [] g
    closes : {c b s : ℕ} {f : Queued} {phase : Phase} {q : Queue} {past : List Bool} {bad : Bool} {g : Past}
        (earlier : List Piece) (m : ℕ) (before : List Bool) → Gone phase q → IsFrame f.frame → s ≤ 3 → m ≤ 72
        → g.symbols ≡ pieces_symbols earlier ++ piece_symbols (sent_piece (m + 2) before f.frame true)
        → Marked Leaves g f (count_of f + 1) s → Before burst b earlier
        → Stands (InTransmit c b) phase q Busy (ClosingCloser true) s past (Transmit true bad) [] g
    spoils : {c b part : ℕ} {phase : Phase} {q : Queue} {past : List Bool} {ended : Bool} {line : List ℕ} {g : Past}
        → part ≤ 3 → Works 4 phase q (0 ∷ line) → Stands (InTransmit c b) phase q Busy Committing part past (Transmit ended true) line g
    spoiled : {c b s : ℕ} {phase : Phase} {q : Queue} {stage : Stage} {past : List Bool} {ended : Bool} {line : List ℕ} {g : Past}
        → InPiece stage → s ≤ 3 → Works s phase q line → Stands (InTransmit c b) phase q Busy stage s past (Transmit ended true) line g
    ends_badly : {c b s : ℕ} {phase : Phase} {q : Queue} {stage : Stage} {past : List Bool} {ended : Bool} {g : Past}
        → EndsBadly stage → s ≤ 3 → Gone phase q → Stands (InTransmit c b) phase q Busy stage s past (Transmit ended true) [] g
