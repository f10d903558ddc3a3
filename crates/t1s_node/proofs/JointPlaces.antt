-- The places of a node's drive side, and what ties control, MAC, transmitter, data path and line together in each.
use Rattle.std.proofs.Common.{◌≡◌, ℕ, ◌+◌, ◌-◌, ◌*◌, ◌<◌, ◌≤◌, Bool, true, false, List, [], ◌∷◌, ◌++◌, slice_index}
use Rattle.plca_data.specs.declared.data_path.State.{State}
use Rattle.plca_data.specs.declared.data_path.State.TheVariants.{Silent, Idle, Hold, Collide, DelayPending, Pending, WaitMac, Transmit}
use Rattle.t1s_frame.specs.Frame.{nibble_list}
use Rattle.t1s_ring.specs.Queue.{Queue}
use Rattle.t1s_ring.specs.declared.queued.Queued.{Queued}
use Rattle.t1s_mac.specs.MacTable.{Row}
use Rattle.t1s_mac.specs.declared.outcome.MacNote.{MacNote}
use Rattle.t1s_mac.specs.declared.outcome.MacNote.TheVariants.{None as NoNote, Jam, Sent}
use Rattle.t1s_mac.specs.declared.deference.Deference.{Deference}
use Rattle.t1s_mac.specs.declared.deference.Deference.TheVariants.{Busy, Gap}
use Rattle.t1s_mac.specs.State.{Phase, Deferring, Sending as Gives, Jamming}
use Rattle.t1s_pcs_tx.specs.State.{Stage, Quiet, Starting, Sending, ClosingEnd, ClosingCloser}
use Rattle.t1s_node.proofs.LineFeed.{Feeds}
use Rattle.t1s_node.proofs.NoPiece.{Free}
use Rattle.t1s_node.proofs.MacTurns.{Heads, Rests, BacksOff, count_of}
use Rattle.t1s_node.proofs.View.{View, Away, InRow, InCommit, InTransmit, InPause}

-- where the node is with its frame
pub data Place : Type 0 where
  Asleep : Place
  Idles : Place
  -- the frame in Hold, and the nibble that is given out with the ticks that it has lasted
  Holds : Queued → ℕ → ℕ → Place
  -- the frame that has met a logical collision, and its nibble
  Collides : Queued → ℕ → ℕ → Place
  -- the frame that is jammed, and the jam's nibble
  Jams : Queued → ℕ → ℕ → Place
  -- the frame, and the ticks left of its wait
  Delays : Queued → ℕ → Place
  IsPending : Queued → Place
  -- the opportunity has begun after a wait: the frame, and the ticks left of the commit timer
  Opens : Queued → ℕ → Place
  -- the opportunity goes on after a piece
  Pauses : Place
  -- the frame goes through the line, and has not been popped from: its nibble, and the quarters left before the first pop
  Before : Queued → ℕ → ℕ → ℕ → Place
  -- the piece: whether the frame has been sent, the last nibble popped, and the quarter of its symbol
  InPiece : Queued → Bool → ℕ → ℕ → Place
  -- T, and the closer
  Ends : Queued → ℕ → Place
  Closes : Queued → ℕ → Place

-- how the note of a step changes whether the frame has been sent
pub data Told (f : Queued) : Bool → MacNote → Bool → Type 0 where
  as_before : {b : Bool} → Told f b NoNote b
  now_sent : Told f false (Sent f.number) true

abbrev pub nibble_of : Queued → ℕ → ℕ
nibble_of f i = slice_index (nibble_list f.frame) i

-- the ways from place to place, each with the note of the step and the nibbles that are popped in it
pub data Goes : Place → MacNote → List ℕ → Place → Type 0 where
  sleeps : Goes Asleep NoNote [] Asleep
  wakes : Goes Asleep NoNote [] Idles
  idles_on : Goes Idles NoNote [] Idles
  idle_starts : {f : Queued} → Goes Idles NoNote [] (Holds f 0 0)
  holds_on : {f : Queued} {k p k' p' : ℕ} → 4 * k' + p' ≡ 4 * k + p + 1 → k' ≤ 96 → p' ≤ 3 → Goes (Holds f k p) NoNote [] (Holds f k' p')
  hold_fails : {f : Queued} {k p k' p' : ℕ} → 4 * k' + p' ≡ 4 * k + p + 1 → k ≤ 96 → p ≤ 3 → Goes (Holds f k p) NoNote [] (Collides f k' p')
  hold_opens : {f : Queued} {k p k' p' r : ℕ} → k ≤ 96 → p ≤ 3 → r ≤ 3 → Goes (Holds f k p) NoNote [] (Before f k' p' r)
  hold_pops : {f : Queued} {k p : ℕ} → k ≤ 96 → p ≤ 3 → Goes (Holds f k p) NoNote (nibble_of f 0 ∷ []) (InPiece f false 0 0)
  collide_lasts : {f : Queued} {k p : ℕ} → p < 3 → Goes (Collides f k p) NoNote [] (Collides f k (p + 1))
  collide_gives : {f : Queued} {k p : ℕ} → p ≡ 3 → k < 15 → Goes (Collides f k p) NoNote [] (Collides f (k + 1) 0)
  collide_jams : {f : Queued} {k p : ℕ} → p ≡ 3 → 15 ≤ k → Goes (Collides f k p) (Jam f.number) [] (Jams f 0 0)
  jam_lasts : {f : Queued} {j p : ℕ} → p < 3 → Goes (Jams f j p) NoNote [] (Jams f j (p + 1))
  jam_gives : {f : Queued} {j p : ℕ} → p ≡ 3 → j < 7 → Goes (Jams f j p) NoNote [] (Jams f (j + 1) 0)
  jam_ends : {f : Queued} {j p : ℕ} → p ≡ 3 → j ≡ 7 → Goes (Jams f j p) NoNote [] (Delays f 512)
  delays_on : {f : Queued} {n : ℕ} → 1 < n → Goes (Delays f n) NoNote [] (Delays f (n - 1))
  delay_ends : {f : Queued} {n : ℕ} → n ≡ 1 → Goes (Delays f n) NoNote [] (IsPending f)
  pends_on : {f : Queued} → Goes (IsPending f) NoNote [] (IsPending f)
  pending_opens : {f : Queued} → Goes (IsPending f) NoNote [] (Opens f 288)
  opens_on : {f : Queued} {n n' : ℕ} → n ≡ n' + 1 → 192 ≤ n' → Goes (Opens f n) NoNote [] (Opens f n')
  open_starts : {f : Queued} {n r : ℕ} → n ≡ 192 → r ≤ 3 → Goes (Opens f n) NoNote [] (Before f 0 0 r)
  pauses_on : Goes Pauses NoNote [] Pauses
  pause_ends : Goes Pauses NoNote [] Idles
  pause_lapses : {f : Queued} → Goes Pauses NoNote [] (Holds f 0 0)
  pause_starts : {f : Queued} {r : ℕ} → r ≤ 3 → Goes Pauses NoNote [] (Before f 0 0 r)
  before_on : {f : Queued} {k p r k' p' r' : ℕ} → r ≡ r' + 1 → Goes (Before f k p r) NoNote [] (Before f k' p' r')
  before_pops : {f : Queued} {k p r : ℕ} → r ≡ 0 → Goes (Before f k p r) NoNote (nibble_of f 0 ∷ []) (InPiece f false 0 0)
  piece_lasts : {f : Queued} {b b' : Bool} {note : MacNote} {i s : ℕ} → Told f b note b' → s < 3
      → Goes (InPiece f b i s) note [] (InPiece f b' i (s + 1))
  piece_pops : {f : Queued} {b b' : Bool} {note : MacNote} {i s : ℕ} → Told f b note b' → s ≡ 3 → i + 1 < count_of f
      → Goes (InPiece f b i s) note (nibble_of f (i + 1) ∷ []) (InPiece f b' (i + 1) 0)
  piece_ends : {f : Queued} {i s : ℕ} → s ≡ 3 → i + 1 ≡ count_of f → Goes (InPiece f true i s) NoNote [] (Ends f 0)
  ends_on : {f : Queued} {s : ℕ} → s < 3 → Goes (Ends f s) NoNote [] (Ends f (s + 1))
  end_closes : {f : Queued} {s : ℕ} → s ≡ 3 → Goes (Ends f s) NoNote [] (Closes f 0)
  closes_on : {f : Queued} {s : ℕ} → s < 3 → Goes (Closes f s) NoNote [] (Closes f (s + 1))
  close_pauses : {f : Queued} {s : ℕ} → s ≡ 3 → Goes (Closes f s) NoNote [] Pauses
  close_rests : {f : Queued} {s : ℕ} → s ≡ 3 → Goes (Closes f s) NoNote [] Idles

-- outside of the own opportunity
pub data Apart : View → Type 0 where
  away : Apart Away
  row : {b : ℕ} → b ≤ 19 → Apart (InRow b)

-- within it
pub data Owning : View → Type 0 where
  commit : {n : ℕ} → Owning (InCommit n)
  transmit : Owning InTransmit
  pause : {n : ℕ} → Owning (InPause n)

-- Where a frame has been held for o ticks, the own opportunity begins at a boundary of the transmitter, or o is small:
-- e is by how much the boundaries miss the end of the row of beacons.
pub data Aligned (o : ℕ) : View → ℕ → Type 0 where
  even_away : Aligned o Away 0
  odd_away : {r : ℕ} → o + 21 * r + 20 ≤ 83 → Aligned o Away r
  even_row : {b r : ℕ} (m : ℕ) → b ≤ 19 → r + 4 * m ≡ b → Aligned o (InRow b) r
  odd_row : {b r : ℕ} (m e : ℕ) → b ≤ 19 → e ≤ 3 → r + 4 * m ≡ e + b → o + 21 * e + b ≤ 83 → Aligned o (InRow b) r

-- the symbol of the nibble that was popped last, and its quarter
pub data PieceTx : ℕ → ℕ → Stage → Type 0 where
  starting : {i q : ℕ} → i ≤ 3 → q ≤ 3 → PieceTx i q (Starting i)
  sending : {i q x : ℕ} → 4 ≤ i → q ≤ 3 → PieceTx i q (Sending x)

-- the interframe gap after a wait, by the commit timer
pub data Opening : ℕ → Deference → Type 0 where
  opens : Opening 288 Busy
  gap : {n g : ℕ} → n ≡ 191 + g → 1 ≤ g → g ≤ 96 → Opening n (Gap g)

-- Of the parts: control's view, the MAC's state, frames, deference and attempts, the transmitter's stage and quarter,
-- the data path's state, and the line.
pub data Joint : Place → View → Phase → Queue → Deference → ℕ → Stage → ℕ → State → List ℕ → Type 0 where
  asleep : {phase : Phase} {q : Queue} {part : ℕ} → Rests phase q → Joint Asleep Away phase q Busy 0 Quiet part Silent []
  idles : {v : View} {phase : Phase} {q : Queue} {d : Deference} {stage : Stage} {part r : ℕ}
      → Apart v → Rests phase q → Free stage part r → Joint Idles v phase q d 0 stage part Idle []
  holds : {f : Queued} {k p : ℕ} {v : View} {q : Queue} {stage : Stage} {part r : ℕ} {line : List ℕ}
      → Heads q f → k ≤ 96 → p ≤ 3 → Free stage part r → Aligned (4 * k + p) v r → Feeds (nibble_list f.frame) (k + 1) 0 line
      → Joint (Holds f k p) v (Gives k p false) q Busy 0 stage part Hold line
  collides : {f : Queued} {k p : ℕ} {c : Bool} {v : View} {q : Queue} {stage : Stage} {part r : ℕ}
      → Apart v → Heads q f → k < count_of f → p ≤ 3 → Free stage part r
      → Joint (Collides f k p) v (Gives k p c) q Busy 0 stage part Collide []
  jams : {f : Queued} {j p : ℕ} {v : View} {q : Queue} {stage : Stage} {part r : ℕ}
      → Apart v → Heads q f → j ≤ 7 → p ≤ 3 → Free stage part r
      → Joint (Jams f j p) v (Jamming j p) q Busy 0 stage part Collide []
  delays : {f : Queued} {n : ℕ} {v : View} {phase : Phase} {q : Queue} {stage : Stage} {part r : ℕ}
      → Apart v → Heads q f → 1 ≤ n → BacksOff n phase q → Free stage part r
      → Joint (Delays f n) v phase q Busy 1 stage part (DelayPending n) []
  pends : {f : Queued} {v : View} {phase : Phase} {q : Queue} {stage : Stage} {part r : ℕ}
      → Apart v → Heads q f → BacksOff 0 phase q → Free stage part r → Joint (IsPending f) v phase q Busy 1 stage part Pending []
  waits : {f : Queued} {n : ℕ} {q : Queue} {d : Deference} {stage : Stage} {part r : ℕ}
      → Opening n d → Heads q f → Free stage part r → Joint (Opens f n) (InCommit n) Deferring q d 1 stage part WaitMac []
  rests_in : {n : ℕ} {phase : Phase} {q : Queue} {d : Deference} {stage : Stage} {part r : ℕ}
      → Rests phase q → Free stage part r → Joint Pauses (InPause n) phase q d 0 stage part WaitMac []
  before : {f : Queued} {k p a : ℕ} {v : View} {q : Queue} {stage : Stage} {part r : ℕ} {line : List ℕ}
      → Owning v → Heads q f → a ≤ 1 → p ≤ 3 → 4 * k + p + r ≤ 90 → Free stage part r → Feeds (nibble_list f.frame) (k + 1) 0 line
      → Joint (Before f k p r) v (Gives k p false) q Busy a stage part (Transmit false false) line
  fed : {f : Queued} {i s k p a d : ℕ} {v : View} {q : Queue} {stage : Stage} {line : List ℕ}
      → Owning v → Heads q f → a ≤ 1 → p ≤ 3 → 4 * k + p ≡ 4 * i + s + d → 1 ≤ d → d ≤ 388 → PieceTx i s stage
      → Feeds (nibble_list f.frame) (k + 1) (i + 1) line
      → Joint (InPiece f false i s) v (Gives k p false) q Busy a stage s (Transmit false false) line
  given : {f : Queued} {i s : ℕ} {phase : Phase} {q : Queue} {stage : Stage} {line : List ℕ}
      → Rests phase q → PieceTx i s stage → Feeds (nibble_list f.frame) (count_of f) (i + 1) line → 4 * count_of f ≤ 4 * i + s + 388 → 3 ≤ i
      → Joint (InPiece f true i s) InTransmit phase q Busy 0 stage s (Transmit true false) line
  ends : {f : Queued} {s : ℕ} {phase : Phase} {q : Queue} → Rests phase q → s ≤ 3
      → Joint (Ends f s) InTransmit phase q Busy 0 (ClosingEnd true) s (Transmit true false) []
  closes : {f : Queued} {s : ℕ} {phase : Phase} {q : Queue} → Rests phase q → s ≤ 3
      → Joint (Closes f s) InTransmit phase q Busy 0 (ClosingCloser true) s (Transmit true false) []

-- What a step comes to: from a place and a line, by control's new view, the MAC's row, its deference, the transmitter's
-- stage, quarter and line, and what the data path leaves.
pub record Outcome (from : Place) (line : List ℕ) (v : View) (left : Row) (d : Deference) (stage : Stage) (part : ℕ) (popped_from : List ℕ) (kept : State × List ℕ) : Type 0 where
  pub to : Place
  pub popped : List ℕ
  pub goes : Goes from left.note popped to
  pub lost : line ≡ popped ++ popped_from
  pub joint : Joint to v left.phase left.queue d left.attempts stage part kept.0 kept.1
