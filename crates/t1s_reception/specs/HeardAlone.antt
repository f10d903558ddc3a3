-- A frame that a node hears alone, on any script.
use Rattle.std.specs.Prelude.{◌≡◌, ◌≢◌, ℕ, suc, ◌+◌, ◌-◌, ◌*◌, ◌<◌, ◌≤◌, Bool, true, false, List, [], ◌∷◌, ◌++◌, All, length, get_or, None}
use Rattle.t1s_symbols.specs.declared.Heard.TheVariants.{Nothing}
use Rattle.t1s_symbols.specs.declared.Symbol.{Symbol}
use Rattle.t1s_frame.specs.Frame.{IsFrame, nibble_list}
use Rattle.t1s_grammar.specs.Burst.{Piece, IsPieceInRange, pieces_symbols}
use Rattle.t1s_grammar.specs.Sent.{sent_piece}
use Rattle.t1s_pcs_tx.specs.Runs.{all_quarters}
use Rattle.t1s_pcs_rx.specs.declared.piece.Kind.TheVariants.{Good}
use Rattle.t1s_harness.specs.Distances.{distance}
use Rattle.t1s_script.specs.declared.script.Script.{Script}
use Rattle.t1s_script.specs.Taps.{taps_of}
use Rattle.t1s_line.specs.Acts.{is_noisy}
use Rattle.t1s_line.specs.Happenings.{IsArrival}
use Rattle.t1s_line.specs.World.{driven_in, start_of, heard_in}

-- What a node drives from a tick on: some pieces of a run, and then the piece of a frame. That is what a transmitter sends for the
-- frame, with as many J before it and after as many scrambled bits as there were, and R closes it.
pub record Sending : Type 0 where
  pub start : ℕ
  pub earlier : List Piece
  pub lead : ℕ
  pub past : List Bool
  pub frame : List ℕ

abbrev pub frame_piece : Sending → Piece
frame_piece x = sent_piece x.lead x.past x.frame true

abbrev pub symbols_sent : Sending → List Symbol
symbols_sent x = pieces_symbols (x.earlier ++ frame_piece x ∷ [])

-- the tick in which the first H of the frame's piece begins
abbrev pub first_h : Sending → ℕ
first_h x = x.start + 4 * (length (pieces_symbols x.earlier) + x.lead)

module _ (s : Script) where
  -- how far the node at position i is from that at position j, in bit times
  abbrev pub way : ℕ → ℕ → ℕ
  way j i = distance (taps_of s) j i

  -- The node at position i drives this, quarter by quarter: at most 4096 pieces, of which each may stand in a run. What it drives
  -- after them is free.
  pub record IsSending (i : ℕ) (x : Sending) : Type 0 where
    pub few : length x.earlier < 4096
    pub in_range : All IsPieceInRange x.earlier
    pub least_lead : 2 ≤ x.lead
    pub most_lead : x.lead ≤ 4096
    pub is_frame : IsFrame x.frame
    pub drives : (m : ℕ) → m < 4 * length (symbols_sent x) → driven_in s i (x.start + m) ≡ get_or (all_quarters (symbols_sent x)) m None

  -- In tick t the node at position j has started, does not drive, and hears nothing but what the node at position i drove: no
  -- noise lasts, and no other node drove in the tick whose quarter would arrive in this one.
  pub record HearsOnly (i j t : ℕ) : Type 0 where
    pub started : start_of s j ≤ t
    pub rests : driven_in s j t ≡ None
    pub quiet : is_noisy s.acts t ≡ false
    pub others : (k : ℕ) → k < length s.nodes → k ≢ i → k ≢ j → way j k ≤ t → driven_in s k (t - way j k) ≡ None

  -- It does so in each tick in which a quarter arrives of what that node drives from tick `start` on for so many ticks; and in the
  -- tick before the first of them, if there is one, it hears nothing.
  pub record HearsAlone (i j start ticks : ℕ) : Type 0 where
    pub other : i ≢ j
    pub there : i < length s.nodes
    pub here : j < length s.nodes
    pub only : (m : ℕ) → m < ticks → HearsOnly i j (start + way j i + m)
    pub before : (t : ℕ) → suc t ≡ start + way j i → heard_in s j t ≡ Nothing

-- On every script: a frame whose first H begins at the node at position i in tick v, and which the node at position j hears alone
-- with all pieces before it, arrives there, good and unchanged, in the tick in which the last quarter of its closer arrives.
abbrev pub HeardAloneArrives : Type 0
HeardAloneArrives =
    (s : Script) (i j : ℕ) (x : Sending) → IsSending s i x → HearsAlone s i j x.start (4 * length (symbols_sent x))
    → (v : ℕ) → v ≡ first_h x → IsArrival s (v + 4 * length (nibble_list x.frame) - 1 + way s j i) j Good x.frame
