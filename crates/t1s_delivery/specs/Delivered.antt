-- What becomes of the frames of a run: which arrival is due from which leaving, and that these are all (IEEE 802.3 clause 148).
use Rattle.std.specs.Prelude.{◌≡◌, ◌≢◌, ℕ, ◌+◌, ◌*◌, ◌<◌, ◌≤◌, List, length, Contains, slice_get, Some}
use Rattle.t1s_frame.specs.Frame.{nibble_list}
use Rattle.t1s_ring.specs.declared.queued.Queued.{Queued}
use Rattle.t1s_pcs_rx.specs.declared.piece.Kind.{Kind}
use Rattle.t1s_pcs_rx.specs.declared.piece.Kind.TheVariants.{Good}
use Rattle.t1s_script.specs.Fit.{IsFit, longest_drive, start_bound}
use Rattle.t1s_script.specs.Script.{IsScript}
use Rattle.t1s_script.specs.declared.script.Deed.TheVariants.{Offer as OfferDeed}
use Rattle.t1s_script.specs.declared.script.NodeLine.{NodeLine}
use Rattle.t1s_script.specs.declared.script.Script.{Script}
use Rattle.t1s_script.specs.Taps.{span_of}
use Rattle.t1s_line.specs.Happenings.{IsTaking, IsLeaving, IsArrival}
use Rattle.t1s_line.specs.World.{settled_below}
use Rattle.t1s_schedule.specs.SharedLine.{far_in, at_in}

module _ (s : Script) where
  -- the script offers this frame under this number to the node at position i
  pub record IsOffer (i number : ℕ) (frame : List ℕ) : Type 0 where
    pub line : NodeLine
    pub node : slice_get s.nodes i ≡ Some line
    pub tick : ℕ
    pub act : Contains s.acts (record { tick = tick; deed = OfferDeed number line.no frame })

  -- The arrival in tick u at the node at position j is due from the leaving of this offer, of this frame, in tick v at the node at
  -- position i, another one. From the first H on a piece takes four ticks for each nibble of its frame, and reaches a node as
  -- late as that is far away.
  pub record IsDue (v i number : ℕ) (frame : List ℕ) (u j : ℕ) : Type 0 where
    pub other : i ≢ j
    pub there : j < length s.nodes
    pub leaves : IsLeaving s v i number
    pub offer : IsOffer i number frame
    pub time : u + 1 ≡ v + 4 * length (nibble_list frame) + far_in s i (at_in s j)

  -- ---- nothing else arrives

  -- an arrival is good, and is due from exactly one leaving, with the octets of its frame
  pub record ComesFromLeaving (u j : ℕ) (kind : Kind) (frame : List ℕ) : Type 0 where
    pub good : kind ≡ Good
    pub v : ℕ
    pub i : ℕ
    pub number : ℕ
    pub due : IsDue v i number frame u j
    pub only : (w k other : ℕ) (octets : List ℕ) → IsDue w k other octets u j → (w ≡ v) × (k ≡ i) × (other ≡ number)

  -- each arrival in the ticks below T does
  abbrev pub OnlyDueArriveBelow : ℕ → Type 0
  OnlyDueArriveBelow T = (u j : ℕ) (kind : Kind) (frame : List ℕ) → u < T → IsArrival s u j kind frame → ComesFromLeaving u j kind frame

  -- ---- each frame arrives

  -- at the node at position j there is the one arrival that is due from this leaving, in a tick below T
  pub record Reaches (T v i : ℕ) (f : Queued) (j : ℕ) : Type 0 where
    pub u : ℕ
    pub below : u < T
    pub due : IsDue v i f.number f.frame u j
    pub arrives : IsArrival s u j Good f.frame
    pub only : (w : ℕ) (octets : List ℕ) → IsDue v i f.number octets w j → w ≡ u

  -- A frame that the node at position i takes in tick t, with q frames before it, leaves within q + 1 times the bound of a start.
  -- It leaves once, and nowhere else, and reaches each other node.
  pub record IsSentOut (T t i q : ℕ) (f : Queued) : Type 0 where
    pub v : ℕ
    pub from : t ≤ v
    pub soon : v ≤ t + (q + 1) * start_bound s
    pub leaves : IsLeaving s v i f.number
    pub once : (w k : ℕ) → IsLeaving s w k f.number → (w ≡ v) × (k ≡ i)
    pub reaches : (j : ℕ) → j < length s.nodes → i ≢ j → Reaches T v i f j

  -- each frame is, that is taken once every status has been OK, and for which the ticks below T leave room
  abbrev pub EachTakenIsSentOut : ℕ → Type 0
  EachTakenIsSentOut T =
      (t settled i q : ℕ) (f : Queued) → settled_below s (t + 1) ≡ Some settled → IsTaking s t i q f
      → t + (q + 1) * start_bound s + longest_drive s + span_of s ≤ T → IsSentOut T t i q f

  -- what becomes of frames in the ticks below T
  pub record IsDelivered (T : ℕ) : Type 0 where
    pub sent_out : EachTakenIsSentOut T
    pub only_due : OnlyDueArriveBelow T

-- it is so on a fit script, for however many ticks
abbrev pub DeliversFrames : Type 0
DeliversFrames = (s : Script) (T : ℕ) → IsScript s → IsFit s → IsDelivered s T
