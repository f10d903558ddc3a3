-- What happens in the run of a script, as the laws on runs speak of it. Drives are told by `IsDrive` over `driven_in`.
use Rattle.std.specs.Prelude.{◌≡◌, ℕ, zero, suc, ◌<◌, ◌≤◌, Bool, true, false, List, ◌∷◌, ◌++◌, length, map, get_or, slice_get, None, Some, Contains}
use Rattle.t1s_ring.specs.declared.queued.Queued.{Queued}
use Rattle.t1s_mac.specs.declared.outcome.MacNote.TheVariants.{Jam, Drop, Sent}
use Rattle.t1s_pcs_rx.specs.declared.piece.Kind.{Kind}
use Rattle.t1s_pcs_rx.specs.Views.{View}
use Rattle.t1s_script.specs.declared.script.Script.{Script}
use Rattle.t1s_line.specs.declared.offers.OfferOutcome.TheVariants.{Full, Off}
use Rattle.t1s_line.specs.declared.track.Track.{Track}
use Rattle.t1s_line.specs.Acts.{offers_to}
use Rattle.t1s_line.specs.Outcomes.{DriveOutcome, with_offers}
use Rattle.t1s_line.specs.Track.{track_phases}
use Rattle.t1s_line.specs.World.{world, drives_at, note_at, piece_at, clash_at, offer_records_at}

module _ (s : Script) where
  -- In tick t the node at position i takes this frame, with q frames before it in its queue: those of the offers before it
  -- in the same tick are counted.
  pub record IsTaking (t i q : ℕ) (f : Queued) : Type 0 where
    pub track : Track
    pub before : List Queued
    pub after : List Queued
    pub here : slice_get (world s t).nodes i ≡ Some track
    pub offered : offers_to s.acts t track.no ≡ before ++ f ∷ after
    pub started : track.start ≤ t
    pub ahead : q ≡ length (with_offers track_phases t before track).node.core.mac.queue.frames
    pub room : q < (with_offers track_phases t before track).node.core.mac.queue.room

  -- in tick t an offer of this number is refused at the node with this number, since its queue is full, or since it is off
  abbrev pub IsRefusedFull : (t node number : ℕ) → Type 0
  IsRefusedFull t node number = Contains (offer_records_at s t) (record { tick = t; node = node; number = number; outcome = Full })

  abbrev pub IsRefusedOff : (t node number : ℕ) → Type 0
  IsRefusedOff t node number = Contains (offer_records_at s t) (record { tick = t; node = node; number = number; outcome = Off })

  -- at the node at position i the first H of the frame of offer `number` begins in tick v
  unfoldable pub IsLeaving : (v i number : ℕ) → Type 0
  IsLeaving v i number = get_or (map (λ (d : DriveOutcome). d.leaves) (drives_at s v)) i None ≡ Some number

  -- in tick u the receiver of the node at position j completes a piece of this kind, with this frame
  abbrev pub IsArrival : (u j : ℕ) → Kind → List ℕ → Type 0
  IsArrival u j kind frame = (view : View) × (piece_at s j u ≡ Some view) × (view.kind ≡ kind) × (view.frame ≡ frame)

  -- in tick t the MAC of the node at position i begins a jam of this frame, drops it, or ends its last nibble
  abbrev pub IsJam : (t i number : ℕ) → Type 0
  IsJam t i number = note_at s i t ≡ Jam number

  abbrev pub IsDrop : (t i number : ℕ) → Type 0
  IsDrop t i number = note_at s i t ≡ Drop number

  abbrev pub IsSent : (t i number : ℕ) → Type 0
  IsSent t i number = note_at s i t ≡ Sent number

  -- the status of the node at position i is OK after the drive phase of tick t
  unfoldable pub is_ok_at : ℕ → ℕ → Bool
  is_ok_at i t = get_or (map (λ (d : DriveOutcome). d.ok) (drives_at s t)) i false

  -- and after the tick before it, if there is one
  abbrev pub was_ok_at : ℕ → ℕ → Bool
  was_ok_at i zero = false
  was_ok_at i (suc t) = is_ok_at i t

  abbrev pub IsStatusOk : (t i : ℕ) → Type 0
  IsStatusOk t i = (was_ok_at i t ≡ false) × (is_ok_at i t ≡ true)

  abbrev pub IsStatusLost : (t i : ℕ) → Type 0
  IsStatusLost t i = (was_ok_at i t ≡ true) × (is_ok_at i t ≡ false)

  -- signals meet at the node at position i in tick t
  abbrev pub IsClash : (t i : ℕ) → Type 0
  IsClash t i = clash_at s i t ≡ true
