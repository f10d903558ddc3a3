-- Whole runs of the MAC, and what its table says of them.
use Rattle.std.specs.Prelude.{◌≡◌, ◌↔◌, ℕ, ◌+◌, Bool, true, false, nat_lt, if◌then◌else◌, IsTrue, List, [], ◌∷◌, ◌++◌, length, Some, slice_get}
use Rattle.plca_data.specs.declared.MacOut.{MacOut}
use Rattle.plca_data.specs.declared.MacOut.TheVariants.{Nothing, Nibble, Ended}
use Rattle.t1s_frame.specs.Frame.{nibble_list}
use Rattle.t1s_ring.specs.Queue.{Queue, with_last}
use Rattle.t1s_ring.specs.declared.queued.Queued.{Queued}
use Rattle.t1s_mac.specs.MacTable.{mac_step}
use Rattle.t1s_mac.specs.State.{MacState, mac_start, with_queue}
use Rattle.t1s_mac.specs.declared.outcome.MacNote.{MacNote}
use Rattle.t1s_mac.specs.declared.outcome.MacNote.TheVariants.{None as NoNote, Jam, Drop, Sent}
use Rattle.t1s_mac.specs.declared.outcome.MacStep.{MacStep}

-- what happens to a MAC: a frame that is offered, or a tick with its carrier and its collision input
pub data MacEvent : Type 0 where
  Offer : Queued → MacEvent
  Tick : Bool → Bool → MacEvent

-- a MAC, and its steps so far, the newest first
pub record Run (D : Type 0) : Type 0 where
  pub mac : MacState D
  pub steps : List MacStep

module _ {D : Type 0} where
  -- the MAC after an offer, which a full queue does not take
  abbrev pub mac_after_offer : MacState D → Queued → MacState D
  mac_after_offer m q =
      if nat_lt (length m.queue.frames) m.queue.room then with_queue m (with_last m.queue q) else m

  -- the run after one more event
  abbrev pub run_after : (D → ℕ → ℕ) → (D → D) → Run D → MacEvent → Run D
  run_after answer after run (Offer q) = record { mac = mac_after_offer run.mac q; steps = run.steps }
  run_after answer after run (Tick carrier collision) =
      let step : MacState D × MacStep = mac_step answer after run.mac carrier collision in
      record { mac = step.0; steps = step.1 ∷ run.steps }

  -- the run of a MAC from its start over these events, the newest first
  abbrev pub run_of : (D → ℕ → ℕ) → (D → D) → Queue → D → List MacEvent → Run D
  run_of answer after queue draws [] = record { mac = mac_start queue draws; steps = [] }
  run_of answer after queue draws (newest ∷ earlier) =
      run_after answer after (run_of answer after queue draws earlier) newest

-- the jams of the first frame after what was told: the notes Jam since a frame left
abbrev pub jams_by_note : MacNote → ℕ → ℕ
jams_by_note NoNote before = before
jams_by_note (Jam number) before = before + 1
jams_by_note (Drop number) before = 0
jams_by_note (Sent number) before = 0

abbrev pub jams : List MacStep → ℕ
jams [] = 0
jams (newest ∷ earlier) = jams_by_note newest.note (jams earlier)

-- whether a jam is being given out: one has begun, and nothing has ended since
abbrev pub jam_begun : MacNote → Bool → Bool
jam_begun NoNote before = before
jam_begun (Jam number) before = true
jam_begun (Drop number) before = before
jam_begun (Sent number) before = before

abbrev pub jam_on_after : MacOut → MacNote → Bool → Bool
jam_on_after Nothing told before = jam_begun told before
jam_on_after (Nibble value) told before = jam_begun told before
jam_on_after Ended told before = false

abbrev pub jam_on : List MacStep → Bool
jam_on [] = false
jam_on (newest ∷ earlier) = jam_on_after newest.out newest.note (jam_on earlier)

-- the nibbles that were given out since the last end of a sending or a jam, in order
abbrev pub given_nibbles_after : MacOut → List ℕ → List ℕ
given_nibbles_after Nothing before = before
given_nibbles_after (Nibble value) before = before ++ value ∷ []
given_nibbles_after Ended before = []

abbrev pub given_nibbles : List MacStep → List ℕ
given_nibbles [] = []
given_nibbles (newest ∷ earlier) = given_nibbles_after newest.out (given_nibbles earlier)

module _ {D : Type 0} where
  -- In every run from the start, a step has the note Drop exactly where a jam ends in it and that is the
  -- 16th jam of the frame.
  abbrev pub DropsAtSixteenthJam : (D → ℕ → ℕ) → (D → D) → Type 0
  DropsAtSixteenthJam answer after =
      (queue : Queue) (draws : D) (earlier : List MacEvent) (carrier collision : Bool)
      → let run : Run D = run_of answer after queue draws earlier in
      let step : MacStep = (mac_step answer after run.mac carrier collision).1 in
      ((number : ℕ) × (step.note ≡ Drop number))
      ↔ ((step.out ≡ Ended) × IsTrue (jam_on run.steps) × (jams run.steps ≡ 16))

  -- In every run from the start, where a step has the note Sent, the first frame has its number, and what was
  -- given out since the sending began are the nibbles that carry that frame, all of them and in order.
  abbrev pub SendsWholeFrame : (D → ℕ → ℕ) → (D → D) → Type 0
  SendsWholeFrame answer after =
      (queue : Queue) (draws : D) (earlier : List MacEvent) (carrier collision : Bool) (number : ℕ)
      → let run : Run D = run_of answer after queue draws earlier in
      let step : MacStep = (mac_step answer after run.mac carrier collision).1 in
      step.note ≡ Sent number
      → (head : Queued) × (slice_get run.mac.queue.frames 0 ≡ Some head)
      × (head.number ≡ number) × (given_nibbles run.steps ≡ nibble_list head.frame)
