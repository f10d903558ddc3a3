-- A node of a segment, tick by tick: before its start it takes no offer, drives nothing and hears nothing.
use Rattle.std.specs.Prelude.{ℕ, Bool, true, false, nat_lt, is_some, length, List, [], ◌∷◌, ◌++◌, Option, Some, None, if◌then◌else◌}
use Rattle.t1s_symbols.specs.declared.Heard.{Heard}
use Rattle.t1s_symbols.specs.declared.Heard.TheVariants.{Nothing}
use Rattle.t1s_symbols.specs.declared.Quarter.{Quarter}
use Rattle.t1s_symbols.specs.declared.Symbol.{Symbol}
use Rattle.t1s_symbols.specs.declared.Symbol.TheVariants.{N, J}
use Rattle.t1s_ring.specs.declared.queued.Queued.{Queued}
use Rattle.t1s_mac.specs.declared.outcome.MacNote.{MacNote}
use Rattle.t1s_mac.specs.declared.outcome.MacNote.TheVariants.{None as NoNote, Jam, Drop, Sent}
use Rattle.t1s_pcs_rx.specs.ReceiveTable.{receive_event}
use Rattle.t1s_pcs_rx.specs.Views.{View}
use Rattle.t1s_node.specs.Node.{node_after_offer, node_drive, node_hear, is_clash}
use Rattle.t1s_line.specs.declared.offers.OfferOutcome.{OfferOutcome}
use Rattle.t1s_line.specs.declared.offers.OfferOutcome.TheVariants.{Taken, Full, Off}
use Rattle.t1s_line.specs.declared.track.Track.{Track}
use Rattle.t1s_line.specs.EventRecords.{EventRecord, StatusRecord, JamRecord, DropRecord, BeaconRecord, CommitRecord, QuietRecord, LeaveRecord, ArriveRecord}
use Rattle.t1s_line.specs.Outcomes.{DriveOutcome, HearOutcome, NodePhases}

-- ---- events

-- the status was OK or not, and is
abbrev pub status_events : ℕ → ℕ → Bool → Bool → List EventRecord
status_events t node false false = []
status_events t node false true = StatusRecord t node true ∷ []
status_events t node true false = StatusRecord t node false ∷ []
status_events t node true true = []

-- what became of a frame in the MAC. That it was sent is only counted
abbrev pub note_events : ℕ → ℕ → MacNote → List EventRecord
note_events t node NoNote = []
note_events t node (Jam number) = JamRecord t node number ∷ []
note_events t node (Drop number) = DropRecord t node number ∷ []
note_events t node (Sent number) = []

-- a drive begins with this symbol: N is a beacon, J a commit, and no other symbol begins a drive
abbrev pub begin_events : ℕ → ℕ → Symbol → List EventRecord
begin_events t node N = BeaconRecord t node ∷ []
begin_events t node J = CommitRecord t node ∷ []
begin_events t node _ = []

-- the node drove in the last tick or not, and drives this
abbrev pub drive_events : ℕ → ℕ → Bool → Option Quarter → List EventRecord
drive_events t node false None = []
drive_events t node false (Some q) = begin_events t node q.sym
drive_events t node true None = QuietRecord t node ∷ []
drive_events t node true (Some q) = []

-- the number of the frame whose first H begins
abbrev pub leave_events : ℕ → ℕ → Option ℕ → List EventRecord
leave_events t node None = []
leave_events t node (Some number) = LeaveRecord t node number ∷ []

-- the piece that the receiver completes
abbrev pub arrive_events : ℕ → ℕ → Option View → List EventRecord
arrive_events t node None = []
arrive_events t node (Some view) = ArriveRecord t node view.kind view.frame ∷ []

-- ---- an offer

-- what an offer becomes at a node that has started: the queue takes it while it holds fewer frames than its room
abbrev pub offer_outcome : Track → OfferOutcome
offer_outcome k = if nat_lt (length k.node.core.mac.queue.frames) k.node.core.mac.queue.room then Taken else Full

abbrev pub offered_track : Queued → Track → Track
offered_track q k = record k { node = node_after_offer k.node q }

-- an offer in tick t
unfoldable pub offer_track : ℕ → Queued → Track → Track × OfferOutcome
offer_track t q k = if nat_lt t k.start then (k, Off) else (offered_track q k, offer_outcome k)

-- ---- the drive phase

abbrev pub driven_track : Track → Track
driven_track k = record k {
  node = (node_drive k.node).0;
  ok = (node_drive k.node).1.ok;
  driving = is_some (node_drive k.node).1.quarter;
}

-- first the status, then what became of a frame, then whether a drive begins or has ended, then the frame that leaves
abbrev pub drive_outcome : ℕ → Track → DriveOutcome
drive_outcome t k = record {
  quarter = (node_drive k.node).1.quarter;
  note = (node_drive k.node).1.note;
  ok = (node_drive k.node).1.ok;
  leaves = (node_drive k.node).1.leaves;
  events = status_events t k.no k.ok (node_drive k.node).1.ok
      ++ note_events t k.no (node_drive k.node).1.note
      ++ drive_events t k.no k.driving (node_drive k.node).1.quarter
      ++ leave_events t k.no (node_drive k.node).1.leaves;
}

-- of a node that has not started
abbrev pub no_drive : DriveOutcome
no_drive = record { quarter = None; note = NoNote; ok = false; leaves = None; events = [] }

-- the drive phase of tick t
unfoldable pub drive_track : ℕ → Track → Track × DriveOutcome
drive_track t k = if nat_lt t k.start then (k, no_drive) else (driven_track k, drive_outcome t k)

-- ---- the hear phase

abbrev pub hearing_track : Heard → Track → Track
hearing_track h k = record k { node = node_hear k.node h }

abbrev pub hear_outcome : ℕ → Heard → Track → HearOutcome
hear_outcome t h k = record {
  heard = h;
  drove = k.driving;
  clash = is_clash k.node h;
  event = receive_event k.node.receiver h k.node.drove;
  events = arrive_events t k.no (receive_event k.node.receiver h k.node.drove);
}

-- of a node that has not started
abbrev pub no_hearing : HearOutcome
no_hearing = record { heard = Nothing; drove = false; clash = false; event = None; events = [] }

-- the hear phase of tick t
unfoldable pub hear_track : ℕ → Heard → Track → Track × HearOutcome
hear_track t h k = if nat_lt t k.start then (k, no_hearing) else (hearing_track h k, hear_outcome t h k)

-- what a node of a segment does in a tick
abbrev pub track_phases : NodePhases Track
track_phases = record { number = λ (k : Track). k.no; offer = offer_track; drive = drive_track; hear = hear_track }
