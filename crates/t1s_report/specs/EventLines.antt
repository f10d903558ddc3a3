-- The lines of events. Numbers are plain decimal.
use Rattle.std.specs.Prelude.{ℕ, Bool, true, false, List, [], ◌∷◌, codes, decimal}
use Rattle.t1s_pcs_rx.specs.declared.piece.Kind.{Kind}
use Rattle.t1s_line.specs.EventRecords.{EventRecord, TakenRecord, FullRecord, OffRecord, StatusRecord, JamRecord, DropRecord, BeaconRecord, CommitRecord, QuietRecord, LeaveRecord, ArriveRecord}
use Rattle.t1s_report.specs.ArrivalTexts.{kind_text}
use Rattle.t1s_report.specs.Lines.{line}

-- the line of what happened at a node
abbrev pub node_event_line : ℕ → List ℕ → ℕ → List ℕ
node_event_line tick what node = line (decimal tick ∷ what ∷ decimal node ∷ [])

-- the line of what happened to a frame at a node: the frame is named by the number of its offer
abbrev pub frame_event_line : ℕ → List ℕ → ℕ → ℕ → List ℕ
frame_event_line tick what node number = line (decimal tick ∷ what ∷ decimal node ∷ decimal number ∷ [])

-- whether a status is OK, as a word
abbrev pub status_word : Bool → List ℕ
status_word true = codes "ok"
status_word false = codes "lost"

-- the line of the status of a node
abbrev pub status_line : ℕ → ℕ → Bool → List ℕ
status_line tick node ok = line (decimal tick ∷ codes "status" ∷ decimal node ∷ status_word ok ∷ [])

-- the line of a piece that arrived at a node
abbrev pub arrival_line : ℕ → ℕ → Kind → List ℕ → List ℕ
arrival_line tick node kind frame = line (decimal tick ∷ codes "arrive" ∷ decimal node ∷ kind_text kind frame ∷ [])

-- the line of an event
abbrev pub event_line : EventRecord → List ℕ
event_line (TakenRecord tick node number) = frame_event_line tick (codes "taken") node number
event_line (FullRecord tick node number) = frame_event_line tick (codes "full") node number
event_line (OffRecord tick node number) = frame_event_line tick (codes "off") node number
event_line (StatusRecord tick node ok) = status_line tick node ok
event_line (JamRecord tick node number) = frame_event_line tick (codes "jam") node number
event_line (DropRecord tick node number) = frame_event_line tick (codes "drop") node number
event_line (BeaconRecord tick node) = node_event_line tick (codes "beacon") node
event_line (CommitRecord tick node) = node_event_line tick (codes "commit") node
event_line (QuietRecord tick node) = node_event_line tick (codes "quiet") node
event_line (LeaveRecord tick node number) = frame_event_line tick (codes "leave") node number
event_line (ArriveRecord tick node kind frame) = arrival_line tick node kind frame
