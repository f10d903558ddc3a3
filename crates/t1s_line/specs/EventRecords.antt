-- What a watch sees of an event: numbers, and the octets of a frame.
use Rattle.std.specs.Prelude.{ℕ, ◌≤◌, ⊤, Bool, List, length}
use Rattle.t1s_pcs_rx.specs.declared.piece.Kind.{Kind}
use Rattle.t1s_line.specs.declared.events.Event.{Event}
use Rattle.t1s_line.specs.declared.events.Event.TheVariants.{Taken, Full, Off, StatusIs, Jam, Drop, Beacon, Commit, Quiet, Leave, Arrive}

pub data EventRecord : Type 0 where
  TakenRecord : (tick node number : ℕ) → EventRecord
  FullRecord : (tick node number : ℕ) → EventRecord
  OffRecord : (tick node number : ℕ) → EventRecord
  StatusRecord : (tick node : ℕ) (ok : Bool) → EventRecord
  JamRecord : (tick node number : ℕ) → EventRecord
  DropRecord : (tick node number : ℕ) → EventRecord
  BeaconRecord : (tick node : ℕ) → EventRecord
  CommitRecord : (tick node : ℕ) → EventRecord
  QuietRecord : (tick node : ℕ) → EventRecord
  LeaveRecord : (tick node number : ℕ) → EventRecord
  ArriveRecord : (tick node : ℕ) (kind : Kind) (frame : List ℕ) → EventRecord

abbrev pub event_record : Event → EventRecord
event_record (Taken tick node number) = TakenRecord tick node number
event_record (Full tick node number) = FullRecord tick node number
event_record (Off tick node number) = OffRecord tick node number
event_record (StatusIs tick node ok) = StatusRecord tick node ok
event_record (Jam tick node number) = JamRecord tick node number
event_record (Drop tick node number) = DropRecord tick node number
event_record (Beacon tick node) = BeaconRecord tick node
event_record (Commit tick node) = CommitRecord tick node
event_record (Quiet tick node) = QuietRecord tick node
event_record (Leave tick node number) = LeaveRecord tick node number
event_record (Arrive tick node kind frame) = ArriveRecord tick node kind frame.now

-- a frame that arrives has at most 1522 octets
abbrev pub EventFits : EventRecord → Type 0
EventFits (ArriveRecord tick node kind frame) = length frame ≤ 1522
EventFits _ = ⊤
