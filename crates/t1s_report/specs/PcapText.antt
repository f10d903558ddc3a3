-- The frames that arrive at a node, as a classic pcap file. All its numbers stand high octet first.
use Rattle.std.specs.Prelude.{ℕ, ◌*◌, ◌/◌, ◌%◌, ◌^◌, ◌<◌, ◌≤◌, ◌≡◌, ◌==◌, List, [], ◌∷◌, ◌++◌, All, length, filter_map, Option, None, Some, if◌then◌else◌}
use Rattle.std.specs.Int.{to_be_bytes, w32}
use Rattle.std.specs.List.{flat_map}
use Rattle.std.specs.Option.{option_to_list}
use Rattle.t1s_base.specs.Limits.{most_ticks}
use Rattle.t1s_world.specs.Events.{events_below}
use Rattle.t1s_pcs_rx.specs.declared.piece.Kind.{Kind}
use Rattle.t1s_pcs_rx.specs.declared.piece.Kind.TheVariants.{Good, BadFcs, Odd, Runt, NoSfd, Errored, Jabber}
use Rattle.t1s_script.specs.declared.script.Script.{Script}
use Rattle.t1s_line.specs.EventRecords.{EventRecord, TakenRecord, FullRecord, OffRecord, StatusRecord, JamRecord, DropRecord, BeaconRecord, CommitRecord, QuietRecord, LeaveRecord, ArriveRecord}
use Rattle.t1s_line.specs.World.{events_at}
use Rattle.t1s_report.specs.ArrivalTexts.{before_check}

-- a frame that arrived: its time in microseconds, and its octets before the frame check sequence
pub record PcapRecord : Type 0 where
  pub time : ℕ
  pub octets : List ℕ

-- the header: the mark of a file with times in microseconds, version 2.4, two fields that are not used, the most octets of
-- a frame, and the number 1, which is Ethernet
abbrev pub pcap_head : List ℕ
pcap_head =
    0xA1 ∷ 0xB2 ∷ 0xC3 ∷ 0xD4 ∷ 0x00 ∷ 0x02 ∷ 0x00 ∷ 0x04 ∷ 0x00 ∷ 0x00 ∷ 0x00 ∷ 0x00 ∷
    0x00 ∷ 0x00 ∷ 0x00 ∷ 0x00 ∷ 0x00 ∷ 0x00 ∷ 0xFF ∷ 0xFF ∷ 0x00 ∷ 0x00 ∷ 0x00 ∷ 0x01 ∷ []

-- a number as four octets, or its low 32 bits where it doesn't fit
abbrev pub four_octets : ℕ → List ℕ
four_octets n = to_be_bytes w32 (n % 2 ^ 32)

-- a record: the seconds of its time, the microseconds beside them, its octets as they are kept and as they were on the
-- line, which is the same number, and then these octets
abbrev pub record_text : PcapRecord → List ℕ
record_text r =
    four_octets (r.time / 1000000) ++ four_octets (r.time % 1000000) ++ four_octets (length r.octets) ++ four_octets (length r.octets) ++ r.octets

-- a file of records
abbrev pub pcap_text : List PcapRecord → List ℕ
pcap_text records = pcap_head ++ flat_map record_text records

-- the record of a frame, with its frame check sequence, that arrives at a tick: there are ten ticks in a microsecond
abbrev pub record_of : ℕ → List ℕ → PcapRecord
record_of tick frame = record { time = tick / 10; octets = before_check frame }

-- the same of a piece that arrives, if it is good
abbrev pub good_record : Kind → ℕ → List ℕ → Option PcapRecord
good_record Good tick frame = Some (record_of tick frame)
good_record BadFcs tick frame = None
good_record Odd tick frame = None
good_record Runt tick frame = None
good_record NoSfd tick frame = None
good_record Errored tick frame = None
good_record Jabber tick frame = None

-- an event's record in the file of this node: it has one where it is a good arrival there
abbrev pub record_at : ℕ → EventRecord → Option PcapRecord
record_at node (ArriveRecord tick at kind frame) = if at == node then good_record kind tick frame else None
record_at node (TakenRecord tick at number) = None
record_at node (FullRecord tick at number) = None
record_at node (OffRecord tick at number) = None
record_at node (StatusRecord tick at ok) = None
record_at node (JamRecord tick at number) = None
record_at node (DropRecord tick at number) = None
record_at node (BeaconRecord tick at) = None
record_at node (CommitRecord tick at) = None
record_at node (QuietRecord tick at) = None
record_at node (LeaveRecord tick at number) = None

-- what an event adds to the file of this node
abbrev pub event_text : ℕ → EventRecord → List ℕ
event_text node event = flat_map record_text (option_to_list (record_at node event))

-- the records of the good arrivals at a node in the ticks below t, the oldest first
abbrev pub records_below : Script → ℕ → ℕ → List PcapRecord
records_below s node t = filter_map (record_at node) (events_below (events_at s) t)

-- the file of the node with this number over the whole run
abbrev pub node_pcap : Script → ℕ → List ℕ
node_pcap s node = pcap_text (records_below s node s.end)

-- a record that a run can have: its ticks are below `most_ticks`, ten of them in a microsecond, and the frame of it has 64 to 1522
-- octets
pub record IsPcapRecord (r : PcapRecord) : Type 0 where
  pub in_time : 10 * r.time < most_ticks
  pub long : 60 ≤ length r.octets
  pub short : length r.octets ≤ 1518

-- no octets are the file of two lists of such records
abbrev pub OnePcapReading : Type 0
OnePcapReading = (a b : List PcapRecord) → All IsPcapRecord a → All IsPcapRecord b → pcap_text a ≡ pcap_text b → a ≡ b
