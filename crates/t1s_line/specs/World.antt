-- The world of a script, and what happens in its run.
use Rattle.std.specs.Prelude.{ℕ, zero, suc, nat_lt, ◌==◌, ◌-◌, ◌+◌, Bool, false, List, [], ◌∷◌, Option, None, Some, is_some, position, find, filter, length, map, get_or, nat_le, ◌&&◌, if◌then◌else◌}
use Rattle.std.specs.List.{list_any}
use Rattle.std.specs.Option.{option_map}
use Rattle.rand_pcg.specs.Lcg.{started, increment_of}
use Rattle.rand_pcg.specs.Pcg.{multiplier_64}
use Rattle.t1s_symbols.specs.declared.Heard.{Heard}
use Rattle.t1s_symbols.specs.declared.Heard.TheVariants.{Nothing}
use Rattle.t1s_symbols.specs.declared.Quarter.{Quarter}
use Rattle.t1s_world.specs.World.{Machine, Past, past, driven_at, heard_at}
use Rattle.t1s_world.specs.Events.{events_below, first_below, count_below}
use Rattle.t1s_ring.specs.Queue.{empty_queue}
use Rattle.t1s_pcs_rx.specs.Views.{View}
use Rattle.plca_control.specs.declared.ControlSet.{ControlSet}
use Rattle.t1s_mac.specs.declared.outcome.MacNote.{MacNote}
use Rattle.t1s_mac.specs.declared.outcome.MacNote.TheVariants.{None as NoNote}
use Rattle.t1s_mac.specs.declared.picked_draws.PickedDraws.{PickedDraws}
use Rattle.t1s_mac.specs.declared.picked_draws.PickedDraws.TheVariants.{Seed, List as Listed}
use Rattle.t1s_node.specs.declared.settings.NodeSet.{NodeSet}
use Rattle.t1s_node.specs.Node.{node_start}
use Rattle.t1s_script.specs.declared.script.Script.{Script}
use Rattle.t1s_script.specs.declared.script.NodeLine.{NodeLine}
use Rattle.t1s_script.specs.Taps.{taps_of}
use Rattle.t1s_line.specs.declared.offers.OfferOutcome.{OfferOutcome}
use Rattle.t1s_line.specs.declared.offers.OfferOutcome.TheVariants.{Taken, Full, Off}
use Rattle.t1s_line.specs.declared.offers.Wait.{Wait}
use Rattle.t1s_line.specs.declared.offers.Wait.TheVariants.{Off as WaitOff, Full as WaitFull, Open, Left}
use Rattle.t1s_line.specs.declared.track.Track.{Track}
use Rattle.t1s_line.specs.declared.totals.NodeTotals.{NodeTotals}
use Rattle.t1s_line.specs.Acts.{with_noise}
use Rattle.t1s_line.specs.EventRecords.{EventRecord}
use Rattle.t1s_line.specs.Offers.{OfferRecord, is_offered, leaves_number}
use Rattle.t1s_line.specs.Outcomes.{DriveOutcome, HearOutcome, machine_with}
use Rattle.t1s_line.specs.Runs.{records_in, drives_in, hearings_in, events_in, settled_in}
use Rattle.t1s_line.specs.Totals.{is_full_at, is_sent, is_jam, is_drop, arrives_good, arrives_bad}
use Rattle.t1s_line.specs.Track.{track_phases}

-- ---- the nodes at first

-- what the control of a node is set to
abbrev pub set_of : Script → NodeLine → ControlSet
set_of s n = record { ids = n.ids; count = s.count; to = n.to; burst = s.burst }

abbrev pub node_set_of : Script → NodeLine → NodeSet
node_set_of s n = record { control = set_of s n; rise = s.rise; fall = s.fall }

-- the draws of a node: those that the script lists for it, and else its number picks the stream of the generator that the
-- script's seed starts
abbrev pub draws_by : Script → NodeLine → Option (List ℕ) → PickedDraws
draws_by s n None = Seed (started 64 multiplier_64 s.seed (increment_of 64 n.no))
draws_by s n (Some draws) = Listed draws

abbrev pub draws_of : Script → NodeLine → PickedDraws
draws_of s n = draws_by s n n.draws

-- a node before its first tick
abbrev pub first_track : Script → NodeLine → Track
first_track s n = record {
  no = n.no;
  start = n.start;
  node = node_start (node_set_of s n) (empty_queue s.room) (draws_of s n);
  ok = false;
  driving = false;
}

abbrev pub first_tracks : Script → List Track
first_tracks s = map (first_track s) s.nodes

-- ---- the world

-- the machine of a script's nodes among its acts
abbrev pub machine_of : Script → Machine Track DriveOutcome HearOutcome
machine_of s = machine_with track_phases s.acts

-- the world of a script when the ticks below t have been played
abbrev pub world : Script → ℕ → Past Track
world s t = past (machine_of s) (taps_of s) (first_tracks s) t

-- what the node at position i of the script drives in tick t
abbrev pub driven_in : Script → ℕ → ℕ → Option Quarter
driven_in s i t = driven_at (machine_of s) (taps_of s) (first_tracks s) t i

-- ---- what happens

-- what becomes of the offers of tick t, in the order of their lines
abbrev pub offer_records_at : Script → ℕ → List OfferRecord
offer_records_at s t = records_in track_phases s.acts s.nodes (first_tracks s) t

-- what comes of the drive phase of tick t, node by node, and of its hear phase
abbrev pub drives_at : Script → ℕ → List DriveOutcome
drives_at s t = drives_in track_phases s.acts s.nodes (first_tracks s) t

abbrev pub hearings_at : Script → ℕ → List HearOutcome
hearings_at s t = hearings_in track_phases s.acts s.nodes (first_tracks s) t

-- the events of tick t
abbrev pub events_at : Script → ℕ → List EventRecord
events_at s t = events_in track_phases s.acts s.nodes (first_tracks s) t

-- the first tick below t in which every status was OK, if there is one
abbrev pub settled_below : Script → ℕ → Option ℕ
settled_below s t = settled_in track_phases s.acts s.nodes (first_tracks s) t

-- of the node at position i in tick t: what becomes of a frame in its MAC, the piece that its receiver completes, and
-- whether signals meet
unfoldable pub note_at : Script → ℕ → ℕ → MacNote
note_at s i t = get_or (map (λ (d : DriveOutcome). d.note) (drives_at s t)) i NoNote

unfoldable pub piece_at : Script → ℕ → ℕ → Option View
piece_at s i t = get_or (map (λ (d : HearOutcome). d.event) (hearings_at s t)) i None

unfoldable pub clash_at : Script → ℕ → ℕ → Bool
clash_at s i t = get_or (map (λ (d : HearOutcome). d.clash) (hearings_at s t)) i false

-- ---- what is counted over the ticks below t

-- what became of the offers, in the order of their lines
abbrev pub offer_records_below : Script → ℕ → List OfferRecord
offer_records_below s t = events_below (offer_records_at s) t

-- at the node at position i with this line
abbrev pub totals_of : Script → ℕ → ℕ → NodeLine → NodeTotals
totals_of s t i n = record {
  node = n.no;
  sent = count_below (λ u. is_sent (note_at s i u)) t;
  full = length (filter (is_full_at n.no) (offer_records_below s t));
  jam = count_below (λ u. is_jam (note_at s i u)) t;
  drop = count_below (λ u. is_drop (note_at s i u)) t;
  good = count_below (λ u. arrives_good (piece_at s i u)) t;
  bad = count_below (λ u. arrives_bad (piece_at s i u)) t;
  clash = count_below (clash_at s i) t;
}

abbrev pub totals_from : Script → ℕ → ℕ → List NodeLine → List NodeTotals
totals_from s t i [] = []
totals_from s t i (n ∷ ns) = totals_of s t i n ∷ totals_from s t (i + 1) ns

-- at each node
unfoldable pub totals_below : Script → ℕ → List NodeTotals
totals_below s t = totals_from s t 0 s.nodes

-- ---- how long an offer waits

-- in tick t the first H of the frame of this offer begins
unfoldable pub leaves_in : Script → ℕ → ℕ → Bool
leaves_in s number t = list_any (leaves_number number) (drives_at s t)

-- the wait of an offer that was taken at a tick is up to the first tick from then on in which it leaves
abbrev pub wait_from : ℕ → Option ℕ → Wait
wait_from at None = Open
wait_from at (Some v) = Left (v - at)

abbrev pub wait_by : Script → ℕ → ℕ → OfferOutcome → ℕ → Wait
wait_by s t number Taken at = wait_from at (first_below (λ v. nat_le at v && leaves_in s number v) t)
wait_by s t number Full at = WaitFull
wait_by s t number Off at = WaitOff

abbrev pub wait_told : Script → ℕ → ℕ → Option OfferRecord → Wait
wait_told s t number None = Open
wait_told s t number (Some r) = wait_by s t number r.outcome r.tick

-- what has become of the offer of this number, over the ticks below t. None where the script has no such offer
unfoldable pub wait_below : Script → ℕ → ℕ → Option Wait
wait_below s t number =
    if is_offered s.acts number then Some (wait_told s t number (find (λ (r : OfferRecord). r.number == number) (offer_records_below s t))) else None

-- ---- what a node hears

-- the position of the node with this number, if the script has one
abbrev pub position_of : Script → ℕ → Option ℕ
position_of s node = position (λ (n : NodeLine). n.no == node) s.nodes

-- the tick at which the node at position j starts
abbrev pub start_of : Script → ℕ → ℕ
start_of s j = get_or (map (λ (n : NodeLine). n.start) s.nodes) j 0

-- what the node at position j hears in tick t: nothing before its start, then many signals while a noise lasts, and else
-- what the cable brings
unfoldable pub heard_in : Script → ℕ → ℕ → Heard
heard_in s j t =
    if nat_lt t (start_of s j) then Nothing else with_noise s.acts t (heard_at (machine_of s) (taps_of s) (first_tracks s) t j)

-- what it hears in tick t, and whether it drives in it
abbrev pub tick_in : Script → ℕ → ℕ → Heard × Bool
tick_in s j t = (heard_in s j t, is_some (driven_in s j t))

-- the same of the node with this number. None where the script has no such node
abbrev pub heard_by : Script → ℕ → ℕ → Option (Heard × Bool)
heard_by s node t = option_map (λ j. tick_in s j t) (position_of s node)

-- the same of the last of the ticks below t. None also where there is no tick below it
abbrev pub last_heard : Script → ℕ → ℕ → Option (Heard × Bool)
last_heard s node zero = None
last_heard s node (suc t) = heard_by s node t
