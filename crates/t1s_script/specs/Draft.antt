-- What the code keeps of the lines that it has read, and how it takes one more line. What a script is doesn't rest
-- on it: that stands in Reading, and proofs/Drafts shows that both agree.
use Rattle.std.specs.Prelude.{ℕ, ◌+◌, ◌≡◌, ⊤, List, [], ◌∷◌, ◌++◌, length, nat_le, nat_lt, replicate, get_or, slice_set, is_some, unwrap_or, Option, Some, None, Result, Ok, Err, if◌then◌else◌}
use Rattle.std.specs.List.{list_any}
use Rattle.t1s_base.specs.NodeIds.{has_id}
use Rattle.t1s_base.specs.Limits.{most_nodes}
use Rattle.t1s_script.specs.Settings.{default_of}
use Rattle.t1s_script.specs.Limits.{most_acts, most_draws, most_ids}
use Rattle.t1s_script.specs.ParsedLine.{ParsedLine}
use Rattle.t1s_script.specs.Reading.{refused_at, draw_list, act_at}
use Rattle.t1s_script.specs.Script.{offers_in}
use Rattle.t1s_script.specs.declared.draft.Draft.{Draft}
use Rattle.t1s_script.specs.declared.draft.Settings.{Settings}
use Rattle.t1s_script.specs.declared.draft.Slot.{Slot}
use Rattle.t1s_script.specs.declared.refusals.LineFault.{LineFault}
use Rattle.t1s_script.specs.declared.refusals.LineFault.TheVariants.{Reason, Memory}
use Rattle.t1s_script.specs.declared.refusals.ScriptFault.{ScriptFault}
use Rattle.t1s_script.specs.declared.refusals.ScriptFault.TheVariants.{Refused, Memory as NoMemory}
use Rattle.t1s_script.specs.declared.refusals.ScriptReason.{ScriptReason}
use Rattle.t1s_script.specs.declared.refusals.ScriptReason.TheVariants.{AfterEnd, Twice, UnknownNode, Order, TooMany, NoNode, NoEnd}
use Rattle.t1s_script.specs.declared.refusals.ScriptRefusal.{ScriptRefusal}
use Rattle.t1s_script.specs.declared.script.Act.{Act}
use Rattle.t1s_script.specs.declared.script.Deed.{Deed}
use Rattle.t1s_script.specs.declared.script.Deed.TheVariants.{Offer as OfferDeed, Noise as NoiseDeed}
use Rattle.t1s_script.specs.declared.script.NodeLine.{NodeLine}
use Rattle.t1s_script.specs.declared.script.Script.{Script}
use Rattle.t1s_script.specs.declared.words.Setting.{Setting}
use Rattle.t1s_script.specs.declared.words.Setting.TheVariants.{Count, To, Rise, Fall, Burst, Room}
use Rattle.t1s_script.specs.declared.words.ScriptLine.{ScriptLine}
use Rattle.t1s_script.specs.declared.words.ScriptLine.TheVariants.{Skipped, Set, Seed, Node, Also, Stub, Late, ToNode, Draw, Offer, Noise, End}

-- ---- the settings

-- no line has given any
abbrev pub no_settings : Settings
no_settings = record { count = None; to = None; rise = None; fall = None; burst = None; room = None }

-- the number that a line gave, if one did
abbrev pub given : Settings → Setting → Option ℕ
given s Count = s.count
given s To = s.to
given s Rise = s.rise
given s Fall = s.fall
given s Burst = s.burst
given s Room = s.room

-- one more number is given
abbrev pub with_given : Settings → Setting → ℕ → Settings
with_given s Count n = record s { count = Some n }
with_given s To n = record s { to = Some n }
with_given s Rise n = record s { rise = Some n }
with_given s Fall n = record s { fall = Some n }
with_given s Burst n = record s { burst = Some n }
with_given s Room n = record s { room = Some n }

-- the number that holds: the given one, or the default
abbrev pub value_in : Settings → Setting → ℕ
value_in s w = unwrap_or (given s w) (default_of w)

-- ---- the draft

-- no line stood yet: there is a free slot for each node that a segment may have
abbrev pub draft_start : Draft
draft_start = record { settings = no_settings; seed = None; slots = replicate most_nodes None; acts = []; latest = 0; end = None }

-- what stood for the node of that number, if its `node` line stood
abbrev pub slot_at : Draft → ℕ → Option Slot
slot_at d number = get_or d.slots number None

abbrev pub with_slot : Draft → ℕ → Slot → Draft
with_slot d number slot = record d { slots = slice_set d.slots number (Some slot) }

-- ---- one more line, by its word

abbrev pub set_after : Draft → Setting → ℕ → Result Draft ScriptReason
set_after d w n = if is_some (given d.settings w) then Err Twice else Ok (record d { settings = with_given d.settings w n })

abbrev pub seed_after : Draft → ℕ → Result Draft ScriptReason
seed_after d n = if is_some d.seed then Err Twice else Ok (record d { seed = Some n })

-- the slot of a node of which nothing but its `node` line stood
abbrev pub new_slot : ℕ → ℕ → Slot
new_slot id place = record { ids = id ∷ []; place = place; stub = None; to = None; start = None; draws = [] }

abbrev pub node_after : Draft → ℕ → ℕ → ℕ → Result Draft ScriptReason
node_after d number id place =
    if is_some (slot_at d number) then Err Twice else Ok (with_slot d number (new_slot id place))

-- a further ID of a node
abbrev pub also_in_slot : Draft → ℕ → ℕ → Option Slot → Result Draft ScriptReason
also_in_slot d number id (Some slot) =
    if has_id slot.ids id then Err Twice
    else if nat_le most_ids (length slot.ids) then Err TooMany
    else Ok (with_slot d number (record slot { ids = slot.ids ++ id ∷ [] }))
also_in_slot d number id None = Err UnknownNode

abbrev pub also_after : Draft → ℕ → ℕ → Result Draft ScriptReason
also_after d number id = also_in_slot d number id (slot_at d number)

-- a line that may stand once for a node: what it gives is put into the slot, where nothing of it stands yet
abbrev pub once_in_slot : Draft → ℕ → (Slot → Option ℕ) → (Slot → Slot) → Option Slot → Result Draft ScriptReason
once_in_slot d number stood put (Some slot) = if is_some (stood slot) then Err Twice else Ok (with_slot d number (put slot))
once_in_slot d number stood put None = Err UnknownNode

abbrev pub stub_after : Draft → ℕ → ℕ → Result Draft ScriptReason
stub_after d number stub =
    once_in_slot d number (λ (slot : Slot). slot.stub) (λ (slot : Slot). record slot { stub = Some stub }) (slot_at d number)

abbrev pub late_after : Draft → ℕ → ℕ → Result Draft ScriptReason
late_after d number start =
    once_in_slot d number (λ (slot : Slot). slot.start) (λ (slot : Slot). record slot { start = Some start }) (slot_at d number)

abbrev pub timer_after : Draft → ℕ → ℕ → Result Draft ScriptReason
timer_after d number to =
    once_in_slot d number (λ (slot : Slot). slot.to) (λ (slot : Slot). record slot { to = Some to }) (slot_at d number)

abbrev pub draw_in_slot : Draft → ℕ → ℕ → Option Slot → Result Draft ScriptReason
draw_in_slot d number draw (Some slot) =
    if nat_le most_draws (length slot.draws) then Err TooMany
    else Ok (with_slot d number (record slot { draws = slot.draws ++ draw ∷ [] }))
draw_in_slot d number draw None = Err UnknownNode

abbrev pub draw_after : Draft → ℕ → ℕ → Result Draft ScriptReason
draw_after d number draw = draw_in_slot d number draw (slot_at d number)

-- with one more act
abbrev pub with_act : Draft → Act → Draft
with_act d act = record d { acts = d.acts ++ act ∷ []; latest = act.tick }

-- a timed line that does this
abbrev pub timed_after : Draft → ℕ → Deed → Result Draft ScriptReason
timed_after d tick deed =
    if nat_lt tick d.latest then Err Order
    else if nat_le most_acts (length d.acts) then Err TooMany
    else Ok (with_act d (act_at tick deed))

abbrev pub offer_after : Draft → ℕ → ℕ → List ℕ → Result Draft ScriptReason
offer_after d tick number frame =
    if is_some (slot_at d number) then timed_after d tick (OfferDeed (1 + offers_in d.acts) number frame) else Err UnknownNode

abbrev pub end_after : Draft → ℕ → Result Draft ScriptReason
end_after d last =
    if nat_le last d.latest then Err Order
    else if list_any is_some d.slots then Ok (record d { end = Some last })
    else Err NoNode

-- a line that isn't refused by itself
abbrev pub line_after : Draft → ScriptLine → Result Draft ScriptReason
line_after d Skipped = Ok d
line_after d (Set w n) = set_after d w n
line_after d (Seed n) = seed_after d n
line_after d (Node number id place) = node_after d number id place
line_after d (Also number id) = also_after d number id
line_after d (Stub number stub) = stub_after d number stub
line_after d (Late number start) = late_after d number start
line_after d (ToNode number to) = timer_after d number to
line_after d (Draw number draw) = draw_after d number draw
line_after d (Offer tick number frame) = offer_after d tick number frame
line_after d (Noise tick until) = timed_after d tick (NoiseDeed until)
line_after d (End last) = end_after d last

-- a line that isn't skipped, where `end` stood or not
abbrev pub unskipped_after : Draft → Option ℕ → ParsedLine → Result Draft ScriptReason
unskipped_after d (Some last) line = Err AfterEnd
unskipped_after d None (Ok line) = line_after d line
unskipped_after d None (Err reason) = Err reason

-- any line
abbrev pub draft_after : Draft → ParsedLine → Result Draft ScriptReason
draft_after d (Ok Skipped) = Ok d
draft_after d line = unskipped_after d d.end line

-- the answer to a line, where the draft is new afterwards: it is taken, or refused for its reason. Out of memory may
-- come in place of either.
abbrev pub IsTaken : Result Draft ScriptReason → Result Unit LineFault → Draft → Type 0
IsTaken after (Ok done) new = after ≡ Ok new
IsTaken after (Err (Reason reason)) new = after ≡ Err reason
IsTaken after (Err (Memory error)) new = ⊤

-- what a line with that number is answered with, where it isn't taken
abbrev pub fault_at : ℕ → LineFault → ScriptFault
fault_at number (Reason reason) = Refused (record { line = number; reason = reason })
fault_at number (Memory error) = NoMemory error

-- ---- the script that the lines give

-- the node of a slot: without a `stub` line it has no stub, without a `tonode` line the script's `to` is its timer, and
-- without a `late` line it starts at tick 0
abbrev pub node_of : ℕ → ℕ → Slot → NodeLine
node_of to number slot = record { no = number; ids = slot.ids; place = slot.place; stub = unwrap_or slot.stub 0; to = unwrap_or slot.to to; start = unwrap_or slot.start 0; draws = draw_list slot.draws }

-- the nodes in ascending number, where the first of these slots is that of that number
abbrev pub nodes_from : ℕ → ℕ → List (Option Slot) → List NodeLine
nodes_from to number [] = []
nodes_from to number (None ∷ slots) = nodes_from to (number + 1) slots
nodes_from to number (Some slot ∷ slots) = node_of to number slot ∷ nodes_from to (number + 1) slots

-- the script of these lines, where the last of them is `end`
abbrev pub script_with : Draft → ℕ → Script
script_with d last = record {
  count = value_in d.settings Count;
  to = value_in d.settings To;
  rise = value_in d.settings Rise;
  fall = value_in d.settings Fall;
  burst = value_in d.settings Burst;
  room = value_in d.settings Room;
  seed = unwrap_or d.seed 1;
  nodes = nodes_from (value_in d.settings To) 0 d.slots;
  acts = d.acts;
  end = last;
}

-- all lines were taken; the number is that of the line after them
abbrev pub script_at : ℕ → Draft → Option ℕ → Result Script ScriptRefusal
script_at number d (Some last) = Ok (script_with d last)
script_at number d None = refused_at number NoEnd
