-- Fit scripts: the premises on which the promises of the shared line stand, and the number that is written as
-- the bound of a start.
use Rattle.std.specs.Prelude.{ℕ, Bool, true, false, ◌+◌, ◌*◌, ◌≡◌, ◌<◌, ◌≤◌, ◌==◌, not, List, [], ◌∷◌, ◌++◌, find, slice_get, count_by, nat_lt, nat_le, Option, Some, None, Result, Ok, Err, All, if◌then◌else◌}
use Rattle.t1s_base.specs.NodeIds.{has_id}
use Rattle.t1s_script.specs.declared.fitness.Unfit.{Unfit}
use Rattle.t1s_script.specs.declared.script.Act.{Act}
use Rattle.t1s_script.specs.declared.script.Deed.{Deed}
use Rattle.t1s_script.specs.declared.script.Deed.TheVariants.{Offer, Noise}
use Rattle.t1s_script.specs.declared.script.NodeLine.{NodeLine}
use Rattle.t1s_script.specs.declared.script.Script.{Script}
use Rattle.t1s_script.specs.Taps.{span_of}

-- ---- the number that is written as the bound of a start, in ticks

-- what it counts for a drive: 12384 for each frame, and 136 for what stands round them
abbrev pub longest_drive : Script → ℕ
longest_drive s = (1 + s.burst) * 12384 + 136

-- what it counts for an opportunity: the timer, a drive, the way to the farthest node and back, and the carrier
-- reading
abbrev pub longest_opportunity : Script → ℕ
longest_opportunity s = s.to + longest_drive s + 2 * span_of s + s.rise + s.fall

-- 1300, and for each opportunity of a cycle and three more the number for an opportunity and 20 for a beacon
abbrev pub start_bound : Script → ℕ
start_bound s = 1300 + (s.count + 3) * (longest_opportunity s + 20)

-- ---- the premises, each with the two values that show where it isn't met

abbrev pub unfit : ℕ → ℕ → ℕ → Option Unfit
unfit premise left right = Some (record { premise = premise; left = left; right = right })

-- The IDs of a script are told by ascending node, and for a node in the order of its list.

-- 1: exactly one node owns the ID 0; else the number of nodes that own it, and 1
abbrev pub coordinators : List NodeLine → ℕ
coordinators nodes = count_by (λ (n : NodeLine). has_id n.ids 0) nodes

abbrev pub without_one_coordinator : List NodeLine → Option Unfit
without_one_coordinator nodes = if coordinators nodes == 1 then None else unfit 1 (coordinators nodes) 1

-- 2: no ID is owned by two nodes; else the node of the first ID that an earlier node owns, and the first node that owns it
abbrev pub else_node : Option NodeLine → Option NodeLine → Option NodeLine
else_node (Some n) later = Some n
else_node None later = later

-- the first of these nodes that owns the ID
abbrev pub owner_among : List NodeLine → ℕ → Option NodeLine
owner_among nodes id = find (λ (n : NodeLine). has_id n.ids id) nodes

-- the same for the first of these IDs that one of the nodes owns
abbrev pub first_owner : List NodeLine → List ℕ → Option NodeLine
first_owner nodes [] = None
first_owner nodes (id ∷ ids) = else_node (owner_among nodes id) (first_owner nodes ids)

abbrev pub repeat_or : NodeLine → Option NodeLine → Option Unfit → Option Unfit
repeat_or n (Some earlier) later = unfit 2 n.no earlier.no
repeat_or n None later = later

abbrev pub with_repeat_after : List NodeLine → List NodeLine → Option Unfit
with_repeat_after before [] = None
with_repeat_after before (n ∷ ns) = repeat_or n (first_owner before n.ids) (with_repeat_after (before ++ n ∷ []) ns)

abbrev pub with_repeat : List NodeLine → Option Unfit
with_repeat nodes = with_repeat_after [] nodes

-- 3: each ID is below the count; else the first ID that isn't, and the count
abbrev pub high_or : ℕ → Option ℕ → Option Unfit → Option Unfit
high_or count (Some id) later = unfit 3 id count
high_or count None later = later

abbrev pub high_among : ℕ → List ℕ → Option ℕ
high_among count ids = find (λ id. nat_le count id) ids

abbrev pub with_high_id : ℕ → List NodeLine → Option Unfit
with_high_id count [] = None
with_high_id count (n ∷ ns) = high_or count (high_among count n.ids) (with_high_id count ns)

-- 4: each node's timer is that of the script; else the first other timer, and that of the script
abbrev pub other_timer : ℕ → Option NodeLine → Option Unfit
other_timer to (Some n) = unfit 4 n.to to
other_timer to None = None

abbrev pub with_other_timer : ℕ → List NodeLine → Option Unfit
with_other_timer to nodes = other_timer to (find (λ (n : NodeLine). not (n.to == to)) nodes)

-- 5: there is no noise; else the tick at which the first begins, and its end
abbrev pub noise_or : ℕ → Deed → Option Unfit → Option Unfit
noise_or tick (Noise until) later = unfit 5 tick until
noise_or tick (Offer number node frame) later = later

abbrev pub with_noise : List Act → Option Unfit
with_noise [] = None
with_noise (a ∷ acts) = noise_or a.tick a.deed (with_noise acts)

abbrev pub is_noise : Deed → Bool
is_noise (Noise until) = true
is_noise (Offer number node frame) = false

-- 6: an opportunity has at most 15 further frames; else how many it has, and 15
abbrev pub with_long_bursts : ℕ → Option Unfit
with_long_bursts burst = if nat_le burst 15 then None else unfit 6 burst 15

-- 7: twice the span and `rise` together are below `to`; else that sum, and `to`
abbrev pub with_long_cable : Script → Option Unfit
with_long_cable s = if nat_lt (2 * span_of s + s.rise) s.to then None else unfit 7 (2 * span_of s + s.rise) s.to

-- the first of two
abbrev pub or_else : Option Unfit → Option Unfit → Option Unfit
or_else (Some u) later = Some u
or_else None later = later

-- the lowest-numbered premise that isn't met
abbrev pub unmet : Script → Option Unfit
unmet s =
    or_else (without_one_coordinator s.nodes) (
    or_else (with_repeat s.nodes) (
    or_else (with_high_id s.count s.nodes) (
    or_else (with_other_timer s.to s.nodes) (
    or_else (with_noise s.acts) (
    or_else (with_long_bursts s.burst) (with_long_cable s))))))

-- what is answered where this premise isn't met, or all are
abbrev pub fitness_of : Option Unfit → Result Unit Unfit
fitness_of (Some u) = Err u
fitness_of None = Ok tt

-- all premises are met
pub record IsFit (s : Script) : Type 0 where
  pub one_coordinator : coordinators s.nodes ≡ 1
  pub distinct_ids : (i j : ℕ) (m n : NodeLine) → slice_get s.nodes i ≡ Some m → slice_get s.nodes j ≡ Some n → i < j → (id : ℕ) → has_id m.ids id ≡ true → has_id n.ids id ≡ false
  pub low_ids : All (λ (n : NodeLine). All (λ id. id < s.count) n.ids) s.nodes
  pub one_timer : All (λ (n : NodeLine). n.to ≡ s.to) s.nodes
  pub no_noise : All (λ (a : Act). is_noise a.deed ≡ false) s.acts
  pub short_bursts : s.burst ≤ 15
  pub short_cable : 2 * span_of s + s.rise < s.to
