-- The rules that a line after the first breaks in the light of all lines before it, in the order of the table of
-- reasons. A line is refused for the first reason of the table.
use Rattle.std.specs.Prelude.{ℕ, Bool, false, not, List, length, filter_map, nat_le, nat_lt, is_some, Option, Some, None, Ok, Err, if◌then◌else◌}
use Rattle.std.specs.List.{list_any}
use Rattle.t1s_script.specs.ParsedLine.{ParsedLine}
use Rattle.t1s_script.specs.Limits.{most_acts, most_draws, most_further_ids}
use Rattle.t1s_script.specs.Values.{number_for, seed_from, node_for, also_for, gives_id, stub_for, start_for, timer_for, draw_for, tick_from, latest_tick, end_from, is_node, some_gives}
use Rattle.t1s_script.specs.declared.refusals.ScriptReason.{ScriptReason}
use Rattle.t1s_script.specs.declared.refusals.ScriptReason.TheVariants.{AfterEnd, Twice, UnknownNode, Order, TooMany, NoNode}
use Rattle.t1s_script.specs.declared.words.ScriptLine.{ScriptLine}
use Rattle.t1s_script.specs.declared.words.ScriptLine.TheVariants.{Skipped, Set, Seed, Node, Also, Stub, Late, ToNode, Draw, Offer, Noise, End}

-- ---- the table: how often a line may stand, and what stands above it

-- what has to stand above: the `node` line of a number, or any `node` line
pub data Above : Type 0 where
  Nothing : Above
  NodeOf : ℕ → Above
  SomeNode : Above

-- where among the timed lines: above it none of a later tick, or none of that tick or a later one
pub data Among : Type 0 where
  Anywhere : Among
  NotBelow : ℕ → Among
  Beyond : ℕ → Among

-- no line above passes the test `once`; of `most`, fewer lines above give such a number than it says
pub record Row : Type 0 where
  pub once : Option (ParsedLine → Bool)
  pub most : Option (ℕ × (ParsedLine → Option ℕ))
  pub above : Above
  pub among : Among

abbrev row : Option (ParsedLine → Bool) → Option (ℕ × (ParsedLine → Option ℕ)) → Above → Among → Row
row once most above among = record { once = once; most = most; above = above; among = among }

-- no line above gives such a value
abbrev once : {X : Type 0} → (ParsedLine → Option X) → Option (ParsedLine → Bool)
once value = Some (λ line. is_some (value line))

abbrev at_most : ℕ → (ParsedLine → Option ℕ) → Option (ℕ × (ParsedLine → Option ℕ))
at_most most value = Some (most, value)

-- a row for each kind of line; that nothing stands below `end` is a rule of its own
abbrev pub row_of : ScriptLine → Row
row_of Skipped = row None None Nothing Anywhere
row_of (Set w n) = row (once (number_for w)) None Nothing Anywhere
row_of (Seed n) = row (once seed_from) None Nothing Anywhere
row_of (Node number id place) = row (once (node_for number)) None Nothing Anywhere
row_of (Also number id) = row (Some (gives_id number id)) (at_most most_further_ids (also_for number)) (NodeOf number) Anywhere
row_of (Stub number stub) = row (once (stub_for number)) None (NodeOf number) Anywhere
row_of (Late number start) = row (once (start_for number)) None (NodeOf number) Anywhere
row_of (ToNode number to) = row (once (timer_for number)) None (NodeOf number) Anywhere
row_of (Draw number draw) = row None (at_most most_draws (draw_for number)) (NodeOf number) Anywhere
row_of (Offer tick number frame) = row None (at_most most_acts tick_from) (NodeOf number) (NotBelow tick)
row_of (Noise tick until) = row None (at_most most_acts tick_from) Nothing (NotBelow tick)
row_of (End last) = row None None SomeNode (Beyond last)

-- ---- the rules, by the row

-- `AfterEnd`: a line that isn't skipped stands after `end`
abbrev pub stands_after_end : List ParsedLine → ParsedLine → Bool
stands_after_end earlier (Ok Skipped) = false
stands_after_end earlier line = some_gives end_from earlier

-- `Twice`: a line that may stand once stands again, or an `also` line repeats an ID of the same node
abbrev pub stands_again : List ParsedLine → Option (ParsedLine → Bool) → Bool
stands_again earlier (Some test) = list_any test earlier
stands_again earlier None = false

-- `UnknownNode`: a line names a node that has no earlier `node` line
abbrev pub names_unknown_node : List ParsedLine → Above → Bool
names_unknown_node earlier (NodeOf number) = not (some_gives (node_for number) earlier)
names_unknown_node earlier _ = false

-- `Order`: a timed tick is below that of an earlier timed line, or `end` isn't above the last of them
abbrev pub is_out_of_order : List ParsedLine → Among → Bool
is_out_of_order earlier (NotBelow tick) = nat_lt tick (latest_tick earlier)
is_out_of_order earlier (Beyond last) = nat_le last (latest_tick earlier)
is_out_of_order earlier _ = false

-- `TooMany`: as many such lines stood before as there may be
abbrev pub is_one_too_many : List ParsedLine → Option (ℕ × (ParsedLine → Option ℕ)) → Bool
is_one_too_many earlier (Some most) = nat_le most.0 (length (filter_map most.1 earlier))
is_one_too_many earlier None = false

-- `NoNode`: no `node` line stood before
abbrev pub lacks_a_node : List ParsedLine → Above → Bool
lacks_a_node earlier SomeNode = not (list_any is_node earlier)
lacks_a_node earlier _ = false

-- the first reason that the lines before a line give for it
abbrev pub reason_by : List ParsedLine → Row → Option ScriptReason
reason_by earlier r =
    if stands_again earlier r.once then Some Twice
    else if names_unknown_node earlier r.above then Some UnknownNode
    else if is_out_of_order earlier r.among then Some Order
    else if is_one_too_many earlier r.most then Some TooMany
    else if lacks_a_node earlier r.above then Some NoNode
    else None

-- the first reason where `end` didn't stand before: the line's own reason comes first
abbrev pub reason_before_end : List ParsedLine → ParsedLine → Option ScriptReason
reason_before_end earlier (Err reason) = Some reason
reason_before_end earlier (Ok line) = reason_by earlier (row_of line)

-- the first reason of all, if the line breaks any rule
abbrev pub reason_of : List ParsedLine → ParsedLine → Option ScriptReason
reason_of earlier line = if stands_after_end earlier line then Some AfterEnd else reason_before_end earlier line
