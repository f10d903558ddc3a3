-- The nodes of the slots of a draft.
use Rattle.std.proofs.Common.{◌≡◌, ℕ, zero, suc, ◌+◌, ◌<◌, ◌≤◌, true, List, [], ◌∷◌, length, get_or, replicate, Option, Some, None, refl, ap, ◌∙◌, arith, All, unwrap_or}
use Rattle.std.specs.Prelude.{is_some}
use Rattle.std.specs.List.{list_any, Contains}
use Rattle.std.specs.List.Sorted.{IsStrictlyIncreasing}
use native.Mathlib.Numerals.{unary_clauses}
use Rattle.std.proofs.lemmas.List.Elements.{All-cons, All-nil}
use Rattle.t1s_base.specs.NodeIds.{IsIds}
use Rattle.t1s_base.specs.Limits.{most_nodes, last_node, most_ticks}
use Rattle.t1s_script.specs.Limits.{most_draws, last_draw, longest_stub}
use Rattle.t1s_script.specs.Reading.{draw_list}
use Rattle.t1s_script.specs.Draft.{node_of, nodes_from}
use Rattle.t1s_script.specs.Script.{AreDraws, IsNodeLine, numbers_of}
use Rattle.t1s_script.specs.declared.draft.Slot.{Slot}

-- the numbers of a slot are in their ranges
pub record IsSlot (slot : Slot) : Type 0 where
  pub ids : IsIds slot.ids
  pub place : slot.place ≤ 255
  pub stub : (u : ℕ) → slot.stub ≡ Some u → u ≤ longest_stub
  pub to : (n : ℕ) → slot.to ≡ Some n → (16 ≤ n) × (n ≤ 255)
  pub start : (t : ℕ) → slot.start ≡ Some t → t ≤ most_ticks
  pub few_draws : length slot.draws ≤ most_draws
  pub draws : All (λ draw. draw ≤ last_draw) slot.draws

-- each slot that is taken is in range
pub record AreSlots (slots : List (Option Slot)) : Type 0 where
  pub each : (i : ℕ) (slot : Slot) → get_or slots i None ≡ Some slot → IsSlot slot

tail_slots : (o : Option Slot) (slots : List (Option Slot)) → AreSlots (o ∷ slots) → AreSlots slots
tail_slots o slots h = record { each = λ i slot e. h.each (suc i) slot e }

start_range : (o : Option ℕ) → ((t : ℕ) → o ≡ Some t → t ≤ most_ticks) → unwrap_or o 0 ≤ most_ticks
start_range None h = omega arith
start_range (Some t) h = h t refl

stub_range : (o : Option ℕ) → ((u : ℕ) → o ≡ Some u → u ≤ longest_stub) → unwrap_or o 0 ≤ longest_stub
stub_range None h = omega arith
stub_range (Some u) h = h u refl

timer_range : (o : Option ℕ) (to : ℕ) → 16 ≤ to → to ≤ 255 → ((n : ℕ) → o ≡ Some n → (16 ≤ n) × (n ≤ 255)) → (16 ≤ unwrap_or o to) × (unwrap_or o to ≤ 255)
timer_range None to low high h = (low, high)
timer_range (Some n) to low high h = h n refl

draws_range : (draws : List ℕ) → length draws ≤ most_draws → All (λ draw. draw ≤ last_draw) draws → AreDraws (draw_list draws)
draws_range [] few h = tt
draws_range (draw ∷ draws) few h = (few, h)

node_range : (to number : ℕ) (slot : Slot) → 16 ≤ to → to ≤ 255 → number ≤ last_node → IsSlot slot → IsNodeLine (node_of to number slot)
node_range to number slot low high few h = record {
  no_high = few;
  ids = h.ids;
  place_high = h.place;
  stub_high = stub_range slot.stub h.stub;
  to_low = (timer_range slot.to to low high h.to).0;
  to_high = (timer_range slot.to to low high h.to).1;
  start_high = start_range slot.start h.start;
  draws = draws_range slot.draws h.few_draws h.draws;
}

pub nodes_range : (to number : ℕ) (slots : List (Option Slot)) → 16 ≤ to → to ≤ 255 → number + length slots ≤ most_nodes → AreSlots slots → All IsNodeLine (nodes_from to number slots)
nodes_range to number [] low high few h = All-nil IsNodeLine
nodes_range to number (None ∷ slots) low high few h = nodes_range to (number + 1) slots low high (omega arith) (tail_slots None slots h)
nodes_range to number (Some slot ∷ slots) low high few h =
    All-cons IsNodeLine (node_of to number slot) (nodes_from to (number + 1) slots)
    (node_range to number slot low high (omega arith) (h.each 0 slot refl))
    (nodes_range to (number + 1) slots low high (omega arith) (tail_slots (Some slot) slots h))

pub length-nodes_from : (to number : ℕ) (slots : List (Option Slot)) → length (nodes_from to number slots) ≤ length slots
length-nodes_from to number [] = omega arith
length-nodes_from to number (None ∷ slots) = omega (arith, length-nodes_from to (number + 1) slots)
length-nodes_from to number (Some slot ∷ slots) = omega (arith, length-nodes_from to (number + 1) slots)

pub some_node : (to number : ℕ) (slots : List (Option Slot)) → list_any is_some slots ≡ true → 1 ≤ length (nodes_from to number slots)
some_node to number [] e = cc
some_node to number (None ∷ slots) e = some_node to (number + 1) slots e
some_node to number (Some slot ∷ slots) e = omega arith

-- ---- their order

-- the numbers of the nodes from a slot on are that slot's at least
numbers_above : (to number : ℕ) (slots : List (Option Slot)) (k : ℕ) → k < length (numbers_of (nodes_from to number slots)) → number ≤ get_or (numbers_of (nodes_from to number slots)) k 0
numbers_above to number [] k below = absurd (omega arith)
numbers_above to number (None ∷ slots) k below = omega (arith, numbers_above to (number + 1) slots k below)
numbers_above to number (Some slot ∷ slots) zero below = omega arith
numbers_above to number (Some slot ∷ slots) (suc k) below = omega (arith, numbers_above to (number + 1) slots k (omega arith))

increasing_cons : (x : ℕ) (xs : List ℕ) → IsStrictlyIncreasing xs → ((k : ℕ) → k < length xs → x < get_or xs k 0) → IsStrictlyIncreasing (x ∷ xs)
increasing_cons x xs up above zero h = above 0 (omega arith)
increasing_cons x xs up above (suc k) h = simp unary_clauses (simp unary_clauses at (up k (omega arith)))

pub nodes_increase : (to number : ℕ) (slots : List (Option Slot)) → IsStrictlyIncreasing (numbers_of (nodes_from to number slots))
nodes_increase to number [] = λ k h. absurd (omega arith)
nodes_increase to number (None ∷ slots) = nodes_increase to (number + 1) slots
nodes_increase to number (Some slot ∷ slots) =
    increasing_cons number (numbers_of (nodes_from to (number + 1) slots)) (nodes_increase to (number + 1) slots)
    (λ k below. omega (arith, numbers_above to (number + 1) slots k below))

-- the number of a slot that is taken is that of a node
pub number_stands : (to number k : ℕ) (slots : List (Option Slot)) (i : ℕ) → k ≡ number + i → is_some (get_or slots i None) ≡ true → Contains (numbers_of (nodes_from to number slots)) k
number_stands to number k [] i place taken = cc
number_stands to number k (None ∷ slots) zero place taken = cc
number_stands to number k (None ∷ slots) (suc i) place taken = number_stands to (number + 1) k slots i (omega arith) taken
number_stands to number k (Some slot ∷ slots) zero place taken = (0, omega arith, omega arith)
number_stands to number k (Some slot ∷ slots) (suc i) place taken =
    let later = number_stands to (number + 1) k slots i (omega arith) taken in
    (suc later.0, omega (arith, later.1), later.2)

-- ---- free slots

pub all_free : (slots : List (Option Slot)) (count : ℕ) → length slots ≡ count → ((i : ℕ) → i < count → get_or slots i None ≡ None) → slots ≡ replicate count None
all_free [] zero size free = refl
all_free [] (suc count) size free = absurd (omega arith)
all_free (o ∷ slots) zero size free = absurd (omega arith)
all_free (o ∷ slots) (suc count) size free =
    ap (λ first. first ∷ slots) (free 0 (omega arith)) ∙ ap (λ rest. None ∷ rest) (all_free slots count (omega arith) (λ i below. free (suc i) (omega arith)))
