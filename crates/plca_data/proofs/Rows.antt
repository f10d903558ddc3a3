-- What one row of the table, or one event, keeps.
use Rattle.std.proofs.Common.{◌≡◌, ℕ, zero, suc, ◌<◌, false, List, [], ◌∷◌, ◌++◌, drop, rules, arith}
use Rattle.std.proofs.lemmas.List.{length-append, length-drop}
use Rattle.std.proofs.lemmas.List.Elements.{All-append, All-drop}
use Rattle.std.specs.Prelude.{IsTrue}
use Rattle.std.specs.List.{All}
use Rattle.std.proofs.lemmas.Bool.{cond_both}
use Rattle.std.proofs.lemmas.Bool.Decides.{nat_tests}
use Rattle.t1s_ring.specs.DelayLine.{IsLine}
use Rattle.plca_data.specs.declared.DataIn.{DataIn}
use Rattle.plca_data.specs.declared.MacOut.{MacOut}
use Rattle.plca_data.specs.declared.MacOut.TheVariants.{Nothing, Nibble, Ended}
use Rattle.plca_data.specs.declared.data_path.State.{State}
use Rattle.plca_data.specs.DataPathTable.{is_full, pushed, idle, data_path_step}
use Rattle.plca_data.specs.Ranges.{IsMacOut, in_range}
use Rattle.plca_data.specs.Runs.{uses_line}

-- the new state's count
idle_in_range : (i : DataIn) (line : List ℕ) → IsTrue (in_range (idle i line).0)
idle_in_range i line = search (rules, nat_tests)

pub step_in_range : (st : State) (i : DataIn) (line : List ℕ) → IsTrue (in_range st) → IsTrue (in_range (data_path_step st i line).0)
step_in_range _ i line h = search (rules, nat_tests, idle_in_range)

-- the new line's room and nibbles
all_one : (x : ℕ) → x < 16 → All (λ y. y < 16) (x ∷ [])
all_one x below zero d here = below
all_one x below (suc k) d past = absurd (omega arith)

one_more_is_line : (line : List ℕ) (x : ℕ) → x < 16 → is_full line ≡ false → IsLine line → IsLine (line ++ x ∷ [])
one_more_is_line line x below room held = record {
  room = let longer = length-append line (x ∷ []) in grind (arith, nat_tests);
  nibble = All-append (λ y. y < 16) line (x ∷ []) held.nibble (all_one x below);
}

pub pushed_is_line : (mac : MacOut) (line : List ℕ) → IsMacOut mac → IsLine line → IsLine (pushed mac line)
pushed_is_line Nothing line below held = held
pushed_is_line (Nibble x) line below held = cond_both (is_full line) _ _ IsLine (λ _. held) (λ room. one_more_is_line line x below room held)
pushed_is_line Ended line below held = held

pub no_nibble_is_line : IsLine []
no_nibble_is_line = search rules

idle_is_line : (i : DataIn) (line : List ℕ) → IsMacOut i.mac → IsLine line → IsLine (idle i line).1
idle_is_line i line below held = let then_line = pushed_is_line i.mac line below held in search (rules, nat_tests)

pub step_is_line : (st : State) (i : DataIn) (line : List ℕ) → IsMacOut i.mac → IsLine line → IsLine (data_path_step st i line).1
step_is_line _ i line below held =
    let then_line = pushed_is_line i.mac line below held in
    let then_idle = idle_is_line i line below held in
    let from_none = idle_is_line i [] below no_nibble_is_line in
    let none = no_nibble_is_line in
    search (rules, nat_tests)

pub popped_is_line : (line : List ℕ) → IsLine line → IsLine (drop 1 line)
popped_is_line line held = record {
  room = let shorter = length-drop 1 line in omega (arith, held.room);
  nibble = All-drop (λ y. y < 16) 1 line held.nibble;
}

-- no nibble is left where the line isn't used
idle_empties : (i : DataIn) → uses_line (idle i []).0 ≡ false → (idle i []).1 ≡ []
idle_empties i unused = search (rules, nat_tests)

pub step_empties : (st : State) (i : DataIn) (line : List ℕ) → (uses_line st ≡ false → line ≡ []) → uses_line (data_path_step st i line).0 ≡ false → (data_path_step st i line).1 ≡ []
step_empties _ i line empty unused = search (rules, nat_tests, idle_empties)
