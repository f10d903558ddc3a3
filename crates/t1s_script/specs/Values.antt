-- What the lines of a script give: the numbers of each word.
use Rattle.std.specs.Prelude.{ℕ, max, [], ◌∷◌, ◌==◌, ◌||◌, Bool, true, false, List, filter_map, slice_index_or, is_some, Option, Some, None, Ok, if◌then◌else◌}
use Rattle.std.specs.List.{list_any}
use Rattle.std.specs.Option.{option_map_or}
use Rattle.t1s_script.specs.Settings.{default_of}
use Rattle.t1s_script.specs.ParsedLine.{ParsedLine}
use Rattle.t1s_script.specs.declared.words.Setting.{Setting}
use Rattle.t1s_script.specs.declared.words.Setting.TheVariants.{Count, To, Rise, Fall, Burst, Room}
use Rattle.t1s_script.specs.declared.words.ScriptLine.TheVariants.{Set, Seed, Node, Also, Stub, Late, ToNode, Draw, Offer, Noise, End}

-- ---- one line

abbrev pub same_setting : Setting → Setting → Bool
same_setting Count Count = true
same_setting To To = true
same_setting Rise Rise = true
same_setting Fall Fall = true
same_setting Burst Burst = true
same_setting Room Room = true
same_setting _ _ = false

-- the number of a line for that setting
abbrev pub number_for : Setting → ParsedLine → Option ℕ
number_for w (Ok (Set v n)) = if same_setting v w then Some n else None
number_for w _ = None

-- the seed of a `seed` line
abbrev pub seed_from : ParsedLine → Option ℕ
seed_from (Ok (Seed n)) = Some n
seed_from _ = None

-- the ID and the place of a `node` line of that number
abbrev pub node_for : ℕ → ParsedLine → Option (ℕ × ℕ)
node_for number (Ok (Node other id place)) = if other == number then Some (id, place) else None
node_for number _ = None

-- the ID of an `also` line of that number
abbrev pub also_for : ℕ → ParsedLine → Option ℕ
also_for number (Ok (Also other id)) = if other == number then Some id else None
also_for number _ = None

-- the line gives that ID to the node of that number
abbrev pub gives_id : ℕ → ℕ → ParsedLine → Bool
gives_id number id line = option_map_or (λ n. n.0 == id) (node_for number line) false || option_map_or (λ further. further == id) (also_for number line) false

-- the length of a `stub` line of that number
abbrev pub stub_for : ℕ → ParsedLine → Option ℕ
stub_for number (Ok (Stub other length)) = if other == number then Some length else None
stub_for number _ = None

-- the tick of a `late` line of that number
abbrev pub start_for : ℕ → ParsedLine → Option ℕ
start_for number (Ok (Late other start)) = if other == number then Some start else None
start_for number _ = None

-- the timer of a `tonode` line of that number
abbrev pub timer_for : ℕ → ParsedLine → Option ℕ
timer_for number (Ok (ToNode other to)) = if other == number then Some to else None
timer_for number _ = None

-- the draw of a `draw` line of that number
abbrev pub draw_for : ℕ → ParsedLine → Option ℕ
draw_for number (Ok (Draw other draw)) = if other == number then Some draw else None
draw_for number _ = None

-- the tick, the node and the frame of a line that offers one
abbrev pub offer_from : ParsedLine → Option (ℕ × ℕ × List ℕ)
offer_from (Ok (Offer tick number frame)) = Some (tick, number, frame)
offer_from _ = None

-- the tick of a timed line
abbrev pub tick_from : ParsedLine → Option ℕ
tick_from (Ok (Offer tick number frame)) = Some tick
tick_from (Ok (Noise tick until)) = Some tick
tick_from _ = None

-- the number of ticks of an `end` line
abbrev pub end_from : ParsedLine → Option ℕ
end_from (Ok (End last)) = Some last
end_from _ = None

abbrev pub is_node : ParsedLine → Bool
is_node (Ok (Node number id place)) = true
is_node _ = false

-- ---- all of some lines

-- one of these lines gives it
abbrev pub some_gives : {X : Type 0} → (ParsedLine → Option X) → List ParsedLine → Bool
some_gives value lines = list_any (λ line. is_some (value line)) lines

-- what the first of these lines that gives it gives, or this where none does
abbrev pub first_given : {X : Type 0} → (ParsedLine → Option X) → List ParsedLine → X → X
first_given value lines otherwise = slice_index_or (filter_map value lines) 0 otherwise

-- the number that holds for the whole script
abbrev pub setting_of : Setting → List ParsedLine → ℕ
setting_of w lines = first_given (number_for w) lines (default_of w)

-- the greatest of these numbers; 0 where there is none
abbrev pub greatest : List ℕ → ℕ
greatest [] = 0
greatest (n ∷ ns) = max n (greatest ns)

-- the greatest tick of a timed line
abbrev pub latest_tick : List ParsedLine → ℕ
latest_tick lines = greatest (filter_map tick_from lines)
