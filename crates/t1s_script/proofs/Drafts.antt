-- Reading line by line into drafts gives what is said over the list of all lines.
use Rattle.std.proofs.Common.{◌≡◌, ℕ, suc, ◌+◌, List, [], ◌∷◌, ◌++◌, length, get_or, map, take, Option, Some, None, Result, Ok, Err, refl, sym, ◌∙◌, ap, subst, arith, unwrap_or, length-append}
use Rattle.std.specs.Prelude.{flat_map, filter_map, option_map}
use Rattle.std.specs.Option.{option_to_list}
use Rattle.std.specs.List.{enumerate_from, range_with_len, cons_option}
use Rattle.std.proofs.Math.Seq.{take-append_seam}
use Rattle.std.proofs.lemmas.List.{append-nil, append_assoc}
use Rattle.t1s_script.specs.Settings.{default_of}
use Rattle.t1s_script.specs.ParsedLine.{ParsedLine, parsed_line}
use Rattle.t1s_script.specs.Values.{number_for, seed_from, also_for, stub_for, start_for, timer_for, draw_for, end_from, first_given, setting_of}
use Rattle.t1s_script.specs.Rules.{reason_of}
use Rattle.t1s_script.specs.Reading.{refusal_of, first_refusal_or, script_by, script_from, script_after_first, node_of_line, nodes_of_number, nodes_of, draw_list, refused_at}
use Rattle.t1s_script.specs.Draft.{given, value_in, draft_start, slot_at, draft_after, node_of, nodes_from, script_with, script_at}
use Rattle.t1s_script.specs.declared.draft.Draft.{Draft}
use Rattle.t1s_script.specs.declared.draft.Slot.{Slot}
use Rattle.t1s_script.specs.declared.refusals.ScriptReason.{ScriptReason}
use Rattle.t1s_script.specs.declared.refusals.ScriptReason.TheVariants.{NoEnd}
use Rattle.t1s_script.specs.declared.refusals.ScriptRefusal.{ScriptRefusal}
use Rattle.t1s_script.specs.declared.script.Script.{Script}
use Rattle.t1s_script.specs.declared.versions.Version.{Version}
use Rattle.t1s_script.specs.declared.words.Setting.{Setting}
use Rattle.t1s_script.specs.declared.words.Setting.TheVariants.{Count, To, Rise, Fall, Burst, Room}
use Rattle.t1s_script.proofs.Ranges.{parsed_line_range}
use Rattle.t1s_script.proofs.FurtherIds.{first_id, ids_whole}
use Rattle.t1s_script.proofs.LineValues.{first}
use Rattle.t1s_script.proofs.DraftSteps.{id_and_place, Holds, HoldsSlot, start_holds, IsStep, unskipped_step}

-- ---- the script that the lines give

-- the node of a slot is that of its lines
node_held : (lines : List ParsedLine) (to number : ℕ) (slot : Slot) → to ≡ setting_of To lines → HoldsSlot lines number (Some slot) → node_of to number slot ≡ node_of_line lines number (id_and_place slot)
node_held lines to number slot timer held =
    let ids : slot.ids ≡ first_id slot.ids ∷ filter_map (also_for number) lines = ids_whole slot.ids held.some_id ∙ ap (λ further. first_id slot.ids ∷ further) held.also in
    let own : unwrap_or slot.to to ≡ first_given (timer_for number) lines (setting_of To lines) =
    ap (unwrap_or slot.to) timer ∙ first (timer_for number) lines slot.to (setting_of To lines) held.timer in
    let stub : unwrap_or slot.stub 0 ≡ first_given (stub_for number) lines 0 = first (stub_for number) lines slot.stub 0 held.stub in
    let start : unwrap_or slot.start 0 ≡ first_given (start_for number) lines 0 = first (start_for number) lines slot.start 0 held.start in
    let draws : draw_list slot.draws ≡ draw_list (filter_map (draw_for number) lines) = ap draw_list held.draws in
    λ i. record { no = number; ids = ids i; place = slot.place; stub = stub i; to = own i; start = start i; draws = draws i }

-- the nodes of one slot, and of all slots from a number on
slot_held : (lines : List ParsedLine) (to number : ℕ) (slot : Option Slot) → to ≡ setting_of To lines → HoldsSlot lines number slot → option_to_list (option_map (node_of to number) slot) ≡ nodes_of_number lines number
slot_held lines to number None timer held = ap (λ ps. map (node_of_line lines number) ps) held.place
slot_held lines to number (Some slot) timer held =
    ap (λ n. n ∷ []) (node_held lines to number slot timer held) ∙ ap (λ ps. map (node_of_line lines number) ps) held.place

nodes_held : (lines : List ParsedLine) (to number : ℕ) (slots : List (Option Slot)) → to ≡ setting_of To lines → ((i k : ℕ) → k ≡ number + i → HoldsSlot lines k (get_or slots i None))
    → nodes_from to number slots ≡ flat_map (nodes_of_number lines) (range_with_len number (length slots))
nodes_held lines to number [] timer held = refl
nodes_held lines to number (slot ∷ slots) timer held =
    go slot (slot_held lines to number slot timer (held 0 number (omega arith))) (nodes_held lines to (number + 1) slots timer (λ i k e. held (suc i) k (omega arith)))
  where
    go : (o : Option Slot) → option_to_list (option_map (node_of to number) o) ≡ nodes_of_number lines number → nodes_from to (number + 1) slots ≡ flat_map (nodes_of_number lines) (range_with_len (number + 1) (length slots))
        → nodes_from to number (o ∷ slots) ≡ nodes_of_number lines number ++ flat_map (nodes_of_number lines) (range_with_len (number + 1) (length slots))
    go None here later = later ∙ ap (λ ns. ns ++ flat_map (nodes_of_number lines) (range_with_len (number + 1) (length slots))) here
    go (Some s) here later = ap (λ ns. node_of to number s ∷ ns) later ∙ ap (λ ns. ns ++ flat_map (nodes_of_number lines) (range_with_len (number + 1) (length slots))) here

-- scripts are equal by their parts
same_script : (s t : Script) → s.count ≡ t.count → s.to ≡ t.to → s.rise ≡ t.rise → s.fall ≡ t.fall → s.burst ≡ t.burst → s.room ≡ t.room → s.seed ≡ t.seed → s.nodes ≡ t.nodes → s.acts ≡ t.acts → s.end ≡ t.end → s ≡ t
same_script s t count to rise fall burst room seed nodes acts end =
    λ i. record { count = count i; to = to i; rise = rise i; fall = fall i; burst = burst i; room = room i; seed = seed i; nodes = nodes i; acts = acts i; end = end i }

script_held : (lines : List ParsedLine) (d : Draft) (last : ℕ) → Holds lines d → script_with d last ≡ script_from lines last
script_held lines d last h =
    let value : (w : Setting) → value_in d.settings w ≡ setting_of w lines = λ w. first (number_for w) lines (given d.settings w) (default_of w) (h.settings w) in
    let nodes : nodes_from (value_in d.settings To) 0 d.slots ≡ nodes_of lines =
    nodes_held lines (value_in d.settings To) 0 d.slots (value To) (λ i k e. subst (λ j. HoldsSlot lines j (slot_at d i)) (omega arith) (h.slots i))
    ∙ ap (λ n. flat_map (nodes_of_number lines) (range_with_len 0 n)) h.size in
    same_script (script_with d last) (script_from lines last) (value Count) (value To) (value Rise) (value Fall) (value Burst) (value Room) (first seed_from lines d.seed 1 h.seed) nodes h.acts.acts refl

-- ---- all lines

-- the answer where `all` are all lines, and these stand after the first n of them
abbrev answer_from : List ParsedLine → ℕ → List ParsedLine → Result Script ScriptRefusal
answer_from all n rest = first_refusal_or (filter_map (refusal_of all) (enumerate_from n rest)) (script_by all (filter_map end_from all))

-- reading line by line: the lines after those that gave a draft or a reason; `number` lines were taken
abbrev pub reading_from : ℕ → Result Draft ScriptReason → List ParsedLine → Result Script ScriptRefusal
reading_from number (Err reason) lines = refused_at number reason
reading_from number (Ok d) [] = script_at (number + 1) d d.end
reading_from number (Ok d) (line ∷ lines) = reading_from (number + 1) (draft_after d line) lines

-- the answer where all lines were taken
end_held : (lines : List ParsedLine) (d : Draft) (number : ℕ) → Holds lines d → number ≡ length lines + 2 → (o : Option ℕ) → option_to_list o ≡ filter_map end_from lines → script_at number d o ≡ script_by lines (filter_map end_from lines)
end_held lines d number h count None e = ap (λ k. refused_at k NoEnd) count ∙ ap (script_by lines) e
end_held lines d number h count (Some last) e = ap Ok (script_held lines d last h) ∙ ap (script_by lines) e

-- where a draft holds the lines before, reading the others gives what is said over all lines
reading_answers : (version : Version) (before : List ParsedLine) (d : Draft) (all : List ParsedLine) (n : ℕ) (rest : List (List ℕ)) → Holds before d → all ≡ before ++ map (parsed_line version) rest → n ≡ length before
    → reading_from (n + 1) (Ok d) (map (parsed_line version) rest) ≡ answer_from all n (map (parsed_line version) rest)
reading_answers version before d all n [] h whole count =
    end_held before d (n + 1 + 1) h (omega arith) d.end h.end ∙ ap (λ lines. script_by lines (filter_map end_from lines)) (sym (whole ∙ append-nil before))
reading_answers version before d all n (line ∷ rest) h whole count = go (draft_after d (parsed_line version line)) (unskipped_step before d h (parsed_line version line) (parsed_line_range version line))
    (λ e held. reading_answers version (before ++ parsed_line version line ∷ []) e all (n + 1) rest held (whole ∙ sym (append_assoc before (parsed_line version line ∷ []) (map (parsed_line version) rest))) (omega (arith, length-append before (parsed_line version line ∷ []))))
  where
    front : take n all ≡ before
    front = ap (λ k. take k all) count ∙ ap (λ lines. take (length before) lines) whole ∙ take-append_seam before (parsed_line version line ∷ map (parsed_line version) rest)

    broken : (o : Option ScriptReason) → reason_of before (parsed_line version line) ≡ o → refusal_of all (n, parsed_line version line) ≡ option_map (λ reason. record { line = n + 2; reason = reason }) o
    broken o step = ap (λ lines. option_map (λ reason. record { line = n + 2; reason = reason }) (reason_of lines (parsed_line version line))) front ∙ ap (λ r. option_map (λ reason. record { line = n + 2; reason = reason }) r) step

    answer : Option ScriptRefusal → Result Script ScriptRefusal
    answer o = first_refusal_or (cons_option o (filter_map (refusal_of all) (enumerate_from (n + 1) (map (parsed_line version) rest)))) (script_by all (filter_map end_from all))

    go : (r : Result Draft ScriptReason) → IsStep before (parsed_line version line) r → ((e : Draft) → Holds (before ++ parsed_line version line ∷ []) e → reading_from (n + 1 + 1) (Ok e) (map (parsed_line version) rest) ≡ answer_from all (n + 1) (map (parsed_line version) rest))
        → reading_from (n + 1 + 1) r (map (parsed_line version) rest) ≡ answer_from all n (parsed_line version line ∷ map (parsed_line version) rest)
    go (Err reason) step later = let next : n + 1 + 1 ≡ n + 2 = omega arith in ap (λ k. refused_at k reason) next ∙ ap answer (sym (broken (Some reason) step))
    go (Ok e) step later = later e step.1 ∙ ap answer (sym (broken None step.0))

-- the lines after the first, read line by line
pub by_drafts : (version : Version) (lines : List (List ℕ)) → reading_from 1 (Ok draft_start) (map (parsed_line version) lines) ≡ script_after_first (map (parsed_line version) lines)
by_drafts version lines = reading_answers version [] draft_start (map (parsed_line version) lines) 0 lines start_holds refl refl
