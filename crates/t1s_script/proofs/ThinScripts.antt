-- Octets of the thin form are read, and all that they don't name has its default.
use Rattle.std.proofs.Common.{◌≡◌, ℕ, zero, suc, ◌+◌, ◌<◌, ◌≤◌, true, false, cond, leb, ltb, List, [], ◌∷◌, length, get_or, map, set, Option, Some, None, Result, Ok, Err, refl, sym, ◌∙◌, ap, subst, arith, unwrap_or, All}
use Rattle.std.specs.Prelude.{is_some, codes}
use Rattle.std.specs.Str.{bytes_eq}
use Rattle.std.specs.Cmp.{first_so, second_so}
use Rattle.std.specs.List.{list_any}
use Rattle.std.proofs.Math.ListN.{length-set}
use Rattle.std.proofs.lemmas.Bool.Decides.{nat_tests}
use Rattle.std.proofs.lemmas.List.Elements.{All-cons, All-nil}
use Rattle.t1s_base.specs.Limits.{most_nodes}
use Rattle.t1s_script.specs.Lines.{lines_of}
use Rattle.t1s_script.specs.ParsedLine.{ParsedLine, parsed_line}
use Rattle.t1s_script.specs.Draft.{value_in, draft_start, with_slot, new_slot, unskipped_after, draft_after, node_of, nodes_from, script_with}
use Rattle.t1s_script.specs.Reading.{draw_list, script_with_version, script_in, refused_at}
use Rattle.t1s_script.specs.ThinForm.{are_thin_nodes, are_thin_after_count, are_thin, have_thin_form, IsThinNode, IsThinScript, ThinScriptsHaveDefaults}
use Rattle.t1s_script.specs.declared.draft.Draft.{Draft}
use Rattle.t1s_script.specs.declared.draft.Slot.{Slot}
use Rattle.t1s_script.specs.declared.refusals.ScriptReason.TheVariants.{TooLong, Twice, Order, NoNode}
use Rattle.t1s_script.specs.declared.refusals.ScriptRefusal.{ScriptRefusal}
use Rattle.t1s_script.specs.declared.script.Script.{Script}
use Rattle.t1s_script.specs.declared.versions.Version.TheVariants.{V1, V2, V3}
use Rattle.t1s_script.specs.declared.words.Setting.TheVariants.{Count, To, Rise, Fall, Burst, Room}
use Rattle.t1s_script.specs.declared.words.ScriptLine.{ScriptLine}
use Rattle.t1s_script.specs.declared.words.ScriptLine.TheVariants.{Skipped, Set, Seed, Node, Also, Stub, Late, ToNode, Draw, Offer, Noise, End}
use Rattle.t1s_script.proofs.Ranges.{InRange, parsed_line_range}
use Rattle.t1s_script.proofs.DraftSteps.{any_set, none_free}
use Rattle.t1s_script.proofs.Drafts.{reading_from, by_drafts}

-- what reading gives is a thin script
abbrev Reads : Result Script ScriptRefusal → Type 0
Reads r = (s : Script) × (r ≡ Ok s) × IsThinScript s

-- only the `node` line of that number stood
record IsPlain (slot : Slot) : Type 0 where
  pub one_id : length slot.ids ≡ 1
  pub stub : slot.stub ≡ None
  pub to : slot.to ≡ None
  pub start : slot.start ≡ None
  pub draws : slot.draws ≡ []

-- nothing but a count and nodes stood, and the slots from that number on are free
record IsThinDraft (least : ℕ) (d : Draft) : Type 0 where
  pub to : d.settings.to ≡ None
  pub rise : d.settings.rise ≡ None
  pub fall : d.settings.fall ≡ None
  pub burst : d.settings.burst ≡ None
  pub room : d.settings.room ≡ None
  pub seed : d.seed ≡ None
  pub end : d.end ≡ None
  pub size : length d.slots ≡ most_nodes
  pub free : (i : ℕ) → least ≤ i → get_or d.slots i None ≡ None
  pub plain : (i : ℕ) (slot : Slot) → get_or d.slots i None ≡ Some slot → IsPlain slot
  pub acts : d.acts ≡ []
  pub latest : d.latest ≡ 0

-- ---- the nodes

nodes_thin : (to number : ℕ) (slots : List (Option Slot)) → to ≡ 32 → ((i : ℕ) (slot : Slot) → get_or slots i None ≡ Some slot → IsPlain slot) → All IsThinNode (nodes_from to number slots)
nodes_thin to number [] timer h = All-nil IsThinNode
nodes_thin to number (None ∷ slots) timer h = nodes_thin to (number + 1) slots timer (λ i slot e. h (suc i) slot e)
nodes_thin to number (Some slot ∷ slots) timer h =
    All-cons IsThinNode (node_of to number slot) (nodes_from to (number + 1) slots)
    (record { one_id = (h 0 slot refl).one_id; stub = ap (λ o. unwrap_or o 0) (h 0 slot refl).stub; to = ap (λ o. unwrap_or o to) (h 0 slot refl).to ∙ timer; start = ap (λ o. unwrap_or o 0) (h 0 slot refl).start; draws = ap draw_list (h 0 slot refl).draws })
    (nodes_thin to (number + 1) slots timer (λ i s e. h (suc i) s e))

script_thin : (least : ℕ) (d : Draft) (last : ℕ) → IsThinDraft least d → IsThinScript (script_with (record d { end = Some last }) last)
script_thin least d last h =
    let timer : value_in d.settings To ≡ 32 = ap (λ o. unwrap_or o 32) h.to in
    record {
      to = timer;
      rise = ap (λ o. unwrap_or o 4) h.rise;
      fall = ap (λ o. unwrap_or o 4) h.fall;
      burst = ap (λ o. unwrap_or o 0) h.burst;
      room = ap (λ o. unwrap_or o 8) h.room;
      seed = ap (λ o. unwrap_or o 1) h.seed;
      nodes = nodes_thin (value_in d.settings To) 0 d.slots timer h.plain;
      acts = h.acts;
    }

-- ---- one more node

free_set : (slots : List (Option Slot)) (k : ℕ) (new : Slot) (i : ℕ) → k < i → get_or slots i None ≡ None → get_or (set slots k (Some new)) i None ≡ None
free_set [] k new i above e = e
free_set (o ∷ os) zero new zero above e = absurd (omega arith)
free_set (o ∷ os) zero new (suc i) above e = e
free_set (o ∷ os) (suc k) new zero above e = absurd (omega arith)
free_set (o ∷ os) (suc k) new (suc i) above e = free_set os k new i (omega arith) e

plain_set : (slots : List (Option Slot)) (k : ℕ) (new : Slot) → IsPlain new → ((i : ℕ) (slot : Slot) → get_or slots i None ≡ Some slot → IsPlain slot) → (i : ℕ) (slot : Slot) → get_or (set slots k (Some new)) i None ≡ Some slot → IsPlain slot
plain_set [] k new none h i slot e = h i slot e
plain_set (o ∷ os) zero new none h zero slot e = let same : new ≡ slot = cc in subst IsPlain same none
plain_set (o ∷ os) zero new none h (suc i) slot e = h (suc i) slot e
plain_set (o ∷ os) (suc k) new none h zero slot e = h zero slot e
plain_set (o ∷ os) (suc k) new none h (suc i) slot e = plain_set os k new none (λ j s f. h (suc j) s f) i slot e

node_taken : (least number id place : ℕ) (d : Draft) → IsThinDraft least d → least ≤ number → draft_after d (Ok (Node number id place)) ≡ Ok (with_slot d number (new_slot id place))
node_taken least number id place d h above =
    ap (λ o. unskipped_after d o (Ok (Node number id place))) h.end
    ∙ ap (λ o. cond (is_some o) (Err Twice) (Ok (with_slot d number (new_slot id place)))) (h.free number above)

node_thin : (least number id place : ℕ) (d : Draft) → IsThinDraft least d → least ≤ number → IsThinDraft (number + 1) (with_slot d number (new_slot id place))
node_thin least number id place d h above = record {
  to = h.to;
  rise = h.rise;
  fall = h.fall;
  burst = h.burst;
  room = h.room;
  seed = h.seed;
  end = h.end;
  size = length-set d.slots number (Some (new_slot id place)) ∙ h.size;
  free = λ i high. free_set d.slots number (new_slot id place) i (omega arith) (h.free i (omega arith));
  plain = plain_set d.slots number (new_slot id place) (record { one_id = refl; stub = refl; to = refl; start = refl; draws = refl }) h.plain;
  acts = h.acts;
  latest = h.latest;
}

-- ---- the lines

ended : (number least : ℕ) (d : Draft) (last : ℕ) → 1 ≤ last → IsThinDraft least d → list_any is_some d.slots ≡ true → Reads (reading_from number (Ok d) (Ok (End last) ∷ []))
ended number least d last some h any =
    let above : leb last d.latest ≡ false = (let none = h.latest in grind (arith, nat_tests)) in
    let taken : draft_after d (Ok (End last)) ≡ Ok (record d { end = Some last }) =
    ap (λ o. unskipped_after d o (Ok (End last))) h.end
    ∙ ap (λ b. cond b (Err Order) (cond (list_any is_some d.slots) (Ok (record d { end = Some last })) (Err NoNode))) above
    ∙ ap (λ b. cond b (Ok (record d { end = Some last })) (Err NoNode)) any in
    (script_with (record d { end = Some last }) last, ap (λ r. reading_from (number + 1) r []) taken, script_thin least d last h)

-- a `node` line, where the lines after it are read
node_read : (number least n id place : ℕ) (d : Draft) (rest : List ParsedLine) → IsThinDraft least d → least ≤ n → Reads (reading_from (number + 1) (Ok (with_slot d n (new_slot id place))) rest) → Reads (reading_from number (Ok d) (Ok (Node n id place) ∷ rest))
node_read number least n id place d rest h above later =
    (later.0, ap (λ r. reading_from (number + 1) r rest) (node_taken least n id place d h above) ∙ later.1, later.2)

one_read : (number least : ℕ) (d : Draft) (x : ParsedLine) (rest : List ParsedLine) → ((l : ScriptLine) → x ≡ Ok l → InRange l) → IsThinDraft least d → list_any is_some d.slots ≡ true
    → ((k : ℕ) (e : Draft) → IsThinDraft k e → list_any is_some e.slots ≡ true → are_thin_nodes k rest ≡ true → Reads (reading_from (number + 1) (Ok e) rest))
    → are_thin_nodes least (x ∷ rest) ≡ true → Reads (reading_from number (Ok d) (x ∷ rest))
one_read number least d (Err reason) rest range h any next thin = cc
one_read number least d (Ok Skipped) rest range h any next thin = cc
one_read number least d (Ok (Set w n)) rest range h any next thin = cc
one_read number least d (Ok (Seed n)) rest range h any next thin = cc
one_read number least d (Ok (Also n id)) rest range h any next thin = cc
one_read number least d (Ok (Stub n stub)) rest range h any next thin = cc
one_read number least d (Ok (Late n start)) rest range h any next thin = cc
one_read number least d (Ok (ToNode n to)) rest range h any next thin = cc
one_read number least d (Ok (Draw n draw)) rest range h any next thin = cc
one_read number least d (Ok (Offer tick n frame)) rest range h any next thin = cc
one_read number least d (Ok (Noise tick until)) rest range h any next thin = cc
one_read number least d (Ok (End last)) [] range h any next thin = ended number least d last (range (End last) refl).0 h any
one_read number least d (Ok (End last)) (y ∷ ys) range h any next thin = cc
one_read number least d (Ok (Node n id place)) rest range h any next thin =
    let first_holds = first_so (leb least n) (are_thin_nodes (n + 1) rest) thin in
    let second_holds = second_so (leb least n) (are_thin_nodes (n + 1) rest) thin in
    let above : least ≤ n = (let test = first_holds in grind (arith, nat_tests)) in
    let few = (range (Node n id place) refl).0 in
    node_read number least n id place d rest h above
    (next (n + 1) (with_slot d n (new_slot id place)) (node_thin least n id place d h above) (any_set d.slots n (new_slot id place) (omega (arith, h.size))) second_holds)

nodes_read : (number least : ℕ) (d : Draft) (lines : List (List ℕ)) → IsThinDraft least d → list_any is_some d.slots ≡ true → are_thin_nodes least (map (parsed_line V1) lines) ≡ true → Reads (reading_from number (Ok d) (map (parsed_line V1) lines))
nodes_read number least d [] h any thin = cc
nodes_read number least d (line ∷ lines) h any thin =
    one_read number least d (parsed_line V1 line) (map (parsed_line V1) lines) (parsed_line_range V1 line) h any
    (λ k e so_far some later. nodes_read (number + 1) k e lines so_far some later) thin

after_count_read : (number : ℕ) (d : Draft) (lines : List (List ℕ)) → IsThinDraft 0 d → are_thin_after_count (map (parsed_line V1) lines) ≡ true → Reads (reading_from number (Ok d) (map (parsed_line V1) lines))
after_count_read number d [] h thin = cc
after_count_read number d (line ∷ lines) h thin = go (parsed_line V1 line) (parsed_line_range V1 line) thin
  where
    go : (x : ParsedLine) → ((l : ScriptLine) → x ≡ Ok l → InRange l) → are_thin_after_count (x ∷ map (parsed_line V1) lines) ≡ true → Reads (reading_from number (Ok d) (x ∷ map (parsed_line V1) lines))
    go (Err reason) range thin = cc
    go (Ok Skipped) range thin = cc
    go (Ok (Set w n)) range thin = cc
    go (Ok (Seed n)) range thin = cc
    go (Ok (Also n id)) range thin = cc
    go (Ok (Stub n stub)) range thin = cc
    go (Ok (Late n start)) range thin = cc
    go (Ok (ToNode n to)) range thin = cc
    go (Ok (Draw n draw)) range thin = cc
    go (Ok (Offer tick n frame)) range thin = cc
    go (Ok (Noise tick until)) range thin = cc
    go (Ok (End last)) range thin = cc
    go (Ok (Node n id place)) range thin =
        let few = (range (Node n id place) refl).0 in
        node_read number 0 n id place d (map (parsed_line V1) lines) h (omega arith)
        (nodes_read (number + 1) (n + 1) (with_slot d n (new_slot id place)) lines (node_thin 0 n id place d h (omega arith)) (any_set d.slots n (new_slot id place) (omega (arith, h.size))) thin)

-- after the line `count N`
abbrev counted : ℕ → Draft
counted n = record draft_start { settings = record { count = Some n; to = None; rise = None; fall = None; burst = None; room = None } }

counted_thin : (n : ℕ) → IsThinDraft 0 (counted n)
counted_thin n = record {
  to = refl;
  rise = refl;
  fall = refl;
  burst = refl;
  room = refl;
  seed = refl;
  end = refl;
  size = refl;
  free = λ i high. none_free most_nodes i;
  plain = λ i slot e. absurd (cc (none_free most_nodes i));
  acts = refl;
  latest = refl;
}

lines_read : (lines : List (List ℕ)) → are_thin (map (parsed_line V1) lines) ≡ true → Reads (reading_from 1 (Ok draft_start) (map (parsed_line V1) lines))
lines_read [] thin = cc
lines_read (line ∷ lines) thin = go (parsed_line V1 line) thin
  where
    go : (x : ParsedLine) → are_thin (x ∷ map (parsed_line V1) lines) ≡ true → Reads (reading_from 1 (Ok draft_start) (x ∷ map (parsed_line V1) lines))
    go (Err reason) thin = cc
    go (Ok Skipped) thin = cc
    go (Ok (Seed n)) thin = cc
    go (Ok (Node n id place)) thin = cc
    go (Ok (Also n id)) thin = cc
    go (Ok (Stub n stub)) thin = cc
    go (Ok (Late n start)) thin = cc
    go (Ok (ToNode n to)) thin = cc
    go (Ok (Draw n draw)) thin = cc
    go (Ok (Offer tick n frame)) thin = cc
    go (Ok (Noise tick until)) thin = cc
    go (Ok (End last)) thin = cc
    go (Ok (Set To n)) thin = cc
    go (Ok (Set Rise n)) thin = cc
    go (Ok (Set Fall n)) thin = cc
    go (Ok (Set Burst n)) thin = cc
    go (Ok (Set Room n)) thin = cc
    go (Ok (Set Count n)) thin = after_count_read 2 (counted n) lines (counted_thin n) thin

all_read : (lines : List (List ℕ)) → have_thin_form lines ≡ true → Reads (script_in lines)
all_read [] thin = cc
all_read (first ∷ lines) thin =
    let first_holds = first_so (bytes_eq first (codes "t1s 1")) (are_thin (map (parsed_line V1) lines)) thin in
    let second_holds = second_so (bytes_eq first (codes "t1s 1")) (are_thin (map (parsed_line V1) lines)) thin in
    let read = lines_read lines second_holds in
    (read.0, ap (λ b. script_with_version (cond b (Some V1) (cond (bytes_eq first (codes "t1s 2")) (Some V2) (cond (bytes_eq first (codes "t1s 3")) (Some V3) None))) lines) first_holds ∙ sym (by_drafts V1 lines) ∙ read.1, read.2)

pub thin_scripts : ThinScriptsHaveDefaults
thin_scripts octets thin =
    let first_holds = first_so (leb (length octets) 1048576) (have_thin_form (lines_of octets)) thin in
    let second_holds = second_so (leb (length octets) 1048576) (have_thin_form (lines_of octets)) thin in
    let read = all_read (lines_of octets) second_holds in
    let short : ltb 1048576 (length octets) ≡ false = (let test = first_holds in grind (arith, nat_tests)) in
    (read.0, ap (λ b. cond b (refused_at 0 TooLong) (script_in (lines_of octets))) short ∙ read.1, read.2)
