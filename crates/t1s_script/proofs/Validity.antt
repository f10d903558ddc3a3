-- The script that reading gives is valid.
use Rattle.std.proofs.Common.{◌≡◌, ℕ, zero, suc, ◌+◌, ◌<◌, ◌≤◌, Bool, true, false, cond, leb, ltb, List, [], ◌∷◌, ◌++◌, length, length-append, get_or, map, set, Option, Some, None, Result, Ok, Err, refl, sym, ap, ◌∙◌, subst, arith, unwrap_or, replicate, All, ◌-◌}
use Rattle.std.specs.Prelude.{is_some, IfOk, filter_map}
use Rattle.std.specs.List.{list_any, range_with_len}
use Rattle.std.specs.List.Sorted.{IsNonDecreasing, IsStrictlyIncreasing}
use Rattle.std.proofs.Math.ListN.{length-set}
use Rattle.std.proofs.lemmas.Bool.Decides.{nat_tests}
use Rattle.std.proofs.lemmas.List.{append-nil, length-map, map-append}
use Rattle.std.proofs.lemmas.List.Elements.{All-append, All-cons, All-nil, filter_map-append}
use Rattle.std.proofs.lemmas.List.FromFn.{length-range_with_len, get_or-range_with_len}
use Rattle.std.proofs.lemmas.List.Sorted.{IsNonDecreasingBy-push}
use Rattle.t1s_frame.specs.Frame.{IsFrame}
use Rattle.t1s_base.specs.NodeIds.{has_id}
use Rattle.t1s_base.specs.Limits.{most_nodes, last_node, most_ticks}
use Rattle.t1s_script.specs.Lines.{lines_of}
use Rattle.t1s_script.specs.Settings.{lowest, highest, default_of}
use Rattle.t1s_script.specs.Limits.{most_acts, most_draws, most_ids, last_draw, last_further_id, longest_stub}
use Rattle.t1s_script.specs.Versions.{version_of}
use Rattle.t1s_script.specs.ParsedLine.{ParsedLine, parsed_line}
use Rattle.t1s_script.specs.Draft.{given, with_given, value_in, draft_start, slot_at, with_slot, set_after, seed_after, node_after, new_slot, also_in_slot, also_after, once_in_slot, stub_after, late_after, timer_after, draw_in_slot, draw_after, with_act, timed_after, offer_after, end_after, line_after, unskipped_after, draft_after, nodes_from, script_with, script_at}
use Rattle.t1s_script.specs.Script.{IsAct, IsDeed, IsScript, numbers_of, number_in, offer_number, offers_in}
use Rattle.t1s_script.specs.Reading.{act_at, script_with_version, script_in, script_of, refused_at, IsAnswer, ReadScriptsAreValid}
use Rattle.t1s_script.specs.declared.refusals.ScriptFault.{ScriptFault}
use Rattle.t1s_script.specs.declared.refusals.ScriptFault.TheVariants.{Refused, Memory}
use Rattle.t1s_script.specs.declared.draft.Draft.{Draft}
use Rattle.t1s_script.specs.declared.draft.Settings.{Settings}
use Rattle.t1s_script.specs.declared.draft.Slot.{Slot}
use Rattle.t1s_script.specs.declared.refusals.ScriptReason.{ScriptReason}
use Rattle.t1s_script.specs.declared.refusals.ScriptReason.TheVariants.{TooLong, Twice, UnknownNode, Order, TooMany, NoNode}
use Rattle.t1s_script.specs.declared.script.Act.{Act}
use Rattle.t1s_script.specs.declared.script.Deed.{Deed}
use Rattle.t1s_script.specs.declared.script.Deed.TheVariants.{Offer as OfferDeed, Noise as NoiseDeed}
use Rattle.t1s_script.specs.declared.script.Script.{Script}
use Rattle.t1s_script.specs.declared.versions.Version.{Version}
use Rattle.t1s_script.specs.declared.words.Setting.{Setting}
use Rattle.t1s_script.specs.declared.words.Setting.TheVariants.{Count, To, Rise, Fall, Burst, Room}
use Rattle.t1s_script.specs.declared.words.ScriptLine.{ScriptLine}
use Rattle.t1s_script.specs.declared.words.ScriptLine.TheVariants.{Skipped, Set, Seed, Node, Also, Stub, Late, ToNode, Draw, Offer, Noise, End}
use Rattle.t1s_script.proofs.Ranges.{InRange, parsed_line_range}
use Rattle.t1s_script.proofs.LineActs.{length-filter_map, offers_in-append}
use Rattle.t1s_script.proofs.Drafts.{reading_from, by_drafts}
use Rattle.t1s_script.proofs.FurtherIds.{one_id, one_id_more}
use Rattle.t1s_script.proofs.Nodes.{IsSlot, AreSlots, nodes_range, length-nodes_from, some_node, nodes_increase, number_stands}

-- the number of a setting is in its range, where one is given
abbrev pub InSetting : Setting → Option ℕ → Type 0
InSetting w o = (n : ℕ) → o ≡ Some n → (lowest w ≤ n) × (n ≤ highest w)

pub record AreSettings (s : Settings) : Type 0 where
  pub count : InSetting Count s.count
  pub to : InSetting To s.to
  pub rise : InSetting Rise s.rise
  pub fall : InSetting Fall s.fall
  pub burst : InSetting Burst s.burst
  pub room : InSetting Room s.room

-- ---- acts

-- an offer of a frame to a node that stood, or a noise that ends above its tick
abbrev pub IsDone : List (Option Slot) → ℕ → ℕ → Deed → Type 0
IsDone slots count tick (OfferDeed number node frame) = (1 ≤ number) × (number ≤ count) × (is_some (get_or slots node None) ≡ true) × IsFrame frame
IsDone slots count tick (NoiseDeed until) = (tick < until) × (until ≤ most_ticks)

-- an act among so many, of which none has a later tick than that
pub record IsTimed (slots : List (Option Slot)) (count latest : ℕ) (a : Act) : Type 0 where
  pub early : a.tick ≤ latest
  pub deed : IsDone slots count a.tick a.deed

abbrev ticks : List Act → List ℕ
ticks acts = map (λ (a : Act). a.tick) acts

-- acts in the order of their ticks, the offers of them numbered from 1
pub record AreActs (slots : List (Option Slot)) (held : List Act) (latest : ℕ) : Type 0 where
  pub few : length held ≤ most_acts
  pub in_order : IsNonDecreasing (ticks held)
  pub numbered : filter_map offer_number held ≡ range_with_len 1 (offers_in held)
  pub each : All (IsTimed slots (length held) latest) held

no_acts : (slots : List (Option Slot)) (latest : ℕ) → AreActs slots [] latest
no_acts slots latest = record {
  few = omega arith;
  in_order = λ i j d low below. absurd (omega arith);
  numbered = refl;
  each = All-nil (IsTimed slots 0 latest);
}

-- as many nodes or more, as many acts or more, and ticks as late or later
all_timed : (slots more : List (Option Slot)) (count most latest last : ℕ) (held : List Act) → ((i : ℕ) → is_some (get_or slots i None) ≡ true → is_some (get_or more i None) ≡ true)
    → count ≤ most → latest ≤ last → All (IsTimed slots count latest) held → All (IsTimed more most last) held
all_timed slots more count most latest last held stand few low h k d below = timed (get_or held k d) (h k d below)
  where
    done : (tick : ℕ) (x : Deed) → IsDone slots count tick x → IsDone more most tick x
    done tick (OfferDeed number node frame) o = (o.0, omega (arith, o.1), stand node o.2, o.3)
    done tick (NoiseDeed until) o = o

    timed : (a : Act) → IsTimed slots count latest a → IsTimed more most last a
    timed a t = record { early = omega (arith, t.early); deed = done a.tick a.deed t.deed }

range_more : (a n : ℕ) → range_with_len a n ++ (a + n) ∷ [] ≡ range_with_len a (suc n)
range_more a zero = let same : a + 0 ≡ a = omega arith in ap (λ k. k ∷ []) same
range_more a (suc n) = let next : a + suc n ≡ a + 1 + n = omega arith in ap (λ k. a ∷ (range_with_len (a + 1) n ++ k ∷ [])) next ∙ ap (λ ks. a ∷ ks) (range_more (a + 1) n)

range_increases : (a n : ℕ) → IsStrictlyIncreasing (range_with_len a n)
range_increases a n k below =
    let size = length-range_with_len a n in
    let here = get_or-range_with_len a n k 0 (omega arith) in
    let next = get_or-range_with_len a n (k + 1) 0 (omega arith) in
    omega arith

-- the tick of the last act is at most that of all
last_early : (slots : List (Option Slot)) (count latest : ℕ) (held : List Act) → All (IsTimed slots count latest) held → (d : ℕ) → 0 < length (ticks held) → get_or (ticks held) (length (ticks held) - 1) d ≤ latest
last_early slots count latest held h d some =
    let size = length-map held (λ (a : Act). a.tick) in
    go held (length (ticks held) - 1) (λ k e below. (h k e below).early) (omega arith)
  where
    go : (xs : List Act) (i : ℕ) → ((k : ℕ) (e : Act) → k < length xs → (get_or xs k e).tick ≤ latest) → i < length xs → get_or (ticks xs) i d ≤ latest
    go [] i low below = absurd (omega arith)
    go (x ∷ xs) zero low below = low 0 x below
    go (x ∷ xs) (suc i) low below = go xs i (λ k e under. low (suc k) e (omega arith)) (omega arith)

-- the numbers of the offers among some acts and one more
numbers_more : (held : List Act) (tick : ℕ) (x : Deed) → filter_map offer_number held ≡ range_with_len 1 (offers_in held) → ((number : ℕ) → number_in x ≡ Some number → number ≡ 1 + offers_in held)
    → filter_map offer_number (held ++ act_at tick x ∷ []) ≡ range_with_len 1 (offers_in (held ++ act_at tick x ∷ []))
numbers_more held tick (OfferDeed number node frame) numbered next =
    let act : Act = act_at tick (OfferDeed number node frame) in
    let size : offers_in (held ++ act ∷ []) ≡ suc (offers_in held) = omega (arith, offers_in-append held (act ∷ [])) in
    filter_map-append offer_number held (act ∷ []) ∙ ap (λ ns. ns ++ number ∷ []) numbered ∙ ap (λ n. range_with_len 1 (offers_in held) ++ n ∷ []) (next number refl)
    ∙ range_more 1 (offers_in held) ∙ ap (range_with_len 1) (sym size)
numbers_more held tick (NoiseDeed until) numbered next =
    let act : Act = act_at tick (NoiseDeed until) in
    let size : offers_in (held ++ act ∷ []) ≡ offers_in held = omega (arith, offers_in-append held (act ∷ [])) in
    filter_map-append offer_number held (act ∷ []) ∙ append-nil (filter_map offer_number held) ∙ numbered ∙ ap (range_with_len 1) (sym size)

one_more_act : (slots : List (Option Slot)) (held : List Act) (latest tick : ℕ) (x : Deed) → AreActs slots held latest → latest ≤ tick → length held < most_acts
    → IsDone slots (suc (length held)) tick x → ((number : ℕ) → number_in x ≡ Some number → number ≡ 1 + offers_in held) → AreActs slots (held ++ act_at tick x ∷ []) tick
one_more_act slots held latest tick x h order few done next =
    let act : Act = act_at tick x in
    let size : length (held ++ act ∷ []) ≡ suc (length held) = omega (arith, length-append held (act ∷ [])) in
    let earlier = all_timed slots slots (length held) (length (held ++ act ∷ [])) latest tick held (λ i taken. taken) (omega arith) order h.each in
    let here : IsTimed slots (length (held ++ act ∷ [])) tick act = record { early = omega arith; deed = subst (λ n. IsDone slots n tick x) (sym size) done } in
    record {
      few = omega arith;
      in_order =
          subst IsNonDecreasing (sym (map-append (λ (a : Act). a.tick) held (act ∷ [])))
          (IsNonDecreasingBy-push (λ x. x) (ticks held) tick h.in_order (λ d some. omega (arith, last_early slots (length held) latest held h.each d some)));
      numbered = numbers_more held tick x h.numbered next;
      each = All-append (IsTimed slots (length (held ++ act ∷ [])) tick) held (act ∷ []) earlier (All-cons (IsTimed slots (length (held ++ act ∷ [])) tick) act [] here (All-nil (IsTimed slots (length (held ++ act ∷ [])) tick)));
    }

-- ---- drafts

-- all that a draft holds is in range, and `end` came after a node and above all timed ticks
pub record IsDraft (d : Draft) : Type 0 where
  pub settings : AreSettings d.settings
  pub seed : (n : ℕ) → d.seed ≡ Some n → n ≤ 4294967295
  pub slots : AreSlots d.slots
  pub size : length d.slots ≡ most_nodes
  pub acts : AreActs d.slots d.acts d.latest
  pub end : (last : ℕ) → d.end ≡ Some last → (1 ≤ last) × (last ≤ most_ticks) × (list_any is_some d.slots ≡ true) × (d.latest < last)

-- ---- the start

none_in : (w : Setting) → InSetting w None
none_in w n e = cc

free : (k i : ℕ) (slot : Slot) → get_or (replicate k None) i None ≡ Some slot → IsSlot slot
free zero i slot e = cc
free (suc k) zero slot e = cc
free (suc k) (suc i) slot e = free k i slot e

start_valid : IsDraft draft_start
start_valid = record {
  settings = record { count = none_in Count; to = none_in To; rise = none_in Rise; fall = none_in Fall; burst = none_in Burst; room = none_in Room };
  seed = λ n e. cc;
  slots = record { each = free most_nodes };
  size = refl;
  acts = no_acts draft_start.slots 0;
  end = λ last e. cc;
}

-- ---- one more line

some_in : (w : Setting) (m : ℕ) → (lowest w ≤ m) × (m ≤ highest w) → InSetting w (Some m)
some_in w m h n e = let same : m ≡ n = cc in subst (λ k. (lowest w ≤ k) × (k ≤ highest w)) same h

settings_after : (s : Settings) (w : Setting) (m : ℕ) → AreSettings s → (lowest w ≤ m) × (m ≤ highest w) → AreSettings (with_given s w m)
settings_after s Count m h range = record { count = some_in Count m range; to = h.to; rise = h.rise; fall = h.fall; burst = h.burst; room = h.room }
settings_after s To m h range = record { count = h.count; to = some_in To m range; rise = h.rise; fall = h.fall; burst = h.burst; room = h.room }
settings_after s Rise m h range = record { count = h.count; to = h.to; rise = some_in Rise m range; fall = h.fall; burst = h.burst; room = h.room }
settings_after s Fall m h range = record { count = h.count; to = h.to; rise = h.rise; fall = some_in Fall m range; burst = h.burst; room = h.room }
settings_after s Burst m h range = record { count = h.count; to = h.to; rise = h.rise; fall = h.fall; burst = some_in Burst m range; room = h.room }
settings_after s Room m h range = record { count = h.count; to = h.to; rise = h.rise; fall = h.fall; burst = h.burst; room = some_in Room m range }

slots_set : (slots : List (Option Slot)) (k : ℕ) (new : Slot) → ((i : ℕ) (slot : Slot) → get_or slots i None ≡ Some slot → IsSlot slot) → IsSlot new → (i : ℕ) (slot : Slot) → get_or (set slots k (Some new)) i None ≡ Some slot → IsSlot slot
slots_set [] k new h valid i slot e = h i slot e
slots_set (o ∷ os) zero new h valid zero slot e = let same : new ≡ slot = cc in subst IsSlot same valid
slots_set (o ∷ os) zero new h valid (suc i) slot e = h (suc i) slot e
slots_set (o ∷ os) (suc k) new h valid zero slot e = h zero slot e
slots_set (o ∷ os) (suc k) new h valid (suc i) slot e = slots_set os k new (λ j s f. h (suc j) s f) valid i slot e

module _ (d : Draft) (h : IsDraft d) (open_end : d.end ≡ None) where
  set_valid : (w : Setting) (m : ℕ) (e : Draft) → (lowest w ≤ m) × (m ≤ highest w) → set_after d w m ≡ Ok e → IsDraft e
  set_valid w m e range is = go (is_some (given d.settings w)) is
    where
      go : (b : Bool) → cond b (Err Twice) (Ok (record d { settings = with_given d.settings w m })) ≡ Ok e → IsDraft e
      go true is = cc
      go false is =
          let same : record d { settings = with_given d.settings w m } ≡ e = cc in
          subst IsDraft same (record { settings = settings_after d.settings w m h.settings range; seed = h.seed; slots = h.slots; size = h.size; acts = h.acts; end = h.end })

  seed_valid : (m : ℕ) (e : Draft) → m ≤ 4294967295 → seed_after d m ≡ Ok e → IsDraft e
  seed_valid m e range is = go (is_some d.seed) is
    where
      go : (b : Bool) → cond b (Err Twice) (Ok (record d { seed = Some m })) ≡ Ok e → IsDraft e
      go true is = cc
      go false is =
          let same : record d { seed = Some m } ≡ e = cc in
          subst IsDraft same (record { settings = h.settings; seed = λ n f. (let here : m ≡ n = cc in subst (λ k. k ≤ 4294967295) here range); slots = h.slots; size = h.size; acts = h.acts; end = h.end })

  still_taken : (slots : List (Option Slot)) (k : ℕ) (new : Slot) (i : ℕ) → is_some (get_or slots i None) ≡ true → is_some (get_or (set slots k (Some new)) i None) ≡ true
  still_taken [] k new i taken = cc
  still_taken (o ∷ os) zero new zero taken = refl
  still_taken (o ∷ os) zero new (suc i) taken = taken
  still_taken (o ∷ os) (suc k) new zero taken = taken
  still_taken (o ∷ os) (suc k) new (suc i) taken = still_taken os k new i taken

  slot_valid : (number : ℕ) (slot : Slot) → IsSlot slot → IsDraft (with_slot d number slot)
  slot_valid number slot valid = record {
    settings = h.settings;
    seed = h.seed;
    slots = record { each = slots_set d.slots number slot h.slots.each valid };
    size = length-set d.slots number (Some slot) ∙ h.size;
    acts = record {
      few = h.acts.few;
      in_order = h.acts.in_order;
      numbered = h.acts.numbered;
      each = all_timed d.slots (set d.slots number (Some slot)) (length d.acts) (length d.acts) d.latest d.latest d.acts (still_taken d.slots number slot) (omega arith) (omega arith) h.acts.each;
    };
    end = λ last e. cc;
  }

  node_valid : (number id place : ℕ) (e : Draft) → (number ≤ last_node) × (id ≤ 255) × (place ≤ 255) → node_after d number id place ≡ Ok e → IsDraft e
  node_valid number id place e range is = go (is_some (slot_at d number)) is
    where
      go : (b : Bool) → cond b (Err Twice) (Ok (with_slot d number (new_slot id place))) ≡ Ok e → IsDraft e
      go true is = cc
      go false is =
          let same : with_slot d number (new_slot id place) ≡ e = cc in
          subst IsDraft same (slot_valid number (new_slot id place) (record { ids = one_id id range.1; place = range.2; stub = λ u f. cc; to = λ n f. cc; start = λ t f. cc; few_draws = omega arith; draws = All-nil (λ draw. draw ≤ last_draw) }))

  also_valid : (number id : ℕ) (e : Draft) → id ≤ last_further_id → also_after d number id ≡ Ok e → IsDraft e
  also_valid number id e range is = at (slot_at d number) refl is
    where
      at : (o : Option Slot) → slot_at d number ≡ o → also_in_slot d number id o ≡ Ok e → IsDraft e
      at None here is = cc
      at (Some slot) here is = go (has_id slot.ids id) (leb most_ids (length slot.ids)) refl refl is
        where
          go : (a b : Bool) → has_id slot.ids id ≡ a → leb most_ids (length slot.ids) ≡ b → cond a (Err Twice) (cond b (Err TooMany) (Ok (with_slot d number (record slot { ids = slot.ids ++ id ∷ [] })))) ≡ Ok e → IsDraft e
          go true b again full is = cc
          go false true again full is = cc
          go false false again full is =
              let same : with_slot d number (record slot { ids = slot.ids ++ id ∷ [] }) ≡ e = cc in
              let old : IsSlot slot = h.slots.each number slot here in
              let room : length slot.ids < most_ids = (let test = full in grind (arith, nat_tests)) in
              subst IsDraft same (slot_valid number (record slot { ids = slot.ids ++ id ∷ [] }) (record {
                ids = one_id_more slot.ids id old.ids again room (omega arith);
                place = old.place;
                stub = old.stub;
                to = old.to;
                start = old.start;
                few_draws = old.few_draws;
                draws = old.draws;
              }))

  -- a line that may stand once for a node, where what it puts into a slot is in range
  once_valid : (number : ℕ) (stood : Slot → Option ℕ) (put : Slot → Slot) (e : Draft) → ((slot : Slot) → IsSlot slot → IsSlot (put slot)) → once_in_slot d number stood put (slot_at d number) ≡ Ok e → IsDraft e
  once_valid number stood put e keeps is = at (slot_at d number) refl is
    where
      at : (o : Option Slot) → slot_at d number ≡ o → once_in_slot d number stood put o ≡ Ok e → IsDraft e
      at None here is = cc
      at (Some slot) here is = go (is_some (stood slot)) is
        where
          go : (b : Bool) → cond b (Err Twice) (Ok (with_slot d number (put slot))) ≡ Ok e → IsDraft e
          go true is = cc
          go false is =
              let same : with_slot d number (put slot) ≡ e = cc in
              subst IsDraft same (slot_valid number (put slot) (keeps slot (h.slots.each number slot here)))

  stub_valid : (number stub : ℕ) (e : Draft) → stub ≤ longest_stub → stub_after d number stub ≡ Ok e → IsDraft e
  stub_valid number stub e range is = once_valid number (λ s. s.stub) (λ s. record s { stub = Some stub }) e
      (λ slot old. record { ids = old.ids; place = old.place; stub = λ u f. (let now : stub ≡ u = cc in subst (λ k. k ≤ longest_stub) now range); to = old.to; start = old.start; few_draws = old.few_draws; draws = old.draws }) is

  late_valid : (number start : ℕ) (e : Draft) → start ≤ most_ticks → late_after d number start ≡ Ok e → IsDraft e
  late_valid number start e range is = once_valid number (λ s. s.start) (λ s. record s { start = Some start }) e
      (λ slot old. record { ids = old.ids; place = old.place; stub = old.stub; to = old.to; start = λ t f. (let now : start ≡ t = cc in subst (λ k. k ≤ most_ticks) now range); few_draws = old.few_draws; draws = old.draws }) is

  timer_valid : (number to : ℕ) (e : Draft) → (16 ≤ to) × (to ≤ 255) → timer_after d number to ≡ Ok e → IsDraft e
  timer_valid number to e range is = once_valid number (λ s. s.to) (λ s. record s { to = Some to }) e
      (λ slot old. record { ids = old.ids; place = old.place; stub = old.stub; to = λ n f. (let now : to ≡ n = cc in subst (λ k. (16 ≤ k) × (k ≤ 255)) now range); start = old.start; few_draws = old.few_draws; draws = old.draws }) is

  draw_valid : (number draw : ℕ) (e : Draft) → (number ≤ last_node) × (draw ≤ last_draw) → draw_after d number draw ≡ Ok e → IsDraft e
  draw_valid number draw e range is = at (slot_at d number) refl is
    where
      at : (o : Option Slot) → slot_at d number ≡ o → draw_in_slot d number draw o ≡ Ok e → IsDraft e
      at None here is = cc
      at (Some slot) here is = go (leb most_draws (length slot.draws)) refl is
        where
          go : (b : Bool) → leb most_draws (length slot.draws) ≡ b → cond b (Err TooMany) (Ok (with_slot d number (record slot { draws = slot.draws ++ draw ∷ [] }))) ≡ Ok e → IsDraft e
          go true many is = cc
          go false many is =
              let same : with_slot d number (record slot { draws = slot.draws ++ draw ∷ [] }) ≡ e = cc in
              let old : IsSlot slot = h.slots.each number slot here in
              let room : length slot.draws < most_draws = (let test = many in grind (arith, nat_tests)) in
              let small : draw ≤ last_draw = range.1 in
              let low : ℕ → Type 0 = λ n. n ≤ last_draw in
              subst IsDraft same (slot_valid number (record slot { draws = slot.draws ++ draw ∷ [] }) (record {
                ids = old.ids;
                place = old.place;
                stub = old.stub;
                to = old.to;
                start = old.start;
                few_draws = omega (arith, length-append slot.draws (draw ∷ []));
                draws = All-append low slot.draws (draw ∷ []) old.draws (All-cons low draw [] small (All-nil low));
              }))

  timed_valid : (tick : ℕ) (x : Deed) (e : Draft) → IsDone d.slots (suc (length d.acts)) tick x → ((number : ℕ) → number_in x ≡ Some number → number ≡ 1 + offers_in d.acts) → timed_after d tick x ≡ Ok e → IsDraft e
  timed_valid tick x e done next is = go (ltb tick d.latest) (leb most_acts (length d.acts)) refl refl is
    where
      go : (early many : Bool) → ltb tick d.latest ≡ early → leb most_acts (length d.acts) ≡ many → cond early (Err Order) (cond many (Err TooMany) (Ok (with_act d (act_at tick x)))) ≡ Ok e → IsDraft e
      go true many order count is = cc
      go false true order count is = cc
      go false false order count is =
          let same : with_act d (act_at tick x) ≡ e = cc in
          let later : d.latest ≤ tick = (let test = order in grind (arith, nat_tests)) in
          let room : length d.acts < most_acts = (let test = count in grind (arith, nat_tests)) in
          subst IsDraft same (record {
            settings = h.settings;
            seed = h.seed;
            slots = h.slots;
            size = h.size;
            acts = one_more_act d.slots d.acts d.latest tick x h.acts later room done next;
            end = λ last f. cc;
          })

  offer_valid : (tick number : ℕ) (frame : List ℕ) (e : Draft) → IsFrame frame → offer_after d tick number frame ≡ Ok e → IsDraft e
  offer_valid tick number frame e whole is = go (is_some (slot_at d number)) refl is
    where
      go : (known : Bool) → is_some (slot_at d number) ≡ known → cond known (timed_after d tick (OfferDeed (1 + offers_in d.acts) number frame)) (Err UnknownNode) ≡ Ok e → IsDraft e
      go false stood is = cc
      go true stood is = timed_valid tick (OfferDeed (1 + offers_in d.acts) number frame) e (omega arith, omega (arith, length-filter_map offer_number d.acts), stood, whole) (λ n f. (let same : 1 + offers_in d.acts ≡ n = cc in sym same)) is

  noise_valid : (tick until : ℕ) (e : Draft) → (tick < until) × (until ≤ most_ticks) → timed_after d tick (NoiseDeed until) ≡ Ok e → IsDraft e
  noise_valid tick until e range is = timed_valid tick (NoiseDeed until) e range (λ n f. cc) is

  end_valid : (last : ℕ) (e : Draft) → (1 ≤ last) × (last ≤ most_ticks) → end_after d last ≡ Ok e → IsDraft e
  end_valid last e range is = order (leb last d.latest) refl is
    where
      go : d.latest < last → (b : Bool) → list_any is_some d.slots ≡ b → cond b (Ok (record d { end = Some last })) (Err NoNode) ≡ Ok e → IsDraft e
      go above false any is = cc
      go above true any is =
          let same : record d { end = Some last } ≡ e = cc in
          subst IsDraft same (record { settings = h.settings; seed = h.seed; slots = h.slots; size = h.size; acts = h.acts; end = λ n f. (let now : last ≡ n = cc in subst (λ k. (1 ≤ k) × (k ≤ most_ticks) × (list_any is_some d.slots ≡ true) × (d.latest < k)) now (range.0, range.1, any, above)) })

      order : (b : Bool) → leb last d.latest ≡ b → cond b (Err Order) (cond (list_any is_some d.slots) (Ok (record d { end = Some last })) (Err NoNode)) ≡ Ok e → IsDraft e
      order true below is = cc
      order false above is = go (let test = above in grind (arith, nat_tests)) (list_any is_some d.slots) refl is

  line_valid : (l : ScriptLine) (e : Draft) → InRange l → line_after d l ≡ Ok e → IsDraft e
  line_valid Skipped e range is = let same : d ≡ e = cc in subst IsDraft same h
  line_valid (Set w m) e range is = set_valid w m e range is
  line_valid (Seed m) e range is = seed_valid m e range is
  line_valid (Node number id place) e range is = node_valid number id place e range is
  line_valid (Also number id) e range is = also_valid number id e range.1 is
  line_valid (Stub number stub) e range is = stub_valid number stub e range.1 is
  line_valid (Late number start) e range is = late_valid number start e range.1 is
  line_valid (ToNode number to) e range is = timer_valid number to e (range.1, range.2) is
  line_valid (Draw number draw) e range is = draw_valid number draw e range is
  line_valid (Offer tick number frame) e range is = offer_valid tick number frame e range.2 is
  line_valid (Noise tick until) e range is = noise_valid tick until e range is
  line_valid (End last) e range is = end_valid last e range is

unskipped_valid : (d : Draft) (o : Option ℕ) (l : ScriptLine) (e : Draft) → IsDraft d → d.end ≡ o → InRange l → unskipped_after d o (Ok l) ≡ Ok e → IsDraft e
unskipped_valid d (Some last) l e h here range is = cc
unskipped_valid d None l e h here range is = line_valid d h here l e range is

draft_valid : (d : Draft) (x : ParsedLine) (e : Draft) → IsDraft d → ((l : ScriptLine) → x ≡ Ok l → InRange l) → draft_after d x ≡ Ok e → IsDraft e
draft_valid d (Err reason) e h range is = go d.end is
  where
    go : (o : Option ℕ) → unskipped_after d o (Err reason) ≡ Ok e → IsDraft e
    go (Some last) is = cc
    go None is = cc
draft_valid d (Ok Skipped) e h range is = let same : d ≡ e = cc in subst IsDraft same h
draft_valid d (Ok (Set w m)) e h range is = unskipped_valid d d.end (Set w m) e h refl (range (Set w m) refl) is
draft_valid d (Ok (Seed m)) e h range is = unskipped_valid d d.end (Seed m) e h refl (range (Seed m) refl) is
draft_valid d (Ok (Node number id place)) e h range is = unskipped_valid d d.end (Node number id place) e h refl (range (Node number id place) refl) is
draft_valid d (Ok (Also number id)) e h range is = unskipped_valid d d.end (Also number id) e h refl (range (Also number id) refl) is
draft_valid d (Ok (Stub number stub)) e h range is = unskipped_valid d d.end (Stub number stub) e h refl (range (Stub number stub) refl) is
draft_valid d (Ok (Late number start)) e h range is = unskipped_valid d d.end (Late number start) e h refl (range (Late number start) refl) is
draft_valid d (Ok (ToNode number to)) e h range is = unskipped_valid d d.end (ToNode number to) e h refl (range (ToNode number to) refl) is
draft_valid d (Ok (Draw number draw)) e h range is = unskipped_valid d d.end (Draw number draw) e h refl (range (Draw number draw) refl) is
draft_valid d (Ok (Offer tick number frame)) e h range is = unskipped_valid d d.end (Offer tick number frame) e h refl (range (Offer tick number frame) refl) is
draft_valid d (Ok (Noise tick until)) e h range is = unskipped_valid d d.end (Noise tick until) e h refl (range (Noise tick until) refl) is
draft_valid d (Ok (End last)) e h range is = unskipped_valid d d.end (End last) e h refl (range (End last) refl) is

-- ---- the script of all lines

value_range : (w : Setting) (o : Option ℕ) → (lowest w ≤ default_of w) × (default_of w ≤ highest w) → InSetting w o → (lowest w ≤ unwrap_or o (default_of w)) × (unwrap_or o (default_of w) ≤ highest w)
value_range w None usual h = usual
value_range w (Some n) usual h = h n refl

seed_range : (o : Option ℕ) → ((n : ℕ) → o ≡ Some n → n ≤ 4294967295) → unwrap_or o 1 ≤ 4294967295
seed_range None h = omega arith
seed_range (Some n) h = h n refl

-- the acts of a draft are those of a valid script
acts_valid : (to last count latest : ℕ) (slots : List (Option Slot)) (held : List Act) → count ≤ most_acts → latest < last → All (IsTimed slots count latest) held → All (IsAct (numbers_of (nodes_from to 0 slots)) last) held
acts_valid to last count latest slots held few above h k d below = valid (get_or held k d) (h k d below)
  where
    done : (tick : ℕ) (x : Deed) → IsDone slots count tick x → IsDeed (numbers_of (nodes_from to 0 slots)) tick x
    done tick (OfferDeed number node frame) o = (o.0, omega (arith, o.1), number_stands to 0 node slots node (omega arith) o.2, o.3)
    done tick (NoiseDeed until) o = o

    valid : (a : Act) → IsTimed slots count latest a → IsAct (numbers_of (nodes_from to 0 slots)) last a
    valid a t = record { before_end = omega (arith, t.early); deed = done a.tick a.deed t.deed }

script_valid : (d : Draft) (last : ℕ) → IsDraft d → d.end ≡ Some last → IsScript (script_with d last)
script_valid d last h is =
    let count = value_range Count d.settings.count (omega arith, omega arith) h.settings.count in
    let to = value_range To d.settings.to (omega arith, omega arith) h.settings.to in
    let rise = value_range Rise d.settings.rise (omega arith, omega arith) h.settings.rise in
    let fall = value_range Fall d.settings.fall (omega arith, omega arith) h.settings.fall in
    let burst = value_range Burst d.settings.burst (omega arith, omega arith) h.settings.burst in
    let room = value_range Room d.settings.room (omega arith, omega arith) h.settings.room in
    let end = h.end last is in
    record {
      count_low = count.0;
      count_high = count.1;
      to_low = to.0;
      to_high = to.1;
      rise_low = rise.0;
      rise_high = rise.1;
      fall_low = fall.0;
      fall_high = fall.1;
      burst_high = burst.1;
      room_low = room.0;
      room_high = room.1;
      seed_high = seed_range d.seed h.seed;
      some_node = some_node (value_in d.settings To) 0 d.slots end.2;
      most_nodes = omega (arith, length-nodes_from (value_in d.settings To) 0 d.slots, h.size);
      ascending = nodes_increase (value_in d.settings To) 0 d.slots;
      nodes = nodes_range (value_in d.settings To) 0 d.slots to.0 to.1 (omega (arith, h.size)) h.slots;
      end_low = end.0;
      end_high = end.1;
      few_acts = h.acts.few;
      acts_in_order = h.acts.in_order;
      offers_in_order = subst IsStrictlyIncreasing (sym h.acts.numbered) (range_increases 1 (offers_in d.acts));
      acts = acts_valid (value_in d.settings To) last (length d.acts) d.latest d.slots d.acts h.acts.few end.3 h.acts.each;
    }

reading_valid : (version : Version) (number : ℕ) (x : Result Draft ScriptReason) (lines : List (List ℕ)) (s : Script) → ((d : Draft) → x ≡ Ok d → IsDraft d) → reading_from number x (map (parsed_line version) lines) ≡ Ok s → IsScript s
reading_valid version number (Err reason) lines s h is = go lines is
  where
    go : (lines : List (List ℕ)) → reading_from number (Err reason) (map (parsed_line version) lines) ≡ Ok s → IsScript s
    go [] is = cc
    go (line ∷ lines) is = cc
reading_valid version number (Ok d) [] s h is = go d.end refl is
  where
    go : (o : Option ℕ) → d.end ≡ o → script_at (number + 1) d o ≡ Ok s → IsScript s
    go None here is = cc
    go (Some last) here is = let same : script_with d last ≡ s = cc in subst IsScript same (script_valid d last (h d refl) here)
reading_valid version number (Ok d) (line ∷ lines) s h is =
    reading_valid version (number + 1) (draft_after d (parsed_line version line)) lines s (λ e after. draft_valid d (parsed_line version line) e (h d refl) (parsed_line_range version line) after) is

lines_valid : (lines : List (List ℕ)) (s : Script) → script_in lines ≡ Ok s → IsScript s
lines_valid [] s is = cc
lines_valid (first ∷ lines) s is = go (version_of first) is
  where
    go : (o : Option Version) → script_with_version o lines ≡ Ok s → IsScript s
    go (Some version) is = reading_valid version 1 (Ok draft_start) lines s (λ d same. (let here : draft_start ≡ d = cc in subst IsDraft here start_valid)) (by_drafts version lines ∙ is)
    go None is = cc

pub read_valid : ReadScriptsAreValid
read_valid octets s is = go (ltb 1048576 (length octets)) is
  where
    go : (b : Bool) → cond b (refused_at 0 TooLong) (script_in (lines_of octets)) ≡ Ok s → IsScript s
    go true is = cc
    go false is = lines_valid (lines_of octets) s is

-- where an answer has a script, it is valid
pub answer_valid : (octets : List ℕ) (r : Result Script ScriptFault) → IsAnswer (script_of octets) r → IfOk r IsScript
answer_valid octets (Ok s) h = read_valid octets s h
answer_valid octets (Err (Refused refusal)) h = tt
answer_valid octets (Err (Memory error)) h = tt
