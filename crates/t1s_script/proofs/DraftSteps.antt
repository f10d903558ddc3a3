-- A draft holds what the lines read so far give, and one more line is refused alike or is held too.
use Rattle.std.proofs.Common.{◌≡◌, ◌≢◌, ◌⊎◌, inl, inr, ℕ, zero, suc, ◌+◌, ◌<◌, ◌≤◌, Bool, true, false, cond, eqb, leb, ltb, List, [], ◌∷◌, ◌++◌, length, length-append, get_or, set, replicate, Option, Some, None, Result, Ok, Err, refl, sym, ◌∙◌, ap, subst, arith}
use Rattle.std.specs.Prelude.{◌==◌, ◌||◌, not, is_some, filter_map, option_map}
use Rattle.std.specs.Option.{option_to_list, option_and_then}
use Rattle.std.specs.List.{list_any}
use Rattle.std.proofs.Math.ListN.{length-set}
use Rattle.std.proofs.Math.Bool.{or-true}
use Rattle.std.proofs.lemmas.Bool.Decides.{eqb_tells, nat_tests}
use Rattle.std.proofs.lemmas.List.{get_or-set_same, get_or-set_other}
use Rattle.std.proofs.lemmas.List.Folds.{list_any-append}
use Rattle.t1s_base.specs.Limits.{most_nodes, last_node}
use Rattle.t1s_base.specs.NodeIds.{has_id}
use Rattle.t1s_script.specs.ParsedLine.{ParsedLine}
use Rattle.t1s_script.specs.Limits.{most_acts, most_draws, most_further_ids, most_ids}
use Rattle.t1s_script.specs.Values.{number_for, seed_from, node_for, also_for, gives_id, stub_for, start_for, timer_for, draw_for, tick_from, latest_tick, end_from, is_node, some_gives}
use Rattle.t1s_script.specs.Script.{offers_in}
use Rattle.t1s_script.specs.Rules.{reason_of}
use Rattle.t1s_script.specs.Reading.{act_at}
use Rattle.t1s_script.specs.Draft.{given, with_given, draft_start, slot_at, with_slot, set_after, seed_after, new_slot, node_after, also_in_slot, once_in_slot, stub_after, late_after, timer_after, draw_in_slot, with_act, timed_after, offer_after, end_after, line_after, unskipped_after, draft_after}
use Rattle.t1s_script.specs.declared.draft.Draft.{Draft}
use Rattle.t1s_script.specs.declared.draft.Settings.{Settings}
use Rattle.t1s_script.specs.declared.draft.Slot.{Slot}
use Rattle.t1s_script.specs.declared.refusals.ScriptReason.{ScriptReason}
use Rattle.t1s_script.specs.declared.refusals.ScriptReason.TheVariants.{AfterEnd, Twice, UnknownNode, Order, TooMany, NoNode}
use Rattle.t1s_script.specs.declared.script.Deed.{Deed}
use Rattle.t1s_script.specs.declared.script.Deed.TheVariants.{Offer as OfferDeed, Noise as NoiseDeed}
use Rattle.t1s_script.specs.declared.words.Setting.{Setting}
use Rattle.t1s_script.specs.declared.words.Setting.TheVariants.{Count, To, Rise, Fall, Burst, Room}
use Rattle.t1s_script.specs.declared.words.ScriptLine.{ScriptLine}
use Rattle.t1s_script.specs.declared.words.ScriptLine.TheVariants.{Skipped, Set, Seed, Node, Also, Stub, Late, ToNode, Draw, Offer, Noise, End}
use Rattle.t1s_script.proofs.Ranges.{InRange}
use Rattle.t1s_script.proofs.FurtherIds.{first_id, further_ids, first_more, further_more, full_is, has_whole, ids_given}
use Rattle.t1s_script.proofs.LineValues.{gives, kept, gained, same_values, one_more}
use Rattle.t1s_script.proofs.LineActs.{HoldsActs, IsUntimed, HasAct, same_acts, more_acts}

-- ---- what a draft holds

-- the IDs of the `also` lines
abbrev pub further_in : Option Slot → List ℕ
further_in (Some slot) = further_ids slot.ids
further_in None = []

-- a slot that is taken has an ID
abbrev pub HasAnId : Option Slot → Type 0
HasAnId (Some slot) = 1 ≤ length slot.ids
HasAnId None = Unit {0}

abbrev pub id_and_place : Slot → ℕ × ℕ
id_and_place slot = (first_id slot.ids, slot.place)

-- what a slot keeps of a line that may stand once for its node
abbrev pub once_in : (Slot → Option ℕ) → Option Slot → Option ℕ
once_in stood slot = option_and_then stood slot

abbrev pub draws_in : Option Slot → List ℕ
draws_in (Some slot) = slot.draws
draws_in None = []

-- what is kept of the node of that number is all that these lines give of it
pub record HoldsSlot (lines : List ParsedLine) (number : ℕ) (slot : Option Slot) : Type 0 where
  pub place : option_to_list (option_map id_and_place slot) ≡ filter_map (node_for number) lines
  pub some_id : HasAnId slot
  pub also : further_in slot ≡ filter_map (also_for number) lines
  pub stub : option_to_list (once_in (λ s. s.stub) slot) ≡ filter_map (stub_for number) lines
  pub timer : option_to_list (once_in (λ s. s.to) slot) ≡ filter_map (timer_for number) lines
  pub start : option_to_list (once_in (λ s. s.start) slot) ≡ filter_map (start_for number) lines
  pub draws : draws_in slot ≡ filter_map (draw_for number) lines

-- what a draft keeps is all that these lines give
pub record Holds (lines : List ParsedLine) (d : Draft) : Type 0 where
  pub settings : (w : Setting) → option_to_list (given d.settings w) ≡ filter_map (number_for w) lines
  pub seed : option_to_list d.seed ≡ filter_map seed_from lines
  pub slots : (number : ℕ) → HoldsSlot lines number (slot_at d number)
  pub acts : HoldsActs lines d.acts d.latest
  pub size : length d.slots ≡ most_nodes
  pub some_node : list_any is_some d.slots ≡ list_any is_node lines
  pub end : option_to_list d.end ≡ filter_map end_from lines

pub none_free : (k i : ℕ) → get_or {A = Option Slot} (replicate k None) i None ≡ None
none_free zero i = refl
none_free (suc k) zero = refl
none_free (suc k) (suc i) = none_free k i

pub start_holds : Holds [] draft_start
start_holds = record {
  settings = none_given;
  seed = refl;
  slots = λ number. subst (HoldsSlot [] number) (sym (none_free most_nodes number)) (record { place = refl; some_id = tt; also = refl; stub = refl; timer = refl; start = refl; draws = refl });
  acts = record { acts = refl; latest = refl; counted = refl; numbered = refl };
  size = refl;
  some_node = refl;
  end = refl;
}
  where
    none_given : (w : Setting) → option_to_list (given draft_start.settings w) ≡ []
    none_given Count = refl
    none_given To = refl
    none_given Rise = refl
    none_given Fall = refl
    none_given Burst = refl
    none_given Room = refl

-- ---- one more line

-- what a line does: it is refused alike, or the draft holds it too
abbrev pub IsStep : List ParsedLine → ParsedLine → Result Draft ScriptReason → Type 0
IsStep lines line (Ok e) = (reason_of lines line ≡ None) × Holds (lines ++ line ∷ []) e
IsStep lines line (Err reason) = reason_of lines line ≡ Some reason

eqb_same : (n : ℕ) → eqb n n ≡ true
eqb_same n = go (eqb_tells n n)
  where
    go : ((eqb n n ≡ true) × (n ≡ n)) ⊎ ((eqb n n ≡ false) × (n ≢ n)) → eqb n n ≡ true
    go (inl (test, same)) = test
    go (inr (test, other)) = absurd (other refl)

pub any_set : (slots : List (Option Slot)) (k : ℕ) (new : Slot) → k < length slots → list_any is_some (set slots k (Some new)) ≡ true
any_set [] k new below = absurd (omega arith)
any_set (o ∷ os) zero new below = refl
any_set (None ∷ os) (suc k) new below = any_set os k new (omega arith)
any_set (Some s ∷ os) (suc k) new below = refl

any_at : (slots : List (Option Slot)) (k : ℕ) (slot : Slot) → get_or slots k None ≡ Some slot → list_any is_some slots ≡ true
any_at [] k slot e = absurd cc
any_at (None ∷ os) zero slot e = absurd cc
any_at (None ∷ os) (suc k) slot e = any_at os k slot e
any_at (Some s ∷ os) k slot e = refl

-- the settings after one more is given
setting_kept : (lines : List ParsedLine) (s : Settings) (v w : Setting) (n : ℕ) → given s v ≡ None → option_to_list (given s w) ≡ filter_map (number_for w) lines
    → option_to_list (given (with_given s v n) w) ≡ filter_map (number_for w) (lines ++ Ok (Set v n) ∷ [])
setting_kept lines s Count Count n free e = gained (number_for Count) lines (Ok (Set Count n)) s.count n e free refl
setting_kept lines s To To n free e = gained (number_for To) lines (Ok (Set To n)) s.to n e free refl
setting_kept lines s Rise Rise n free e = gained (number_for Rise) lines (Ok (Set Rise n)) s.rise n e free refl
setting_kept lines s Fall Fall n free e = gained (number_for Fall) lines (Ok (Set Fall n)) s.fall n e free refl
setting_kept lines s Burst Burst n free e = gained (number_for Burst) lines (Ok (Set Burst n)) s.burst n e free refl
setting_kept lines s Room Room n free e = gained (number_for Room) lines (Ok (Set Room n)) s.room n e free refl
setting_kept lines s v w n free e = kept (number_for w) lines (Ok (Set v n)) (given s w) e refl

-- a line that gives nothing of the node of that number
record SparesSlot (number : ℕ) (line : ParsedLine) : Type 0 where
  pub place : node_for number line ≡ None
  pub also : also_for number line ≡ None
  pub stub : stub_for number line ≡ None
  pub timer : timer_for number line ≡ None
  pub start : start_for number line ≡ None
  pub draws : draw_for number line ≡ None

-- a line that gives nothing beside what it gives of a node
record SparesRest (line : ParsedLine) : Type 0 where
  pub settings : (w : Setting) → number_for w line ≡ None
  pub seed : seed_from line ≡ None
  pub untimed : IsUntimed line
  pub end : end_from line ≡ None

module _ (lines : List ParsedLine) (d : Draft) (h : Holds lines d) where
  -- a `node` line stands among the lines and one more
  node_or : (line : ParsedLine) → list_any is_node (lines ++ line ∷ []) ≡ (list_any is_node lines || (is_node line || false))
  node_or line = list_any-append is_node lines (line ∷ [])

  same_nodes : (line : ParsedLine) → is_node line ≡ false → list_any is_some d.slots ≡ list_any is_node (lines ++ line ∷ [])
  same_nodes line none = grind (arith, h.some_node, node_or line)

  -- what a line gives none of stays as it is
  same_settings : (line : ParsedLine) → ((w : Setting) → number_for w line ≡ None) → (w : Setting) → option_to_list (given d.settings w) ≡ filter_map (number_for w) (lines ++ line ∷ [])
  same_settings line none w = kept (number_for w) lines line (given d.settings w) (h.settings w) (none w)

  same_seed : (line : ParsedLine) → seed_from line ≡ None → option_to_list d.seed ≡ filter_map seed_from (lines ++ line ∷ [])
  same_seed line none = kept seed_from lines line d.seed h.seed none

  same_slot : (line : ParsedLine) (k : ℕ) → SparesSlot k line → HoldsSlot (lines ++ line ∷ []) k (slot_at d k)
  same_slot line k spared = record {
    place = kept (node_for k) lines line (option_map id_and_place (slot_at d k)) (h.slots k).place spared.place;
    some_id = (h.slots k).some_id;
    also = (h.slots k).also ∙ same_values (also_for k) lines line spared.also;
    stub = kept (stub_for k) lines line (once_in (λ s. s.stub) (slot_at d k)) (h.slots k).stub spared.stub;
    timer = kept (timer_for k) lines line (once_in (λ s. s.to) (slot_at d k)) (h.slots k).timer spared.timer;
    start = kept (start_for k) lines line (once_in (λ s. s.start) (slot_at d k)) (h.slots k).start spared.start;
    draws = (h.slots k).draws ∙ same_values (draw_for k) lines line spared.draws;
  }

  untimed : (line : ParsedLine) → IsUntimed line → HoldsActs (lines ++ line ∷ []) d.acts d.latest
  untimed line none = same_acts lines line d.acts d.latest h.acts none

  same_end : (line : ParsedLine) → end_from line ≡ None → option_to_list d.end ≡ filter_map end_from (lines ++ line ∷ [])
  same_end line none = kept end_from lines line d.end h.end none

  skipped_step : Holds (lines ++ Ok Skipped ∷ []) d
  skipped_step = record {
    settings = same_settings (Ok Skipped) (λ w. refl);
    seed = same_seed (Ok Skipped) refl;
    slots = λ k. same_slot (Ok Skipped) k (record { place = refl; also = refl; stub = refl; timer = refl; start = refl; draws = refl });
    acts = untimed (Ok Skipped) (record { act = λ k. refl; offer = refl; tick = refl });
    size = h.size;
    some_node = same_nodes (Ok Skipped) refl;
    end = same_end (Ok Skipped) refl;
  }

  module _ (open_end : d.end ≡ None) where
    -- no `end` line stands among the lines
    no_end : some_gives end_from lines ≡ false
    no_end = gives end_from lines d.end h.end ∙ ap is_some open_end

    set_step : (w : Setting) (n : ℕ) → IsStep lines (Ok (Set w n)) (set_after d w n)
    set_step w n = go (given d.settings w) refl (gives (number_for w) lines (given d.settings w) (h.settings w))
      where
        go : (o : Option ℕ) → given d.settings w ≡ o → some_gives (number_for w) lines ≡ is_some o → IsStep lines (Ok (Set w n)) (cond (is_some o) (Err Twice) (Ok (record d { settings = with_given d.settings w n })))
        go (Some v) here test = rw (no_end, test) refl
        go None here test = (
          rw (no_end, test) refl,
          record {
            settings = λ v. setting_kept lines d.settings w v n here (h.settings v);
            seed = same_seed (Ok (Set w n)) refl;
            slots = λ k. same_slot (Ok (Set w n)) k (record { place = refl; also = refl; stub = refl; timer = refl; start = refl; draws = refl });
            acts = untimed (Ok (Set w n)) (record { act = λ k. refl; offer = refl; tick = refl });
            size = h.size;
            some_node = same_nodes (Ok (Set w n)) refl;
            end = same_end (Ok (Set w n)) refl;
          },
        )

    seed_step : (n : ℕ) → IsStep lines (Ok (Seed n)) (seed_after d n)
    seed_step n = go d.seed refl (gives seed_from lines d.seed h.seed)
      where
        go : (o : Option ℕ) → d.seed ≡ o → some_gives seed_from lines ≡ is_some o → IsStep lines (Ok (Seed n)) (cond (is_some o) (Err Twice) (Ok (record d { seed = Some n })))
        go (Some v) here test = rw (no_end, test) refl
        go None here test = (
          rw (no_end, test) refl,
          record {
            settings = same_settings (Ok (Seed n)) (λ w. refl);
            seed = gained seed_from lines (Ok (Seed n)) d.seed n h.seed here refl;
            slots = λ k. same_slot (Ok (Seed n)) k (record { place = refl; also = refl; stub = refl; timer = refl; start = refl; draws = refl });
            acts = untimed (Ok (Seed n)) (record { act = λ k. refl; offer = refl; tick = refl });
            size = h.size;
            some_node = same_nodes (Ok (Seed n)) refl;
            end = same_end (Ok (Seed n)) refl;
          },
        )

    end_step : (last : ℕ) → IsStep lines (Ok (End last)) (end_after d last)
    end_step last = order (leb last d.latest) (ap (leb last) (sym h.acts.latest))
      where
        go : leb last (latest_tick lines) ≡ false → (b : Bool) → list_any is_some d.slots ≡ b → IsStep lines (Ok (End last)) (cond b (Ok (record d { end = Some last })) (Err NoNode))
        go above false any = let test : list_any is_node lines ≡ false = sym h.some_node ∙ any in rw (no_end, above, test) refl
        go above true any = let test : list_any is_node lines ≡ true = sym h.some_node ∙ any in (
          rw (no_end, above, test) refl,
          record {
            settings = same_settings (Ok (End last)) (λ w. refl);
            seed = same_seed (Ok (End last)) refl;
            slots = λ k. same_slot (Ok (End last)) k (record { place = refl; also = refl; stub = refl; timer = refl; start = refl; draws = refl });
            acts = untimed (Ok (End last)) (record { act = λ k. refl; offer = refl; tick = refl });
            size = h.size;
            some_node = same_nodes (Ok (End last)) refl;
            end = gained end_from lines (Ok (End last)) d.end last h.end open_end refl;
          },
        )

        order : (b : Bool) → leb last (latest_tick lines) ≡ b → IsStep lines (Ok (End last)) (cond b (Err Order) (cond (list_any is_some d.slots) (Ok (record d { end = Some last })) (Err NoNode)))
        order true below = rw (no_end, below) refl
        order false above = go above (list_any is_some d.slots) refl

    -- a slot that is put
    module _ (number : ℕ) (slot : Slot) (few : number ≤ last_node) where
      put_same : slot_at (with_slot d number slot) number ≡ Some slot
      put_same = get_or-set_same d.slots number (Some slot) None (omega (arith, h.size))

      put_other : (k : ℕ) → number ≢ k → slot_at (with_slot d number slot) k ≡ slot_at d k
      put_other k other = get_or-set_other d.slots number k (Some slot) None (λ e. other (sym e))

      put_size : length (with_slot d number slot).slots ≡ most_nodes
      put_size = length-set d.slots number (Some slot) ∙ h.size

      put_any : list_any is_some (with_slot d number slot).slots ≡ true
      put_any = any_set d.slots number slot (omega (arith, h.size))

    -- a number is that of the line or another one
    abbrev Tested : ℕ → ℕ → Type 0
    Tested number k = ((eqb number k ≡ true) × (number ≡ k)) ⊎ ((eqb number k ≡ false) × (number ≢ k))

    -- a line of the node of that number: its slot is put, and nothing else changes
    module _ (line : ParsedLine) (number : ℕ) (slot : Slot) (few : number ≤ last_node) (here : HoldsSlot (lines ++ line ∷ []) number (Some slot)) (other : (k : ℕ) → eqb number k ≡ false → SparesSlot k line) (rest : SparesRest line) where
      slots_put : (k : ℕ) → Tested number k → HoldsSlot (lines ++ line ∷ []) k (slot_at (with_slot d number slot) k)
      slots_put k (inl (test, same)) = subst (λ j. HoldsSlot (lines ++ line ∷ []) j (slot_at (with_slot d number slot) j)) same (subst (HoldsSlot (lines ++ line ∷ []) number) (sym (put_same number slot few)) here)
      slots_put k (inr (test, unlike)) = subst (HoldsSlot (lines ++ line ∷ []) k) (sym (put_other number slot few k unlike)) (same_slot line k (other k test))

      put_holds : list_any is_node (lines ++ line ∷ []) ≡ true → Holds (lines ++ line ∷ []) (with_slot d number slot)
      put_holds some = record {
        settings = same_settings line rest.settings;
        seed = same_seed line rest.seed;
        slots = λ k. slots_put k (eqb_tells number k);
        acts = untimed line rest.untimed;
        size = put_size number slot few;
        some_node = put_any number slot few ∙ sym some;
        end = same_end line rest.end;
      }

    -- the slot of a node whose `node` line stood, and of one whose didn't
    known : (number : ℕ) (slot : Slot) → slot_at d number ≡ Some slot → some_gives (node_for number) lines ≡ true
    known number slot here = gives (node_for number) lines (option_map id_and_place (slot_at d number)) (h.slots number).place ∙ ap (λ o. is_some (option_map id_and_place o)) here

    unknown : (number : ℕ) → slot_at d number ≡ None → some_gives (node_for number) lines ≡ false
    unknown number here = gives (node_for number) lines (option_map id_and_place (slot_at d number)) (h.slots number).place ∙ ap (λ o. is_some (option_map id_and_place o)) here

    -- a line of a node that stood is none of its `node` lines
    still_some : (number : ℕ) (slot : Slot) (line : ParsedLine) → slot_at d number ≡ Some slot → is_node line ≡ false → list_any is_node (lines ++ line ∷ []) ≡ true
    still_some number slot line here none = sym (same_nodes line none) ∙ any_at d.slots number slot here

    node_step : (number id place : ℕ) → number ≤ last_node → IsStep lines (Ok (Node number id place)) (node_after d number id place)
    node_step number id place few = go (slot_at d number) refl
      where
        new_held : slot_at d number ≡ None → HoldsSlot (lines ++ Ok (Node number id place) ∷ []) number (Some (new_slot id place))
        new_held free = (let held : HoldsSlot lines number None = subst (HoldsSlot lines number) free (h.slots number) in record {
          place = gained (node_for number) lines (Ok (Node number id place)) None (id, place) held.place refl (ap (λ b. cond b (Some (id, place)) None) (eqb_same number));
          some_id = omega arith;
          also = held.also ∙ same_values (also_for number) lines (Ok (Node number id place)) refl;
          stub = kept (stub_for number) lines (Ok (Node number id place)) None held.stub refl;
          timer = kept (timer_for number) lines (Ok (Node number id place)) None held.timer refl;
          start = kept (start_for number) lines (Ok (Node number id place)) None held.start refl;
          draws = held.draws ∙ same_values (draw_for number) lines (Ok (Node number id place)) refl;
        })

        go : (o : Option Slot) → slot_at d number ≡ o → IsStep lines (Ok (Node number id place)) (cond (is_some o) (Err Twice) (Ok (with_slot d number (new_slot id place))))
        go (Some old) here = rw (no_end, known number old here) refl
        go None here = (
          rw (no_end, unknown number here) refl,
          put_holds (Ok (Node number id place)) number (new_slot id place) few (new_held here)
              (λ k test. record { place = ap (λ b. cond b (Some (id, place)) None) test; also = refl; stub = refl; timer = refl; start = refl; draws = refl })
              (record { settings = λ w. refl; seed = refl; untimed = record { act = λ k. refl; offer = refl; tick = refl }; end = refl })
              (node_or (Ok (Node number id place)) ∙ or-true (list_any is_node lines)),
        )

    -- why a line is refused that may stand once for a node
    abbrev once_reason : Bool → Bool → Bool → Option ScriptReason
    once_reason ended again known = cond ended (Some AfterEnd) (cond again (Some Twice) (cond (not known) (Some UnknownNode) None))

    reason_at : {a b c x y z : Bool} → a ≡ x → b ≡ y → c ≡ z → once_reason a b c ≡ once_reason x y z
    reason_at e f g = λ i. once_reason (e i) (f i) (g i)

    -- such a line gives `value`, of which a slot has kept what `stood` says and into which it is put by `put`
    module _ (line : ParsedLine) (number : ℕ) (value : ParsedLine → Option ℕ) (stood : Slot → Option ℕ) (put : Slot → Slot)
        (reason : reason_of lines line ≡ once_reason (some_gives end_from lines) (some_gives value lines) (some_gives (node_for number) lines))
        (keeps : option_to_list (once_in stood (slot_at d number)) ≡ filter_map value lines) where
      stands : (o : Option Slot) → slot_at d number ≡ o → some_gives value lines ≡ is_some (once_in stood o)
      stands o here = gives value lines (once_in stood (slot_at d number)) keeps ∙ ap (λ p. is_some (once_in stood p)) here

      once_step : ((slot : Slot) → slot_at d number ≡ Some slot → stood slot ≡ None → Holds (lines ++ line ∷ []) (with_slot d number (put slot)))
          → IsStep lines line (once_in_slot d number stood put (slot_at d number))
      once_step holds = go (slot_at d number) refl
        where
          in_slot : (slot : Slot) → slot_at d number ≡ Some slot → (o : Option ℕ) → stood slot ≡ o → IsStep lines line (cond (is_some o) (Err Twice) (Ok (with_slot d number (put slot))))
          in_slot slot here (Some n) again = let test : some_gives value lines ≡ true = stands (Some slot) here ∙ ap is_some again in reason ∙ reason_at no_end test refl
          in_slot slot here None free =
              let test : some_gives value lines ≡ false = stands (Some slot) here ∙ ap is_some free in
              (reason ∙ reason_at no_end test (known number slot here), holds slot here free)

          go : (o : Option Slot) → slot_at d number ≡ o → IsStep lines line (once_in_slot d number stood put o)
          go None here = reason ∙ reason_at no_end (stands None here) (unknown number here)
          go (Some slot) here = in_slot slot here (stood slot) refl

    -- why an `also` line is refused
    abbrev also_reason : Bool → Bool → Bool → Bool → Option ScriptReason
    also_reason ended again known full = cond ended (Some AfterEnd) (cond again (Some Twice) (cond (not known) (Some UnknownNode) (cond full (Some TooMany) None)))

    also_reason_at : {a b c d x y z w : Bool} → a ≡ x → b ≡ y → c ≡ z → d ≡ w → also_reason a b c d ≡ also_reason x y z w
    also_reason_at e f g k = λ i. also_reason (e i) (f i) (g i) (k i)

    module _ (number id : ℕ) where
      abbrev also_line : ParsedLine
      also_line = Ok (Also number id)

      refused_for : reason_of lines also_line
          ≡ also_reason (some_gives end_from lines) (list_any (gives_id number id) lines) (some_gives (node_for number) lines) (leb most_further_ids (length (filter_map (also_for number) lines)))
      refused_for = refl

      -- the IDs that a slot keeps are those that the lines give
      held_ids : (o : Option Slot) → HoldsSlot lines number o
          → list_any (gives_id number id) lines ≡ (list_any (λ (n : ℕ × ℕ). n.0 == id) (option_to_list (option_map id_and_place o)) || has_id (further_in o) id)
      held_ids o held =
          ids_given number id lines
          ∙ ap (λ ns. list_any (λ (n : ℕ × ℕ). n.0 == id) ns || has_id (filter_map (also_for number) lines) id) (sym held.place)
          ∙ ap (λ ids. list_any (λ (n : ℕ × ℕ). n.0 == id) (option_to_list (option_map id_and_place o)) || has_id ids id) (sym held.also)

      also_step : number ≤ last_node → IsStep lines also_line (also_in_slot d number id (slot_at d number))
      also_step few = go (slot_at d number) refl (h.slots number)
        where
          added : (slot : Slot) → HoldsSlot lines number (Some slot) → HoldsSlot (lines ++ also_line ∷ []) number (Some (record slot { ids = slot.ids ++ id ∷ [] }))
          added slot old = record {
            place = ap (λ first. (first, slot.place) ∷ []) (first_more slot.ids id old.some_id) ∙ kept (node_for number) lines also_line (Some (id_and_place slot)) old.place refl;
            some_id = omega (arith, length-append slot.ids (id ∷ []));
            also = further_more slot.ids id old.some_id ∙ ap (λ ids. ids ++ id ∷ []) old.also ∙ one_more (also_for number) lines also_line id (ap (λ b. cond b (Some id) None) (eqb_same number));
            stub = kept (stub_for number) lines also_line slot.stub old.stub refl;
            timer = kept (timer_for number) lines also_line slot.to old.timer refl;
            start = kept (start_for number) lines also_line slot.start old.start refl;
            draws = old.draws ∙ same_values (draw_for number) lines also_line refl;
          }

          tried : (slot : Slot) → slot_at d number ≡ Some slot → HoldsSlot lines number (Some slot) → (a b : Bool) → has_id slot.ids id ≡ a → leb most_ids (length slot.ids) ≡ b
              → IsStep lines also_line (cond a (Err Twice) (cond b (Err TooMany) (Ok (with_slot d number (record slot { ids = slot.ids ++ id ∷ [] })))))
          tried slot here old a b again full = answer a b (held_ids (Some slot) old ∙ has_whole slot.ids id old.some_id ∙ again) (ap (λ ids. leb most_further_ids (length ids)) (sym old.also) ∙ full_is slot.ids old.some_id ∙ full)
            where
              answer : (a b : Bool) → list_any (gives_id number id) lines ≡ a → leb most_further_ids (length (filter_map (also_for number) lines)) ≡ b
                  → IsStep lines also_line (cond a (Err Twice) (cond b (Err TooMany) (Ok (with_slot d number (record slot { ids = slot.ids ++ id ∷ [] })))))
              answer true b twice many = refused_for ∙ also_reason_at no_end twice refl refl
              answer false true twice many = refused_for ∙ also_reason_at no_end twice (known number slot here) many
              answer false false twice many = (
                refused_for ∙ also_reason_at no_end twice (known number slot here) many,
                put_holds also_line number (record slot { ids = slot.ids ++ id ∷ [] }) few (added slot old)
                    (λ k other. record { place = refl; also = ap (λ b. cond b (Some id) None) other; stub = refl; timer = refl; start = refl; draws = refl })
                    (record { settings = λ w. refl; seed = refl; untimed = record { act = λ k. refl; offer = refl; tick = refl }; end = refl })
                    (still_some number slot also_line here refl),
              )

          go : (o : Option Slot) → slot_at d number ≡ o → HoldsSlot lines number (slot_at d number) → IsStep lines also_line (also_in_slot d number id o)
          go None here held = refused_for ∙ also_reason_at no_end (held_ids None (subst (HoldsSlot lines number) here held)) (unknown number here) refl
          go (Some slot) here held = tried slot here (subst (HoldsSlot lines number) here held) (has_id slot.ids id) (leb most_ids (length slot.ids)) refl refl

    stub_step : (number stub : ℕ) → number ≤ last_node → IsStep lines (Ok (Stub number stub)) (stub_after d number stub)
    stub_step number stub few =
        once_step (Ok (Stub number stub)) number (stub_for number) (λ s. s.stub) (λ s. record s { stub = Some stub }) refl (h.slots number).stub
        (λ slot here free. put_holds (Ok (Stub number stub)) number (record slot { stub = Some stub }) few (held slot here free)
        (λ k other. record { place = refl; also = refl; stub = ap (λ b. cond b (Some stub) None) other; timer = refl; start = refl; draws = refl })
        (record { settings = λ w. refl; seed = refl; untimed = record { act = λ k. refl; offer = refl; tick = refl }; end = refl })
        (still_some number slot (Ok (Stub number stub)) here refl))
      where
        held : (slot : Slot) → slot_at d number ≡ Some slot → slot.stub ≡ None → HoldsSlot (lines ++ (Ok (Stub number stub)) ∷ []) number (Some (record slot { stub = Some stub }))
        held slot here free = (let old : HoldsSlot lines number (Some slot) = subst (HoldsSlot lines number) here (h.slots number) in record {
          place = kept (node_for number) lines (Ok (Stub number stub)) (Some (id_and_place slot)) old.place refl;
          some_id = old.some_id;
          also = old.also ∙ same_values (also_for number) lines (Ok (Stub number stub)) refl;
          stub = gained (stub_for number) lines (Ok (Stub number stub)) slot.stub stub old.stub free (ap (λ b. cond b (Some stub) None) (eqb_same number));
          timer = kept (timer_for number) lines (Ok (Stub number stub)) slot.to old.timer refl;
          start = kept (start_for number) lines (Ok (Stub number stub)) slot.start old.start refl;
          draws = old.draws ∙ same_values (draw_for number) lines (Ok (Stub number stub)) refl;
        })

    late_step : (number start : ℕ) → number ≤ last_node → IsStep lines (Ok (Late number start)) (late_after d number start)
    late_step number start few =
        once_step (Ok (Late number start)) number (start_for number) (λ s. s.start) (λ s. record s { start = Some start }) refl (h.slots number).start
        (λ slot here free. put_holds (Ok (Late number start)) number (record slot { start = Some start }) few (held slot here free)
        (λ k other. record { place = refl; also = refl; stub = refl; timer = refl; start = ap (λ b. cond b (Some start) None) other; draws = refl })
        (record { settings = λ w. refl; seed = refl; untimed = record { act = λ k. refl; offer = refl; tick = refl }; end = refl })
        (still_some number slot (Ok (Late number start)) here refl))
      where
        held : (slot : Slot) → slot_at d number ≡ Some slot → slot.start ≡ None → HoldsSlot (lines ++ (Ok (Late number start)) ∷ []) number (Some (record slot { start = Some start }))
        held slot here free = (let old : HoldsSlot lines number (Some slot) = subst (HoldsSlot lines number) here (h.slots number) in record {
          place = kept (node_for number) lines (Ok (Late number start)) (Some (id_and_place slot)) old.place refl;
          some_id = old.some_id;
          also = old.also ∙ same_values (also_for number) lines (Ok (Late number start)) refl;
          stub = kept (stub_for number) lines (Ok (Late number start)) slot.stub old.stub refl;
          timer = kept (timer_for number) lines (Ok (Late number start)) slot.to old.timer refl;
          start = gained (start_for number) lines (Ok (Late number start)) slot.start start old.start free (ap (λ b. cond b (Some start) None) (eqb_same number));
          draws = old.draws ∙ same_values (draw_for number) lines (Ok (Late number start)) refl;
        })

    timer_step : (number to : ℕ) → number ≤ last_node → IsStep lines (Ok (ToNode number to)) (timer_after d number to)
    timer_step number to few =
        once_step (Ok (ToNode number to)) number (timer_for number) (λ s. s.to) (λ s. record s { to = Some to }) refl (h.slots number).timer
        (λ slot here free. put_holds (Ok (ToNode number to)) number (record slot { to = Some to }) few (held slot here free)
        (λ k other. record { place = refl; also = refl; stub = refl; timer = ap (λ b. cond b (Some to) None) other; start = refl; draws = refl })
        (record { settings = λ w. refl; seed = refl; untimed = record { act = λ k. refl; offer = refl; tick = refl }; end = refl })
        (still_some number slot (Ok (ToNode number to)) here refl))
      where
        held : (slot : Slot) → slot_at d number ≡ Some slot → slot.to ≡ None → HoldsSlot (lines ++ (Ok (ToNode number to)) ∷ []) number (Some (record slot { to = Some to }))
        held slot here free = (let old : HoldsSlot lines number (Some slot) = subst (HoldsSlot lines number) here (h.slots number) in record {
          place = kept (node_for number) lines (Ok (ToNode number to)) (Some (id_and_place slot)) old.place refl;
          some_id = old.some_id;
          also = old.also ∙ same_values (also_for number) lines (Ok (ToNode number to)) refl;
          stub = kept (stub_for number) lines (Ok (ToNode number to)) slot.stub old.stub refl;
          timer = gained (timer_for number) lines (Ok (ToNode number to)) slot.to to old.timer free (ap (λ b. cond b (Some to) None) (eqb_same number));
          start = kept (start_for number) lines (Ok (ToNode number to)) slot.start old.start refl;
          draws = old.draws ∙ same_values (draw_for number) lines (Ok (ToNode number to)) refl;
        })

    draw_step : (number draw : ℕ) → number ≤ last_node → IsStep lines (Ok (Draw number draw)) (draw_in_slot d number draw (slot_at d number))
    draw_step number draw few = go (slot_at d number) refl
      where
        draw_held : (slot : Slot) → slot_at d number ≡ Some slot → HoldsSlot (lines ++ Ok (Draw number draw) ∷ []) number (Some (record slot { draws = slot.draws ++ draw ∷ [] }))
        draw_held slot here = (let held : HoldsSlot lines number (Some slot) = subst (HoldsSlot lines number) here (h.slots number) in record {
          place = kept (node_for number) lines (Ok (Draw number draw)) (Some (id_and_place slot)) held.place refl;
          some_id = held.some_id;
          also = held.also ∙ same_values (also_for number) lines (Ok (Draw number draw)) refl;
          stub = kept (stub_for number) lines (Ok (Draw number draw)) slot.stub held.stub refl;
          timer = kept (timer_for number) lines (Ok (Draw number draw)) slot.to held.timer refl;
          start = kept (start_for number) lines (Ok (Draw number draw)) slot.start held.start refl;
          draws = ap (λ ds. ds ++ draw ∷ []) held.draws ∙ one_more (draw_for number) lines (Ok (Draw number draw)) draw (ap (λ b. cond b (Some draw) None) (eqb_same number));
        })

        counted : (slot : Slot) → slot_at d number ≡ Some slot → (b : Bool) → leb most_draws (length (filter_map (draw_for number) lines)) ≡ b
            → IsStep lines (Ok (Draw number draw)) (cond b (Err TooMany) (Ok (with_slot d number (record slot { draws = slot.draws ++ draw ∷ [] }))))
        counted slot here true many = rw (no_end, known number slot here, many) refl
        counted slot here false many = (
          rw (no_end, known number slot here, many) refl,
          put_holds (Ok (Draw number draw)) number (record slot { draws = slot.draws ++ draw ∷ [] }) few (draw_held slot here)
              (λ k other. record { place = refl; also = refl; stub = refl; timer = refl; start = refl; draws = ap (λ b. cond b (Some draw) None) other })
              (record { settings = λ w. refl; seed = refl; untimed = record { act = λ k. refl; offer = refl; tick = refl }; end = refl })
              (still_some number slot (Ok (Draw number draw)) here refl),
        )

        go : (o : Option Slot) → slot_at d number ≡ o → IsStep lines (Ok (Draw number draw)) (draw_in_slot d number draw o)
        go None here = rw (no_end, unknown number here) refl
        go (Some slot) here = counted slot here (leb most_draws (length slot.draws)) (ap (λ ds. leb most_draws (length ds)) (sym (h.slots number).draws ∙ ap draws_in here))

    -- why a timed line is refused that names a node that stood, or none
    abbrev timed_reason : Bool → Bool → Bool → Option ScriptReason
    timed_reason ended early many = cond ended (Some AfterEnd) (cond early (Some Order) (cond many (Some TooMany) None))

    -- a timed line, and what it does
    module _ (line : ParsedLine) (tick : ℕ) (deed : Deed) (timed : HasAct line (offers_in d.acts) (act_at tick deed)) (settings : (w : Setting) → number_for w line ≡ None) (seed : seed_from line ≡ None)
        (slots : (k : ℕ) → SparesSlot k line) (node : is_node line ≡ false) (end : end_from line ≡ None) where
      timed_holds : d.latest ≤ tick → Holds (lines ++ line ∷ []) (with_act d (act_at tick deed))
      timed_holds order = record {
        settings = same_settings line settings;
        seed = same_seed line seed;
        slots = λ k. same_slot line k (slots k);
        acts = more_acts lines line d.acts d.latest (act_at tick deed) h.acts order timed;
        size = h.size;
        some_node = same_nodes line node;
        end = same_end line end;
      }

      timed_step : reason_of lines line ≡ timed_reason (some_gives end_from lines) (ltb tick (latest_tick lines)) (leb most_acts (length (filter_map tick_from lines)))
          → IsStep lines line (timed_after d tick deed)
      timed_step reason = ordered (ltb tick d.latest) (ap (ltb tick) (sym h.acts.latest))
        where
          counted : ltb tick (latest_tick lines) ≡ false → (b : Bool) → leb most_acts (length (filter_map tick_from lines)) ≡ b
              → IsStep lines line (cond b (Err TooMany) (Ok (with_act d (act_at tick deed))))
          counted order true many = rw (reason, no_end, order, many) refl
          counted order false many =
              let low : d.latest ≤ tick = (let above = order in let same = h.acts.latest in grind (arith, nat_tests)) in
              (rw (reason, no_end, order, many) refl, timed_holds low)

          ordered : (b : Bool) → ltb tick (latest_tick lines) ≡ b → IsStep lines line (cond b (Err Order) (cond (leb most_acts (length d.acts)) (Err TooMany) (Ok (with_act d (act_at tick deed)))))
          ordered true below = rw (reason, no_end, below) refl
          ordered false above = counted above (leb most_acts (length d.acts)) (ap (leb most_acts) (sym h.acts.counted))

    offer_step : (tick number : ℕ) (frame : List ℕ) → IsStep lines (Ok (Offer tick number frame)) (offer_after d tick number frame)
    offer_step tick number frame = go (slot_at d number) refl
      where
        go : (o : Option Slot) → slot_at d number ≡ o → IsStep lines (Ok (Offer tick number frame)) (cond (is_some o) (timed_after d tick (OfferDeed (1 + offers_in d.acts) number frame)) (Err UnknownNode))
        go None here = rw (no_end, unknown number here) refl
        go (Some slot) here =
            timed_step (Ok (Offer tick number frame)) tick (OfferDeed (1 + offers_in d.acts) number frame) (record { gives = refl; tick = refl; offers = refl }) (λ w. refl) refl
            (λ k. record { place = refl; also = refl; stub = refl; timer = refl; start = refl; draws = refl }) refl refl
            (ap (λ b. cond (some_gives end_from lines) (Some AfterEnd) (cond (not b) (Some UnknownNode) (cond (ltb tick (latest_tick lines)) (Some Order) (cond (leb most_acts (length (filter_map tick_from lines))) (Some TooMany) None)))) (known number slot here))

    noise_step : (tick until : ℕ) → IsStep lines (Ok (Noise tick until)) (timed_after d tick (NoiseDeed until))
    noise_step tick until =
        timed_step (Ok (Noise tick until)) tick (NoiseDeed until) (record { gives = refl; tick = refl; offers = refl }) (λ w. refl) refl
        (λ k. record { place = refl; also = refl; stub = refl; timer = refl; start = refl; draws = refl }) refl refl refl

    line_step : (line : ScriptLine) → InRange line → IsStep lines (Ok line) (line_after d line)
    line_step Skipped range = (refl, skipped_step)
    line_step (Set w n) range = set_step w n
    line_step (Seed n) range = seed_step n
    line_step (Node number id place) range = node_step number id place range.0
    line_step (Also number id) range = also_step number id range.0
    line_step (Stub number stub) range = stub_step number stub range.0
    line_step (Late number start) range = late_step number start range.0
    line_step (ToNode number to) range = timer_step number to range.0
    line_step (Draw number draw) range = draw_step number draw range.0
    line_step (Offer tick number frame) range = offer_step tick number frame
    line_step (Noise tick until) range = noise_step tick until
    line_step (End last) range = end_step last

    -- any line where no `end` line stands before it
    open_step : (line : ParsedLine) → ((l : ScriptLine) → line ≡ Ok l → InRange l) → IsStep lines line (unskipped_after d None line)
    open_step (Err reason) range = rw no_end refl
    open_step (Ok line) range = line_step line (range line refl)

  -- an `end` line stands among the lines
  ended : (last : ℕ) → d.end ≡ Some last → some_gives end_from lines ≡ true
  ended last here = gives end_from lines d.end h.end ∙ ap is_some here

  -- any line
  pub unskipped_step : (line : ParsedLine) → ((l : ScriptLine) → line ≡ Ok l → InRange l) → IsStep lines line (draft_after d line)
  unskipped_step (Ok Skipped) range = (refl, skipped_step)
  unskipped_step line range = go d.end refl
    where
      go : (o : Option ℕ) → d.end ≡ o → IsStep lines line (unskipped_after d o line)
      go (Some last) here = rw (ended last here) refl
      go None here = open_step here line range
