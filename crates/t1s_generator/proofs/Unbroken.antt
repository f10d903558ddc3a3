-- Lines of which none breaks a rule in the light of those before it.
use Rattle.std.proofs.Common.{◌≡◌, ℕ, zero, suc, ◌+◌, ◌<◌, ◌≤◌, true, false, leb, ltb, Bool, List, [], ◌∷◌, ◌++◌, length, map, take, Option, None, Ok, refl, sym, ap, ◌∙◌, subst, arith, length-append, append_assoc}
use Rattle.std.specs.Prelude.{◌||◌, is_some, filter_map, option_map}
use Rattle.std.specs.List.{list_any, enumerate_from, range_with_len, cons_option}
use Rattle.std.proofs.Math.Seq.{take-append_seam}
use Rattle.std.proofs.lemmas.Bool.Decides.{nat_tests}
use Rattle.std.proofs.lemmas.List.Elements.{filter_map-append}
use Rattle.std.proofs.lemmas.List.Folds.{list_any-append}
use Rattle.t1s_script.specs.ParsedLine.{ParsedLine}
use Rattle.t1s_script.specs.Limits.{most_acts}
use Rattle.t1s_script.specs.Values.{node_for, tick_from, greatest, latest_tick, end_from, is_node, some_gives}
use Rattle.t1s_script.specs.Rules.{reason_of}
use Rattle.t1s_script.specs.Reading.{refusal_of, refusals_of}
use Rattle.t1s_script.specs.declared.words.Setting.TheVariants.{Count}
use Rattle.t1s_script.specs.declared.words.ScriptLine.TheVariants.{Set, Seed, End}
use Rattle.t1s_generator.proofs.Plans.{Plan, IsPlan, said_node, said_offer, said_after, said}

-- none of these lines breaks a rule, where those stand before
abbrev pub AreUnbroken : List ParsedLine → List ParsedLine → Type 0
AreUnbroken before [] = Unit {0}
AreUnbroken before (line ∷ rest) = (reason_of before line ≡ None) × AreUnbroken (before ++ line ∷ []) rest

-- then no line is refused
unrefused : (all before rest : List ParsedLine) (n : ℕ) → all ≡ before ++ rest → n ≡ length before → AreUnbroken before rest → filter_map (refusal_of all) (enumerate_from n rest) ≡ []
unrefused all before [] n whole count h = refl
unrefused all before (line ∷ rest) n whole count h =
    let front : take n all ≡ before = ap (λ k. take k all) count ∙ ap (take (length before)) whole ∙ take-append_seam before (line ∷ rest) in
    let kept : reason_of (take n all) line ≡ None = ap (λ lines. reason_of lines line) front ∙ h.0 in
    ap (λ o. cons_option (option_map (λ reason. record { line = n + 2; reason = reason }) o) (filter_map (refusal_of all) (enumerate_from (n + 1) rest))) kept
    ∙ unrefused all (before ++ line ∷ []) rest (n + 1) (whole ∙ sym (append_assoc before (line ∷ []) rest)) (omega (arith, length-append before (line ∷ []))) h.1

-- ---- what stands before a line

-- a test over one line more
one_more : {X : Type 0} (value : ParsedLine → Option X) (before : List ParsedLine) (line : ParsedLine) (b c : Bool) → some_gives value before ≡ b → is_some (value line) ≡ c → some_gives value (before ++ line ∷ []) ≡ (b || (c || false))
one_more value before line b c e f =
    list_any-append (λ l. is_some (value l)) before (line ∷ []) ∙ ap (λ x. x || (is_some (value line) || false)) e ∙ ap (λ x. b || (x || false)) f

-- the first k nodes
record HasNodes (k : ℕ) (before : List ParsedLine) : Type 0 where
  no_end : some_gives end_from before ≡ false
  known : (j : ℕ) → j < k → some_gives (node_for j) before ≡ true
  free : (j : ℕ) → k ≤ j → some_gives (node_for j) before ≡ false
  no_tick : filter_map tick_from before ≡ []
  some : 1 ≤ k → list_any is_node before ≡ true

-- all nodes, and the first k frames
record HasFrames (p : Plan) (k : ℕ) (before : List ParsedLine) : Type 0 where
  no_end : some_gives end_from before ≡ false
  known : (j : ℕ) → j < p.nodes → some_gives (node_for j) before ≡ true
  latest : latest_tick before ≤ p.tick k
  count : length (filter_map tick_from before) ≡ k
  some : list_any is_node before ≡ true

greatest_push : (ns : List ℕ) (n most : ℕ) → greatest ns ≤ most → n ≤ most → greatest (ns ++ n ∷ []) ≤ most
greatest_push [] n most low here = omega arith
greatest_push (m ∷ ns) n most low here = omega (arith, greatest_push ns n most (omega arith) here)

or_false : (b : Bool) → (b || false) ≡ b
or_false true = refl
or_false false = refl

module _ (p : Plan) (h : IsPlan p) where
  same_number : (k j : ℕ) → j ≡ k → is_some (node_for j (said_node p k)) ≡ true
  same_number k j e = grind (arith, nat_tests)

  other_number : (k j : ℕ) → k < j → is_some (node_for j (said_node p k)) ≡ false
  other_number k j e = grind (arith, nat_tests)

  after_node : (k : ℕ) (before : List ParsedLine) → HasNodes k before → HasNodes (k + 1) (before ++ said_node p k ∷ [])
  after_node k before b = record {
    no_end = one_more end_from before (said_node p k) false false b.no_end refl;
    known = known;
    free = λ j above. one_more (node_for j) before (said_node p k) false false (b.free j (omega arith)) (other_number k j (omega arith));
    no_tick = filter_map-append tick_from before (said_node p k ∷ []) ∙ ap (λ ns. ns ++ []) b.no_tick;
    some = λ one. list_any-append is_node before (said_node p k ∷ []) ∙ or_true (list_any is_node before);
  }
    where
      or_true : (x : Bool) → (x || true) ≡ true
      or_true true = refl
      or_true false = refl

      known : (j : ℕ) → j < k + 1 → some_gives (node_for j) (before ++ said_node p k ∷ []) ≡ true
      known j below = go (leb k j) refl
        where
          go : (t : Bool) → leb k j ≡ t → some_gives (node_for j) (before ++ said_node p k ∷ []) ≡ true
          go true test =
              let here : j ≡ k = grind (arith, nat_tests) in
              one_more (node_for j) before (said_node p k) false true (b.free j (omega arith)) (same_number k j here)
          go false test =
              let low : j < k = grind (arith, nat_tests) in
              list_any-append (λ l. is_some (node_for j l)) before (said_node p k ∷ []) ∙ ap (λ x. x || (is_some (node_for j (said_node p k)) || false)) (b.known j low)

  after_offer : (k : ℕ) (before : List ParsedLine) → HasFrames p k before → HasFrames p (k + 1) (before ++ said_offer p k ∷ [])
  after_offer k before b =
      let ticks = filter_map-append tick_from before (said_offer p k ∷ []) in
      record {
        no_end = one_more end_from before (said_offer p k) false false b.no_end refl;
        known = λ j below. one_more (node_for j) before (said_offer p k) true false (b.known j below) refl;
        latest = latest ticks;
        count = ap length ticks ∙ length-append (filter_map tick_from before) (p.tick (k + 1) ∷ []) ∙ ap (λ n. n + 1) b.count;
        some = list_any-append is_node before (said_offer p k ∷ []) ∙ ap (λ x. x || false) b.some;
      }
    where
      latest : filter_map tick_from (before ++ said_offer p k ∷ []) ≡ filter_map tick_from before ++ p.tick (k + 1) ∷ [] → latest_tick (before ++ said_offer p k ∷ []) ≤ p.tick (k + 1)
      latest ticks =
          let low : latest_tick before ≤ p.tick (k + 1) = omega (arith, b.latest, h.in_order k) in
          subst (λ ns. greatest ns ≤ p.tick (k + 1)) (sym ticks) (greatest_push (filter_map tick_from before) (p.tick (k + 1)) (p.tick (k + 1)) low (omega arith))

  -- ---- no rule is broken

  node_kept : (k : ℕ) (before : List ParsedLine) → HasNodes k before → reason_of before (said_node p k) ≡ None
  node_kept k before b =
      let no_end = b.no_end in
      let free = b.free k (omega arith) in
      rw (no_end, free) refl

  offer_kept : (k : ℕ) (before : List ParsedLine) → k < 4096 → HasFrames p k before → reason_of before (said_offer p k) ≡ None
  offer_kept k before few b =
      let no_end = b.no_end in
      let known = b.known (p.number k) (h.number_high k) in
      let low : latest_tick before ≤ p.tick (k + 1) = omega (arith, b.latest, h.in_order k) in
      let order : ltb (p.tick (k + 1)) (latest_tick before) ≡ false = grind (arith, nat_tests) in
      let room : leb most_acts (length (filter_map tick_from before)) ≡ false = (let count = b.count in grind (arith, nat_tests)) in
      rw (no_end, known, order, room) refl

  end_kept : (before : List ParsedLine) → HasFrames p p.frames before → reason_of before (Ok (End p.last)) ≡ None
  end_kept before b =
      let no_end = b.no_end in
      let low : latest_tick before < p.last = omega (arith, b.latest, h.before_end) in
      let order : leb p.last (latest_tick before) ≡ false = grind (arith, nat_tests) in
      let some = b.some in
      rw (no_end, order, some) refl

  -- ---- all lines

  offers_unbroken : (k n : ℕ) (before : List ParsedLine) → k + n ≡ p.frames → HasFrames p k before → AreUnbroken before (map (said_offer p) (range_with_len k n) ++ Ok (End p.last) ∷ [])
  offers_unbroken k zero before all b =
      let same : k ≡ p.frames = omega arith in
      (end_kept before (subst (λ m. HasFrames p m before) same b), tt)
  offers_unbroken k (suc n) before all b =
      (offer_kept k before (omega (arith, h.frames_high)) b, offers_unbroken (k + 1) n (before ++ said_offer p k ∷ []) (omega arith) (after_offer k before b))

  nodes_unbroken : (k n : ℕ) (before : List ParsedLine) → k + n ≡ p.nodes → HasNodes k before → AreUnbroken before (map (said_node p) (range_with_len k n) ++ said_after p)
  nodes_unbroken k zero before all b = offers_unbroken 0 p.frames before (omega arith) (record {
    no_end = b.no_end;
    known = λ j below. b.known j (omega arith);
    latest = subst (λ ns. greatest ns ≤ p.tick 0) (sym b.no_tick) (omega arith);
    count = ap length b.no_tick;
    some = b.some (omega (arith, h.nodes_low));
  })
  nodes_unbroken k (suc n) before all b =
      (node_kept k before b, nodes_unbroken (k + 1) n (before ++ said_node p k ∷ []) (omega arith) (after_node k before b))

  pub none_refused : refusals_of (said p) ≡ []
  none_refused = unrefused (said p) [] (said p) 0 refl refl (
    refl,
    (
      refl,
      nodes_unbroken 0 p.nodes (Ok (Set Count p.nodes) ∷ Ok (Seed p.seed) ∷ []) (omega arith) (record {
        no_end = refl;
        known = λ j below. absurd (omega arith);
        free = λ j above. refl;
        no_tick = refl;
        some = λ one. absurd (omega arith);
      }),
    ),
  )
