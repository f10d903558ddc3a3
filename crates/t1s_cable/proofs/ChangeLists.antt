-- What changes tell, and how a ring of them is carried on: by what goes on, and by what begins.
use Rattle.std.proofs.Common.{◌≡◌, ◌∙◌, ℕ, zero, suc, ◌+◌, ◌-◌, ◌%◌, ◌<◌, ◌≤◌, ◌⊎◌, inl, inr, lt-ltb, le-ltb, le_refl, append_assoc, List, [], ◌∷◌, ◌++◌, length, length-append, length-drop, length-take, get_or, set, slice_get, take, drop, map, Option, None, Some, refl, sym, ap, arith}
use Rattle.std.specs.Prelude.{IfSome}
use Rattle.std.proofs.lemmas.Bool.{cases_eq, cases_lt}
use Rattle.std.proofs.lemmas.List.{drop_more, get_or-set_other, length-map}
use Rattle.std.proofs.lemmas.Grind.{get_or-set_at}
use Rattle.circular_buffer.specs.Buffer.{Buffer, buffer, keep_last}
use Rattle.t1s_symbols.specs.declared.Quarter.{Quarter}
use Rattle.t1s_symbols.specs.Ranges.{IsQuarter}
use Rattle.t1s_cable.specs.declared.changes.Change.{Change}
use Rattle.t1s_cable.specs.Changes.{advanced, drove, AreChanges, IsRing, KeepsTick, lap, renumbered, ring_at, SameRing}

-- ---- what goes on

advanced_zero : (q : Option Quarter) → IfSome q IsQuarter → advanced q 0 ≡ q
advanced_zero None fine = refl
advanced_zero (Some q) fine =
    let same : (q.part + 0) % 4 ≡ q.part = omega (arith, fine.part) in
    rw same refl

-- after ticks that four divides the difference of, the same part comes
advanced_same : (q : Option Quarter) (j k : ℕ) → j % 4 ≡ k % 4 → advanced q j ≡ advanced q k
advanced_same None j k e = refl
advanced_same (Some q) j k e =
    let same : (q.part + j) % 4 ≡ (q.part + k) % 4 = omega (arith, e) in
    rw same refl

advanced_in_range : (q : Option Quarter) (k : ℕ) → IfSome q IsQuarter → IfSome (advanced q k) IsQuarter
advanced_in_range None k fine = tt
advanced_in_range (Some q) k fine = record { sym = fine.sym; part = omega arith }

-- ---- lists of changes

module _ (c : Change) (older : List Change) (t : ℕ) where
  pub drove_since : c.tick ≤ t → drove (c ∷ older) t ≡ advanced c.begins (t - c.tick)
  drove_since began = rw (le-ltb t c.tick began) refl

  pub drove_before : t < c.tick → drove (c ∷ older) t ≡ drove older t
  drove_before soon = rw (lt-ltb t c.tick soon) refl

pub drove_in_range : (cs : List Change) (n t : ℕ) → AreChanges n cs → IfSome (drove cs t) IsQuarter
drove_in_range [] n t all = tt
drove_in_range (c ∷ cs) n t all = by (cases_lt t c.tick) (drove_in_range cs (n - 1) t all.2)
  where
    by : (t < c.tick) ⊎ (c.tick ≤ t) → IfSome (drove cs t) IsQuarter → IfSome (drove (c ∷ cs) t) IsQuarter
    by (inl soon) rest = let e = drove_before c cs t soon in rw e rest
    by (inr began) rest = let e = drove_since c cs t began in rw e (advanced_in_range c.begins (t - c.tick) all.1)

changes_later : (cs : List Change) (m n : ℕ) → m ≤ n → AreChanges m cs → AreChanges n cs
changes_later [] m n le all = tt
changes_later (c ∷ cs) m n le all =
    (omega (arith, all.0, le), all.1, changes_later cs (m - 1) (n - 1) (omega (arith, le)) all.2)

changes_take : (k : ℕ) (cs : List Change) (n : ℕ) → AreChanges n cs → AreChanges n (take k cs)
changes_take zero cs n all = tt
changes_take (suc k) [] n all = tt
changes_take (suc k) (c ∷ cs) n all = (all.0, all.1, changes_take k cs (n - 1) all.2)

-- the newest changes tell as many ticks as they are
drove_take : (k : ℕ) (cs : List Change) (n t : ℕ) → AreChanges n cs → 1 ≤ k → n ≤ t + k → drove (take k cs) t ≡ drove cs t
drove_take zero cs n t all some near = absurd (omega (arith, some))
drove_take (suc k) [] n t all some near = refl
drove_take (suc k) (c ∷ cs) n t all some near = elim (cases_lt t c.tick) [
  | inl soon ↦
      drove_before c (take k cs) t soon
      ∙ (drove_take k cs (n - 1) t all.2 (omega (arith, soon, all.0, near)) (omega (arith, near)) ∙ sym (drove_before c cs t soon))
  | inr began ↦ drove_since c (take k cs) t began ∙ sym (drove_since c cs t began)
]

-- ---- a ring keeps one more tick

module _ (n : ℕ) (q : Option Quarter) (b : Buffer Change) (is : IsRing n b) where
  -- what its node drove goes on
  pub keeps_on : drove b.items n ≡ q → KeepsTick n q b b
  keeps_on goes_on =
      record {
        ring = record {
          some = is.some;
          short = is.short;
          past = omega (arith, is.past);
          held = is.held;
          changes = changes_later b.items n (n + 1) (omega arith) is.changes;
        };
        room = refl;
        now = goes_on;
        before = λ t past near. refl;
      }

  -- something else begins
  pub keeps_change : IfSome q IsQuarter → KeepsTick n q b (buffer (take b.capacity (record { tick = n; begins = q } ∷ b.items)) b.capacity)
  keeps_change fine =
      let c : Change = record { tick = n; begins = q } in
      let all : AreChanges (n + 1) (c ∷ b.items) = (omega arith, fine, changes_later b.items n (n + 1 - 1) (omega arith) is.changes) in
      record {
        ring = record {
          some = is.some;
          short = is.short;
          past = omega (arith, is.past);
          held = omega (arith, length-take b.capacity (c ∷ b.items));
          changes = changes_take b.capacity (c ∷ b.items) (n + 1) all;
        };
        room = refl;
        now = drove_take b.capacity (c ∷ b.items) (n + 1) n all is.some (omega (arith, is.some))
            ∙ (drove_since c b.items n (le_refl n) ∙ (ap (advanced q) (let none : n - n ≡ 0 = omega arith in none) ∙ advanced_zero q fine));
        before = λ t past near.
            drove_take b.capacity (c ∷ b.items) (n + 1) t all is.some (omega (arith, near)) ∙ drove_before c b.items t past;
      }

-- ---- ticks are told a lap before

drove_renumbered : (cs : List Change) (t : ℕ) → 4 ≤ t → drove (map renumbered cs) t ≡ drove cs (t + lap)
drove_renumbered [] t late = refl
drove_renumbered (c ∷ cs) t late = elim (cases_lt c.tick lap) [
  | inl low ↦
      let told : (renumbered c).tick ≡ c.tick % 4 = rw (lt-ltb c.tick lap low) refl in
      drove_since (renumbered c) (map renumbered cs) t (omega (arith, told, late))
      ∙ (advanced_same c.begins (t - (renumbered c).tick) (t + lap - c.tick) (omega (arith, told, late, low))
      ∙ sym (drove_since c cs (t + lap) (omega (arith, low))))
  | inr high ↦
      let told : (renumbered c).tick ≡ c.tick - lap = rw (le-ltb c.tick lap high) refl in
      elim (cases_lt t (renumbered c).tick) [
        | inl soon ↦
            drove_before (renumbered c) (map renumbered cs) t soon
            ∙ (drove_renumbered cs t late ∙ sym (drove_before c cs (t + lap) (omega (arith, told, soon))))
        | inr began ↦
            drove_since (renumbered c) (map renumbered cs) t began
            ∙ (ap (advanced c.begins) (let same : t - (renumbered c).tick ≡ t + lap - c.tick = omega (arith, told, high) in same)
            ∙ sym (drove_since c cs (t + lap) (omega (arith, told, began, high))))
      ]
]

renumbered_low : (c : Change) (n : ℕ) → c.tick < n → 4 ≤ n - lap → (renumbered c).tick < n - lap
renumbered_low c n past late = elim (cases_lt c.tick lap) [
  | inl low ↦ let told : (renumbered c).tick ≡ c.tick % 4 = rw (lt-ltb c.tick lap low) refl in omega (arith, told, late)
  | inr high ↦ let told : (renumbered c).tick ≡ c.tick - lap = rw (le-ltb c.tick lap high) refl in omega (arith, told, past, high)
]

changes_renumbered : (cs : List Change) (n : ℕ) → AreChanges n cs → length cs + 4 ≤ n - lap → AreChanges (n - lap) (map renumbered cs)
changes_renumbered [] n all late = tt
changes_renumbered (c ∷ cs) n all late = (
  renumbered_low c n all.0 (omega (arith, late)),
  all.1,
  changes_later (map renumbered cs) (n - 1 - lap) (n - lap - 1) (omega arith) (changes_renumbered cs (n - 1) all.2 (omega (arith, late))),
)

-- a ring in the last tick of two laps is one in the last tick of the first
pub renumbered_ring : (b : Buffer Change) → IsRing (lap + lap) b → SameRing (lap + lap) lap b (buffer (map renumbered b.items) b.capacity)
renumbered_ring b is =
    record {
      ring = record {
        some = is.some;
        short = is.short;
        past = omega (arith, is.short);
        held = omega (arith, is.held, length-map b.items renumbered);
        changes = changes_renumbered b.items (lap + lap) is.changes (omega (arith, is.held, is.short));
      };
      room = refl;
      same = λ d some near.
          drove_renumbered b.items (lap - d) (omega (arith, near, is.short))
          ∙ ap (drove b.items) (let same : lap - d + lap ≡ lap + lap - d = omega (arith, near, is.short) in same);
    }

-- and any ring is itself
pub same_ring : (n : ℕ) (b : Buffer Change) → IsRing n b → SameRing n n b b
same_ring n b is = record { ring = is; room = refl; same = λ d some near. refl }

-- ---- loops over rings

-- one more change has come to the back
mapped_more : (cs : List Change) (k : ℕ) (x : Change) → k < length cs → map renumbered (take (k + 1) cs) ≡ map renumbered (take k cs) ++ renumbered (get_or cs k x) ∷ []
mapped_more [] k x lt = absurd (omega (arith, lt))
mapped_more (c ∷ cs) zero x lt = refl
mapped_more (c ∷ cs) (suc k) x lt =
    let next : suc k + 1 ≡ suc (k + 1) = omega arith in
    let first : Change = renumbered c in
    rw next (ap (λ (r : List Change). first ∷ r) (mapped_more cs k x (omega (arith, lt))))

told_join : (cs : List Change) (k : ℕ) (x : Change) → k < length cs
    → (drop (k + 1) cs ++ map renumbered (take k cs)) ++ renumbered (get_or cs k x) ∷ [] ≡ drop (k + 1) cs ++ map renumbered (take (k + 1) cs)
told_join cs k x lt =
    append_assoc (drop (k + 1) cs) (map renumbered (take k cs)) (renumbered (get_or cs k x) ∷ [])
    ∙ ap (λ (r : List Change). drop (k + 1) cs ++ r) (sym (mapped_more cs k x lt))

module _ (cs : List Change) (k : ℕ) (left : k < length cs) (ring : Buffer Change) (sized : length cs ≤ ring.capacity) (items : ring.items ≡ drop k cs ++ map renumbered (take k cs)) where
  -- the first of the changes that are left
  pub first_left : (x : Change) → ring.items ≡ get_or cs k x ∷ (drop (k + 1) cs ++ map renumbered (take k cs))
  first_left x = rw (items, drop_more cs k x left) refl

  length_told : (x : Change) → length ring.items ≡ length cs
  length_told x =
      rw items
      (omega (arith, left, length-append (drop k cs) (map renumbered (take k cs)), length-drop k cs, length-map (take k cs) renumbered, length-take k cs))

  pub told_more : (popped pushed : Buffer Change) (x : Change) → slice_get ring.items 0 ≡ Some x → popped ≡ buffer (drop 1 ring.items) ring.capacity
      → pushed ≡ buffer (keep_last popped.capacity (popped.items ++ renumbered x ∷ [])) popped.capacity
      → pushed ≡ buffer (drop (k + 1) cs ++ map renumbered (take (k + 1) cs)) ring.capacity
  told_more popped pushed x first pop push =
      let rest : List Change = drop (k + 1) cs ++ map renumbered (take k cs) in
      let all : List Change = rest ++ renumbered x ∷ [] in
      let is : Some (get_or cs k x) ≡ Some x = rw (first_left x) at first in
      let same : x ≡ get_or cs k x = cc in
      let was : popped ≡ buffer rest ring.capacity = rw (first_left x) at pop in
      let sized_rest : suc (length rest) ≡ length cs = rw (first_left x) at (length_told x) in
      let fits : length all - ring.capacity ≡ 0 = omega (arith, sized, sized_rest, length-append rest (renumbered x ∷ [])) in
      let kept : keep_last ring.capacity all ≡ all = rw fits refl in
      let joined : all ≡ drop (k + 1) cs ++ map renumbered (take (k + 1) cs) =
      ap (λ (y : Change). rest ++ renumbered y ∷ []) same ∙ told_join cs k x left in
      push ∙ rw was (ap (λ (r : List Change). buffer r ring.capacity) (kept ∙ joined))

-- what is read at a place within a list needs no default
pub read_at : (rings : List (Buffer Change)) (i : ℕ) (a b : Buffer Change) → i < length rings → get_or rings i a ≡ get_or rings i b
read_at [] i a b lt = absurd (omega (arith, lt))
read_at (r ∷ rings) zero a b lt = refl
read_at (r ∷ rings) (suc i) a b lt = read_at rings i a b (omega (arith, lt))

-- one more ring is done, of a list of which the others are left as they were
module _ (P : ℕ → Buffer Change → Buffer Change → Type 0) (old now : List (Buffer Change)) (i : ℕ) (b : Buffer Change) (there : i < length now)
    (left : (k : ℕ) → i ≤ k → ring_at now k ≡ ring_at old k) where
  pub each_more : ((k : ℕ) → k < i → P k (ring_at old k) (ring_at now k)) → P i (ring_at now i) b → (k : ℕ) → k < i + 1 → P k (ring_at old k) (ring_at (set now i b) k)
  each_more done is k below = elim (cases_eq k i) [
    | inl same ↦ let here = get_or-set_at now i k b (buffer [] 0) same there in rw (here, same, ← left i (le_refl i)) is
    | inr other ↦
        let here : ring_at (set now i b) k ≡ ring_at now k = get_or-set_other now i k b (buffer [] 0) other in
        rw here (done k (omega (arith, below, other)))
  ]

  pub left_more : (k : ℕ) → i + 1 ≤ k → ring_at (set now i b) k ≡ ring_at old k
  left_more k after = get_or-set_other now i k b (buffer [] 0) (λ same. absurd (omega (arith, after, same))) ∙ left k (omega (arith, after))
