-- A script is fit exactly where no premise is unmet.
use Rattle.std.proofs.Common.{◌≡◌, ℕ, zero, suc, ◌+◌, ◌*◌, ◌<◌, ◌≤◌, ◌⊎◌, inl, inr, Bool, true, false, cond, leb, ltb, List, [], ◌∷◌, ◌++◌, length, get_or, take, drop, Option, Some, None, refl, sym, ◌∙◌, ap, subst, arith, All}
use Rattle.std.specs.Prelude.{◌==◌, ◌||◌, not, nat_le, find, is_some, slice_get, option_map, IsOk, Result}
use Rattle.std.proofs.lemmas.List.{drop_more, take_more}
use Rattle.std.proofs.lemmas.List.Elements.{All-cons, All-head, All-nil, All-tail}
use Rattle.std.proofs.Math.Bool.{or-true}
use Rattle.std.proofs.lemmas.Bool.Decides.{nat_tests}
use Rattle.std.proofs.lemmas.Option.{slice_get-get_or, slice_get_within, get_or_from_slice_get}
use Rattle.t1s_base.specs.NodeIds.{has_id}
use Rattle.t1s_script.specs.Fit.{coordinators, first_owner, fitness_of, high_among, high_or, IsFit, is_noise, else_node, noise_or, or_else, other_timer, owner_among, repeat_or, unfit, unmet, with_high_id, with_long_bursts, with_long_cable, with_noise, with_other_timer, with_repeat, with_repeat_after, without_one_coordinator}
use Rattle.t1s_script.specs.Taps.{span_of}
use Rattle.t1s_script.specs.declared.fitness.Unfit.{Unfit}
use Rattle.t1s_script.specs.declared.script.Act.{Act}
use Rattle.t1s_script.specs.declared.script.Deed.{Deed}
use Rattle.t1s_script.specs.declared.script.Deed.TheVariants.{Offer, Noise}
use Rattle.t1s_script.specs.declared.script.NodeLine.{NodeLine}
use Rattle.t1s_script.specs.declared.script.Script.{Script}

-- ---- finding nothing

cond_none : {X : Type 0} (b : Bool) (x : X) (r : Option X) → cond b (Some x) r ≡ None → (b ≡ false) × (r ≡ None)
cond_none true x r e = cc
cond_none false x r e = (refl, e)

find_none : {X : Type 0} (p : X → Bool) (xs : List X) → find p xs ≡ None → (i : ℕ) (x : X) → slice_get xs i ≡ Some x → p x ≡ false
find_none p [] e i x at = cc
find_none p (y ∷ ys) e zero x at = let same : y ≡ x = cc in subst (λ z. p z ≡ false) same (cond_none (p y) y (find p ys) e).0
find_none p (y ∷ ys) e (suc i) x at = find_none p ys (cond_none (p y) y (find p ys) e).1 i x at

none_find : {X : Type 0} (p : X → Bool) (xs : List X) → ((i : ℕ) (x : X) → slice_get xs i ≡ Some x → p x ≡ false) → find p xs ≡ None
none_find p [] h = refl
none_find p (y ∷ ys) h =
    let fails : p y ≡ false = h 0 y refl in
    ap (λ b. cond b (Some y) (find p ys)) fails ∙ none_find p ys (λ i x at. h (suc i) x at)

-- ---- elements of longer lists

get_left : {X : Type 0} (xs ys : List X) (i : ℕ) (x : X) → slice_get xs i ≡ Some x → slice_get (xs ++ ys) i ≡ Some x
get_left [] ys i x at = cc
get_left (y ∷ xs) ys zero x at = at
get_left (y ∷ xs) ys (suc i) x at = get_left xs ys i x at

get_last : {X : Type 0} (xs : List X) (x : X) → slice_get (xs ++ x ∷ []) (length xs) ≡ Some x
get_last [] x = refl
get_last (y ∷ xs) x = get_last xs x

get_push : {X : Type 0} (xs : List X) (y : X) (i : ℕ) (x : X) → slice_get (xs ++ y ∷ []) i ≡ Some x → (slice_get xs i ≡ Some x) ⊎ (y ≡ x)
get_push [] y zero x at = inr (let same : y ≡ x = cc in same)
get_push [] y (suc i) x at = cc
get_push (z ∷ xs) y zero x at = inl at
get_push (z ∷ xs) y (suc i) x at = get_push xs y i x at

-- ---- the owners of some IDs

else_both : (o later : Option NodeLine) → else_node o later ≡ None → (o ≡ None) × (later ≡ None)
else_both (Some n) later e = cc
else_both None later e = (refl, e)

owners_none : (before : List NodeLine) (ids : List ℕ) → first_owner before ids ≡ None → (id : ℕ) → has_id ids id ≡ true → owner_among before id ≡ None
owners_none before [] e id has = cc
owners_none before (a ∷ ids) e id has =
    let both = else_both (owner_among before a) (first_owner before ids) e in
    go (a == id) refl both.0 (owners_none before ids both.1 id) has
  where
    go : (b : Bool) → (a == id) ≡ b → owner_among before a ≡ None → (has_id ids id ≡ true → owner_among before id ≡ None) → (b || has_id ids id) ≡ true → owner_among before id ≡ None
    go true test here later has = let same : a ≡ id = grind (arith, nat_tests) in subst (λ k. owner_among before k ≡ None) same here
    go false test here later has = later has

none_owners : (before : List NodeLine) (ids : List ℕ) → ((id : ℕ) → has_id ids id ≡ true → owner_among before id ≡ None) → first_owner before ids ≡ None
none_owners before [] h = refl
none_owners before (a ∷ ids) h =
    ap (λ o. else_node o (first_owner before ids)) (h a (ap (λ b. b || has_id ids a) (same a)))
    ∙ none_owners before ids (λ id has. h id (ap (λ b. (a == id) || b) has ∙ or-true (a == id)))
  where
    same : (k : ℕ) → (k == k) ≡ true
    same k = grind (arith, nat_tests)

-- ---- no ID of two nodes

-- no ID of the one is one of the other
abbrev Apart : NodeLine → NodeLine → Type 0
Apart m n = (id : ℕ) → has_id m.ids id ≡ true → has_id n.ids id ≡ false

-- no node of the first list shares an ID with one of the second
abbrev AllApart : List NodeLine → List NodeLine → Type 0
AllApart before nodes = (i j : ℕ) (m n : NodeLine) → slice_get before i ≡ Some m → slice_get nodes j ≡ Some n → Apart m n

abbrev Distinct : List NodeLine → Type 0
Distinct nodes = (i j : ℕ) (m n : NodeLine) → slice_get nodes i ≡ Some m → slice_get nodes j ≡ Some n → i < j → Apart m n

apart_from_none : (before : List NodeLine) (n : NodeLine) → first_owner before n.ids ≡ None → (i : ℕ) (m : NodeLine) → slice_get before i ≡ Some m → Apart m n
apart_from_none before n none i m at id has = go (has_id n.ids id) refl
  where
    go : (b : Bool) → has_id n.ids id ≡ b → b ≡ false
    go false here = refl
    go true here = sym has ∙ find_none (λ (k : NodeLine). has_id k.ids id) before (owners_none before n.ids none id here) i m at

none_from_apart : (before : List NodeLine) (n : NodeLine) → ((i : ℕ) (m : NodeLine) → slice_get before i ≡ Some m → Apart m n) → first_owner before n.ids ≡ None
none_from_apart before n apart = none_owners before n.ids (λ id here. none_find (λ (k : NodeLine). has_id k.ids id) before (λ i m at. free id here m (apart i m at)))
  where
    free : (id : ℕ) → has_id n.ids id ≡ true → (m : NodeLine) → Apart m n → has_id m.ids id ≡ false
    free id here m apart = go (has_id m.ids id) refl
      where
        go : (b : Bool) → has_id m.ids id ≡ b → b ≡ false
        go false has = refl
        go true has = sym here ∙ apart id has

repeat_none : (n : NodeLine) (o : Option NodeLine) (later : Option Unfit) → repeat_or n o later ≡ None → (o ≡ None) × (later ≡ None)
repeat_none n (Some m) later e = cc
repeat_none n None later e = (refl, e)

distinct_from_none : (before nodes : List NodeLine) → with_repeat_after before nodes ≡ None → AllApart before nodes × Distinct nodes
distinct_from_none before [] e = (λ i j m n at there. cc, λ i j m n at there below. cc)
distinct_from_none before (x ∷ xs) e =
    let first = repeat_none x (first_owner before x.ids) (with_repeat_after (before ++ x ∷ []) xs) e in
    let rest = distinct_from_none (before ++ x ∷ []) xs first.1 in
    (apart first.0 rest.0, distinct rest.0 rest.1)
  where
    apart : first_owner before x.ids ≡ None → AllApart (before ++ x ∷ []) xs → AllApart before (x ∷ xs)
    apart none later i zero m n at there =
        let same : x ≡ n = cc in
        subst (Apart m) same (apart_from_none before x none i m at)
    apart none later i (suc j) m n at there = later i j m n (get_left before (x ∷ []) i m at) there

    distinct : AllApart (before ++ x ∷ []) xs → Distinct xs → Distinct (x ∷ xs)
    distinct later more i zero m n at there below = absurd (omega arith)
    distinct later more zero (suc j) m n at there below =
        let same : x ≡ m = cc in
        later (length before) j m n (get_last before x ∙ ap Some same) there
    distinct later more (suc i) (suc j) m n at there below = more i j m n at there (omega arith)

none_from_distinct : (before nodes : List NodeLine) → AllApart before nodes → Distinct nodes → with_repeat_after before nodes ≡ None
none_from_distinct before [] a d = refl
none_from_distinct before (x ∷ xs) a d =
    ap (λ o. repeat_or x o (with_repeat_after (before ++ x ∷ []) xs)) (none_from_apart before x (λ i m at. a i 0 m x at refl))
    ∙ none_from_distinct (before ++ x ∷ []) xs apart (λ i j m n at there below. d (suc i) (suc j) m n at there (omega arith))
  where
    apart : AllApart (before ++ x ∷ []) xs
    apart i j m n at there = elim (get_push before x i m at) [
      | inl here ↦ a i (suc j) m n here there
      | inr same ↦ d 0 (suc j) m n (ap Some same) there (omega arith)
    ]

-- ---- a test of each node

all_from_none : {X : Type 0} (P : X → Type 0) (p : X → Bool) (xs : List X) → ((x : X) → p x ≡ false → P x) → find p xs ≡ None → All P xs
all_from_none P p xs means e k d below = means (get_or xs k d) (find_none p xs e k (get_or xs k d) (slice_get-get_or xs k d below))

none_from_all : {X : Type 0} (P : X → Type 0) (p : X → Bool) (xs : List X) → ((x : X) → P x → p x ≡ false) → All P xs → find p xs ≡ None
none_from_all P p xs means all =
    none_find p xs (λ k x at. means x (subst P (get_or_from_slice_get xs k x x at) (all k x (slice_get_within xs k x at))))

-- ---- IDs below the count

module _ (count : ℕ) where
  abbrev Low : NodeLine → Type 0
  Low n = All (λ id. id < count) n.ids

  high_none : (o : Option ℕ) (later : Option Unfit) → high_or count o later ≡ None → (o ≡ None) × (later ≡ None)
  high_none (Some id) later e = cc
  high_none None later e = (refl, e)

  low_from_none : (nodes : List NodeLine) → with_high_id count nodes ≡ None → All Low nodes
  low_from_none [] e = All-nil Low
  low_from_none (n ∷ ns) e =
      let both = high_none (high_among count n.ids) (with_high_id count ns) e in
      All-cons Low n ns (all_from_none (λ id. id < count) (λ id. nat_le count id) n.ids (λ id h. grind (arith, nat_tests)) both.0) (low_from_none ns both.1)

  none_from_low : (nodes : List NodeLine) → All Low nodes → with_high_id count nodes ≡ None
  none_from_low [] all = refl
  none_from_low (n ∷ ns) all =
      ap (λ o. high_or count o (with_high_id count ns)) (none_from_all (λ id. id < count) (λ id. nat_le count id) n.ids (λ id low. grind (arith, nat_tests)) (All-head Low n ns all))
      ∙ none_from_low ns (All-tail Low n ns all)

-- ---- timers

other_none : (to : ℕ) (o : Option NodeLine) → other_timer to o ≡ None → o ≡ None
other_none to (Some n) e = cc
other_none to None e = refl

-- ---- noise

abbrev Silent : Act → Type 0
Silent a = is_noise a.deed ≡ false

quiet_from_none : (acts : List Act) → with_noise acts ≡ None → All Silent acts
quiet_from_none [] e = All-nil Silent
quiet_from_none (a ∷ acts) e = go a.deed refl (quiet_from_none acts) e
  where
    go : (x : Deed) → a.deed ≡ x → (with_noise acts ≡ None → All Silent acts) → noise_or a.tick x (with_noise acts) ≡ None → All Silent (a ∷ acts)
    go (Noise until) here later e = cc
    go (Offer number node frame) here later e = All-cons Silent a acts (ap is_noise here) (later e)

none_from_quiet : (acts : List Act) → All Silent acts → with_noise acts ≡ None
none_from_quiet [] h = refl
none_from_quiet (a ∷ acts) h = go a.deed (h 0 a (omega arith)) (none_from_quiet acts (λ k d below. h (suc k) d (omega arith)))
  where
    go : (x : Deed) → is_noise x ≡ false → with_noise acts ≡ None → noise_or a.tick x (with_noise acts) ≡ None
    go (Noise until) quiet later = cc
    go (Offer number node frame) quiet later = later

-- ---- the search for an ID that stood before, one node on

module _ (nodes : List NodeLine) (i : ℕ) (x : NodeLine) (below : i < length nodes) (here : x ≡ get_or nodes i x) where
  abbrev earlier : Option NodeLine
  earlier = first_owner (take i nodes) x.ids

  one_on : with_repeat_after (take i nodes) (drop i nodes) ≡ repeat_or x earlier (with_repeat_after (take (i + 1) nodes) (drop (i + 1) nodes))
  one_on =
      ap (with_repeat_after (take i nodes)) (drop_more nodes i x below ∙ ap (λ n. n ∷ drop (i + 1) nodes) (sym here))
      ∙ ap (λ before. repeat_or x earlier (with_repeat_after before (drop (i + 1) nodes))) (ap (λ n. take i nodes ++ n ∷ []) here ∙ sym (take_more nodes i x below))

  pub repeat_found : (number : ℕ) → option_map (λ (m : NodeLine). m.no) earlier ≡ Some number → with_repeat_after (take i nodes) (drop i nodes) ≡ unfit 2 x.no number
  repeat_found number e = one_on ∙ go earlier e
    where
      go : (o : Option NodeLine) → option_map (λ (m : NodeLine). m.no) o ≡ Some number → repeat_or x o (with_repeat_after (take (i + 1) nodes) (drop (i + 1) nodes)) ≡ unfit 2 x.no number
      go (Some m) e = let same : m.no ≡ number = cc in ap (λ k. unfit 2 x.no k) same
      go None e = cc

  pub repeat_later : option_map (λ (m : NodeLine). m.no) earlier ≡ None → with_repeat_after (take i nodes) (drop i nodes) ≡ with_repeat_after (take (i + 1) nodes) (drop (i + 1) nodes)
  repeat_later e = one_on ∙ go earlier e
    where
      go : (o : Option NodeLine) → option_map (λ (m : NodeLine). m.no) o ≡ None → repeat_or x o (with_repeat_after (take (i + 1) nodes) (drop (i + 1) nodes)) ≡ with_repeat_after (take (i + 1) nodes) (drop (i + 1) nodes)
      go (Some m) e = cc
      go None e = refl

-- ---- the search among the IDs of a node, one ID on

abbrev pub number_in : Option NodeLine → Option ℕ
number_in o = option_map (λ (n : NodeLine). n.no) o

module _ (ids : List ℕ) (i : ℕ) where
  pub next_id : (id : ℕ) → slice_get ids i ≡ Some id → drop i ids ≡ id ∷ drop (i + 1) ids
  next_id id at =
      let below = slice_get_within ids i id at in
      drop_more ids i id below ∙ ap (λ k. k ∷ drop (i + 1) ids) (get_or_from_slice_get ids i id id at)

  pub no_next_id : slice_get ids i ≡ None → drop i ids ≡ []
  no_next_id at = go ids i at
    where
      go : (xs : List ℕ) (k : ℕ) → slice_get xs k ≡ None → drop k xs ≡ []
      go [] zero at = refl
      go [] (suc k) at = refl
      go (x ∷ xs) zero at = cc
      go (x ∷ xs) (suc k) at = go xs k at

  pub owner_here : (nodes : List NodeLine) (id : ℕ) (owner : Option ℕ) → slice_get ids i ≡ Some id → owner ≡ number_in (owner_among nodes id) → is_some owner ≡ true → number_in (first_owner nodes (drop i ids)) ≡ owner
  owner_here nodes id owner at e some = ap (λ rest. number_in (first_owner nodes rest)) (next_id id at) ∙ go (owner_among nodes id) e
    where
      go : (o : Option NodeLine) → owner ≡ number_in o → number_in (else_node o (first_owner nodes (drop (i + 1) ids))) ≡ owner
      go (Some n) e = sym e
      go None e = cc

  pub owner_later : (nodes : List NodeLine) (id : ℕ) (owner : Option ℕ) → slice_get ids i ≡ Some id → owner ≡ number_in (owner_among nodes id) → is_some owner ≡ false
      → number_in (first_owner nodes (drop i ids)) ≡ number_in (first_owner nodes (drop (i + 1) ids))
  owner_later nodes id owner at e none = ap (λ rest. number_in (first_owner nodes rest)) (next_id id at) ∙ go (owner_among nodes id) e
    where
      go : (o : Option NodeLine) → owner ≡ number_in o → number_in (else_node o (first_owner nodes (drop (i + 1) ids))) ≡ number_in (first_owner nodes (drop (i + 1) ids))
      go (Some n) e = cc
      go None e = refl

  pub high_on : (count id : ℕ) (b : Bool) → slice_get ids i ≡ Some id → leb count id ≡ b → high_among count (drop i ids) ≡ cond b (Some id) (high_among count (drop (i + 1) ids))
  high_on count id b at e = ap (high_among count) (next_id id at) ∙ ap (λ t. cond t (Some id) (high_among count (drop (i + 1) ids))) e

-- ---- all premises

else_none : (a b : Option Unfit) → or_else a b ≡ None → (a ≡ None) × (b ≡ None)
else_none (Some u) b e = cc
else_none None b e = (refl, e)

one_from_none : (nodes : List NodeLine) → without_one_coordinator nodes ≡ None → coordinators nodes ≡ 1
one_from_none nodes e = go (coordinators nodes) e
  where
    go : (k : ℕ) → cond (k == 1) None (unfit 1 k 1) ≡ None → k ≡ 1
    go k e = test (k == 1) refl e
      where
        test : (b : Bool) → (k == 1) ≡ b → cond b None (unfit 1 k 1) ≡ None → k ≡ 1
        test true h e = grind (arith, nat_tests)
        test false h e = cc

short_from_none : (burst : ℕ) → with_long_bursts burst ≡ None → burst ≤ 15
short_from_none burst e = test (leb burst 15) refl e
  where
    test : (b : Bool) → leb burst 15 ≡ b → cond b None (unfit 6 burst 15) ≡ None → burst ≤ 15
    test true h e = grind (arith, nat_tests)
    test false h e = cc

cable_from_none : (s : Script) → with_long_cable s ≡ None → 2 * span_of s + s.rise < s.to
cable_from_none s e = test (ltb (2 * span_of s + s.rise) s.to) refl e
  where
    test : (b : Bool) → ltb (2 * span_of s + s.rise) s.to ≡ b → cond b None (unfit 7 (2 * span_of s + s.rise) s.to) ≡ None → 2 * span_of s + s.rise < s.to
    test true h e = grind (arith, nat_tests)
    test false h e = cc

fit_from_none : (s : Script) → unmet s ≡ None → IsFit s
fit_from_none s e =
    let one = else_none (without_one_coordinator s.nodes) (or_else (with_repeat s.nodes) (or_else (with_high_id s.count s.nodes) (or_else (with_other_timer s.to s.nodes) (or_else (with_noise s.acts) (or_else (with_long_bursts s.burst) (with_long_cable s)))))) e in
    let two = else_none (with_repeat s.nodes) (or_else (with_high_id s.count s.nodes) (or_else (with_other_timer s.to s.nodes) (or_else (with_noise s.acts) (or_else (with_long_bursts s.burst) (with_long_cable s))))) one.1 in
    let three = else_none (with_high_id s.count s.nodes) (or_else (with_other_timer s.to s.nodes) (or_else (with_noise s.acts) (or_else (with_long_bursts s.burst) (with_long_cable s)))) two.1 in
    let four = else_none (with_other_timer s.to s.nodes) (or_else (with_noise s.acts) (or_else (with_long_bursts s.burst) (with_long_cable s))) three.1 in
    let five = else_none (with_noise s.acts) (or_else (with_long_bursts s.burst) (with_long_cable s)) four.1 in
    let six = else_none (with_long_bursts s.burst) (with_long_cable s) five.1 in
    record {
      one_coordinator = one_from_none s.nodes one.0;
      distinct_ids = (distinct_from_none [] s.nodes two.0).1;
      low_ids = low_from_none s.count s.nodes three.0;
      one_timer = all_from_none (λ n. n.to ≡ s.to) (λ n. not (n.to == s.to)) s.nodes (λ n h. grind (arith, nat_tests)) (other_none s.to (find (λ (n : NodeLine). not (n.to == s.to)) s.nodes) four.0);
      no_noise = quiet_from_none s.acts five.0;
      short_bursts = short_from_none s.burst six.0;
      short_cable = cable_from_none s six.1;
    }

none_from_fit : (s : Script) → IsFit s → unmet s ≡ None
none_from_fit s h =
    let one : without_one_coordinator s.nodes ≡ None = ap (λ k. cond (k == 1) None (unfit 1 k 1)) h.one_coordinator in
    let two : with_repeat s.nodes ≡ None = none_from_distinct [] s.nodes (λ i j m n at there. cc) h.distinct_ids in
    let three : with_high_id s.count s.nodes ≡ None = none_from_low s.count s.nodes h.low_ids in
    let four : with_other_timer s.to s.nodes ≡ None = ap (other_timer s.to) (none_from_all (λ n. n.to ≡ s.to) (λ n. not (n.to == s.to)) s.nodes (λ n same. grind (arith, nat_tests)) h.one_timer) in
    let five : with_noise s.acts ≡ None = none_from_quiet s.acts h.no_noise in
    let few : leb s.burst 15 ≡ true = (let small = h.short_bursts in grind (arith, nat_tests)) in
    let six : with_long_bursts s.burst ≡ None = ap (λ b. cond b None (unfit 6 s.burst 15)) few in
    let near : ltb (2 * span_of s + s.rise) s.to ≡ true = (let small = h.short_cable in grind (arith, nat_tests)) in
    let seven : with_long_cable s ≡ None = ap (λ b. cond b None (unfit 7 (2 * span_of s + s.rise) s.to)) near in
    rw (one, two, three, four, five, six, seven) refl

-- an answer that tells the unmet premise is Ok exactly for a fit script
pub ok_where_fit : (s : Script) (r : Result (Unit {0}) Unfit) → r ≡ fitness_of (unmet s) → (IsOk r → IsFit s) × (IsFit s → IsOk r)
ok_where_fit s r e = (λ ok. fit_from_none s (none_where_ok (unmet s) (subst IsOk e ok)), λ fit. subst IsOk (sym (e ∙ ap fitness_of (none_from_fit s fit))) refl)
  where
    none_where_ok : (o : Option Unfit) → IsOk (fitness_of o) → o ≡ None
    none_where_ok None ok = refl
    none_where_ok (Some u) ok = cc
