-- The world one tick on, and one node of it from tick to tick.
use Rattle.std.proofs.Common.{◌≡◌, ℕ, zero, suc, ◌+◌, ◌<◌, ◌≤◌, List, take, drop, set, [], ◌∷◌, ◌++◌, length, get_or, map, None, Some, refl, ◌∙◌, ap, arith, add-zero, zero-add}
use Rattle.std.specs.Prelude.{slice_get}
use Rattle.std.proofs.lemmas.List.{length-map, get_or_past, take_more, length-take-le}
use Rattle.t1s_symbols.specs.declared.Heard.{Heard}
use Rattle.t1s_harness.specs.declared.Tap.{Tap}
use Rattle.t1s_world.specs.Hearing.{heard}
use Rattle.t1s_world.proofs.ListLemmas.{slice_get-map, get_or-map, written_more, get_or-unwritten}
use Rattle.t1s_world.specs.World.{Machine, past, at_depth, after_drive, row_of, after_hear, hear_outcomes, after_tick, driven_at, heard_at, hear_outcomes_at}

module _ {Node DriveOutcome HearOutcome : Type 0} (m : Machine Node DriveOutcome HearOutcome) (t : ℕ) where
  module _ (h : ℕ → Heard) where
    pub length-after_hear : (s : ℕ) (ns : List Node) → length (after_hear m t h s ns) ≡ length ns
    length-after_hear s [] = refl
    length-after_hear s (n ∷ ns) = ap suc (length-after_hear (s + 1) ns)

    pub length-hear_outcomes : (s : ℕ) (ns : List Node) → length (hear_outcomes m t h s ns) ≡ length ns
    length-hear_outcomes s [] = refl
    length-hear_outcomes s (n ∷ ns) = ap suc (length-hear_outcomes (s + 1) ns)

    -- one more node
    pub after_hear-append : (s : ℕ) (ns : List Node) (n : Node) → after_hear m t h s (ns ++ n ∷ []) ≡ after_hear m t h s ns ++ (m.hear t (h (s + length ns)) n).0 ∷ []
    after_hear-append s [] n = rw add-zero refl
    after_hear-append s (x ∷ ns) n =
        let next : (s + 1) + length ns ≡ s + suc (length ns) = omega arith in
        let rest = after_hear-append (s + 1) ns n in
        ap (λ (r : List Node). (m.hear t (h s) x).0 ∷ r) (rw next at rest)

    pub hear_outcomes-append : (s : ℕ) (ns : List Node) (n : Node) → hear_outcomes m t h s (ns ++ n ∷ []) ≡ hear_outcomes m t h s ns ++ (m.hear t (h (s + length ns)) n).1 ∷ []
    hear_outcomes-append s [] n = rw add-zero refl
    hear_outcomes-append s (x ∷ ns) n =
        let next : (s + 1) + length ns ≡ s + suc (length ns) = omega arith in
        let rest = hear_outcomes-append (s + 1) ns n in
        ap (λ (r : List HearOutcome). (m.hear t (h s) x).1 ∷ r) (rw next at rest)

    -- one more node hears, in a list that is rewritten from the front
    pub after_hear_more : (xs ys : List Node) (i : ℕ) (x : Node) → i < length xs → ys ≡ after_hear m t h 0 (take i xs) ++ drop i xs → x ≡ get_or ys i x → set ys i (m.hear t (h i) x).0 ≡ after_hear m t h 0 (take (i + 1) xs) ++ drop (i + 1) xs
    after_hear_more xs ys i x lt e is =
        let done : List Node = after_hear m t h 0 (take i xs) in
        let short : length (take i xs) ≡ i = length-take-le i xs (omega arith) in
        let len : length done ≡ i = length-after_hear 0 (take i xs) ∙ short in
        let same : x ≡ get_or xs i x = is ∙ get_or-unwritten done xs ys i x len lt e in
        let at : 0 + length (take i xs) ≡ i = omega (arith, short) in
        rw (take_more xs i x lt, ← same, after_hear-append 0 (take i xs) x, at)
        (written_more done xs ys i (m.hear t (h i) x).0 x len lt e)

    pub hear_outcomes_more : (xs ys : List Node) (i : ℕ) (x : Node) → i < length xs → ys ≡ after_hear m t h 0 (take i xs) ++ drop i xs → x ≡ get_or ys i x → hear_outcomes m t h 0 (take (i + 1) xs) ≡ hear_outcomes m t h 0 (take i xs) ++ (m.hear t (h i) x).1 ∷ []
    hear_outcomes_more xs ys i x lt e is =
        let done : List Node = after_hear m t h 0 (take i xs) in
        let short : length (take i xs) ≡ i = length-take-le i xs (omega arith) in
        let len : length done ≡ i = length-after_hear 0 (take i xs) ∙ short in
        let same : x ≡ get_or xs i x = is ∙ get_or-unwritten done xs ys i x len lt e in
        let at : 0 + length (take i xs) ≡ i = omega (arith, short) in
        rw (take_more xs i x lt, ← same, hear_outcomes-append 0 (take i xs) x, at) refl

    -- a node after the hear phase
    slice_get-after_hear : (s : ℕ) (ns : List Node) (i : ℕ) (n : Node) → slice_get ns i ≡ Some n → slice_get (after_hear m t h s ns) i ≡ Some (m.hear t (h (s + i)) n).0
    slice_get-after_hear s [] i n e = cc
    slice_get-after_hear s (x ∷ ns) zero n e = let same : x ≡ n = cc in rw (add-zero, same) refl
    slice_get-after_hear s (x ∷ ns) (suc i) n e =
        let next : s + 1 + i ≡ s + suc i = omega arith in
        rw (← next) (slice_get-after_hear (s + 1) ns i n e)

    -- and what comes of it there
    slice_get-hear_outcomes : (s : ℕ) (ns : List Node) (i : ℕ) (n : Node) → slice_get ns i ≡ Some n → slice_get (hear_outcomes m t h s ns) i ≡ Some (m.hear t (h (s + i)) n).1
    slice_get-hear_outcomes s [] i n e = cc
    slice_get-hear_outcomes s (x ∷ ns) zero n e = let same : x ≡ n = cc in rw (add-zero, same) refl
    slice_get-hear_outcomes s (x ∷ ns) (suc i) n e =
        let next : s + 1 + i ≡ s + suc i = omega arith in
        rw (← next) (slice_get-hear_outcomes (s + 1) ns i n e)

module _ {Node DriveOutcome HearOutcome : Type 0} (m : Machine Node DriveOutcome HearOutcome) (taps : List Tap) (first : List Node) where
  pub past-zero : past m taps first 0 ≡ record { nodes = first; rows = [] }
  unfolding past
  past-zero = refl

  pub past-suc : (t : ℕ) → past m taps first (suc t) ≡ after_tick m taps t (past m taps first t)
  unfolding past
  past-suc t = refl

  -- what is in the rows: at depth d, what was driven d ticks before the newest
  pub at_depth-within : (t d u i : ℕ) → u + suc d ≡ t → at_depth (past m taps first t).rows i d ≡ driven_at m taps first u i
  at_depth-within zero d u i e = absurd (omega arith)
  at_depth-within (suc t) zero u i e =
      let same : u ≡ t = omega arith in
      rw (past-suc t, same) refl
  at_depth-within (suc t) (suc d) u i e = rw (past-suc t) (at_depth-within t d u i (omega arith))

  pub at_depth-before : (t d i : ℕ) → t ≤ d → at_depth (past m taps first t).rows i d ≡ None
  at_depth-before zero d i e = rw past-zero refl
  at_depth-before (suc t) zero i e = absurd (omega arith)
  at_depth-before (suc t) (suc d) i e = rw (past-suc t) (at_depth-before t d i (omega arith))

  nodes-suc : (t : ℕ) → (past m taps first (suc t)).nodes ≡ after_hear m t (heard (at_depth (past m taps first (suc t)).rows) taps) 0 (after_drive m t (past m taps first t).nodes)
  unfolding past
  nodes-suc t = refl

  -- a node from tick to tick
  pub kept_next : (t i : ℕ) (n : Node) → slice_get (past m taps first t).nodes i ≡ Some n → slice_get (past m taps first (suc t)).nodes i ≡ Some (m.hear t (heard_at m taps first t i) (m.drive t n).0).0
  kept_next t i n e =
      let h : ℕ → Heard = heard (at_depth (past m taps first (suc t)).rows) taps in
      let nodes : List Node = after_drive m t (past m taps first t).nodes in
      let before = slice_get-map (λ n. (m.drive t n).0) (past m taps first t).nodes i n e in
      let at : slice_get (after_hear m t h 0 nodes) i ≡ Some (m.hear t (h (0 + i)) (m.drive t n).0).0 = slice_get-after_hear m t h 0 nodes i (m.drive t n).0 before in
      rw (nodes-suc t) (rw zero-add at at)

  -- what comes of its hear phase
  pub hear_outcome_is : (t i : ℕ) (n : Node) → slice_get (past m taps first t).nodes i ≡ Some n → slice_get (hear_outcomes_at m taps first t) i ≡ Some (m.hear t (heard_at m taps first t i) (m.drive t n).0).1
  hear_outcome_is t i n e =
      let nodes : List Node = after_drive m t (past m taps first t).nodes in
      let before = slice_get-map (λ n. (m.drive t n).0) (past m taps first t).nodes i n e in
      let at : slice_get (hear_outcomes m t (heard_at m taps first t) 0 nodes) i ≡ Some (m.hear t (heard_at m taps first t (0 + i)) (m.drive t n).0).1 = slice_get-hear_outcomes m t (heard_at m taps first t) 0 nodes i (m.drive t n).0 before in
      rw zero-add at at

  -- what a node drives
  pub driven_is : (t i : ℕ) (n : Node) → slice_get (past m taps first t).nodes i ≡ Some n → driven_at m taps first t i ≡ m.quarter (m.drive t n).1
  driven_is t i n e = get_or-map (λ n. m.quarter (m.drive t n).1) (past m taps first t).nodes i n None e

  pub length-nodes : (t : ℕ) → length (past m taps first t).nodes ≡ length first
  length-nodes zero = rw past-zero refl
  length-nodes (suc t) =
      let nodes : List Node = after_drive m t (past m taps first t).nodes in
      rw (nodes-suc t)
      (length-after_hear m t (heard (at_depth (past m taps first (suc t)).rows) taps) 0 nodes
      ∙ (length-map (past m taps first t).nodes (λ n. (m.drive t n).0) ∙ length-nodes t))

  -- there is no other node
  pub driven_past : (t i : ℕ) → length first ≤ i → driven_at m taps first t i ≡ None
  driven_past t i h =
      let nodes : List Node = (past m taps first t).nodes in
      get_or_past (row_of m t nodes) i None (omega (arith, length-map nodes (λ n. m.quarter (m.drive t n).1), length-nodes t))

  -- what no phase of a tick changes is as it was at first, node by node
  module _ {X : Type 0} (f : Node → X) (driving : (t : ℕ) (n : Node) → f (m.drive t n).0 ≡ f n) (hearing : (t : ℕ) (x : Heard) (n : Node) → f (m.hear t x n).0 ≡ f n) where
    after_drive_keeps : (t : ℕ) (ns : List Node) → map f (after_drive m t ns) ≡ map f ns
    after_drive_keeps t [] = refl
    after_drive_keeps t (n ∷ ns) = let e = driving t n in let rest = after_drive_keeps t ns in rw (e, rest) refl

    after_hear_keeps : (t : ℕ) (h : ℕ → Heard) (s : ℕ) (ns : List Node) → map f (after_hear m t h s ns) ≡ map f ns
    after_hear_keeps t h s [] = refl
    after_hear_keeps t h s (n ∷ ns) = let e = hearing t (h s) n in let rest = after_hear_keeps t h (s + 1) ns in rw (e, rest) refl

    pub past_keeps : (t : ℕ) → map f (past m taps first t).nodes ≡ map f first
    past_keeps zero = rw past-zero refl
    past_keeps (suc t) =
        let nodes : List Node = (past m taps first t).nodes in
        rw (nodes-suc t)
        (after_hear_keeps t (heard (at_depth (past m taps first (suc t)).rows) taps) 0 (after_drive m t nodes)
        ∙ (after_drive_keeps t nodes ∙ past_keeps t))
