-- No number leaves twice: within its piece a frame has one first H, and after it the frame is gone, and all others have
-- greater ranks.
use Rattle.std.proofs.Common.{◌≡◌, ℕ, zero, suc, ◌+◌, ◌-◌, ◌*◌, ◌/◌, ◌%◌, ◌==◌, ◌<◌, ◌≤◌, inl, inr, Bool, true, false, ◌&&◌, if◌then◌else◌, Option, Some, None, List, [], ◌∷◌, ◌++◌, length, drop, slice_get, refl, sym, ◌∙◌, ap, subst, arith}
use Rattle.std.proofs.lemmas.Bool.{cases_lt, cases_eq, false≢true}
use Rattle.std.proofs.lemmas.Bool.Decides.{nat_tests}
use Rattle.t1s_frame.specs.Frame.{nibble_list}
use Rattle.t1s_ring.specs.Queue.{Queue, empty_queue}
use Rattle.t1s_ring.specs.declared.queued.Queued.{Queued}
use Rattle.t1s_pcs_tx.specs.State.{Stage, ClosingEnd, ClosingCloser, is_first_h, first_h_begins}
use Rattle.plca_control.specs.declared.ControlSet.{ControlSet}
use Rattle.t1s_mac.specs.State.{number_of}
use Rattle.t1s_mac.specs.declared.outcome.MacNote.TheVariants.{Sent}
use Rattle.t1s_node.specs.Core.{Core, core_start}
use Rattle.t1s_node.specs.Laws.{Spells, IsPieceOf}
use Rattle.t1s_node.specs.Runs.{CoreTick, IsUndisturbed, core_at, found_at, left_at, note_at, leaves_at}
use Rattle.t1s_node.proofs.CoreSteps.{start_stands}
use Rattle.t1s_node.proofs.FirstH.{sends_whole}
use Rattle.t1s_node.proofs.FrameWays.{leaves_is}
use Rattle.t1s_node.proofs.RunPlaces.{begin_at}
use Rattle.t1s_node.proofs.SentTick.{sent_in_piece}
use Rattle.t1s_turns.specs.Leavings.{offers_from, AllAbove, RanksAscend}
use Rattle.t1s_turns.proofs.QueueOrder.{above, ascend, keeps_along, found_keeps, sent_drops}

-- the head of a queue stands before all others
head_form : (frames : List Queued) (f : Queued) → slice_get frames 0 ≡ Some f → frames ≡ f ∷ drop 1 frames
head_form [] f e = absurd (cc)
head_form (x ∷ xs) f e = let same : x ≡ f = cc in ap (λ y. y ∷ xs) same

head_above : (rank : ℕ → ℕ) (least : ℕ) (frames more : List Queued) (f : Queued) → slice_get frames 0 ≡ Some f → AllAbove rank least (frames ++ more) → least < rank f.number
head_above rank least frames more f e h =
    let here = subst (λ qs. AllAbove rank least (qs ++ more)) (head_form frames f e) h in here.0

others_above : (rank : ℕ → ℕ) (frames more : List Queued) (f : Queued) → slice_get frames 0 ≡ Some f → RanksAscend rank (frames ++ more) → AllAbove rank (rank f.number) (drop 1 frames ++ more)
others_above rank frames more f e h =
    let here = subst (λ qs. RanksAscend rank (qs ++ more)) (head_form frames f e) h in here.0

pub first_of : (b : Bool) (o : Option ℕ) (number : ℕ) → (if b then o else None) ≡ Some number → b ≡ true
first_of true o number e = refl
first_of false o number e = absurd (cc)

spelled_first : (i q part : ℕ) (stage : Stage) → Spells i stage → part ≡ q → q ≤ 3 → (is_first_h stage && (part == 0)) ≡ true → 4 * i + q ≡ 8
spelled_first i q part stage spells at few e = elim (cases_lt i 4) [
  | inl early ↦
      let shown : ((i == 2) && (part == 0)) ≡ true = ap (λ (st : Stage). is_first_h st && (part == 0)) (sym (spells.early early)) ∙ e in
      grind (arith, nat_tests, shown, at)
  | inr late ↦
      let (x, is) = spells.late late in
      let none : false ≡ true = ap (λ (st : Stage). is_first_h st && (part == 0)) (sym is) ∙ e in absurd (false≢true none)
]

module _ {D : Type 0} (answer : D → ℕ → ℕ) (after : D → D) (set : ControlSet) (room : ℕ) (draws : D) (given : ℕ → CoreTick) (end : ℕ)
    (calm : IsUndisturbed answer after (core_start set (empty_queue room) draws) given end) where
  abbrev start : Core D
  start = core_start set (empty_queue room) draws

  abbrev found : ℕ → Core D
  found t = found_at answer after start given t

  abbrev left : ℕ → Core D
  left t = left_at answer after start given t

  -- in a piece only one tick begins the first H
  once_in_piece : (f : Queued) (first m u number : ℕ) → IsPieceOf answer after start given end f first → first + m ≡ u → m < 4 * length (nibble_list f.frame) + 8 → u ≤ end
      → leaves_at answer after start given u ≡ Some number → m ≡ 8
  once_in_piece f first m u number piece is low within leaves =
      let begins : first_h_begins (left u).tx ≡ true =
      first_of (first_h_begins (left u).tx) (number_of (left u).mac) number (sym (leaves_is answer after calm.draws start given end calm u) ∙ leaves) in
      go (m / 4) (m % 4) (omega arith) (omega arith) (omega (arith, low)) begins
    where
      go : (i q : ℕ) → m ≡ 4 * i + q → q ≤ 3 → i < length (nibble_list f.frame) + 2 → first_h_begins (left u).tx ≡ true → m ≡ 8
      go i q at few less begins = elim (cases_lt i (length (nibble_list f.frame))) [
        | inl lt ↦
            let u_is : first + 4 * i + q ≡ u = omega (arith, is, at) in
            let (spells, part) = piece.spells i q lt (omega (arith, few)) (omega (arith, u_is, within)) in
            let here = subst (λ v. Spells i (left v).tx.stage) u_is spells in
            let part_here = subst (λ v. (left v).tx.part ≡ q) u_is part in
            omega (arith, at, spelled_first i q (left u).tx.part (left u).tx.stage here part_here few begins)
        | inr ge ↦ elim (cases_eq i (length (nibble_list f.frame))) [
          | inl same ↦
              let u_is : first + 4 * length (nibble_list f.frame) + q ≡ u = omega (arith, is, at, same) in
              let stage = subst (λ v. (left v).tx.stage ≡ ClosingEnd true) u_is (piece.ends q (omega (arith, few)) (omega (arith, u_is, within))).0 in
              let none : false ≡ true = ap (λ (st : Stage). is_first_h st && ((left u).tx.part == 0)) (sym stage) ∙ begins in absurd (false≢true none)
          | inr other ↦
              let u_is : first + 4 * length (nibble_list f.frame) + 4 + q ≡ u = omega (arith, is, at, ge, other, less) in
              let stage = subst (λ v. (left v).tx.stage ≡ ClosingCloser true) u_is (piece.closes q (omega (arith, few)) (omega (arith, u_is, within))).0 in
              let none : false ≡ true = ap (λ (st : Stage). is_first_h st && ((left u).tx.part == 0)) (sym stage) ∙ begins in absurd (false≢true none)
        ]
      ]

  core_left : (t : ℕ) → core_at answer after start given (suc t) ≡ left t
  unfolding core_at
  core_left t = refl

  module _ (rank : ℕ → ℕ) (ascends : RanksAscend rank (offers_from given 0 (suc end))) where
    begins_ascending : RanksAscend rank ((core_at answer after start given zero).mac.queue.frames ++ offers_from given 0 (suc end))
    unfolding core_at
    begins_ascending = ascends

    -- after a frame was sent, each that leaves has a greater rank
    greater_later : (w u number later_number : ℕ) → w < u → u ≤ end → note_at answer after start given w ≡ Sent number → leaves_at answer after start given u ≡ Some later_number → rank number < rank later_number
    greater_later w u number later_number less within sent leaves =
        let begin = begin_at answer after calm.draws start given end calm (start_stands set room draws) in
        let (f, first, head, name, low, high, more) = sent_in_piece answer after calm.draws start given end calm begin w number (omega (arith, less, within)) sent in
        let (g, first_later, head_later, name_later, is_later, more_later) = sends_whole answer after calm.draws start given end calm begin u later_number within leaves in
        let n : ℕ = end - w in
        let all : suc end ≡ w + suc n = omega (arith, less, within) in
        let zero_w : 0 + w ≡ w = omega arith in
        let at_w = subst (λ v. RanksAscend rank ((core_at answer after start given v).mac.queue.frames ++ offers_from given v (suc n))) zero_w
        (keeps_along (RanksAscend rank) (ascend rank) answer after start given w 0 (suc n) (subst (λ k. RanksAscend rank ((core_at answer after start given zero).mac.queue.frames ++ offers_from given 0 k)) all begins_ascending)) in
        let found_w = found_keeps (RanksAscend rank) (ascend rank) answer after start given w n at_w in
        let others = others_above rank (found w).mac.queue.frames (offers_from given (suc w) n) f head found_w in
        let least : ℕ = rank f.number in
        let left_w : AllAbove rank least ((core_at answer after start given (suc w)).mac.queue.frames ++ offers_from given (suc w) n) =
        subst (λ (c : Core D). AllAbove rank least (c.mac.queue.frames ++ offers_from given (suc w) n)) (sym (core_left w))
        (subst (λ (q : Queue). AllAbove rank least (q.frames ++ offers_from given (suc w) n)) (sym (sent_drops answer after start given w number sent)) others) in
        let rest : n ≡ (u - w) + (end - u) = omega (arith, less, within) in
        let at_u = keeps_along (AllAbove rank least) (above rank least) answer after start given (u - w) (suc w) (end - u) (subst (λ k. AllAbove rank least ((core_at answer after start given (suc w)).mac.queue.frames ++ offers_from given (suc w) k)) rest left_w) in
        let u_is : suc w + (u - w) ≡ suc u = omega (arith, less) in
        let left_u : AllAbove rank least ((left u).mac.queue.frames ++ offers_from given (suc u) (end - u)) =
        subst (λ (c : Core D). AllAbove rank least (c.mac.queue.frames ++ offers_from given (suc u) (end - u))) (core_left u)
        (subst (λ v. AllAbove rank least ((core_at answer after start given v).mac.queue.frames ++ offers_from given v (end - u))) u_is at_u) in
        let greater = head_above rank least (left u).mac.queue.frames (offers_from given (suc u) (end - u)) g head_later left_u in
        let same : rank f.number ≡ rank number = ap rank name in
        let same_later : rank g.number ≡ rank later_number = ap rank name_later in
        omega (arith, greater, same, same_later)

    pub never_again : (t u number : ℕ) → t < u → u ≤ end → leaves_at answer after start given t ≡ Some number → leaves_at answer after start given u ≡ Some number → ⊥
    never_again t u number less within leaves again =
        let begin = begin_at answer after calm.draws start given end calm (start_stands set room draws) in
        let (f, first, head, name, is, piece) = sends_whole answer after calm.draws start given end calm begin t number (omega (arith, less, within)) leaves in
        elim (cases_lt u (first + 4 * length (nibble_list f.frame) + 8)) [
          | inl early ↦
              let eight : u - first ≡ 8 = once_in_piece f first (u - first) u number piece (omega (arith, is, less)) (omega (arith, early, is, less)) within again in
              omega (arith, eight, is, less)
          | inr late ↦
              let (w, after_h, high, sent) = piece.sent (omega (arith, late, within)) in
              let greater = greater_later w u f.number number (omega (arith, high, late)) within sent again in
              let same : rank f.number ≡ rank number = ap rank name in
              omega (arith, greater, same)
        ]

    pub leaves_once : (t u number : ℕ) → t ≤ end → u ≤ end → leaves_at answer after start given t ≡ Some number → leaves_at answer after start given u ≡ Some number → t ≡ u
    leaves_once t u number within_t within_u leaves again = elim (cases_lt t u) [
      | inl less ↦ absurd (never_again t u number less within_u leaves again)
      | inr more ↦ elim (cases_lt u t) [
        | inl less ↦ absurd (never_again u t number less within_t again leaves)
        | inr other ↦ omega (arith, more, other)
      ]
    ]
