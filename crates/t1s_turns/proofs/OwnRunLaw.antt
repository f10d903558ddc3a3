-- The law on the own run, from the start of a core.
use Rattle.std.proofs.Common.{◌≡◌, ℕ, zero, suc, ◌+◌, ◌*◌, ◌≤◌, true, false, map, refl, sym, ◌∙◌, ap, arith}
use Rattle.std.proofs.lemmas.List.{length-map}
use Rattle.t1s_ring.specs.Queue.{empty_queue}
use Rattle.plca_control.specs.declared.ControlSet.{ControlSet}
use Rattle.t1s_node.specs.Core.{Core, core_start}
use Rattle.t1s_node.specs.Runs.{CoreTick, IsUndisturbed, found_at, left_at, own_at}
use Rattle.t1s_node.proofs.CoreSteps.{start_stands}
use Rattle.t1s_node.proofs.RunPlaces.{begin_at}
use Rattle.t1s_node.proofs.View.{view_of, own_of, start_away}
use Rattle.t1s_turns.specs.OwnRun.{piece_of, longest_run, IsOwnRun}
use Rattle.t1s_turns.proofs.OwnRunTx.{TxAt, silent}
use Rattle.t1s_turns.proofs.OwnRunTicks.{own_is, set_left, first_keep, next_keep, TxFound}
use Rattle.t1s_turns.proofs.OwnRunLead.{quiet_quarter}
use Rattle.t1s_turns.proofs.OwnRunSteps.{quarter_left}
use Rattle.t1s_turns.proofs.OwnRunParts.{OwnPart}
use Rattle.t1s_turns.proofs.OwnRunWhole.{whole_run}

module _ {D : Type 0} (answer : D → ℕ → ℕ) (after : D → D) (set : ControlSet) (room : ℕ) (draws : D) (given : ℕ → CoreTick) (end : ℕ)
    (calm : IsUndisturbed answer after (core_start set (empty_queue room) draws) given end) where
  abbrev start : Core D
  start = core_start set (empty_queue room) draws

  abbrev found : ℕ → Core D
  found t = found_at answer after start given t

  set_kept : (t : ℕ) → (found t).control.set ≡ set
  set_kept zero = first_keep answer after start given (λ c _ _ _. c.set ≡ set) refl
  set_kept (suc t) = next_keep answer after start given (λ c _ _ _. c.set ≡ set) t (set_left answer after start given t ∙ set_kept t)

  first_tx : TxFound answer after start given zero
  first_tx = first_keep answer after start given (λ c tx _ _. TxAt (view_of c.state) tx.stage tx.part) (rw (start_away set) (silent {part = 0}))

  outside_of : (t : ℕ) → ((u : ℕ) → u + 1 ≡ t → own_at answer after start given u ≡ false) → own_of (view_of (found t).control.state) ≡ false
  outside_of zero before = first_keep answer after start given (λ c _ _ _. own_of (view_of c.state) ≡ false) (ap own_of (start_away set))
  outside_of (suc u) before =
      next_keep answer after start given (λ c _ _ _. own_of (view_of c.state) ≡ false) u (sym (own_is answer after start given u) ∙ before u (omega arith))

  own_run_of : (t most : ℕ) → set.burst ≤ 255 → OwnPart answer after calm.draws start given end calm t 1 (suc set.burst) most → most ≤ t + (set.burst + 1) * 12384 + 136
      → (e : ℕ) × IsOwnRun answer after start given set.burst t e
  own_run_of t most small part near = (
    part.over,
    record {
      pieces = part.pieces;
      rest = part.rest;
      few = omega (arith, part.in_number);
      run = record {
        pieces = map piece_of part.pieces;
        rest = part.rest;
        least_pieces = omega (arith, part.some, length-map part.pieces piece_of);
        most_pieces = omega (arith, part.in_number, small, length-map part.pieces piece_of);
        in_range = part.in_range;
        most_rest = omega (arith, part.short_rest);
        spelled = refl;
      };
      drives = part.drives;
      ends = part.ends;
      short = omega (arith, part.near, near);
      sent = part.sent;
      no_other = part.no_other;
      owns = part.owns;
      over = part.out;
      quiet = part.quiet;
      silent = quarter_left answer after calm.draws start given end calm part.over ∙ quiet_quarter (left_at answer after start given part.over).tx part.quiet;
    },
  )

  pub owns_a_run : (t : ℕ) → set.burst ≤ 255 → t + longest_run set.burst ≤ end → own_at answer after start given t ≡ true → ((u : ℕ) → u + 1 ≡ t → own_at answer after start given u ≡ false)
      → (e : ℕ) × IsOwnRun answer after start given set.burst t e
  owns_a_run t small within own before =
      let begin = begin_at answer after calm.draws start given end calm (start_stands set room draws) in
      let (most, part, near) = whole_run answer after calm.draws start given end calm begin first_tx t set.burst (omega (arith, within)) own (outside_of t before) (ap (λ (s : ControlSet). s.burst) (set_kept t)) in
      own_run_of t most small part near
