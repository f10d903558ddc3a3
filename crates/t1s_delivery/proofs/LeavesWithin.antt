-- A frame that a node of a fit script takes leaves within its bound, and no offer of its number leaves again.
use Rattle.std.proofs.Common.{◌≡◌, ℕ, suc, ◌+◌, ◌*◌, ◌≤◌, Bool, true, false, List, [], ◌∷◌, length, Some, slice_get, refl, ap, arith, Contains}
use Rattle.t1s_ring.specs.declared.queued.Queued.{Queued}
use Rattle.t1s_mac.specs.PickedDraws.{picked_answer, picked_after}
use Rattle.t1s_mac.specs.declared.picked_draws.PickedDraws.{PickedDraws}
use Rattle.t1s_node.specs.Core.{Core}
use Rattle.t1s_node.specs.Laws.{LeavesAt}
use Rattle.t1s_node.specs.Runs.{CoreTick, found_at, active_at, leaves_at}
use Rattle.t1s_world.specs.Schedule.{Drive, EachDrive}
use Rattle.t1s_world.specs.Waves.{EachWave}
use Rattle.t1s_script.specs.Fit.{start_bound}
use Rattle.t1s_script.specs.Script.{IsScript}
use Rattle.t1s_script.specs.declared.script.NodeLine.{NodeLine}
use Rattle.t1s_script.specs.declared.script.Script.{Script}
use Rattle.t1s_script.specs.Taps.{span_of}
use Rattle.t1s_line.specs.Acts.{offers_to}
use Rattle.t1s_line.specs.World.{node_set_of, set_of, draws_of}
use Rattle.t1s_turns.specs.NextOpportunity.{LastsAtMost}
use Rattle.t1s_turns.specs.NodeOverWaves.{cycle_of}
use Rattle.t1s_turns.specs.OwnRun.{longest_run}
use Rattle.t1s_turns.specs.StartBound as bound
use Rattle.t1s_turns.proofs.LeavingInTime.{leaves_in_time}
use Rattle.t1s_turns.proofs.LeavingsOnce.{leaves_once}
use Rattle.t1s_schedule.specs.DriveContents.{Holds}
use Rattle.t1s_schedule.proofs.DrivesHold.{drives_hold}
use Rattle.t1s_schedule.proofs.NodeRuns.{given}
use Rattle.t1s_schedule.proofs.NodeTurns.{start_core, ticks, undisturbed}
use Rattle.t1s_schedule.proofs.QueueOffers.{first_offered}
use Rattle.t1s_schedule.proofs.ScriptWaves.{hears_waves}
use Rattle.t1s_schedule.proofs.SharedState.{FitCable, SharedAt, cycle_with}
use Rattle.t1s_delivery.proofs.PassingDrives.{waves_of, set_waves}
use Rattle.t1s_delivery.proofs.ScriptOffers.{acts_in_order, numbers_ascend}

module _ (s : Script) (script : IsScript s) (z : ℕ) (fit : FitCable s z) (known : (t : ℕ) → (ds : List Drive) × SharedAt s z t ds)
    (few : s.burst ≤ 255) where
  -- ---- no drive lasts longer than the longest

  lasts : (T : ℕ) (d : Drive) → Holds s T d → d.stop ≤ d.start + longest_run s.burst
  lasts T d h = by d.beacon refl
    where
      by : (b : Bool) → d.beacon ≡ b → d.stop ≤ d.start + longest_run s.burst
      by true flag =
          let (symbols, is, spelled) = h.beacon flag in
          let five : length symbols ≡ 5 = ap length is in
          omega (arith, spelled.within, five)
      by false flag = let r = h.run flag in omega (arith, r.spelled.within, r.short)

  module _ (i : ℕ) (line : NodeLine) (found : slice_get s.nodes i ≡ Some line) where
    -- the core of the node at its start, and what comes to it
    abbrev start : Core PickedDraws
    start = start_core s z fit known few i line found

    abbrev told : ℕ → CoreTick
    told = ticks s z fit known few i line found

    each_lasts : (T : ℕ) (ds : List Drive) → EachDrive (Holds s T) ds
        → EachWave (LastsAtMost (longest_run s.burst)) (waves_of s z fit i line found ds)
    each_lasts T [] h = tt
    each_lasts T (d ∷ ds) h = let short = lasts T d h.0 in (omega (arith, short), each_lasts T ds h.1)

    -- ---- it leaves in time

    bound_is : bound.start_bound (cycle_of (node_set_of s line)) (longest_run s.burst) (span_of s) ≡ start_bound s
    bound_is = ap (λ (to : ℕ). bound.start_bound (cycle_with s line to) (longest_run s.burst) (span_of s)) (fit.timers i line found)

    pub record LeavesSoon (f : Queued) (u most : ℕ) : Type 0 where
      pub v : ℕ
      pub soon : v ≤ u + most
      pub leaves : LeavesAt picked_answer picked_after start told f v

    pub leaves_soon : (f : Queued) (q u : ℕ)
        → active_at picked_answer picked_after start told u ≡ true
        → slice_get (found_at picked_answer picked_after start told u).mac.queue.frames q ≡ Some f
        → LeavesSoon f u ((q + 1) * start_bound s)
    leaves_soon f q u active queued =
        let end : ℕ = u + (q + 1) * start_bound s in
        let T : ℕ = line.start + end in
        let ds = (known T).0 in
        let shared = (known T).1 in
        let these = set_waves s z fit i line found T ds shared in
        let unit : ℕ = bound.longest_opportunity (cycle_of (node_set_of s line)) (longest_run s.burst) (span_of s) + 20 in
        let same = ap (λ (b : ℕ). u + (q + 1) * b) bound_is in
        let (v, soon, leaves) = leaves_in_time (node_set_of s line) (fit.node_sets i line found) (fit.low_ids i line found)
        (fit.nodes i line found).own_id (fit.nodes i line found).owned s.room
        (draws_of s line) (given s i line found) (λ w. fit.frames (line.start + w) line.no) line.start end
        (waves_of s z fit i line found ds) these (hears_waves s z fit i line found T ds shared)
        (longest_run s.burst) unit (each_lasts T ds (drives_hold s z fit known few T ds shared)) (omega arith)
        (bound.start_bound (cycle_of (node_set_of s line)) (longest_run s.burst) (span_of s)) (omega arith) q f u active queued
        (omega (arith, same)) in
        record { v = v; soon = omega (arith, soon, same); leaves = leaves }

    -- it was offered by then
    pub offered_by : (f : Queued) (v : ℕ) → LeavesAt picked_answer picked_after start told f v
        → (w : ℕ) × (w ≤ v) × Contains (offers_to s.acts (line.start + w) line.no) f
    offered_by f v leaves = first_offered picked_answer picked_after start told refl v f leaves.1

    -- ---- and not again

    pub leaves_again : (v w number : ℕ)
        → leaves_at picked_answer picked_after start told v ≡ Some number
        → leaves_at picked_answer picked_after start told w ≡ Some number
        → v ≡ w
    leaves_again v w number first then =
        leaves_once picked_answer picked_after (set_of s line) s.room (draws_of s line) (ticks s z fit known few i line found) (v + w)
        (undisturbed s z fit known few i line found (v + w)) (λ (x : ℕ). x)
        (numbers_ascend s.acts (acts_in_order s script) line.no line.start (ticks s z fit known few i line found) (λ u. refl) (suc (v + w)) 0)
        v w number (omega arith) (omega arith) first then
