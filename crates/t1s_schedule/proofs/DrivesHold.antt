-- Each drive of a fit script's run holds a beacon or a run, or the first ticks of one.
use Rattle.std.proofs.Common.{Bool, true, false, ◌≡◌, ℕ, ◌+◌, ◌≤◌, List, length, Some, sym, ◌∙◌, ap, arith}
use Rattle.t1s_world.specs.Drives.{IsDrive}
use Rattle.t1s_world.specs.Schedule.{Drive, EachDrive, IsOfNode, IsWhole}
use Rattle.t1s_turns.specs.ReceiverOverWaves.{first_symbol}
use Rattle.t1s_script.specs.declared.script.Script.{Script}
use Rattle.t1s_line.specs.World.{driven_in}
use Rattle.t1s_schedule.specs.DriveContents.{HoldsRun, HoldsBeacon, Holds}
use Rattle.t1s_schedule.specs.SharedLine.{IsSchedule, begins_beacon}
use Rattle.t1s_schedule.proofs.BeaconContents.{interval_of, holds_beacon}
use Rattle.t1s_schedule.proofs.ExactDrives.{Has, has_from, each_at, each_from}
use Rattle.t1s_schedule.proofs.RunContents.{holds_run}
use Rattle.t1s_schedule.proofs.SharedState.{FitCable, SharedAt, IsSpelled, of_nodes}
use Rattle.t1s_schedule.proofs.SharedTurns.{line_at}

-- what is held where a drive begins with N, and where it does not
abbrev HoldsAsBegun : Script → ℕ → ℕ → ℕ → ℕ → Type 0
HoldsAsBegun s T i start stop =
    (begins_beacon (driven_in s i start) ≡ true → HoldsBeacon s T i start stop)
    × (begins_beacon (driven_in s i start) ≡ false → HoldsRun s T i start stop)

module _ (s : Script) (z : ℕ) (fit : FitCable s z) (known : (t : ℕ) → (ds : List Drive) × SharedAt s z t ds) (few : s.burst ≤ 255) where
  holds_one : (T : ℕ) (ds : List Drive) → SharedAt s z T ds → (d : Drive) → Has ds d → Holds s T d
  holds_one T ds shared d has =
      let node = each_at (IsOfNode (length s.nodes)) ds (of_nodes s z ds shared.chain) d has in
      let whole = each_at (IsWhole T) ds shared.whole d has in
      let (line, found) = line_at s z fit d.node node.node in
      let is = interval_of s z fit T ds shared d has in
      let some = is.some in
      let (q, driven, spelled) = each_at (IsSpelled s) ds shared.speaks d has 0 (omega (arith, some)) in
      let at : d.start + 0 ≡ d.start = omega arith in
      let first : driven_in s d.node d.start ≡ Some q = ap (driven_in s d.node) (sym at) ∙ driven in
      record {
        beacon = λ flag. holds_beacon s z fit known few d.node line found T d.start d.stop is q first
            (spelled.first (omega arith) ∙ ap first_symbol flag) whole;
        run = λ flag. holds_run s z fit known few d.node line found T d.start d.stop is q first (spelled.other flag);
      }

  pub drives_hold : (T : ℕ) (ds : List Drive) → SharedAt s z T ds → EachDrive (Holds s T) ds
  drives_hold T ds shared = each_from (Holds s T) ds (holds_one T ds shared)

  -- so does each maximal interval in which a node drives
  pub interval_holds : (T : ℕ) (ds : List Drive) (shared : SharedAt s z T ds) → IsSchedule s z T ds
      → (i start stop : ℕ) → IsDrive (driven_in s i) T start stop → HoldsAsBegun s T i start stop
  interval_holds T ds shared schedule i start stop is =
      let (d, there, node, from, till) = (schedule.exact i start stop).0 is in
      let has = has_from ds d there in
      let holds = holds_one T ds shared d has in
      let flag : d.beacon ≡ begins_beacon (driven_in s d.node d.start) =
      each_at (λ (a : Drive). a.beacon ≡ begins_beacon (driven_in s a.node a.start)) ds schedule.beacons d has in
      by d.node d.start d.stop d.beacon node from till flag holds.beacon holds.run
    where
      by : (k from till : ℕ) (b : Bool) → k ≡ i → from ≡ start → till ≡ stop → b ≡ begins_beacon (driven_in s k from)
          → (b ≡ true → HoldsBeacon s T k from till) → (b ≡ false → HoldsRun s T k from till) → HoldsAsBegun s T i start stop
      by k from till b node begins ends flag beacon run = (
        λ e. rw (node, begins, ends) at (beacon (flag ∙ rw (sym node, sym begins) at e)),
        λ e. rw (node, begins, ends) at (run (flag ∙ rw (sym node, sym begins) at e)),
      )
