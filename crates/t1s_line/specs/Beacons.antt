-- The beacons of a run without frames: where one node alone has the ID 0, it alone drives.
use Rattle.std.specs.Prelude.{◌≡◌, ◌≢◌, [], ◌↔◌, true, false, ℕ, ◌+◌, ◌-◌, ◌*◌, ◌%◌, ◌<◌, ◌≤◌, min, Some, slice_get}
use Rattle.t1s_base.specs.NodeIds.{has_id}
use Rattle.t1s_symbols.specs.declared.Symbol.TheVariants.{N}
use Rattle.plca_control.specs.ControlTable.{is_out}
use Rattle.t1s_world.specs.Drives.{IsDrive}
use Rattle.t1s_script.specs.Script.{IsScript}
use Rattle.t1s_script.specs.declared.script.Script.{Script}
use Rattle.t1s_script.specs.declared.script.NodeLine.{NodeLine}
use Rattle.t1s_line.specs.World.{driven_in}

-- the node at position z of the script, and no other, has the ID 0 among its IDs; and the first of them isn't 255, with which a
-- node takes no part
pub record IsLoneCoordinator (s : Script) (z : ℕ) (line : NodeLine) : Type 0 where
  pub here : slice_get s.nodes z ≡ Some line
  pub zero_id : has_id line.ids 0 ≡ true
  pub takes_part : is_out line.ids ≡ false
  pub others : (i : ℕ) (l : NodeLine) → slice_get s.nodes i ≡ Some l → i ≢ z → has_id l.ids 0 ≡ false

-- the tick at which beacon k begins: after 258 opportunities of silence, and then each time after 20
-- ticks of beacon, `fall` ticks until it is over, and an opportunity for each ID of the count
abbrev pub beacon_start : Script → NodeLine → ℕ → ℕ
beacon_start s line k = 258 * line.to + k * (20 + s.fall + s.count * line.to)

-- beacon k begins at tick a, and ends before tick e: it lasts 20 ticks, or to the end of the run
pub record IsBeacon (s : Script) (line : NodeLine) (k a e : ℕ) : Type 0 where
  pub start : a ≡ beacon_start s line k
  pub below : a < s.end
  pub stop : e ≡ min (a + 20) s.end

-- the drives of the run are exactly the beacons of that node, each of them five symbols N as far as it goes
pub record DrivesAreBeacons (s : Script) (z : ℕ) (line : NodeLine) : Type 0 where
  pub drives : (i a e : ℕ) → IsDrive (driven_in s i) s.end a e ↔ ((i ≡ z) × (k : ℕ) × IsBeacon s line k a e)
  pub symbols : (k a e t : ℕ) → IsBeacon s line k a e → a ≤ t → t < e → driven_in s z t ≡ Some (record { sym = N; part = (t - a) % 4 })

-- where no frame is offered and no noise begins, and exactly one node has the ID 0, which starts at once, the drives are
-- exactly its beacons
abbrev pub LoneCoordinatorBeacons : Type 0
LoneCoordinatorBeacons =
    (s : Script) (z : ℕ) (line : NodeLine) → IsScript s → s.acts ≡ [] → IsLoneCoordinator s z line → line.start ≡ 0 → DrivesAreBeacons s z line
