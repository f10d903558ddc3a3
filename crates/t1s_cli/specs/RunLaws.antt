-- The laws of the run of a script that the program reads.
use Rattle.std.specs.Prelude.{◌≡◌, ◌↔◌, ℕ, ◌+◌, ◌-◌, ◌*◌, ◌%◌, ◌<◌, ◌≤◌, min, true, List, Some}
use Rattle.t1s_symbols.specs.declared.Symbol.TheVariants.{N}
use Rattle.t1s_world.specs.Drives.{IsDrive}
use Rattle.t1s_script.specs.Fit.{IsFit}
use Rattle.t1s_script.specs.ThinForm.{has_thin_form}
use Rattle.t1s_script.specs.declared.script.Script.{Script}
use Rattle.t1s_script.specs.declared.script.NodeLine.{NodeLine}
use Rattle.t1s_line.specs.World.{driven_in}
use Rattle.t1s_line.specs.Beacons.{IsLoneCoordinator}
use Rattle.t1s_schedule.specs.ScheduledRun.{SharesLine}
use Rattle.t1s_delivery.specs.Delivered.{IsDelivered}

-- beacon k starts at tick a and ends before tick e: it lasts 20 ticks, or to the end of the run
pub record IsThinBeacon (s : Script) (k a e : ℕ) : Type 0 where
  pub start : a ≡ 8256 + k * (24 + 32 * s.count)
  pub below : a < s.end
  pub stop : e ≡ min (a + 20) s.end

-- the drives of the run are exactly the beacons of the node at position z, each of them five symbols N as
-- far as it goes
pub record DrivesAreThinBeacons (s : Script) (z : ℕ) : Type 0 where
  pub drives : (i a e : ℕ) → IsDrive (driven_in s i) s.end a e ↔ ((i ≡ z) × (k : ℕ) × IsThinBeacon s k a e)
  pub symbols : (k a e t : ℕ) → IsThinBeacon s k a e → a ≤ t → t < e → driven_in s z t ≡ Some (record { sym = N; part = (t - a) % 4 })

-- where exactly one node of the script has the ID 0, the drives are exactly its beacons
abbrev pub HasBeacons : Script → Type 0
HasBeacons s = (z : ℕ) (line : NodeLine) → IsLoneCoordinator s z line → DrivesAreThinBeacons s z

-- What holds of the run of the script that these octets are read to, whatever is written of it. Where it is fit, no two drives overlap
-- at any point of the cable, and each frame accepted once every PLCA status is OK starts within its stated number of bit times and
-- reaches every other MAC exactly once, unchanged, if the script's end leaves room for both; and nothing else arrives.
pub record RunLaws (octets : List ℕ) (s : Script) : Type 0 where
  pub shares_line : IsFit s → SharesLine s s.end
  pub delivers : IsFit s → IsDelivered s s.end
  pub beacons : has_thin_form octets ≡ true → HasBeacons s
