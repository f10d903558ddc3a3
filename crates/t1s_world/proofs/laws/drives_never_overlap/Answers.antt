use Rattle.t1s_world.proofs.Overlaps.{no_overlap}
use Rattle.t1s_world.proofs.laws.drives_never_overlap.Goals as goal

pub returns : goal.returns
returns g c next far at rise fall to nodes span z first is_far ds chain p = no_overlap next far at rise fall to nodes span is_far p z first ds chain
