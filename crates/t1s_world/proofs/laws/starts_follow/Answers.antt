use Rattle.t1s_world.proofs.DriveStarts.{sees_newest, starts_follow}
use Rattle.t1s_world.proofs.laws.starts_follow.Goals as goal

pub returns : goal.returns
returns g c next far at n is nodes span z first is_far short owner owners ds chain placed t begun j here a rest x begins starts beacon =
    let newest = sees_newest next far at n is nodes span is_far short owner z first owners j here t ds chain placed begun a rest x begins starts in
    (newest.newest, newest.older, newest.drives, starts_follow next far at n is nodes span is_far short owner z first owners j here t ds a rest x beacon begins newest)
