use Rattle.std.proofs.Common.{◌≤◌, arith, length}
use Rattle.std.proofs.lemmas.List.{take_all}
use Rattle.std.proofs.lemmas.Simd.{map-map}
use Rattle.t1s_script.specs.Script.{IsScript}
use Rattle.t1s_script.specs.declared.script.Script.{Script}
use Rattle.t1s_line.specs.declared.track.Track.{Track}
use Rattle.t1s_line.specs.Track.{track_phases}
use Rattle.t1s_line.specs.World.{first_track, first_tracks}
use Rattle.t1s_line.proofs.ScriptNodes.{drive_no, hear_no, offer_no}
use Rattle.t1s_segment.specs.Numbers.{AreNumbered}
use Rattle.t1s_segment.proofs.segment.Segment.new.Goals as goal

tracks_numbered : (s : Script) → IsScript s → AreNumbered track_phases s.nodes (first_tracks s)
tracks_numbered s valid = record {
  each = map-map (λ (k : Track). k.no) (first_track s) s.nodes;
  ascending = valid.ascending;
  offering = offer_no;
  driving = drive_no;
  hearing = hear_no;
}

pub new-requires-clause-numbered : goal.new-requires-clause-numbered
new-requires-clause-numbered c =
    let lines = c.as_slice-lines.result.now in
    let all : length lines ≤ c.loop-line.line-index = omega arith in
    let tracks = rw (take_all c.loop-line.line-index lines all) at c.loop-line.invariant in
    rw (tracks, c.as_slice-lines.ensures) (tracks_numbered c.args.s.now c.requires)

pub new-requires-clause-short : goal.new-requires-clause-short
new-requires-clause-short c = rw c.as_slice-lines.ensures (λ k d lt. (c.requires.nodes k d lt).stub_high)
