-- The calm ticks of a script are those of the run of its nodes.
use Rattle.std.proofs.Common.{◌≡◌, ◌≢◌, ℕ, zero, suc, ◌<◌, ◌≤◌, inl, inr, false, List, [], ◌∷◌, length, map, get_or, Option, None, Some, refl, sym, ◌∙◌, ap, arith, subst}
use Rattle.std.specs.List.{AllByRecursion}
use Rattle.std.specs.Prelude.{All, slice_get}
use Rattle.std.proofs.lemmas.Bool.{cases_lt}
use Rattle.std.proofs.lemmas.List.{length-map}
use Rattle.std.proofs.lemmas.List.Elements.{All-from_recursion, recursion_from_All}
use Rattle.std.proofs.lemmas.Option.{slice_get_within, slice_get_cases}
use Rattle.t1s_symbols.specs.declared.Quarter.{Quarter}
use Rattle.t1s_world.specs.World.{Past}
use Rattle.t1s_world.proofs.ListLemmas.{get_or-map}
use Rattle.t1s_world.proofs.WorldLemmas.{driven_is, driven_past}
use Rattle.plca_control.specs.StatusTable.{status_is_ok}
use Rattle.t1s_node.specs.CalmNode.{IsCalmNode}
use Rattle.t1s_script.specs.declared.script.Script.{Script}
use Rattle.t1s_script.specs.declared.script.NodeLine.{NodeLine}
use Rattle.t1s_script.specs.Taps.{taps_of}
use Rattle.t1s_line.specs.declared.track.Track.{Track}
use Rattle.t1s_line.specs.Acts.{offers_at}
use Rattle.t1s_line.specs.CalmRuns.{IsCalmIn}
use Rattle.t1s_line.specs.CalmTicks.{CalmTicksAreQuiet, IsCalm, IsCalmTrack, IsTold, passed_track}
use Rattle.t1s_line.specs.Outcomes.{DriveOutcome}
use Rattle.t1s_line.specs.Track.{track_phases}
use Rattle.t1s_line.specs.World.{driven_in, first_track, first_tracks, machine_of, start_of, world}
use Rattle.t1s_line.proofs.CalmPhases.{each_of, no_act_no_offers}
use Rattle.t1s_line.proofs.CalmRuns.{as_alone, calm_events, nodes_hold}
use Rattle.t1s_line.proofs.CalmTracks.{track_calm}
use Rattle.t1s_line.proofs.HeardTicks.{starts_are, track_at}
use Rattle.t1s_line.proofs.ScriptNodes.{length-world}

element : {X : Type 0} (P : X → Type 0) (xs : List X) (j : ℕ) (x : X) → AllByRecursion P xs → slice_get xs j ≡ Some x → P x
element P [] j x all at = cc
element P (y ∷ xs) zero x all at = let same : y ≡ x = cc in subst P same all.0
element P (y ∷ xs) (suc j) x all at = element P xs j x all.1 at

pub firsts_told : (s : Script) (lines : List NodeLine) → AllByRecursion IsTold (map (first_track s) lines)
firsts_told s [] = tt
firsts_told s (n ∷ lines) = (record { ok = refl; driving = refl }, firsts_told s lines)

module _ (s : Script) (t : ℕ) where
  abbrev pub IsCalmRun : Type 0
  IsCalmRun = IsCalmIn track_phases IsCalmTrack s.acts s.nodes (first_tracks s) t

  pub run_from_script : IsCalm s t → IsCalmRun
  run_from_script calm = record {
    no_act = calm.no_act;
    no_noise = calm.no_noise;
    unreached = calm.unreached;
    nodes = All-from_recursion (IsCalmTrack t) (world s t).nodes (each_of (IsCalmTrack t) (world s t).nodes (λ j k at. record {
      no_start = λ starts.
          let there : j < length s.nodes = omega (arith, slice_get_within (world s t).nodes j k at, length-world s t) in
          let start : start_of s j ≡ k.start =
          ap (λ (ns : List ℕ). get_or ns j 0) (sym (starts_are s t)) ∙ get_or-map (λ (k : Track). k.start) (world s t).nodes j k 0 at in
          calm.no_start j there (start ∙ starts);
      node = element (λ (k : Track). k.start ≤ t → IsCalmNode k.node) (world s t).nodes j k
          (recursion_from_All (λ (k : Track). k.start ≤ t → IsCalmNode k.node) (world s t).nodes calm.nodes) at;
    }));
  }

  module _ (calm : IsCalmRun) where
    calm_track : (j : ℕ) (k : Track) → slice_get (world s t).nodes j ≡ Some k → IsCalmTrack t k
    calm_track j k at = element (IsCalmTrack t) (world s t).nodes j k (recursion_from_All (IsCalmTrack t) (world s t).nodes calm.nodes) at

    no_start : (j : ℕ) → j < length s.nodes → start_of s j ≢ t
    no_start j there starts = let (k, at, start) = track_at s t j there in (calm_track j k at).no_start (sym start ∙ starts)

    no_drive : (i : ℕ) → driven_in s i t ≡ None
    no_drive i = elim (slice_get_cases (world s t).nodes i).1 [
      | inl found ↦
          let k : Track = found.0 in
          let at : slice_get (world s t).nodes i ≡ Some k = found.2 in
          let held : IsTold k = element IsTold (world s t).nodes i k (nodes_hold track_phases IsTold IsCalmTrack passed_track track_calm s.acts s.nodes (first_tracks s) (firsts_told s s.nodes) t) at in
          let quiet : (track_phases.drive t k).1.quarter ≡ None = ap (λ (d : DriveOutcome). d.quarter) (track_calm.drives t k held (calm_track i k at)) in
          driven_is (machine_of s) (taps_of s) (first_tracks s) t i k at
          ∙ ap (λ (r : Track × DriveOutcome). r.1.quarter) (as_alone track_phases IsTold IsCalmTrack passed_track track_calm s.acts t (no_act_no_offers s.acts t calm.no_act) k)
          ∙ quiet
      | inr past ↦
          driven_past (machine_of s) (taps_of s) (first_tracks s) t i (omega (arith, past.0, length-world s t, length-map s.nodes (first_track s)))
    ]

    pub script_from_run : IsCalm s t
    script_from_run = record {
      no_act = calm.no_act;
      no_noise = calm.no_noise;
      no_start = no_start;
      no_drive = no_drive;
      unreached = calm.unreached;
      nodes = All-from_recursion (λ (k : Track). k.start ≤ t → IsCalmNode k.node) (world s t).nodes
          (each_of (λ (k : Track). k.start ≤ t → IsCalmNode k.node) (world s t).nodes (λ j k at. (calm_track j k at).node));
    }

pub calm_quiet : CalmTicksAreQuiet
calm_quiet s t calm =
    calm_events track_phases IsTold IsCalmTrack passed_track track_calm s.acts s.nodes (first_tracks s) (firsts_told s s.nodes) (length-map s.nodes (first_track s)) t
    (run_from_script s t calm)
