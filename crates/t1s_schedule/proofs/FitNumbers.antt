-- What later proofs use of a fit script, in one place: the numbers of its cable and its nodes, and its acts.
use Rattle.std.proofs.Common.{sym, subst, ◌≡◌, ℕ, ◌+◌, ◌*◌, ◌<◌, ◌≤◌, length, Some, arith, All}
use Rattle.std.specs.Prelude.{slice_get}
use Rattle.std.proofs.lemmas.Option.{slice_get_within}
use Rattle.t1s_frame.specs.Frame.{IsFrame}
use Rattle.t1s_ring.specs.declared.queued.Queued.{Queued}
use Rattle.t1s_symbols.specs.declared.Heard.{Heard}
use Rattle.t1s_world.specs.Waves.{IsCycleSettings}
use Rattle.t1s_node.specs.Node.{IsNodeSet}
use Rattle.t1s_turns.specs.NodeOverWaves.{cycle_of, HasLowIds}
use Rattle.t1s_line.specs.World.{node_set_of}
use Rattle.t1s_world.specs.Schedule.{IsFar, AreOwners}
use Rattle.t1s_script.specs.Fit.{IsFit}
use Rattle.t1s_script.specs.Script.{IsScript}
use Rattle.t1s_script.specs.declared.script.Script.{Script}
use Rattle.t1s_script.specs.declared.script.NodeLine.{NodeLine}
use Rattle.t1s_script.specs.Taps.{span_of}
use Rattle.t1s_line.specs.Acts.{offers_to, with_noise}
use Rattle.t1s_schedule.specs.SharedLine.{far_in, at_in, owner_in, IsCoordinator}
use Rattle.t1s_schedule.proofs.FitIds.{are_owners, coordinator, line_owner}
use Rattle.t1s_schedule.proofs.FitDistances.{is_far}
use Rattle.t1s_schedule.proofs.FitNodes.{FitNode, fit_node}
use Rattle.t1s_schedule.proofs.FitActs.{no_noise, offers_are_frames}

-- the numbers of a fit script, whose node at position z has the ID 0
pub record FitCable (s : Script) (z : ℕ) : Type 0 where
  pub has_zero : IsCoordinator s z
  pub owners : AreOwners (owner_in s) s.count z
  pub coordinator : z < length s.nodes
  pub far : IsFar (far_in s) (at_in s) (length s.nodes) (span_of s)
  pub short : 2 * span_of s + s.rise ≤ s.to
  pub rise_low : 1 ≤ s.rise
  pub fall_low : 1 ≤ s.fall
  pub node_sets : (j : ℕ) (line : NodeLine) → slice_get s.nodes j ≡ Some line → IsNodeSet (node_set_of s line)
  pub settings : (j : ℕ) (line : NodeLine) → slice_get s.nodes j ≡ Some line → IsCycleSettings (cycle_of (node_set_of s line))
  pub low_ids : (j : ℕ) (line : NodeLine) → slice_get s.nodes j ≡ Some line → HasLowIds (node_set_of s line)
  pub timers : (j : ℕ) (line : NodeLine) → slice_get s.nodes j ≡ Some line → line.to ≡ s.to
  pub nodes : (j : ℕ) (line : NodeLine) → slice_get s.nodes j ≡ Some line → FitNode s j line
  pub quiet : (t : ℕ) (h : Heard) → with_noise s.acts t h ≡ h
  pub frames : (t node : ℕ) → All (λ (q : Queued). IsFrame q.frame) (offers_to s.acts t node)

pub fit_cable : (s : Script) → IsScript s → IsFit s → (z : ℕ) × FitCable s z
fit_cable s script fit =
    let zero = coordinator s fit in
    let mine = line_owner s zero.position 0 zero.line zero.at zero.id in
    let short = fit.short_cable in (
      zero.position,
      record {
        has_zero = mine;
        owners = are_owners s fit zero.position mine;
        coordinator = slice_get_within s.nodes zero.position zero.line zero.at;
        far = is_far s;
        short = omega (arith, short);
        rise_low = script.rise_low;
        fall_low = script.fall_low;
        node_sets = λ j line at. (fit_node s script fit j line at).settings;
        settings = λ j line at. (let node = fit_node s script fit j line at in subst IsCycleSettings (sym node.cycle) node.is_cycle);
        low_ids = λ j line at. (fit_node s script fit j line at).low_ids;
        timers = λ j line at. (fit_node s script fit j line at).timer;
        nodes = fit_node s script fit;
        quiet = no_noise s fit;
        frames = offers_are_frames s script;
      },
    )
