-- What each node of a fit script is set to.
use Rattle.std.proofs.Common.{◌≡◌, ℕ, true, Some, sym, ap, arith}
use Rattle.std.specs.Prelude.{slice_get}
use Rattle.t1s_base.specs.NodeIds.{has_id}
use Rattle.t1s_world.specs.Waves.{CycleSettings, IsCycleSettings}
use Rattle.t1s_world.proofs.ListLemmas.{get_or-map}
use Rattle.t1s_node.specs.Node.{IsNodeSet}
use Rattle.t1s_turns.specs.NodeOverWaves.{cycle_of, HasLowIds}
use Rattle.t1s_script.specs.Fit.{IsFit}
use Rattle.t1s_script.specs.Script.{IsScript, IsNodeLine}
use Rattle.t1s_script.specs.declared.script.Script.{Script}
use Rattle.t1s_script.specs.declared.script.NodeLine.{NodeLine}
use Rattle.t1s_line.specs.World.{node_set_of, start_of}
use Rattle.t1s_schedule.specs.SharedLine.{owns_id, owner_in}
use Rattle.t1s_schedule.proofs.FitIds.{all_at, low_id, some_id}

-- what a node is set to for the cycle, with this timer, and with that of the script
abbrev pub cycle_with : Script → NodeLine → ℕ → CycleSettings
cycle_with s line to = record { owns = λ x. has_id line.ids x; count = s.count; to = to; rise = s.rise; fall = s.fall }

abbrev pub cycle_in : Script → NodeLine → CycleSettings
cycle_in s line = cycle_with s line s.to

-- the node with this line at position j
pub record FitNode (s : Script) (j : ℕ) (line : NodeLine) : Type 0 where
  pub range : IsNodeLine line
  pub low_ids : HasLowIds (node_set_of s line)
  pub own_id : ℕ
  pub owned : has_id line.ids own_id ≡ true
  pub timer : line.to ≡ s.to
  pub settings : IsNodeSet (node_set_of s line)
  pub cycle : cycle_of (node_set_of s line) ≡ cycle_in s line
  pub is_cycle : IsCycleSettings (cycle_in s line)
  pub owns : (x : ℕ) → (cycle_in s line).owns x ≡ owner_in s j x
  pub start : start_of s j ≡ line.start

module _ (s : Script) (script : IsScript s) (fit : IsFit s) (j : ℕ) (line : NodeLine) (at : slice_get s.nodes j ≡ Some line) where
  range_is : IsNodeLine line
  range_is = all_at IsNodeLine s.nodes j line at script.nodes

  low_are : HasLowIds (node_set_of s line)
  low_are = low_id s fit j line at

  -- one of its IDs
  some_own : (x : ℕ) × (has_id line.ids x ≡ true)
  some_own = some_id line.ids range_is.ids.some

  timer_is : line.to ≡ s.to
  timer_is = all_at (λ (n : NodeLine). n.to ≡ s.to) s.nodes j line at fit.one_timer

  settings_are : IsNodeSet (node_set_of s line)
  settings_are = record {
    control = record { count_low = script.count_low; count_high = script.count_high; to_low = range_is.to_low; to_high = range_is.to_high };
    rise_low = script.rise_low;
    rise_high = script.rise_high;
    fall_low = script.fall_low;
    fall_high = script.fall_high;
  }

  cycle_is : IsCycleSettings (cycle_in s line)
  cycle_is = record {
    low_ids = low_are;
    count_high = script.count_high;
    rise_low = script.rise_low;
    rise_high = script.rise_high;
    fall_low = script.fall_low;
    to_high = omega (arith, script.rise_high, script.to_low);
  }

  pub fit_node : FitNode s j line
  fit_node = record {
    range = range_is;
    low_ids = low_are;
    own_id = some_own.0;
    owned = some_own.1;
    timer = timer_is;
    settings = settings_are;
    cycle = ap (cycle_with s line) timer_is;
    is_cycle = cycle_is;
    owns = λ x. ap (owns_id x) (sym at);
    start = get_or-map (λ (n : NodeLine). n.start) s.nodes j line 0 at;
  }
