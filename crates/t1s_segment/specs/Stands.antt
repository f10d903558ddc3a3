-- An engine plays the run of its nodes, and a segment stands for a script whose run has reached a tick.
use Rattle.std.specs.Prelude.{◌≡◌, ℕ, ◌≤◌, ◌-◌, ◌||◌, nat_lt, List, ◌∷◌, get_or}
use Rattle.t1s_world.specs.World.{past}
use Rattle.t1s_cable.specs.Stands.{Stands as CableStands, no_puts}
use Rattle.t1s_script.specs.Script.{IsScript}
use Rattle.t1s_script.specs.declared.script.Act.{Act}
use Rattle.t1s_script.specs.declared.script.Script.{Script}
use Rattle.t1s_script.specs.declared.script.NodeLine.{NodeLine}
use Rattle.t1s_line.specs.declared.offers.OfferState.TheVariants.{Unknown}
use Rattle.t1s_line.specs.Acts.{has_act, is_noisy, offers_at}
use Rattle.t1s_line.specs.Outcomes.{NodePhases, machine_with}
use Rattle.t1s_line.specs.Runs.{heard_below, nodes_in, taps_in, settled_in, state_in, totals_in}
use Rattle.t1s_line.specs.Track.{track_phases}
use Rattle.t1s_line.specs.World.{first_tracks}
use Rattle.t1s_segment.specs.Numbers.{AreNumbered}
use Rattle.t1s_segment.specs.State.{EngineState, SegmentState}
use Rattle.t1s_acts.specs.Upcoming.{AreComing}

-- What the engine keeps is what the run of the nodes of these lines, as they are at first, has among these acts at tick t.
-- The acts that it still has to come are those from tick t on, but for the noises that began before. Its cable stands for
-- the rows of that run, and for tick t, in which nothing is put yet.
pub record Plays {N : Type 0} (p : NodePhases N) (acts : List Act) (lines : List NodeLine) (first : List N) (end t : ℕ) (g : EngineState N) : Type 0 where
  pub in_time : t ≤ end
  pub tick : g.tick ≡ t
  pub end_is : g.end ≡ end
  pub taps : g.cable.taps ≡ taps_in lines
  pub numbered : AreNumbered p lines first
  pub coming : AreComing t g.upcoming
  pub due : (u : ℕ) → t ≤ u → has_act g.upcoming u ≡ has_act acts u
  pub offers : (u : ℕ) → t ≤ u → offers_at g.upcoming u ≡ offers_at acts u
  pub noise : (u : ℕ) → t ≤ u → (is_noisy g.upcoming u || nat_lt u g.noise_until) ≡ is_noisy acts u
  pub nodes : g.nodes ≡ nodes_in p acts lines first t
  pub cable : CableStands (no_puts (taps_in lines) ∷ (past (machine_with p acts) (taps_in lines) first t).rows) g.cable
  pub settled : g.settled ≡ settled_in p acts lines first t
  pub totals : g.totals ≡ totals_in p acts lines first t
  pub states : (number : ℕ) → get_or g.states number Unknown ≡ state_in p acts lines first number t
  pub heard : g.heard ≡ heard_below p acts lines first t

-- a segment plays the world of a valid script
pub record Stands (s : Script) (t : ℕ) (g : SegmentState) : Type 0 where
  pub valid : IsScript s
  pub in_time : t ≤ s.end
  pub plays : Plays track_phases s.acts s.nodes (first_tracks s) s.end t g

-- how many ticks are still to be played
abbrev pub ticks_left : {N : Type 0} → EngineState N → ℕ
ticks_left g = g.end - g.tick
