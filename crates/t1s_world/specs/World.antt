-- The world: all nodes of a segment, tick by tick, over any machine that a node may be.
use Rattle.std.specs.Prelude.{ℕ, zero, suc, ◌+◌, List, [], ◌∷◌, Option, None, map, get_or}
use Rattle.t1s_symbols.specs.declared.Heard.{Heard}
use Rattle.t1s_symbols.specs.declared.Quarter.{Quarter}
use Rattle.t1s_harness.specs.declared.Tap.{Tap}
use Rattle.t1s_world.specs.Hearing.{heard}

-- a machine of a node. Node is what a node keeps from tick to tick, DriveOutcome what comes of its drive
-- phase, HearOutcome what comes of its hear phase. A script's acts, noise and starts are in the two phases
pub record Machine (Node DriveOutcome HearOutcome : Type 0) : Type 0 where
  pub drive : ℕ → Node → Node × DriveOutcome
  pub quarter : DriveOutcome → Option Quarter
  pub hear : ℕ → Heard → Node → Node × HearOutcome

-- the past: what each node keeps, and the rows of what was driven, one for each tick, the newest first
pub record Past (Node : Type 0) : Type 0 where
  pub nodes : List Node
  pub rows : List (List (Option Quarter))

-- what node i drove d ticks before the newest row
abbrev pub at_depth : List (List (Option Quarter)) → ℕ → ℕ → Option Quarter
at_depth rows i d = get_or (get_or rows d []) i None

module _ {Node DriveOutcome HearOutcome : Type 0} where
  -- what the nodes keep after the drive phase of tick t
  abbrev pub after_drive : Machine Node DriveOutcome HearOutcome → ℕ → List Node → List Node
  after_drive m t nodes = map (λ n. (m.drive t n).0) nodes

  -- what comes of the drive phase of tick t, node by node
  abbrev pub drive_outcomes : Machine Node DriveOutcome HearOutcome → ℕ → List Node → List DriveOutcome
  drive_outcomes m t nodes = map (λ n. (m.drive t n).1) nodes

  -- what the nodes drive in tick t
  abbrev pub row_of : Machine Node DriveOutcome HearOutcome → ℕ → List Node → List (Option Quarter)
  row_of m t nodes = map (λ n. m.quarter (m.drive t n).1) nodes

  -- what the nodes j, j + 1, .. keep after the hear phase of tick t, where h tells what each one hears
  abbrev pub after_hear : Machine Node DriveOutcome HearOutcome → ℕ → (ℕ → Heard) → ℕ → List Node → List Node
  after_hear m t h j [] = []
  after_hear m t h j (n ∷ ns) = (m.hear t (h j) n).0 ∷ after_hear m t h (j + 1) ns

  -- what comes of that phase, node by node
  abbrev pub hear_outcomes : Machine Node DriveOutcome HearOutcome → ℕ → (ℕ → Heard) → ℕ → List Node → List HearOutcome
  hear_outcomes m t h j [] = []
  hear_outcomes m t h j (n ∷ ns) = (m.hear t (h j) n).1 ∷ hear_outcomes m t h (j + 1) ns

  -- one tick: the drive phase, and then the hear phase
  abbrev pub after_tick : Machine Node DriveOutcome HearOutcome → List Tap → ℕ → Past Node → Past Node
  after_tick m taps t p =
      let rows : List (List (Option Quarter)) = row_of m t p.nodes ∷ p.rows in
      record {
        nodes = after_hear m t (heard (at_depth rows) taps) 0 (after_drive m t p.nodes);
        rows = rows;
      }

  -- the past when the ticks below t have been played, from what the nodes keep at first
  unfoldable pub past : Machine Node DriveOutcome HearOutcome → List Tap → List Node → ℕ → Past Node
  past m taps first zero = record { nodes = first; rows = [] }
  past m taps first (suc t) = after_tick m taps t (past m taps first t)

  -- what node i drives in tick t
  abbrev pub driven_at : Machine Node DriveOutcome HearOutcome → List Tap → List Node → ℕ → ℕ → Option Quarter
  driven_at m taps first t i = get_or (row_of m t (past m taps first t).nodes) i None

  -- what node j hears in tick t
  abbrev pub heard_at : Machine Node DriveOutcome HearOutcome → List Tap → List Node → ℕ → ℕ → Heard
  heard_at m taps first t j = heard (at_depth (past m taps first (suc t)).rows) taps j

  -- what comes of the hear phase of tick t, node by node
  abbrev pub hear_outcomes_at : Machine Node DriveOutcome HearOutcome → List Tap → List Node → ℕ → List HearOutcome
  hear_outcomes_at m taps first t = hear_outcomes m t (heard_at m taps first t) 0 (after_drive m t (past m taps first t).nodes)
