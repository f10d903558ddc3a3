-- One tick of the transmitter outside of runs, and the quarter of a run.
use Rattle.std.proofs.Common.{◌≡◌, ℕ, ◌+◌, ◌*◌, ◌==◌, ◌<◌, ◌≤◌, inl, inr, Bool, true, false, nat_lt, List, Option, Some, None, refl, arith, rules}
use Rattle.std.specs.Prelude.{◌≢◌}
use Rattle.std.proofs.lemmas.Bool.{cases_lt, cond_both}
use Rattle.std.proofs.lemmas.Bool.Decides.{nat_tests}
use Rattle.t1s_symbols.specs.declared.Quarter.{Quarter}
use Rattle.t1s_symbols.specs.declared.Symbol.{Symbol}
use Rattle.t1s_symbols.specs.declared.Symbol.TheVariants.{Nibble, J, T, H, N}
use Rattle.t1s_grammar.specs.Sent.{sent_closer}
use Rattle.t1s_pcs_tx.specs.declared.TxCmd.{TxCmd}
use Rattle.t1s_pcs_tx.specs.declared.TxCmd.TheVariants.{None as NoCmd, Beacon as BeaconCmd}
use Rattle.t1s_pcs_tx.specs.State.{Stage, Quiet, Beaconing, quarter_of, symbol_of, quarter_in}
use Rattle.t1s_pcs_tx.specs.TransmitTable.{TxTurn, transmit_step, at_boundary}
use Rattle.t1s_node.proofs.OwnDrives.{Late, commits, starts, sends, ends, closes}
use Rattle.t1s_world.specs.Waves.{Wave}
use Rattle.t1s_turns.specs.ReceiverOverWaves.{SpellsWave}

-- a turn that leaves this stage and quarter, and drives this
pub record TurnIs (turn : TxTurn) (stage : Stage) (part : ℕ) (driven : Option Quarter) : Type 0 where
  pub stage_is : turn.state.stage ≡ stage
  pub part_is : turn.state.part ≡ part
  pub driven_is : turn.driven ≡ driven

abbrev pub beacon_quarter : ℕ → Option Quarter
beacon_quarter part = Some (record { sym = N; part = part })

module _ (part : ℕ) (past : List Bool) (ended bad : Bool) (line : List ℕ) where
  abbrev pub turn_of : Stage → TxCmd → TxTurn
  turn_of stage cmd = transmit_step (record { stage = stage; part = part; past = past }) (record { cmd = cmd; ended = ended; bad = bad }) line

  pub stays_quiet : TurnIs (turn_of Quiet NoCmd) Quiet 0 None
  unfolding transmit_step
  stays_quiet = record { stage_is = refl; part_is = refl; driven_is = refl }

  pub begins_beacon : TurnIs (turn_of Quiet BeaconCmd) Beaconing 0 (beacon_quarter 0)
  unfolding transmit_step
  begins_beacon = record { stage_is = refl; part_is = refl; driven_is = refl }

  pub beacon_lasts : part < 3 → TurnIs (turn_of Beaconing BeaconCmd) Beaconing (part + 1) (beacon_quarter (part + 1))
  unfolding transmit_step
  beacon_lasts few = let b : (part == 3) ≡ false = grind (arith, nat_tests, few) in rw b (record { stage_is = refl; part_is = refl; driven_is = refl })

  pub beacon_repeats : part ≡ 3 → TurnIs (turn_of Beaconing BeaconCmd) Beaconing 0 (beacon_quarter 0)
  unfolding transmit_step
  beacon_repeats last = let b : (part == 3) ≡ true = grind (arith, nat_tests, last) in rw b (record { stage_is = refl; part_is = refl; driven_is = refl })

  pub beacon_stops : part ≡ 3 → TurnIs (turn_of Beaconing NoCmd) Quiet 0 None
  unfolding transmit_step
  beacon_stops last = let b : (part == 3) ≡ true = grind (arith, nat_tests, last) in rw b (record { stage_is = refl; part_is = refl; driven_is = refl })

  -- what is driven is the quarter of the state that is left
  pub drives_state : (stage : Stage) (cmd : TxCmd) → (turn_of stage cmd).driven ≡ quarter_of (turn_of stage cmd).state
  unfolding transmit_step
  drives_state stage cmd =
      cond_both (at_boundary (record { stage = stage; part = part; past = past })) _ _ (λ (turn : TxTurn). turn.driven ≡ quarter_of turn.state) (λ _. refl) (λ _. refl)

-- a quarter of a run, by the symbols that have ended in it
pub record RunQuarter (w : Wave) (k : ℕ) (stage : Stage) (part : ℕ) : Type 0 where
  pub quarter : Quarter
  pub is : quarter_in (symbol_of stage) part ≡ Some quarter
  pub spells : SpellsWave w k quarter

run_symbol : (w : Wave) (y part k : ℕ) (symbol : Symbol) → w.beacon ≡ false → k ≡ 4 * y + part → part ≤ 3 → symbol ≢ N → (y ≡ 0 → symbol ≡ J)
    → SpellsWave w k (record { sym = symbol; part = part })
run_symbol w y part k symbol flag time low other first = record {
  symbol = y;
  part = time;
  low = omega (arith, low);
  first = λ few. rw flag (first (omega (arith, few, time)));
  other = λ _. other;
}

closer_other : (good : Bool) → sent_closer good ≢ N
closer_other true e = cc
closer_other false e = cc

pub run_quarter : (w : Wave) (y part k : ℕ) (stage : Stage) → w.beacon ≡ false → k ≡ 4 * y + part → part ≤ 3 → Late y stage → RunQuarter w k stage part
run_quarter w y part k _ flag time low commits = record { quarter = _; is = refl; spells = run_symbol w y part k J flag time low (λ e. cc) (λ _. refl) }
run_quarter w y part k _ flag time low (starts {i = i} less few) = elim (cases_lt i 2) [
  | inl lt ↦ let b : nat_lt i 2 ≡ true = search (rules, nat_tests) in record { quarter = record { sym = J; part = part }; is = rw b refl; spells = run_symbol w y part k J flag time low (λ e. cc) (λ _. refl) }
  | inr ge ↦ let b : nat_lt i 2 ≡ false = search (rules, nat_tests) in record { quarter = record { sym = H; part = part }; is = rw b refl; spells = run_symbol w y part k H flag time low (λ e. cc) (λ none. absurd (omega (arith, none, less, ge))) }
]
run_quarter w y part k _ flag time low (sends {x = x} late) = record { quarter = _; is = refl; spells = run_symbol w y part k (Nibble x) flag time low (λ e. cc) (λ none. absurd (omega (arith, none, late))) }
run_quarter w y part k _ flag time low (ends late) = record { quarter = _; is = refl; spells = run_symbol w y part k T flag time low (λ e. cc) (λ none. absurd (omega (arith, none, late))) }
run_quarter w y part k _ flag time low (closes {good = good} late) =
    record { quarter = _; is = refl; spells = run_symbol w y part k (sent_closer good) flag time low (closer_other good) (λ none. absurd (omega (arith, none, late))) }
