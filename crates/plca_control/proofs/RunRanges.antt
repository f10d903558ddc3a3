-- The ranges along the rows.
use Rattle.std.proofs.Common.{◌≡◌, ℕ, zero, suc, ◌+◌, Bool, ◌&&◌, not, refl, rules}
use Rattle.std.specs.Prelude.{IsTrue}
use Rattle.std.proofs.lemmas.Bool.{cond_both}
use Rattle.std.proofs.lemmas.Bool.Decides.{nat_tests}
use Rattle.plca_control.specs.declared.ControlSet.{ControlSet}
use Rattle.plca_control.specs.declared.ControlIn.{ControlIn}
use Rattle.plca_control.specs.declared.State.{State}
use Rattle.plca_control.specs.declared.State.TheVariants.{Disabled, Recover, Resync, Early, Beacon, Syncing, WaitTo, Receive, Commit, Transmit, Burst, Drain}
use Rattle.t1s_pcs_tx.specs.declared.TxCmd.{TxCmd}
use Rattle.plca_control.specs.ControlTable.{coord, is_beacon, reach, control_row, control_start}
use Rattle.plca_control.specs.Runs.{state_at}
use Rattle.plca_control.specs.Ranges.{IsControlSet, set_in_range, in_range}

reach_in_range : (s : ControlSet) (ready : Bool) (c : ℕ) → IsTrue (set_in_range s) → IsTrue (in_range s (reach s ready c).0)
reach_in_range s ready c set = search (rules, nat_tests)

pub row_in_range : (s : ControlSet) (st : State) (i : ControlIn) → IsTrue (in_range s st) → IsTrue (in_range s (control_row s st i).0)
row_in_range s Disabled i h = h
row_in_range s (Recover q) i h = search (rules, nat_tests)
row_in_range s Resync i h = search (rules, nat_tests)
row_in_range s Early i h = search (rules, nat_tests, reach_in_range)
row_in_range s (Beacon n) i h = search (rules, nat_tests)
row_in_range s Syncing i h = search (rules, nat_tests, reach_in_range)
row_in_range s (WaitTo c n) i h = search (rules, nat_tests, reach_in_range)
row_in_range s (Receive c) i h =
    let set : IsTrue (set_in_range s) = search (rules, nat_tests) in
    cond_both i.crs _ _ (λ (r : State × TxCmd). IsTrue (in_range s r.0)) (λ _. h)
    (λ _. cond_both (is_beacon i.class && not (coord s)) _ _ (λ (r : State × TxCmd). IsTrue (in_range s r.0)) (λ _. reach_in_range s i.ready 0 set)
    (λ _. cond_both (is_beacon i.class && coord s) _ _ (λ (r : State × TxCmd). IsTrue (in_range s r.0)) (λ _. search (rules, nat_tests)) (λ _. reach_in_range s i.ready (c + 1) set)))
row_in_range s (Commit c n b) i h = search (rules, nat_tests)
row_in_range s (Transmit c b) i h = search (rules, nat_tests)
row_in_range s (Burst c n b) i h = search (rules, nat_tests)
row_in_range s (Drain c) i h = search (rules, nat_tests, reach_in_range)

pub start_in_range : (s : ControlSet) → IsControlSet s → IsTrue (in_range s (control_start s).state)
start_in_range s fits = search (rules, nat_tests)

module _ (s : ControlSet) (given : ℕ → ControlIn) (fits : IsControlSet s) where
  pub stays_in_range : (t : ℕ) → ((state_at s given t).set ≡ s) × IsTrue (in_range s (state_at s given t).state)
  unfolding state_at
  stays_in_range zero = (refl, start_in_range s fits)
  stays_in_range (suc t) =
      let (same, here) = stays_in_range t in
      (same, rw same (row_in_range s (state_at s given t).state (given t) here))
