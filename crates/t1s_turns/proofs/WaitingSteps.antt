-- One tick of a node that takes part in the cycle and does not drive: control, by the carrier and the class along waves.
use Rattle.std.proofs.Common.{◌≡◌, ℕ, ◌+◌, ◌<◌, ◌≤◌, max, ◌⊎◌, inl, inr, Bool, true, false, nat_le, List, ◌∷◌, refl, sym, ◌∙◌, ap, arith, rules}
use Rattle.std.proofs.lemmas.Bool.{cases_lt, false≢true}
use Rattle.std.proofs.lemmas.Bool.Decides.{nat_tests}
use Rattle.t1s_symbols.specs.declared.Class.{Class}
use Rattle.t1s_symbols.specs.declared.Class.TheVariants.{None as Unread, Beacon as BeaconHeard, Run as RunHeard, Other as OtherHeard}
use Rattle.t1s_pcs_rx.specs.declared.reader.Burst.{Burst}
use Rattle.t1s_node.specs.declared.carrier.Carrier.{Carrier}
use Rattle.plca_control.specs.declared.ControlSet.{ControlSet}
use Rattle.plca_control.specs.declared.ControlIn.{ControlIn}
use Rattle.plca_control.specs.declared.State.{State}
use Rattle.plca_control.specs.ControlTable.{mine, control_row, is_beacon}
use Rattle.t1s_world.specs.Waves.{CycleSettings, IsCycleSettings, Wave, AreBehind, arrived, seen, lag, reads_beacon, next_heard}
use Rattle.t1s_turns.specs.CarrierOverWaves.{CarrierOverWaves}
use Rattle.t1s_turns.specs.ReceiverOverWaves.{ReceiverOverWaves, class_by, silent, unheard, reads_first, known, past, late}
use Rattle.t1s_turns.specs.ControlOverWaves.{WaitingControl, listens, fades, syncs, counts, WasThere, from_start, from_within}
use Rattle.t1s_world.proofs.SeenWaves.{NewestArrived, is_seen, still_rises, standing, head_is}
use Rattle.t1s_turns.proofs.ShownCarrier.{CarrierShown, crs_of}
use Rattle.t1s_turns.proofs.ControlSteps.{NextControl, listening, counting, syncing, draining}

-- what the class at the end of a wave says
read_past : (w : Wave) (class : Class) → (w.from + 4 ≤ w.till → class ≡ class_by w.beacon) → (class ≡ BeaconHeard → reads_beacon w ≡ true) → is_beacon class ≡ reads_beacon w
read_past w class whole sound = elim (cases_lt w.till (w.from + 4)) [
  | inl few ↦ let b : nat_le (w.from + 4) w.till ≡ false = search (rules, nat_tests) in by_none class sound (short w.beacon refl b)
  | inr long ↦ let b : nat_le (w.from + 4) w.till ≡ true = search (rules, nat_tests) in ap is_beacon (whole (omega (arith, long))) ∙ by_whole w.beacon refl b
]
  where
    short : (f : Bool) → w.beacon ≡ f → nat_le (w.from + 4) w.till ≡ false → reads_beacon w ≡ false
    short true e b = rw (e, b) refl
    short false e b = rw e refl

    by_none : (c : Class) → (c ≡ BeaconHeard → reads_beacon w ≡ true) → reads_beacon w ≡ false → is_beacon c ≡ reads_beacon w
    by_none Unread h e = sym e
    by_none BeaconHeard h e = sym (h refl)
    by_none RunHeard h e = sym e
    by_none OtherHeard h e = sym e

    by_whole : (f : Bool) → w.beacon ≡ f → nat_le (w.from + 4) w.till ≡ true → is_beacon (class_by w.beacon) ≡ reads_beacon w
    by_whole true e b = rw (e, b) refl
    by_whole false e b = rw e refl

-- what a node that takes part knows of the newest wave that it has seen
pub record NewestSeen (n : CycleSettings) (begin t : ℕ) (ws : List Wave) (a : Wave) (rest : List Wave) : Type 0 where
  pub newest : seen n t ws ≡ a ∷ rest
  pub there : begin < a.till
  pub whole : WasThere n begin t a
  pub long : (a.from + n.rise ≤ a.till) ⊎ (t ≤ a.till)
  -- a newer one that has come is long or goes on
  pub coming : (v : Wave) → arrived t ws ≡ v ∷ a ∷ rest → t ≤ v.till
  pub low : a.next ≤ n.count

module _ (n : CycleSettings) (is : IsCycleSettings n) (begin t : ℕ) (ws : List Wave) (behind : AreBehind n ws) (a : Wave) (rest : List Wave) (knows : NewestSeen n begin t ws a rest) where
  lag_is : a.own ≡ false → lag n a ≡ n.rise
  lag_is e = rw e refl

  risen : (a.own ≡ false) ⊎ (a.till < t) → WasThere n begin t a → NewestArrived n t ws a rest → (a.till < t) ⊎ (max begin a.from + n.rise < t)
  risen x (from_within over long) st = inl (omega (arith, over))
  risen (inr over) (from_start from) st = inl over
  risen (inl other) (from_start from) (is_seen at gone_by) = let l = lag_is other in inr (omega (arith, from, gone_by, l))
  risen (inl other) (from_start from) (still_rises v at theirs come soon b) = inr (omega (arith, from, b.gap, b.long, come, is.rise_high))

  heard_long : WasThere n begin t a → (a.from + n.rise ≤ a.till) ⊎ (t ≤ a.till) → (max begin a.from + n.rise ≤ a.till) ⊎ (t ≤ a.till)
  heard_long (from_within over long) l = inl long
  heard_long (from_start from) (inr lasting) = inr lasting
  heard_long (from_start from) (inl long) = inl (omega (arith, from, long))

  pub crs_is : (c : Carrier) → (a.own ≡ false) ⊎ (a.till < t) → CarrierOverWaves n begin t (arrived t ws) c → CarrierShown n t (arrived t ws) a c.on
  crs_is c x h =
      crs_of n is t begin a rest knows.there (risen x knows.whole (standing n is t ws a rest behind knows.newest)) (heard_long knows.whole knows.long) ws c behind knows.newest knows.coming h

  -- the class at the end of a wave of another node
  read_of : (xs : List Wave) (class : Class) (burst : Burst) → xs ≡ a ∷ rest → a.own ≡ false → begin ≤ a.from → a.till < t → ReceiverOverWaves n begin t xs class burst → is_beacon class ≡ reads_beacon a
  read_of _ _ _ e other from over silent = absurd (cc)
  read_of _ _ _ e other from over (unheard {w = w} {ws = xs} (inl before)) = let till = ap (λ (x : Wave). x.till) (head_is w a xs rest e).0 in absurd (omega (arith, till, before, knows.there))
  read_of _ _ _ e other from over (unheard (inr (inl first))) = absurd (omega (arith, first, over, knows.there))
  read_of _ _ _ e other from over (unheard {w = w} {ws = xs} (inr (inr own))) = let owns = ap (λ (x : Wave). x.own) (head_is w a xs rest e).0 in absurd (false≢true (sym other ∙ (sym owns ∙ own)))
  read_of _ _ _ e other from over (reads_first {w = w} {ws = xs} x after at few in_time f) = let till = ap (λ (x : Wave). x.till) (head_is w a xs rest e).0 in absurd (omega (arith, till, in_time, over))
  read_of _ _ _ e other from over (known {w = w} {ws = xs} x after l within i) = let till = ap (λ (x : Wave). x.till) (head_is w a xs rest e).0 in absurd (omega (arith, till, within, over))
  read_of _ class _ e other from over (past {w = w} {ws = xs} x done whole sound) =
      let same = (head_is w a xs rest e).0 in
      let start = ap (λ (x : Wave). x.from) same in
      read_past w class (whole (omega (arith, start, from))) sound ∙ ap reads_beacon same
  read_of _ _ _ e other from over (late {w = w} {ws = xs} x before within on y) = let till = ap (λ (x : Wave). x.till) (head_is w a xs rest e).0 in absurd (omega (arith, till, within, over))

  read_at : (class : Class) (burst : Burst) → a.own ≡ false → begin ≤ a.from → t ≡ a.till + n.fall → ReceiverOverWaves n begin t (arrived t ws) class burst → is_beacon class ≡ reads_beacon a
  read_at class burst other from at h = go (standing n is t ws a rest behind knows.newest)
    where
      go : NewestArrived n t ws a rest → is_beacon class ≡ reads_beacon a
      go (is_seen e x) = read_of (arrived t ws) class burst e other from (omega (arith, at, is.fall_low)) h
      go (still_rises v e theirs come soon b) = absurd (omega (arith, at, come, b.gap))

  module _ (s : ControlSet) (same_owns : (x : ℕ) → n.owns x ≡ mine s x) (same_count : s.count ≡ n.count) (same_to : s.to ≡ n.to)
      (i : ControlIn) (c : Carrier) (burst : Burst) (shown : i.crs ≡ c.on)
      (carrier : CarrierOverWaves n begin t (arrived t ws) c) (receiver : ReceiverOverWaves n begin t (arrived t ws) i.class burst)
      (only : n.owns 0 ≡ true → a.own ≡ false → reads_beacon a ≡ false) (next_is : a.till < t → a.next ≡ next_heard a) where
    heard_whole : WasThere n begin t a → t ≤ a.till + n.fall → begin ≤ a.from
    heard_whole (from_start from) within = from
    heard_whole (from_within over long) within = absurd (omega (arith, over, within))

    read : a.own ≡ false → t ≡ a.till + n.fall → is_beacon i.class ≡ reads_beacon a
    read other at = read_at i.class burst other (heard_whole knows.whole (omega (arith, at))) at receiver

    pub turn_next : (st : State) → WaitingControl n t a st → NextControl s n is same_owns same_count same_to t (arrived t ws) a i.ready c.on (control_row s st i)
    turn_next _ (listens other within) =
        let crs = crs_is c (inl other) carrier in
        listening s n is same_owns same_count same_to t (arrived t ws) a i read only next_is c.on crs shown other within knows.low
    turn_next _ (fades own flag own_id over within) =
        let crs = crs_is c (inr over) carrier in
        draining s n is same_owns same_count same_to t (arrived t ws) a i read only next_is c.on crs shown own flag own_id over within
    turn_next _ (syncs own whole over within) =
        let crs = crs_is c (inr over) carrier in
        syncing s n is same_owns same_count same_to t (arrived t ws) a i read only next_is c.on crs shown own whole over within
    turn_next _ (counts k m after at some most first low coordinator) =
        let crs = crs_is c (inr (omega (arith, after))) carrier in
        counting s n is same_owns same_count same_to t (arrived t ws) a i read only next_is c.on k m crs shown after at some most first low coordinator
