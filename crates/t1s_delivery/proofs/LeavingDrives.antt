-- A leaving is that of a piece of a drive: the drive of its node that has its tick, which is no beacon.
use Rattle.std.proofs.Common.{◌≡◌, ℕ, zero, suc, ◌+◌, ◌-◌, ◌*◌, ◌<◌, ◌≤◌, inl, inr, Bool, true, false, List, [], ◌∷◌, length, get_or, Option, Some, None, is_some, refl, sym, ◌∙◌, ap, subst, arith}
use Rattle.t1s_symbols.specs.declared.Quarter.{Quarter}
use Rattle.t1s_symbols.specs.declared.Symbol.{Symbol}
use Rattle.t1s_symbols.specs.declared.Symbol.TheVariants.{N, H}
use Rattle.t1s_frame.specs.Frame.{nibble_list}
use Rattle.t1s_pcs_tx.specs.Runs.{all_quarters}
use Rattle.t1s_world.specs.Schedule.{Drive}
use Rattle.t1s_script.specs.Fit.{longest_drive}
use Rattle.t1s_script.specs.Script.{IsScript}
use Rattle.t1s_script.specs.declared.script.Script.{Script}
use Rattle.t1s_line.specs.Happenings.{IsLeaving}
use Rattle.t1s_line.specs.World.{driven_in}
use Rattle.t1s_schedule.specs.DriveContents.{Holds, HoldsBeacon, HoldsRun}
use Rattle.t1s_schedule.proofs.DrivesHold.{drives_hold}
use Rattle.t1s_schedule.proofs.ExactDrives.{Has, drives_in, driver_from, each_at}
use Rattle.t1s_schedule.proofs.SharedState.{FitCable, SharedAt}
use Rattle.t1s_delivery.specs.Delivered.{IsOffer}
use Rattle.t1s_delivery.proofs.Members.{Among}
use Rattle.t1s_delivery.proofs.NodeHappenings.{leaves_node}
use Rattle.t1s_delivery.proofs.OfferedOnce.{same_offer, offer_from}
use Rattle.t1s_delivery.proofs.RunLeavings.{Carried, first_h, end_is, ends_within, carried_at, leaves_piece}

-- a quarter of some symbols has one of them
quarter_symbol : (symbols : List Symbol) (m : ℕ) (q : Quarter) → get_or (all_quarters symbols) m None ≡ Some q → Among symbols q.sym
unfolding Among
quarter_symbol [] m q e = absurd (cc)
quarter_symbol (x ∷ xs) zero q e = let same : record { sym = x; part = 0 } ≡ q = cc in inl (ap (λ (r : Quarter). r.sym) same)
quarter_symbol (x ∷ xs) (suc zero) q e = let same : record { sym = x; part = 1 } ≡ q = cc in inl (ap (λ (r : Quarter). r.sym) same)
quarter_symbol (x ∷ xs) (suc (suc zero)) q e = let same : record { sym = x; part = 2 } ≡ q = cc in inl (ap (λ (r : Quarter). r.sym) same)
quarter_symbol (x ∷ xs) (suc (suc (suc zero))) q e = let same : record { sym = x; part = 3 } ≡ q = cc in inl (ap (λ (r : Quarter). r.sym) same)
quarter_symbol (x ∷ xs) (suc (suc (suc (suc m)))) q e = inr (quarter_symbol xs m q e)

no_h_among : (x : Symbol) → Among (N ∷ N ∷ N ∷ N ∷ N ∷ []) x → x ≡ H → ⊥
unfolding Among
no_h_among x (inl e) h = absurd (cc)
no_h_among x (inr (inl e)) h = absurd (cc)
no_h_among x (inr (inr (inl e))) h = absurd (cc)
no_h_among x (inr (inr (inr (inl e)))) h = absurd (cc)
no_h_among x (inr (inr (inr (inr (inl e))))) h = absurd (cc)
no_h_among x (inr (inr (inr (inr (inr none))))) h = absurd none

module _ (s : Script) (script : IsScript s) (z : ℕ) (fit : FitCable s z) (known : (t : ℕ) → (ds : List Drive) × SharedAt s z t ds)
    (few : s.burst ≤ 255) where
  number_same : (v i m n : ℕ) → IsLeaving s v i m → IsLeaving s v i n → m ≡ n
  unfolding IsLeaving
  number_same v i m n a b = cc

  pub one_number : (v w i k m n : ℕ) → w ≡ v → k ≡ i → IsLeaving s v i m → IsLeaving s w k n → n ≡ m
  one_number v w i k m n tick node a b =
      number_same v i n m (subst (λ (x : ℕ). IsLeaving s v x n) node (subst (λ (x : ℕ). IsLeaving s x k n) tick b)) a

  module _ (T : ℕ) (ds : List Drive) (shared : SharedAt s z T ds) where
    pub holds_at : (d : Drive) → Has ds d → Holds s T d
    holds_at d has = each_at (Holds s T) ds (drives_hold s z fit known few T ds shared) d has

    no_beacon : (i start stop v : ℕ) (q : Quarter) → start ≤ v → v < stop → driven_in s i v ≡ Some q → q.sym ≡ H → HoldsBeacon s T i start stop → ⊥
    no_beacon i start stop v q from till driven h (symbols, is, spelled) =
        let at : start + (v - start) ≡ v = omega (arith, from) in
        let there : get_or (all_quarters symbols) (v - start) None ≡ Some q =
        sym (spelled.drives (v - start) (omega (arith, at, till))) ∙ (ap (driven_in s i) at ∙ driven) in
        no_h_among q.sym (subst (λ (xs : List Symbol). Among xs q.sym) is (quarter_symbol symbols (v - start) q there)) h

    -- the drive of a leaving
    pub record LeavingDrive (v i : ℕ) : Type 0 where
      pub drive : Drive
      pub has : Has ds drive
      pub node : drive.node ≡ i
      pub from : drive.start ≤ v
      pub till : v < drive.stop
      pub no_beacon : drive.beacon ≡ false

    pub leaving_drive : (v i number : ℕ) → v < T → IsLeaving s v i number → LeavingDrive v i
    leaving_drive v i number before leaving =
        let leaves = leaves_node s z fit known few v i number leaving in
        let on : drives_in ds i v ≡ true = sym (shared.covers i v before) ∙ ap (λ (o : Option Quarter). is_some o) leaves.drives in
        let (d, has, driving) = driver_from ds i v on in
        let driven : driven_in s d.node v ≡ Some leaves.quarter = ap (λ (k : ℕ). driven_in s k v) driving.node ∙ leaves.drives in
        record {
          drive = d;
          has = has;
          node = driving.node;
          from = driving.from;
          till = driving.till;
          no_beacon =
              by d.beacon d.beacon refl (λ flag. no_beacon d.node d.start d.stop v leaves.quarter driving.from driving.till driven leaves.begins
              ((holds_at d has).beacon flag));
        }
      where
        by : (flag b : Bool) → flag ≡ b → (flag ≡ true → ⊥) → flag ≡ false
        by flag true e none = absurd (none e)
        by flag false e none = e

  -- ---- the piece of a leaving in its run

  pub record LeavesIn {T i start stop : ℕ} (r : HoldsRun s T i start stop) (w n : ℕ) (octets : List ℕ) : Type 0 where
    pub carried : Carried r.pieces
    pub first : w ≡ first_h start carried
    pub number : n ≡ carried.piece.offer.number
    pub frame : octets ≡ carried.piece.offer.frame

  pub leaves_in_run : (T i start stop : ℕ) (r : HoldsRun s T i start stop) (w n : ℕ) (octets : List ℕ) → start ≤ w → w < stop → IsLeaving s w i n
      → IsOffer s i n octets
      → LeavesIn r w n octets
  leaves_in_run T i start stop r w n octets from till leaving offer =
      let (c, first) = carried_at start r.pieces w (r.no_other w n from till leaving) in
      let piece = leaves_piece s i start r.pieces r.leavings c in
      let number : n ≡ c.piece.offer.number = one_number (first_h start c) w i i c.piece.offer.number n first refl piece.leaves leaving in
      let sent : IsOffer s i n c.piece.offer.frame =
      subst (λ (k : ℕ). IsOffer s i k c.piece.offer.frame) (sym number) (offer_from s script i (first_h start c) c.piece.offer piece.offer) in
      record { carried = c; first = first; number = number; frame = (same_offer s script i i n octets c.piece.offer.frame offer sent).frame }

  -- it ends in the run, if this has ended in the ticks that are told
  pub ends_in_run : (T i start stop : ℕ) (r : HoldsRun s T i start stop) (c : Carried r.pieces) → stop < T
      → first_h start c + 4 * length (nibble_list c.piece.offer.frame) ≤ stop
  ends_in_run T i start stop r c over =
      let whole = r.spelled.whole over in
      let within = ends_within c r.rest in
      let end = end_is start c in
      omega (arith, whole, within, end)

  -- and a run that began so long ago has ended
  pub is_over : (T i start stop : ℕ) (r : HoldsRun s T i start stop) → start + longest_drive s < T → stop < T
  is_over T i start stop r long = omega (arith, r.spelled.within, r.short, long)
