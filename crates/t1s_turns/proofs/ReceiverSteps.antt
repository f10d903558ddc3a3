-- The class along waves.
use Rattle.std.proofs.Common.{◌≡◌, ℕ, ◌+◌, ◌==◌, ◌<◌, ◌≤◌, inl, inr, Bool, true, false, nat_lt, nat_le, List, [], ◌∷◌, Some, Result, Ok, Err, refl, sym, ◌∙◌, subst, arith, rules}
use Rattle.std.specs.Prelude.{◌≢◌}
use Rattle.std.proofs.lemmas.Bool.{cases_lt, cond_both, false≢true}
use Rattle.std.proofs.lemmas.Bool.Decides.{nat_tests}
use Rattle.t1s_symbols.specs.declared.Class.{Class}
use Rattle.t1s_symbols.specs.declared.Class.TheVariants.{None as Unread, Beacon as BeaconHeard, Run as RunHeard, Other as OtherHeard}
use Rattle.t1s_symbols.specs.declared.Heard.{Heard}
use Rattle.t1s_symbols.specs.declared.Heard.TheVariants.{Nothing, One}
use Rattle.t1s_symbols.specs.declared.Quarter.{Quarter}
use Rattle.t1s_symbols.specs.declared.Symbol.{Symbol}
use Rattle.t1s_symbols.specs.declared.Symbol.TheVariants.{Nibble, J, K, T, R, H, N, S}
use Rattle.t1s_symbols.specs.Symbols.{same_symbol}
use Rattle.t1s_grammar.specs.declared.place.Phase.{Phase}
use Rattle.t1s_grammar.specs.declared.place.PlaceFault.{PlaceFault}
use Rattle.t1s_grammar.specs.PlaceTable.{start_phase, place_step}
use Rattle.t1s_pcs_rx.specs.declared.reader.Burst.{Burst}
use Rattle.t1s_pcs_rx.specs.declared.reader.Burst.TheVariants.{Outside, Reading, Ended}
use Rattle.t1s_pcs_rx.specs.Receiver.{Receiver}
use Rattle.t1s_pcs_rx.specs.ReceiveTable.{receive_step, after_judgement, class_of, class_at_end}
use Rattle.t1s_symbols.specs.Quarters.{continues_last}
use Rattle.t1s_world.specs.Waves.{CycleSettings, IsCycleSettings, Wave, AreApart, arrived, reads_beacon}
use Rattle.t1s_world.proofs.ArrivedWaves.{ArrivedNext, same, more, comes, lasts}
use Rattle.t1s_turns.specs.ReceiverOverWaves.{class_by, first_symbol, SpellsWave, is_settled, ReceiverOverWaves, silent, unheard, reads_first, known, past, late, LateReception, unsettled, settled, HeardOverWaves, nobody, drives, rests, theirs}

-- a receiver that is told of in two of its fields
pub record ReceiverHas (r : Receiver) (class : Class) (burst : Burst) : Type 0 where
  pub has_class : r.class ≡ class
  pub has_burst : r.burst ≡ burst

pub read_whole : (w : Wave) → w.beacon ≡ true → w.from + 4 ≤ w.till → reads_beacon w ≡ true
read_whole w flag long = let b : nat_le (w.from + 4) w.till ≡ true = search (rules, nat_tests) in rw (flag, b) refl

-- a symbol that the start takes, or not: the reading of it is settled
judged_settled : (r : Receiver) (q : Quarter) (class : Class) (place : Phase) (x : Result Phase PlaceFault) → is_settled (after_judgement r q class place x).burst ≡ true
judged_settled r q class place (Ok next) = refl
judged_settled r q class place (Err fault) = refl

judged_class : (r : Receiver) (q : Quarter) (class : Class) (place : Phase) (x : Result Phase PlaceFault) → (after_judgement r q class place x).class ≡ class
judged_class r q class place (Ok next) = refl
judged_class r q class place (Err fault) = refl

-- outside of a burst, and nothing is heard
pub hears_nothing : (r : Receiver) → ReceiverHas (receive_step r Nothing false) r.class Outside
unfolding receive_step
hears_nothing r = record { has_class = refl; has_burst = refl }

pub hears_nothing_own : (r : Receiver) → ReceiverHas (receive_step r Nothing true) Unread Outside
unfolding receive_step
hears_nothing_own r = record { has_class = refl; has_burst = refl }

-- the first quarter of a burst
first_quarter : (r : Receiver) (class : Class) (q : Quarter) → ReceiverHas r class Outside → q.part ≡ 0 → ReceiverHas (receive_step r (One q) false) Unread (Reading (Some q) true start_phase)
unfolding receive_step
first_quarter r class q h e = let b = h.has_burst in rw (b, e) (record { has_class = refl; has_burst = refl })

same_first : (beacon : Bool) (p q : Quarter) → p.sym ≡ first_symbol beacon → q.sym ≡ first_symbol beacon → same_symbol p.sym q.sym ≡ true
same_first true p q e f = rw (e, f) refl
same_first false p q e f = rw (e, f) refl

first_class : (beacon : Bool) (q : Quarter) → q.sym ≡ first_symbol beacon → class_of q.sym ≡ class_by beacon
first_class true q e = rw e refl
first_class false q e = rw e refl

-- a further quarter of the first symbol
next_quarter : (r : Receiver) (beacon : Bool) (p q : Quarter) → ReceiverHas r Unread (Reading (Some p) true start_phase) → p.sym ≡ first_symbol beacon → q.sym ≡ first_symbol beacon
    → q.part ≡ p.part + 1 → q.part < 3 → ReceiverHas (receive_step r (One q) false) Unread (Reading (Some q) true start_phase)
unfolding receive_step
next_quarter r beacon p q h e f next few =
    let same = same_first beacon p q e f in
    let b : (q.part == (p.part + 1)) ≡ true = grind (arith, nat_tests, next) in
    let d : (q.part == 3) ≡ false = grind (arith, nat_tests, few) in
    let i = h.has_burst in let c = h.has_class in
    rw (i, b, same, d) (record { has_class = c; has_burst = refl })

-- its last
last_quarter : (r : Receiver) (beacon : Bool) (p q : Quarter) → ReceiverHas r Unread (Reading (Some p) true start_phase) → p.sym ≡ first_symbol beacon → q.sym ≡ first_symbol beacon
    → q.part ≡ p.part + 1 → q.part ≡ 3 → ((receive_step r (One q) false).class ≡ class_by beacon) × (is_settled (receive_step r (One q) false).burst ≡ true)
unfolding receive_step
last_quarter r beacon p q h e f next full =
    let same = same_first beacon p q e f in
    let b : (q.part == (p.part + 1)) ≡ true = grind (arith, nat_tests, next) in
    let d : (q.part == 3) ≡ true = grind (arith, nat_tests, full) in
    let i = h.has_burst in
    let is = first_class beacon q f in
    rw (i, b, same, d) (judged_class r q (class_of q.sym) start_phase (place_step start_phase q.sym) ∙ is, judged_settled r q (class_of q.sym) start_phase (place_step start_phase q.sym))

-- a burst whose class is set, or whose reading has ended
settled_burst : (r : Receiver) (q : Quarter) (b : Burst) → r.burst ≡ b → is_settled b ≡ true → r.class ≢ Unread
    → ((receive_step r (One q) false).class ≡ r.class) × (is_settled (receive_step r (One q) false).burst ≡ true)
unfolding receive_step
settled_burst r q Outside e h some = absurd (false≢true h)
settled_burst r q Ended e h some = rw e (refl, refl)
settled_burst r q (Reading last true place) e h some = absurd (false≢true h)
settled_burst r q (Reading last false place) e h some =
    rw e (cond_both (continues_last last q) _ _ (λ (x : Receiver). (x.class ≡ r.class) × (is_settled x.burst ≡ true))
    (λ _. cond_both (q.part == 3) _ _ (λ (x : Receiver). (x.class ≡ r.class) × (is_settled x.burst ≡ true))
    (λ _. (judged_class r q r.class place _, judged_settled r q r.class place _)) (λ _. (refl, refl)))
    (λ _. (at_end r.class some, refl)))
  where
    at_end : (c : Class) → c ≢ Unread → class_at_end c false ≡ c
    at_end Unread other = absurd (other refl)
    at_end BeaconHeard other = refl
    at_end RunHeard other = refl
    at_end OtherHeard other = refl

-- a first symbol that is heard from within a wave on: either its reading ends, or its last quarter sets the class
late_quarter : (r : Receiver) (w : Wave) (p q : Quarter) → ReceiverHas r Unread (Reading (Some p) true start_phase) → (q.sym ≡ N → w.beacon ≡ true) → (q.part ≡ 3 → w.from + 4 ≤ w.till)
    → LateReception w (receive_step r (One q) false).class (receive_step r (One q) false).burst
unfolding receive_step
late_quarter r w p q h sound enough =
    let i = h.has_burst in
    let c = h.has_class in
    rw (i, c) (cond_both (continues_last (Some p) q) _ _ (λ (x : Receiver). LateReception w x.class x.burst)
    (λ _. cond_both (q.part == 3) _ _ (λ (x : Receiver). LateReception w x.class x.burst)
    (λ full. settled (late_class (grind (arith, nat_tests, full)) (place_step start_phase q.sym)) (some_class q.sym (place_step start_phase q.sym)) (judged_settled r q (class_of q.sym) start_phase (place_step start_phase q.sym)))
    (λ _. unsettled sound))
    (λ _. settled (λ e. cc) (λ e. cc) refl))
  where
    beacon_symbol : (y : Symbol) → class_of y ≡ BeaconHeard → y ≡ N
    beacon_symbol N e = refl
    beacon_symbol J e = absurd (cc)
    beacon_symbol (Nibble n) e = absurd (cc)
    beacon_symbol K e = absurd (cc)
    beacon_symbol T e = absurd (cc)
    beacon_symbol R e = absurd (cc)
    beacon_symbol H e = absurd (cc)
    beacon_symbol S e = absurd (cc)

    late_class : q.part ≡ 3 → (x : Result Phase PlaceFault) → (after_judgement r q (class_of q.sym) start_phase x).class ≡ BeaconHeard → reads_beacon w ≡ true
    late_class full x e = read_whole w (sound (beacon_symbol q.sym (sym (judged_class r q (class_of q.sym) start_phase x) ∙ e))) (enough full)

    is_some_class : (y : Symbol) → class_of y ≢ Unread
    is_some_class (Nibble n) e = cc
    is_some_class J e = cc
    is_some_class K e = cc
    is_some_class T e = cc
    is_some_class R e = cc
    is_some_class H e = cc
    is_some_class N e = cc
    is_some_class S e = cc

    some_class : (y : Symbol) (x : Result Phase PlaceFault) → (after_judgement r q (class_of y) start_phase x).class ≢ Unread
    some_class y x e = is_some_class y (sym (judged_class r q (class_of y) start_phase x) ∙ e)

-- the first quarter that is heard of a wave from within
late_first : (r : Receiver) (w : Wave) (class : Class) (q : Quarter) → ReceiverHas r class Outside → (q.sym ≡ N → w.beacon ≡ true) → q.part < 4
    → LateReception w (receive_step r (One q) false).class (receive_step r (One q) false).burst
unfolding receive_step
late_first r w class q h sound low =
    let i = h.has_burst in
    rw i (cond_both (q.part == 0) _ _ (λ (x : Receiver). LateReception w x.class x.burst)
    (λ zero. let d : (q.part == 3) ≡ false = grind (arith, nat_tests, zero) in rw d (unsettled sound))
    (λ _. settled (λ e. cc) (λ e. cc) refl))

unread_other : Unread ≡ BeaconHeard → ⊥
unread_other e = cc

class_some : (beacon : Bool) → class_by beacon ≢ Unread
class_some true e = cc
class_some false e = cc

class_sound : (beacon : Bool) → class_by beacon ≡ BeaconHeard → beacon ≡ true
class_sound true e = refl
class_sound false e = absurd (cc)

spells_sound : (w : Wave) (k : ℕ) (q : Quarter) → SpellsWave w k q → q.sym ≡ N → w.beacon ≡ true
spells_sound w k q h e = go w.beacon refl
  where
    go : (b : Bool) → w.beacon ≡ b → w.beacon ≡ true
    go true is = is
    go false is = absurd (h.other is e)

module _ (n : CycleSettings) (is : IsCycleSettings n) (begin t : ℕ) (started : begin ≤ t) where
  abbrev At : ℕ → List Wave → Receiver → Type 0
  At u ws r = ReceiverOverWaves n begin u ws r.class r.burst

  -- by fields
  at_by : (u : ℕ) (ws : List Wave) (r : Receiver) (class : Class) (burst : Burst) → r.class ≡ class → r.burst ≡ burst → ReceiverOverWaves n begin u ws class burst → At u ws r
  at_by u ws r class burst c b h = subst (λ (x : Class). ReceiverOverWaves n begin u ws x r.burst) (sym c) (subst (λ (x : Burst). ReceiverOverWaves n begin u ws class x) (sym b) h)

  by_has : (u : ℕ) (ws : List Wave) (r : Receiver) (class : Class) (burst : Burst) → ReceiverHas r class burst → ReceiverOverWaves n begin u ws class burst → At u ws r
  by_has u ws r class burst h x = at_by u ws r class burst h.has_class h.has_burst x

  abbrev Come : List Wave → Type 0
  Come [] = Unit {0}
  Come (w ∷ ws) = w.from < t

  same_waves : (r : Receiver) (ws : List Wave) (class : Class) (burst : Burst) (h : Heard) (own : Bool) → r.class ≡ class → r.burst ≡ burst → ReceiverOverWaves n begin t ws class burst → Come ws → HeardOverWaves t ws h own
      → At (t + 1) ws (receive_step r h own)
  same_waves r _ _ _ _ _ c b silent come nobody = by_has (t + 1) [] _ _ _ (hears_nothing r) (at_by (t + 1) [] (record r { burst = Outside }) Unread Outside c refl silent)
  same_waves r (w ∷ ws) _ _ _ _ c b x come (drives own on) = by_has (t + 1) (w ∷ ws) _ _ _ (hears_nothing_own r) (unheard {w = w} (inr (inr own)))
  same_waves r (w ∷ ws) _ _ _ _ c b (unheard (inl before)) come (rests over) = by_has (t + 1) (w ∷ ws) _ _ _ (hears_nothing r) (rw c (unheard {w = w} (inl before)))
  same_waves r (w ∷ ws) _ _ _ _ c b (unheard (inr (inl first))) come (rests over) = by_has (t + 1) (w ∷ ws) _ _ _ (hears_nothing r) (rw c (unheard {w = w} (inl (omega (arith, over, first)))))
  same_waves r (w ∷ ws) _ _ _ _ c b (unheard (inr (inr own))) come (rests over) = by_has (t + 1) (w ∷ ws) _ _ _ (hears_nothing r) (rw c (unheard {w = w} (inr (inr own))))
  same_waves r (w ∷ ws) _ _ _ _ c b (reads_first {q = q} other after at few in_time e) come (rests over) =
      by_has (t + 1) (w ∷ ws) _ _ _ (hears_nothing r) (rw c (past {w = w} other (omega (arith, over)) (λ low long. absurd (omega (arith, at, few, over, long))) (λ f. absurd (unread_other f))))
  same_waves r (w ∷ ws) _ _ _ _ c b (known other after long within i) come (rests over) =
      by_has (t + 1) (w ∷ ws) _ _ _ (hears_nothing r) (rw c (past {w = w} other (omega (arith, over)) (λ low l. refl) (λ f. read_whole w (class_sound w.beacon f) (omega (arith, long, within)))))
  same_waves r (w ∷ ws) _ _ _ _ c b (past other over whole sound) come (rests done) =
      by_has (t + 1) (w ∷ ws) _ _ _ (hears_nothing r) (rw c (past {w = w} other (omega (arith, over)) whole sound))
  same_waves r (w ∷ ws) class _ _ _ c b (late other before within on x) come (rests over) =
      by_has (t + 1) (w ∷ ws) _ _ _ (hears_nothing r) (rw c (past {w = w} other (omega (arith, over)) (λ low l. absurd (omega (arith, low, before))) (sound_of class _ x)))
    where
      sound_of : (class : Class) (burst : Burst) → LateReception w class burst → class ≡ BeaconHeard → reads_beacon w ≡ true
      sound_of _ _ (unsettled s) f = absurd (cc)
      sound_of class burst (settled s some i) f = s f
  same_waves r (w ∷ ws) _ _ _ _ c b (unheard (inl before)) come (theirs k other on at q) = absurd (omega (arith, before, on, started))
  same_waves r (w ∷ ws) _ _ _ _ c b (unheard (inr (inr own))) come (theirs k other on at q) = absurd (false≢true (sym other ∙ own))
  same_waves r (w ∷ ws) _ _ _ _ c b (unheard (inr (inl first))) come (theirs {q = q} k other on at spells) =
      late {w = w} other (omega (arith, come, first)) (omega (arith, on)) (omega (arith, started))
      (late_first r w Unread q (record { has_class = c; has_burst = b }) (spells_sound w k q spells) spells.low)
  same_waves r (w ∷ ws) _ _ _ _ c b (reads_first {q = p} other after at few in_time e) come (theirs {q = q} k x on from spells) =
      let next : q.part ≡ p.part + 1 = omega (arith, at, few, from, spells.part, spells.low) in
      let first : q.sym ≡ first_symbol w.beacon = spells.first (omega (arith, at, few, from)) in
      let has : ReceiverHas r Unread (Reading (Some p) true start_phase) = record { has_class = c; has_burst = b } in
      elim (cases_lt q.part 3) [
        | inl less ↦ by_has (t + 1) (w ∷ ws) _ _ _ (next_quarter r w.beacon p q has e first next less) (reads_first {w = w} {q = q} other after (omega (arith, at, next)) less (omega (arith, on)) first)
        | inr full ↦
            let three : q.part ≡ 3 = omega (arith, full, spells.low) in
            let (class, set) = last_quarter r w.beacon p q has e first next three in
            at_by (t + 1) (w ∷ ws) (receive_step r (One q) false) (class_by w.beacon) (receive_step r (One q) false).burst class refl
            (known {w = w} other after (omega (arith, at, next, three)) (omega (arith, on)) set)
      ]
  same_waves r (w ∷ ws) _ _ _ _ c b (known {burst = burst} other after long within i) come (theirs {q = q} k x on from spells) =
      let some : r.class ≢ Unread = λ e. class_some w.beacon (sym c ∙ e) in
      let (class, set) = settled_burst r q burst b i some in
      at_by (t + 1) (w ∷ ws) (receive_step r (One q) false) (class_by w.beacon) (receive_step r (One q) false).burst (class ∙ c) refl
      (known {w = w} other after (omega (arith, long)) (omega (arith, on)) set)
  same_waves r (w ∷ ws) _ _ _ _ c b (past other over whole sound) come (theirs k x on from spells) = absurd (omega (arith, over, on))
  same_waves r (w ∷ ws) _ _ _ _ c b (late other before within on x) come (theirs {q = q} k y go from spells) =
      late {w = w} other before (omega (arith, go)) (omega (arith, on)) (on_late _ _ c b x)
    where
      on_late : (class : Class) (burst : Burst) → r.class ≡ class → r.burst ≡ burst → LateReception w class burst → LateReception w (receive_step r (One q) false).class (receive_step r (One q) false).burst
      on_late _ _ c b (unsettled {q = p} s) = late_quarter r w p q (record { has_class = c; has_burst = b }) (spells_sound w k q spells) (λ full. omega (arith, full, spells.part, from, go, on))
      on_late class burst c b (settled s some i) =
          let (kept, set) = settled_burst r q burst b i (λ e. some (sym c ∙ e)) in
          settled (λ e. s (sym c ∙ (sym kept ∙ e))) (λ e. some (sym c ∙ (sym kept ∙ e))) set

  -- before a newer wave comes, the node is outside of a burst
  outside_before : (w : Wave) (ws : List Wave) (class : Class) (burst : Burst) → AreApart n (w ∷ ws) → w.from ≡ t → ReceiverOverWaves n begin t ws class burst → burst ≡ Outside
  outside_before w _ _ _ h now silent = refl
  outside_before w _ _ _ h now (unheard x) = refl
  outside_before w (a ∷ ws) _ _ h now (reads_first other after at few in_time e) = absurd (omega (arith, h.1.still, now, in_time))
  outside_before w (a ∷ ws) _ _ h now (known other after long within i) = absurd (omega (arith, h.1.still, now, within))
  outside_before w _ _ _ h now (past other over whole sound) = refl
  outside_before w (a ∷ ws) _ _ h now (late other before within on x) = absurd (omega (arith, h.1.still, now, within))

  new_wave : (r : Receiver) (w : Wave) (ws : List Wave) (h : Heard) (own : Bool) → r.burst ≡ Outside → w.from ≡ t → w.from < w.till → HeardOverWaves t (w ∷ ws) h own
      → At (t + 1) (w ∷ ws) (receive_step r h own)
  new_wave r w ws _ _ b now lt (drives own on) = by_has (t + 1) (w ∷ ws) _ _ _ (hears_nothing_own r) (unheard {w = w} (inr (inr own)))
  new_wave r w ws _ _ b now lt (rests over) = absurd (omega (arith, now, lt, over))
  new_wave r w ws _ _ b now lt (theirs {q = q} k other on from spells) =
      let zero_part : q.part ≡ 0 = omega (arith, now, from, spells.part, spells.low) in
      let first : q.sym ≡ first_symbol w.beacon = spells.first (omega (arith, now, from)) in
      by_has (t + 1) (w ∷ ws) _ _ _ (first_quarter r r.class q (record { has_class = refl; has_burst = b }) zero_part)
      (reads_first {w = w} {q = q} other (omega (arith, now, started)) (omega (arith, now, zero_part)) (omega (arith, zero_part)) (omega (arith, now, lt)) first)

  come_all : (ws : List Wave) → Come (arrived t ws)
  come_all [] = tt
  come_all (w ∷ ws) = cond_both (nat_lt w.from t) _ _ Come (λ e. grind (arith, nat_tests, e)) (λ _. come_all ws)

  pub receiver_next : (r : Receiver) (ws : List Wave) (h : Heard) (own : Bool) → AreApart n ws → At t (arrived t ws) r → HeardOverWaves t (arrived (t + 1) ws) h own
      → At (t + 1) (arrived (t + 1) ws) (receive_step r h own)
  receiver_next r ws h own behind at hears = go (comes n t ws behind)
    where
      go : ArrivedNext n t ws → At (t + 1) (arrived (t + 1) ws) (receive_step r h own)
      go (same e) =
          let hears' : HeardOverWaves t (arrived t ws) h own = subst (λ (xs : List Wave). HeardOverWaves t xs h own) e hears in
          subst (λ (xs : List Wave). At (t + 1) xs (receive_step r h own)) (sym e) (same_waves r (arrived t ws) r.class r.burst h own refl refl at (come_all ws) hears')
      go (more w e now lists) =
          let hears' : HeardOverWaves t (w ∷ arrived t ws) h own = subst (λ (xs : List Wave). HeardOverWaves t xs h own) e hears in
          subst (λ (xs : List Wave). At (t + 1) xs (receive_step r h own)) (sym e)
          (new_wave r w (arrived t ws) h own (outside_before w (arrived t ws) r.class r.burst lists now at) now (lasts n w (arrived t ws) lists) hears')
