-- A burst that is not read from where it is heard: its first quarter is no part 0, or a symbol is refused.
use Rattle.std.proofs.Common.{◌≡◌, refl, ℕ, zero, suc, ◌<◌, Bool, false, List, [], ◌∷◌, ◌++◌, length, drop, ap, ◌∙◌, arith, ◌==◌}
use Rattle.std.specs.Prelude.{Option, Some, None, Err}
use Rattle.std.specs.List.{flat_map}
use Rattle.t1s_symbols.specs.declared.Quarter.{Quarter}
use Rattle.t1s_symbols.specs.declared.Class.{Class}
use Rattle.t1s_symbols.specs.declared.Class.TheVariants.{Other}
use Rattle.t1s_symbols.specs.declared.Heard.{Heard}
use Rattle.t1s_symbols.specs.declared.Heard.TheVariants.{One}
use Rattle.t1s_symbols.specs.declared.Symbol.{Symbol}
use Rattle.t1s_symbols.specs.declared.Symbol.TheVariants.{J, H}
use Rattle.t1s_symbols.proofs.Quarters.{same_symbol-refl}
use Rattle.t1s_grammar.specs.declared.place.Phase.{Phase}
use Rattle.t1s_grammar.specs.declared.place.Phase.TheVariants.{Between}
use Rattle.t1s_grammar.specs.declared.place.PlaceFault.{PlaceFault}
use Rattle.t1s_grammar.specs.declared.place.PlaceFault.TheVariants.{NotHere}
use Rattle.t1s_grammar.specs.PlaceTable.{start_phase, place_step}
use Rattle.t1s_pcs_rx.specs.Receiver.{Receiver}
use Rattle.t1s_pcs_rx.specs.ReceiveTable.{class_after, closing_in, receive_step, receive_event}
use Rattle.t1s_pcs_rx.specs.Laws.{events_heard, quarters}
use Rattle.t1s_pcs_rx.specs.Tails.{quiet}
use Rattle.t1s_pcs_rx.proofs.Bursts.{at-begun, begun, entering, outside}
use Rattle.t1s_pcs_rx.proofs.Ended.{deaf, deaf-quiet, Signals}
use Rattle.t1s_pcs_rx.proofs.Ticks.{At, Goes, goes-symbol, last_of, quarter, reading, step-0, step-1, step-2, none-0, none-1, none-2, tick}

-- symbols are signals in each of their ticks
pub signals-symbols : (symbols : List Symbol) → Signals (flat_map quarters symbols)
signals-symbols [] = tt
signals-symbols (s ∷ ss) = (tt, (tt, (tt, (tt, signals-symbols ss))))

-- ---- the first quarter is no part 0

off-first : (r : Receiver) (q : Quarter) → (q.part == 0) ≡ false
    → (receive_event (outside r) (One q) false ≡ None) × (receive_step (outside r) (One q) false ≡ deaf (record r { class = Other }))
unfolding receive_step closing_in
off-first r q e = (rw e refl, rw e refl)

off-quiet : (r : Receiver) (q : Quarter) (hs : List Heard) → (q.part == 0) ≡ false → Signals hs
    → events_heard (outside r) (One q ∷ hs) ≡ quiet (suc (length hs))
off-quiet r q hs e s =
    let first : (receive_event (outside r) (One q) false ≡ None) × (receive_step (outside r) (One q) false ≡ deaf (record r { class = Other }))
    = off-first r q e in
    rw (first.0, first.1) (ap (λ es. None ∷ es) (deaf-quiet (record r { class = Other }) hs s))

-- symbols that are heard from within the first of them on
pub late-quiet : (r : Receiver) (symbols : List Symbol) (part : ℕ) → 0 < part → part < 4
    → events_heard (outside r) (drop part (flat_map quarters symbols)) ≡ quiet (length (drop part (flat_map quarters symbols)))
late-quiet r symbols zero h l = absurd (omega arith)
late-quiet r [] (suc n) h l = refl
late-quiet r (s ∷ ss) (suc zero) h l =
    off-quiet r (quarter s 1) (One (quarter s 2) ∷ One (quarter s 3) ∷ flat_map quarters ss) refl (tt, (tt, signals-symbols ss))
late-quiet r (s ∷ ss) (suc (suc zero)) h l = off-quiet r (quarter s 2) (One (quarter s 3) ∷ flat_map quarters ss) refl (tt, signals-symbols ss)
late-quiet r (s ∷ ss) (suc (suc (suc zero))) h l = off-quiet r (quarter s 3) (flat_map quarters ss) refl (signals-symbols ss)
late-quiet r (s ∷ ss) (suc (suc (suc (suc n)))) h l = absurd (omega arith)

-- ---- a symbol is refused

module _ (class : Class) (fresh : Bool) (place : Phase) (past : List Bool) (heard : List ℕ) (s : Symbol) (fault : PlaceFault) where
  pub refused-3 : place_step place s ≡ Err fault
      → receive_step (reading class (Some (quarter s 2)) fresh place past heard) (One (quarter s 3)) false
      ≡ deaf (reading (class_after class fresh s) None fresh place past heard)
  unfolding receive_step
  refused-3 e = rw (same_symbol-refl s, e) refl

  pub refused-none : place_step place s ≡ Err fault
      → closing_in (reading class (Some (quarter s 2)) fresh place past heard) (One (quarter s 3)) false ≡ None
  unfolding closing_in
  refused-none e = rw (same_symbol-refl s, e) refl

refused-read : (class : Class) (last : Option Symbol) (fresh : Bool) (place : Phase) (past : List Bool) (heard : List ℕ) (s : Symbol) (fault : PlaceFault)
    (hs : List Heard) → place_step place s ≡ Err fault → Signals hs
    → events_heard (reading class (last_of last) fresh place past heard) (quarters s ++ hs) ≡ quiet (suc (suc (suc (suc (length hs)))))
refused-read class last fresh place past heard s fault hs e sounds =
    let r0 : Receiver = reading class (last_of last) fresh place past heard in
    let r1 : Receiver = reading class (Some (quarter s 0)) fresh place past heard in
    let r2 : Receiver = reading class (Some (quarter s 1)) fresh place past heard in
    let r3 : Receiver = reading class (Some (quarter s 2)) fresh place past heard in
    let r4 : Receiver = reading (class_after class fresh s) None fresh place past heard in
    let q0 : Heard = One (quarter s 0) in
    let q1 : Heard = One (quarter s 1) in
    let q2 : Heard = One (quarter s 2) in
    let q3 : Heard = One (quarter s 3) in
    tick r0 r1 q0 None (q1 ∷ q2 ∷ q3 ∷ hs) (none-0 class fresh place past heard s last) (step-0 class fresh place past heard s last)
    ∙ ap (λ es. None ∷ es) (tick r1 r2 q1 None (q2 ∷ q3 ∷ hs) (none-1 class fresh place past heard s) (step-1 class fresh place past heard s))
    ∙ ap (λ es. None ∷ None ∷ es) (tick r2 r3 q2 None (q3 ∷ hs) (none-2 class fresh place past heard s) (step-2 class fresh place past heard s))
    ∙ ap (λ es. None ∷ None ∷ None ∷ es) (tick r3 (deaf r4) q3 None hs (refused-none class fresh place past heard s fault e) (refused-3 class fresh place past heard s fault e))
    ∙ ap (λ es. None ∷ None ∷ None ∷ None ∷ es) (deaf-quiet r4 hs sounds)

pub refused-quiet : (r : Receiver) (place : Phase) (past : List Bool) (heard : List ℕ) (s : Symbol) (fault : PlaceFault) (hs : List Heard)
    → At r place past heard → place_step place s ≡ Err fault → Signals hs
    → events_heard r (quarters s ++ hs) ≡ quiet (suc (suc (suc (suc (length hs)))))
refused-quiet r place past heard s fault hs at e sounds =
    rw (at.is) (refused-read at.class at.last at.fresh place past heard s fault hs e sounds)

-- the first symbol is refused
pub first-quiet : (r : Receiver) (s : Symbol) (ss : List Symbol) → place_step start_phase s ≡ Err NotHere
    → events_heard (outside r) (flat_map quarters (s ∷ ss)) ≡ quiet (length (flat_map quarters (s ∷ ss)))
first-quiet r s ss e =
    entering r (s ∷ ss)
    ∙ refused-quiet (begun r) start_phase r.history r.nibbles s NotHere (flat_map quarters ss) (at-begun r) e (signals-symbols ss)

-- one J is too few before H
pub short-quiet : (r : Receiver) (ss : List Symbol)
    → events_heard (outside r) (flat_map quarters (J ∷ H ∷ ss)) ≡ quiet (length (flat_map quarters (J ∷ H ∷ ss)))
short-quiet r ss =
    let more : List Heard = flat_map quarters ss in
    let lead : Goes (begun r) (quarters J) (None ∷ None ∷ None ∷ None ∷ []) (Between 0 1) r.history r.nibbles
    = goes-symbol (begun r) start_phase (Between 0 1) r.history r.nibbles J (at-begun r) refl in
    entering r (J ∷ H ∷ ss)
    ∙ lead.told (quarters H ++ more)
    ∙ ap (λ es. None ∷ None ∷ None ∷ None ∷ es)
    (refused-quiet lead.next (Between 0 1) r.history r.nibbles H NotHere more lead.at_place refl (signals-symbols ss))
