-- A burst whose reading has ended.
use Rattle.std.proofs.Common.{◌≡◌, refl, Bool, true, false, List, [], ◌∷◌, length, sym, ap, subst}
use Rattle.std.specs.Prelude.{None}
use Rattle.t1s_symbols.specs.declared.Heard.{Heard}
use Rattle.t1s_symbols.specs.declared.Heard.TheVariants.{Nothing, One, Many}
use Rattle.t1s_pcs_rx.specs.declared.reader.Burst.{Burst}
use Rattle.t1s_pcs_rx.specs.declared.reader.Burst.TheVariants.{Ended}
use Rattle.t1s_pcs_rx.specs.Receiver.{Receiver}
use Rattle.t1s_pcs_rx.specs.ReceiveTable.{cleared, closing_in, receive_step, receive_event}
use Rattle.t1s_pcs_rx.specs.Laws.{events_heard}
use Rattle.t1s_pcs_rx.specs.Tails.{IsSignal, EndedGivesNoEvent, NothingEndsBurst, quiet}

-- a receiver in a state that it is known to have
pub known_burst : (r : Receiver) (b : Burst) → r.burst ≡ b → r ≡ record r { burst = b }
known_burst r b e = ap (λ (x : Burst). record r { burst = x }) e

-- one whose reading has ended
abbrev pub deaf : Receiver → Receiver
deaf r = record r { burst = Ended }

deaf-tick : (r : Receiver) (h : Heard) (own : Bool) → IsSignal h
    → (receive_event (deaf r) h own ≡ None) × (receive_step (deaf r) h own ≡ cleared (deaf r) own)
unfolding receive_step closing_in
deaf-tick r Nothing own s = absurd s
deaf-tick r (One q) false s = (refl, refl)
deaf-tick r (One q) true s = (refl, refl)
deaf-tick r Many own s = (refl, refl)

pub ended_gives_no_event : EndedGivesNoEvent
ended_gives_no_event r h own e s =
    subst (λ (x : Receiver). (receive_event x h own ≡ None) × (receive_step x h own ≡ cleared x own))
    (sym (known_burst r Ended e)) (deaf-tick r h own s)

pub nothing_ends_burst : NothingEndsBurst
unfolding receive_step closing_in
nothing_ends_burst r own = (refl, refl)

-- something is heard in each of these ticks
abbrev pub Signals : List Heard → Type 0
Signals [] = Unit {0}
Signals (h ∷ hs) = IsSignal h × Signals hs

-- no event comes then
pub deaf-quiet : (r : Receiver) (hs : List Heard) → Signals hs → events_heard (deaf r) hs ≡ quiet (length hs)
deaf-quiet r [] s = refl
deaf-quiet r (h ∷ hs) s =
    let now : (receive_event (deaf r) h false ≡ None) × (receive_step (deaf r) h false ≡ cleared (deaf r) false)
    = deaf-tick r h false s.0 in
    rw (now.1, now.0) (ap (λ es. None ∷ es) (deaf-quiet r hs s.1))
