-- A receiver that reads no more of a burst, in the further ticks of it.
use Rattle.std.proofs.Common.{◌≡◌, refl, ℕ, ◌+◌, ◌≤◌, Bool, true, false, List, ◌∙◌, arith}
use Rattle.std.specs.Prelude.{Option, Some, None, ◌==◌, ◌&&◌, ◌||◌}
use Rattle.std.proofs.lemmas.Bool.{eqb-true, ne_eqb}
use Rattle.t1s_symbols.specs.declared.Quarter.{Quarter}
use Rattle.t1s_symbols.specs.declared.Heard.{Heard}
use Rattle.t1s_symbols.specs.declared.Heard.TheVariants.{Nothing, One, Many}
use Rattle.t1s_symbols.specs.declared.Symbol.{Symbol}
use Rattle.t1s_symbols.specs.Quarters.{continues_last}
use Rattle.t1s_symbols.specs.Symbols.{same_symbol}
use Rattle.t1s_pcs_rx.specs.declared.reader.Burst.{Burst}
use Rattle.t1s_pcs_rx.specs.declared.reader.Burst.TheVariants.{Outside, Reading, Ended}
use Rattle.t1s_pcs_rx.specs.Receiver.{Receiver}
use Rattle.t1s_pcs_rx.specs.ReceiveTable.{closing_in, receive_event, receive_step}
use Rattle.t1s_pcs_rx.specs.Tails.{IsSignal}
use Rattle.t1s_pcs_rx.proofs.Ticks.{last_of}
use Rattle.t1s_capture.specs.Cut.{nothing_heard}

-- a tick that is not silent is a signal
pub is_signal : (h : Heard) → nothing_heard h ≡ false → IsSignal h
is_signal Nothing e = absurd (cc)
is_signal (One q) e = tt
is_signal Many e = tt

-- the reading of a burst has ended; or it never completes a symbol any more, since it goes on beyond the last part of one
abbrev pub IsSpent : Burst → Type 0
IsSpent Outside = ⊥
IsSpent (Reading None fresh place) = ⊥
IsSpent (Reading (Some q) fresh place) = 4 ≤ q.part
IsSpent Ended = Unit {0}

-- a receiver that reads no more of a burst, and whose descrambler has this history
abbrev pub IsLost : Receiver → List Bool → Type 0
IsLost r past = IsSpent r.burst × (r.history ≡ past)

abbrev LostOn : Receiver → Heard → Bool → Type 0
LostOn r h own = (receive_event r h own ≡ None) × IsLost (receive_step r h own) r.history

abbrev with_burst : Receiver → Burst → Receiver
with_burst r b = record r { burst = b }

pub not_third : (n : ℕ) → 4 ≤ n → (n == 3) ≡ false
not_third n h = ne_eqb n 3 (λ e. omega (arith, h, e))

beyond_last : (p q : Quarter) → 4 ≤ p.part → continues_last (Some p) q ≡ true → 4 ≤ q.part
beyond_last p q h e = by_test (q.part == (p.part + 1)) (same_symbol p.sym q.sym) (p.part == 3) refl (not_third p.part h) e
  where
    by_test : (a b c : Bool) → (q.part == (p.part + 1)) ≡ a → c ≡ false → ((a && b) || (c && (q.part == 0))) ≡ true → 4 ≤ q.part
    by_test true b c ea ec k = let is : q.part ≡ p.part + 1 = eqb-true q.part (p.part + 1) ea in omega (arith, is, h)
    by_test false b true ea ec k = absurd (cc)
    by_test false b false ea ec k = absurd (cc)

lost_from : (r : Receiver) (b : Burst) (h : Heard) (own : Bool) → IsSpent b → IsSignal h → LostOn (with_burst r b) h own
unfolding receive_step closing_in
lost_from r Outside h own spent s = absurd spent
lost_from r (Reading None fresh place) h own spent s = absurd spent
lost_from r (Reading (Some p) fresh place) Nothing own spent s = absurd s
lost_from r (Reading (Some p) fresh place) Many own spent s = (refl, (tt, refl))
lost_from r (Reading (Some p) fresh place) (One q) true spent s = (refl, (tt, refl))
lost_from r (Reading (Some p) fresh place) (One q) false spent s = by_test (continues_last (Some p) q) refl
  where
    by_test : (b : Bool) → continues_last (Some p) q ≡ b → LostOn (with_burst r (Reading (Some p) fresh place)) (One q) false
    by_test false e = (rw e refl, (rw e tt, rw e refl))
    by_test true e =
        let far = beyond_last p q spent e in
        let later = not_third q.part far in
        (rw (e, later) refl, (rw (e, later) far, rw (e, later) refl))
lost_from r Ended Nothing own spent s = absurd s
lost_from r Ended Many own spent s = (refl, (tt, refl))
lost_from r Ended (One q) true spent s = (refl, (tt, refl))
lost_from r Ended (One q) false spent s = (refl, (tt, refl))

pub lost_on : (r : Receiver) (past : List Bool) (h : Heard) (own : Bool) → IsLost r past → IsSignal h
    → (receive_event r h own ≡ None) × IsLost (receive_step r h own) past
lost_on r past h own lost s =
    let (none, after) = lost_from r r.burst h own lost.0 s in
    (none, (after.0, after.1 ∙ lost.1))

-- ---- the first quarter after a symbol

pub zero_begins : (last : Option Symbol) (q : Quarter) → (q.part == 0) ≡ true → continues_last (last_of last) q ≡ true
zero_begins None q e = e
zero_begins (Some s) q e = by_test ((q.part == 4) && same_symbol s q.sym)
  where
    by_test : (a : Bool) → (a || (q.part == 0)) ≡ true
    by_test true = refl
    by_test false = e

pub other_begins : (last : Option Symbol) (q : Quarter) → (q.part == 0) ≡ false → continues_last (last_of last) q ≡ true → 4 ≤ q.part
other_begins None q e k = absurd (cc)
other_begins (Some s) q e k = by_test (q.part == 4) (same_symbol s q.sym) refl k
  where
    by_test : (a b : Bool) → (q.part == 4) ≡ a → ((a && b) || (q.part == 0)) ≡ true → 4 ≤ q.part
    by_test true b ea f = let is : q.part ≡ 4 = eqb-true q.part 4 ea in omega (arith, is)
    by_test false b ea f = absurd (cc)
