-- How long the data path is calm, and what its calm ticks lead through.
use Rattle.std.proofs.Common.{◌≡◌, ℕ, ◌-◌, ◌<◌, ◌≤◌, ◌==◌, Bool, true, false, if◌then◌else◌, List, [], refl, arith, ap, sym, subst, ◌∙◌}
use Rattle.std.specs.Prelude.{IsTrue, min}
use Rattle.std.specs.Fn.{iterate}
use Rattle.std.proofs.lemmas.Bool.{cond_both, ne_eqb}
use Rattle.std.proofs.lemmas.Bool.Decides.{nat_tests}
use Rattle.t1s_symbols.specs.declared.Class.{Class}
use Rattle.t1s_symbols.specs.declared.Class.TheVariants.{Run as RunHeard, Other as OtherHeard}
use Rattle.t1s_symbols.specs.CalmSteps.{AreCalm, IsCalmFor}
use Rattle.t1s_symbols.proofs.CalmSteps.{IsCalmPath, rests, acts, cut, path_calm_for, path_whole, calm_steps_pass}
use Rattle.plca_data.specs.declared.DataIn.{DataIn}
use Rattle.plca_data.specs.declared.MacOut.{MacOut}
use Rattle.plca_data.specs.declared.MacOut.TheVariants.{Nothing, Nibble, Ended}
use Rattle.plca_data.specs.declared.data_path.State.{State}
use Rattle.plca_data.specs.declared.data_path.State.TheVariants.{Silent, Idle, Hold, Collide, DelayPending, Pending, WaitMac, Transmit}
use Rattle.plca_data.specs.DataPathTable.{data_path_step}
use Rattle.plca_data.specs.CalmData.{uncounted, path_after, IsCalmData, keeps, lasts, calm_ticks, passed}
use Rattle.plca_data.specs.Ranges.{in_range}

-- the state after a tick that keeps it
abbrev left_by : State → State
left_by (DelayPending n) = if n == 1 then Pending else DelayPending (n - 1)
left_by st = st

-- whether a tick is calm doesn't hang on the line
abbrev IsCalmState : State → DataIn → Type 0
IsCalmState st i = IsCalmData i (st, [])

-- a tick that keeps the state and the line, and one that does not
abbrev Judged : State → DataIn → Bool → Type 0
Judged st i true = (line : List ℕ) → data_path_step st i line ≡ (left_by st, line)
Judged st i false = IsCalmState st i → ⊥

-- an input, by its parts
abbrev told : Bool → Bool → Bool → Bool → Class → Bool → MacOut → DataIn
told active own closed crs class hit mac =
    record { active = active; own = own; closed = closed; crs = crs; class = class; hit = hit; mac = mac }

abbrev JudgedBy : State → Type 0
JudgedBy st = (active own closed crs : Bool) (class : Class) (hit : Bool) (mac : MacOut) →
    Judged st (told active own closed crs class hit mac) (keeps st (told active own closed crs class hit mac))

silent_judged : JudgedBy Silent
silent_judged true own closed crs class hit Nothing = λ calm. let other = (calm []).1 in cc
silent_judged true own closed crs class hit (Nibble x) = λ calm. let other = (calm []).1 in cc
silent_judged true own closed crs class hit Ended = λ calm. let other = (calm []).1 in cc
silent_judged false own closed crs class hit Nothing = λ line. refl
silent_judged false own closed crs class hit (Nibble x) = λ calm. let other = (calm []).1 in cc
silent_judged false own closed crs class hit Ended = λ line. refl

idle_judged : JudgedBy Idle
idle_judged true own closed crs class hit Nothing = λ line. refl
idle_judged true own closed crs class hit (Nibble x) = λ calm. let other = (calm []).1 in cc
idle_judged true own closed crs class hit Ended = λ line. refl
idle_judged false own closed crs class hit Nothing = λ calm. let other = (calm []).1 in cc
idle_judged false own closed crs class hit (Nibble x) = λ calm. let other = (calm []).1 in cc
idle_judged false own closed crs class hit Ended = λ calm. let other = (calm []).1 in cc

hold_judged : JudgedBy Hold
hold_judged false own closed crs class hit mac = λ calm. let other = (calm []).1 in cc
hold_judged true true closed crs class hit mac = λ calm. let other = (calm []).1 in cc
hold_judged true false closed true RunHeard hit mac = λ calm. let other = (calm []).1 in cc
hold_judged true false closed true OtherHeard hit mac = λ calm. let other = (calm []).1 in cc
hold_judged true false closed _ _ hit Nothing = λ line. refl
hold_judged true false closed _ _ hit (Nibble x) = λ calm. let other = (calm []).0 in cc
hold_judged true false closed _ _ hit Ended = λ calm. let other = (calm []).1 in cc

collide_judged : JudgedBy Collide
collide_judged active own closed crs class hit Nothing = λ line. refl
collide_judged active own closed crs class hit (Nibble x) = λ line. refl
collide_judged true own closed crs class hit Ended = λ calm. let other = (calm []).1 in cc
collide_judged false own closed crs class hit Ended = λ calm. let other = (calm []).1 in cc

-- a choice of states over one line
one_line : (b : Bool) (st su : State) (line : List ℕ) →
    let over : State → State × List ℕ = λ x. (x, line) in (if b then over st else over su) ≡ over (if b then st else su)
one_line true st su line = refl
one_line false st su line = refl

delay_judged : (n : ℕ) → JudgedBy (DelayPending n)
delay_judged n true own closed crs class hit Nothing = λ line. one_line (n == 1) Pending (DelayPending (n - 1)) line
delay_judged n true own closed crs class hit (Nibble x) = λ calm. let other = (calm []).1 in cc
delay_judged n true own closed crs class hit Ended = λ line. one_line (n == 1) Pending (DelayPending (n - 1)) line
delay_judged n false own closed crs class hit Nothing = λ calm. let other = (calm []).1 in cc
delay_judged n false own closed crs class hit (Nibble x) = λ calm. let other = (calm []).1 in cc
delay_judged n false own closed crs class hit Ended = λ calm. let other = (calm []).1 in cc

pending_judged : JudgedBy Pending
pending_judged true true closed crs class hit Nothing = λ calm. let other = (calm []).1 in cc
pending_judged true true closed crs class hit (Nibble x) = λ calm. let other = (calm []).1 in cc
pending_judged true true closed crs class hit Ended = λ calm. let other = (calm []).1 in cc
pending_judged true false closed crs class hit Nothing = λ line. refl
pending_judged true false closed crs class hit (Nibble x) = λ calm. let other = (calm []).1 in cc
pending_judged true false closed crs class hit Ended = λ line. refl
pending_judged false own closed crs class hit Nothing = λ calm. let other = (calm []).1 in cc
pending_judged false own closed crs class hit (Nibble x) = λ calm. let other = (calm []).1 in cc
pending_judged false own closed crs class hit Ended = λ calm. let other = (calm []).1 in cc

wait_mac_judged : JudgedBy WaitMac
wait_mac_judged true false closed crs class hit Nothing = λ calm. let other = (calm []).1 in cc
wait_mac_judged true false closed crs class hit (Nibble x) = λ calm. let other = (calm []).1 in cc
wait_mac_judged true false closed crs class hit Ended = λ calm. let other = (calm []).1 in cc
wait_mac_judged false false closed crs class hit Nothing = λ calm. let other = (calm []).1 in cc
wait_mac_judged false false closed crs class hit (Nibble x) = λ calm. let other = (calm []).1 in cc
wait_mac_judged false false closed crs class hit Ended = λ calm. let other = (calm []).1 in cc
wait_mac_judged active true closed crs class hit Nothing = λ line. refl
wait_mac_judged active true closed crs class hit (Nibble x) = λ calm. let other = (calm []).1 in cc
wait_mac_judged active true closed crs class hit Ended = λ line. refl

transmit_judged : (ended bad : Bool) → JudgedBy (Transmit ended bad)
transmit_judged ended bad true false closed crs class hit Nothing = λ calm. let other = (calm []).1 in cc
transmit_judged ended bad true false closed crs class hit (Nibble x) = λ calm. let other = (calm []).1 in cc
transmit_judged ended bad true false closed crs class hit Ended = λ calm. let other = (calm []).1 in cc
transmit_judged ended bad false false closed crs class hit Nothing = λ calm. let other = (calm []).1 in cc
transmit_judged ended bad false false closed crs class hit (Nibble x) = λ calm. let other = (calm []).1 in cc
transmit_judged ended bad false false closed crs class hit Ended = λ calm. let other = (calm []).1 in cc
transmit_judged ended bad active true true crs class hit mac = λ calm. let other = (calm []).1 in cc
transmit_judged ended bad active true false crs class hit (Nibble x) = λ calm. let pushes = (calm []).0 in cc
transmit_judged true true active true false crs class hit Nothing = λ line. refl
transmit_judged false true active true false crs class hit Nothing = λ line. refl
transmit_judged true false active true false crs class true Nothing = λ calm. let other = (calm []).1 in cc
transmit_judged false false active true false crs class true Nothing = λ calm. let other = (calm []).1 in cc
transmit_judged true false active true false crs class false Nothing = λ line. refl
transmit_judged false false active true false crs class false Nothing = λ line. refl
transmit_judged true true active true false crs class hit Ended = λ line. refl
transmit_judged true false active true false crs class true Ended = λ calm. let other = (calm []).1 in cc
transmit_judged true false active true false crs class false Ended = λ line. refl
transmit_judged false bad active true false crs class hit Ended = λ calm. let other = (calm []).1 in cc

judged : (st : State) → JudgedBy st
judged Silent = silent_judged
judged Idle = idle_judged
judged Hold = hold_judged
judged Collide = collide_judged
judged (DelayPending n) = delay_judged n
judged Pending = pending_judged
judged WaitMac = wait_mac_judged
judged (Transmit ended bad) = transmit_judged ended bad

passed_zero : (st : State) → passed st 0 ≡ st
passed_zero (DelayPending n) = ap DelayPending (omega arith)
passed_zero Silent = refl
passed_zero Idle = refl
passed_zero Hold = refl
passed_zero Collide = refl
passed_zero Pending = refl
passed_zero WaitMac = refl
passed_zero (Transmit ended bad) = refl

module _ (i : DataIn) (line : List ℕ) (most : ℕ) where
  abbrev over : State → State × List ℕ
  over st = (st, line)

  abbrev Path : State → ℕ → Type 0
  Path st n = IsCalmPath (path_after i) (IsCalmData i) (λ k. over (passed st k)) most n

  here : (st : State) → Judged st i (keeps st i)
  here st = judged st i.active i.own i.closed i.crs i.class i.hit i.mac

  kept : (st : State) → keeps st i ≡ true → (any : List ℕ) → data_path_step st i any ≡ (left_by st, any)
  kept st keeps_it = subst (Judged st i) keeps_it (here st)

  act : (st : State) → keeps st i ≡ false → Path st 0
  act st other = acts (path_after i) (IsCalmData i) (λ k. over (passed st k)) most
      (λ calm. (subst (Judged st i) other (here st)) (subst (λ x. IsCalmState x i) (passed_zero st) calm))

  calm_row : (st next : State) → keeps st i ≡ true → left_by st ≡ next → uncounted next ≡ uncounted st → IsCalmData i (over st)
  calm_row st next keeps_it leaves same any =
      let e = kept st keeps_it any in
      (ap (λ (r : State × List ℕ). r.1) e, ap (λ (r : State × List ℕ). uncounted r.0) e ∙ (ap uncounted leaves ∙ same))

  next_row : (st next : State) → keeps st i ≡ true → left_by st ≡ next → path_after i (over st) ≡ over next
  next_row st next keeps_it leaves = kept st keeps_it line ∙ ap over leaves

  rest : (st : State) → keeps st i ≡ true → left_by st ≡ st → IsCalmPath (path_after i) (IsCalmData i) (λ _. over st) most most
  rest st keeps_it leaves = rests (path_after i) (IsCalmData i) (over st) most (calm_row st st keeps_it leaves refl) (next_row st st keeps_it leaves)

  waits : (n : ℕ) → 1 ≤ n → keeps (DelayPending n) i ≡ true → Path (DelayPending n) (min (n - 1) most)
  waits n some keeps_it = cut (path_after i) (IsCalmData i) (λ k. over (DelayPending (n - k))) (n - 1) most
      (λ k below. calm_row (DelayPending (n - k)) (DelayPending (n - k - 1)) keeps_it (counts k below) refl)
      (λ k below. next_row (DelayPending (n - k)) (DelayPending (n - k - 1)) keeps_it (counts k below) ∙ ap (λ m. over (DelayPending m)) (omega arith))
      (let last : n - (n - 1) ≡ 1 = omega arith in
      rw last (λ calm. let e = ap (λ (r : State × List ℕ). uncounted r.0) (kept (DelayPending 1) keeps_it []) in let other = (calm []).1 in cc))
    where
      counts : (k : ℕ) → k < n - 1 → left_by (DelayPending (n - k)) ≡ DelayPending (n - k - 1)
      counts k below = rw (ne_eqb (n - k) 1 (λ e. omega arith)) refl

  lasting : (st : State) → IsTrue (in_range st) → keeps st i ≡ true → Path st (lasts st most)
  lasting (DelayPending n) within keeps_it = waits n (grind (arith, nat_tests)) keeps_it
  lasting Silent within keeps_it = rest Silent keeps_it refl
  lasting Idle within keeps_it = rest Idle keeps_it refl
  lasting Hold within keeps_it = rest Hold keeps_it refl
  lasting Collide within keeps_it = rest Collide keeps_it refl
  lasting Pending within keeps_it = rest Pending keeps_it refl
  lasting WaitMac within keeps_it = rest WaitMac keeps_it refl
  lasting (Transmit ended bad) within keeps_it = rest (Transmit ended bad) keeps_it refl

  -- the data path is calm along the path of its count
  pub data_path_path : (st : State) → IsTrue (in_range st) → Path st (calm_ticks st i most)
  data_path_path st within = cond_both (keeps st i) _ _ (Path st) (λ on. lasting st within on) (λ off. act st off)

module _ (st : State) (i : DataIn) (line : List ℕ) (within : IsTrue (in_range st)) where
  pub data_calm_for : (most : ℕ) → IsCalmFor (path_after i) (IsCalmData i) (st, line) most (calm_ticks st i most)
  data_calm_for most =
      subst (λ x. IsCalmFor (path_after i) (IsCalmData i) (over i line most x) most (calm_ticks st i most)) (passed_zero st)
      (path_calm_for (path_after i) (IsCalmData i) (λ k. over i line most (passed st k)) most (calm_ticks st i most) (data_path_path i line most st within))

  module _ (n : ℕ) (all : AreCalm (path_after i) (IsCalmData i) (st, line) n) where
    from_path : AreCalm (path_after i) (IsCalmData i) (passed st 0, line) n
    from_path = subst (λ x. AreCalm (path_after i) (IsCalmData i) (over i line n x) n) (sym (passed_zero st)) all

    pub data_calm_ticks : n ≤ calm_ticks st i n
    data_calm_ticks = path_whole (path_after i) (IsCalmData i) (λ k. over i line n (passed st k)) n (calm_ticks st i n) (data_path_path i line n st within) from_path

    pub data_pass : over i line n (passed st n) ≡ iterate (path_after i) n (over i line n st)
    data_pass = sym (subst (λ x. iterate (path_after i) n (over i line n x) ≡ over i line n (passed st n)) (passed_zero st)
        (calm_steps_pass (path_after i) (IsCalmData i) (λ k. over i line n (passed st k)) n (calm_ticks st i n) (data_path_path i line n st within) from_path))
