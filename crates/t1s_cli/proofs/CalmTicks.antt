-- Calm ticks add no event, and silence to what a node hears.
use Rattle.std.proofs.Common.{◌≡◌, ℕ, zero, suc, ◌+◌, add-zero, ◌<◌, ◌≤◌, ◌==◌, Bool, true, false, cond, List, [], ◌∷◌, ◌++◌, replicate, Option, Some, None, refl, sym, ◌∙◌, ap, arith, append_assoc}
use Rattle.std.specs.Option.{is_some, option_map, option_to_list}
use Rattle.std.specs.Prelude.{length}
use Rattle.std.proofs.lemmas.List.{append-nil, replicate-append-replicate}
use Rattle.std.proofs.lemmas.List.Quantifiers.{position-Some}
use Rattle.t1s_symbols.specs.declared.Heard.{Heard}
use Rattle.t1s_symbols.specs.declared.Heard.TheVariants.{Nothing}
use Rattle.t1s_world.specs.Events.{events_below}
use Rattle.t1s_world.proofs.EventLemmas.{events_below-more}
use Rattle.t1s_script.specs.declared.script.NodeLine.{NodeLine}
use Rattle.t1s_script.specs.declared.script.Script.{Script}
use Rattle.t1s_line.specs.CalmTicks.{IsCalm}
use Rattle.t1s_line.specs.World.{heard_by, heard_in, last_heard, position_of, tick_in}
use Rattle.t1s_capture.specs.WriterTable.{quiet_ticks}
use Rattle.t1s_report.specs.HeardText.{ticks_heard}

module _ {E : Type 0} (events : ℕ → List E) (t : ℕ) where
  -- ticks without events add none
  pub none_added : (n : ℕ) → ((k : ℕ) → t ≤ k → k < t + n → events k ≡ []) → events_below events (t + n) ≡ events_below events t
  none_added zero none = rw add-zero refl
  none_added (suc n) none =
      let next : t + suc n ≡ (t + n) + 1 = omega arith in
      let last : events (t + n) ≡ [] = none (t + n) (omega arith) (omega arith) in
      let before = none_added n (λ k from till. none k from (omega (arith, till))) in
      rw (next, events_below-more events (t + n), last, append-nil (events_below events (t + n))) before

  -- and ticks with the same event add it so often
  pub same_added : (e : E) (n : ℕ) → ((k : ℕ) → t ≤ k → k < t + n → events k ≡ e ∷ []) → events_below events (t + n) ≡ events_below events t ++ replicate n e
  same_added e zero each = rw (add-zero, append-nil (events_below events t)) refl
  same_added e (suc n) each =
      let next : t + suc n ≡ (t + n) + 1 = omega arith in
      let more : suc n ≡ n + 1 = omega arith in
      let last : events (t + n) ≡ e ∷ [] = each (t + n) (omega arith) (omega arith) in
      let before = same_added e n (λ k from till. each k from (omega (arith, till))) in
      rw (next, events_below-more events (t + n), last, before, append_assoc (events_below events t) (replicate n e) (e ∷ []))
      (ap (λ (es : List E). events_below events t ++ es) (replicate-append-replicate n 1 e ∙ ap (λ (k : ℕ). replicate k e) (sym more)))

either : (b : Bool) → cond b Nothing Nothing ≡ Nothing
either true = refl
either false = refl

-- in a calm tick a node hears nothing, and does not drive
silent : (s : Script) (j k : ℕ) → j < length s.nodes → IsCalm s k → tick_in s j k ≡ (Nothing, false)
unfolding heard_in
silent s j k there calm = rw (calm.unreached j there, calm.no_noise, calm.no_drive j) (ap (λ (h : Heard). (h, false)) (either _))

-- so calm ticks add silence to what it hears
pub silence_heard : (s : Script) (node j t n : ℕ) → position_of s node ≡ Some j → ((k : ℕ) → t ≤ k → k < t + n → IsCalm s k)
    → ticks_heard s node (t + n) ≡ ticks_heard s node t ++ quiet_ticks n
silence_heard s node j t n at calm =
    let there : j < length s.nodes = (position-Some (λ (x : NodeLine). x.no == node) s.nodes j (record { no = 0; ids = []; place = 0; stub = 0; to = 0; start = 0; draws = None }) at).0 in
    same_added (λ u. option_to_list (heard_by s node u)) t (Nothing, false) n (λ k from till. rw (at, silent s j k there (calm k from till)) refl)

-- ticks add nothing to what a node hears that the script doesn't have
pub none_heard : (s : Script) (node t n : ℕ) → position_of s node ≡ None → ticks_heard s node (t + n) ≡ ticks_heard s node t
none_heard s node t n none = none_added (λ u. option_to_list (heard_by s node u)) t n (λ k from till. rw none refl)

module _ (s : Script) (node : ℕ) where
  there : (m : ℕ) (o : Option ℕ) → is_some (option_map (λ j. tick_in s j m) o) ≡ true → (j : ℕ) × (o ≡ Some j)
  there m None is = cc
  there m (Some j) is = (j, refl)

  missing : (m : ℕ) (o : Option ℕ) → is_some (option_map (λ j. tick_in s j m) o) ≡ false → o ≡ None
  missing m None is = refl
  missing m (Some j) is = cc

  -- what a node heard in the last tick tells whether the script has it
  pub has_node : (t : ℕ) → 1 ≤ t → is_some (last_heard s node t) ≡ true → (j : ℕ) × (position_of s node ≡ Some j)
  has_node zero some is = absurd (omega (arith, some))
  has_node (suc m) some is = there m (position_of s node) is

  pub has_no_node : (t : ℕ) → 1 ≤ t → is_some (last_heard s node t) ≡ false → position_of s node ≡ None
  has_no_node zero some is = absurd (omega (arith, some))
  has_no_node (suc m) some is = missing m (position_of s node) is
