-- The JSON summary has no number with a fraction, so its text is known.
use Rattle.std.proofs.Common.{◌≡◌, ℕ, false, List, [], ◌∷◌, map, Option, Some, None, refl}
use Rattle.serde_json.specs.Data.{Data}
use Rattle.serde_json.specs.View.{items_of}
use Rattle.serde_json.specs.Written.{has_float, items_have_float}
use Rattle.t1s_script.specs.declared.script.Script.{Script}
use Rattle.t1s_line.specs.declared.offers.Wait.{Wait}
use Rattle.t1s_line.specs.declared.offers.Wait.TheVariants.{Off, Full, Open, Left}
use Rattle.t1s_line.specs.World.{settled_below, totals_below}
use Rattle.t1s_report.specs.SummaryLines.{waits_below}
use Rattle.t1s_report.specs.JsonSummary.{settled_value, node_value, wait_value, offer_value, summary_value}

no_floats : {A : Type 0} (value : A → Data) → ((a : A) → has_float (value a) ≡ false) → (xs : List A) → items_have_float (items_of (map value xs)) ≡ false
no_floats value none [] = refl
no_floats value none (x ∷ xs) = rw (none x) (no_floats value none xs)

no_float_wait : (wait : Wait) → has_float (wait_value wait) ≡ false
no_float_wait Off = refl
no_float_wait Full = refl
no_float_wait Open = refl
no_float_wait (Left ticks) = refl

no_float_settled : (settled : Option ℕ) → has_float (settled_value settled) ≡ false
no_float_settled None = refl
no_float_settled (Some tick) = refl

pub no_float : (s : Script) (t : ℕ) → has_float (summary_value s t) ≡ false
no_float s t =
    rw (no_floats node_value (λ n. refl) (totals_below s t), no_floats offer_value (λ w. no_float_wait w.1) (waits_below s t), no_float_settled (settled_below s t)) refl
