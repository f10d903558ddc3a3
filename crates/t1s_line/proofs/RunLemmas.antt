-- What a run keeps, at its start and one tick later.
use Rattle.std.proofs.Common.{◌≡◌, ℕ, zero, suc, ◌+◌, List, [], ◌∷◌, map, false, cond, Some, None, refl, ◌∙◌, ap, add-one}
use Rattle.std.specs.Option.{option_or}
use Rattle.t1s_symbols.specs.declared.Heard.TheVariants.{Nothing}
use Rattle.t1s_world.specs.Lists.{each_with}
use Rattle.t1s_world.proofs.EventLemmas.{first_below-zero, first_below-more}
use Rattle.t1s_script.specs.Script.{numbers_of}
use Rattle.t1s_script.specs.declared.script.Act.{Act}
use Rattle.t1s_script.specs.declared.script.NodeLine.{NodeLine}
use Rattle.t1s_line.specs.declared.totals.NodeTotals.{NodeTotals}
use Rattle.t1s_line.specs.Offers.{OfferRecord, first_state, after_records, after_leaves}
use Rattle.t1s_line.specs.Outcomes.{DriveOutcome, HearOutcome, NodePhases}
use Rattle.t1s_line.specs.Runs.{are_ok, records_in, drives_in, hearings_in, all_ok_in, settled_in, totals_in, state_in, heard_below, heard_tick}
use Rattle.t1s_line.specs.Totals.{no_totals, after_refusal, after_refusals, after_driving, after_hearing}

-- ---- the numbers of the nodes stay in their totals

abbrev pub nodes_of : List NodeTotals → List ℕ
nodes_of ns = map (λ (n : NodeTotals). n.node) ns

pub numbers-refusal : (r : OfferRecord) (ns : List NodeTotals) → nodes_of (map (after_refusal r) ns) ≡ nodes_of ns
numbers-refusal r [] = refl
numbers-refusal r (n ∷ ns) = ap (λ (xs : List ℕ). n.node ∷ xs) (numbers-refusal r ns)

pub numbers-refusals : (rs : List OfferRecord) (ns : List NodeTotals) → nodes_of (after_refusals ns rs) ≡ nodes_of ns
numbers-refusals [] ns = refl
numbers-refusals (r ∷ rs) ns = numbers-refusals rs (map (after_refusal r) ns) ∙ numbers-refusal r ns

pub numbers-driving : (ns : List NodeTotals) (ds : List DriveOutcome) → nodes_of (each_with after_driving ns ds) ≡ nodes_of ns
numbers-driving [] ds = refl
numbers-driving (n ∷ ns) [] = refl
numbers-driving (n ∷ ns) (d ∷ ds) = ap (λ (xs : List ℕ). n.node ∷ xs) (numbers-driving ns ds)

pub numbers-hearing : (ns : List NodeTotals) (ds : List HearOutcome) → nodes_of (each_with after_hearing ns ds) ≡ nodes_of ns
numbers-hearing [] ds = refl
numbers-hearing (n ∷ ns) [] = refl
numbers-hearing (n ∷ ns) (d ∷ ds) = ap (λ (xs : List ℕ). n.node ∷ xs) (numbers-hearing ns ds)

numbers-first : (lines : List NodeLine) → nodes_of (map (λ (n : NodeLine). no_totals n.no) lines) ≡ numbers_of lines
numbers-first [] = refl
numbers-first (n ∷ lines) = ap (λ (xs : List ℕ). n.no ∷ xs) (numbers-first lines)

module _ {N : Type 0} (p : NodePhases N) (acts : List Act) (lines : List NodeLine) (first : List N) where
  -- ---- at the start

  pub settled-zero : settled_in p acts lines first 0 ≡ None
  settled-zero = first_below-zero (all_ok_in p acts lines first)

  pub totals-zero : totals_in p acts lines first 0 ≡ map (λ (n : NodeLine). no_totals n.no) lines
  unfolding totals_in
  totals-zero = refl

  pub state-zero : (number : ℕ) → state_in p acts lines first number 0 ≡ first_state acts number
  unfolding state_in
  state-zero number = refl

  pub heard-zero : heard_below p acts lines first 0 ≡ map (λ _. (Nothing, false)) lines
  unfolding heard_below
  heard-zero = refl

  -- ---- one tick later

  module _ (t : ℕ) where
    pub settled-more : settled_in p acts lines first (t + 1) ≡ option_or (settled_in p acts lines first t) (cond (are_ok (drives_in p acts lines first t)) (Some t) None)
    unfolding all_ok_in
    settled-more = first_below-more (all_ok_in p acts lines first) t

    pub totals-more : totals_in p acts lines first (t + 1) ≡ each_with after_hearing (each_with after_driving (after_refusals (totals_in p acts lines first t) (records_in p acts lines first t)) (drives_in p acts lines first t)) (hearings_in p acts lines first t)
    unfolding totals_in
    totals-more = rw add-one refl

    pub state-more : (number : ℕ) → state_in p acts lines first number (t + 1) ≡ after_leaves t number (after_records number (state_in p acts lines first number t) (records_in p acts lines first t)) (drives_in p acts lines first t)
    unfolding state_in
    state-more number = rw add-one refl

    pub heard-more : heard_below p acts lines first (t + 1) ≡ map heard_tick (hearings_in p acts lines first t)
    unfolding heard_below
    heard-more = rw add-one refl

  -- the numbers in the totals are those of the nodes
  pub numbers-totals : (t : ℕ) → nodes_of (totals_in p acts lines first t) ≡ numbers_of lines
  numbers-totals zero = rw totals-zero (numbers-first lines)
  numbers-totals (suc t) =
      let refused : List NodeTotals = after_refusals (totals_in p acts lines first t) (records_in p acts lines first t) in
      let driven : List NodeTotals = each_with after_driving refused (drives_in p acts lines first t) in
      let more : totals_in p acts lines first (suc t) ≡ each_with after_hearing driven (hearings_in p acts lines first t) = rw add-one at (totals-more t) in
      rw more
      (numbers-hearing driven (hearings_in p acts lines first t)
      ∙ (numbers-driving refused (drives_in p acts lines first t)
      ∙ (numbers-refusals (records_in p acts lines first t) (totals_in p acts lines first t) ∙ numbers-totals t)))
