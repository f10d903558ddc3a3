-- The IDs of a fit script's nodes: one node has the ID 0, and each ID is of one node, which may have several.
use Rattle.std.proofs.Common.{◌≡◌, ℕ, suc, ◌+◌, ◌==◌, ◌<◌, ◌≤◌, inl, inr, Bool, true, false, cond, List, [], ◌∷◌, length, Option, None, Some, refl, sym, ◌∙◌, ap, subst, arith, All}
use Rattle.std.specs.Prelude.{slice_get}
use Rattle.std.proofs.lemmas.Bool.{cases_lt, true≢false}
use Rattle.std.proofs.lemmas.Bool.Decides.{nat_tests}
use Rattle.std.proofs.lemmas.List.Elements.{All-head, All-tail}
use Rattle.std.proofs.lemmas.List.Sums.{sum_by-cons}
use Rattle.std.proofs.lemmas.Option.{slice_get_within, get_or_from_slice_get}
use Rattle.t1s_base.specs.NodeIds.{has_id}
use Rattle.t1s_world.specs.Schedule.{AreOwners}
use Rattle.t1s_script.specs.Fit.{coordinators, IsFit}
use Rattle.t1s_script.specs.declared.script.Script.{Script}
use Rattle.t1s_script.specs.declared.script.NodeLine.{NodeLine}
use Rattle.t1s_schedule.specs.SharedLine.{owns_id, owner_in}

-- what holds of each element of a list holds of the one at a place
pub all_at : {X : Type 0} (P : X → Type 0) (xs : List X) (i : ℕ) (x : X) → slice_get xs i ≡ Some x → All P xs → P x
all_at P xs i x at all = subst P (get_or_from_slice_get xs i x x at) (all i x (slice_get_within xs i x at))

-- ---- the node with the ID 0

-- a node of these has the ID 0
pub record HasZero (nodes : List NodeLine) : Type 0 where
  pub position : ℕ
  pub line : NodeLine
  pub at : slice_get nodes position ≡ Some line
  pub id : has_id line.ids 0 ≡ true

has_zero : (nodes : List NodeLine) → 1 ≤ coordinators nodes → HasZero nodes
has_zero [] some = absurd (omega (arith, some))
has_zero (n ∷ ns) some = by (has_id n.ids 0) refl (omega (arith, some, sum_by-cons (λ (m : NodeLine). cond (has_id m.ids 0) 1 0) n ns)) (has_zero ns)
  where
    by : (b : Bool) → has_id n.ids 0 ≡ b → 1 ≤ cond b 1 0 + coordinators ns → (1 ≤ coordinators ns → HasZero ns) → HasZero (n ∷ ns)
    by true e h older = record { position = 0; line = n; at = refl; id = e }
    by false e h older =
        let later = older (omega (arith, h)) in
        record { position = suc later.position; line = later.line; at = later.at; id = later.id }

-- ---- which node has which ID

-- a node with an ID stands in the script
pub record Owns (s : Script) (i x : ℕ) : Type 0 where
  pub line : NodeLine
  pub at : slice_get s.nodes i ≡ Some line
  pub id : has_id line.ids x ≡ true

pub owner_line : (s : Script) (i x : ℕ) → owner_in s i x ≡ true → Owns s i x
owner_line s i x e = by (slice_get s.nodes i) refl e
  where
    by : (o : Option NodeLine) → slice_get s.nodes i ≡ o → owns_id x o ≡ true → Owns s i x
    by None at h = cc
    by (Some line) at h = record { line = line; at = at; id = h }

pub line_owner : (s : Script) (i x : ℕ) (line : NodeLine) → slice_get s.nodes i ≡ Some line → has_id line.ids x ≡ true → owner_in s i x ≡ true
line_owner s i x line at e = ap (owns_id x) at ∙ e

-- what holds of each ID of a list holds of one that is in it
held_id : (P : ℕ → Type 0) (ids : List ℕ) (x : ℕ) → All P ids → has_id ids x ≡ true → P x
held_id P [] x all e = absurd (cc)
held_id P (id ∷ ids) x all e = by (id == x) refl (λ later. held_id P ids x (All-tail P id ids all) later)
  where
    by : (b : Bool) → (id == x) ≡ b → (has_id ids x ≡ true → P x) → P x
    by true is later = let same : id ≡ x = grind (arith, nat_tests, is) in subst P same (All-head P id ids all)
    by false other later = later (rw other at e)

-- a list of some IDs has one
pub some_id : (ids : List ℕ) → 1 ≤ length ids → (x : ℕ) × (has_id ids x ≡ true)
some_id [] some = absurd (omega (arith, some))
some_id (id ∷ ids) some = let itself : (id == id) ≡ true = grind (arith, nat_tests) in (id, rw itself refl)

module _ (s : Script) (fit : IsFit s) where
  -- no two nodes have one ID
  one_owner : (i k x : ℕ) → owner_in s i x ≡ true → owner_in s k x ≡ true → i ≡ k
  one_owner i k x mine theirs =
      let m = owner_line s i x mine in
      let n = owner_line s k x theirs in
      elim (cases_lt i k) [
        | inl lt ↦ absurd (true≢false (sym n.id ∙ fit.distinct_ids i k m.line n.line m.at n.at lt x m.id))
        | inr ge ↦ elim (cases_lt k i) [
          | inl lt ↦ absurd (true≢false (sym m.id ∙ fit.distinct_ids k i n.line m.line n.at m.at lt x n.id))
          | inr le ↦ omega (arith, ge, le)
        ]
      ]

  -- each ID of a node is below the count
  pub low_id : (i : ℕ) (line : NodeLine) → slice_get s.nodes i ≡ Some line → (x : ℕ) → has_id line.ids x ≡ true → x < s.count
  low_id i line at x mine =
      held_id (λ (id : ℕ). id < s.count) line.ids x (all_at (λ (n : NodeLine). All (λ (id : ℕ). id < s.count) n.ids) s.nodes i line at fit.low_ids) mine

  low_owner : (i x : ℕ) → owner_in s i x ≡ true → x < s.count
  low_owner i x mine = let m = owner_line s i x mine in low_id i m.line m.at x m.id

  pub are_owners : (z : ℕ) → owner_in s z 0 ≡ true → AreOwners (owner_in s) s.count z
  are_owners z zero_is = record {
    low = low_owner;
    one = one_owner;
    coordinator = λ i mine. one_owner i z 0 mine zero_is;
    has_zero = zero_is;
  }

  -- the position of the node with the ID 0
  pub coordinator : HasZero s.nodes
  coordinator = has_zero s.nodes (omega (arith, fit.one_coordinator))
