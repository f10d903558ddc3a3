-- Ticks of silence of a node that is still: it is calm for as long as each of its machines is, and then each of them has
-- passed its own calm ticks.
use Rattle.std.proofs.Common.{◌≡◌, ℕ, zero, suc, ◌<◌, ◌≤◌, inl, inr, Bool, false, List, refl, arith, rules, ap, sym, subst, ◌∙◌}
use Rattle.std.specs.Fn.{iterate}
use Rattle.std.proofs.lemmas.Bool.{cases_lt}
use Rattle.t1s_symbols.specs.declared.Class.{Class}
use Rattle.t1s_symbols.specs.CalmSteps.{AreCalm, IsCalmFor}
use Rattle.t1s_symbols.proofs.CalmSteps.{path_calm_for}
use Rattle.plca_control.specs.declared.ControlIn.{ControlIn}
use Rattle.plca_control.specs.declared.StatusState.{StatusState}
use Rattle.plca_control.specs.State.{ControlState}
use Rattle.plca_control.specs.ControlTable.{is_active, is_own}
use Rattle.plca_control.specs.CalmControl.{control_uncounted, control_after, IsCalmControl, status_after, IsCalmStatus}
use Rattle.plca_data.specs.declared.DataIn.{DataIn}
use Rattle.plca_data.specs.declared.MacOut.TheVariants.{Nothing as NoNibble}
use Rattle.plca_data.specs.declared.data_path.State.{State}
use Rattle.plca_data.specs.DataPathTable.{data_path_step, carrier, collision, ready, begun}
use Rattle.plca_data.specs.CalmData.{uncounted, path_after, IsCalmData}
use Rattle.t1s_mac.specs.declared.picked_draws.PickedDraws.{PickedDraws}
use Rattle.t1s_mac.specs.PickedDraws.{picked_answer, picked_after}
use Rattle.t1s_mac.specs.State.{MacState}
use Rattle.t1s_mac.specs.CalmMac.{mac_after, IsCalmMac}
use Rattle.t1s_node.specs.Node.{NodeState}
use Rattle.t1s_node.specs.CalmNode.{node_after_silence, IsCalmNode}
use Rattle.t1s_node.proofs.CalmTick.{Setting, Parts, still_node, told_control, told_by, told_path, AllCalm, active_kept, own_kept, path_rests, parts_next, calm_apart, calm_together, tick_together}

-- ---- steps of any machine

module _ {A : Type 0} (step : A → A) where
  pub iterate_last : (n : ℕ) (a : A) → iterate step (suc n) a ≡ step (iterate step n a)
  iterate_last zero a = refl
  iterate_last (suc n) a = iterate_last n (step a)

  -- one more step
  pub calm_more : (Calm : A → Type 0) (a : A) (n : ℕ) → AreCalm step Calm a n → Calm (iterate step n a) → AreCalm step Calm a (suc n)
  calm_more Calm a n all here k below = elim (cases_lt k n) [
    | inl less ↦ all k less
    | inr most ↦ let same : n ≡ k = omega arith in subst (λ m. Calm (iterate step m a)) same here
  ]

  -- what each calm step keeps
  pub kept_by : (Calm : A → Type 0) {B : Type 0} (seen : A → B) → ((a : A) → Calm a → seen (step a) ≡ seen a)
      → (a : A) (n k : ℕ) → k ≤ n → AreCalm step Calm a n → seen (iterate step k a) ≡ seen a
  kept_by Calm seen keeps a n zero le all = refl
  kept_by Calm seen keeps a n (suc k) le all =
      ap seen (iterate_last k a)
      ∙ (keeps (iterate step k a) (all k (omega arith)) ∙ kept_by Calm seen keeps a n k (omega arith) all)

-- ---- the data path over each line

-- what a data path that is calm leaves over one line it leaves over each
module _ (class : Class) (active own : Bool) (st : State) (line any : List ℕ) where
  abbrev told : DataIn
  told = told_by class active own NoNibble

  abbrev run : ℕ → State × List ℕ
  run k = iterate (path_after told) k (st, line)

  line_stays : (n k : ℕ) → k ≤ n → AreCalm (path_after told) (IsCalmData told) (st, line) n → iterate (path_after told) k (st, any) ≡ ((run k).0, any)
  line_stays n zero le all = refl
  line_stays n (suc k) le all =
      let calm = all k (omega arith) in
      let rests = path_rests (run k).0 class active own (run k).1 (calm (run k).1).1 any in
      let beside : State → State × List ℕ = λ x. (x, any) in
      iterate_last (path_after told) k (st, any)
      ∙ (ap (path_after told) (line_stays n k (omega arith) all)
      ∙ (ap (λ (x : List ℕ). ((data_path_step (run k).0 told any).0, x)) rests.0
      ∙ (ap beside rests.2
      ∙ ap (λ (r : State × List ℕ). beside r.0) (sym (iterate_last (path_after told) k (st, line))))))

  pub calm_over_each : (n : ℕ) → AreCalm (path_after told) (IsCalmData told) (st, line) n → AreCalm (path_after told) (IsCalmData told) (st, any) n
  calm_over_each n all k below = subst (IsCalmData told) (sym (line_stays n k (omega arith) all)) (all k below)

-- ---- the counts of a path tell the other machines nothing

ready_uncounted : (st : State) → ready (uncounted st) ≡ ready st
ready_uncounted _ = search rules

begun_uncounted : (st : State) → begun (uncounted st) ≡ begun st
begun_uncounted _ = search rules

carrier_uncounted : (st : State) → carrier (uncounted st) false ≡ carrier st false
carrier_uncounted _ = search rules

collision_uncounted : (st : State) → collision (uncounted st) ≡ collision st
collision_uncounted _ = search rules

-- what is read off a state without its count is read off each state of the same name
by_name : {B : Type 0} (seen : State → B) → ((st : State) → seen (uncounted st) ≡ seen st) → (st su : State) → uncounted su ≡ uncounted st → seen su ≡ seen st
by_name seen uncounts st su same = sym (uncounts su) ∙ (ap seen same ∙ uncounts st)

-- ---- the node

module _ (b : Setting) (p : Parts) where
  abbrev pub control_told : ControlIn
  control_told = told_control b.class p.path.0

  abbrev pub path_told : DataIn
  path_told = told_path b.class p.control

  abbrev pub control_step_of : ControlState → ControlState
  control_step_of = control_after control_told

  abbrev pub status_step_of : StatusState → StatusState
  status_step_of = status_after (is_active p.control.state)

  abbrev pub mac_step_of : MacState PickedDraws → MacState PickedDraws
  mac_step_of = mac_after picked_answer picked_after (carrier p.path.0 false) (collision p.path.0)

  abbrev pub IsCalmMacOf : MacState PickedDraws → Type 0
  IsCalmMacOf = IsCalmMac picked_answer picked_after (carrier p.path.0 false) (collision p.path.0)

  abbrev pub path_step_of : State × List ℕ → State × List ℕ
  path_step_of = path_after path_told

  -- each machine after k steps by what it is told at first
  abbrev pub parts_at : ℕ → Parts
  parts_at k = record {
    control = iterate control_step_of k p.control;
    status = iterate status_step_of k p.status;
    mac = iterate mac_step_of k p.mac;
    path = iterate path_step_of k p.path;
  }

  abbrev parts_after : Parts → Parts
  parts_after q = record {
    control = control_step_of q.control;
    status = status_step_of q.status;
    mac = mac_step_of q.mac;
    path = path_step_of q.path;
  }

  parts_suc : (k : ℕ) → parts_at (suc k) ≡ parts_after (parts_at k)
  parts_suc k =
      let q = parts_at (suc k) in
      let r = parts_after (parts_at k) in
      ap (λ (c : ControlState). record q { control = c }) (iterate_last control_step_of k p.control)
      ∙ (ap (λ (s : StatusState). record q { control = r.control; status = s }) (iterate_last status_step_of k p.status)
      ∙ (ap (λ (m : MacState PickedDraws). record q { control = r.control; status = r.status; mac = m }) (iterate_last mac_step_of k p.mac)
      ∙ ap (λ (x : State × List ℕ). record r { path = x }) (iterate_last path_step_of k p.path)))

  -- each machine has n calm steps
  pub record AreAllCalm (n : ℕ) : Type 0 where
    pub control : AreCalm control_step_of (IsCalmControl control_told) p.control n
    pub status : AreCalm status_step_of (IsCalmStatus (is_active p.control.state)) p.status n
    pub mac : AreCalm mac_step_of IsCalmMacOf p.mac n
    pub path : AreCalm path_step_of (IsCalmData path_told) p.path n

  -- the machines with other counts alone
  record SameNames (q : Parts) : Type 0 where
    pub control : control_uncounted q.control ≡ control_uncounted p.control
    pub path : uncounted q.path.0 ≡ uncounted p.path.0

  same_names : (n k : ℕ) → k ≤ n → AreAllCalm n → SameNames (parts_at k)
  same_names n k le all = record {
    control = kept_by control_step_of (IsCalmControl control_told) control_uncounted (λ c calm. calm.1) p.control n k le all.control;
    path = kept_by path_step_of (IsCalmData path_told) (λ (x : State × List ℕ). uncounted x.0) (λ x calm. (calm x.1).1) p.path n k le all.path;
  }

  -- each machine has a calm step by what it is told at first
  record CalmHere (q : Parts) : Type 0 where
    pub control : IsCalmControl control_told q.control
    pub status : IsCalmStatus (is_active p.control.state) q.status
    pub mac : IsCalmMacOf q.mac
    pub path : IsCalmData path_told q.path

  -- machines with other counts alone are told the same
  module _ (q : Parts) (same : SameNames q) where
    same_control : told_control b.class q.path.0 ≡ control_told
    same_control =
        ap (λ (x : Bool). record { crs = false; class = b.class; ready = x; begun = begun q.path.0; tx = control_told.tx }) (by_name ready ready_uncounted p.path.0 q.path.0 same.path)
        ∙ ap (λ (x : Bool). record { crs = false; class = b.class; ready = ready p.path.0; begun = x; tx = control_told.tx }) (by_name begun begun_uncounted p.path.0 q.path.0 same.path)

    same_active : is_active q.control.state ≡ is_active p.control.state
    same_active = active_kept p.control q.control same.control

    same_path : told_path b.class q.control ≡ path_told
    same_path =
        ap (λ (x : Bool). told_by b.class x (is_own q.control.state) NoNibble) same_active
        ∙ ap (λ (x : Bool). told_by b.class (is_active p.control.state) x NoNibble) (own_kept p.control q.control same.control)

    same_carrier : carrier q.path.0 false ≡ carrier p.path.0 false
    same_carrier = by_name (λ st. carrier st false) carrier_uncounted p.path.0 q.path.0 same.path

    same_collision : collision q.path.0 ≡ collision p.path.0
    same_collision = by_name collision collision_uncounted p.path.0 q.path.0 same.path

    here : AllCalm b q → CalmHere q
    here all = record {
      control = subst (λ (i : ControlIn). IsCalmControl i q.control) same_control all.control;
      status = subst (λ (x : Bool). IsCalmStatus x q.status) same_active all.status;
      mac = subst (λ (x : Bool). IsCalmMac picked_answer picked_after (carrier p.path.0 false) x q.mac) same_collision
          (subst (λ (x : Bool). IsCalmMac picked_answer picked_after x (collision q.path.0) q.mac) same_carrier all.mac);
      path = subst (λ (i : DataIn). IsCalmData i q.path) same_path all.path;
    }

    there : CalmHere q → AllCalm b q
    there all = record {
      control = subst (λ (i : ControlIn). IsCalmControl i q.control) (sym same_control) all.control;
      status = subst (λ (x : Bool). IsCalmStatus x q.status) (sym same_active) all.status;
      mac = subst (λ (x : Bool). IsCalmMac picked_answer picked_after x (collision q.path.0) q.mac) (sym same_carrier)
          (subst (λ (x : Bool). IsCalmMac picked_answer picked_after (carrier p.path.0 false) x q.mac) (sym same_collision) all.mac);
      path = subst (λ (i : DataIn). IsCalmData i q.path) (sym same_path) all.path;
    }

    same_next : parts_next b q ≡ parts_after q
    same_next =
        let r = parts_next b q in
        let to = parts_after q in
        ap (λ (i : ControlIn). record r { control = control_after i q.control }) same_control
        ∙ (ap (λ (x : Bool). record r { control = to.control; status = status_after x q.status }) same_active
        ∙ (ap (λ (x : Bool). record r { control = to.control; status = to.status; mac = mac_after picked_answer picked_after x (collision q.path.0) q.mac }) same_carrier
        ∙ (ap (λ (x : Bool). record r { control = to.control; status = to.status; mac = mac_after picked_answer picked_after (carrier p.path.0 false) x q.mac }) same_collision
        ∙ ap (λ (i : DataIn). record to { path = path_after i q.path }) same_path)))

  -- ---- how long it is calm

  abbrev node_path : ℕ → NodeState
  node_path k = still_node b (parts_at k)

  module _ (most n1 n2 n3 n : ℕ) (control : IsCalmFor control_step_of (IsCalmControl control_told) p.control most n1)
      (status : IsCalmFor status_step_of (IsCalmStatus (is_active p.control.state)) p.status n1 n2)
      (mac : IsCalmFor mac_step_of IsCalmMacOf p.mac n2 n3) (path : IsCalmFor path_step_of (IsCalmData path_told) p.path n3 n) where
    all-calm : AreAllCalm n
    all-calm = record {
      control = λ k below. control.calm k (omega (arith, path.within, mac.within, status.within));
      status = λ k below. status.calm k (omega (arith, path.within, mac.within));
      mac = λ k below. mac.calm k (omega (arith, path.within));
      path = path.calm;
    }

    names : (k : ℕ) → k ≤ n → SameNames (parts_at k)
    names k le = same_names n k le all-calm

    calm-at : (k : ℕ) → k < n → AllCalm b (parts_at k)
    calm-at k below = there (parts_at k) (names k (omega arith)) (record {
      control = all-calm.control k below;
      status = all-calm.status k below;
      mac = all-calm.mac k below;
      path = all-calm.path k below;
    })

    step-at : (k : ℕ) → k < n → node_after_silence (node_path k) ≡ node_path (suc k)
    step-at k below =
        tick_together b (parts_at k) (calm-at k below)
        ∙ ap (still_node b) (same_next (parts_at k) (names k (omega arith)) ∙ sym (parts_suc k))

    -- the machine whose calm ticks are over has a step that is not calm
    ends-at : n < most → CalmHere (parts_at n) → ⊥
    ends-at below here = elim (cases_lt n n3) [
      | inl less ↦ path.ends less here.path
      | inr over ↦ elim (cases_lt n3 n2) [
        | inl less ↦ let same : n ≡ n3 = omega (arith, path.within) in mac.ends less (subst (λ k. IsCalmMacOf (parts_at k).mac) same here.mac)
        | inr over' ↦ elim (cases_lt n2 n1) [
          | inl less ↦
              let same : n ≡ n2 = omega (arith, path.within, mac.within) in
              status.ends less (subst (λ k. IsCalmStatus (is_active p.control.state) (parts_at k).status) same here.status)
          | inr over'' ↦
              let same : n ≡ n1 = omega (arith, path.within, mac.within, status.within) in
              control.ends (omega arith) (subst (λ k. IsCalmControl control_told (parts_at k).control) same here.control)
        ]
      ]
    ]

    pub still_calm_for : IsCalmFor node_after_silence IsCalmNode (still_node b p) most n
    still_calm_for = path_calm_for node_after_silence IsCalmNode node_path most n (record {
      within = omega (arith, path.within, mac.within, status.within, control.within);
      calm = λ k below. calm_together b (parts_at k) (calm-at k below);
      next = step-at;
      ends = λ below still. ends-at below (here (parts_at n) (names n (omega arith)) (calm_apart b (parts_at n) still));
    })

  -- ---- what calm ticks leave

  record Reaches (k : ℕ) : Type 0 where
    pub calm : AreAllCalm k
    pub node : iterate node_after_silence k (still_node b p) ≡ node_path k

  reaches : (n : ℕ) → AreCalm node_after_silence IsCalmNode (still_node b p) n → (k : ℕ) → k ≤ n → Reaches k
  reaches n all zero le = record {
    calm = record {
      control = λ j below. absurd (omega arith);
      status = λ j below. absurd (omega arith);
      mac = λ j below. absurd (omega arith);
      path = λ j below. absurd (omega arith);
    };
    node = refl;
  }
  reaches n all (suc k) le =
      let before = reaches n all k (omega arith) in
      let same = same_names k k (omega arith) before.calm in
      let calm = calm_apart b (parts_at k) (subst IsCalmNode before.node (all k (omega arith))) in
      let steps = here (parts_at k) same calm in
      record {
        calm = record {
          control = calm_more control_step_of (IsCalmControl control_told) p.control k before.calm.control steps.control;
          status = calm_more status_step_of (IsCalmStatus (is_active p.control.state)) p.status k before.calm.status steps.status;
          mac = calm_more mac_step_of IsCalmMacOf p.mac k before.calm.mac steps.mac;
          path = calm_more path_step_of (IsCalmData path_told) p.path k before.calm.path steps.path;
        };
        node = iterate_last node_after_silence k (still_node b p) ∙ (ap node_after_silence before.node
            ∙ (tick_together b (parts_at k) calm ∙ ap (still_node b) (same_next (parts_at k) same ∙ sym (parts_suc k))));
      }

  module _ (n : ℕ) (all : AreCalm node_after_silence IsCalmNode (still_node b p) n) where
    -- each machine is calm for as long
    pub still_all_calm : AreAllCalm n
    still_all_calm = (reaches n all n (omega arith)).calm

    -- and the node passes as its machines do
    pub still_pass : iterate node_after_silence n (still_node b p) ≡ still_node b (parts_at n)
    still_pass = (reaches n all n (omega arith)).node

    -- the data path is calm as long over each line
    pub path_all_calm : (any : List ℕ) → AreCalm path_step_of (IsCalmData path_told) (p.path.0, any) n
    path_all_calm any = calm_over_each b.class (is_active p.control.state) (is_own p.control.state) p.path.0 p.path.1 any n still_all_calm.path
