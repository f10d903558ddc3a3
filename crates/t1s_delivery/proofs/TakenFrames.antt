-- A frame that a node takes stands in its queue, behind those that it found there.
use Rattle.std.proofs.Common.{◌≡◌, ℕ, zero, suc, ◌+◌, ◌-◌, ◌<◌, inl, inr, true, nat_lt, List, [], ◌∷◌, ◌++◌, length, Some, slice_get, refl, sym, ◌∙◌, ap, subst, arith, rules, Contains}
use Rattle.std.proofs.lemmas.Bool.{cases_lt, cond_both}
use Rattle.std.proofs.lemmas.Bool.Decides.{nat_tests}
use Rattle.std.proofs.lemmas.Option.{slice_get_cases}
use Rattle.std.proofs.lemmas.List.Elements.{Contains-append_right}
use Rattle.t1s_ring.specs.Queue.{with_last}
use Rattle.t1s_ring.specs.declared.queued.Queued.{Queued}
use Rattle.t1s_mac.specs.PickedDraws.{picked_answer, picked_after}
use Rattle.t1s_mac.specs.State.{MacState, with_queue}
use Rattle.t1s_mac.specs.declared.picked_draws.PickedDraws.{PickedDraws}
use Rattle.t1s_node.specs.Core.{Core, core_after_offer}
use Rattle.t1s_node.specs.Node.{NodeState}
use Rattle.t1s_node.specs.NodeRuns.{node_after_offers, node_at, core_ticks}
use Rattle.t1s_node.specs.Runs.{core_after_offers, core_at}
use Rattle.t1s_node.proofs.NodeCore.{offers_core, core_same}
use Rattle.t1s_script.specs.declared.script.NodeLine.{NodeLine}
use Rattle.t1s_script.specs.declared.script.Script.{Script}
use Rattle.t1s_line.specs.declared.track.Track.{Track}
use Rattle.t1s_line.specs.Acts.{offers_to}
use Rattle.t1s_line.specs.Happenings.{IsTaking}
use Rattle.t1s_line.specs.World.{first_track}
use Rattle.t1s_schedule.proofs.NodeRuns.{given, start_node, runs_at, offers_from, waits_until}
use Rattle.t1s_delivery.proofs.NodeHappenings.{no_node}

-- ---- in a list

stands_last : (xs : List Queued) (x : Queued) → slice_get (xs ++ x ∷ []) (length xs) ≡ Some x
stands_last [] x = refl
stands_last (y ∷ xs) x = stands_last xs x

stands_on : (xs ys : List Queued) (k : ℕ) (x : Queued) → slice_get xs k ≡ Some x → slice_get (xs ++ ys) k ≡ Some x
stands_on [] ys k x e = absurd (cc)
stands_on (y ∷ xs) ys zero x e = e
stands_on (y ∷ xs) ys (suc k) x e = stands_on xs ys k x e

-- ---- in the queue of a core

module _ {D : Type 0} where
  offer_keeps : (c : Core D) (o : Queued) (q : ℕ) (f : Queued) → slice_get c.mac.queue.frames q ≡ Some f
      → slice_get (core_after_offer c o).mac.queue.frames q ≡ Some f
  offer_keeps c o q f h =
      cond_both (nat_lt (length c.mac.queue.frames) c.mac.queue.room) (with_queue c.mac (with_last c.mac.queue o)) c.mac
      (λ (m : MacState D). slice_get m.queue.frames q ≡ Some f)
      (λ _. stands_on c.mac.queue.frames (o ∷ []) q f h) (λ _. h)

  offers_keep : (c : Core D) (os : List Queued) (q : ℕ) (f : Queued) → slice_get c.mac.queue.frames q ≡ Some f
      → slice_get (core_after_offers c os).mac.queue.frames q ≡ Some f
  offers_keep c [] q f h = h
  offers_keep c (o ∷ os) q f h = offers_keep (core_after_offer c o) os q f (offer_keeps c o q f h)

  offer_takes : (c : Core D) (f : Queued) → length c.mac.queue.frames < c.mac.queue.room
      → slice_get (core_after_offer c f).mac.queue.frames (length c.mac.queue.frames) ≡ Some f
  offer_takes c f room =
      let b : nat_lt (length c.mac.queue.frames) c.mac.queue.room ≡ true = search (rules, nat_tests) in
      rw b (stands_last c.mac.queue.frames f)

  queued_after : (c : Core D) (before : List Queued) (f : Queued) (after : List Queued) (q : ℕ)
      → q ≡ length (core_after_offers c before).mac.queue.frames
      → q < (core_after_offers c before).mac.queue.room → slice_get (core_after_offers c (before ++ f ∷ after)).mac.queue.frames q ≡ Some f
  queued_after c [] f after q ahead room =
      offers_keep (core_after_offer c f) after q f
      (subst (λ (k : ℕ). slice_get (core_after_offer c f).mac.queue.frames k ≡ Some f) (sym ahead) (offer_takes c f (omega (arith, ahead, room))))
  queued_after c (b ∷ bs) f after q ahead room = queued_after (core_after_offer c b) bs f after q ahead room

-- ---- in the queue of a node

module _ (s : Script) (i : ℕ) where
  -- the core of the node as its own tick u finds it, before the offers of this tick
  abbrev core_in : (line : NodeLine) → slice_get s.nodes i ≡ Some line → ℕ → Core PickedDraws
  core_in line found u =
      core_at picked_answer picked_after (start_node s i line found).core (core_ticks (start_node s i line found) (given s i line found)) u

  -- and with these offers
  abbrev core_with : (line : NodeLine) → slice_get s.nodes i ≡ Some line → ℕ → List Queued → Core PickedDraws
  core_with line found u os = core_after_offers (core_in line found u) os

  -- the node has started, and keeps the frame in its own tick u
  pub record Taken (t q : ℕ) (f : Queued) : Type 0 where
    pub line : NodeLine
    pub found : slice_get s.nodes i ≡ Some line
    pub u : ℕ
    pub now : line.start + u ≡ t
    pub queued : slice_get (core_with line found u (given s i line found u).offers).mac.queue.frames q ≡ Some f
    pub offered : Contains (offers_to s.acts t line.no) f

  taken_at : (line : NodeLine) (found : slice_get s.nodes i ≡ Some line) (u q : ℕ) (f : Queued) → IsTaking s (line.start + u) i q f
      → Taken (line.start + u) q f
  taken_at line found u q f taking =
      let t : ℕ = line.start + u in
      let r = runs_at s i line found u in
      let k : Track = taking.track in
      let before : List Queued = taking.before in
      let here = taking.here in
      let same : k ≡ r.track = (let there = r.found in cc) in
      let node : k.node ≡ node_at (start_node s i line found) (given s i line found) u = ap (λ (x : Track). x.node) same ∙ r.node in
      let no_is : k.no ≡ line.no = ap (λ (x : Track). x.no) same ∙ r.no in
      let offers : offers_to s.acts t line.no ≡ before ++ f ∷ taking.after = ap (λ (x : ℕ). offers_to s.acts t x) (sym no_is) ∙ taking.offered in
      let core : k.node.core ≡ core_in line found u =
      ap (λ (x : NodeState). x.core) node ∙ core_same (start_node s i line found) (given s i line found) u in
      let kept : (node_after_offers k.node before).core ≡ core_with line found u before =
      offers_core k.node before ∙ ap (λ (c : Core PickedDraws). core_after_offers c before) core in
      let with_those = offers_from t before k taking.started in
      let ahead : q ≡ length (core_with line found u before).mac.queue.frames =
      taking.ahead
      ∙ (ap (λ (x : Track). length x.node.core.mac.queue.frames) with_those ∙ ap (λ (c : Core PickedDraws). length c.mac.queue.frames) kept) in
      let room_is = ap (λ (x : Track). x.node.core.mac.queue.room) with_those ∙ ap (λ (c : Core PickedDraws). c.mac.queue.room) kept in
      let room = taking.room in
      let queued = queued_after (core_in line found u) before f taking.after q ahead (subst (λ (x : ℕ). q < x) room_is room) in
      let there = Contains-append_right before (f ∷ taking.after) f (0, omega arith, refl) in
      record {
        line = line;
        found = found;
        u = u;
        now = refl;
        queued = subst (λ (os : List Queued). slice_get (core_with line found u os).mac.queue.frames q ≡ Some f) (sym offers) queued;
        offered = subst (λ (os : List Queued). Contains os f) (sym offers) there;
      }

  pub taken : (t q : ℕ) (f : Queued) → IsTaking s t i q f → Taken t q f
  taken t q f taking = elim (slice_get_cases s.nodes i).1 [
    | inr past ↦ absurd (no_node s i past.0 t taking.track taking.here)
    | inl here ↦ elim (cases_lt t here.0.start) [
      | inl before ↦
          let waits = waits_until s i here.0 here.2 t (omega (arith, before)) in
          let there = taking.here in
          let same : first_track s here.0 ≡ taking.track = cc in
          let started = taking.started in
          absurd (omega (arith, before, started, ap (λ (x : Track). x.start) same))
      | inr from ↦
          let now : here.0.start + (t - here.0.start) ≡ t = omega (arith, from) in
          let there = subst (λ (x : ℕ). IsTaking s x i q f) (sym now) taking in
          subst (λ (x : ℕ). Taken x q f) now (taken_at here.0 here.2 (t - here.0.start) q f there)
    ]
  ]
