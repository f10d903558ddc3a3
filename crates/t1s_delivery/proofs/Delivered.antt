-- On a fit script each frame that is taken once every status has been OK is sent out: in time, once, and to every other node.
use Rattle.std.proofs.Common.{◌≡◌, ◌≢◌, ℕ, ◌+◌, ◌-◌, ◌*◌, ◌<◌, ◌≤◌, List, length, Some, slice_get, refl, sym, ◌∙◌, ap, subst, arith}
use Rattle.std.proofs.lemmas.Option.{slice_get_within}
use Rattle.t1s_frame.specs.Frame.{IsFrame, nibble_list}
use Rattle.t1s_frame.proofs.Nibbles.{length-nibble_list}
use Rattle.t1s_pcs_rx.specs.declared.piece.Kind.TheVariants.{Good}
use Rattle.t1s_ring.specs.declared.queued.Queued.{Queued}
use Rattle.t1s_mac.specs.PickedDraws.{picked_answer, picked_after}
use Rattle.t1s_node.specs.Runs.{leaves_at}
use Rattle.t1s_world.specs.Schedule.{Drive}
use Rattle.t1s_script.specs.Fit.{longest_drive, start_bound}
use Rattle.t1s_script.specs.Script.{IsScript}
use Rattle.t1s_script.specs.declared.script.NodeLine.{NodeLine}
use Rattle.t1s_script.specs.declared.script.Script.{Script}
use Rattle.t1s_script.specs.Taps.{span_of}
use Rattle.t1s_line.specs.Happenings.{IsTaking, IsLeaving, IsArrival}
use Rattle.t1s_line.specs.World.{settled_below}
use Rattle.t1s_schedule.specs.DriveContents.{IsOfferTo}
use Rattle.t1s_schedule.specs.SharedLine.{far_in, at_in}
use Rattle.t1s_schedule.proofs.NodeTurns.{start_core, ticks, undisturbed, leaving_from, leaving_is}
use Rattle.t1s_schedule.proofs.SharedState.{FitCable, SharedAt}
use Rattle.t1s_schedule.proofs.SharedTurns.{line_at}
use Rattle.t1s_delivery.specs.Delivered.{IsOffer, IsDue, IsSentOut}
use Rattle.t1s_delivery.proofs.LeavesWithin.{leaves_soon, offered_by, leaves_again}
use Rattle.t1s_delivery.proofs.LeavingDrives.{one_number, holds_at, leaving_drive, leaves_in_run, is_over}
use Rattle.t1s_delivery.proofs.NodeHappenings.{leaves_node}
use Rattle.t1s_delivery.proofs.OfferedOnce.{same_offer, same_tick, offer_from, offer_frame}
use Rattle.t1s_delivery.proofs.PassingDrives.{late}
use Rattle.t1s_delivery.proofs.Reached.{arrives_due}
use Rattle.t1s_delivery.proofs.RunLeavings.{first_h, carried_at, leaves_piece}
use Rattle.t1s_delivery.proofs.SettledNodes.{settled_active}
use Rattle.t1s_delivery.proofs.StartedBefore.{had_started}
use Rattle.t1s_delivery.proofs.TakenFrames.{taken}

module _ (s : Script) (script : IsScript s) (z : ℕ) (fit : FitCable s z) (known : (t : ℕ) → (ds : List Drive) × SharedAt s z t ds)
    (few : s.burst ≤ 255) where
  -- what leaves was offered to its node
  leaving_offer : (w k number : ℕ) → IsLeaving s w k number → (frame : List ℕ) × IsOffer s k number frame
  leaving_offer w k number leaving =
      let T : ℕ = w + 1 in
      let ds = (known T).0 in
      let shared = (known T).1 in
      let l = leaving_drive s script z fit known few T ds shared w k number (omega arith) leaving in
      let d : Drive = l.drive in
      let r = (holds_at s script z fit known few T ds shared d l.has).run l.no_beacon in
      let there : IsLeaving s w d.node number = subst (λ (x : ℕ). IsLeaving s w x number) (sym l.node) leaving in
      let (c, first) = carried_at d.start r.pieces w (r.no_other w number l.from l.till there) in
      let p = leaves_piece s d.node d.start r.pieces r.leavings c in
      let same = one_number s script z fit known few w (first_h d.start c) d.node d.node number c.piece.offer.number (sym first) refl there
      p.leaves in
      let offer = offer_from s script d.node (first_h d.start c) c.piece.offer p.offer in (
        c.piece.offer.frame,
        subst (λ (x : ℕ). IsOffer s x number c.piece.offer.frame) l.node
            (subst (λ (x : ℕ). IsOffer s d.node x c.piece.offer.frame) same offer),
      )

  module _ (t settled i q : ℕ) (f : Queued) (ok : settled_below s (t + 1) ≡ Some settled) (line : NodeLine)
      (found : slice_get s.nodes i ≡ Some line) where
    -- ---- it reaches a node

    module _ (v : ℕ) (from : settled ≤ v) (leaves : IsLeaving s v i f.number) (offer : IsOffer s i f.number f.frame) (frame : IsFrame f.frame)
        (j : ℕ) (there : j < length s.nodes) (other : i ≢ j) where
      abbrev T : ℕ
      T = v + longest_drive s + span_of s + 2

      reached : (u : ℕ) → u + 1 ≡ v + 4 * length (nibble_list f.frame) + far_in s i (at_in s j) → IsArrival s u j Good f.frame
      reached u time =
          let ds = (known T).0 in
          let shared = (known T).1 in
          let (theirs, at) = line_at s z fit j there in
          let l = leaving_drive s script z fit known few T ds shared v i f.number (omega arith) leaves in
          let d : Drive = l.drive in
          let r = (holds_at s script z fit known few T ds shared d l.has).run l.no_beacon in
          let in_run = leaves_in_run s script z fit known few T d.node d.start d.stop r v f.number f.frame l.from l.till
          (subst (λ (x : ℕ). IsLeaving s v x f.number) (sym l.node) leaves) (subst (λ (x : ℕ). IsOffer s x f.number f.frame) (sym l.node) offer) in
          let over = is_over s script z fit known few T d.node d.start d.stop r (omega (arith, l.from)) in
          let apart : d.node ≢ j = λ e. other (sym l.node ∙ e) in
          let (before, active) = settled_active s z fit known few j theirs at t settled ok in
          let started = had_started s z fit j theirs at T ds shared active.u (omega (arith, active.now, from)) active.active d l.has apart
          (omega (arith, active.now, from, l.till)) in
          let near = fit.far.near i j (slice_get_within s.nodes i line found) there in
          let way : late s z fit j theirs at d.node ≡ far_in s i (at_in s j) = ap (λ (x : ℕ). late s z fit j theirs at x) l.node in
          let long : length (nibble_list f.frame) ≡ length (nibble_list in_run.carried.piece.offer.frame) =
          ap (λ (x : List ℕ). length (nibble_list x)) in_run.frame in
          let count = length-nibble_list f.frame in
          let size = frame.longest in
          let arrives = arrives_due s script z fit known few j theirs at T ds shared d l.has apart started r over in_run.carried u
          (omega (arith, time, near, count, size))
          (omega (arith, time, in_run.first, long, way)) in
          subst (λ (x : List ℕ). IsArrival s u j Good x) (sym in_run.frame) arrives

      -- it has one tick
      one_tick : (u : ℕ) → u + 1 ≡ v + 4 * length (nibble_list f.frame) + far_in s i (at_in s j) → (w : ℕ) (octets : List ℕ)
          → IsDue s v i f.number octets w j → w ≡ u
      one_tick u time w octets due =
          let same = (same_offer s script i i f.number octets f.frame due.offer offer).frame in
          let long : length (nibble_list octets) ≡ length (nibble_list f.frame) = ap (λ (x : List ℕ). length (nibble_list x)) same in
          omega (arith, time, due.time, long)

    -- ---- it leaves, and not again

    once : (v : ℕ)
        → leaves_at picked_answer picked_after (start_core s z fit known few i line found) (ticks s z fit known few i line found) v ≡ Some f.number
        → IsOffer s i f.number f.frame → (w k : ℕ) → IsLeaving s w k f.number → (w ≡ line.start + v) × (k ≡ i)
    once v leaves offer w k leaving =
        let (g, other) = leaving_offer w k f.number leaving in
        let node : k ≡ i = (same_offer s script k i f.number g f.frame other offer).node in
        let here : IsLeaving s w i f.number = subst (λ (x : ℕ). IsLeaving s w x f.number) node leaving in
        let l = leaves_node s z fit known few w i f.number here in
        let there = l.found in
        let same : l.line ≡ line = cc in
        let u : ℕ = w - line.start in
        let now : line.start + u ≡ w = omega (arith, l.now, ap (λ (x : NodeLine). x.start) same) in
        let again = leaves_again s script z fit known few i line found v u f.number leaves
        (leaving_is s z fit known few i line found u f.number (subst (λ (x : ℕ). IsLeaving s x i f.number) (sym now) here)) in
        (omega (arith, again, now), node)

  pub sent_out : (T t settled i q : ℕ) (f : Queued) → settled_below s (t + 1) ≡ Some settled → IsTaking s t i q f
      → t + (q + 1) * start_bound s + longest_drive s + span_of s ≤ T → IsSentOut s T t i q f
  sent_out T t settled i q f ok taking room =
      let tk = taken s i t q f taking in
      let (before, active) = settled_active s z fit known few i tk.line tk.found t settled ok in
      let on = (undisturbed s z fit known few i tk.line tk.found tk.u).stays_active active.u tk.u (omega (arith, active.now, tk.now, before))
      (omega arith) active.active in
      let l = leaves_soon s script z fit known few i tk.line tk.found f q tk.u on tk.queued in
      let v : ℕ = tk.line.start + l.v in
      let leaves = l.leaves in
      let leaving = leaving_from s z fit known few i tk.line tk.found l.v f.number leaves.0 in
      let (w, early, there) = offered_by s script z fit known few i tk.line tk.found f l.v leaves in
      let same = same_tick s script (tk.line.start + w) t tk.line.no tk.line.no f f there tk.offered refl in
      let given_then : IsOfferTo s i t f = (tk.line, tk.found, t, omega arith, tk.offered) in
      let offer = offer_from s script i t f given_then in
      let frame = offer_frame s z fit i t f given_then in
      let soon : v ≤ t + (q + 1) * start_bound s = omega (arith, l.soon, tk.now) in
      let long = length-nibble_list f.frame in
      let size = frame.longest in
      let from : t ≤ v = omega (arith, same, early) in
      record {
        v = v;
        from = from;
        soon = soon;
        leaves = leaving;
        once = once t settled i q f ok tk.line tk.found l.v leaves.0 offer;
        reaches = λ j within other. (
            let u : ℕ = v + 4 * length (nibble_list f.frame) + far_in s i (at_in s j) - 1 in
            let time : u + 1 ≡ v + 4 * length (nibble_list f.frame) + far_in s i (at_in s j) = omega (arith, long) in
            let near = fit.far.near i j (slice_get_within s.nodes i tk.line tk.found) within in
            record {
              u = u;
              below = omega (arith, time, near, soon, long, size, room);
              due = record { other = other; there = within; leaves = leaving; offer = offer; time = time };
              arrives = reached t settled i q f ok tk.line tk.found v (omega (arith, from, before)) leaving offer frame j within other u time;
              only = one_tick t settled i q f ok tk.line tk.found v (omega (arith, from, before)) leaving offer frame j within other u time;
            });
      }
