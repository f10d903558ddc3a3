-- A frame that leaves in a piece that is closed by R is sent whole in its drive, so it arrives where the drive is heard alone.
use Rattle.std.proofs.Common.{◌≡◌, inl, inr, ℕ, suc, ◌+◌, ◌-◌, ◌*◌, ◌<◌, ◌≤◌, true, length, get_or, refl, sym, ap, subst, ◌∙◌, arith}
use Rattle.std.specs.Prelude.{Option, Some, None, is_some, IsSome, IsNone}
use Rattle.std.proofs.lemmas.Bool.{cases_lt, false≢true, true≢false}
use Rattle.t1s_symbols.specs.declared.Quarter.{Quarter}
use Rattle.t1s_ring.specs.declared.queued.Queued.{Queued}
use Rattle.t1s_pcs_tx.specs.Runs.{all_quarters}
use Rattle.t1s_mac.specs.PickedDraws.{picked_answer, picked_after}
use Rattle.t1s_node.specs.ClosedPieces.{IsClosedByR, SpellsFrame}
use Rattle.t1s_node.specs.Laws.{LeavesAt}
use Rattle.t1s_node.proofs.AnyClosed.{closes_whole_frames}
use Rattle.t1s_script.specs.Script.{IsScript}
use Rattle.t1s_script.specs.declared.script.Script.{Script}
use Rattle.t1s_line.specs.World.{driven_in, node_set_of, draws_of}
use Rattle.t1s_schedule.specs.DriveContents.{IsOfferTo}
use Rattle.t1s_schedule.proofs.FitActs.{offers_are_frames}
use Rattle.t1s_schedule.proofs.NodeRuns.{drives_before}
use Rattle.t1s_schedule.proofs.QueueOffers.{first_offered}
use Rattle.t1s_schedule.proofs.RunSymbols.{quarter_some}
use Rattle.t1s_reception.specs.HeardAlone.{Sending, symbols_sent, IsSending, HearsAlone}
use Rattle.t1s_reception.specs.LeavingHeard.{LeavesInPiece, ArrivesFrom, LeavingsHeardAloneArrive}
use Rattle.t1s_reception.proofs.HeardAlone.{heard_alone_arrives}
use Rattle.t1s_reception.proofs.NodeLeavings.{NodeLeaving, node_leaving, start_core, ticks, drive, quarter_at}

some_none : (o : Option Quarter) → IsSome o → o ≡ None → ⊥
some_none None h e = false≢true h
some_none (Some q) h e = absurd (cc)

is_some_of : (o : Option Quarter) → is_some o ≡ true → IsNone o → ⊥
is_some_of None e h = absurd (cc)
is_some_of (Some q) e h = true≢false h

module _ (s : Script) (T i v number : ℕ) (script : IsScript s) (l : LeavesInPiece s T i v number) where
  node : NodeLeaving s v i number
  node = node_leaving s v i number l.leaves

  -- the tick of the closer's end, by the node's own ticks
  abbrev over : ℕ
  over = l.last - node.line.start

  later : node.line.start + over ≡ l.last
  later = let le = l.closed.from in omega (arith, le, node.now)

  abbrev quarters : ℕ → Option Quarter
  quarters u = (drive s i node.line node.found u).quarter

  closed : IsClosedByR quarters node.u over
  closed = record {
    from = let le = l.closed.from in omega (arith, le, node.now, later);
    goes_on = λ u low high.
        let (q, is, other) = l.closed.goes_on (node.line.start + u) (omega (arith, low, node.now)) (omega (arith, high, later)) in
        (q, sym (quarter_at s i node.line node.found u) ∙ is, other);
    closer = sym (quarter_at s i node.line node.found over) ∙ ap (driven_in s i) later ∙ l.closed.closer;
  }

  sent : (f : Queued) × LeavesAt picked_answer picked_after (start_core s i node.line node.found) (ticks s i node.line node.found) f node.u
      × (f.number ≡ number) × SpellsFrame quarters s.burst node.u over f.frame
  sent =
      closes_whole_frames picked_answer picked_after (node_set_of s node.line).control s.room (draws_of s node.line) (ticks s i node.line node.found) node.u over number
      (λ u le. offers_are_frames s script (node.line.start + u) node.line.no) node.leaves closed

  abbrev offer : Queued
  offer = sent.0

  spells : SpellsFrame quarters s.burst node.u over offer.frame
  spells = sent.3

  abbrev sending : Sending
  sending = record {
    start = node.line.start + spells.start;
    earlier = spells.earlier;
    lead = spells.lead;
    past = spells.past;
    frame = offer.frame;
  }

  abbrev ticks_sent : ℕ
  ticks_sent = 4 * length (symbols_sent sending)

  all_sent : suc l.last ≡ node.line.start + spells.start + ticks_sent
  all_sent = omega (arith, later, spells.whole)

  drives : (m : ℕ) → m < ticks_sent → driven_in s i (node.line.start + spells.start + m) ≡ get_or (all_quarters (symbols_sent sending)) m None
  drives m lt =
      let place : node.line.start + spells.start + m ≡ node.line.start + (spells.start + m) = omega arith in
      ap (driven_in s i) place ∙ quarter_at s i node.line node.found (spells.start + m) ∙ spells.drives m lt

  sends : IsSending s i sending
  sends = record {
    few = let few = spells.few in let high = script.burst_high in omega (arith, few, high);
    in_range = spells.in_range;
    least_lead = spells.least_lead;
    most_lead = spells.most_lead;
    is_frame = spells.is_frame;
    drives = drives;
  }

  -- ---- the drive begins there

  silent_before : (t : ℕ) → suc t ≡ node.line.start + spells.start → driven_in s i t ≡ None
  silent_before t e = elim (cases_lt t node.line.start) [
    | inl lt ↦ drives_before s i node.line node.found t lt
    | inr ge ↦
        let place : node.line.start + (spells.start - 1) ≡ t = omega (arith, e, ge) in
        let one : suc (spells.start - 1) ≡ spells.start = omega (arith, e, ge) in
        sym (ap (driven_in s i) place) ∙ quarter_at s i node.line node.found (spells.start - 1) ∙ spells.before (spells.start - 1) one
  ]

  first_before : node.line.start + spells.start ≤ v
  first_before = omega (arith, node.now, spells.first)

  begins : l.start ≡ node.line.start + spells.start
  begins = elim (cases_lt l.start (node.line.start + spells.start)) [
    | inl lt ↦
        let le = l.closed.from in
        absurd (some_none (driven_in s i (node.line.start + spells.start - 1))
        (l.drive.all (node.line.start + spells.start - 1) (omega (arith, lt)) (omega (arith, lt, first_before, le, l.till)))
        (silent_before (node.line.start + spells.start - 1) (omega (arith, lt))))
    | inr ge ↦ elim (cases_lt (node.line.start + spells.start) l.start) [
      | inl lt ↦
          let le = l.closed.from in
          let within : l.start - 1 - (node.line.start + spells.start) < ticks_sent = omega (arith, lt, all_sent, le, l.from) in
          let place : node.line.start + spells.start + (l.start - 1 - (node.line.start + spells.start)) ≡ l.start - 1 = omega (arith, lt) in
          absurd (is_some_of (driven_in s i (l.start - 1))
          (ap (λ (o : Option Quarter). is_some o) (sym (ap (driven_in s i) place) ∙ drives (l.start - 1 - (node.line.start + spells.start)) within)
          ∙ quarter_some (symbols_sent sending) (l.start - 1 - (node.line.start + spells.start)) within)
          (l.drive.before (l.start - 1) (omega (arith, lt))))
      | inr le ↦ omega (arith, ge, le)
    ]
  ]

  -- ---- and is heard

  heard_part : (j : ℕ) → HearsAlone s i j l.start (l.stop - l.start) → HearsAlone s i j (node.line.start + spells.start) ticks_sent
  heard_part j h =
      subst (λ (t : ℕ). HearsAlone s i j t ticks_sent) begins
      (record { other = h.other; there = h.there; here = h.here; only = λ m lt. h.only m (omega (arith, lt, begins, all_sent, l.till)); before = h.before })

  offered : IsOfferTo s i v offer
  offered =
      let (u, early, there) = first_offered picked_answer picked_after (start_core s i node.line node.found) (ticks s i node.line node.found) refl node.u offer (sent.1).1 in
      (node.line, node.found, node.line.start + u, omega (arith, early, node.now), there)

  pub arrives_from : (j : ℕ) → HearsAlone s i j l.start (l.stop - l.start) → ArrivesFrom s v i number j
  arrives_from j h = record {
    offer = offer;
    numbered = sent.2;
    offered = offered;
    arrives = heard_alone_arrives s i j sending sends (heard_part j h) v (omega (arith, node.now, spells.first));
  }

pub leavings_heard_alone_arrive : LeavingsHeardAloneArrive
leavings_heard_alone_arrive s T i j v number script l h = arrives_from s T i v number script l j h
