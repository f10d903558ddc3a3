use Rattle.std.proofs.Common.{◌≡◌, ℕ, ◌<◌, ◌≤◌, ◌||◌, ltb, length, get_or, map}
use Rattle.t1s_world.specs.Events.{SeesEvents}
use Rattle.t1s_line.specs.declared.offers.OfferState.TheVariants.{Unknown}
use Rattle.t1s_line.specs.Acts.{has_act, is_noisy, offers_at}
use Rattle.t1s_line.specs.Offers.{after_offers, after_records, offer_event, records_of}
use Rattle.t1s_line.specs.Totals.{after_refusals}
use Rattle.t1s_segment.specs.Numbers.{AwaitActs}
use Rattle.t1s_acts.specs.Upcoming.{AreComing}
use Rattle.t1s_segment.proofs.offer_phase.offer_all.Given as goal

abbrev pub decreases-loop-deed : goal.decreases-loop-deed
decreases-loop-deed g l = length l.upcoming

-- what is still to be done leaves the same as all did
abbrev pub invariant-loop-deed : goal.invariant-loop-deed
invariant-loop-deed g l =
    let p = g.N.NodeMachine.phases in
    let t = l.tick in
    record {
      sizes : length l.nodes ≡ length l.totals;
      await : AwaitActs p t l.initial.nodes l.initial.totals l.initial.upcoming → AwaitActs p t l.nodes l.totals l.upcoming;
      nodes : AwaitActs p t l.initial.nodes l.initial.totals l.initial.upcoming →
          after_offers p t (offers_at l.upcoming t) l.nodes ≡ after_offers p t (offers_at l.initial.upcoming t) l.initial.nodes;
      totals : AwaitActs p t l.initial.nodes l.initial.totals l.initial.upcoming →
          after_refusals l.totals (records_of p t (offers_at l.upcoming t) l.nodes) ≡ after_refusals l.initial.totals (records_of p t (offers_at l.initial.upcoming t) l.initial.nodes);
      states : AwaitActs p t l.initial.nodes l.initial.totals l.initial.upcoming → (k : ℕ) →
          after_records k (get_or l.states k Unknown) (records_of p t (offers_at l.upcoming t) l.nodes) ≡ after_records k (get_or l.initial.states k Unknown) (records_of p t (offers_at l.initial.upcoming t) l.initial.nodes);
      events : AwaitActs p t l.initial.nodes l.initial.totals l.initial.upcoming → (v : g.row.W.Denot) →
          SeesEvents g.W.Watch.sees l.watch (map offer_event (records_of p t (offers_at l.upcoming t) l.nodes)) v →
          SeesEvents g.W.Watch.sees l.initial.watch (map offer_event (records_of p t (offers_at l.initial.upcoming t) l.initial.nodes)) v;
      coming : AreComing t l.initial.upcoming → AreComing t l.upcoming;
      due : AreComing t l.initial.upcoming → (u : ℕ) → t < u → has_act l.upcoming u ≡ has_act l.initial.upcoming u;
      offers : AreComing t l.initial.upcoming → (u : ℕ) → t < u → offers_at l.upcoming u ≡ offers_at l.initial.upcoming u;
      noise : AreComing t l.initial.upcoming → (u : ℕ) → t ≤ u → (is_noisy l.upcoming u || ltb u l.until) ≡ (is_noisy l.initial.upcoming u || ltb u l.initial.until);
    }
