-- What is counted at a node, part by part of a tick. A count that has reached the greatest number of 64 bits stays there.
use Rattle.std.specs.Prelude.{ℕ, ◌+◌, ◌-◌, ◌^◌, ◌==◌, ◌&&◌, not, min, Bool, true, false, List, [], ◌∷◌, map, Option, None, Some, if◌then◌else◌}
use Rattle.t1s_mac.specs.declared.outcome.MacNote.{MacNote}
use Rattle.t1s_mac.specs.declared.outcome.MacNote.TheVariants.{Jam, Drop, Sent}
use Rattle.t1s_pcs_rx.specs.declared.piece.Kind.{Kind}
use Rattle.t1s_pcs_rx.specs.declared.piece.Kind.TheVariants.{Good}
use Rattle.t1s_pcs_rx.specs.Views.{View}
use Rattle.t1s_line.specs.declared.offers.OfferOutcome.{OfferOutcome}
use Rattle.t1s_line.specs.declared.offers.OfferOutcome.TheVariants.{Taken, Full, Off}
use Rattle.t1s_line.specs.declared.totals.NodeTotals.{NodeTotals}
use Rattle.t1s_line.specs.Outcomes.{DriveOutcome, HearOutcome}
use Rattle.t1s_line.specs.Offers.{OfferRecord}

-- ---- what is counted

abbrev pub is_full : OfferOutcome → Bool
is_full Taken = false
is_full Full = true
is_full Off = false

-- an offer that a full queue of the node with this number refused
abbrev pub is_full_at : ℕ → OfferRecord → Bool
is_full_at node r = (r.node == node) && is_full r.outcome

abbrev pub is_sent : MacNote → Bool
is_sent (Sent number) = true
is_sent _ = false

abbrev pub is_jam : MacNote → Bool
is_jam (Jam number) = true
is_jam _ = false

abbrev pub is_drop : MacNote → Bool
is_drop (Drop number) = true
is_drop _ = false

abbrev pub is_good : Kind → Bool
is_good Good = true
is_good _ = false

-- a piece arrives, and is good or not
abbrev pub arrives_good : Option View → Bool
arrives_good None = false
arrives_good (Some view) = is_good view.kind

abbrev pub arrives_bad : Option View → Bool
arrives_bad None = false
arrives_bad (Some view) = not (is_good view.kind)

-- ---- how it is counted

abbrev pub no_totals : ℕ → NodeTotals
no_totals node = record { node = node; sent = 0; full = 0; jam = 0; drop = 0; good = 0; bad = 0; clash = 0 }

-- one more, or not
abbrev pub counted : ℕ → Bool → ℕ
counted n more = if more then min (n + 1) (2 ^ 64 - 1) else n

abbrev pub after_refusal : OfferRecord → NodeTotals → NodeTotals
after_refusal r n = record n { full = counted n.full (is_full_at n.node r) }

abbrev pub after_refusals : List NodeTotals → List OfferRecord → List NodeTotals
after_refusals totals [] = totals
after_refusals totals (r ∷ rs) = after_refusals (map (after_refusal r) totals) rs

abbrev pub after_driving : NodeTotals → DriveOutcome → NodeTotals
after_driving n d = record n {
  sent = counted n.sent (is_sent d.note);
  jam = counted n.jam (is_jam d.note);
  drop = counted n.drop (is_drop d.note);
}

abbrev pub after_hearing : NodeTotals → HearOutcome → NodeTotals
after_hearing n d = record n {
  good = counted n.good (arrives_good d.event);
  bad = counted n.bad (arrives_bad d.event);
  clash = counted n.clash d.clash;
}
