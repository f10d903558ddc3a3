-- What comes of the parts of a tick at a node: what the events, the totals and the laws are read off.
use Rattle.std.specs.Prelude.{◌≡◌, ℕ, Bool, List, [], ◌∷◌, Option}
use Rattle.t1s_symbols.specs.declared.Heard.{Heard}
use Rattle.t1s_symbols.specs.declared.Quarter.{Quarter}
use Rattle.t1s_ring.specs.declared.queued.Queued.{Queued}
use Rattle.t1s_world.specs.World.{Machine}
use Rattle.t1s_pcs_rx.specs.Views.{View}
use Rattle.t1s_mac.specs.declared.outcome.MacNote.{MacNote}
use Rattle.t1s_script.specs.declared.script.Act.{Act}
use Rattle.t1s_line.specs.declared.offers.OfferOutcome.{OfferOutcome}
use Rattle.t1s_line.specs.Acts.{offers_to, with_noise}
use Rattle.t1s_line.specs.EventRecords.{EventRecord}

-- of the drive phase: the quarter that is driven, what became of a frame in the MAC, whether the PLCA status is OK, the
-- number of the frame whose first H begins, and the events
pub record DriveOutcome : Type 0 where
  pub quarter : Option Quarter
  pub note : MacNote
  pub ok : Bool
  pub leaves : Option ℕ
  pub events : List EventRecord

-- of the hear phase: what the node heard in this tick and whether it drove in it, whether signals met, the piece that
-- its receiver completes, and the events
pub record HearOutcome : Type 0 where
  pub heard : Heard
  pub drove : Bool
  pub clash : Bool
  pub event : Option View
  pub events : List EventRecord

-- what a kind of node does in a tick: what an offer leaves of it and becomes, and the two phases. A node has a number
pub record NodePhases (N : Type 0) : Type 0 where
  pub number : N → ℕ
  pub offer : ℕ → Queued → N → N × OfferOutcome
  pub drive : ℕ → N → N × DriveOutcome
  pub hear : ℕ → Heard → N → N × HearOutcome

-- no offer changes the number of a node
abbrev pub KeepsNumber : {N : Type 0} → NodePhases N → Type 0
KeepsNumber {N} p = (t : ℕ) (q : Queued) (n : N) → p.number (p.offer t q n).0 ≡ p.number n

-- a node after offers of tick t, the first one first
abbrev pub with_offers : {N : Type 0} → NodePhases N → ℕ → List Queued → N → N
with_offers p t [] n = n
with_offers p t (q ∷ qs) n = with_offers p t qs (p.offer t q n).0

-- the machine of such nodes among the acts of a script: the offers of a tick come before its drive phase, and a noise is
-- heard in its hear phase
abbrev pub machine_with : {N : Type 0} → NodePhases N → List Act → Machine N DriveOutcome HearOutcome
machine_with p acts = record {
  drive = λ t n. p.drive t (with_offers p t (offers_to acts t (p.number n)) n);
  quarter = λ (d : DriveOutcome). d.quarter;
  hear = λ t h n. p.hear t (with_noise acts t h) n;
}
