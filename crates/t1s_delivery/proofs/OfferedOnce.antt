-- An offer of a valid script has its number alone: one number has one node, one frame and one tick.
use Rattle.std.proofs.Common.{◌≡◌, ℕ, ◌<◌, inl, inr, List, length, get_or, Some, slice_get, refl, ap, arith, Contains}
use Rattle.std.specs.List.{AllPairs}
use Rattle.std.proofs.lemmas.Bool.{cases_lt}
use Rattle.std.proofs.lemmas.List.{length-map}
use Rattle.std.proofs.lemmas.List.Elements.{All-contains}
use Rattle.std.proofs.lemmas.List.Kept.{AllPairs-from_increasing}
use Rattle.std.proofs.lemmas.Option.{slice_get_within}
use Rattle.t1s_frame.specs.Frame.{IsFrame}
use Rattle.t1s_ring.specs.declared.queued.Queued.{Queued}
use Rattle.t1s_world.proofs.ListLemmas.{get_or-map}
use Rattle.t1s_script.specs.Script.{IsScript, numbers_of}
use Rattle.t1s_script.specs.declared.script.Act.{Act}
use Rattle.t1s_script.specs.declared.script.Deed.TheVariants.{Offer as OfferDeed}
use Rattle.t1s_script.specs.declared.script.NodeLine.{NodeLine}
use Rattle.t1s_script.specs.declared.script.Script.{Script}
use Rattle.t1s_line.specs.Acts.{offers_to}
use Rattle.t1s_schedule.specs.DriveContents.{IsOfferTo}
use Rattle.t1s_schedule.proofs.SharedState.{FitCable}
use Rattle.t1s_delivery.specs.Delivered.{IsOffer}
use Rattle.t1s_delivery.proofs.Members.{among_from, contains_from}
use Rattle.t1s_delivery.proofs.ScriptOffers.{act_of, acts_in_order, one_offer, offer_act}

-- two positions with one number are one
same_position : (s : Script) → IsScript s → (i k : ℕ) (l m : NodeLine) → slice_get s.nodes i ≡ Some l → slice_get s.nodes k ≡ Some m
    → l.no ≡ m.no → i ≡ k
same_position s script i k l m at_i at_k same = elim (cases_lt i k) [
  | inl less ↦
      let apart = pairs i k 0 less (omega (arith, within k m at_k, numbers)) in
      absurd (omega (arith, apart, no_at i l at_i, no_at k m at_k, same))
  | inr from ↦ elim (cases_lt k i) [
    | inl less ↦
        let apart = pairs k i 0 less (omega (arith, within i l at_i, numbers)) in
        absurd (omega (arith, apart, no_at i l at_i, no_at k m at_k, same))
    | inr to ↦ omega (arith, from, to)
  ]
]
  where
    pairs : AllPairs (λ x y. x < y) (numbers_of s.nodes)
    pairs = AllPairs-from_increasing (numbers_of s.nodes) script.ascending

    numbers : length (numbers_of s.nodes) ≡ length s.nodes
    numbers = length-map s.nodes (λ (n : NodeLine). n.no)

    within : (x : ℕ) (n : NodeLine) → slice_get s.nodes x ≡ Some n → x < length s.nodes
    within x n at = slice_get_within s.nodes x n at

    no_at : (x : ℕ) (n : NodeLine) → slice_get s.nodes x ≡ Some n → get_or (numbers_of s.nodes) x 0 ≡ n.no
    no_at x n at = get_or-map (λ (y : NodeLine). y.no) s.nodes x n 0 at

same_deed : (n l m : ℕ) (f g : List ℕ) → OfferDeed n l f ≡ OfferDeed n m g → (l ≡ m) × (f ≡ g)
same_deed n l m f g e = (cc, cc)

module _ (s : Script) (script : IsScript s) where
  -- of two offers of one number
  pub record SameOffer {i k n : ℕ} {f g : List ℕ} (a : IsOffer s i n f) (b : IsOffer s k n g) : Type 0 where
    pub node : i ≡ k
    pub frame : f ≡ g
    pub tick : a.tick ≡ b.tick

  pub same_offer : (i k n : ℕ) (f g : List ℕ) (a : IsOffer s i n f) (b : IsOffer s k n g) → SameOffer a b
  same_offer i k n f g a b =
      let order = acts_in_order s script in
      let one : Act = record { tick = a.tick; deed = OfferDeed n a.line.no f } in
      let two : Act = record { tick = b.tick; deed = OfferDeed n b.line.no g } in
      let same : one ≡ two = one_offer s.acts order one two n (among_from s.acts one a.act) (among_from s.acts two b.act) refl refl in
      let (node, frame) = same_deed n a.line.no b.line.no f g (ap (λ (x : Act). x.deed) same) in
      record { node = same_position s script i k a.line b.line a.node b.node node; frame = frame; tick = ap (λ (x : Act). x.tick) same }

  -- so is the tick of two offers to nodes
  pub same_tick : (t u l m : ℕ) (p q : Queued) → Contains (offers_to s.acts t l) p → Contains (offers_to s.acts u m) q → q.number ≡ p.number → t ≡ u
  same_tick t u l m p q first then e =
      let has_p = offer_act s.acts t l p (among_from (offers_to s.acts t l) p first) in
      let has_q = offer_act s.acts u m q (among_from (offers_to s.acts u m) q then) in
      ap (λ (x : Act). x.tick) (one_offer s.acts (acts_in_order s script) (act_of t l p) (act_of u m q) p.number has_p has_q refl (ap Some e))

  -- what a node was offered is an offer of the script
  pub offer_from : (i v : ℕ) (q : Queued) → IsOfferTo s i v q → IsOffer s i q.number q.frame
  offer_from i v q (line, found, t, early, there) = record {
    line = line;
    node = found;
    tick = t;
    act = contains_from s.acts (act_of t line.no q) (offer_act s.acts t line.no q (among_from (offers_to s.acts t line.no) q there));
  }

pub offer_frame : (s : Script) (z : ℕ) → FitCable s z → (i v : ℕ) (q : Queued) → IsOfferTo s i v q → IsFrame q.frame
offer_frame s z fit i v q (line, found, t, early, there) =
    All-contains (λ (x : Queued). IsFrame x.frame) (offers_to s.acts t line.no) q (fit.frames t line.no) there
