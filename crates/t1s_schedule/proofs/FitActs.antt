-- The acts of a fit script: no noise, and offers of frames.
use Rattle.std.proofs.Common.{◌≡◌, ℕ, ◌==◌, Bool, true, false, cond, List, [], ◌∷◌, Option, None, Some, IfSome, refl, ap, All, filter_map}
use Rattle.std.specs.List.{cons_option}
use Rattle.std.proofs.lemmas.List.Elements.{All-cons, All-nil, All-head, All-tail}
use Rattle.std.proofs.lemmas.List.Folds.{list_any_none}
use Rattle.t1s_frame.specs.Frame.{IsFrame}
use Rattle.t1s_ring.specs.declared.queued.Queued.{Queued}
use Rattle.t1s_symbols.specs.declared.Heard.{Heard}
use Rattle.t1s_symbols.specs.declared.Heard.TheVariants.{Many}
use Rattle.t1s_script.specs.Fit.{IsFit, is_noise}
use Rattle.t1s_script.specs.Script.{IsScript, IsAct, IsDeed, numbers_of}
use Rattle.t1s_script.specs.declared.script.Act.{Act}
use Rattle.t1s_script.specs.declared.script.Deed.{Deed}
use Rattle.t1s_script.specs.declared.script.Deed.TheVariants.{Offer as OfferDeed, Noise}
use Rattle.t1s_script.specs.declared.script.Script.{Script}
use Rattle.t1s_line.specs.Acts.{Offer, offer_of, offers_at, queued_to, offers_to, is_noise_in, is_noisy, with_noise}

-- ---- no noise

quiet_in : (t begin : ℕ) (d : Deed) → is_noise d ≡ false → is_noise_in t begin d ≡ false
quiet_in t begin (OfferDeed number node frame) e = refl
quiet_in t begin (Noise until) e = cc

pub never_noisy : (acts : List Act) → All (λ (a : Act). is_noise a.deed ≡ false) acts → (t : ℕ) → is_noisy acts t ≡ false
unfolding is_noisy
never_noisy acts quiet t = list_any_none (λ (a : Act). is_noise_in t a.tick a.deed) acts (λ k d below. quiet_in t _ _ (quiet k d below))

pub no_noise : (s : Script) → IsFit s → (t : ℕ) (h : Heard) → with_noise s.acts t h ≡ h
no_noise s fit t h = ap (λ (b : Bool). cond b Many h) (never_noisy s.acts fit.no_noise t)

-- ---- frames

all_put : {Y : Type 0} (Q : Y → Type 0) (o : Option Y) (ys : List Y) → IfSome o Q → All Q ys → All Q (cons_option o ys)
all_put Q None ys q all = all
all_put Q (Some y) ys q all = All-cons Q y ys q all

-- what holds of each element that a list is mapped to
all_mapped : {X Y : Type 0} (P : X → Type 0) (Q : Y → Type 0) (h : X → Option Y) → ((x : X) → P x → IfSome (h x) Q)
    → (xs : List X) → All P xs → All Q (filter_map h xs)
all_mapped P Q h each [] all = All-nil Q
all_mapped P Q h each (x ∷ xs) all = all_put Q (h x) (filter_map h xs) (each x (All-head P x xs all)) (all_mapped P Q h each xs (All-tail P x xs all))

offers_frame : (numbers : List ℕ) (tick : ℕ) (d : Deed) → IsDeed numbers tick d → IfSome (offer_of d) (λ (o : Offer). IsFrame o.queued.frame)
offers_frame numbers tick (OfferDeed number node frame) h = h.3
offers_frame numbers tick (Noise until) h = tt

act_frame : (numbers : List ℕ) (end t : ℕ) (a : Act) → IsAct numbers end a
    → IfSome (cond (a.tick == t) (offer_of a.deed) None) (λ (o : Offer). IsFrame o.queued.frame)
act_frame numbers end t a h = by (a.tick == t)
  where
    by : (b : Bool) → IfSome (cond b (offer_of a.deed) None) (λ (o : Offer). IsFrame o.queued.frame)
    by true = offers_frame numbers a.tick a.deed h.deed
    by false = tt

queued_frame : (node : ℕ) (o : Offer) → IsFrame o.queued.frame → IfSome (queued_to node o) (λ (q : Queued). IsFrame q.frame)
queued_frame node o h = by (o.node == node)
  where
    by : (b : Bool) → IfSome (cond b (Some o.queued) None) (λ (q : Queued). IsFrame q.frame)
    by true = h
    by false = tt

pub offers_are_frames : (s : Script) → IsScript s → (t node : ℕ) → All (λ (q : Queued). IsFrame q.frame) (offers_to s.acts t node)
unfolding offers_at
offers_are_frames s script t node =
    all_mapped (λ (o : Offer). IsFrame o.queued.frame) (λ (q : Queued). IsFrame q.frame) (queued_to node) (queued_frame node) (offers_at s.acts t)
    (all_mapped (IsAct (numbers_of s.nodes) s.end) (λ (o : Offer). IsFrame o.queued.frame) (λ (a : Act). cond (a.tick == t) (offer_of a.deed) None)
    (act_frame (numbers_of s.nodes) s.end t) s.acts script.acts)
