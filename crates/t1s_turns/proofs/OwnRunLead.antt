-- The J before a piece of an own run: from the tick in which the opportunity begins, or in which it goes on after a
-- piece, to the first pop, or to the end of the opportunity.
use Rattle.std.proofs.Common.{◌≡◌, ℕ, zero, suc, ◌+◌, ◌-◌, ◌*◌, ◌==◌, ◌≤◌, Bool, true, false, IsTrue, Option, Some, None, List, [], ◌∷◌, ◌++◌, take, replicate, refl, sym, ◌∙◌, ap, subst, arith, rules, append_assoc, append-nil}
use Rattle.std.proofs.lemmas.Bool.{false≢true}
use Rattle.std.proofs.lemmas.Bool.Decides.{nat_tests}
use Rattle.t1s_symbols.specs.declared.Quarter.{Quarter}
use Rattle.t1s_symbols.specs.declared.Symbol.TheVariants.{J}
use Rattle.t1s_ring.specs.Queue.{Queue}
use Rattle.t1s_ring.specs.declared.queued.Queued.{Queued}
use Rattle.t1s_pcs_tx.specs.declared.TxIn.{TxIn}
use Rattle.t1s_pcs_tx.specs.State.{TxState, Stage, Quiet, Committing, is_closed, quarter_of}
use Rattle.t1s_pcs_tx.specs.TransmitTable.{transmit_step, at_boundary}
use Rattle.t1s_pcs_tx.specs.Runs.{quarters, all_quarters}
use Rattle.plca_control.specs.declared.ControlSet.{ControlSet}
use Rattle.plca_control.specs.declared.ControlIn.{ControlIn}
use Rattle.plca_control.specs.declared.State.{State as ControlStage}
use Rattle.plca_control.specs.declared.State.TheVariants.{Commit, Transmit, Burst}
use Rattle.plca_control.specs.ControlTable.{control_row, is_own, is_closed_good}
use Rattle.plca_control.proofs.Rows.{not_good}
use Rattle.plca_data.specs.declared.data_path.State.{State}
use Rattle.plca_data.specs.DataPathTable.{ready, begun}
use Rattle.t1s_mac.specs.declared.deference.Deference.{Deference}
use Rattle.t1s_mac.specs.declared.outcome.MacNote.{MacNote}
use Rattle.t1s_mac.specs.State.{Phase}
use Rattle.t1s_node.proofs.JointPlaces.{Place, Opens, Pauses, Before, InPiece, Closes, Goes, holds_on, hold_fails, hold_opens, hold_pops, pends_on, pending_opens, opens_on, open_starts, pauses_on, pause_ends as goes_rests, pause_lapses, pause_starts, before_on, before_pops, closes_on, close_pauses, close_rests, Joint, idles, holds, collides, pends, waits, rests_in, before, fed, closes}
use Rattle.t1s_node.proofs.JointSteps.{apart_of}
use Rattle.t1s_node.proofs.JointTurns.{apart_own, owning_own}
use Rattle.t1s_node.proofs.NoPiece.{Free}
use Rattle.t1s_node.proofs.View.{View, Away, InTransmit, InPause, view_of, own_of, Turns, pause_sends, pause_waits, pause_ends, pauses}

-- ---- places and views

-- the places of a lead, with the ticks that are left to the first pop at most; only a pause can lapse
pub data LeadWay (pausing : Bool) (n : ℕ) : Place → View → Type 0 where
  gap_way : {f : Queued} {m : ℕ} {v : View} → 192 ≤ m → m ≤ n + 188 → LeadWay pausing n (Opens f m) v
  line_way : {f : Queued} {k p r : ℕ} {v : View} → r ≤ n → LeadWay pausing n (Before f k p r) v
  pause_way : {m : ℕ} → pausing ≡ true → m + 3 ≤ n → LeadWay pausing n Pauses (InPause m)

-- what a tick of it comes to
pub data LeadStep (pausing : Bool) (n : ℕ) : Place → View → Stage → ℕ → Type 0 where
  nearer : {place : Place} {v : View} {stage : Stage} {part m r : ℕ} → n ≡ m + 1 → LeadWay pausing m place v → own_of v ≡ true → Free stage part r → LeadStep pausing n place v stage part
  pops : {f : Queued} {v : View} {stage : Stage} {part : ℕ} → own_of v ≡ true → part ≡ 0 → LeadStep pausing n (InPiece f false 0 0) v stage part
  lapses : {place : Place} {v : View} {stage : Stage} {part : ℕ} → pausing ≡ true → v ≡ Away → LeadStep pausing n place v stage part

first_pop : (f : Queued) (v : View) (phase : Phase) (q : Queue) (d : Deference) (a : ℕ) (stage : Stage) (part : ℕ) (path : State) (line : List ℕ)
    → Joint (InPiece f false 0 0) v phase q d a stage part path line → (own_of v ≡ true) × (part ≡ 0)
first_pop f v _ q _ a stage _ _ line (fed own heads tries quarter ahead least most tx feeds) = (owning_own v own, refl)

-- a pause goes on, or its opportunity is over
pause_turn : (pausing ready closed : Bool) (n m : ℕ) (to : Place) (note : MacNote) (popped : List ℕ) (v : View) (phase : Phase) (q : Queue) (d : Deference) (a : ℕ) (stage : Stage) (part : ℕ) (path : State) (line : List ℕ)
    → pausing ≡ true → m + 3 ≤ n → Goes Pauses note popped to → Joint to v phase q d a stage part path line → Turns ready false closed (InPause m) v → LeadStep pausing n to v stage part
pause_turn pausing ready closed n m _ _ _ v phase q d a stage part path line may near goes h (pause_ends e less) = lapses may refl
pause_turn pausing ready closed n m _ _ _ v phase q d a stage part path line may near goes h (pause_sends e) = absurd (cc)
pause_turn pausing ready closed n m _ _ _ _ phase q d _ stage part _ _ may near pauses_on (rests_in resting free) (pause_waits e less some) =
    nearer {m = n - 1} (omega (arith, near)) (pause_way may (omega (arith, near, less))) refl free
pause_turn pausing ready closed n m _ _ _ v phase q d _ stage part _ _ may near goes_rests (idles out resting free) (pause_waits e less some) = absurd (false≢true (sym (apart_own v out)))
pause_turn pausing ready closed n m _ _ _ v _ q _ _ stage part _ line may near pause_lapses (holds {k = k} {p = p} {r = r} heads early quarter free al feeds) (pause_waits e less some) = absurd (false≢true (sym (apart_own v (apart_of (4 * k + p) r v al))))
pause_turn pausing ready closed n m _ _ _ v _ q _ a stage part _ line may near (pause_starts low) (before own heads tries quarter high free feeds) (pause_waits e less some) =
    nearer {m = n - 1} (omega (arith, near)) (line_way (omega (arith, near, less, some, low))) refl free

-- one tick of a lead
pub lead_step : (pausing ready sending closed : Bool) (n : ℕ) (place to : Place) (note : MacNote) (popped : List ℕ)
    (v : View) (phase : Phase) (q : Queue) (d : Deference) (a : ℕ) (stage : Stage) (part : ℕ) (path : State) (line : List ℕ)
    (v' : View) (phase' : Phase) (q' : Queue) (d' : Deference) (a' : ℕ) (stage' : Stage) (part' : ℕ) (path' : State) (line' : List ℕ)
    → LeadWay pausing n place v → Joint place v phase q d a stage part path line → sending ≡ begun path
    → Goes place note popped to → Joint to v' phase' q' d' a' stage' part' path' line' → Turns ready sending closed v v' → LeadStep pausing n to v' stage' part'
lead_step pausing ready sending closed n _ _ _ _ v phase q d a stage part path line _ _ q' d' _ stage' part' _ _ (gap_way least most) h same (opens_on e more) (waits opening heads free) turns =
    nearer {m = n - 1} (omega (arith, least, most)) (gap_way more (omega (arith, most, e, least))) refl free
lead_step pausing ready sending closed n _ _ _ _ v phase q d a stage part path line v' _ q' _ a' stage' part' _ line' (gap_way least most) h same (open_starts e low) (before own heads tries quarter high free feeds) turns =
    nearer {m = n - 1} (omega (arith, least, most)) (line_way (omega (arith, most, e, low))) (owning_own v' own) free
lead_step pausing ready sending closed n _ _ _ _ v phase q d a stage part path line v' _ q' _ a' stage' part' _ line' (line_way near) h same (before_on less) (before own heads tries quarter high free feeds) turns =
    nearer {m = n - 1} (omega (arith, near, less)) (line_way (omega (arith, near, less))) (owning_own v' own) free
lead_step pausing ready sending closed n _ _ _ _ v phase q d a stage part path line v' phase' q' d' a' stage' part' path' line' (line_way near) h same (before_pops {f = f} none) h' turns =
    let (own, first) = first_pop f v' phase' q' d' a' stage' part' path' line' h' in
    pops own first
lead_step pausing ready sending closed n _ to note popped _ phase q d a stage part _ _ v' phase' q' d' a' stage' part' path' line' (pause_way {m = m} may near) (rests_in resting free) same goes h' turns =
    pause_turn pausing ready closed n m to note popped v' phase' q' d' a' stage' part' path' line' may near goes h' (subst (λ b. Turns ready b closed (InPause m) v') same turns)

-- the own opportunity begins with a frame that is ready
pub data Begins : Place → Stage → ℕ → Type 0 where
  begins_lead : {place : Place} {stage : Stage} {part r : ℕ} → ((v : View) → LeadWay false 100 place v) → Free stage part r → Begins place stage part
  begins_pop : {f : Queued} {stage : Stage} {part : ℕ} → Begins (InPiece f false 0 0) stage part

pub begins : (place to : Place) (note : MacNote) (popped : List ℕ) (v : View) (phase : Phase) (q : Queue) (d : Deference) (a : ℕ) (stage : Stage) (part : ℕ) (path : State) (line : List ℕ)
    (v' : View) (phase' : Phase) (q' : Queue) (d' : Deference) (a' : ℕ) (stage' : Stage) (part' : ℕ) (path' : State) (line' : List ℕ)
    → Joint place v phase q d a stage part path line → ready path ≡ true → Goes place note popped to → Joint to v' phase' q' d' a' stage' part' path' line' → own_of v' ≡ true → Begins to stage' part'
begins _ _ _ _ v _ q _ _ stage part _ line v' _ q' _ _ stage' part' _ line' (holds heads early quarter free al feeds) is (holds_on on low high) (holds {k = k} {p = p} {r = r} heads' early' quarter' free' al' feeds') own =
    absurd (false≢true (sym (apart_own v' (apart_of (4 * k + p) r v' al')) ∙ own))
begins _ _ _ _ v _ q _ _ stage part _ line v' _ q' _ _ stage' part' _ _ (holds heads early quarter free al feeds) is (hold_fails on low high) (collides out heads' within quarter' free') own =
    absurd (false≢true (sym (apart_own v' out) ∙ own))
begins _ _ _ _ v _ q _ _ stage part _ line v' _ q' _ a' stage' part' _ line' (holds heads early quarter free al feeds) is (hold_opens low high few) (before owning heads' tries quarter' near free' feeds') own =
    begins_lead (λ w. line_way (omega (arith, few))) free'
begins _ _ _ _ v _ q _ _ stage part _ line v' phase' q' d' a' stage' part' path' line' (holds heads early quarter free al feeds) is (hold_pops low high) h' own = begins_pop
begins _ _ _ _ v phase q _ _ stage part _ _ v' phase' q' _ _ stage' part' _ _ (pends out heads back free) is pends_on (pends out' heads' back' free') own =
    absurd (false≢true (sym (apart_own v' out') ∙ own))
begins _ _ _ _ v phase q _ _ stage part _ _ _ _ q' d' _ stage' part' _ _ (pends out heads back free) is pending_opens (waits opening heads' free') own =
    begins_lead (λ w. gap_way (omega arith) (omega arith)) free'
begins _ to news popped v phase q d a stage part path line v' phase' q' d' a' stage' part' path' line' h is goes h' own = absurd (cc)

-- after a piece, where the opportunity goes on
pub data GoesOn : Place → View → Stage → ℕ → Type 0 where
  goes_on : {stage : Stage} {part r : ℕ} → Free stage part r → GoesOn Pauses (InPause 128) stage part

pub goes_on_after : (f : Queued) (ready sending closed : Bool) (to : Place) (note : MacNote) (popped : List ℕ) (v : View) (phase : Phase) (q : Queue) (d : Deference) (a : ℕ) (stage : Stage) (part : ℕ) (path : State) (line : List ℕ)
    (v' : View) (phase' : Phase) (q' : Queue) (d' : Deference) (a' : ℕ) (stage' : Stage) (part' : ℕ) (path' : State) (line' : List ℕ)
    → Joint (Closes f 3) v phase q d a stage part path line → closed ≡ true → Goes (Closes f 3) note popped to → Joint to v' phase' q' d' a' stage' part' path' line' → Turns ready sending closed v v'
    → own_of v' ≡ true → GoesOn to v' stage' part'
goes_on_after f ready sending closed _ _ _ _ phase q _ _ _ _ _ _ _ phase' q' d' _ stage' part' _ _ (closes resting few) over (close_pauses three) (rests_in resting' free) (pauses e) own = goes_on free
goes_on_after f ready sending closed _ _ _ _ phase q _ _ _ _ _ _ v' phase' q' d' _ stage' part' _ _ (closes resting few) over (close_rests three) (idles out resting' free) turns own = absurd (false≢true (sym (apart_own v' out) ∙ own))
goes_on_after f ready sending closed _ _ _ v phase q d a stage part path line v' phase' q' d' a' stage' part' path' line' h over (closes_on less) h' turns own = absurd (omega (arith, less))

-- ---- the transmitter

pub boundary_next : (s : TxState) (inp : TxIn) (line : List ℕ) → IsTrue (at_boundary s) → (transmit_step s inp line).state.part ≡ 0
unfolding transmit_step
boundary_next s inp line boundary = rw boundary refl

pub inner_next : (s : TxState) (inp : TxIn) (line : List ℕ) → at_boundary s ≡ false → (transmit_step s inp line).state.part ≡ s.part + 1
unfolding transmit_step
inner_next s inp line inner = rw inner refl

pub inner_stage : (s : TxState) (inp : TxIn) (line : List ℕ) → at_boundary s ≡ false → (transmit_step s inp line).state.stage ≡ s.stage
unfolding transmit_step
inner_stage s inp line inner = rw inner refl

pub commit_boundary : (s : TxState) → s.stage ≡ Committing → at_boundary s ≡ (s.part == 3)
commit_boundary s e = rw e refl

-- ---- the further frames that an opportunity may have

abbrev pub budget : ControlStage → ℕ
budget (Commit c n b) = b
budget (Transmit c b) = b
budget (Burst c n b) = b
budget _ = 0

pub budget_stays : (s : ControlSet) (st : ControlStage) (i : ControlIn) → is_own st ≡ true → is_own (control_row s st i).0 ≡ true → is_closed i.tx ≡ false → budget (control_row s st i).0 ≡ budget st
budget_stays s (Commit c n b) i own next going = search (rules, nat_tests)
budget_stays s (Burst c n b) i own next going = search (rules, nat_tests)
budget_stays s (Transmit c b) i own next going = let bad : is_closed_good i.tx ≡ false = not_good i.tx going in rw (bad, going) refl
budget_stays s _ i own next going = absurd (cc)

pub budget_falls : (s : ControlSet) (st : ControlStage) (i : ControlIn) (n : ℕ) → view_of st ≡ InTransmit → view_of (control_row s st i).0 ≡ InPause n → budget st ≡ suc (budget (control_row s st i).0)
budget_falls s (Transmit c b) i n own next = search (rules, nat_tests)
budget_falls s _ i n own next = absurd (cc)

-- ---- the J that are driven

-- quarters of J in a row: y whole ones, and then some of one more
abbrev pub syncs : ℕ → ℕ → List (Option Quarter)
syncs y p = all_quarters (replicate y J) ++ take p (quarters J)

pub sync_at : ℕ → Option Quarter
sync_at p = Some (record { sym = J; part = p })

pub syncs_more : (y p : ℕ) → p ≤ 3 → syncs y p ++ sync_at p ∷ [] ≡ syncs y (p + 1)
unfolding sync_at
syncs_more y p low = append_assoc (all_quarters (replicate y J)) (take p (quarters J)) (sync_at p ∷ []) ∙ ap (λ qs. all_quarters (replicate y J) ++ qs) (one p low)
  where
    one : (p : ℕ) → p ≤ 3 → take p (quarters J) ++ sync_at p ∷ [] ≡ take (p + 1) (quarters J)
    one zero low = refl
    one (suc zero) low = refl
    one (suc (suc zero)) low = refl
    one (suc (suc (suc zero))) low = refl
    one (suc (suc (suc (suc p)))) low = absurd (omega (arith, low))

whole_syncs : (y : ℕ) → syncs y 4 ≡ all_quarters (replicate (suc y) J)
whole_syncs zero = refl
whole_syncs (suc y) = ap (λ qs. quarters J ++ qs) (whole_syncs y)

pub whole_next : (y : ℕ) → syncs y 4 ≡ syncs (suc y) 0
whole_next y = whole_syncs y ∙ sym (append-nil (all_quarters (replicate (suc y) J)))

pub sync_quarter : (s : TxState) (p : ℕ) → s.stage ≡ Committing → s.part ≡ p → quarter_of s ≡ sync_at p
unfolding sync_at
sync_quarter s p stage part = rw (stage, part) refl

pub quiet_quarter : (s : TxState) → s.stage ≡ Quiet → quarter_of s ≡ None
quiet_quarter s stage = rw stage refl
