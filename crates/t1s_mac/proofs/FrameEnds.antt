-- How frames end, from what holds over every run.
use Rattle.std.proofs.Common.{◌≡◌, ◌↔◌, ℕ, ◌+◌, ◌==◌, ◌<◌, ◌≤◌, Bool, true, false, ◌&&◌, ◌||◌, IsTrue, nat_lt, nat_le, List, [], ◌∷◌, length, slice_get, Some, refl, ◌∙◌, arith}
use Rattle.std.proofs.lemmas.Bool.Decides.{nat_tests}
use Rattle.std.proofs.lemmas.List.{take_all}
use Rattle.plca_data.specs.declared.MacOut.{MacOut}
use Rattle.plca_data.specs.declared.MacOut.TheVariants.{Ended}
use Rattle.t1s_frame.specs.Frame.{nibble_list}
use Rattle.t1s_ring.specs.Queue.{Queue}
use Rattle.t1s_ring.specs.declared.queued.Queued.{Queued}
use Rattle.t1s_mac.specs.Laws.{jams, jam_on, given_nibbles}
use Rattle.t1s_mac.specs.MacTable.{Row, row_of, deferring, sending, jamming, last_quarter, last_jam_nibble, last_attempt, preamble_nibbles}
use Rattle.t1s_mac.specs.State.{Phase, Resting, Deferring, Waiting, Sending, Jamming, head_nibbles, head_number, nibbles_in, number_in}
use Rattle.t1s_mac.specs.declared.outcome.MacNote.{MacNote}
use Rattle.t1s_mac.specs.declared.outcome.MacNote.TheVariants.{Drop, Sent}
use Rattle.t1s_mac.specs.declared.outcome.MacStep.{MacStep}
use Rattle.std.proofs.lemmas.Bool.{cond_both}
use Rattle.t1s_mac.proofs.Rows.{frame_there}
use Rattle.t1s_mac.proofs.Runs.{Stands}

abbrev pub DropsBy : List MacStep → MacOut → MacNote → Type 0
DropsBy told out note =
    ((number : ℕ) × (note ≡ Drop number)) ↔ ((out ≡ Ended) × IsTrue (jam_on told) × (jams told ≡ 16))

abbrev pub DropRow : List MacStep → Row → Type 0
DropRow told left = DropsBy told left.out left.note

-- a row with another note, in which no 16th jam ends
other_row : (told : List MacStep) (o : MacOut) (n : MacNote)
    → ((number : ℕ) → n ≡ Drop number → ⊥)
    → (o ≡ Ended → jam_on told ≡ true → jams told ≡ 16 → ⊥)
    → DropsBy told o n
other_row told o n note out = (λ p. absurd (note p.0 p.1), λ p. absurd (out p.0 p.1 p.2))

drop_deferring : (q : Queue) (attempts : ℕ) (may : Bool) (told : List MacStep) → DropRow told (deferring q attempts may)
drop_deferring q attempts may told =
    cond_both may _ _ (DropRow told)
    (λ _. other_row told _ _ (λ _ e. cc) (λ e _ _. cc))
    (λ _. other_row told _ _ (λ _ e. cc) (λ e _ _. cc))

drop_sending : (nibble quarter : ℕ) (hit : Bool) (q : Queue) (attempts : ℕ) (told : List MacStep)
    → jam_on told ≡ false → DropRow told (sending nibble quarter hit q attempts)
drop_sending nibble quarter hit q attempts told off =
    cond_both (nat_lt quarter last_quarter) _ _ (DropRow told)
    (λ _. other_row told _ _ (λ _ e. cc) (λ e _ _. cc))
    (λ _. cond_both (hit && nat_le preamble_nibbles (nibble + 1)) _ _ (DropRow told)
    (λ _. other_row told _ _ (λ _ e. cc) (λ e _ _. cc))
    (λ _. cond_both (nibble + 1 == length (head_nibbles q)) _ _ (DropRow told)
    (λ _. other_row told _ _ (λ _ e. cc) (λ _ on _. cc))
    (λ _. other_row told _ _ (λ _ e. cc) (λ e _ _. cc))))

drop_jamming : (nibble quarter : ℕ) (q : Queue) (attempts drawn : ℕ) (told : List MacStep)
    → jam_on told ≡ true → jams told ≡ attempts + 1 → DropRow told (jamming nibble quarter q attempts drawn)
drop_jamming nibble quarter q attempts drawn told on jammed =
    cond_both (nat_lt quarter last_quarter) _ _ (DropRow told)
    (λ _. other_row told _ _ (λ _ e. cc) (λ e _ _. cc))
    (λ _. cond_both (nat_lt nibble last_jam_nibble) _ _ (DropRow told)
    (λ _. other_row told _ _ (λ _ e. cc) (λ e _ _. cc))
    (λ _. cond_both (attempts == last_attempt) _ _ (DropRow told)
    (λ last.
    let sixteen : jams told ≡ 16 = grind (arith, nat_tests, last, jammed) in
    (λ _. (refl, on, sixteen), λ _. (head_number q, refl)))
    (λ last. other_row told _ _ (λ _ e. cc) (λ _ _ sixteen. grind (arith, nat_tests, last, jammed, sixteen)))))

pub drop_row : (phase : Phase) (q : Queue) (attempts : ℕ) (may collision : Bool) (drawn : ℕ) (told : List MacStep)
    → Stands phase q attempts told → DropRow told (row_of phase q attempts may collision drawn)
drop_row Resting q attempts may collision drawn told h =
    cond_both (nat_lt 0 (length q.frames)) _ _ (DropRow told)
    (λ _. drop_deferring q attempts may told)
    (λ _. other_row told _ _ (λ _ e. cc) (λ e _ _. cc))
drop_row Deferring q attempts may collision drawn told h = drop_deferring q attempts may told
drop_row (Waiting left) q attempts may collision drawn told h =
    cond_both (left == 0) _ _ (DropRow told)
    (λ _. drop_deferring q attempts may told)
    (λ _. other_row told _ _ (λ _ e. cc) (λ e _ _. cc))
drop_row (Sending nibble quarter collided) q attempts may collision drawn told h =
    drop_sending nibble quarter (collided || collision) q attempts told h.on
drop_row (Jamming nibble quarter) q attempts may collision drawn told h =
    drop_jamming nibble quarter q attempts drawn told h.on h.jammed

abbrev pub WholeFrame : List Queued → ℕ → List ℕ → Type 0
WholeFrame frames number out =
    (head : Queued) × (slice_get frames 0 ≡ Some head) × (head.number ≡ number) × (out ≡ nibble_list head.frame)

abbrev pub SentRow : Queue → List MacStep → Row → Type 0
SentRow q told left = (number : ℕ) → left.note ≡ Sent number → WholeFrame q.frames number (given_nibbles told)

-- of a first frame that is there
whole_frame : (frames : List Queued) (number : ℕ) (out : List ℕ) → 0 < length frames
    → number_in (slice_get frames 0) ≡ number → out ≡ nibbles_in (slice_get frames 0) → WholeFrame frames number out
whole_frame [] number out some is whole = absurd (omega arith)
whole_frame (x ∷ xs) number out some is whole = (x, refl, is, whole)

sent_deferring : (q : Queue) (attempts : ℕ) (may : Bool) (told : List MacStep) → SentRow q told (deferring q attempts may)
sent_deferring q attempts may told =
    cond_both may _ _ (SentRow q told) (λ _ _ e. absurd (cc)) (λ _ _ e. absurd (cc))

sent_sending : (nibble quarter : ℕ) (collided collision : Bool) (q : Queue) (attempts : ℕ) (told : List MacStep)
    → Stands (Sending nibble quarter collided) q attempts told → SentRow q told (sending nibble quarter (collided || collision) q attempts)
sent_sending nibble quarter collided collision q attempts told h =
    cond_both (nat_lt quarter last_quarter) _ _ (SentRow q told)
    (λ _ _ e. absurd (cc))
    (λ _. cond_both ((collided || collision) && nat_le preamble_nibbles (nibble + 1)) _ _ (SentRow q told)
    (λ _ _ e. absurd (cc))
    (λ _. cond_both (nibble + 1 == length (head_nibbles q)) _ _ (SentRow q told)
    (λ last number e.
    let all : length (head_nibbles q) ≤ nibble + 1 = grind (arith, nat_tests, last) in
    whole_frame q.frames number (given_nibbles told) (frame_there q.frames nibble h.there) (cc)
    (h.out ∙ take_all (nibble + 1) (head_nibbles q) all))
    (λ _ _ e. absurd (cc))))

sent_jamming : (nibble quarter : ℕ) (q : Queue) (attempts drawn : ℕ) (told : List MacStep) → SentRow q told (jamming nibble quarter q attempts drawn)
sent_jamming nibble quarter q attempts drawn told =
    cond_both (nat_lt quarter last_quarter) _ _ (SentRow q told)
    (λ _ _ e. absurd (cc))
    (λ _. cond_both (nat_lt nibble last_jam_nibble) _ _ (SentRow q told)
    (λ _ _ e. absurd (cc))
    (λ _. cond_both (attempts == last_attempt) _ _ (SentRow q told) (λ _ _ e. absurd (cc)) (λ _ _ e. absurd (cc))))

pub sent_row : (phase : Phase) (q : Queue) (attempts : ℕ) (may collision : Bool) (drawn : ℕ) (told : List MacStep)
    → Stands phase q attempts told → SentRow q told (row_of phase q attempts may collision drawn)
sent_row Resting q attempts may collision drawn told h =
    cond_both (nat_lt 0 (length q.frames)) _ _ (SentRow q told)
    (λ _. sent_deferring q attempts may told)
    (λ _ _ e. absurd (cc))
sent_row Deferring q attempts may collision drawn told h = sent_deferring q attempts may told
sent_row (Waiting left) q attempts may collision drawn told h =
    cond_both (left == 0) _ _ (SentRow q told)
    (λ _. sent_deferring q attempts may told)
    (λ _ _ e. absurd (cc))
sent_row (Sending nibble quarter collided) q attempts may collision drawn told h =
    sent_sending nibble quarter collided collision q attempts told h
sent_row (Jamming nibble quarter) q attempts may collision drawn told h =
    sent_jamming nibble quarter q attempts drawn told
