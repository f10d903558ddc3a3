-- How view and transmitter turn together.
use Rattle.std.proofs.Common.{◌≡◌, ℕ, ◌+◌, ◌-◌, ◌*◌, ◌/◌, ◌≤◌, ◌⊎◌, inl, inr, Bool, true, false, List, [], refl, sym, subst, arith}
use Rattle.t1s_pcs_tx.specs.declared.TxCmd.{TxCmd}
use Rattle.t1s_pcs_tx.specs.declared.TxCmd.TheVariants.{Commit as CommitCmd}
use Rattle.t1s_pcs_tx.specs.State.{Stage, Committing}
use Rattle.t1s_node.proofs.NoPiece.{Free, free_rest, quiet, beacons, commits, FreeTurn, goes_on, falls_quiet, begins_beacon, begins_commit, begins_piece}
use Rattle.t1s_node.proofs.JointPlaces.{Apart, away, row, Owning, commit, transmit, pause, Aligned, even_away, odd_away, even_row, odd_row}
use Rattle.t1s_node.proofs.View.{View, Away, InCommit, cmd_of, own_of, Turns, stays_away, row_begins, own_begins, row_goes, row_ends, commit_sends, commit_waits, commit_ends, stays_transmit, pauses, transmit_ends, pause_sends, pause_waits, pause_ends}

-- outside of the own opportunity, a step stays outside, or the opportunity begins
pub data ApartTurn (ready : Bool) : View → View → Type 0 where
  still : {v v' : View} → Apart v' → ApartTurn ready v v'
  opens : ready ≡ true → ApartTurn ready Away (InCommit 288)

pub apart_turns : (ready begun closed : Bool) (v v' : View) → Apart v → Turns ready begun closed v v' → ApartTurn ready v v'
apart_turns ready begun closed _ _ h stays_away = still away
apart_turns ready begun closed _ _ h row_begins = still (row (omega arith))
apart_turns ready begun closed _ _ h (own_begins e) = opens e
apart_turns ready begun closed _ _ (row less) (row_goes e) = still (row (omega (arith, less, e)))
apart_turns ready begun closed _ _ h (row_ends e) = still away
apart_turns ready begun closed _ _ h (commit_sends e) = elim h [ ]
apart_turns ready begun closed _ _ h (commit_waits e n) = elim h [ ]
apart_turns ready begun closed _ _ h (commit_ends e n) = elim h [ ]
apart_turns ready begun closed _ _ h (stays_transmit e) = elim h [ ]
apart_turns ready begun closed _ _ h (pauses e) = elim h [ ]
apart_turns ready begun closed _ _ h (transmit_ends e) = elim h [ ]
apart_turns ready begun closed _ _ h (pause_sends e) = elim h [ ]
apart_turns ready begun closed _ _ h (pause_waits e less some) = elim h [ ]
apart_turns ready begun closed _ _ h (pause_ends e less) = elim h [ ]

pub apart_own : (v : View) → Apart v → own_of v ≡ false
apart_own _ away = refl
apart_own _ (row less) = refl

pub owning_own : (v : View) → Owning v → own_of v ≡ true
owning_own _ commit = refl
owning_own _ transmit = refl
owning_own _ pause = refl

-- a transmitter that stays free
pub data FreeNext (line : List ℕ) : Stage → ℕ → List ℕ → Type 0 where
  frees : {stage : Stage} {part r : ℕ} → Free stage part r → r ≤ 3 → FreeNext line stage part line

-- not told to commit, or with nothing to pop, a free transmitter stays free
pub stays_free : (r : ℕ) (line : List ℕ) (cmd : TxCmd) (stage : Stage) (part : ℕ) (line' : List ℕ) → (cmd ≡ CommitCmd → line ≡ [])
    → FreeTurn r line cmd stage part line' → FreeNext line stage part line'
stays_free r line cmd stage part _ none (goes_on e free) = frees free (free_rest stage part _ free)
stays_free r line _ _ part _ none (falls_quiet e) = frees {r = 0} quiet (omega arith)
stays_free r line _ _ _ _ none (begins_beacon e) = frees {r = 3} (beacons refl) (omega arith)
stays_free r line _ _ _ _ none (begins_commit e empty) =
    subst (λ xs. FreeNext xs Committing 0 []) (sym empty) (frees {r = 3} (commits refl) (omega arith))
stays_free r line _ _ _ _ none (begins_piece e more) = let empty : line ≡ [] = none refl in absurd (cc)

-- with a frame held: the alignment
pub data HoldNext (o : ℕ) (line : List ℕ) (v : View) : Stage → ℕ → List ℕ → Type 0 where
  aligned : {stage : Stage} {part r : ℕ} → Free stage part r → Aligned o v r → HoldNext o line v stage part line

-- a row that begins, goes on or ends leaves the alignment, and what is odd comes nearer to an end
pub aligned_turns : (o r : ℕ) (line : List ℕ) (begun closed : Bool) (v v' : View) (stage : Stage) (part : ℕ) (line' : List ℕ)
    → r ≤ 3 → Aligned o v r → Turns true begun closed v v' → Apart v' → FreeTurn r line (cmd_of v') stage part line'
    → HoldNext (o + 1) line v' stage part line'
aligned_turns o r line begun closed _ _ stage part _ most even_away stays_away out (goes_on e free) = absurd (omega (arith, e))
aligned_turns o r line begun closed _ _ stage part _ most (odd_away h) stays_away out (goes_on {r' = r'} e free) =
    let less : o + 1 + 21 * r' + 20 ≤ 83 = omega (arith, e, h) in
    aligned free (odd_away less)
aligned_turns o r line begun closed _ _ _ part _ most h stays_away out (falls_quiet e) = aligned quiet even_away
aligned_turns o r line begun closed _ _ stage part _ most even_away row_begins out (goes_on e free) = absurd (omega (arith, e))
aligned_turns o r line begun closed _ _ stage part _ most (odd_away h) row_begins out (goes_on e free) =
    aligned free (odd_row 5 r (omega arith) most (omega (arith, e)) (omega (arith, e, h)))
aligned_turns o r line begun closed _ _ _ _ _ most h row_begins out (begins_beacon e) = aligned {r = 3} (beacons refl) (even_row 4 (omega arith) refl)
aligned_turns o r line begun closed _ _ stage part _ most (even_row m low h) (row_goes n) out (goes_on e free) =
    aligned free (even_row m (omega (arith, low, n)) (omega (arith, e, h, n)))
aligned_turns o r line begun closed _ _ stage part _ most (odd_row m x low few h less) (row_goes n) out (goes_on e free) =
    aligned free (odd_row m x (omega (arith, low, n)) few (omega (arith, e, h, n)) (omega (arith, less, n)))
aligned_turns o r line begun closed _ _ _ _ _ most (even_row m low h) (row_goes n) out (begins_beacon e) =
    aligned {r = 3} (beacons refl) (even_row (m - 1) (omega (arith, low, n)) (omega (arith, e, h, n)))
aligned_turns o r line begun closed _ _ _ _ _ most (odd_row m x low few h less) (row_goes n) out (begins_beacon e) =
    aligned {r = 3} (beacons refl) (odd_row (m - 1) x (omega (arith, low, n)) few (omega (arith, e, h, n)) (omega (arith, less, n)))
aligned_turns o r line begun closed _ _ stage part _ most (even_row m low h) (row_ends n) out (goes_on e free) = absurd (omega (arith, e, h, n))
aligned_turns o r line begun closed _ _ stage part _ most (odd_row m x low few h less) (row_ends n) out (goes_on {r' = r'} e free) =
    let near : o + 1 + 21 * r' + 20 ≤ 83 = omega (arith, e, h, n, less, few) in
    aligned free (odd_away near)
aligned_turns o r line begun closed _ _ _ part _ most h (row_ends n) out (falls_quiet e) = aligned quiet even_away
aligned_turns o r line begun closed _ _ stage part _ most h (own_begins e) out turn = elim out [ ]
aligned_turns o r line begun closed _ _ stage part _ most h (commit_sends e) out turn = elim out [ ]
aligned_turns o r line begun closed _ _ stage part _ most h (commit_waits e n) out turn = elim out [ ]
aligned_turns o r line begun closed _ _ stage part _ most h (commit_ends e n) out turn = elim h [ ]
aligned_turns o r line begun closed _ _ stage part _ most h (stays_transmit e) out turn = elim out [ ]
aligned_turns o r line begun closed _ _ stage part _ most h (pauses e) out turn = elim out [ ]
aligned_turns o r line begun closed _ _ stage part _ most h (transmit_ends e) out turn = elim h [ ]
aligned_turns o r line begun closed _ _ stage part _ most h (pause_sends e) out turn = elim out [ ]
aligned_turns o r line begun closed _ _ stage part _ most h (pause_waits e less some) out turn = elim out [ ]
aligned_turns o r line begun closed _ _ stage part _ most h (pause_ends e less) out turn = elim h [ ]

-- a frame that has just begun is aligned, wherever the transmitter stands
pub aligned_first : (r : ℕ) (v : View) → r ≤ 3 → Apart v → Aligned 0 v r
aligned_first r _ most away = odd_away (omega arith)
aligned_first r _ most (row {b = b} low) =
    let m : ℕ = (b + 3 - r) / 4 in
    odd_row m (r + 4 * m - b) low (omega (arith, low, most)) (omega (arith, low, most)) (omega (arith, low, most))

-- where the own opportunity begins
pub aligned_opens : (o r : ℕ) → Aligned o Away r → (r ≡ 0) ⊎ (o + 21 * r + 20 ≤ 83)
aligned_opens o _ even_away = inl refl
aligned_opens o r (odd_away h) = inr h
