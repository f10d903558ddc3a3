-- What a symbol that is taken does to the nibbles that are kept.
use Rattle.std.proofs.Common.{◌≡◌, refl, ℕ, ◌+◌, ◌-◌, Bool, true, false, List, [], ◌∷◌, ◌++◌, length, arith}
use Rattle.std.specs.Prelude.{IsTrue, IfSome, IfOk, Result, Ok, Err, nat_lt, nat_le, ◌==◌, ◌&&◌, if◌then◌else◌}
use Rattle.std.proofs.lemmas.Grind.{common_steps}
use Rattle.t1s_scramble.specs.Scrambled.{descrambled_nibble}
use Rattle.t1s_grammar.specs.declared.place.PlaceFault.{PlaceFault}
use Rattle.t1s_grammar.specs.declared.place.PlaceFault.TheVariants.{NotHere, TooLong}
use Rattle.t1s_symbols.specs.declared.Symbol.{Symbol}
use Rattle.t1s_symbols.specs.declared.Symbol.TheVariants.{Nibble, J, K, T, R, H, N, S}
use Rattle.t1s_grammar.specs.declared.place.Phase.{Phase}
use Rattle.t1s_grammar.specs.declared.place.Phase.TheVariants.{Beacon, Between, Opened, Within, Ended}
use Rattle.t1s_grammar.specs.PlaceTable.{place_step, nibbles_at, beacon_step, between_step, opened_step, within_step, ended_step}
use Rattle.t1s_pcs_rx.specs.PieceReading.{nibbles_after}
use Rattle.t1s_pcs_rx.specs.ReceiveTable.{closed_by}
use Rattle.t1s_pcs_rx.specs.Ranges.{room_at}

-- a closer leaves the kept nibbles as they are
pub closed-nibbles : (lead groups count : ℕ) (past : List Bool) (heard : List ℕ) (s : Symbol)
    → IfSome (closed_by lead groups s) (λ _. nibbles_after count past heard s ≡ heard)
closed-nibbles lead groups count past heard (Nibble n) = tt
closed-nibbles lead groups count past heard J = tt
closed-nibbles lead groups count past heard K = refl
closed-nibbles lead groups count past heard T = tt
closed-nibbles lead groups count past heard R = refl
closed-nibbles lead groups count past heard H = tt
closed-nibbles lead groups count past heard N = tt
closed-nibbles lead groups count past heard S = refl

-- what holds of the taken one holds of what is taken
taken-if : (P : Phase → Type 0) (b : Bool) (q : Phase) (f : PlaceFault) → P q → IfOk (if b then Ok q else Err f) P
taken-if P true q f h = h
taken-if P false q f h = tt

taken-else : (P : Phase → Type 0) (b : Bool) (f : PlaceFault) (r : Result Phase PlaceFault) → IfOk r P → IfOk (if b then Err f else r) P
taken-else P true f r h = tt
taken-else P false f r h = h

room-nibble : (count : ℕ) (heard : List ℕ) (d : ℕ) → IsTrue (nat_le (length heard) (count - 9))
    → IsTrue (nat_le (length (if nat_lt count 9 then heard else heard ++ d ∷ [])) (count + 1 - 9))
room-nibble count heard d h = grind (arith, common_steps)

-- what the nibbles that are kept are to be after a symbol
abbrev RoomAfter : Phase → Symbol → List Bool → List ℕ → Phase → Type 0
RoomAfter p s past heard next = IsTrue (room_at next (length (nibbles_after (nibbles_at p) past heard s)))

room-beacon : (c : ℕ) (s : Symbol) (past : List Bool) (heard : List ℕ)
    → IfOk (beacon_step c s) (RoomAfter (Beacon c) s past heard)
room-beacon c N past heard = taken-if (RoomAfter (Beacon c) N past heard) (nat_lt c 5) (Beacon (c + 1)) NotHere refl
room-beacon c _ past heard = tt

room-between : (c l : ℕ) (s : Symbol) (past : List Bool) (heard : List ℕ)
    → IfOk (between_step c l s) (RoomAfter (Between c l) s past heard)
room-between c l J past heard = taken-if (RoomAfter (Between c l) J past heard) (nat_lt l 4096) (Between c (l + 1)) TooLong refl
room-between c l H past heard =
    let P : Phase → Type 0 = RoomAfter (Between c l) H past heard in
    taken-else P (nat_lt l 2) NotHere (if nat_lt c 4096 then Ok (Opened c l) else Err TooLong)
    (taken-if P (nat_lt c 4096) (Opened c l) TooLong refl)
room-between c l N past heard = taken-if (RoomAfter (Between c l) N past heard) (c == 0 && (l == 0)) (Beacon 1) NotHere refl
room-between c l _ past heard = tt

room-opened : (c l : ℕ) (s : Symbol) (past : List Bool) (heard : List ℕ)
    → IfOk (opened_step c l s) (RoomAfter (Opened c l) s past heard)
room-opened c l H past heard = refl
room-opened c l _ past heard = tt

room-within : (c l n : ℕ) (s : Symbol) (past : List Bool) (heard : List ℕ) → IsTrue (nat_le (length heard) (n - 9))
    → IfOk (within_step c l n s) (RoomAfter (Within c l n) s past heard)
room-within c l n (Nibble x) past heard h =
    taken-if (RoomAfter (Within c l n) (Nibble x) past heard) (nat_lt n 3056) (Within c l (n + 1)) TooLong
    (room-nibble n heard (descrambled_nibble past x) h)
room-within c l n T past heard h =
    taken-else (RoomAfter (Within c l n) T past heard) (nat_lt n 9) NotHere (Ok (Ended c l n)) refl
room-within c l n _ past heard h = tt

room-ended : (c l n : ℕ) (s : Symbol) (past : List Bool) (heard : List ℕ)
    → IfOk (ended_step c s) (RoomAfter (Ended c l n) s past heard)
room-ended c l n R past heard = refl
room-ended c l n K past heard = refl
room-ended c l n S past heard = refl
room-ended c l n _ past heard = tt

room-judged : (p : Phase) (s : Symbol) (past : List Bool) (heard : List ℕ) → IsTrue (room_at p (length heard))
    → IfOk (place_step p s) (RoomAfter p s past heard)
room-judged (Beacon c) s past heard h = room-beacon c s past heard
room-judged (Between c l) s past heard h = room-between c l s past heard
room-judged (Opened c l) s past heard h = room-opened c l s past heard
room-judged (Within c l n) s past heard h = room-within c l n s past heard h
room-judged (Ended c l n) s past heard h = room-ended c l n s past heard

-- the nibbles that are kept stay those from the tenth of their piece on
pub room-taken : (p next : Phase) (s : Symbol) (past : List Bool) (heard : List ℕ) → place_step p s ≡ Ok next
    → IsTrue (room_at p (length heard)) → RoomAfter p s past heard next
room-taken p next s past heard e h =
    let all : IfOk (place_step p s) (RoomAfter p s past heard) = room-judged p s past heard h in
    rw e at all
