-- What the exact clauses of the sources and sinks in memory say in the words of the traits.
use Rattle.std.proofs.Common.{◌≡◌, ℕ, ◌<◌, ◌↔◌, List, [], ◌++◌, Result, Ok, Err, Some, IfOk, IfErr, OnOk, OnErr, length, take, drop, min, refl, sym, ap, ◌∙◌, arith, take-append-drop, append-nil}
use Rattle.std.proofs.lemmas.List.{take_at, length-take-le, nil_from_length}
use Rattle.std.proofs.lemmas.Grind.{common_steps}
use Rattle.std.specs.Io.{ReadsAtMost}
use Rattle.t1s_base.specs.Causes.{count_after_fault, HasCause}
use Rattle.t1s_base.specs.declared.sinks.WriteStop.{WriteStop}

-- a count that stays at Ok and is count_after_fault at a refusal has a cause
pub cause_of_count : {T E : Type 0} (before after : ℕ) (r : Result T E) → OnOk r (after ≡ before) → OnErr r (after ≡ count_after_fault before) → HasCause before after r
cause_of_count before after (Ok x) ok err = record { later = omega arith; failed = tt; kept = ok }
cause_of_count before after (Err e) ok err = record { later = omega arith; failed = omega arith; kept = tt }

module _ {E : Type 0} (left before after : List ℕ) where
  -- a read gives as many of the octets that are left as fit
  abbrev pub Counts : Result ℕ E → Type 0
  Counts r = IfOk r (λ count. count ≡ min (length before) (length left))

  -- and puts them into the first places of the buffer
  abbrev pub Fills : Result ℕ E → Type 0
  Fills r = IfOk r (λ count. after ≡ take count left ++ drop count before)

  pub read_bound : (r : Result ℕ E) → Counts r → Fills r → ReadsAtMost r after
  read_bound (Ok count) counts fills = grind (arith, common_steps)
  read_bound (Err e) counts fills = tt

  pub read_octets : (rest : List ℕ) (r : Result ℕ E) → Counts r → Fills r → IfOk r (λ count. rest ≡ drop count left) → IfOk r (λ count. Some left ≡ Some (take count after ++ rest))
  read_octets rest (Ok count) counts fills end =
      let front : take count after ≡ take count left = ap (take count) fills ∙ take_at (take count left) _ count (length-take-le count left (omega arith)) in
      ap Some (sym (take-append-drop count left) ∙ rw (front, end) refl)
  read_octets rest (Err e) counts fills end = tt

  pub read_end : (r : Result ℕ E) → 0 < length before → Counts r → IfOk r (λ count. (count ≡ 0) ↔ (left ≡ []))
  read_end (Ok count) room counts = (λ none. nil_from_length left (omega arith), λ nothing. omega (arith, ap length nothing))
  read_end (Err e) room counts = tt

-- what holds at Ok and at a refusal holds
pub either_way : {T E P : Type 0} (r : Result T E) → OnOk r P → OnErr r P → P
either_way (Ok x) ok err = ok
either_way (Err e) ok err = err

-- a write that takes nothing appends a prefix of nothing
pub write_prefix : {T : Type 0} (old new piece : List ℕ) (r : Result T WriteStop) → IfErr r (λ stop. stop.taken ≡ 0) → OnErr r (new ≡ old) → IfErr r (λ stop. Some new ≡ Some (old ++ take stop.taken piece))
write_prefix old new piece (Ok x) none same = tt
write_prefix old new piece (Err stop) none same = ap Some (rw (none, same) (sym (append-nil old)))
