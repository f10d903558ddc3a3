-- What was read of an input stands for all of it.
use Rattle.std.proofs.Common.{◌≡◌, ◌⊎◌, ℕ, ◌+◌, ◌<◌, ◌≤◌, List, [], ◌++◌, length, drop, Option, Some, None, refl, sym, ◌∙◌, ap, arith, inl, inr, length-append, lt-ltb}
use Rattle.std.specs.Prelude.{IsOk}
use Rattle.std.proofs.Math.Seq.{drop-append_seam}
use Rattle.std.proofs.lemmas.Bool.{cases_lt}
use Rattle.std.proofs.lemmas.List.{append-nil, drop_all}
use Rattle.t1s_base.specs.Octets.{Gives}
use Rattle.t1s_script.specs.Reading.{script_of}

-- the octets are those that were read, and then those that are left
split : (before after : Option (List ℕ)) (bytes octets : List ℕ) → Gives before after bytes → before ≡ Some octets → (rest : List ℕ) × (after ≡ Some rest) × (octets ≡ bytes ++ rest)
split before None bytes octets gives told = absurd cc
split before (Some rest) bytes octets gives told = (rest, refl, cc)

too_long : (octets : List ℕ) → 1048576 < length octets → (bytes : List ℕ) → 1048576 < length bytes → script_of bytes ≡ script_of octets
too_long octets l bytes h = rw (lt-ltb 1048576 (length octets) l, lt-ltb 1048576 (length bytes) h) refl

-- reading gives the same for what was read as for all
pub same_reading : (before after : Option (List ℕ)) (bytes octets : List ℕ) → Gives before after bytes → ((rest : List ℕ) → after ≡ Some rest → (rest ≡ []) ⊎ (length bytes ≡ 1048577)) → before ≡ Some octets → script_of bytes ≡ script_of octets
same_reading before after bytes octets gives whole told =
    let (rest, left, all) = split before after bytes octets gives told in
    elim (whole rest left) [
      | inl none ↦ let e : bytes ≡ octets = sym (rw (none, append-nil bytes) at all) in ap script_of e
      | inr long ↦
          let more : length octets ≡ length bytes + length rest = ap length all ∙ length-append bytes rest in
          too_long octets (omega arith) bytes (omega arith)
    ]

rest_after : (n : ℕ) (bytes rest octets : List ℕ) → octets ≡ bytes ++ rest → length bytes ≤ n → (rest ≡ []) ⊎ (length bytes ≡ n) → rest ≡ drop n octets
rest_after n bytes rest octets all bound (inl none) =
    let e : octets ≡ bytes = rw (none, append-nil bytes) at all in
    let few : length octets ≤ n = rw e (omega arith) in
    none ∙ sym (drop_all n octets few)
rest_after n bytes rest octets all bound (inr long) = rw (all, ← long) (sym (drop-append_seam bytes rest))

-- what is left is what stands after the octet 1,048,577
pub rest_of_reading : (before after : Option (List ℕ)) (bytes octets : List ℕ) → Gives before after bytes → ((rest : List ℕ) → after ≡ Some rest → (rest ≡ []) ⊎ (length bytes ≡ 1048577)) → length bytes ≤ 1048577 → before ≡ Some octets → after ≡ Some (drop 1048577 octets)
rest_of_reading before after bytes octets gives whole bound told =
    let (rest, left, all) = split before after bytes octets gives told in
    left ∙ ap Some (rest_after 1048577 bytes rest octets all bound (whole rest left))

-- an input that is a script is read to its end
pub all_of_script : (octets : List ℕ) → IsOk (script_of octets) → drop 1048577 octets ≡ []
all_of_script octets ok = elim (cases_lt 1048576 (length octets)) [
  | inl long ↦ absurd (let no = rw (lt-ltb 1048576 (length octets) long) at ok in cc)
  | inr few ↦ drop_all 1048577 octets (omega arith)
]
