-- What a writer that passes octets on holds and has passed on.
use Rattle.std.proofs.Common.{◌≡◌, ℕ, ◌+◌, ◌-◌, ◌≤◌, List, [], ◌++◌, length, take, drop, Option, None, Some, sym, ap, ◌∙◌, append_assoc, arith, length-drop, take-append-drop}
use Rattle.std.proofs.lemmas.List.{drop-drop, take_all}
use Rattle.std.specs.Io.KnownBytes.{append_known, Keeps, Appends}

pub keeps-trans : (a b c : Option (List ℕ)) → Keeps a b → Keeps b c → Keeps a c
keeps-trans None b c p q = tt
keeps-trans (Some x) None c p q = absurd p
keeps-trans (Some x) (Some y) None p q = absurd q
keeps-trans (Some x) (Some y) (Some z) p q = q ∙ p

-- all that is held after those that were passed on
pub rest_all : (held : List ℕ) (passed : ℕ) → take (length held - passed) (drop passed held) ≡ drop passed held
rest_all held passed = take_all (length held - passed) (drop passed held) (omega (arith, length-drop passed held))

-- octets that it took are held no more
pub keeps-passed : (a b : Option (List ℕ)) (held : List ℕ) (passed count : ℕ) → Appends a b (take count (drop passed held)) →
    Keeps (append_known a (drop passed held)) (append_known b (drop (passed + count) held))
keeps-passed None b held passed count p = tt
keeps-passed (Some x) None held passed count p = absurd p
keeps-passed (Some x) (Some y) held passed count p =
    let front = take count (drop passed held) in
    let rest = drop count (drop passed held) in
    ap (λ (l : List ℕ). y ++ l) (sym (drop-drop count passed held)) ∙ (ap (λ (l : List ℕ). l ++ rest) p ∙ (append_assoc x front rest ∙ ap (λ (l : List ℕ). x ++ l) (take-append-drop count (drop passed held))))
