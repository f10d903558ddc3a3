-- Octets that are given or written in several calls, one after another.
use Rattle.std.proofs.Common.{◌≡◌, ℕ, ◌+◌, List, [], ◌++◌, Option, None, Some, IfSome, arith, length, take, refl, sym, ap, ◌∙◌, append_assoc, append-nil}
use Rattle.std.proofs.Math.Seq.{take-append_seam, take-append-add}
use Rattle.std.specs.Io.KnownBytes.{prepend_known, append_known}
use Rattle.t1s_base.specs.Octets.{Gives, Grows, GrowsByPrefix}

-- nothing was written
pub grows_nothing : (a : Option (List ℕ)) → Grows a a []
grows_nothing None = refl
grows_nothing (Some xs) = ap Some (sym (append-nil xs))

-- first some octets, and then more
pub grows_then : (a b c : Option (List ℕ)) (xs ys : List ℕ) → Grows a b xs → Grows b c ys → Grows a c (xs ++ ys)
grows_then None b c xs ys p q = q ∙ ap (λ k. append_known k ys) p
grows_then (Some ws) b c xs ys p q = q ∙ ap (λ k. append_known k ys) p ∙ ap Some (append_assoc ws xs ys)

-- all of some octets are a prefix of them and what follows
pub prefix_of_whole : (a b : Option (List ℕ)) (xs ys : List ℕ) → Grows a b xs → GrowsByPrefix a b (xs ++ ys)
prefix_of_whole a b xs ys p = (length xs, p ∙ ap (append_known a) (sym (take-append_seam xs ys)))

-- some octets, and then a prefix of others
pub grows_then_prefix : (a b c : Option (List ℕ)) (xs ys : List ℕ) → Grows a b xs → GrowsByPrefix b c ys → GrowsByPrefix a c (xs ++ ys)
grows_then_prefix a b c xs ys p q =
    (length xs + q.0, grows_then a b c xs (take q.0 ys) p q.1 ∙ ap (append_known a) (sym (take-append-add xs ys q.0)))

-- nothing was given
pub gives_nothing : (a : Option (List ℕ)) → Gives a a []
gives_nothing None = refl
gives_nothing (Some xs) = refl

-- first some octets, and then more
pub gives_then : (a b c : Option (List ℕ)) (xs ys : List ℕ) → Gives a b xs → Gives b c ys → Gives a c (xs ++ ys)
gives_then a b None xs ys p q = p ∙ ap (prepend_known xs) q
gives_then a b (Some zs) xs ys p q = p ∙ ap (prepend_known xs) q ∙ ap Some (sym (append_assoc xs ys zs))

-- what was given is all that was left, where nothing is left now
pub gives_all : (a b : Option (List ℕ)) (xs : List ℕ) → Gives a b xs → IfSome b (λ rest. rest ≡ []) → IfSome a (λ octets. octets ≡ xs)
gives_all None b xs p none = tt
gives_all (Some ws) None xs p none = cc
gives_all (Some ws) (Some zs) xs p none = grind (arith, append-nil xs)
