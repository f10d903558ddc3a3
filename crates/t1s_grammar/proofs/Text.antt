-- The text of a piece, a nibble at a time.
use Rattle.std.proofs.Common.{◌≡◌, ℕ, ◌+◌, ◌-◌, ◌<◌, ◌≤◌, Bool, List, [], ◌∷◌, ◌++◌, Some, length, take, get_or, map, slice_get, sym, ap, ◌∙◌, arith, length-drop}
use Rattle.std.proofs.lemmas.List.{map-append, take_more, get_or-drop, append-nil}
use Rattle.std.proofs.lemmas.Option.{get_or_from_slice_get}
use Rattle.t1s_symbols.specs.GroupTable.{group}
use Rattle.t1s_symbols.specs.declared.Symbol.TheVariants.{Nibble}
use Rattle.t1s_scramble.specs.Scrambled.{scrambled_nibble, scrambled_nibbles, scrambler_after}
use Rattle.t1s_scramble.proofs.Nibbles.{scrambled_nibbles-push, scrambled_nibbles-nil}
use Rattle.t1s_frame.specs.Frame.{nibble_list}
use Rattle.t1s_grammar.specs.Sent.{carried_nibbles, groups}

-- the groups of nibbles, scrambled
abbrev pub nibble_text : List Bool → List ℕ → List ℕ
nibble_text past ns = groups (map Nibble (scrambled_nibbles past ns))

pub nibble_text-nil : (past : List Bool) (old : List ℕ) → old ≡ old ++ nibble_text past []
nibble_text-nil past old = sym (ap (λ ns. old ++ groups (map Nibble ns)) (scrambled_nibbles-nil past) ∙ append-nil old)

pub nibble_text-push : (past : List Bool) (ns : List ℕ) (n : ℕ)
    → nibble_text past (ns ++ n ∷ []) ≡ nibble_text past ns ++ group (Nibble (scrambled_nibble (scrambler_after past ns) n)) ∷ []
nibble_text-push past ns n =
    let next : List ℕ = scrambled_nibble (scrambler_after past ns) n ∷ [] in
    ap (λ xs. groups (map Nibble xs)) (scrambled_nibbles-push past ns n)
    ∙ ap groups (map-append Nibble (scrambled_nibbles past ns) next)
    ∙ map-append group (map Nibble (scrambled_nibbles past ns)) (map Nibble next)

-- the nibbles carried up to the next
pub carried-more : (octets : List ℕ) (i n : ℕ) → 4 ≤ i → i < length (nibble_list octets)
    → slice_get (nibble_list octets) i ≡ Some n
    → take (i + 1 - 4) (carried_nibbles octets) ≡ take (i - 4) (carried_nibbles octets) ++ n ∷ []
carried-more octets i n begun below here =
    let xs : List ℕ = nibble_list octets in
    let ns : List ℕ = carried_nibbles octets in
    let next : i + 1 - 4 ≡ i - 4 + 1 = omega arith in
    let within : i - 4 < length ns = omega (arith, length-drop 4 xs) in
    let place : 4 + (i - 4) ≡ i = omega arith in
    let read : get_or ns (i - 4) 0 ≡ n
    = get_or-drop 4 xs (i - 4) 0 ∙ ap (λ k. get_or xs k 0) place ∙ get_or_from_slice_get xs i n 0 here in
    ap (λ k. take k ns) next ∙ take_more ns (i - 4) 0 within ∙ ap (λ x. take (i - 4) ns ++ x ∷ []) read
