-- The table of groups as a pairing: a pair of it is found by its group.
use Rattle.std.proofs.Common.{refl, ◌≡◌, ℕ, Bool, true, false, not, ◌&&◌, ◌||◌, ◌==◌, List, [], ◌∷◌, Option, None, Some, ◌≤◌, ◌<◌, nat_lt, if◌then◌else◌, arith, ap, sym, ◌∙◌}
use Rattle.std.specs.Prelude.{IsTrue}
use Rattle.std.specs.List.{list_any}
use Rattle.std.proofs.lemmas.Grind.{common_steps}
use Rattle.std.proofs.lemmas.Bool.{agree_below_at, eqb-true, and_parts, or_right}
use Rattle.t1s_symbols.specs.declared.Symbol.{Symbol}
use Rattle.t1s_symbols.specs.declared.Symbol.TheVariants.{Nibble, J, K, T, R, H, N, S}
use Rattle.t1s_symbols.specs.Ranges.{IsSymbol, symbol_in_range}
use Rattle.t1s_symbols.proofs.InRange.{symbol_from_range}
use Rattle.t1s_symbols.proofs.Quarters.{same_symbol-sound, same_symbol-refl}
use Rattle.t1s_symbols.specs.GroupTable.{group, group_table, symbol, symbol_in, IsPair}
use Rattle.t1s_symbols.specs.Symbols.{same_symbol}

-- whether a group stands in some row
abbrev pub has_group : List (Symbol × ℕ) → ℕ → Bool
has_group rows g = list_any (λ pair. g == pair.1) rows

-- whether no group stands in two rows
abbrev pub is_distinct : List (Symbol × ℕ) → Bool
is_distinct [] = true
is_distinct (pair ∷ pairs) = not (has_group pairs pair.1) && is_distinct pairs

-- whether a symbol and a group stand in one row
abbrev pub has_pair : List (Symbol × ℕ) → Symbol → ℕ → Bool
has_pair rows s g = list_any (λ pair. same_symbol s pair.0 && (g == pair.1)) rows

has_group-of_pair : (rows : List (Symbol × ℕ)) (s : Symbol) (g : ℕ) → IsTrue (has_pair rows s g) → IsTrue (has_group rows g)
has_group-of_pair [] s g h = h
has_group-of_pair (pair ∷ pairs) s g h = grind (arith, common_steps, has_group-of_pair pairs s g)

-- the first row has the symbol's group, or a later row has it
row_of : {A : Type 0} (same here later : Bool) (x y : A) (o : Option A)
    → (same && here) || later ≡ true → (same ≡ true → y ≡ x) → (here ≡ true → later ≡ true → ⊥) → (later ≡ true → o ≡ Some y)
    → (if here then Some x else o) ≡ Some y
row_of true true later x y o h same apart found = ap Some (sym (same refl))
row_of true false later x y o h same apart found = found h
row_of false true later x y o h same apart found = absurd (apart refl h)
row_of false false later x y o h same apart found = found h

-- a group is in no row below its own
apart : (rows : List (Symbol × ℕ)) (s : Symbol) (g f : ℕ)
    → not (has_group rows f) ≡ true → (g == f) ≡ true → IsTrue (has_pair rows s g) → ⊥
apart rows s g f d e p =
    let same : g ≡ f = grind (arith, common_steps) in
    let there : has_group rows f ≡ true = rw (← same) (has_group-of_pair rows s g p) in
    grind (arith, common_steps)

symbol_in-of_pair : (rows : List (Symbol × ℕ)) (s : Symbol) (g : ℕ)
    → IsTrue (is_distinct rows) → IsTrue (has_pair rows s g) → symbol_in rows g ≡ Some s
symbol_in-of_pair [] s g d h = cc
symbol_in-of_pair (pair ∷ pairs) s g d h =
    let here : not (has_group pairs pair.1) ≡ true = grind (arith, common_steps) in
    let below : is_distinct pairs ≡ true = grind (arith, common_steps) in
    row_of (same_symbol s pair.0) (g == pair.1) (has_pair pairs s g) pair.0 s (symbol_in pairs g) h
    (same_symbol-sound s pair.0) (apart pairs s g pair.1 here) (symbol_in-of_pair pairs s g below)

-- two symbols with one group are the same
pub symbol-of_pair : (s : Symbol) (g : ℕ) → IsPair s g → symbol g ≡ Some s
unfolding IsPair symbol
symbol-of_pair s g p = symbol_in-of_pair group_table s g refl p

-- the first row has the symbol and the group, or a later row has them
row_with : (here later : Bool) (x s : Symbol) (o : Option Symbol)
    → (o ≡ Some s → later ≡ true) → (if here then Some x else o) ≡ Some s → (same_symbol s x && here) || later ≡ true
row_with true later x s o below e =
    let is_x : x ≡ s = cc in
    let same : same_symbol s x ≡ true = rw is_x (same_symbol-refl s) in
    grind (arith, common_steps)
row_with false later x s o below e = or_right (same_symbol s x && false) later (below e)

has_pair_in : (rows : List (Symbol × ℕ)) (s : Symbol) (g : ℕ) → symbol_in rows g ≡ Some s → has_pair rows s g ≡ true
has_pair_in [] s g e = cc
has_pair_in (pair ∷ pairs) s g e =
    row_with (g == pair.1) (has_pair pairs s g) pair.0 s (symbol_in pairs g) (has_pair_in pairs s g) e

-- a symbol that is read for a group stands in a row with it
pub pair_of_symbol : (s : Symbol) (g : ℕ) → symbol g ≡ Some s → IsPair s g
unfolding IsPair symbol
pair_of_symbol s g e = has_pair_in group_table s g e

-- whether a reading of a group is this symbol
abbrev reads : Symbol → Option Symbol → Bool
reads s None = false
reads s (Some t) = same_symbol s t

reads-sound : (s : Symbol) (o : Option Symbol) → reads s o ≡ true → o ≡ Some s
reads-sound s None h = cc
reads-sound s (Some t) h = ap Some (sym (same_symbol-sound s t h))

pub symbol-group : (s : Symbol) → IsSymbol s → symbol (group s) ≡ Some s
unfolding group symbol
symbol-group (Nibble n) h =
    reads-sound (Nibble n) (symbol (group (Nibble n)))
    (agree_below_at (λ k. reads (Nibble k) (symbol (group (Nibble k)))) (λ _. true) 16 n refl h)
symbol-group J h = refl
symbol-group K h = refl
symbol-group T h = refl
symbol-group R h = refl
symbol-group H h = refl
symbol-group N h = refl
symbol-group S h = refl

-- a symbol stands in a row with its group
pub pair_of_group : (s : Symbol) → IsSymbol s → IsPair s (group s)
pair_of_group s h = pair_of_symbol s (group s) (symbol-group s h)

-- whether a reading of the group g, if there is one, is in range and has that group
abbrev has : ℕ → Option Symbol → Bool
has g None = true
has g (Some s) = (group s == g) && symbol_in_range s

-- no group is above 0x1F
symbol-above : (g : ℕ) → 32 ≤ g → symbol g ≡ None
unfolding symbol
symbol-above g h = grind (arith, common_steps)

has-each : (g : ℕ) → (below : Bool) → nat_lt g 32 ≡ below → has g (symbol g) ≡ true
unfolding group symbol
has-each g true b =
    let small : g < 32 = grind (arith, common_steps) in
    agree_below_at (λ k. has k (symbol k)) (λ _. true) 32 g refl small
has-each g false b =
    let large : 32 ≤ g = grind (arith, common_steps) in
    ap (has g) (symbol-above g large)

has-read : (s : Symbol) (g : ℕ) → symbol g ≡ Some s → has g (Some s) ≡ true
has-read s g h = sym (ap (has g) h) ∙ has-each g (nat_lt g 32) refl

pub group-symbol : (s : Symbol) (g : ℕ) → symbol g ≡ Some s → group s ≡ g
group-symbol s g h = eqb-true (group s) g (and_parts (group s == g) (symbol_in_range s) (has-read s g h)).0

pub symbol-in_range : (s : Symbol) (g : ℕ) → symbol g ≡ Some s → IsSymbol s
symbol-in_range s g h = symbol_from_range s (and_parts (group s == g) (symbol_in_range s) (has-read s g h)).1
