-- Lemmas on the items and the codes of dumps.
use Rattle.std.proofs.Common.{◌≡◌, ℕ, ◌+◌, ◌*◌, ◌<◌, ◌≤◌, ◌&&◌, Bool, true, false, nat_le, List, [], ◌∷◌, ◌++◌, length, refl, sym, ap, subst, ◌∙◌, inl, inr, arith, append_assoc}
use Rattle.t1s_waveform.specs.Dumps.{Item, Time, Change, Vector, Scope, Wire, Ascend, EachOnce, HasWire, HaveWires, IsAmong, codes_of_wires, declared_codes, declared_wires, item_text, items_text, scope_text, scopes_text}
use Rattle.std.specs.Prelude.{if◌then◌else◌}
use Rattle.std.specs.Str.{bytes_eq}
use Rattle.t1s_waveform.specs.Values.{changed, value_from}

-- ---- texts of lists

pub items_text-append : (a b : List Item) → items_text (a ++ b) ≡ items_text a ++ items_text b
items_text-append [] b = refl
items_text-append (item ∷ a) b = ap (λ (t : List ℕ). item_text item ++ t) (items_text-append a b) ∙ sym (append_assoc (item_text item) (items_text a) (items_text b))

pub scopes_text-append : (a b : List Scope) → scopes_text (a ++ b) ≡ scopes_text a ++ scopes_text b
scopes_text-append [] b = refl
scopes_text-append (scope ∷ a) b = ap (λ (t : List ℕ). scope_text scope ++ t) (scopes_text-append a b) ∙ sym (append_assoc (scope_text scope) (scopes_text a) (scopes_text b))

pub declared_codes-append : (a b : List Scope) → declared_codes (a ++ b) ≡ declared_codes a ++ declared_codes b
declared_codes-append [] b = refl
declared_codes-append (scope ∷ a) b =
    ap (λ (cs : List (List ℕ)). codes_of_wires scope.wires ++ cs) (declared_codes-append a b) ∙ sym (append_assoc (codes_of_wires scope.wires) (declared_codes a) (declared_codes b))

pub declared_wires-append : (a b : List Scope) → declared_wires (a ++ b) ≡ declared_wires a ++ declared_wires b
declared_wires-append [] b = refl
declared_wires-append (scope ∷ a) b =
    ap (λ (ws : List Wire). scope.wires ++ ws) (declared_wires-append a b) ∙ sym (append_assoc scope.wires (declared_wires a) (declared_wires b))

-- ---- codes

pub wire_left : (a b : List Wire) (c : List ℕ) (bits : ℕ) → HasWire a c bits → HasWire (a ++ b) c bits
wire_left [] b c bits h = absurd h
wire_left (x ∷ a) b c bits (inl e) = inl e
wire_left (x ∷ a) b c bits (inr h) = inr (wire_left a b c bits h)

pub wire_right : (a b : List Wire) (c : List ℕ) (bits : ℕ) → HasWire b c bits → HasWire (a ++ b) c bits
wire_right [] b c bits h = h
wire_right (x ∷ a) b c bits h = inr (wire_right a b c bits h)

-- a code of two octets as a number
abbrev pub weight : List ℕ → ℕ
weight (x ∷ y ∷ []) = 256 * x + y
weight _ = 0

-- the codes ascend, from the one number on and below the other
abbrev pub RisesTo : ℕ → List (List ℕ) → ℕ → Type 0
RisesTo m [] k = m ≤ k
RisesTo m (c ∷ cs) k = (m ≤ weight c) × RisesTo (weight c + 1) cs k

rises_earlier : (m n : ℕ) (cs : List (List ℕ)) (k : ℕ) → m ≤ n → RisesTo n cs k → RisesTo m cs k
rises_earlier m n [] k le h = omega arith
rises_earlier m n (c ∷ cs) k le (first, rest) = (omega arith, rest)

pub rises-append : (m : ℕ) (a b : List (List ℕ)) (k l : ℕ) → RisesTo m a k → RisesTo k b l → RisesTo m (a ++ b) l
rises-append m [] b k l h more = rises_earlier m k b l h more
rises-append m (c ∷ a) b k l (first, rest) more = (first, rises-append (weight c + 1) a b k l rest more)

rises_above : (m : ℕ) (cs : List (List ℕ)) (k : ℕ) (c : List ℕ) → RisesTo m cs k → IsAmong cs c → m ≤ weight c
rises_above m [] k c h among = absurd among
rises_above m (x ∷ cs) k c (first, rest) (inl e) = subst (λ (d : List ℕ). m ≤ weight d) e first
rises_above m (x ∷ cs) k c (first, rest) (inr among) = let above = rises_above (weight x + 1) cs k c rest among in omega arith

-- codes that ascend stand once each
pub rises_once : (m : ℕ) (cs : List (List ℕ)) (k : ℕ) → RisesTo m cs k → EachOnce cs
rises_once m [] k h = tt
rises_once m (c ∷ cs) k (first, rest) = (λ among. absurd (let above = rises_above (weight c + 1) cs k c rest among in omega arith), rises_once (weight c + 1) cs k rest)

-- ---- times

-- the items lead from the one time to the other, and are of these wires
abbrev pub Goes : List Wire → ℕ → List Item → ℕ → Type 0
Goes ws t [] u = t ≡ u
Goes ws t (Time s ∷ items) u = (t < s) × Goes ws s items u
Goes ws t (Change value code ∷ items) u = HasWire ws code 1 × Goes ws t items u
Goes ws t (Vector values code ∷ items) u = HasWire ws code (length values) × Goes ws t items u

pub goes-append : (ws : List Wire) (t : ℕ) (a b : List Item) (u v : ℕ) → Goes ws t a u → Goes ws u b v → Goes ws t (a ++ b) v
goes-append ws t [] b u v h more = subst (λ (s : ℕ). Goes ws s b v) (sym h) more
goes-append ws t (Time s ∷ a) b u v (later, rest) more = (later, goes-append ws s a b u v rest more)
goes-append ws t (Change value code ∷ a) b u v (has, rest) more = (has, goes-append ws t a b u v rest more)
goes-append ws t (Vector values code ∷ a) b u v (has, rest) more = (has, goes-append ws t a b u v rest more)

-- with more wires
pub goes_among : (ws xs : List Wire) → ((c : List ℕ) (bits : ℕ) → HasWire ws c bits → HasWire xs c bits) → (t : ℕ) (items : List Item) (u : ℕ) → Goes ws t items u → Goes xs t items u
goes_among ws xs more t [] u h = h
goes_among ws xs more t (Time s ∷ items) u (later, rest) = (later, goes_among ws xs more s items u rest)
goes_among ws xs more t (Change value code ∷ items) u (has, rest) = (more code 1 has, goes_among ws xs more t items u rest)
goes_among ws xs more t (Vector values code ∷ items) u (has, rest) = (more code (length values) has, goes_among ws xs more t items u rest)

pub goes_ascend : (ws : List Wire) (t : ℕ) (items : List Item) (u : ℕ) → Goes ws t items u → Ascend t items
goes_ascend ws t [] u h = tt
goes_ascend ws t (Time s ∷ items) u (later, rest) = (later, goes_ascend ws s items u rest)
goes_ascend ws t (Change value code ∷ items) u (has, rest) = goes_ascend ws t items u rest
goes_ascend ws t (Vector values code ∷ items) u (has, rest) = goes_ascend ws t items u rest

pub goes_wires : (ws : List Wire) (t : ℕ) (items : List Item) (u : ℕ) → Goes ws t items u → HaveWires ws items
goes_wires ws t [] u h = tt
goes_wires ws t (Time s ∷ items) u (later, rest) = goes_wires ws s items u rest
goes_wires ws t (Change value code ∷ items) u (has, rest) = (has, goes_wires ws t items u rest)
goes_wires ws t (Vector values code ∷ items) u (has, rest) = (has, goes_wires ws t items u rest)

-- ---- values

-- of items, and then others
pub value-append : (ws : List Wire) (c : List ℕ) (tick t : ℕ) (value : List Bool) (a b : List Item) (u : ℕ) → Goes ws t a u →
    value_from c tick t value (a ++ b) ≡ value_from c tick u (value_from c tick t value a) b
value-append ws c tick t value [] b u h = ap (λ (s : ℕ). value_from c tick s value b) h
value-append ws c tick t value (Time s ∷ a) b u (later, rest) = value-append ws c tick s value a b u rest
value-append ws c tick t value (Change x d ∷ a) b u (has, rest) = value-append ws c tick t (changed c tick t d (x ∷ []) value) a b u rest
value-append ws c tick t value (Vector xs d ∷ a) b u (has, rest) = value-append ws c tick t (changed c tick t d xs value) a b u rest

-- a change of another wire
pub changed_other : (code : List ℕ) (tick now : ℕ) (c : List ℕ) (value before : List Bool) → bytes_eq c code ≡ false → changed code tick now c value before ≡ before
changed_other code tick now c value before other = go (nat_le now tick) (bytes_eq c code) other
  where
    go : (a b : Bool) → b ≡ false → (if a && b then value else before) ≡ before
    go true false e = refl
    go false b e = refl
    go true true e = absurd cc
