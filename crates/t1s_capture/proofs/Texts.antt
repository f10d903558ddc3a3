-- Lists of items, and their octets.
use Rattle.std.proofs.Common.{◌≡◌, ◌≢◌, ℕ, zero, suc, ◌+◌, ◌/◌, ◌%◌, ◌<◌, List, [], ◌∷◌, ◌++◌, length, refl, sym, ap, subst, ◌∙◌, arith, append_assoc, length-append}
use Rattle.std.specs.Prelude.{All}
use Rattle.std.specs.List.{flat_map}
use Rattle.std.proofs.lemmas.List.{append-nil, get_or_append_left, get_or-append-add}
use Rattle.std.proofs.lemmas.List.Concat.{flat_map-append}
use Rattle.std.proofs.lemmas.List.Sums.{sum_by-append}
use Rattle.std.proofs.lemmas.List.Elements.{All-head, All-append}
use Rattle.t1s_capture.specs.Captures.{CaptureItem, count_octets, item_octets, item_ticks, IsItem, is_gap, AlternatesFrom, Alternates, IsItemList, ticks_of, header, begun_text}
use Rattle.t1s_capture.specs.DecoderTable.{count_of}
use Rattle.t1s_capture.specs.Stands.{ends_with_gap}

-- the octets of all items, one after another
abbrev pub octets_of : List CaptureItem → List ℕ
octets_of items = flat_map item_octets items

-- four octets are those of the count that they make
pub count_octets-count_of : (a b c d : ℕ) → a < 256 → b < 256 → c < 256 → d < 256 →
    count_octets (count_of a b c d) ≡ a ∷ b ∷ c ∷ d ∷ []
count_octets-count_of a b c d ha hb hc hd =
    let n : ℕ = count_of a b c d in
    let e1 : count_of a b c d / 16777216 ≡ a = omega arith in
    let e2 : count_of a b c d / 65536 % 256 ≡ b = omega arith in
    let e3 : count_of a b c d / 256 % 256 ≡ c = omega arith in
    let e4 : count_of a b c d % 256 ≡ d = omega arith in
    cc

-- and a count is that of its octets
pub count_of-octets : (n : ℕ) → count_of (n / 16777216) (n / 65536 % 256) (n / 256 % 256) (n % 256) ≡ n
count_of-octets n = omega arith

-- an item more
pub octets_of-push : (items : List CaptureItem) (x : CaptureItem) → octets_of (items ++ x ∷ []) ≡ octets_of items ++ item_octets x
octets_of-push items x =
    flat_map-append item_octets items (x ∷ []) ∙ ap (λ (o : List ℕ). octets_of items ++ o) (append-nil (item_octets x))

pub begun_text-push : (node : ℕ) (items : List CaptureItem) (x : CaptureItem) →
    begun_text node (items ++ x ∷ []) ≡ begun_text node items ++ item_octets x
begun_text-push node items x =
    ap (λ (o : List ℕ). header node ++ o) (octets_of-push items x)
    ∙ sym (append_assoc (header node) (octets_of items) (item_octets x))

pub ticks_of-push : (items : List CaptureItem) (x : CaptureItem) → ticks_of (items ++ x ∷ []) ≡ ticks_of items + item_ticks x
ticks_of-push items x = omega (arith, sum_by-append item_ticks items (x ∷ []))

-- the last of a list
pub last_of : {X : Type 0} (xs ys : List X) (x y : X) → xs ++ x ∷ [] ≡ ys ++ y ∷ [] → (xs ≡ ys) × (x ≡ y)
last_of [] [] x y e = (refl, cc)
last_of [] (z ∷ []) x y e = cc
last_of [] (z ∷ w ∷ ys) x y e = cc
last_of (z ∷ []) [] x y e = cc
last_of (z ∷ w ∷ xs) [] x y e = cc
last_of (z ∷ xs) (w ∷ ys) x y e =
    let h : (xs ≡ ys) × (x ≡ y) = last_of xs ys x y cc in
    let a = h.0 in (cc, h.1)

pub no_last : {X : Type 0} (xs : List X) (x : X) → xs ++ x ∷ [] ≡ [] → ⊥
no_last [] x e = cc
no_last (y ∷ xs) x e = cc

-- a list is empty, or has a last element
pub data Ending {X : Type 0} (xs : List X) : Type 0 where
  empty : xs ≡ [] → Ending xs
  last : (parts : List X) → (x : X) → xs ≡ parts ++ x ∷ [] → Ending xs

longer : {X : Type 0} (x : X) (xs : List X) → Ending xs → Ending (x ∷ xs)
longer x xs (empty e) = last [] x (ap (λ ys. x ∷ ys) e)
longer x xs (last parts y e) = last (x ∷ parts) y (ap (λ ys. x ∷ ys) e)

pub ending : {X : Type 0} (xs : List X) → Ending xs
ending [] = empty refl
ending (x ∷ xs) = longer x xs (ending xs)

pub ends_with_gap-last : (items : List CaptureItem) (x : CaptureItem) → ends_with_gap (items ++ x ∷ []) ≡ is_gap x
ends_with_gap-last [] x = refl
ends_with_gap-last (y ∷ []) x = refl
ends_with_gap-last (y ∷ z ∷ items) x = ends_with_gap-last (z ∷ items) x

-- Alternation.

AlternatesFrom-before : (w : CaptureItem) (xs ys : List CaptureItem) → AlternatesFrom w (xs ++ ys) → AlternatesFrom w xs
AlternatesFrom-before w [] ys h = tt
AlternatesFrom-before w (x ∷ xs) ys h = (h.0, AlternatesFrom-before x xs ys h.1)

pub Alternates-before : (xs ys : List CaptureItem) → Alternates (xs ++ ys) → Alternates xs
Alternates-before [] ys h = tt
Alternates-before (x ∷ xs) ys h = AlternatesFrom-before x xs ys h

AlternatesFrom-two : (w : CaptureItem) (xs : List CaptureItem) (x y : CaptureItem) (ys : List CaptureItem) →
    AlternatesFrom w ((xs ++ x ∷ []) ++ y ∷ ys) → is_gap x ≢ is_gap y
AlternatesFrom-two w [] x y ys h = h.1.0
AlternatesFrom-two w (z ∷ xs) x y ys h = AlternatesFrom-two z xs x y ys h.1

pub Alternates-two : (xs : List CaptureItem) (x y : CaptureItem) (ys : List CaptureItem) →
    Alternates ((xs ++ x ∷ []) ++ y ∷ ys) → is_gap x ≢ is_gap y
Alternates-two [] x y ys h = h.0
Alternates-two (z ∷ xs) x y ys h = AlternatesFrom-two z xs x y ys h

AlternatesFrom-push : (w : CaptureItem) (xs : List CaptureItem) (x y : CaptureItem) →
    AlternatesFrom w (xs ++ x ∷ []) → is_gap x ≢ is_gap y → AlternatesFrom w ((xs ++ x ∷ []) ++ y ∷ [])
AlternatesFrom-push w [] x y h d = (h.0, (d, tt))
AlternatesFrom-push w (z ∷ xs) x y h d = (h.0, AlternatesFrom-push z xs x y h.1 d)

pub Alternates-push : (xs : List CaptureItem) (x y : CaptureItem) →
    Alternates (xs ++ x ∷ []) → is_gap x ≢ is_gap y → Alternates ((xs ++ x ∷ []) ++ y ∷ [])
Alternates-push [] x y h d = (d, tt)
Alternates-push (z ∷ xs) x y h d = AlternatesFrom-push z xs x y h d

AlternatesFrom-like : (w : CaptureItem) (xs : List CaptureItem) (x y : CaptureItem) → is_gap x ≡ is_gap y →
    AlternatesFrom w (xs ++ x ∷ []) → AlternatesFrom w (xs ++ y ∷ [])
AlternatesFrom-like w [] x y e h = (λ k. h.0 (k ∙ sym e), tt)
AlternatesFrom-like w (z ∷ xs) x y e h = (h.0, AlternatesFrom-like z xs x y e h.1)

pub Alternates-like : (xs : List CaptureItem) (x y : CaptureItem) → is_gap x ≡ is_gap y →
    Alternates (xs ++ x ∷ []) → Alternates (xs ++ y ∷ [])
Alternates-like [] x y e h = tt
Alternates-like (z ∷ xs) x y e h = AlternatesFrom-like z xs x y e h

pub All-before : (xs ys : List CaptureItem) → All IsItem (xs ++ ys) → All IsItem xs
All-before xs ys h = λ k d lt. subst IsItem (get_or_append_left xs ys d k lt) (h k d (omega (arith, length-append xs ys)))

pub All-back : (xs ys : List CaptureItem) → All IsItem (xs ++ ys) → All IsItem ys
All-back xs ys h = λ k d lt. subst IsItem (get_or-append-add xs ys k d) (h (length xs + k) d (omega (arith, length-append xs ys)))

pub All-one : (x : CaptureItem) → IsItem x → All IsItem (x ∷ [])
All-one x h zero d lt = h
All-one x h (suc k) d lt = absurd (omega arith)

-- the items in front, and the last item
pub list_before : (xs ys : List CaptureItem) → IsItemList (xs ++ ys) → IsItemList xs
list_before xs ys h = record { each = All-before xs ys h.each; alternate = Alternates-before xs ys h.alternate }

pub last_item : (xs : List CaptureItem) (x : CaptureItem) → IsItemList (xs ++ x ∷ []) → IsItem x
last_item xs x h = All-head IsItem x [] (All-back xs (x ∷ []) h.each)

-- another last item, and one item more
pub list_like : (xs : List CaptureItem) (x y : CaptureItem) → is_gap x ≡ is_gap y → IsItem y → IsItemList (xs ++ x ∷ []) → IsItemList (xs ++ y ∷ [])
list_like xs x y e k h = record {
  each = All-append IsItem xs (y ∷ []) (All-before xs (x ∷ []) h.each) (All-one y k);
  alternate = Alternates-like xs x y e h.alternate;
}

pub list_next : (xs : List CaptureItem) (x y : CaptureItem) → is_gap x ≢ is_gap y → IsItem y → IsItemList (xs ++ x ∷ []) →
    IsItemList ((xs ++ x ∷ []) ++ y ∷ [])
list_next xs x y e k h = record {
  each = All-append IsItem (xs ++ x ∷ []) (y ∷ []) h.each (All-one y k);
  alternate = Alternates-push xs x y h.alternate e;
}

pub list_none : IsItemList []
list_none = record { each = λ k d lt. absurd (omega arith); alternate = tt }

pub list_one : (x : CaptureItem) → IsItem x → IsItemList (x ∷ [])
list_one x h = record { each = All-one x h; alternate = tt }
