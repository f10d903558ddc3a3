-- With an octet more, octets are made of what has grown.
use Rattle.std.proofs.Common.{◌≡◌, ◌≢◌, ℕ, zero, suc, ◌+◌, ◌^◌, ◌<◌, ◌≤◌, ◌⊎◌, Bool, true, false, List, [], ◌∷◌, ◌++◌, length, map, take, Result, Ok, Err, refl, sym, ap, subst, ◌∙◌, inl, inr, arith, append_assoc, nat_lt, if◌then◌else◌}
use Rattle.std.specs.Prelude.{◌==◌, ◌&&◌, ◌||◌, slice_index}
use Rattle.std.proofs.lemmas.Grind.{common_steps}
use Rattle.std.proofs.lemmas.Bool.{eqb-true, eqb-false, ltb-true, eq-eqb}
use Rattle.std.proofs.lemmas.List.{append-nil, map-append}
use Rattle.std.proofs.lemmas.List.Elements.{All-append}
use Rattle.t1s_base.specs.Limits.{most_nodes}
use Rattle.t1s_symbols.specs.GroupTable.{group}
use Rattle.t1s_symbols.specs.declared.Symbol.{Symbol}
use Rattle.t1s_grammar.specs.Burst.{IsBurst}
use Rattle.t1s_grammar.specs.Prefixes.{Beginning, beginning_symbols, IsBeginning, phase_of, Stands as PlaceStands}
use Rattle.t1s_grammar.specs.PlaceTable.{place_step, ends_burst}
use Rattle.t1s_grammar.specs.declared.place.Phase.{Phase}
use Rattle.t1s_grammar.specs.declared.place.PlaceFault.{PlaceFault}
use Rattle.t1s_grammar.specs.declared.place.PlaceFault.TheVariants.{NotHere, TooLong as OneTooMany}
use Rattle.t1s_grammar.proofs.Beginnings.{IsBurst-stands, stands-burst}
use Rattle.t1s_capture.specs.declared.items.Why.{Why}
use Rattle.t1s_capture.specs.declared.items.Why.TheVariants.{Magic as BadMagic, Version as BadVersion, NodeByte, CountZero, GapTwice, Group, Place, BurstLong, AfterEnd}
use Rattle.t1s_capture.specs.declared.stage.CountSoFar.{CountSoFar}
use Rattle.t1s_capture.specs.declared.stage.CountSoFar.TheVariants.{Nothing, One, Two, Three}
use Rattle.t1s_capture.specs.declared.stage.OctetKind.{OctetKind}
use Rattle.t1s_capture.specs.declared.stage.OctetKind.TheVariants.{Gap as GapOctet, End, Torn as TornOctet, Known, Unknown}
use Rattle.t1s_capture.specs.Captures.{CaptureItem, Gap, Burst, Torn, magic, no_symbols, symbol_count, symbol_octets, item_octets, NeedsBlur, IsItem, is_gap, IsItemList, begun_text}
use Rattle.t1s_capture.specs.PrefixParts.{in_gap, in_burst, in_blur, after_torn, ended, PrefixParts, in_magic, at_version, at_node, with_items, AreOctets, counted_octets, ArePartsInRange, parts_octets}
use Rattle.t1s_capture.specs.DecoderTable.{octet_kind, count_of}
use Rattle.t1s_capture.specs.Stands.{ends_with_gap, needs_blur}
use Rattle.t1s_grammar.proofs.Longer.{more}
use Rattle.t1s_capture.proofs.WithSymbols.{with_symbols-beginning, with_symbols}
use Rattle.t1s_grammar.specs.Longer.{with_symbol}
use Rattle.t1s_capture.proofs.Texts.{count_octets-count_of, begun_text-push, Ending, empty, last, ending, ends_with_gap-last, Alternates-two, list_before, last_item, list_like, list_next, list_one}
use Rattle.t1s_capture.proofs.OctetKinds.{IsKnown, HasKind, has_kind}
use Rattle.t1s_capture.proofs.NextParts.{NextParts, next_is, fails, next_in_magic, next_at_version, next_at_node, next_in_gap, next_in_blur, next_by_symbol, next_in_burst, next_after_torn, next_parts}

-- what has grown by an octet
pub record IsNext (f : PrefixParts) (o : ℕ) (g : PrefixParts) : Type 0 where
  pub in_range : ArePartsInRange g
  pub text : parts_octets g ≡ parts_octets f ++ o ∷ []

pub same_parts : (x g : PrefixParts) → next_is x ≡ next_is g → x ≡ g
same_parts x g e = cc

pub no_parts : (why : Why) (g : PrefixParts) → fails why ≡ next_is g → ⊥
no_parts why g e = cc

-- which way a test went
branch : (b : Bool) (x y g : NextParts) → (if b then x else y) ≡ g → ((b ≡ true) × (x ≡ g)) ⊎ ((b ≡ false) × (y ≡ g))
branch true x y g e = inl (refl, e)
branch false x y g e = inr (refl, e)

-- a test that lets an octet through, and one that stops it
pub passes : (b : Bool) (x : NextParts) (why : Why) (g : PrefixParts) → (if b then x else fails why) ≡ next_is g → (b ≡ true) × (x ≡ next_is g)
passes true x why g e = (refl, e)
passes false x why g e = absurd (no_parts why g e)

pub unstopped : (b : Bool) (x : NextParts) (why : Why) (g : PrefixParts) → (if b then fails why else x) ≡ next_is g → (b ≡ false) × (x ≡ next_is g)
unstopped true x why g e = absurd (no_parts why g e)
unstopped false x why g e = (refl, e)

becomes : (f x g : PrefixParts) (o : ℕ) → x ≡ g → ArePartsInRange x → parts_octets x ≡ parts_octets f ++ o ∷ [] → IsNext f o g
becomes f x g o e h t = subst (λ (y : PrefixParts). IsNext f o y) e (record { in_range = h; text = t })

-- ---- bursts and blurs

pub burst_place : (b : Beginning) → IsBeginning b → PlaceStands (beginning_symbols b) (phase_of b)
burst_place b h = record { beginning = b; in_range = h; spelled = refl; counted = refl }

pub is_burst : (b : Beginning) → IsBeginning b → ends_burst (phase_of b) ≡ true → IsBurst (beginning_symbols b)
is_burst b h e = IsBurst-stands (beginning_symbols b) (phase_of b) (burst_place b h) e

pub burst_ends : (b : Beginning) → IsBeginning b → IsBurst (beginning_symbols b) → ends_burst (phase_of b) ≡ true
burst_ends b h k = stands-burst (beginning_symbols b) (phase_of b) (burst_place b h) k

no_elements : {X : Type 0} (xs : List X) → length xs ≡ 0 → xs ≡ []
no_elements [] e = refl
no_elements (x ∷ xs) e = absurd (omega arith)

-- no symbols are no beginning but one
pub none_begun : (b : Beginning) → IsBeginning b → symbol_count b ≡ 0 → b ≡ no_symbols
none_begun b h e =
    sym (with_symbols-beginning b h) ∙ ap (λ (ss : List Symbol). with_symbols no_symbols ss) (no_elements (beginning_symbols b) e)

pub no_blur : (b : Beginning) → IsBeginning b → needs_blur b ≡ false → NeedsBlur b → ⊥
no_blur b h e (inl none) =
    let zero_count : symbol_count b ≡ 0 = ap length none in
    let t : (symbol_count b == 0) ≡ true = eq-eqb (symbol_count b) 0 zero_count in
    grind (arith, common_steps)
no_blur b h e (inr burst) =
    let t : ends_burst (phase_of b) ≡ true = burst_ends b h burst in
    grind (arith, common_steps)

pub needed_blur : (b : Beginning) → IsBeginning b → needs_blur b ≡ true → NeedsBlur b
needed_blur b h e = needed_by b h (symbol_count b == 0) (ends_burst (phase_of b)) refl refl e
  where
    needed_by : (b : Beginning) → IsBeginning b → (p q : Bool) → (symbol_count b == 0) ≡ p → ends_burst (phase_of b) ≡ q → (p || q) ≡ true → NeedsBlur b
    needed_by b h true q ep eq e = inl (no_elements (beginning_symbols b) (eqb-true (symbol_count b) 0 ep))
    needed_by b h false true ep eq e = inr (is_burst b h eq)
    needed_by b h false false ep eq e = cc

pub torn_item_of : (b : Beginning) → IsBeginning b → IsItem (Torn b 1)
torn_item_of b h = (h, omega arith, λ k. omega arith)

-- the symbols of a burst that has begun
pub begun : (items : List CaptureItem) (b : Beginning) → IsItemList (items ++ Torn b 1 ∷ []) → IsBeginning b
begun items b h = (last_item items (Torn b 1) h).0

other_burst : (items : List CaptureItem) (b c : Beginning) → IsBeginning c → IsItemList (items ++ Torn b 1 ∷ []) → IsItemList (items ++ Torn c 1 ∷ [])
other_burst items b c k h = list_like items (Torn b 1) (Torn c 1) refl (torn_item_of c k) h

-- a burst that has begun where no gap stands before it is the first item
pub first_item : (items : List CaptureItem) (b : Beginning) → IsItemList (items ++ Torn b 1 ∷ []) → ends_with_gap items ≡ false → items ≡ []
first_item items b h e = by_ending items b h e (ending items)
  where
    by_ending : (items : List CaptureItem) (b : Beginning) → IsItemList (items ++ Torn b 1 ∷ []) → ends_with_gap items ≡ false → Ending items → items ≡ []
    by_ending items b h e (empty none) = none
    by_ending items b h e (last parts x is) =
        let differs : is_gap x ≢ false =
        Alternates-two parts x (Torn b 1) [] (subst (λ (xs : List CaptureItem). IsItemList (xs ++ Torn b 1 ∷ [])) is h).alternate in
        absurd (differs (sym (ends_with_gap-last parts x) ∙ (ap ends_with_gap (sym is) ∙ e)))

-- ---- the octets

more_tail : (node : ℕ) (items : List CaptureItem) (xs : List ℕ) (o : ℕ) →
    begun_text node items ++ (xs ++ o ∷ []) ≡ (begun_text node items ++ xs) ++ o ∷ []
more_tail node items xs o = sym (append_assoc (begun_text node items) xs (o ∷ []))

-- an item ends with the octet
item_text : (node : ℕ) (items : List CaptureItem) (x : CaptureItem) (xs : List ℕ) (o : ℕ) → item_octets x ≡ xs ++ o ∷ [] →
    begun_text node (items ++ x ∷ []) ++ [] ≡ (begun_text node items ++ xs) ++ o ∷ []
item_text node items x xs o e =
    append-nil (begun_text node (items ++ x ∷ []))
    ∙ begun_text-push node items x
    ∙ ap (λ (ys : List ℕ). begun_text node items ++ ys) e
    ∙ more_tail node items xs o

-- a burst ends before the octet
burst_text : (node : ℕ) (items : List CaptureItem) (b : Beginning) (o : ℕ) →
    begun_text node (items ++ Burst b ∷ []) ++ o ∷ [] ≡ (begun_text node items ++ symbol_octets b) ++ o ∷ []
unfolding item_octets
burst_text node items b o = ap (λ (ys : List ℕ). ys ++ o ∷ []) (begun_text-push node items (Burst b))

-- nothing stands before the octet
first_text : (node : ℕ) (items : List CaptureItem) (o : ℕ) →
    begun_text node items ++ o ∷ [] ≡ (begun_text node items ++ []) ++ o ∷ []
first_text node items o = ap (λ (ys : List ℕ). ys ++ o ∷ []) (sym (append-nil (begun_text node items)))

one_octet : (o : ℕ) → o < 256 → AreOctets (o ∷ [])
one_octet o h zero d l = h
one_octet o h (suc k) d l = absurd (omega arith)

more_octets : (xs : List ℕ) (o : ℕ) → o < 256 → AreOctets xs → AreOctets (xs ++ o ∷ [])
more_octets xs o lt h = All-append (λ o. o < 256) xs (o ∷ []) h (one_octet o lt)

-- ---- gaps

gap_more : (node : ℕ) (items : List CaptureItem) (count next : CountSoFar) (o : ℕ) → counted_octets next ≡ counted_octets count ++ o ∷ [] →
    o < 256 → ArePartsInRange (with_items node items (in_gap count)) → IsNext (with_items node items (in_gap count)) o (with_items node items (in_gap next))
gap_more node items count next o e lt h = record {
  in_range = (h.0, (h.1.0, subst (λ (xs : List ℕ). AreOctets xs) (sym e) (more_octets (counted_octets count) o lt h.1.1)));
  text = ap (λ (xs : List ℕ). begun_text node items ++ 0x20 ∷ xs) e ∙ more_tail node items (0x20 ∷ counted_octets count) o;
}

gap_ends : (node : ℕ) (items : List CaptureItem) (a b c d : ℕ) → d < 256 → count_of a b c d ≢ 0 → ArePartsInRange (with_items node items (in_gap (Three a b c))) →
    IsNext (with_items node items (in_gap (Three a b c))) d (with_items node (items ++ Gap (count_of a b c d) ∷ []) (in_burst no_symbols))
unfolding item_octets
gap_ends node items a b c d lt some h =
    let ha : a < 256 = h.1.1 0 0 (omega arith) in
    let hb : b < 256 = h.1.1 1 0 (omega arith) in
    let hc : c < 256 = h.1.1 2 0 (omega arith) in
    let n : ℕ = count_of a b c d in
    let octets : item_octets (Gap (count_of a b c d)) ≡ 0x20 ∷ a ∷ b ∷ c ∷ d ∷ [] = ap (λ (o : List ℕ). 0x20 ∷ o) (count_octets-count_of a b c d ha hb hc lt) in
    let item : IsItem (Gap (count_of a b c d)) = (omega arith, omega arith) in
    let list : IsItemList (items ++ Gap (count_of a b c d) ∷ []) = list_like items (Gap 1) (Gap (count_of a b c d)) refl item h.1.0 in
    let none : IsItem (Torn no_symbols 1) =
    torn_item_of no_symbols (record { count = omega arith; in_range = λ k d lt. absurd (omega arith) }, omega arith) in
    record {
      in_range = (h.0, list_next items (Gap (count_of a b c d)) (Torn no_symbols 1) (λ k. cc) none list);
      text = item_text node items (Gap (count_of a b c d)) (0x20 ∷ a ∷ b ∷ c ∷ []) d octets;
    }

sound_gap : (node : ℕ) (items : List CaptureItem) (count : CountSoFar) (o : ℕ) (g : PrefixParts) → o < 256 → ArePartsInRange (with_items node items (in_gap count)) →
    next_in_gap node items count o ≡ next_is g → IsNext (with_items node items (in_gap count)) o g
sound_gap node items Nothing o g lt h e =
    subst (λ (x : PrefixParts). IsNext (with_items node items (in_gap Nothing)) o x) (same_parts (with_items node items (in_gap (One o))) g e)
    (gap_more node items Nothing (One o) o refl lt h)
sound_gap node items (One a) o g lt h e =
    subst (λ (x : PrefixParts). IsNext (with_items node items (in_gap (One a))) o x) (same_parts (with_items node items (in_gap (Two a o))) g e)
    (gap_more node items (One a) (Two a o) o refl lt h)
sound_gap node items (Two a b) o g lt h e =
    subst (λ (x : PrefixParts). IsNext (with_items node items (in_gap (Two a b))) o x) (same_parts (with_items node items (in_gap (Three a b o))) g e)
    (gap_more node items (Two a b) (Three a b o) o refl lt h)
sound_gap node items (Three a b c) o g lt h e =
    let t = unstopped (count_of a b c o == 0) (next_is (with_items node (items ++ Gap (count_of a b c o) ∷ []) (in_burst no_symbols))) CountZero g e in
    subst (λ (x : PrefixParts). IsNext (with_items node items (in_gap (Three a b c))) o x)
    (same_parts (with_items node (items ++ Gap (count_of a b c o) ∷ []) (in_burst no_symbols)) g t.1)
    (gap_ends node items a b c o lt (eqb-false (count_of a b c o) 0 t.0) h)

-- ---- blurs

blur_more : (node : ℕ) (items : List CaptureItem) (s : Beginning) (count next : CountSoFar) (o : ℕ) → counted_octets next ≡ counted_octets count ++ o ∷ [] →
    o < 256 → ArePartsInRange (with_items node items (in_blur s count)) → IsNext (with_items node items (in_blur s count)) o (with_items node items (in_blur s next))
blur_more node items s count next o e lt h = record {
  in_range = (h.0, (h.1.0, subst (λ (xs : List ℕ). AreOctets xs) (sym e) (more_octets (counted_octets count) o lt h.1.1)));
  text = ap (λ (xs : List ℕ). begun_text node items ++ (symbol_octets s ++ 0x22 ∷ xs)) e
      ∙ ap (λ (xs : List ℕ). begun_text node items ++ xs) (sym (append_assoc (symbol_octets s) (0x22 ∷ counted_octets count) (o ∷ [])))
      ∙ more_tail node items (symbol_octets s ++ 0x22 ∷ counted_octets count) o;
}

blur_ends : (node : ℕ) (items : List CaptureItem) (s : Beginning) (a b c d : ℕ) → d < 256 → (NeedsBlur s → count_of a b c d ≢ 0) →
    ArePartsInRange (with_items node items (in_blur s (Three a b c))) →
    IsNext (with_items node items (in_blur s (Three a b c))) d (with_items node (items ++ Torn s (count_of a b c d) ∷ []) after_torn)
unfolding item_octets
blur_ends node items s a b c d lt some h =
    let ha : a < 256 = h.1.1 0 0 (omega arith) in
    let hb : b < 256 = h.1.1 1 0 (omega arith) in
    let hc : c < 256 = h.1.1 2 0 (omega arith) in
    let big : count_of a b c d < 2 ^ 32 = omega arith in
    let octets : item_octets (Torn s (count_of a b c d)) ≡ (symbol_octets s ++ 0x22 ∷ a ∷ b ∷ c ∷ []) ++ d ∷ [] =
    ap (λ (o : List ℕ). symbol_octets s ++ 0x22 ∷ o) (count_octets-count_of a b c d ha hb hc lt)
    ∙ sym (append_assoc (symbol_octets s) (0x22 ∷ a ∷ b ∷ c ∷ []) (d ∷ [])) in
    let positive : (n : ℕ) → n ≢ 0 → 1 ≤ n = λ n k. omega arith in
    let item : IsItem (Torn s (count_of a b c d)) = (begun items s h.1.0, big, λ k. positive (count_of a b c d) (some k)) in
    record {
      in_range = (
        h.0,
        (
          list_like items (Torn s 1) (Torn s (count_of a b c d)) refl item h.1.0,
          (items, s, count_of a b c d, refl),
        ),
      );
      text = item_text node items (Torn s (count_of a b c d)) (symbol_octets s ++ 0x22 ∷ a ∷ b ∷ c ∷ []) d octets;
    }

sound_blur : (node : ℕ) (items : List CaptureItem) (s : Beginning) (count : CountSoFar) (o : ℕ) (g : PrefixParts) → o < 256 → ArePartsInRange (with_items node items (in_blur s count)) →
    next_in_blur node items s count o ≡ next_is g → IsNext (with_items node items (in_blur s count)) o g
sound_blur node items s Nothing o g lt h e =
    subst (λ (x : PrefixParts). IsNext (with_items node items (in_blur s Nothing)) o x) (same_parts (with_items node items (in_blur s (One o))) g e)
    (blur_more node items s Nothing (One o) o refl lt h)
sound_blur node items s (One a) o g lt h e =
    subst (λ (x : PrefixParts). IsNext (with_items node items (in_blur s (One a))) o x) (same_parts (with_items node items (in_blur s (Two a o))) g e)
    (blur_more node items s (One a) (Two a o) o refl lt h)
sound_blur node items s (Two a b) o g lt h e =
    subst (λ (x : PrefixParts). IsNext (with_items node items (in_blur s (Two a b))) o x) (same_parts (with_items node items (in_blur s (Three a b o))) g e)
    (blur_more node items s (Two a b) (Three a b o) o refl lt h)
sound_blur node items s (Three a b c) o g lt h e =
    let n : ℕ = count_of a b c o in
    let t = unstopped (needs_blur s && (count_of a b c o == 0)) (next_is (with_items node (items ++ Torn s (count_of a b c o) ∷ []) after_torn)) CountZero g e in
    let some : NeedsBlur s → count_of a b c o ≢ 0 = λ k z. no_blur s (begun items s h.1.0) (not_needed (needs_blur s) (count_of a b c o) z t.0) k in
    subst (λ (x : PrefixParts). IsNext (with_items node items (in_blur s (Three a b c))) o x)
    (same_parts (with_items node (items ++ Torn s (count_of a b c o) ∷ []) after_torn) g t.1)
    (blur_ends node items s a b c o lt some h)
  where
    not_needed : (p : Bool) (n : ℕ) → n ≡ 0 → (p && (n == 0)) ≡ false → p ≡ false
    not_needed true n z e = let t : (n == 0) ≡ true = eq-eqb n 0 z in grind (arith, common_steps)
    not_needed false n z e = refl

-- ---- bursts

gap_item : IsItem (Gap 1)
gap_item = (omega arith, omega arith)

burst_list : (items : List CaptureItem) (b : Beginning) → ends_burst (phase_of b) ≡ true → IsItemList (items ++ Torn b 1 ∷ []) → IsItemList (items ++ Burst b ∷ [])
burst_list items b e h = list_like items (Torn b 1) (Burst b) refl (begun items b h, is_burst b (begun items b h) e) h

sound_gap_octet : (node : ℕ) (items : List CaptureItem) (b : Beginning) (o : ℕ) (g : PrefixParts) → ArePartsInRange (with_items node items (in_burst b)) → o ≡ 0x20 →
    next_in_burst GapOctet node items b ≡ next_is g → IsNext (with_items node items (in_burst b)) o g
sound_gap_octet node items b o g h is e = by_test (ends_burst (phase_of b)) refl e
  where
    none : ends_burst (phase_of b) ≡ false →
        (if symbol_count b == 0 then (if ends_with_gap items then fails GapTwice else next_is (with_items node items (in_gap Nothing))) else fails Place) ≡ next_is g →
        IsNext (with_items node items (in_burst b)) o g
    none q e =
        let t = passes (symbol_count b == 0) (if ends_with_gap items then fails GapTwice else next_is (with_items node items (in_gap Nothing))) Place g e in
        let u = unstopped (ends_with_gap items) (next_is (with_items node items (in_gap Nothing))) GapTwice g t.1 in
        let empty_b : b ≡ no_symbols = none_begun b (begun items b h.1) (eqb-true (symbol_count b) 0 t.0) in
        let first : items ≡ [] = first_item items b h.1 u.0 in
        becomes (with_items node items (in_burst b)) (with_items node items (in_gap Nothing)) g o (same_parts (with_items node items (in_gap Nothing)) g u.1)
        (h.0, (subst (λ (xs : List CaptureItem). IsItemList (xs ++ Gap 1 ∷ [])) (sym first) (list_one (Gap 1) gap_item), λ k d lt. absurd (omega arith)))
        (ap (λ (x : ℕ). begun_text node items ++ x ∷ []) (sym is) ∙ first_text node items o
        ∙ ap (λ (c : Beginning). (begun_text node items ++ symbol_octets c) ++ o ∷ []) (sym empty_b))

    by_test : (p : Bool) → ends_burst (phase_of b) ≡ p →
        (if p then next_is (with_items node (items ++ Burst b ∷ []) (in_gap Nothing))
        else (if symbol_count b == 0 then (if ends_with_gap items then fails GapTwice else next_is (with_items node items (in_gap Nothing))) else fails Place)) ≡ next_is g →
        IsNext (with_items node items (in_burst b)) o g
    by_test true q e =
        becomes (with_items node items (in_burst b)) (with_items node (items ++ Burst b ∷ []) (in_gap Nothing)) g o
        (same_parts (with_items node (items ++ Burst b ∷ []) (in_gap Nothing)) g e)
        (h.0, (list_next items (Burst b) (Gap 1) (λ k. cc) gap_item (burst_list items b q h.1), λ k d lt. absurd (omega arith)))
        (ap (λ (x : ℕ). begun_text node (items ++ Burst b ∷ []) ++ x ∷ []) (sym is) ∙ burst_text node items b o)
    by_test false q e = none q e

sound_end_octet : (node : ℕ) (items : List CaptureItem) (b : Beginning) (o : ℕ) (g : PrefixParts) → ArePartsInRange (with_items node items (in_burst b)) → o ≡ 0x21 →
    next_in_burst End node items b ≡ next_is g → IsNext (with_items node items (in_burst b)) o g
sound_end_octet node items b o g h is e = by_test (ends_burst (phase_of b)) refl e
  where
    by_test : (p : Bool) → ends_burst (phase_of b) ≡ p →
        (if p then next_is (with_items node (items ++ Burst b ∷ []) ended)
        else (if symbol_count b == 0 then next_is (with_items node items ended) else fails Place)) ≡ next_is g →
        IsNext (with_items node items (in_burst b)) o g
    by_test true q e =
        becomes (with_items node items (in_burst b)) (with_items node (items ++ Burst b ∷ []) ended) g o
        (same_parts (with_items node (items ++ Burst b ∷ []) ended) g e)
        (h.0, burst_list items b q h.1)
        (ap (λ (x : ℕ). begun_text node (items ++ Burst b ∷ []) ++ x ∷ []) (sym is) ∙ burst_text node items b o)
    by_test false q e =
        let t = passes (symbol_count b == 0) (next_is (with_items node items ended)) Place g e in
        let empty_b : b ≡ no_symbols = none_begun b (begun items b h.1) (eqb-true (symbol_count b) 0 t.0) in
        becomes (with_items node items (in_burst b)) (with_items node items ended) g o (same_parts (with_items node items ended) g t.1)
        (h.0, list_before items (Torn b 1 ∷ []) h.1)
        (ap (λ (x : ℕ). begun_text node items ++ x ∷ []) (sym is) ∙ first_text node items o
        ∙ ap (λ (c : Beginning). (begun_text node items ++ symbol_octets c) ++ o ∷ []) (sym empty_b))

octets_more : (b c : Beginning) (s : Symbol) → beginning_symbols c ≡ beginning_symbols b ++ s ∷ [] → symbol_octets c ≡ symbol_octets b ++ group s ∷ []
octets_more b c s e = ap (λ (ss : List Symbol). map group ss) e ∙ map-append group (beginning_symbols b) (s ∷ [])

sound_symbol : (node : ℕ) (items : List CaptureItem) (b : Beginning) (s : Symbol) (o : ℕ) (g : PrefixParts) (r : Result Phase PlaceFault) →
    ArePartsInRange (with_items node items (in_burst b)) → IsKnown o s → place_step (phase_of b) s ≡ r →
    next_by_symbol node items b s r ≡ next_is g → IsNext (with_items node items (in_burst b)) o g
sound_symbol node items b s o g (Ok q) h is p e =
    let t = more b s q p in
    becomes (with_items node items (in_burst b)) (with_items node items (in_burst (with_symbol b s))) g o (same_parts (with_items node items (in_burst (with_symbol b s))) g e)
    (h.0, other_burst items b (with_symbol b s) (t.in_range (begun items b h.1) is.in_range) h.1)
    (ap (λ (xs : List ℕ). begun_text node items ++ xs)
    (octets_more b (with_symbol b s) s t.symbols ∙ ap (λ (x : ℕ). symbol_octets b ++ x ∷ []) (sym is.group))
    ∙ more_tail node items (symbol_octets b) o)
sound_symbol node items b s o g (Err OneTooMany) h is p e = absurd (no_parts BurstLong g e)
sound_symbol node items b s o g (Err NotHere) h is p e = absurd (no_parts Place g e)

sound_burst : (node : ℕ) (items : List CaptureItem) (b : Beginning) (o : ℕ) (g : PrefixParts) (m : OctetKind) → ArePartsInRange (with_items node items (in_burst b)) → HasKind o m →
    next_in_burst m node items b ≡ next_is g → IsNext (with_items node items (in_burst b)) o g
sound_burst node items b o g GapOctet h is e = sound_gap_octet node items b o g h is e
sound_burst node items b o g End h is e = sound_end_octet node items b o g h is e
sound_burst node items b o g TornOctet h is e =
    becomes (with_items node items (in_burst b)) (with_items node items (in_blur b Nothing)) g o (same_parts (with_items node items (in_blur b Nothing)) g e)
    (h.0, (h.1, λ k d lt. absurd (omega arith)))
    (ap (λ (x : ℕ). begun_text node items ++ (symbol_octets b ++ x ∷ [])) (sym is) ∙ more_tail node items (symbol_octets b) o)
sound_burst node items b o g (Known s) h is e = sound_symbol node items b s o g (place_step (phase_of b) s) h is refl e
sound_burst node items b o g Unknown h is e = absurd (no_parts Group g e)

-- ---- after a torn burst

sound_torn : (node : ℕ) (items : List CaptureItem) (o : ℕ) (g : PrefixParts) (m : OctetKind) → ArePartsInRange (with_items node items after_torn) → HasKind o m →
    next_after_torn m node items ≡ next_is g → IsNext (with_items node items after_torn) o g
sound_torn node items o g GapOctet h is e =
    let t = h.1.1 in
    becomes (with_items node items after_torn) (with_items node items (in_gap Nothing)) g o (same_parts (with_items node items (in_gap Nothing)) g e) (
      h.0,
      (
        subst (λ (xs : List CaptureItem). IsItemList (xs ++ Gap 1 ∷ [])) (sym t.3)
            (list_next t.0 (Torn t.1 t.2) (Gap 1) (λ k. cc) gap_item (subst (λ (xs : List CaptureItem). IsItemList xs) t.3 h.1.0)),
        λ k d lt. absurd (omega arith),
      ),
    )
    (ap (λ (x : ℕ). begun_text node items ++ x ∷ []) (sym is) ∙ first_text node items o)
sound_torn node items o g End h is e =
    becomes (with_items node items after_torn) (with_items node items ended) g o (same_parts (with_items node items ended) g e)
    (h.0, h.1.0)
    (ap (λ (x : ℕ). begun_text node items ++ x ∷ []) (sym is) ∙ first_text node items o)
sound_torn node items o g TornOctet h is e = absurd (no_parts Place g e)
sound_torn node items o g (Known s) h is e = absurd (no_parts Place g e)
sound_torn node items o g Unknown h is e = absurd (no_parts Group g e)

-- ---- the header

magic_more : (n : ℕ) → n < 4 → take (n + 1) magic ≡ take n magic ++ slice_index magic n ∷ []
magic_more zero h = refl
magic_more (suc zero) h = refl
magic_more (suc (suc zero)) h = refl
magic_more (suc (suc (suc zero))) h = refl
magic_more (suc (suc (suc (suc n)))) h = absurd (omega arith)

sound_magic : (n o : ℕ) (g : PrefixParts) → n < 4 → next_in_magic n o ≡ next_is g → IsNext (in_magic n) o g
sound_magic n o g h e =
    let t = passes (o == slice_index magic n) (if n == 3 then next_is at_version else next_is (in_magic (n + 1))) BadMagic g e in
    let is : o ≡ slice_index magic n = eqb-true o (slice_index magic n) t.0 in
    by_test is (n == 3) refl t.1
  where
    text : o ≡ slice_index magic n → take (n + 1) magic ≡ take n magic ++ o ∷ []
    text is = magic_more n h ∙ ap (λ (x : ℕ). take n magic ++ x ∷ []) (sym is)

    by_test : o ≡ slice_index magic n → (p : Bool) → (n == 3) ≡ p → (if p then next_is at_version else next_is (in_magic (n + 1))) ≡ next_is g → IsNext (in_magic n) o g
    by_test is true q e =
        let last : n ≡ 3 = eqb-true n 3 q in
        let four : n + 1 ≡ 4 = omega arith in
        becomes (in_magic n) at_version g o (same_parts at_version g e) tt (ap (λ (k : ℕ). take k magic) (sym four) ∙ text is)
    by_test is false q e =
        let differs = eqb-false n 3 q in
        becomes (in_magic n) (in_magic (n + 1)) g o (same_parts (in_magic (n + 1)) g e) (omega arith) (text is)

sound_version : (o : ℕ) (g : PrefixParts) → next_at_version o ≡ next_is g → IsNext at_version o g
sound_version o g e =
    let t = passes (o == 1) (next_is at_node) BadVersion g e in
    becomes at_version at_node g o (same_parts at_node g t.1) tt (ap (λ (x : ℕ). magic ++ x ∷ []) (sym (eqb-true o 1 t.0)))

sound_node : (o : ℕ) (g : PrefixParts) → next_at_node o ≡ next_is g → IsNext at_node o g
sound_node o g e =
    let t = passes (nat_lt o most_nodes) (next_is (with_items o [] (in_burst no_symbols))) NodeByte g e in
    becomes at_node (with_items o [] (in_burst no_symbols)) g o (same_parts (with_items o [] (in_burst no_symbols)) g t.1) (
      ltb-true o most_nodes t.0,
      list_one (Torn no_symbols 1) (torn_item_of no_symbols (record { count = omega arith; in_range = λ k d lt. absurd (omega arith) }, omega arith)),
    )
    refl

pub sound : (f g : PrefixParts) (o : ℕ) → o < 256 → ArePartsInRange f → next_parts f o ≡ next_is g → IsNext f o g
sound (in_magic n) g o lt h e = sound_magic n o g h e
sound at_version g o lt h e = sound_version o g e
sound at_node g o lt h e = sound_node o g e
sound (with_items node items (in_gap count)) g o lt h e = sound_gap node items count o g lt h e
sound (with_items node items (in_burst b)) g o lt h e = sound_burst node items b o g (octet_kind o) h (has_kind o) e
sound (with_items node items (in_blur b count)) g o lt h e = sound_blur node items b count o g lt h e
sound (with_items node items after_torn) g o lt h e = sound_torn node items o g (octet_kind o) h (has_kind o) e
sound (with_items node items ended) g o lt h e = absurd (no_parts AfterEnd g e)
