-- Why an octet is refused, by what the octets before it are made of.
use Rattle.std.proofs.Common.{◌≡◌, ◌≢◌, ℕ, zero, suc, ◌+◌, ◌<◌, ◌≤◌, ◌⊎◌, Bool, true, false, List, [], ◌∷◌, ◌++◌, length, take, Result, Ok, Err, None, Some, refl, sym, ap, subst, ◌∙◌, inl, inr, arith, append_assoc, nat_lt, if◌then◌else◌}
use Rattle.std.specs.Prelude.{◌==◌, ◌&&◌, slice_index}
use Rattle.std.proofs.lemmas.Bool.{eqb-true, eqb-false, and_parts}
use Rattle.t1s_base.specs.Limits.{most_nodes}
use Rattle.t1s_symbols.specs.declared.Symbol.{Symbol}
use Rattle.t1s_symbols.specs.GroupTable.{symbol}
use Rattle.t1s_grammar.specs.Prefixes.{Beginning, beginning_symbols, phase_of, IsTooLong}
use Rattle.t1s_grammar.specs.PlaceTable.{place_step, ends_burst}
use Rattle.t1s_grammar.specs.declared.place.Phase.{Phase}
use Rattle.t1s_grammar.specs.declared.place.PlaceFault.{PlaceFault}
use Rattle.t1s_grammar.specs.declared.place.PlaceFault.TheVariants.{NotHere, TooLong as OneTooMany}
use Rattle.t1s_grammar.proofs.Faults.{IsTooLong-stands, stands-too_long}
use Rattle.t1s_capture.specs.declared.items.Why.{Why}
use Rattle.t1s_capture.specs.declared.items.Why.TheVariants.{Magic, Version, NodeByte, CountZero, GapTwice, Group, Place, BurstLong, AfterEnd}
use Rattle.t1s_capture.specs.declared.stage.CountSoFar.{CountSoFar}
use Rattle.t1s_capture.specs.declared.stage.CountSoFar.TheVariants.{Nothing, One, Two, Three}
use Rattle.t1s_capture.specs.declared.stage.OctetKind.{OctetKind}
use Rattle.t1s_capture.specs.declared.stage.OctetKind.TheVariants.{Gap as GapOctet, End, Torn as TornOctet, Known, Unknown}
use Rattle.t1s_capture.specs.Captures.{CaptureItem, Gap, Burst, Torn, header, magic, no_symbols, symbol_count, is_gap, IsCapture}
use Rattle.t1s_capture.specs.PrefixParts.{Tail, in_gap, in_burst, in_blur, after_torn, ended, tail_octets, PrefixParts, in_magic, at_version, at_node, with_items, AreMadeOf}
use Rattle.t1s_capture.specs.Offences.{IsOpenTail, EndsWithGap, IsZeroCount, EndsInZeros, IsUnknown, GrowsTooLong, IsFirstOf}
use Rattle.t1s_capture.specs.DecoderTable.{octet_kind, count_of}
use Rattle.t1s_capture.specs.Stands.{ends_with_gap, needs_blur}
use Rattle.t1s_capture.proofs.Texts.{octets_of, Ending, empty, last, ending, ends_with_gap-last}
use Rattle.t1s_capture.proofs.OctetKinds.{IsKnown, HasKind, has_kind, no_symbol_gap, no_symbol_end}
use Rattle.t1s_capture.proofs.NextParts.{NextParts, next_is, fails, next_parts, next_in_magic, next_at_version, next_at_node, next_in_gap, next_in_blur, next_in_burst, next_by_symbol, next_after_torn}
use Rattle.t1s_capture.proofs.Sound.{burst_place, begun, none_begun, needed_blur}
use Rattle.t1s_capture.proofs.Whole.{made_once, same_items, capture_made, made_capture}

-- the reasons but the limit
abbrev pub grammar_reasons : List Why
grammar_reasons = AfterEnd ∷ Magic ∷ Version ∷ NodeByte ∷ CountZero ∷ Group ∷ GapTwice ∷ BurstLong ∷ Place ∷ []

-- those of them that may hold after the header
abbrev pub item_reasons : List Why
item_reasons = CountZero ∷ Group ∷ GapTwice ∷ BurstLong ∷ Place ∷ []

same_why : (v w : Why) → fails v ≡ fails w → v ≡ w
same_why v w e = cc

no_why : (f : PrefixParts) (w : Why) → next_is f ≡ fails w → ⊥
no_why f w e = cc

-- which reason a test gives
tested : (b : Bool) (v w : Why) (x : PrefixParts) → (if b then fails v else next_is x) ≡ fails w → (b ≡ true) × (w ≡ v)
tested true v w x e = (refl, sym (same_why v w e))
tested false v w x e = absurd (no_why x w e)

tested_not : (b : Bool) (v w : Why) (x : NextParts) → (if b then x else fails v) ≡ fails w → ((b ≡ true) × (x ≡ fails w)) ⊎ ((b ≡ false) × (w ≡ v))
tested_not true v w x e = inl (refl, e)
tested_not false v w x e = inr (refl, sym (same_why v w e))

module _ (octets : List ℕ) (o : ℕ) (node : ℕ) (items : List CaptureItem) (tail : Tail) (m : AreMadeOf octets (with_items node items tail)) where
  past_header : 6 ≤ length octets
  past_header =
      let e = ap length (m.text ∙ append_assoc (header node) (octets_of items) (tail_octets tail)) in omega arith

  same_tail : (node' : ℕ) (items' : List CaptureItem) (tail' : Tail) → AreMadeOf octets (with_items node' items' tail') → (node' ≡ node) × (items' ≡ items) × (tail' ≡ tail)
  same_tail node' items' tail' n = same_items node' node items' items tail' tail (made_once octets (with_items node' items' tail') (with_items node items tail) n m)

  pub after_header : (why : Why) → (tail ≢ ended) → IsFirstOf item_reasons octets o why → IsFirstOf grammar_reasons octets o why
  after_header why open' h =
      let long : 6 ≤ length octets = past_header in
      inr (
        (λ k. open' (sym (same_tail k.0 k.1 ended (capture_made octets k.0 k.1 k.2)).2)),
        inr ((λ (k : length octets < 4). let z : ⊥ = omega arith in z), inr ((λ (k : length octets ≡ 4). let z : ⊥ = omega arith in z), inr ((λ (k : length octets ≡ 5). let z : ⊥ = omega arith in z), h))),
      )

  by_zero : IsZeroCount tail → o ≡ 0 → IsFirstOf item_reasons octets o CountZero
  by_zero z e = inl ((record { node = node; items = items; tail = tail; zeros = z; made = m }, e), refl)

  -- where the tail is not within a count, a reason after that of a zero count holds
  no_zeros : (IsZeroCount tail → ⊥) → EndsInZeros octets → ⊥
  no_zeros none h = none (subst (λ (t : Tail). IsZeroCount t) (same_tail h.node h.items h.tail h.made).2 h.zeros)

  by_group : (IsZeroCount tail → ⊥) → IsOpenTail tail → IsUnknown o → IsFirstOf item_reasons octets o Group
  by_group none tried unknown =
      inr ((λ h. no_zeros none h.0), inl ((record { node = node; items = items; tail = tail; tried = tried; made = m }, unknown), refl))

  by_place : (IsZeroCount tail → ⊥) → (IsUnknown o → ⊥) → (EndsWithGap octets → o ≡ 0x20 → ⊥) → (GrowsTooLong octets o → ⊥) → IsFirstOf item_reasons octets o Place
  by_place none known gap long =
      inr ((λ h. no_zeros none h.0), inr ((λ h. known h.1), inr ((λ h. gap h.0 h.1), inr (long, inl (tt, refl)))))

  -- symbols of a burst, unless the octet is a symbol's group
  not_longer : symbol o ≡ None → GrowsTooLong octets o → ⊥
  not_longer e h = let k = sym e ∙ h.group in cc

known_octet : (o : ℕ) (s : Symbol) → symbol o ≡ Some s → IsUnknown o → ⊥
known_octet o s e h = let k = sym e ∙ h.no_group in cc

no_gap_octet : (o : ℕ) (s : Symbol) → symbol o ≡ Some s → o ≡ 0x20 → ⊥
no_gap_octet o s e is = let k = (sym e ∙ ap symbol is) ∙ no_symbol_gap in cc

-- ---- counts

zero_octets : (a b c d : ℕ) → count_of a b c d ≡ 0 → (a ≡ 0) × (b ≡ 0) × (c ≡ 0) × (d ≡ 0)
zero_octets a b c d e = (omega arith, omega arith, omega arith, omega arith)

gap_refuses : (octets : List ℕ) (node : ℕ) (items : List CaptureItem) (count : CountSoFar) (o : ℕ) (why : Why) → AreMadeOf octets (with_items node items (in_gap count)) →
    next_in_gap node items count o ≡ fails why → IsFirstOf item_reasons octets o why
gap_refuses octets node items Nothing o why m e = absurd (no_why (with_items node items (in_gap (One o))) why e)
gap_refuses octets node items (One a) o why m e = absurd (no_why (with_items node items (in_gap (Two a o))) why e)
gap_refuses octets node items (Two a b) o why m e = absurd (no_why (with_items node items (in_gap (Three a b o))) why e)
gap_refuses octets node items (Three a b c) o why m e =
    let t = tested (count_of a b c o == 0) CountZero why (with_items node (items ++ Gap (count_of a b c o) ∷ []) (in_burst no_symbols)) e in
    let z = zero_octets a b c o (eqb-true (count_of a b c o) 0 t.0) in
    subst (λ (w : Why). IsFirstOf item_reasons octets o w) (sym t.1)
    (by_zero octets o node items (in_gap (Three a b c)) m (z.0, z.1, z.2) z.3)

blur_refuses : (octets : List ℕ) (node : ℕ) (items : List CaptureItem) (s : Beginning) (count : CountSoFar) (o : ℕ) (why : Why) → AreMadeOf octets (with_items node items (in_blur s count)) →
    next_in_blur node items s count o ≡ fails why → IsFirstOf item_reasons octets o why
blur_refuses octets node items s Nothing o why m e = absurd (no_why (with_items node items (in_blur s (One o))) why e)
blur_refuses octets node items s (One a) o why m e = absurd (no_why (with_items node items (in_blur s (Two a o))) why e)
blur_refuses octets node items s (Two a b) o why m e = absurd (no_why (with_items node items (in_blur s (Three a b o))) why e)
blur_refuses octets node items s (Three a b c) o why m e =
    let t = tested (needs_blur s && (count_of a b c o == 0)) CountZero why (with_items node (items ++ Torn s (count_of a b c o) ∷ []) after_torn) e in
    let both = and_parts (needs_blur s) (count_of a b c o == 0) t.0 in
    let z = zero_octets a b c o (eqb-true (count_of a b c o) 0 both.1) in
    subst (λ (w : Why). IsFirstOf item_reasons octets o w) (sym t.1)
    (by_zero octets o node items (in_blur s (Three a b c)) m
    (needed_blur s (begun items s m.in_range.1.0) both.0, z.0, z.1, z.2) z.3)

-- ---- bursts

gap_last : (items : List CaptureItem) → ends_with_gap items ≡ true → (parts : List CaptureItem) × (n : ℕ) × (items ≡ parts ++ Gap n ∷ [])
gap_last items e = by_ending (ending items)
  where
    by_item : (parts : List CaptureItem) (x : CaptureItem) → items ≡ parts ++ x ∷ [] → is_gap x ≡ true → (parts : List CaptureItem) × (n : ℕ) × (items ≡ parts ++ Gap n ∷ [])
    by_item parts (Gap n) is k = (parts, n, is)
    by_item parts (Burst b) is k = cc
    by_item parts (Torn b n) is k = cc

    by_ending : Ending items → (parts : List CaptureItem) × (n : ℕ) × (items ≡ parts ++ Gap n ∷ [])
    by_ending (empty none) = let k = sym e ∙ ap ends_with_gap none in cc
    by_ending (last parts x is) = by_item parts x is (sym (ends_with_gap-last parts x) ∙ (ap ends_with_gap (sym is) ∙ e))

module _ (octets : List ℕ) (o : ℕ) (node : ℕ) (items : List CaptureItem) (b : Beginning) (m : AreMadeOf octets (with_items node items (in_burst b))) where
  some_symbols : symbol_count b ≢ 0 → EndsWithGap octets → ⊥
  some_symbols some h =
      let t = (same_tail octets o node items (in_burst b) m h.node (h.items ++ Gap h.ticks ∷ []) (in_burst no_symbols) h.made).2 in
      let e : no_symbols ≡ b = cc in
      some (ap symbol_count (sym e))

  misplaced : symbol o ≡ None → (IsUnknown o → ⊥) → symbol_count b ≢ 0 → IsFirstOf item_reasons octets o Place
  misplaced none known some =
      by_place octets o node items (in_burst b) m (λ h. h) known (λ h e. some_symbols some h) (not_longer octets o node items (in_burst b) m none)

  by_gap_twice : o ≡ 0x20 → symbol_count b ≡ 0 → ends_with_gap items ≡ true → IsFirstOf item_reasons octets o GapTwice
  by_gap_twice is none e =
      let t = gap_last items e in
      let empty_b : b ≡ no_symbols = none_begun b (begun items b m.in_range.1) none in
      let n : AreMadeOf octets (with_items node (t.0 ++ Gap t.1 ∷ []) (in_burst no_symbols)) =
      subst (λ (xs : List CaptureItem). AreMadeOf octets (with_items node xs (in_burst no_symbols))) t.2
      (subst (λ (c : Beginning). AreMadeOf octets (with_items node items (in_burst c))) empty_b m) in
      inr (
        (λ h. no_zeros octets o node items (in_burst b) m (λ k. k) h.0),
        inr (
          (λ h. h.1.no_gap is),
          inl ((record { node = node; items = t.0; ticks = t.1; made = n }, is), refl),
        ),
      )

  gap_octet_refuses : (why : Why) → o ≡ 0x20 → next_in_burst GapOctet node items b ≡ fails why → IsFirstOf item_reasons octets o why
  gap_octet_refuses why is e = by_test (ends_burst (phase_of b)) e
    where
      by_gap : symbol_count b ≡ 0 → (p : Bool) → ends_with_gap items ≡ p → (if p then fails GapTwice else next_is (with_items node items (in_gap Nothing))) ≡ fails why → IsFirstOf item_reasons octets o why
      by_gap none true g e = subst (λ (w : Why). IsFirstOf item_reasons octets o w) (same_why GapTwice why e) (by_gap_twice is none g)
      by_gap none false g e = absurd (no_why (with_items node items (in_gap Nothing)) why e)

      by_count : (p : Bool) → (symbol_count b == 0) ≡ p →
          (if p then (if ends_with_gap items then fails GapTwice else next_is (with_items node items (in_gap Nothing))) else fails Place) ≡ fails why → IsFirstOf item_reasons octets o why
      by_count true c e = by_gap (eqb-true (symbol_count b) 0 c) (ends_with_gap items) refl e
      by_count false c e =
          subst (λ (w : Why). IsFirstOf item_reasons octets o w) (same_why Place why e)
          (misplaced (ap symbol is ∙ no_symbol_gap) (λ h. h.no_gap is) (eqb-false (symbol_count b) 0 c))

      by_test : (p : Bool) →
          (if p then next_is (with_items node (items ++ Burst b ∷ []) (in_gap Nothing))
          else (if symbol_count b == 0 then (if ends_with_gap items then fails GapTwice else next_is (with_items node items (in_gap Nothing))) else fails Place)) ≡ fails why →
          IsFirstOf item_reasons octets o why
      by_test true e = absurd (no_why (with_items node (items ++ Burst b ∷ []) (in_gap Nothing)) why e)
      by_test false e = by_count (symbol_count b == 0) refl e

  end_octet_refuses : (why : Why) → o ≡ 0x21 → next_in_burst End node items b ≡ fails why → IsFirstOf item_reasons octets o why
  end_octet_refuses why is e = by_test (ends_burst (phase_of b)) e
    where
      by_count : (p : Bool) → (symbol_count b == 0) ≡ p → (if p then next_is (with_items node items ended) else fails Place) ≡ fails why → IsFirstOf item_reasons octets o why
      by_count true c e = absurd (no_why (with_items node items ended) why e)
      by_count false c e =
          subst (λ (w : Why). IsFirstOf item_reasons octets o w) (same_why Place why e)
          (misplaced (ap symbol is ∙ no_symbol_end) (λ h. h.no_end is) (eqb-false (symbol_count b) 0 c))

      by_test : (p : Bool) →
          (if p then next_is (with_items node (items ++ Burst b ∷ []) ended) else (if symbol_count b == 0 then next_is (with_items node items ended) else fails Place)) ≡ fails why →
          IsFirstOf item_reasons octets o why
      by_test true e = absurd (no_why (with_items node (items ++ Burst b ∷ []) ended) why e)
      by_test false e = by_count (symbol_count b == 0) refl e

  symbol_refuses : (s : Symbol) (why : Why) (r : Result Phase PlaceFault) → IsKnown o s → place_step (phase_of b) s ≡ r →
      next_by_symbol node items b s r ≡ fails why → IsFirstOf item_reasons octets o why
  symbol_refuses s why (Ok q) is p e = absurd (no_why _ why e)
  symbol_refuses s why (Err OneTooMany) is p e =
      subst (λ (w : Why). IsFirstOf item_reasons octets o w) (same_why BurstLong why e)
      (inr (
        (λ h. no_zeros octets o node items (in_burst b) m (λ k. k) h.0),
        inr (
          (λ h. known_octet o s is.reads h.1),
          inr (
            (λ h. no_gap_octet o s is.reads h.1),
            inl (
              record {
                node = node;
                items = items;
                symbols = b;
                next = s;
                made = m;
                group = is.reads;
                too_long = IsTooLong-stands (beginning_symbols b) (phase_of b) s (burst_place b (begun items b m.in_range.1)) p;
              },
              refl,
            ),
          ),
        ),
      ))
  symbol_refuses s why (Err NotHere) is p e =
      subst (λ (w : Why). IsFirstOf item_reasons octets o w) (same_why Place why e)
      (by_place octets o node items (in_burst b) m (λ h. h) (known_octet o s is.reads) (λ h k. no_gap_octet o s is.reads k) not_long)
    where
      not_long : GrowsTooLong octets o → ⊥
      not_long h =
          let t = (same_tail octets o node items (in_burst b) m h.node h.items (in_burst h.symbols) h.made).2 in
          let same_b : h.symbols ≡ b = cc in
          let read = sym h.group ∙ is.reads in
          let same_s : h.next ≡ s = cc in
          let long : IsTooLong (beginning_symbols b) s =
          subst (λ (x : Symbol). IsTooLong (beginning_symbols b) x) same_s (subst (λ (c : Beginning). IsTooLong (beginning_symbols c) h.next) same_b h.too_long) in
          let k = sym p ∙ stands-too_long (beginning_symbols b) (phase_of b) s (burst_place b (begun items b m.in_range.1)) long in
          cc

  burst_refuses : (k : OctetKind) (why : Why) → HasKind o k → next_in_burst k node items b ≡ fails why → IsFirstOf item_reasons octets o why
  burst_refuses GapOctet why is e = gap_octet_refuses why is e
  burst_refuses End why is e = end_octet_refuses why is e
  burst_refuses TornOctet why is e = absurd (no_why (with_items node items (in_blur b Nothing)) why e)
  burst_refuses (Known s) why is e = symbol_refuses s why (place_step (phase_of b) s) is refl e
  burst_refuses Unknown why is e =
      subst (λ (w : Why). IsFirstOf item_reasons octets o w) (same_why Group why e) (by_group octets o node items (in_burst b) m (λ h. h) tt is)

-- ---- after a torn burst

module _ (octets : List ℕ) (o : ℕ) (node : ℕ) (items : List CaptureItem) (m : AreMadeOf octets (with_items node items after_torn)) where
  no_burst_here : (node' : ℕ) (items' : List CaptureItem) (b : Beginning) → AreMadeOf octets (with_items node' items' (in_burst b)) → ⊥
  no_burst_here node' items' b n = let t = (same_tail octets o node items after_torn m node' items' (in_burst b) n).2 in cc

  nothing_there : (IsUnknown o → ⊥) → IsFirstOf item_reasons octets o Place
  nothing_there known =
      by_place octets o node items after_torn m (λ h. h) known (λ h e. no_burst_here h.node (h.items ++ Gap h.ticks ∷ []) no_symbols h.made) (λ h. no_burst_here h.node h.items h.symbols h.made)

  torn_refuses : (k : OctetKind) (why : Why) → HasKind o k → next_after_torn k node items ≡ fails why → IsFirstOf item_reasons octets o why
  torn_refuses GapOctet why is e = absurd (no_why (with_items node items (in_gap Nothing)) why e)
  torn_refuses End why is e = absurd (no_why (with_items node items ended) why e)
  torn_refuses TornOctet why is e = subst (λ (w : Why). IsFirstOf item_reasons octets o w) (same_why Place why e) (nothing_there (λ h. h.no_torn is))
  torn_refuses (Known s) why is e = subst (λ (w : Why). IsFirstOf item_reasons octets o w) (same_why Place why e) (nothing_there (known_octet o s is.reads))
  torn_refuses Unknown why is e =
      subst (λ (w : Why). IsFirstOf item_reasons octets o w) (same_why Group why e) (by_group octets o node items after_torn m (λ h. h) tt is)

-- ---- the header

no_capture : (octets : List ℕ) (f : PrefixParts) → AreMadeOf octets f → ((node : ℕ) (items : List CaptureItem) → with_items node items ended ≡ f → ⊥) → IsCapture octets → ⊥
no_capture octets f m none h = none h.0 h.1 (made_once octets (with_items h.0 h.1 ended) f (capture_made octets h.0 h.1 h.2) m)

magic_length : (n : ℕ) → n < 4 → length (take n magic) ≡ n
magic_length zero h = refl
magic_length (suc zero) h = refl
magic_length (suc (suc zero)) h = refl
magic_length (suc (suc (suc zero))) h = refl
magic_length (suc (suc (suc (suc n)))) h = absurd (omega arith)

magic_refuses : (octets : List ℕ) (n o : ℕ) (why : Why) → AreMadeOf octets (in_magic n) → next_in_magic n o ≡ fails why → IsFirstOf grammar_reasons octets o why
magic_refuses octets n o why m e = by_test (o == slice_index magic n) e
  where
    by_last : (p : Bool) → (if p then next_is at_version else next_is (in_magic (n + 1))) ≡ fails why → IsFirstOf grammar_reasons octets o why
    by_last true e = absurd (no_why at_version why e)
    by_last false e = absurd (no_why (in_magic (n + 1)) why e)

    by_test : (p : Bool) → (if p then (if n == 3 then next_is at_version else next_is (in_magic (n + 1))) else fails Magic) ≡ fails why → IsFirstOf grammar_reasons octets o why
    by_test true e = by_last (n == 3) e
    by_test false e =
        let lt : n < 4 = m.in_range in
        let long : length octets ≡ n = ap length m.text ∙ magic_length n m.in_range in
        subst (λ (w : Why). IsFirstOf grammar_reasons octets o w) (same_why Magic why e)
        (inr (no_capture octets (in_magic n) m (λ node items k. cc), inl (omega arith, refl)))

version_refuses : (octets : List ℕ) (o : ℕ) (why : Why) → AreMadeOf octets at_version → next_at_version o ≡ fails why → IsFirstOf grammar_reasons octets o why
version_refuses octets o why m e = by_test (o == 1) e
  where
    by_test : (p : Bool) → (if p then next_is at_node else fails Version) ≡ fails why → IsFirstOf grammar_reasons octets o why
    by_test true e = absurd (no_why at_node why e)
    by_test false e =
        let long : length octets ≡ 4 = ap length m.text in
        subst (λ (w : Why). IsFirstOf grammar_reasons octets o w) (same_why Version why e)
        (inr (no_capture octets at_version m (λ node items k. cc), inr ((λ (k : length octets < 4). let z : ⊥ = omega arith in z), inl (long, refl))))

node_refuses : (octets : List ℕ) (o : ℕ) (why : Why) → AreMadeOf octets at_node → next_at_node o ≡ fails why → IsFirstOf grammar_reasons octets o why
node_refuses octets o why m e = by_test (nat_lt o most_nodes) e
  where
    by_test : (p : Bool) → (if p then next_is (with_items o [] (in_burst no_symbols)) else fails NodeByte) ≡ fails why → IsFirstOf grammar_reasons octets o why
    by_test true e = absurd (no_why (with_items o [] (in_burst no_symbols)) why e)
    by_test false e =
        let long : length octets ≡ 5 = ap length m.text in
        subst (λ (w : Why). IsFirstOf grammar_reasons octets o w) (same_why NodeByte why e)
        (inr (no_capture octets at_node m (λ node items k. cc), inr ((λ (k : length octets < 4). let z : ⊥ = omega arith in z), inr ((λ (k : length octets ≡ 4). let z : ⊥ = omega arith in z), inl (long, refl)))))

pub first_reason : (octets : List ℕ) (f : PrefixParts) (o : ℕ) (why : Why) → AreMadeOf octets f → next_parts f o ≡ fails why → IsFirstOf grammar_reasons octets o why
first_reason octets (in_magic n) o why m e = magic_refuses octets n o why m e
first_reason octets at_version o why m e = version_refuses octets o why m e
first_reason octets at_node o why m e = node_refuses octets o why m e
first_reason octets (with_items node items (in_gap count)) o why m e =
    after_header octets o node items (in_gap count) m why (λ k. cc) (gap_refuses octets node items count o why m e)
first_reason octets (with_items node items (in_burst b)) o why m e =
    after_header octets o node items (in_burst b) m why (λ k. cc) (burst_refuses octets o node items b m (octet_kind o) why (has_kind o) e)
first_reason octets (with_items node items (in_blur b count)) o why m e =
    after_header octets o node items (in_blur b count) m why (λ k. cc) (blur_refuses octets node items b count o why m e)
first_reason octets (with_items node items after_torn) o why m e =
    after_header octets o node items after_torn m why (λ k. cc) (torn_refuses octets o node items m (octet_kind o) why (has_kind o) e)
first_reason octets (with_items node items ended) o why m e =
    subst (λ (w : Why). IsFirstOf grammar_reasons octets o w) (same_why AfterEnd why e)
    (inl ((node, items, made_capture octets node items m), refl))
