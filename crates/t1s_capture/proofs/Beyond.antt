-- A number of 256 or more is no octet: wherever it stands it is an offence.
use Rattle.std.proofs.Common.{◌≡◌, ℕ, zero, suc, ◌+◌, ◌^◌, ◌<◌, ◌≤◌, Bool, true, false, List, [], ◌∷◌, ◌++◌, length, map, refl, sym, ap, subst, inl, inr, arith, append_assoc, nat_lt, if◌then◌else◌}
use Rattle.std.specs.Prelude.{◌==◌, ◌&&◌, slice_index, All}
use Rattle.std.specs.List.{flat_map}
use Rattle.std.proofs.lemmas.Bool.{cases_lt, eqb-true, ltb-true, and_parts}
use Rattle.std.proofs.lemmas.List.Elements.{All-head}
use Rattle.t1s_base.specs.Limits.{most_nodes}
use Rattle.t1s_symbols.specs.declared.Symbol.{Symbol}
use Rattle.t1s_symbols.specs.GroupTable.{group, group_in, group_table}
use Rattle.t1s_symbols.specs.Symbols.{same_symbol}
use Rattle.t1s_grammar.specs.Prefixes.{beginning_symbols}
use Rattle.t1s_capture.specs.declared.items.Why.{Why}
use Rattle.t1s_capture.specs.declared.items.Why.TheVariants.{Magic as BadMagic, Version as BadVersion, NodeByte, Group, Place, AfterEnd, TooLong}
use Rattle.t1s_capture.specs.declared.stage.OctetKind.{OctetKind}
use Rattle.t1s_capture.specs.declared.stage.OctetKind.TheVariants.{Gap as GapOctet, End, Torn as TornOctet, Known, Unknown}
use Rattle.t1s_capture.specs.Captures.{CaptureItem, Gap, Burst, Torn, magic, header, no_symbols, symbol_octets, item_octets, IsItem, begun_text, IsCapture, IsCapturePrefix}
use Rattle.t1s_capture.specs.PrefixParts.{Tail, in_gap, in_burst, in_blur, after_torn, ended, PrefixParts, in_magic, at_version, at_node, with_items, AreMadeOf}
use Rattle.t1s_capture.specs.Offences.{IsOpenTail, IsOpen, GrowsTooLong, IsFirstOf, IsFirstOffence}
use Rattle.t1s_capture.specs.DecoderTable.{octet_kind}
use Rattle.t1s_capture.specs.State.{DecoderState}
use Rattle.t1s_capture.specs.Stands.{Stands}
use Rattle.t1s_capture.proofs.Texts.{All-back}
use Rattle.t1s_capture.proofs.OctetKinds.{HasKind, has_kind}
use Rattle.t1s_capture.proofs.NextParts.{next_is, fails, next_parts, next_in_burst, next_after_torn}
use Rattle.t1s_capture.proofs.Whole.{made_once, same_items, made_begins}
use Rattle.t1s_capture.proofs.Reasons.{grammar_reasons, item_reasons, after_header, first_reason}
use Rattle.t1s_capture.proofs.FirstOffences.{broken_here, too_long_here}

-- ---- a capture has octets alone

-- all of these are octets
abbrev AreLow : List ℕ → Type 0
AreLow [] = Unit {0}
AreLow (x ∷ xs) = (x < 256) × AreLow xs

low_append : (xs ys : List ℕ) → AreLow xs → AreLow ys → AreLow (xs ++ ys)
low_append [] ys h k = k
low_append (x ∷ xs) ys h k = (h.0, low_append xs ys h.1 k)

low_there : (before : List ℕ) (octet : ℕ) (rest : List ℕ) → AreLow (before ++ octet ∷ rest) → octet < 256
low_there [] octet rest h = h.0
low_there (x ∷ before) octet rest h = low_there before octet rest h.1

abbrev low_rows : List (Symbol × ℕ) → Bool
low_rows [] = true
low_rows (pair ∷ rows) = nat_lt pair.1 256 && low_rows rows

low_in : (rows : List (Symbol × ℕ)) (s : Symbol) → low_rows rows ≡ true → group_in rows s < 256
low_in [] s e = omega arith
low_in (pair ∷ rows) s e =
    let both = and_parts (nat_lt pair.1 256) (low_rows rows) e in
    by_test (same_symbol s pair.0) (ltb-true pair.1 256 both.0) (low_in rows s both.1)
  where
    by_test : (b : Bool) → pair.1 < 256 → group_in rows s < 256 → (if b then pair.1 else group_in rows s) < 256
    by_test true h k = h
    by_test false h k = k

low_group : (s : Symbol) → group s < 256
unfolding group
low_group s = low_in group_table s refl

low_groups : (symbols : List Symbol) → AreLow (map group symbols)
low_groups [] = tt
low_groups (s ∷ symbols) = (low_group s, low_groups symbols)

low_item : (x : CaptureItem) → IsItem x → AreLow (item_octets x)
unfolding item_octets
low_item (Gap n) h =
    let most = h.1 in
    (omega arith, (omega arith, (omega arith, (omega arith, (omega arith, tt)))))
low_item (Burst b) h = low_groups (beginning_symbols b)
low_item (Torn b n) h =
    let most = h.1 in
    low_append (symbol_octets b) _ (low_groups (beginning_symbols b)) (omega arith, (omega arith, (omega arith, (omega arith, (omega arith, tt)))))

low_items : (items : List CaptureItem) → All IsItem items → AreLow (flat_map item_octets items)
low_items [] h = tt
low_items (x ∷ items) h =
    low_append (item_octets x) (flat_map item_octets items) (low_item x (All-head IsItem x items h)) (low_items items (All-back (x ∷ []) items h))

low_capture : (octets : List ℕ) → IsCapture octets → AreLow octets
low_capture octets (node, items, h) =
    let range = h.node_in_range in
    subst AreLow (sym h.text)
    (low_append (begun_text node items) (0x21 ∷ [])
    (low_append (header node) (flat_map item_octets items)
    (omega arith, (omega arith, (omega arith, (omega arith, (omega arith, (omega arith, tt))))))
    (low_items items h.valid.each))
    (omega arith, tt))

-- so no capture goes on by any other number
no_prefix_over : (before : List ℕ) (octet : ℕ) → 256 ≤ octet → IsCapturePrefix (before ++ octet ∷ []) → ⊥
no_prefix_over before octet high (rest, h) =
    let low = low_there before octet rest (low_capture (before ++ octet ∷ rest) (subst (λ (o : List ℕ). IsCapture o) (append_assoc before (octet ∷ []) rest) h)) in
    omega arith

-- ---- the reason

high_kind : (o : ℕ) (k : OctetKind) → 256 ≤ o → HasKind o k → k ≡ Unknown
high_kind o GapOctet high is = absurd (omega arith)
high_kind o End high is = absurd (omega arith)
high_kind o TornOctet high is = absurd (omega arith)
high_kind o (Known s) high is = let low = low_group s in let at = is.group in absurd (omega arith)
high_kind o Unknown high is = refl

low_magic : (n : ℕ) → n < 4 → slice_index magic n < 256
low_magic zero h = omega arith
low_magic (suc zero) h = omega arith
low_magic (suc (suc zero)) h = omega arith
low_magic (suc (suc (suc zero))) h = omega arith
low_magic (suc (suc (suc (suc n)))) h = absurd (omega arith)

abbrev HasReason : List ℕ → ℕ → Type 0
HasReason octets o = (why : Why) × IsFirstOf grammar_reasons octets o why

module _ (octets : List ℕ) (o : ℕ) (high : 256 ≤ o) where
  -- within a count no item and no symbol may be tried
  in_count : (node : ℕ) (items : List CaptureItem) (tail : Tail) → AreMadeOf octets (with_items node items tail) → (IsOpenTail tail → ⊥) → IsFirstOf item_reasons octets o Place
  in_count node items tail m closed =
      inr ((λ h. let z = h.1 in omega arith), inr ((λ h. not_open h.0), inr ((λ h. let z = h.1 in omega arith), inr (not_long, inl (tt, refl)))))
    where
      same : (node' : ℕ) (items' : List CaptureItem) (tail' : Tail) → AreMadeOf octets (with_items node' items' tail') → IsOpenTail tail' → ⊥
      same node' items' tail' n k =
          closed (subst (λ (t : Tail). IsOpenTail t) (same_items node' node items' items tail' tail (made_once octets (with_items node' items' tail') (with_items node items tail) n m)).2 k)

      not_open : IsOpen octets → ⊥
      not_open h = same h.node h.items h.tail h.made h.tried

      not_long : GrowsTooLong octets o → ⊥
      not_long h = same h.node h.items (in_burst h.symbols) h.made tt

  by_fail : (f : PrefixParts) (why : Why) → AreMadeOf octets f → next_parts f o ≡ fails why → HasReason octets o
  by_fail f why m e = (why, first_reason octets f o why m e)

  in_header : (n : ℕ) (p : Bool) → AreMadeOf octets (in_magic n) → (o == slice_index magic n) ≡ p → HasReason octets o
  in_header n true m e = let low = low_magic n m.in_range in let is = eqb-true o (slice_index magic n) e in absurd (omega arith)
  in_header n false m e =
      by_fail (in_magic n) BadMagic m (ap (λ (b : Bool). if b then (if n == 3 then next_is at_version else next_is (in_magic (n + 1))) else fails BadMagic) e)

  in_version : (p : Bool) → AreMadeOf octets at_version → (o == 1) ≡ p → HasReason octets o
  in_version true m e = let is = eqb-true o 1 e in absurd (omega arith)
  in_version false m e = by_fail at_version BadVersion m (ap (λ (b : Bool). if b then next_is at_node else fails BadVersion) e)

  in_node : (p : Bool) → AreMadeOf octets at_node → nat_lt o most_nodes ≡ p → HasReason octets o
  in_node true m e = let is = ltb-true o most_nodes e in absurd (omega arith)
  in_node false m e = by_fail at_node NodeByte m (ap (λ (b : Bool). if b then next_is (with_items o [] (in_burst no_symbols)) else fails NodeByte) e)

  unknown : octet_kind o ≡ Unknown
  unknown = high_kind o (octet_kind o) high (has_kind o)

  over_reason : (f : PrefixParts) → AreMadeOf octets f → HasReason octets o
  over_reason (in_magic n) m = in_header n (o == slice_index magic n) m refl
  over_reason at_version m = in_version (o == 1) m refl
  over_reason at_node m = in_node (nat_lt o most_nodes) m refl
  over_reason (with_items node items (in_gap count)) m =
      (Place, after_header octets o node items (in_gap count) m Place (λ k. cc) (in_count node items (in_gap count) m (λ k. k)))
  over_reason (with_items node items (in_burst b)) m =
      by_fail (with_items node items (in_burst b)) Group m (ap (λ (k : OctetKind). next_in_burst k node items b) unknown)
  over_reason (with_items node items (in_blur b count)) m =
      (Place, after_header octets o node items (in_blur b count) m Place (λ k. cc) (in_count node items (in_blur b count) m (λ k. k)))
  over_reason (with_items node items after_torn) m =
      by_fail (with_items node items after_torn) Group m (ap (λ (k : OctetKind). next_after_torn k node items) unknown)
  over_reason (with_items node items ended) m = by_fail (with_items node items ended) AfterEnd m refl

-- after octets that a decoder stands for, such a number is the first offence
pub over_offence : (before : List ℕ) (octet : ℕ) (d : DecoderState) → Stands before d → 256 ≤ octet → (why : Why) × IsFirstOffence (before ++ octet ∷ []) (length before) why
over_offence before octet d s high = elim (cases_lt (length before) (2 ^ 30)) [
  | inl short ↦
      let (why, reason) = over_reason before octet high s.parts s.made in (
        why,
        broken_here before octet (made_begins before s.parts s.made) why short (λ k. no_prefix_over before octet high k)
            (inr ((λ (k : length before ≡ 2 ^ 30). let z : ⊥ = omega arith in z), reason)),
      )
  | inr le ↦
      let limit = s.limit in
      let full : length before ≡ 2 ^ 30 = omega arith in
      (TooLong, too_long_here before octet (made_begins before s.parts s.made) full)
]
