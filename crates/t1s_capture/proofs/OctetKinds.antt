-- What an octet is, by its mark.
use Rattle.std.proofs.Common.{◌≡◌, ◌≢◌, ℕ, Bool, true, false, Option, None, Some, refl, sym, ap, ◌∙◌}
use Rattle.std.specs.Prelude.{◌==◌, if◌then◌else◌}
use Rattle.std.proofs.lemmas.Bool.{eqb-true, eqb-false}
use Rattle.t1s_symbols.specs.declared.Symbol.{Symbol}
use Rattle.t1s_symbols.specs.GroupTable.{group, symbol}
use Rattle.t1s_symbols.specs.Ranges.{IsSymbol}
use Rattle.t1s_symbols.proofs.Pairs.{group-symbol, symbol-group, symbol-in_range}
use Rattle.t1s_capture.specs.declared.stage.OctetKind.{OctetKind}
use Rattle.t1s_capture.specs.declared.stage.OctetKind.TheVariants.{Gap, End, Torn, Known, Unknown}
use Rattle.t1s_capture.specs.Offences.{IsUnknown}
use Rattle.t1s_capture.specs.DecoderTable.{octet_kind, symbol_kind}

pub record IsKnown (octet : ℕ) (s : Symbol) : Type 0 where
  pub reads : symbol octet ≡ Some s
  pub group : octet ≡ group s
  pub in_range : IsSymbol s

-- what a mark says of its octet
abbrev pub HasKind : ℕ → OctetKind → Type 0
HasKind octet Gap = octet ≡ 0x20
HasKind octet End = octet ≡ 0x21
HasKind octet Torn = octet ≡ 0x22
HasKind octet (Known s) = IsKnown octet s
HasKind octet Unknown = IsUnknown octet

symbol_has_kind : (octet : ℕ) (s : Option Symbol) → symbol octet ≡ s → octet ≢ 0x20 → octet ≢ 0x21 → octet ≢ 0x22 → HasKind octet (symbol_kind s)
symbol_has_kind octet None e a b c = record { no_group = e; no_gap = a; no_end = b; no_torn = c }
symbol_has_kind octet (Some s) e a b c = record { reads = e; group = sym (group-symbol s octet e); in_range = symbol-in_range s octet e }

has_kind_by : (octet : ℕ) (p q r : Bool) → (octet == 0x20) ≡ p → (octet == 0x21) ≡ q → (octet == 0x22) ≡ r →
    HasKind octet (if p then Gap else (if q then End else (if r then Torn else symbol_kind (symbol octet))))
has_kind_by octet true q r a b c = eqb-true octet 0x20 a
has_kind_by octet false true r a b c = eqb-true octet 0x21 b
has_kind_by octet false false true a b c = eqb-true octet 0x22 c
has_kind_by octet false false false a b c =
    symbol_has_kind octet (symbol octet) refl (eqb-false octet 0x20 a) (eqb-false octet 0x21 b) (eqb-false octet 0x22 c)

-- the mark of an octet is right
pub has_kind : (octet : ℕ) → HasKind octet (octet_kind octet)
has_kind octet = has_kind_by octet (octet == 0x20) (octet == 0x21) (octet == 0x22) refl refl refl

pub no_symbol_gap : symbol 0x20 ≡ None
unfolding symbol
no_symbol_gap = refl

pub no_symbol_end : symbol 0x21 ≡ None
unfolding symbol
no_symbol_end = refl

no_symbol_torn : symbol 0x22 ≡ None
unfolding symbol
no_symbol_torn = refl

group_kind_by : (octet : ℕ) (s : Symbol) (p q r : Bool) → symbol octet ≡ Some s → (octet == 0x20) ≡ p → (octet == 0x21) ≡ q → (octet == 0x22) ≡ r →
    (if p then Gap else (if q then End else (if r then Torn else symbol_kind (symbol octet)))) ≡ Known s
group_kind_by octet s true q r e a b c = let k = (sym e ∙ ap symbol (eqb-true octet 0x20 a)) ∙ no_symbol_gap in cc
group_kind_by octet s false true r e a b c = let k = (sym e ∙ ap symbol (eqb-true octet 0x21 b)) ∙ no_symbol_end in cc
group_kind_by octet s false false true e a b c = let k = (sym e ∙ ap symbol (eqb-true octet 0x22 c)) ∙ no_symbol_torn in cc
group_kind_by octet s false false false e a b c = ap symbol_kind e

-- an octet that is a symbol's group has that mark
pub known_kind : (octet : ℕ) (s : Symbol) → symbol octet ≡ Some s → octet_kind octet ≡ Known s
known_kind octet s e = group_kind_by octet s (octet == 0x20) (octet == 0x21) (octet == 0x22) e refl refl refl

pub group_kind : (s : Symbol) → IsSymbol s → octet_kind (group s) ≡ Known s
group_kind s h = known_kind (group s) s (symbol-group s h)
