-- The symbol of a mark is one.
use Rattle.t1s_symbols.specs.Ranges.{IsSymbol}
use Rattle.t1s_capture.specs.declared.stage.OctetKind.{OctetKind}
use Rattle.t1s_capture.specs.declared.stage.OctetKind.TheVariants.{Known}

abbrev pub OctetKindInRange : OctetKind → Type 0
OctetKindInRange (Known s) = IsSymbol s
OctetKindInRange _ = Unit {0}
