use Rattle.std.proofs.Common.{◌≡◌, ℕ, ◌<◌, map, replicate, get_or, refl, ap, ◌∙◌, arith}
use Rattle.std.proofs.lemmas.List.FromFn.{get_or-map-range_with_len}
use Rattle.std.specs.List.{fold, range_with_len}
use Rattle.t1s_frame.specs.FrameCheck.{check_bit}
use Rattle.t1s_frame.specs.declared.table.TheConstants.{TABLE}
use Rattle.t1s_frame.proofs.table.table_entry.Goals as goal

abbrev entry : ℕ → ℕ
entry octet = fold check_bit octet (replicate 8 0)

-- the table has the entry of each octet, as eight steps of a bit compute it
table_is : TABLE ≡ map entry (range_with_len 0 256)
table_is = refl

read : (octet : ℕ) → octet < 256 → get_or TABLE octet 0 ≡ entry octet
read octet below =
    ap (λ t. get_or t octet 0) table_is ∙ get_or-map-range_with_len entry 0 256 octet octet 0 below (omega arith)

pub returns : goal.returns
returns c = rw c.from.ensures (read c.args.octet (omega arith))
