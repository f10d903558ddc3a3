use Rattle.std.proofs.Common.{◌≡◌, ◌+◌, ◌-◌, ◌*◌, get_or, take, ap, ◌∙◌, arith, add-one}
use Rattle.std.proofs.Math.Nat.{pow-suc}
use Rattle.std.specs.Char.{is_ascii_digit}
use Rattle.t1s_base.specs.Numbers.{value_of}
use Rattle.std.proofs.lemmas.List.{take_more}
use Rattle.t1s_base.proofs.Digits.{list_all-get_or, digit_range, value_of-push}
use Rattle.t1s_base.proofs.numbers.worth.Goals as goal

pub overflow_sub-digit : goal.overflow_sub-digit
overflow_sub-digit c = (digit_range _ (list_all-get_or _ _ c.loop-digit.digit-index c.requires.digits c.loop-digit-test.true)).0

pub loop-digit-preserved : goal.loop-digit-preserved
loop-digit-preserved c =
    let i = c.loop-digit.digit-index in
    let xs = c.args.digits.now in
    let one_more : value_of (take (i + 1) xs) ≡ 10 * value_of (take i xs) + (get_or xs i 0 - 48) =
    ap value_of (take_more xs i 0 c.loop-digit-test.true) ∙ value_of-push (take i xs) (get_or xs i 0) in
    let range = digit_range (get_or xs i 0) (list_all-get_or is_ascii_digit xs i c.requires.digits c.loop-digit-test.true) in
    record {
      value = omega (arith, one_more);
      bound = rw (add-one, pow-suc) (omega (arith, range.1));
    }
