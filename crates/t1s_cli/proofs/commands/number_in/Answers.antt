use Rattle.std.proofs.Common.{◌≡◌, ◌≤◌, ℕ, Some, decimal, List, sym, ◌∙◌, ap, arith}
use Rattle.t1s_base.specs.Numbers.{number_of}
use Rattle.t1s_base.proofs.Digits.{number_of-decimal, decimal-number_of}
use Rattle.t1s_cli.proofs.commands.number_in.Goals as goal

-- the number is read from its text
read_back : (word : List ℕ) (n most : ℕ) → most ≤ 4294967295 → n ≤ most → word ≡ decimal n → number_of word ≡ Some n
read_back word n most few low e = ap number_of e ∙ number_of-decimal n (omega arith)

pub returns-in-Some : goal.returns-in-Some
returns-in-Some c n =
    let reads : number_of c.args.word.now ≡ Some c.in-Some.number = sym c.read_number.ensures ∙ c.in-Some.is in (
      λ e.
          let same : c.in-Some.number ≡ n = cc in
          (omega (arith, c.if-least-number.true), omega (arith, c.if-number-most.true), decimal-number_of c.args.word.now n (reads ∙ ap Some same)),
      λ h. sym reads ∙ read_back c.args.word.now n c.args.most c.requires h.1 h.2,
    )

pub returns-in_default : goal.returns-in_default
returns-in_default c n =
    let reads : number_of c.args.word.now ≡ Some c.in-Some.number = sym c.read_number.ensures ∙ c.in-Some.is in (
      λ e. cc,
      λ h. absurd (let z = sym reads ∙ read_back c.args.word.now n c.args.most c.requires h.1 h.2 in let same : c.in-Some.number ≡ n = cc in omega (arith, h.1, c.if-number-most.false)),
    )

pub returns-in_default-2 : goal.returns-in_default-2
returns-in_default-2 c n =
    let reads : number_of c.args.word.now ≡ Some c.in-Some.number = sym c.read_number.ensures ∙ c.in-Some.is in (
      λ e. cc,
      λ h. absurd (let z = sym reads ∙ read_back c.args.word.now n c.args.most c.requires h.1 h.2 in let same : c.in-Some.number ≡ n = cc in omega (arith, h.0, c.if-least-number.false)),
    )

pub returns-in_default-3 : goal.returns-in_default-3
returns-in_default-3 c n = (
  λ e. cc,
  λ h. absurd (let z = sym c.in_default.is ∙ (c.read_number.ensures ∙ read_back c.args.word.now n c.args.most c.requires h.1 h.2) in cc),
)
