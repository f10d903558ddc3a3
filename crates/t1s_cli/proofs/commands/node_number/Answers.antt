use Rattle.std.proofs.Common.{◌≡◌, ◌≤◌, ℕ, Some, decimal, List, sym, ◌∙◌, ap, arith}
use Rattle.t1s_base.specs.Limits.{last_node}
use Rattle.t1s_base.specs.Numbers.{number_of}
use Rattle.t1s_base.proofs.Digits.{number_of-decimal, decimal-number_of}
use Rattle.t1s_cli.proofs.commands.node_number.Goals as goal

-- the number of a node is read from its text
read_back : (word : List ℕ) (node : ℕ) → node ≤ last_node → word ≡ decimal node → number_of word ≡ Some node
read_back word node low e = ap number_of e ∙ number_of-decimal node (omega arith)

pub returns-in-Some : goal.returns-in-Some
returns-in-Some c node =
    let reads : number_of c.args.word.now ≡ Some c.in-Some.number = sym c.read_number.ensures ∙ c.in-Some.is in (
      λ e. let same : c.in-Some.number ≡ node = cc in (omega (arith, c.if-number-from.true), decimal-number_of c.args.word.now node (reads ∙ ap Some same)),
      λ h. sym reads ∙ read_back c.args.word.now node h.0 h.1,
    )

pub returns-in_default : goal.returns-in_default
returns-in_default c node =
    let reads : number_of c.args.word.now ≡ Some c.in-Some.number = sym c.read_number.ensures ∙ c.in-Some.is in (
      λ e. cc,
      λ h. absurd (let z = sym reads ∙ read_back c.args.word.now node h.0 h.1 in let same : c.in-Some.number ≡ node = cc in omega (arith, h.0, c.if-number-from.false)),
    )

pub returns-in_default-2 : goal.returns-in_default-2
returns-in_default-2 c node = (
  λ e. cc,
  λ h. absurd (let z = sym c.in_default.is ∙ (c.read_number.ensures ∙ read_back c.args.word.now node h.0 h.1) in cc),
)
