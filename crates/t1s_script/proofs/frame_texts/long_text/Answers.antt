use Rattle.std.proofs.Common.{arith, sym, ◌∙◌}
use Rattle.t1s_script.proofs.HexTexts.{long_digits, odd_text, other_text}
use Rattle.t1s_script.proofs.frame_texts.long_text.Goals.{else-text-eq0-via-then-text-eq0+else-has_hex_digits_alone, else-text-eq0-via-else-text-eq0}
use Rattle.t1s_script.proofs.frame_texts.long_text.Goals as goal

pub returns-then-has_hex_digits_alone : goal.returns-then-has_hex_digits_alone
returns-then-has_hex_digits_alone c = long_digits c.args.text.now c.requires (omega arith) (sym c.has_hex_digits_alone.ensures ∙ c.if-has_hex_digits_alone.true)

pub returns-else-text-eq0 : goal.returns-else-text-eq0
returns-else-text-eq0 c = elim c.else-text-eq0.branch [
  | else-text-eq0-via-then-text-eq0+else-has_hex_digits_alone w ↦ other_text c.args.text.now (sym w.has_hex_digits_alone.ensures ∙ w.if-has_hex_digits_alone.false)
  | else-text-eq0-via-else-text-eq0 w ↦ odd_text c.args.text.now (omega arith)
]
