use Rattle.std.proofs.Common.{refl}
use Rattle.t1s_drawing.specs.Picture.{head}
use Rattle.t1s_drawing.proofs.writing.put_head.Goals as goal

pub returns-clause-value : goal.returns-clause-value
unfolding head
returns-clause-value c =
    rw (c.text-6.ensures.value, c.text-5.ensures.value, c.text-4.ensures.value, c.text-3.ensures.value, c.number-2.ensures.value, c.text-2.ensures.value, c.number.ensures.value, c.text.ensures.value, c.clear.ensures, c.width.ensures, c.height.ensures) refl
