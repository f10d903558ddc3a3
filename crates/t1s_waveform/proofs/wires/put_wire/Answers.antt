use Rattle.std.proofs.Common.{append_assoc, refl}
use Rattle.t1s_waveform.proofs.wires.put_wire.Goals as goal

pub returns-clause-value : goal.returns-clause-value
returns-clause-value c =
    rw (c.text-7.ensures.value, c.number-2.ensures.value, c.from.ensures, c.text-6.ensures.value, c.text-5.ensures.value, c.text-4.ensures.value, c.text-3.ensures.value, c.text-2.ensures.value, c.number.ensures.value, c.text.ensures.value) (simp append_assoc refl)
