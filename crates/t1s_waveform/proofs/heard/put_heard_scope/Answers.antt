use Rattle.std.proofs.Common.{◌≡◌, ℕ, List, [], ◌++◌, append_assoc, codes, decimal, refl}
use Rattle.t1s_waveform.specs.Dumps.{wire_text}
use Rattle.t1s_waveform.specs.Wires.{heard_code, named}
use Rattle.t1s_waveform.proofs.heard.put_heard_scope.Goals as goal

parts : (a b c w up : List ℕ) → (((a ++ b) ++ c) ++ w) ++ up ≡ a ++ (b ++ (c ++ ((w ++ []) ++ up)))
parts a b c w up = simp append_assoc refl

pub returns : goal.returns
returns c =
    rw (c.text-3.ensures.value, c.put_wire.ensures.value, c.text-2.ensures.value, c.number.ensures.value, c.from.ensures, c.text.ensures.value, c.clear.ensures)
    (parts (codes "$scope module capture_") (decimal c.args.node) (codes " $end\n") (wire_text (named heard_code (codes "hears") c.args.node 3)) (codes "$upscope $end\n"))
