use Rattle.std.proofs.Common.{◌≡◌, ℕ, List, [], ◌++◌, append_assoc, codes, decimal, refl}
use Rattle.t1s_waveform.specs.Dumps.{wire_text}
use Rattle.t1s_waveform.specs.Wires.{wire_of}
use Rattle.t1s_waveform.proofs.wires.put_scope.Goals as goal

parts : (a b c w1 w2 w3 w4 w5 w6 w7 w8 w9 w10 w11 up : List ℕ) →
    (((((((((((((a ++ b) ++ c) ++ w1) ++ w2) ++ w3) ++ w4) ++ w5) ++ w6) ++ w7) ++ w8) ++ w9) ++ w10) ++ w11) ++ up
    ≡ a ++ (b ++ (c ++ ((w1 ++ (w2 ++ (w3 ++ (w4 ++ (w5 ++ (w6 ++ (w7 ++ (w8 ++ (w9 ++ (w10 ++ (w11 ++ []))))))))))) ++ up)))
parts a b c w1 w2 w3 w4 w5 w6 w7 w8 w9 w10 w11 up = simp append_assoc refl

pub returns : goal.returns
returns c =
    rw (c.text-3.ensures.value, c.put_own_wire-11.ensures.value, c.put_own_wire-10.ensures.value, c.put_own_wire-9.ensures.value, c.put_own_wire-8.ensures.value, c.put_own_wire-7.ensures.value, c.put_own_wire-6.ensures.value, c.put_own_wire-5.ensures.value, c.put_own_wire-4.ensures.value, c.put_own_wire-3.ensures.value, c.put_own_wire-2.ensures.value, c.put_own_wire.ensures.value, c.text-2.ensures.value, c.number.ensures.value, c.from.ensures, c.text.ensures.value, c.clear.ensures)
    (parts (codes "$scope module node_") (decimal c.args.node) (codes " $end\n")
    (wire_text (wire_of c.args.node 97 (codes "drives")))
    (wire_text (wire_of c.args.node 98 (codes "beacon")))
    (wire_text (wire_of c.args.node 99 (codes "commit")))
    (wire_text (wire_of c.args.node 100 (codes "frame")))
    (wire_text (wire_of c.args.node 101 (codes "status")))
    (wire_text (wire_of c.args.node 102 (codes "taken")))
    (wire_text (wire_of c.args.node 103 (codes "refused")))
    (wire_text (wire_of c.args.node 104 (codes "good")))
    (wire_text (wire_of c.args.node 105 (codes "bad")))
    (wire_text (wire_of c.args.node 106 (codes "jam")))
    (wire_text (wire_of c.args.node 107 (codes "drop")))
    (codes "$upscope $end\n"))
