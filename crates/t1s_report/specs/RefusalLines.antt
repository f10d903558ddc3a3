-- The line of the refusal of a script. Numbers are plain decimal.
use Rattle.std.specs.Prelude.{ℕ, List, [], ◌∷◌, codes, decimal}
use Rattle.t1s_script.specs.declared.refusals.ScriptRefusal.{ScriptRefusal}
use Rattle.t1s_script.specs.declared.refusals.ScriptReason.{ScriptReason}
use Rattle.t1s_script.specs.declared.refusals.ScriptReason.TheVariants.{TooLong, FirstLine, AfterEnd, UnknownWord, Form, Number, OutOfRange, Hex, FrameSize, Twice, UnknownNode, Order, TooMany, NoNode, NoEnd}
use Rattle.t1s_report.specs.Lines.{line}

-- the name of a reason
abbrev pub reason_name : ScriptReason → List ℕ
reason_name TooLong = codes "TooLong"
reason_name FirstLine = codes "FirstLine"
reason_name AfterEnd = codes "AfterEnd"
reason_name UnknownWord = codes "UnknownWord"
reason_name Form = codes "Form"
reason_name Number = codes "Number"
reason_name OutOfRange = codes "OutOfRange"
reason_name Hex = codes "Hex"
reason_name FrameSize = codes "FrameSize"
reason_name Twice = codes "Twice"
reason_name UnknownNode = codes "UnknownNode"
reason_name Order = codes "Order"
reason_name TooMany = codes "TooMany"
reason_name NoNode = codes "NoNode"
reason_name NoEnd = codes "NoEnd"

-- the line of the refusal of a script
abbrev pub refused_line : ScriptRefusal → List ℕ
refused_line r = line (codes "refused" ∷ decimal r.line ∷ reason_name r.reason ∷ [])
