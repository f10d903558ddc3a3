use Rattle.std.proofs.Common.{arith}
use Rattle.std.proofs.lemmas.Grind.{common_steps}
use Rattle.t1s_script.specs.Reading.{IsAnswer, script_of}
use Rattle.t1s_script.proofs.Validity.{answer_valid}
use Rattle.t1s_script.proofs.reading.read_script.Goals as goal

pub returns-in-Some-clause-valid : goal.returns-in-Some-clause-valid
returns-in-Some-clause-valid c =
    let answer : IsAnswer (script_of c.args.bytes.now) c.read_lines.result = grind (arith, common_steps) in
    answer_valid c.args.bytes.now c.read_lines.result answer
