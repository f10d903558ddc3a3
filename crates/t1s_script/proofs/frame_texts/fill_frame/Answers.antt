use Rattle.std.proofs.Common.{arith}
use Rattle.std.proofs.lemmas.Grind.{common_steps}
use Rattle.std.proofs.lemmas.List.{take-replicate}
use Rattle.t1s_script.proofs.HexTexts.{too_often}
use Rattle.t1s_script.proofs.frame_texts.fill_frame.Goals as goal

pub returns-then-count : goal.returns-then-count
returns-then-count c =
    let far = too_often c.args.count c.in_ok-octet.octet (omega arith) in
    grind (arith, common_steps)

pub returns : goal.returns
returns c =
    let same = take-replicate c.args.count 1518 c.in_ok-octet.octet (omega arith) in
    grind (arith, common_steps)
