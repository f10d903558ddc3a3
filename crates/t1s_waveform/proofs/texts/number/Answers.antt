use Rattle.std.proofs.Common.{◌≤◌, length, length-append, decimal, arith, lit<}
use Rattle.std.proofs.lemmas.Fmt.{length-decimal-le}
use Rattle.t1s_waveform.proofs.texts.number.Goals as goal

pub returns-clause-value : goal.returns-clause-value
returns-clause-value c =
    let few : length (decimal c.args.n) ≤ 20 = length-decimal-le 20 c.args.n (lit< tt) (omega arith) (omega arith) in
    c.put_number.ensures.fits (omega arith)

pub returns-clause-len : goal.returns-clause-len
returns-clause-len c =
    let few : length (decimal c.args.n) ≤ 20 = length-decimal-le 20 c.args.n (lit< tt) (omega arith) (omega arith) in
    rw (c.put_number.ensures.fits (omega arith), length-append) (omega arith)
