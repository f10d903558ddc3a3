use Rattle.std.proofs.Common.{sym, ap, ◌∙◌}
use Rattle.t1s_symbols.proofs.Quarters.{complete-from}
use Rattle.t1s_pcs_rx.specs.Receiver.{Receiver}
use Rattle.t1s_pcs_rx.specs.ReceiveTable.{quarter_heard}
use Rattle.t1s_pcs_rx.proofs.CompleteSymbols.{quarter-complete}
use Rattle.t1s_pcs_rx.proofs.reader.Reader.read.Goals as goal

pub returns-in-Complete-clause-after : goal.returns-in-Complete-clause-after
returns-in-Complete-clause-after c =
    let old : Receiver = record {
      class = c.self.inside.class;
      burst = c.self.inside.burst;
      history = c.self.inside.pieces.history;
      nibbles = c.self.inside.pieces.nibbles;
    } in
    let whole = complete-from c.in-Reading.last c.args.quarter (sym c.reading.ensures ∙ c.in-Complete.is) in
    quarter-complete old c.judge.new.self c.args.quarter c.args.own c.in-Reading.last c.in-Reading.fresh
    c.in-Reading.place c.self.inside.burst c.class_after-self-inside.result (sym c.replace.ensures.value ∙ c.in-Reading.is)
    whole.0 whole.1
    c.class_after-self-inside.ensures c.judge.ensures.after
    ∙ ap (λ r. quarter_heard r c.args.quarter c.args.own) c.self.view_is
