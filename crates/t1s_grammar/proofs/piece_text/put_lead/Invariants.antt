use Rattle.std.proofs.Common.{◌≡◌, ◌++◌, ◌+◌, length, replicate}
use Rattle.t1s_symbols.specs.declared.Symbol.TheVariants.{J}
use Rattle.t1s_grammar.specs.Sent.{groups}
use Rattle.t1s_grammar.proofs.piece_text.put_lead.Given as goal

abbrev pub invariant-loop : goal.invariant-loop
invariant-loop l = record {
  text : l.held.items ≡ l.fn.held.items ++ groups (replicate l.counter J);
  count : length l.held.items ≡ length l.fn.held.items + l.counter;
}
