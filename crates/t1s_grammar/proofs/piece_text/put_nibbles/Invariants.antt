use Rattle.std.proofs.Common.{◌≡◌, ◌++◌, ◌+◌, ◌-◌, ◌≤◌, length, map, take}
use Rattle.t1s_symbols.specs.declared.Symbol.TheVariants.{Nibble}
use Rattle.t1s_scramble.specs.Scrambled.{scrambled_nibbles, scrambler_after}
use Rattle.t1s_grammar.specs.Sent.{carried_nibbles, groups}
use Rattle.t1s_grammar.proofs.piece_text.put_nibbles.Given as goal

abbrev pub invariant-loop-i : goal.invariant-loop-i
invariant-loop-i l = record {
  begun : 4 ≤ l.i;
  text :
      l.held.items
      ≡ l.fn.held.items ++ groups (map Nibble (scrambled_nibbles l.fn.scr (take (l.i - 4) (carried_nibbles l.f))));
  history : l.scr ≡ scrambler_after l.fn.scr (take (l.i - 4) (carried_nibbles l.f));
  count : length l.held.items + 4 ≡ length l.fn.held.items + l.i;
}
