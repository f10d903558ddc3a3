use Rattle.std.proofs.Common.{◌≡◌, ◌+◌, ◌-◌, ◌++◌, ◌∷◌, [], List, ℕ, take, length, refl, sym, ap, ◌∙◌, arith, append_assoc, length-append}
use Rattle.t1s_symbols.specs.GroupTable.{group}
use Rattle.t1s_symbols.specs.declared.Symbol.TheVariants.{Nibble}
use Rattle.t1s_scramble.specs.Scrambled.{scrambled_nibble, scrambler_after}
use Rattle.t1s_scramble.proofs.Nibbles.{scrambler_after-append, scrambler_after-nil}
use Rattle.t1s_grammar.specs.Sent.{carried_nibbles}
use Rattle.t1s_grammar.proofs.Text.{nibble_text, nibble_text-nil, nibble_text-push, carried-more}
use Rattle.t1s_grammar.proofs.piece_text.put_nibbles.Goals as goal

pub loop-i-init : goal.loop-i-init
loop-i-init c = record {
  begun = omega arith;
  text = nibble_text-nil c.args.scr.now c.args.held.now.items;
  history = sym (scrambler_after-nil c.args.scr.now);
  count = refl;
}

module _ (c : goal.After-put_nibble) where
  more : take (c.loop-i.i + 1 - 4) (carried_nibbles c.args.f.now) ≡ take (c.loop-i.i - 4) (carried_nibbles c.args.f.now) ++ c.in-Some.nibble ∷ []
  more =
      carried-more c.args.f.now c.loop-i.i c.in-Some.nibble c.loop-i.invariant.begun
      (omega (arith, c.loop-i-test.true, c.nibble_count-i-end.ensures.nibbles)) (sym c.nibble_at.ensures.value ∙ c.in-Some.is)

pub loop-i-preserved : goal.loop-i-preserved
loop-i-preserved c =
    let past = c.args.scr.now in
    let n = c.in-Some.nibble in
    let ns : List ℕ = take (c.loop-i.i - 4) (carried_nibbles c.args.f.now) in
    let old = c.args.held.now.items in
    record {
      begun = omega (arith, c.loop-i.invariant.begun);
      text =
          c.put_nibble.ensures.text
          ∙ ap (λ h. c.loop-i.held.items ++ group (Nibble (scrambled_nibble h n)) ∷ []) c.loop-i.invariant.history
          ∙ ap (λ xs. xs ++ group (Nibble (scrambled_nibble (scrambler_after past ns) n)) ∷ []) c.loop-i.invariant.text
          ∙ append_assoc old (nibble_text past ns) (group (Nibble (scrambled_nibble (scrambler_after past ns) n)) ∷ [])
          ∙ ap (λ xs. old ++ xs) (sym (nibble_text-push past ns n))
          ∙ ap (λ xs. old ++ nibble_text past xs) (sym (more c));
      history =
          c.put_nibble.ensures.history ∙ ap (λ h. scrambler_after h (n ∷ [])) c.loop-i.invariant.history
          ∙ sym (scrambler_after-append past ns (n ∷ [])) ∙ ap (scrambler_after past) (sym (more c));
      count =
          omega (
            arith,
            ap length c.put_nibble.ensures.text,
            length-append c.loop-i.held.items (group (Nibble (scrambled_nibble c.loop-i.scr n)) ∷ []),
            c.loop-i.invariant.count,
          );
    }
