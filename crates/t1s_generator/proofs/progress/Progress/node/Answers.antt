use Rattle.std.proofs.Common.{◌≡◌, ◌+◌, ◌*◌, ◌%◌, [], ◌∷◌, ◌∙◌, ap, arith, codes, decimal}
use Rattle.t1s_generator.specs.Generated.{generator_after, line, node_line, word}
use Rattle.t1s_generator.proofs.Words.{word_drawn, one_drawn}
use Rattle.t1s_generator.proofs.Left.{first_counted, none_before, first_node}
use Rattle.t1s_generator.proofs.progress.Progress.node.Goals as goal

pub returns-clause-valid : goal.returns-clause-valid
returns-clause-valid c =
    let p = c.args.self.now in
    let valid = c.requires.valid in
    record {
      seed_high = valid.seed_high;
      nodes_low = valid.nodes_low;
      nodes_high = valid.nodes_high;
      frames_high = valid.frames_high;
      heads_high = valid.heads_high;
      placed_high = omega arith;
      filled_high = valid.filled_high;
      in_order = λ some. valid.in_order c.requires.left;
      words = one_drawn p.seed (p.placed + 4 * p.filled) (p.placed + 1 + 4 * p.filled) p.words c.draw-place.new.words valid.words (omega arith) c.draw-place.ensures.rest;
      tick = valid.tick;
    }

pub returns-clause-line : goal.returns-clause-line
returns-clause-line c =
    let p = c.args.self.now in
    let valid = c.requires.valid in
    let none : p.filled ≡ 0 = valid.in_order c.requires.left in
    let count : p.placed + 4 * p.filled ≡ p.placed = omega arith in
    let drawn : p.words ≡ generator_after p.seed p.placed = valid.words ∙ ap (generator_after p.seed) count in
    let place : c.draw-place.result ≡ word p.seed p.placed % 13 = c.draw-place.ensures.value ∙ ap (λ w. w % 13) (word_drawn p.seed p.placed p.words drawn) in
    let text : c.node_text.new.out ≡ node_line p.seed p.placed =
    c.node_text.ensures
    ∙ ap (λ n. line (codes "node" ∷ decimal n ∷ decimal n ∷ decimal c.draw-place.result ∷ [])) c.from.ensures
    ∙ ap (λ n. line (codes "node" ∷ decimal p.placed ∷ decimal p.placed ∷ decimal n ∷ [])) place in
    first_node _ _ _ _ (node_line p.seed p.placed) c.node_text.new.out
    (none_before p.seed p.nodes p.heads c.requires.before valid.heads_high)
    (first_counted (node_line p.seed) p.placed p.nodes c.requires.left) text
