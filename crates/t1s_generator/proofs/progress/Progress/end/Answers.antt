use Rattle.std.proofs.Common.{◌≡◌, ◌+◌, ◌-◌, [], ◌∷◌, ◌++◌, cond, ◌∙◌, ap, arith, codes, decimal, map, drop}
use Rattle.std.specs.List.{range_with_len}
use Rattle.t1s_generator.specs.Generated.{line, head_lines, node_line, fill_line, end_line, end_of_run, tick_after}
use Rattle.t1s_generator.proofs.Words.{tick_high}
use Rattle.t1s_generator.proofs.Left.{none_counted, none_before, last_line}
use Rattle.t1s_generator.proofs.progress.Progress.end.Goals as goal

pub overflow_add-self : goal.overflow_add-self
overflow_add-self c =
    let p = c.args.self.now in
    let high = tick_high p.seed p.nodes p.filled in
    omega (arith, c.requires.valid.tick)

pub returns-clause-line : goal.returns-clause-line
returns-clause-line c =
    let p = c.args.self.now in
    let valid = c.requires.valid in
    let all : p.filled ≡ p.frames = omega (arith, valid.filled_high) in
    let tick : p.tick + 200000 ≡ end_of_run p.seed p.nodes p.frames = ap (λ k. k + 200000) (valid.tick ∙ ap (tick_after p.seed p.nodes) all) in
    let text : c.end_text.new.out ≡ end_line p.seed p.nodes p.frames = c.end_text.ensures ∙ ap (λ k. line (codes "end" ∷ decimal k ∷ [])) tick in
    ap (λ b. drop p.heads (head_lines p.seed p.nodes) ++ (map (node_line p.seed) (range_with_len p.placed (p.nodes - p.placed)) ++ (map (fill_line p.seed p.nodes) (range_with_len p.filled (p.frames - p.filled)) ++ cond b [] (end_line p.seed p.nodes p.frames ∷ [])))) c.requires.left
    ∙ last_line _ _ _ (end_line p.seed p.nodes p.frames) c.end_text.new.out
    (none_before p.seed p.nodes p.heads c.requires.before valid.heads_high)
    (none_counted _ p.placed p.nodes c.requires.nodes)
    (none_counted _ p.filled p.frames c.requires.frames) text
