use Rattle.std.proofs.Common.{◌≡◌, ℕ, ◌+◌, ◌*◌, ◌%◌, [], ◌∷◌, ◌∙◌, ap, arith, codes, decimal}
use Rattle.hex.specs.Hex.{encode_lower}
use Rattle.rand_pcg.specs.Pcg.{pcg32}
use Rattle.t1s_generator.specs.Generated.{generator_after, line, fill_line, tick_after, frame_word, number_of_frame, length_of_frame, octet_of_frame}
use Rattle.t1s_generator.proofs.Words.{word_drawn, one_drawn, tick_more, tick_high}
use Rattle.t1s_generator.proofs.Left.{first_counted, none_counted, none_before, first_frame}
use Rattle.t1s_generator.proofs.progress.Progress.fill.Goals as goal

same_fill : (t u n m k l o q : ℕ) → t ≡ u → n ≡ m → k ≡ l → o ≡ q
    → line (codes "fill" ∷ decimal t ∷ decimal n ∷ decimal k ∷ encode_lower (o ∷ []) ∷ []) ≡ line (codes "fill" ∷ decimal u ∷ decimal m ∷ decimal l ∷ encode_lower (q ∷ []) ∷ [])
same_fill t u n m k l o q tick node len octet =
    ap (λ x. line (codes "fill" ∷ decimal x ∷ decimal n ∷ decimal k ∷ encode_lower (o ∷ []) ∷ [])) tick
    ∙ ap (λ x. line (codes "fill" ∷ decimal u ∷ decimal x ∷ decimal k ∷ encode_lower (o ∷ []) ∷ [])) node
    ∙ ap (λ x. line (codes "fill" ∷ decimal u ∷ decimal m ∷ decimal x ∷ encode_lower (o ∷ []) ∷ [])) len
    ∙ ap (λ x. line (codes "fill" ∷ decimal u ∷ decimal m ∷ decimal l ∷ encode_lower (x ∷ []) ∷ [])) octet

pub overflow_add-self : goal.overflow_add-self
overflow_add-self c =
    let p = c.args.self.now in
    let high = tick_high p.seed p.nodes p.filled in
    omega (arith, c.requires.valid.tick)

pub returns-clause-valid : goal.returns-clause-valid
returns-clause-valid c =
    let p = c.args.self.now in
    let valid = c.requires.valid in
    let all : p.placed ≡ p.nodes = omega (arith, valid.placed_high) in
    let base = p.nodes + 4 * p.filled in
    let first = one_drawn p.seed (p.placed + 4 * p.filled) (base + 1) p.words c.draw.new.words valid.words (omega arith) c.draw.ensures.rest in
    let second = one_drawn p.seed (base + 1) (base + 2) c.draw.new.words c.draw-no.new.words first (omega arith) c.draw-no.ensures.rest in
    let third = one_drawn p.seed (base + 2) (base + 3) c.draw-no.new.words c.draw-len.new.words second (omega arith) c.draw-len.ensures.rest in
    let fourth = one_drawn p.seed (base + 3) (p.placed + 4 * (p.filled + 1)) c.draw-len.new.words c.draw-octet.new.words third (omega arith) c.draw-octet.ensures.rest in
    let zeroth : p.words ≡ generator_after p.seed (base + 0) = valid.words ∙ ap (generator_after p.seed) (omega arith) in
    let step : c.draw.result ≡ frame_word p.seed p.nodes p.filled 0 % 4000 = c.draw.ensures.value ∙ ap (λ w. w % 4000) (word_drawn p.seed (base + 0) p.words zeroth) in
    record {
      seed_high = valid.seed_high;
      nodes_low = valid.nodes_low;
      nodes_high = valid.nodes_high;
      frames_high = valid.frames_high;
      heads_high = valid.heads_high;
      placed_high = valid.placed_high;
      filled_high = omega arith;
      in_order = λ some. absurd (omega arith);
      words = fourth;
      tick = omega (arith, valid.tick, step, tick_more p.seed p.nodes p.filled);
    }

pub returns-clause-line : goal.returns-clause-line
returns-clause-line c =
    let p = c.args.self.now in
    let valid = c.requires.valid in
    let all : p.placed ≡ p.nodes = omega (arith, valid.placed_high) in
    let base = p.nodes + 4 * p.filled in
    let zeroth : p.words ≡ generator_after p.seed (base + 0) = valid.words ∙ ap (generator_after p.seed) (omega arith) in
    let first = one_drawn p.seed (base + 0) (base + 1) p.words c.draw.new.words zeroth (omega arith) c.draw.ensures.rest in
    let second = one_drawn p.seed (base + 1) (base + 2) c.draw.new.words c.draw-no.new.words first (omega arith) c.draw-no.ensures.rest in
    let third = one_drawn p.seed (base + 2) (base + 3) c.draw-no.new.words c.draw-len.new.words second (omega arith) c.draw-len.ensures.rest in
    let step : c.draw.result ≡ frame_word p.seed p.nodes p.filled 0 % 4000 = c.draw.ensures.value ∙ ap (λ w. w % 4000) (word_drawn p.seed (base + 0) p.words zeroth) in
    let tick : p.tick + c.draw.result ≡ tick_after p.seed p.nodes (p.filled + 1) = omega (arith, valid.tick, step, tick_more p.seed p.nodes p.filled) in
    let node : c.draw-no.result ≡ number_of_frame p.seed p.nodes p.filled =
    c.draw-no.ensures.value ∙ ap (λ k. (pcg32 c.draw.new.words).0 % k) c.from.ensures ∙ ap (λ w. w % p.nodes) (word_drawn p.seed (base + 1) c.draw.new.words first) in
    let len : 14 + c.draw-len.result ≡ length_of_frame p.seed p.nodes p.filled =
    ap (λ k. 14 + k) (c.draw-len.ensures.value ∙ ap (λ w. w % 200) (word_drawn p.seed (base + 2) c.draw-no.new.words second)) in
    let octet : c.draw-octet.result ≡ octet_of_frame p.seed p.nodes p.filled =
    c.draw-octet.ensures.value ∙ ap (λ w. w % 256) (word_drawn p.seed (base + 3) c.draw-len.new.words third) in
    first_frame _ _ _ _ _ (fill_line p.seed p.nodes p.filled) c.fill_text.new.out
    (none_before p.seed p.nodes p.heads c.requires.before valid.heads_high)
    (none_counted _ p.placed p.nodes c.requires.nodes)
    (first_counted (fill_line p.seed p.nodes) p.filled p.frames c.requires.left)
    (c.fill_text.ensures ∙ same_fill _ _ _ _ _ _ _ _ tick node len octet)
