-- The words of a text, and the ticks that they give.
use Rattle.std.proofs.Common.{◌≡◌, ℕ, zero, suc, ◌+◌, ◌*◌, ◌%◌, ◌≤◌, sym, ap, ◌∙◌, arith, add-one}
use Rattle.rand_pcg.specs.Lcg.{Lcg, next}
use Rattle.rand_pcg.specs.Pcg.{multiplier_64, pcg32}
use Rattle.t1s_generator.specs.Generated.{generator_after, word, frame_word, tick_after}

-- the word of the generator after so many words
pub word_drawn : (seed count : ℕ) (words : Lcg) → words ≡ generator_after seed count → (pcg32 words).0 ≡ word seed count
unfolding word
word_drawn seed count words e = ap (λ g. (pcg32 g).0) e

-- the generator after one word more
pub one_drawn : (seed count more : ℕ) (words rest : Lcg) → words ≡ generator_after seed count → more ≡ count + 1 → rest ≡ next 64 multiplier_64 words → rest ≡ generator_after seed more
unfolding generator_after
one_drawn seed count more words rest e one step =
    step ∙ ap (next 64 multiplier_64) e ∙ sym (ap (generator_after seed) (one ∙ add-one count))

-- the tick of one frame more
pub tick_more : (seed nodes before : ℕ) → tick_after seed nodes (before + 1) ≡ tick_after seed nodes before + frame_word seed nodes before 0 % 4000
unfolding tick_after
tick_more seed nodes before = ap (tick_after seed nodes) (add-one before)

-- no tick is higher than if each step were the longest
pub tick_high : (seed nodes frames : ℕ) → tick_after seed nodes frames ≤ 9000 + 3999 * frames
unfolding tick_after
tick_high seed nodes zero = omega arith
tick_high seed nodes (suc before) = omega (arith, tick_high seed nodes before)
