use Rattle.std.proofs.Common.{◌≡◌, ◌<◌, ◌≤◌, List, [], ◌∷◌, length, Global, None, refl, arith}
use Rattle.std.specs.declared.string.String.{String}
use Rattle.t1s_drawing.specs.DrawCall.{window_in, word_octets}
use Rattle.t1s_drawing.proofs.program.window_in.Goals as goal

too_few : (words : List (String Global)) → length words < 3 → None ≡ window_in (word_octets words)
too_few [] few = refl
too_few (a ∷ []) few = refl
too_few (a ∷ b ∷ []) few = refl
too_few (a ∷ b ∷ c ∷ words) few = absurd (omega arith)

too_many : (words : List (String Global)) → 5 ≤ length words → None ≡ window_in (word_octets words)
too_many [] many = absurd (omega arith)
too_many (a ∷ []) many = absurd (omega arith)
too_many (a ∷ b ∷ []) many = absurd (omega arith)
too_many (a ∷ b ∷ c ∷ []) many = absurd (omega arith)
too_many (a ∷ b ∷ c ∷ d ∷ []) many = absurd (omega arith)
too_many (a ∷ b ∷ c ∷ d ∷ e ∷ words) many = refl

pub returns-in_default : goal.returns-in_default
returns-in_default c = too_few c.args.words.now c.in_default.len_below

pub returns-in_default-2 : goal.returns-in_default-2
returns-in_default-2 c = too_many c.args.words.now c.in_default.len_at_least
