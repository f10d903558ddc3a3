-- The lines of a text that are given one after another.
use Rattle.std.proofs.Common.{◌≡◌, ℕ, List, ◌∷◌, ◌++◌, sym, ◌∙◌, ap, append_assoc}
use Rattle.std.specs.List.{concat}

-- of all these lines, those before the ones that are left make this text
pub record GivenLines (all left : List (List ℕ)) (text : List ℕ) : Type 0 where
  pub text_and_rest : concat all ≡ text ++ concat left

pub lines_go_on : (all before after : List (List ℕ)) (line text : List ℕ) → before ≡ line ∷ after → GivenLines all before text → GivenLines all after (text ++ line)
lines_go_on all before after line text e h = record {
  text_and_rest = h.text_and_rest ∙ (ap (λ (x : List (List ℕ)). text ++ concat x) e ∙ sym (append_assoc text line (concat after)));
}
