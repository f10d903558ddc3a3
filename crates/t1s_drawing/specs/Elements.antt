-- The elements of a picture, each of them after the text before it.
use Rattle.std.specs.Prelude.{ℕ, List, ◌++◌, codes, decimal}

-- words of a class, that start there; what they say comes between these two
abbrev pub begin_words : List ℕ → List ℕ → ℕ → ℕ → List ℕ
begin_words before class x y =
    before ++ codes "<text class='" ++ class ++ codes "' x='" ++ decimal x ++ codes "' y='" ++ decimal y ++ codes "'>"

abbrev pub end_words : List ℕ → List ℕ
end_words before = before ++ codes "</text>\n"

-- a box of a class, that starts there, and is so wide and so high; a title may come between these two
abbrev pub begin_box : List ℕ → List ℕ → ℕ × ℕ → ℕ × ℕ → List ℕ
begin_box before class place size =
    before ++ codes "<rect class='" ++ class ++ codes "' x='" ++ decimal place.0 ++ codes "' y='" ++ decimal place.1
    ++ codes "' width='" ++ decimal size.0 ++ codes "' height='" ++ decimal size.1 ++ codes "'>"

abbrev pub end_box : List ℕ → List ℕ
end_box before = before ++ codes "</rect>\n"
