-- The text of each shape is well-formed content.
use Rattle.std.proofs.Common.{◌≡◌, ℕ, zero, suc, ◌+◌, ◌-◌, ◌*◌, ◌/◌, ◌==◌, Bool, true, false, List, [], ◌∷◌, ◌++◌, codes, decimal, Option, Some, None, refl, sym, subst, append_assoc, length, min, drop}
use Rattle.std.specs.Prelude.{if◌then◌else◌}
use Rattle.std.specs.List.{list_all}
use Rattle.std.specs.Str.{bytes_eq}
use Rattle.t1s_drawing.specs.Elements.{begin_box, begin_words, end_box, end_words}
use Rattle.t1s_drawing.specs.Pieces.{each_text, piece_shape, piece_text}
use Rattle.t1s_drawing.specs.ReadLines.{is_plain}
use Rattle.t1s_drawing.specs.ShapeTexts.{bar_text, bottom, box_text, column_x, lane_y, legend_class, legend_words, mark_of, numbered_text, optional_text, part_class, part_number, shape_text, shown, summary_y, title_text, totals_class}
use Rattle.t1s_drawing.specs.Xml.{Attribute, IsContent, are_attributes, attributes_text, is_character, is_in_value}
use Rattle.t1s_drawing.specs.declared.report.Happening.{Happening}
use Rattle.t1s_drawing.specs.declared.report.Happening.TheVariants.{Taken, Full, Off, InStep, LostStep, Jam, Drop, Beacon, Commit, Quiet, Leave, Good, Bad, Hears}
use Rattle.t1s_drawing.specs.declared.shapes.Part.{Part}
use Rattle.t1s_drawing.specs.declared.shapes.Part.TheVariants.{Beacon as BeaconPart, Commit as CommitPart, Frame}
use Rattle.t1s_drawing.specs.declared.shapes.Shape.{Shape}
use Rattle.t1s_drawing.specs.declared.shapes.Shape.TheVariants.{Bar, Mark, Settled, Totals, Lane, Grid, Legend}
use Rattle.t1s_drawing.specs.declared.progress.Progress.{Progress}
use Rattle.t1s_drawing.specs.declared.window.Window.{Window}
use Rattle.t1s_drawing.specs.declared.writing.Piece.{Piece}
use Rattle.t1s_drawing.proofs.Contents.{all-append, all-take, content_characters, content_element, content_none, content_then, decimal_characters, decimal_in_value, plain_characters}

-- an element on a line of its own, after other content
pub content_line : (before : List ℕ) (name : List ℕ) (attributes : List Attribute) (inner text : List ℕ) → IsContent before → Rattle.t1s_drawing.specs.Xml.is_name name ≡ true → are_attributes attributes ≡ true → IsContent inner →
    text ≡ before ++ ((codes "<" ++ (name ++ (attributes_text attributes ++ (codes ">" ++ (inner ++ (codes "</" ++ (name ++ codes ">"))))))) ++ codes "\n") → IsContent text
content_line before name attributes inner text b n a i is =
    let element = codes "<" ++ (name ++ (attributes_text attributes ++ (codes ">" ++ (inner ++ (codes "</" ++ (name ++ codes ">")))))) in
    subst IsContent (sym is) (content_then before (element ++ codes "\n") b (content_then element (codes "\n") (content_element name attributes inner n a i) (content_characters (codes "\n") refl)))

-- ---- words

abbrev place_attributes : List ℕ → ℕ → ℕ → List Attribute
place_attributes class x y = record { name = codes "class"; value = class } ∷ record { name = codes "x"; value = decimal x } ∷ record { name = codes "y"; value = decimal y } ∷ []

place_formed : (class : List ℕ) (x y : ℕ) → list_all is_in_value class ≡ true → are_attributes (place_attributes class x y) ≡ true
place_formed class x y c = rw (c, decimal_in_value x, decimal_in_value y) refl

words_is : (before class : List ℕ) (x y : ℕ) (words : List ℕ) →
    end_words (begin_words before class x y ++ words) ≡ before ++ ((codes "<" ++ (codes "text" ++ (attributes_text (place_attributes class x y) ++ (codes ">" ++ (words ++ (codes "</" ++ (codes "text" ++ codes ">"))))))) ++ codes "\n")
words_is before class x y words = simp append_assoc refl

pub words_content : (before class : List ℕ) (x y : ℕ) (words : List ℕ) → IsContent before → list_all is_in_value class ≡ true → list_all is_character words ≡ true → IsContent (end_words (begin_words before class x y ++ words))
words_content before class x y words b c w =
    content_line before (codes "text") (place_attributes class x y) words (end_words (begin_words before class x y ++ words)) b refl (place_formed class x y c) (content_characters words w) (words_is before class x y words)

pub numbered_content : (before class : List ℕ) (x y : ℕ) (words : List ℕ) (n : ℕ) → IsContent before → list_all is_in_value class ≡ true → list_all is_character words ≡ true → IsContent (numbered_text before class x y words n)
numbered_content before class x y words n b c w =
    subst (λ (t : List ℕ). IsContent (end_words t)) (sym (append_assoc (begin_words before class x y) words (decimal n)))
    (words_content before class x y (words ++ decimal n) b c (all-append is_character words (decimal n) w (decimal_characters n)))

-- ---- boxes

abbrev box_attributes : List ℕ → ℕ × ℕ → ℕ × ℕ → List Attribute
box_attributes class place size =
    record { name = codes "class"; value = class } ∷ record { name = codes "x"; value = decimal place.0 } ∷ record { name = codes "y"; value = decimal place.1 }
    ∷ record { name = codes "width"; value = decimal size.0 } ∷ record { name = codes "height"; value = decimal size.1 } ∷ []

box_formed : (class : List ℕ) (place size : ℕ × ℕ) → list_all is_in_value class ≡ true → are_attributes (box_attributes class place size) ≡ true
box_formed class place size c = rw (c, decimal_in_value place.0, decimal_in_value place.1, decimal_in_value size.0, decimal_in_value size.1) refl

box_is : (before class : List ℕ) (place size : ℕ × ℕ) (inner : List ℕ) →
    end_box (begin_box before class place size ++ inner) ≡ before ++ ((codes "<" ++ (codes "rect" ++ (attributes_text (box_attributes class place size) ++ (codes ">" ++ (inner ++ (codes "</" ++ (codes "rect" ++ codes ">"))))))) ++ codes "\n")
box_is before class place size inner = simp append_assoc refl

filled_content : (before class : List ℕ) (place size : ℕ × ℕ) (inner : List ℕ) → IsContent before → list_all is_in_value class ≡ true → IsContent inner → IsContent (end_box (begin_box before class place size ++ inner))
filled_content before class place size inner b c i =
    content_line before (codes "rect") (box_attributes class place size) inner (end_box (begin_box before class place size ++ inner)) b refl (box_formed class place size c) i (box_is before class place size inner)

pub box_content : (before class : List ℕ) (place size : ℕ × ℕ) → IsContent before → list_all is_in_value class ≡ true → IsContent (box_text before class place size)
box_content before class place size b c =
    subst (λ (t : List ℕ). IsContent (end_box t)) (Rattle.std.proofs.lemmas.List.append-nil (begin_box before class place size)) (filled_content before class place size [] b c content_none)

title_is : (before class : List ℕ) (start stop : ℕ) →
    title_text before class start stop ≡ before ++ (codes "<" ++ (codes "title" ++ (attributes_text [] ++ (codes ">" ++ ((class ++ (codes " " ++ (decimal start ++ (codes " to " ++ decimal stop)))) ++ (codes "</" ++ (codes "title" ++ codes ">")))))))
title_is before class start stop = simp append_assoc refl

titled_content : (before class title : List ℕ) (place size : ℕ × ℕ) (start stop : ℕ) → IsContent before → list_all is_in_value class ≡ true → list_all is_character title ≡ true →
    IsContent (end_box (title_text (begin_box before class place size) title start stop))
titled_content before class title place size start stop b c t =
    let words = title ++ (codes " " ++ (decimal start ++ (codes " to " ++ decimal stop))) in
    let all : list_all is_character words ≡ true =
    all-append is_character title _ t (all-append is_character (decimal start) _ (decimal_characters start) (decimal_characters stop)) in
    subst (λ (o : List ℕ). IsContent (end_box o)) (sym (title_is (begin_box before class place size) title start stop))
    (filled_content before class place size _ b c (content_element (codes "title") [] words refl refl (content_characters words all)))

-- ---- shapes

part_class_in_value : (part : Part) → list_all is_in_value (part_class part) ≡ true
part_class_in_value BeaconPart = refl
part_class_in_value CommitPart = refl
part_class_in_value (Frame n) = refl

part_class_characters : (part : Part) → list_all is_character (part_class part) ≡ true
part_class_characters BeaconPart = refl
part_class_characters CommitPart = refl
part_class_characters (Frame n) = refl

part_number_content : (before : List ℕ) (part : Part) (x y : ℕ) → IsContent before → IsContent (part_number before part x y)
part_number_content before BeaconPart x y b = b
part_number_content before CommitPart x y b = b
part_number_content before (Frame n) x y b = numbered_content before (codes "number") (x + 3) (y + 13) [] n b refl refl

bar_content : (before : List ℕ) (w : Window) (node : ℕ) (part : Part) (start stop : ℕ) → IsContent before → IsContent (bar_text before w node part start stop)
bar_content before w node part start stop b =
    part_number_content _ part (column_x w start) (lane_y node + 16)
    (titled_content before (part_class part) (part_class part) (column_x w start, lane_y node + 16) (stop - start, 18) start stop b (part_class_in_value part) (part_class_characters part))

mark_content : (before : List ℕ) (w : Window) (what : Happening) (x y : ℕ) → IsContent before → IsContent (mark_of before w what x y)
mark_content before w (Taken n) x y b = numbered_content before (codes "taken") x (y + 11) (codes "+") n b refl refl
mark_content before w (Full n) x y b = numbered_content before (codes "bad") x (y + 11) (codes "full ") n b refl refl
mark_content before w (Off n) x y b = numbered_content before (codes "bad") x (y + 11) (codes "off ") n b refl refl
mark_content before w InStep x y b = words_content before (codes "ok") x (y + 11) (codes "ok") b refl refl
mark_content before w LostStep x y b = words_content before (codes "bad") x (y + 11) (codes "lost") b refl refl
mark_content before w (Jam n) x y b = numbered_content before (codes "jam") x (y + 11) (codes "jam ") n b refl refl
mark_content before w (Drop n) x y b = numbered_content before (codes "bad") x (y + 11) (codes "drop ") n b refl refl
mark_content before w Beacon x y b = box_content before (codes "cycle") (x, 44) (1, bottom w - 44) b refl
mark_content before w Good x y b = box_content before (codes "good") (x, y + 36) (4, 8) b refl
mark_content before w Bad x y b = box_content before (codes "bad") (x, y + 36) (4, 8) b refl
mark_content before w Commit x y b = b
mark_content before w Quiet x y b = b
mark_content before w (Leave n) x y b = b
mark_content before w (Hears heard) x y b = b

one_of_two : (test : ℕ → Bool) (b : Bool) (p q : List ℕ) → list_all test p ≡ true → list_all test q ≡ true → list_all test (if b then p else q) ≡ true
one_of_two test true p q h k = h
one_of_two test false p q h k = k

legend_class_in_value : (row : ℕ) → list_all is_in_value (legend_class row) ≡ true
legend_class_in_value row =
    one_of_two is_in_value (row == 0) (codes "beacon") _ refl (one_of_two is_in_value (row == 1) (codes "commit") _ refl
    (one_of_two is_in_value (row == 2) (codes "frame") _ refl (one_of_two is_in_value (row == 3) (codes "good") (codes "bad") refl refl)))

legend_words_characters : (row : ℕ) → list_all is_character (legend_words row) ≡ true
legend_words_characters row =
    one_of_two is_character (row == 0) (codes "drives a beacon") _ refl (one_of_two is_character (row == 1) (codes "drives a commit") _ refl
    (one_of_two is_character (row == 2) (codes "drives a frame") _ refl (one_of_two is_character (row == 3) (codes "hears a good frame") (codes "hears a piece that is broken") refl refl)))

shown_characters : (line : List ℕ) → is_plain line ≡ true → list_all is_character (shown line) ≡ true
shown_characters line h = all-take is_character (min (length line) 256) line (plain_characters line h)

pub shape_content : (before : List ℕ) (w : Window) (line : List ℕ) (shape : Shape) → IsContent before → is_plain line ≡ true → IsContent (shape_text before w line shape)
shape_content before w line (Bar node part start stop) b plain = bar_content before w node part start stop b
shape_content before w line (Mark event beside) b plain = mark_content before w event.what (column_x w event.tick + 36 * beside) (lane_y event.node) b
shape_content before w line Settled b plain = words_content before (codes "note") 70 (summary_y w) (shown line) b refl (shown_characters line plain)
shape_content before w line (Totals node) b plain =
    words_content before (totals_class line) 70 (summary_y w + 16 * (1 + node)) (shown line) b
    (one_of_two is_in_value (bytes_eq (drop (length line - 8) line) (codes " clash 0")) (codes "totals") (codes "bad") refl refl) (shown_characters line plain)
shape_content before w line (Lane node) b plain =
    numbered_content (box_text before (codes "lane") (70, lane_y node) (w.until - w.from, 44)) (codes "name") 8 (lane_y node + 29) (codes "node ") node
    (box_content before (codes "lane") (70, lane_y node) (w.until - w.from, 44) b refl) refl refl
shape_content before w line (Grid tick) b plain =
    let front = begin_words (box_text before (codes "grid") (column_x w tick, 34) (1, bottom w - 34)) (codes "tick") (column_x w tick) 30 in
    let words = decimal tick ++ (codes " = " ++ (decimal (tick / 10) ++ codes " us")) in
    let all : list_all is_character words ≡ true =
    all-append is_character (decimal tick) _ (decimal_characters tick) (all-append is_character (decimal (tick / 10)) (codes " us") (decimal_characters (tick / 10)) refl) in
    let is : front ++ words ≡ front ++ decimal tick ++ codes " = " ++ decimal (tick / 10) ++ codes " us" = simp append_assoc refl in
    subst (λ (o : List ℕ). IsContent (end_words o)) is
    (words_content (box_text before (codes "grid") (column_x w tick, 34) (1, bottom w - 34)) (codes "tick") (column_x w tick) 30 words
    (box_content before (codes "grid") (column_x w tick, 34) (1, bottom w - 34) b refl) refl all)
shape_content before w line (Legend row) b plain =
    words_content (box_text before (legend_class row) (70 + 170 * row, bottom w + 12) (24, 12)) (codes "note") (70 + 170 * row + 30) (bottom w + 12 + 10) (legend_words row)
    (box_content before (legend_class row) (70 + 170 * row, bottom w + 12) (24, 12) b (legend_class_in_value row)) refl (legend_words_characters row)

pub optional_content : (before : List ℕ) (w : Window) (line : List ℕ) (shape : Option Shape) → IsContent before → is_plain line ≡ true → IsContent (optional_text before w line shape)
optional_content before w line (Some shape) b plain = shape_content before w line shape b plain
optional_content before w line None b plain = b

pub each_content : (piece : Piece) (w : Window) (p : Progress) (count : ℕ) → ((row : ℕ) → piece_text piece w p row ≡ optional_text [] w [] (piece_shape piece w p row)) → IsContent (each_text (piece_text piece w p) count)
each_content piece w p zero shapes = content_none
each_content piece w p (suc count) shapes =
    content_then (each_text (piece_text piece w p) count) (piece_text piece w p count) (each_content piece w p count shapes)
    (subst IsContent (sym (shapes count)) (optional_content [] w [] (piece_shape piece w p count) content_none refl))
