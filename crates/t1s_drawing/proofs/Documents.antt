-- A whole picture is an XML document.
use Rattle.std.proofs.Common.{◌≡◌, ℕ, ◌+◌, ◌/◌, Bool, true, false, nat_lt, List, [], ◌∷◌, ◌++◌, codes, decimal, length, Option, Some, None, Ok, Err, refl, sym, ap, subst, ◌∙◌, append_assoc}
use Rattle.std.specs.Prelude.{if◌then◌else◌}
use Rattle.std.specs.List.{list_all}
use Rattle.t1s_drawing.specs.Lines.{fields_of, parts_of}
use Rattle.t1s_drawing.specs.Pieces.{each_text, piece_text}
use Rattle.t1s_drawing.specs.Picture.{head, head_text, height, picture_opening, shapes_text, width, with_grid, with_lanes, with_paper}
use Rattle.t1s_drawing.specs.Written.{Outcome, after, closing, closing_of, drawing_of, drawn, end_of, going_on, line_step, opening, opening_of, step_of, told_of, told_text}
use Rattle.t1s_drawing.specs.Progress.{Stepped, at_start}
use Rattle.t1s_drawing.specs.ReadLines.{is_plain, line_in, line_of}
use Rattle.t1s_drawing.specs.ShapeTexts.{box_text, label_text}
use Rattle.t1s_drawing.specs.Xml.{Attribute, IsContent, IsDocument, are_attributes, attributes_text, is_character}
use Rattle.t1s_drawing.specs.declared.report.ReportLine.{ReportLine}
use Rattle.t1s_drawing.specs.declared.progress.Progress.{Progress}
use Rattle.t1s_drawing.specs.declared.progress.Told.{Told}
use Rattle.t1s_drawing.specs.declared.window.Form.{Form}
use Rattle.t1s_drawing.specs.declared.window.Form.TheVariants.{Picture}
use Rattle.t1s_drawing.specs.declared.window.Window.{Window}
use Rattle.t1s_drawing.specs.declared.writing.Piece.TheVariants.{Lanes, Grid, Legend, Ends}
use Rattle.t1s_drawing.proofs.Contents.{content_characters, content_element, content_none, content_then, decimal_in_value}
use Rattle.t1s_drawing.proofs.ShapeContents.{box_content, each_content, optional_content, words_content}

-- ---- the start of the element that holds all others

abbrev svg_attributes : Window → List Attribute
svg_attributes w =
    record { name = codes "xmlns"; value = codes "http://www.w3.org/2000/svg" } ∷ record { name = codes "width"; value = decimal (width w) } ∷ record { name = codes "height"; value = decimal (height w) }
    ∷ []

svg_formed : (w : Window) → are_attributes (svg_attributes w) ≡ true
svg_formed w = rw (decimal_in_value (width w), decimal_in_value (height w)) refl

abbrev svg_start : Window → List ℕ
svg_start w = codes "<" ++ (codes "svg" ++ (attributes_text (svg_attributes w) ++ codes ">"))

-- it, and then content
abbrev Begun : Window → List ℕ → Type 0
Begun w text = (inner : List ℕ) × IsContent inner × (text ≡ svg_start w ++ inner)

begun_then : (w : Window) (a b : List ℕ) → Begun w a → IsContent b → Begun w (a ++ b)
begun_then w a b (inner, c, is) d = (inner ++ b, content_then inner b c d, ap (λ (t : List ℕ). t ++ b) is ∙ append_assoc (svg_start w) inner b)

style : List ℕ
style =
    codes "text{font:11px sans-serif}.paper{fill:white}.lane{fill:#f1f3f5}.grid{fill:#dde1e6}.cycle{fill:#9aa5b1}"
    ++ codes ".beacon{fill:#3b6fb6}.commit{fill:#f2b134}.frame{fill:#4f9d69}.good{fill:#1b7340}.bad{fill:#c62828}"
    ++ codes ".number{fill:white}.taken{fill:#3b6fb6}.jam{fill:#c05a00}.ok{fill:#1b7340}.tick{fill:#666}"

style_characters : list_all is_character style ≡ true
unfolding style
style_characters = refl

head_begun : (w : Window) → Begun w (head w)
unfolding head style
head_begun w =
    let element = codes "<" ++ (codes "style" ++ (attributes_text [] ++ (codes ">" ++ (style ++ (codes "</" ++ (codes "style" ++ codes ">")))))) in (
      codes "\n" ++ (element ++ codes "\n"),
      content_then (codes "\n") (element ++ codes "\n") (content_characters (codes "\n") refl)
          (content_then element (codes "\n") (content_element (codes "style") [] style refl refl (content_characters style style_characters)) (content_characters (codes "\n") refl)),
      simp append_assoc refl,
    )

label_after : (before class : List ℕ) (x y : ℕ) (words : List ℕ) → label_text before class x y words ≡ before ++ label_text [] class x y words
label_after before class x y words = simp append_assoc refl

note : List ℕ
note = codes "ticks of 100 ns; +K is offer K, taken into the queue; signs of one tick stand side by side"

box_after : (before class : List ℕ) (place size : ℕ × ℕ) → box_text before class place size ≡ before ++ box_text [] class place size
box_after before class place size = simp append_assoc refl

paper_begun : (w : Window) → Begun w (with_paper w)
paper_begun w =
    subst (Begun w) (sym (box_after (head w) (codes "paper") (0, 0) (width w, height w)))
    (begun_then w (head w) (box_text [] (codes "paper") (0, 0) (width w, height w)) (head_begun w) (box_content [] (codes "paper") (0, 0) (width w, height w) content_none refl))

opening_begun : (w : Window) → Begun w (picture_opening w)
unfolding note
opening_begun w =
    let labelled : Begun w (head_text w) =
    subst (Begun w) (sym (label_after (with_paper w) (codes "note") 70 14 note))
    (begun_then w (with_paper w) (label_text [] (codes "note") 70 14 note) (paper_begun w) (words_content [] (codes "note") 70 14 note content_none refl refl)) in
    begun_then w (with_grid w) (each_text (piece_text Legend w at_start) 5)
    (begun_then w (with_lanes w) (each_text (piece_text Grid w at_start) (w.until / 100 + 1)) (begun_then w (head_text w) (each_text (piece_text Lanes w at_start) w.nodes) labelled (each_content Lanes w at_start w.nodes (λ row. refl))) (each_content Grid w at_start (w.until / 100 + 1) (λ row. refl))) (each_content Legend w at_start 5 (λ row. refl))

-- ---- lines

plain_of_line : (line : List ℕ) (said : ReportLine) → line_of line ≡ Some said → is_plain line ≡ true
plain_of_line line said h = go (is_plain line) (line_in (fields_of line)) h
  where
    go : (b : Bool) (o : Option ReportLine) → (if b then o else None) ≡ Some said → b ≡ true
    go true o e = refl
    go false o e = absurd cc

plain_of_step_of : (w : Window) (p : Progress) (line : List ℕ) (o : Option ReportLine) (x : Progress × Told) → line_of line ≡ o → step_of w p o ≡ Ok x → is_plain line ≡ true
plain_of_step_of w p line (Some said) x is h = plain_of_line line said is
plain_of_step_of w p line None x is h = absurd cc

plain_of_step : (w : Window) (p : Progress) (number : ℕ) (line : List ℕ) (x : Progress × Told) → line_step w p number line ≡ Ok x → is_plain line ≡ true
plain_of_step w p number line x h = go (nat_lt 4096 (length line)) (nat_lt 1073741824 number) h
  where
    go : (a b : Bool) → (if a then Err Rattle.t1s_drawing.specs.declared.progress.Reason.TheVariants.TooLong else if b then Err Rattle.t1s_drawing.specs.declared.progress.Reason.TheVariants.TooMany else step_of w p (line_of line)) ≡ Ok x → is_plain line ≡ true
    go true b e = absurd cc
    go false true e = absurd cc
    go false false e = plain_of_step_of w p line (line_of line) x refl e

told_content : (w : Window) (line : List ℕ) (told : Told) → is_plain line ≡ true → IsContent (shapes_text w line told)
told_content w line told plain = optional_content _ w line told.mark (optional_content [] w line told.bar content_none plain) plain

-- content, and then the end of the element that holds all
abbrev Closed : List ℕ → Type 0
Closed text = (inner : List ℕ) × IsContent inner × (text ≡ inner ++ codes "</svg>\n")

closed_after : (a : List ℕ) (o : Outcome) → IsContent a → Closed o.text → Closed (after a o).text
unfolding after
closed_after a o c (inner, d, is) = (a ++ inner, content_then a inner c d, ap (λ (t : List ℕ). a ++ t) is ∙ sym (append_assoc a inner (codes "</svg>\n")))

refused_of : (a : List ℕ) (o : Outcome) → (after a o).refused ≡ false → o.refused ≡ false
unfolding after
refused_of a o h = h

end_closed : (w : Window) (p : Progress) (number : ℕ) (part : List ℕ) → w.form ≡ Picture → (end_of w p number part).refused ≡ false → Closed (end_of w p number part).text
end_closed w p number [] form h = go p.in_summary h
  where
    go : (b : Bool) → (if b then record { text = closing w p; refused = false } else Rattle.t1s_drawing.specs.Written.refusal number Rattle.t1s_drawing.specs.declared.progress.Reason.TheVariants.End).refused ≡ false
        → Closed (if b then record { text = closing w p; refused = false } else Rattle.t1s_drawing.specs.Written.refusal number Rattle.t1s_drawing.specs.declared.progress.Reason.TheVariants.End).text
    go true e = (each_text (piece_text Ends w p) w.nodes, each_content Ends w p w.nodes (λ row. refl), ap (λ (f : Form). closing_of f w p) form)
    go false e = absurd cc
end_closed w p number (octet ∷ part) form h = absurd cc

drawn_closed : (w : Window) → w.form ≡ Picture → (parts : List (List ℕ)) (p : Progress) (number : ℕ) → (drawn w parts p number).refused ≡ false → Closed (drawn w parts p number).text
unfolding drawn
drawn_closed w form [] p number h = absurd cc
drawn_closed w form (part ∷ []) p number h = end_closed w p number part form h
drawn_closed w form (part ∷ next ∷ parts) p number h = go (λ q. drawn_closed w form (next ∷ parts) q (number + 1)) (line_step w p number part) refl h
  where
    go : ((q : Progress) → (drawn w (next ∷ parts) q (number + 1)).refused ≡ false → Closed (drawn w (next ∷ parts) q (number + 1)).text) → (s : Stepped) → line_step w p number part ≡ s → (going_on w number part s (λ q. drawn w (next ∷ parts) q (number + 1))).refused ≡ false →
        Closed (going_on w number part s (λ q. drawn w (next ∷ parts) q (number + 1))).text
    go more (Ok x) is e =
        closed_after (told_text w part x.1) (drawn w (next ∷ parts) x.0 (number + 1)) (subst IsContent (sym (ap (λ (f : Form). told_of f w part x.1) form)) (told_content w part x.1 (plain_of_step w p number part x is)))
        (more x.0 (refused_of (told_text w part x.1) (drawn w (next ∷ parts) x.0 (number + 1)) e))
    go more (Err reason) is e = absurd cc

-- the element with this in it, and a line feed
abbrev svg_text : Window → List ℕ → List ℕ
svg_text w inner =
    (codes "<" ++ (codes "svg" ++ (attributes_text (svg_attributes w) ++ (codes ">" ++ (inner ++ (codes "</" ++ (codes "svg" ++ (codes ">" ++ [])))))))) ++ codes "\n"

whole_is : (w : Window) (inner : List ℕ) → svg_start w ++ (inner ++ codes "</svg>\n") ≡ svg_text w inner
whole_is w inner = simp append_assoc refl

document_of : (w : Window) (a b : List ℕ) → Begun w a → Closed b → IsDocument (a ++ b)
document_of w a b (front, c, is) (back, d, is') =
    let inner = content_then front back c d in
    record {
      name = codes "svg";
      attributes = svg_attributes w;
      inner = inner.content;
      formed = (refl, svg_formed w, inner.formed, tt);
      is = ap (λ (t : List ℕ). t ++ b) is ∙ (ap (λ (t : List ℕ). (svg_start w ++ front) ++ t) is'
          ∙ (append_assoc (svg_start w) front (back ++ codes "</svg>\n") ∙ (ap (λ (t : List ℕ). svg_start w ++ t) (sym (append_assoc front back (codes "</svg>\n")))
          ∙ (whole_is w (front ++ back) ∙ ap (svg_text w) inner.is))));
    }

-- a picture that is not refused is an XML document
pub picture_document : (w : Window) (octets : List ℕ) → w.form ≡ Picture → (drawing_of w octets).refused ≡ false → IsDocument (drawing_of w octets).text
unfolding drawing_of after
picture_document w octets form h =
    document_of w (opening w) (drawn w (parts_of octets) at_start 1).text (subst (Begun w) (sym (ap (λ (f : Form). opening_of f w) form)) (opening_begun w))
    (drawn_closed w form (parts_of octets) at_start 1 h)
