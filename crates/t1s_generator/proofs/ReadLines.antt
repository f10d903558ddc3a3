-- Lines of a script of version 1 that say something by themselves, and texts of them.
use Rattle.std.proofs.Common.{◌≡◌, ℕ, zero, suc, ◌+◌, ◌*◌, ◌<◌, ◌≤◌, false, List, [], ◌∷◌, ◌++◌, length, map, All, refl, ap, ◌∙◌, arith, length-append, append_assoc}
use Rattle.std.specs.Prelude.{◌==◌}
use Rattle.std.specs.List.{concat, slice_split, join_with_byte, range_with_len}
use Rattle.std.proofs.lemmas.List.Splits.{slice_split_at}
use Rattle.t1s_script.specs.ParsedLine.{ParsedLine, line_in, is_skipped, parsed_line}
use Rattle.t1s_script.specs.declared.versions.Version.TheVariants.{V1}
use Rattle.t1s_generator.specs.Generated.{line}
use Rattle.t1s_generator.proofs.LineFields.{AreFields, fields_cut, joined_lacks, joined_short}

-- octets that are a line with its line feed, and what the line says
pub record IsRead (octets : List ℕ) (says : ParsedLine) : Type 0 where
  pub bare : List ℕ
  pub whole : octets ≡ bare ++ 10 ∷ []
  pub lacks : All (λ x. (x == 10) ≡ false) bare
  pub short : length bare ≤ 105
  pub parsed : parsed_line V1 bare ≡ says

pub line_read : (first : List ℕ) (rest : List (List ℕ)) (says : ParsedLine) → AreFields (first ∷ rest) → length rest ≤ 4 → is_skipped (join_with_byte 32 (first ∷ rest)) ≡ false → line_in V1 (first ∷ rest) ≡ says
    → IsRead (line (first ∷ rest)) says
line_read first rest says h few kept e = record {
  bare = join_with_byte 32 (first ∷ rest);
  whole = refl;
  lacks = joined_lacks (first ∷ rest) h;
  short = omega (arith, joined_short (first ∷ rest) h);
  parsed = parsed kept;
}
  where
    parsed : is_skipped (join_with_byte 32 (first ∷ rest)) ≡ false → parsed_line V1 (join_with_byte 32 (first ∷ rest)) ≡ says
    parsed not_skipped = rw not_skipped (ap (line_in V1) (fields_cut first rest h) ∙ e)

-- each of these lines says that
abbrev pub AreRead : List (List ℕ) → List ParsedLine → Type 0
AreRead [] [] = Unit {0}
AreRead [] (says ∷ more) = ⊥
AreRead (octets ∷ lines) [] = ⊥
AreRead (octets ∷ lines) (says ∷ more) = IsRead octets says × AreRead lines more

pub both_read : (a : List (List ℕ)) (p : List ParsedLine) (b : List (List ℕ)) (q : List ParsedLine) → AreRead a p → AreRead b q → AreRead (a ++ b) (p ++ q)
both_read [] [] b q h k = k
both_read [] (s ∷ p) b q h k = absurd h
both_read (x ∷ a) [] b q h k = absurd h
both_read (x ∷ a) (s ∷ p) b q h k = (h.0, both_read a p b q h.1 k)

pub counted_read : (f : ℕ → List ℕ) (g : ℕ → ParsedLine) (from count : ℕ) → ((k : ℕ) → k < from + count → IsRead (f k) (g k)) → AreRead (map f (range_with_len from count)) (map g (range_with_len from count))
counted_read f g from zero h = tt
counted_read f g from (suc count) h = (h from (omega arith), counted_read f g (from + 1) count (λ k below. h k (omega arith)))

-- the lines of a text, and what they say
pub record IsText (octets : List ℕ) (count : ℕ) (says : List ParsedLine) : Type 0 where
  pub bares : List (List ℕ)
  pub cut : slice_split (λ x. x == 10) octets ≡ bares ++ [] ∷ []
  pub parsed : map (parsed_line V1) bares ≡ says
  pub short : length octets ≤ 106 * count

-- one line before others
pub line_before : (octets rest : List ℕ) (count : ℕ) (first : ParsedLine) (says : List ParsedLine) → IsRead octets first → IsText rest count says → IsText (octets ++ rest) (suc count) (first ∷ says)
line_before octets rest count first says h t =
    let same : octets ++ rest ≡ h.bare ++ 10 ∷ rest = ap (λ o. o ++ rest) h.whole ∙ append_assoc h.bare (10 ∷ []) rest in
    record {
      bares = h.bare ∷ t.bares;
      cut = ap (slice_split (λ x. x == 10)) same ∙ slice_split_at (λ x. x == 10) h.bare 10 rest h.lacks refl ∙ ap (λ ls. h.bare ∷ ls) t.cut;
      parsed = ap (λ p. p ∷ map (parsed_line V1) t.bares) h.parsed ∙ ap (λ ps. first ∷ ps) t.parsed;
      short = omega (arith, h.short, t.short, ap length same, length-append h.bare (10 ∷ rest));
    }

pub text_read : (lines : List (List ℕ)) (says : List ParsedLine) → AreRead lines says → IsText (concat lines) (length lines) says
text_read [] [] h = record { bares = []; cut = refl; parsed = refl; short = omega arith }
text_read [] (s ∷ says) h = absurd h
text_read (octets ∷ lines) [] h = absurd h
text_read (octets ∷ lines) (s ∷ says) h = line_before octets (concat lines) (length lines) s says h.0 (text_read lines says h.1)
