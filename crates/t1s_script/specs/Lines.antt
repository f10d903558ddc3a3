-- The lines of a text and the fields of a line.
use Rattle.std.specs.Prelude.{ℕ, ◌==◌, List, [], ◌∷◌, length, if◌then◌else◌}
use Rattle.std.specs.List.{slice_split}

-- the parts, less the last one where it is empty
abbrev pub without_empty_last : List (List ℕ) → List (List ℕ)
without_empty_last [] = []
without_empty_last (part ∷ []) = if length part == 0 then [] else part ∷ []
without_empty_last (part ∷ next ∷ parts) = part ∷ without_empty_last (next ∷ parts)

-- The lines of a text: it is cut at each line feed, and what stands after the last line feed is a line
-- unless it is empty.
abbrev pub lines_of : List ℕ → List (List ℕ)
lines_of octets = without_empty_last (slice_split (λ octet. octet == 10) octets)

-- the fields of a line: it is cut at each space
abbrev pub fields_of : List ℕ → List (List ℕ)
fields_of line = slice_split (λ octet. octet == 32) line
