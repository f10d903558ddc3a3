-- The lines of a text and the fields of a line.
use Rattle.std.specs.Prelude.{ℕ, ◌==◌, List}
use Rattle.std.specs.List.{slice_split}

-- what stands between line feeds; the last of these parts is what stands after the last one
abbrev pub parts_of : List ℕ → List (List ℕ)
parts_of octets = slice_split (λ octet. octet == 10) octets

-- the fields of a line: it is cut at each space
abbrev pub fields_of : List ℕ → List (List ℕ)
fields_of line = slice_split (λ octet. octet == 32) line
