-- The thin form: the line `t1s 1`, the line `count N`, one to sixteen lines `node NO ID PLACE` in strictly
-- ascending number, the line `end T`, and no line after it.
use Rattle.std.specs.Prelude.{ℕ, ◌+◌, ◌≡◌, ◌&&◌, Bool, true, false, List, [], ◌∷◌, map, nat_le, length, codes, Ok, None, All}
use Rattle.std.specs.Str.{bytes_eq}
use Rattle.t1s_script.specs.Lines.{lines_of}
use Rattle.t1s_script.specs.ParsedLine.{ParsedLine, parsed_line}
use Rattle.t1s_script.specs.Reading.{script_of}
use Rattle.t1s_script.specs.declared.script.NodeLine.{NodeLine}
use Rattle.t1s_script.specs.declared.script.Script.{Script}
use Rattle.t1s_script.specs.declared.versions.Version.TheVariants.{V1}
use Rattle.t1s_script.specs.declared.words.Setting.TheVariants.{Count}
use Rattle.t1s_script.specs.declared.words.ScriptLine.TheVariants.{Set, Node, End}

-- further `node` lines, each of them of that number at least, and then `end` as the last line
abbrev pub are_thin_nodes : ℕ → List ParsedLine → Bool
are_thin_nodes least (Ok (Node number id place) ∷ lines) = nat_le least number && are_thin_nodes (number + 1) lines
are_thin_nodes least (Ok (End last) ∷ []) = true
are_thin_nodes least _ = false

-- at least one `node` line
abbrev pub are_thin_after_count : List ParsedLine → Bool
are_thin_after_count (Ok (Node number id place) ∷ lines) = are_thin_nodes (number + 1) lines
are_thin_after_count _ = false

-- the lines after the first
abbrev pub are_thin : List ParsedLine → Bool
are_thin (Ok (Set Count n) ∷ lines) = are_thin_after_count lines
are_thin _ = false

abbrev pub have_thin_form : List (List ℕ) → Bool
have_thin_form [] = false
have_thin_form (first ∷ lines) = bytes_eq first (codes "t1s 1") && are_thin (map (parsed_line V1) lines)

-- the octets of a script have the thin form
abbrev pub has_thin_form : List ℕ → Bool
has_thin_form octets = nat_le (length octets) 1048576 && have_thin_form (lines_of octets)

-- a node with one ID and without a stub, with the default timer, that starts at once and has no list of draws
pub record IsThinNode (n : NodeLine) : Type 0 where
  pub one_id : length n.ids ≡ 1
  pub stub : n.stub ≡ 0
  pub to : n.to ≡ 32
  pub start : n.start ≡ 0
  pub draws : n.draws ≡ None

-- all that the thin form doesn't name has its default
pub record IsThinScript (s : Script) : Type 0 where
  pub to : s.to ≡ 32
  pub rise : s.rise ≡ 4
  pub fall : s.fall ≡ 4
  pub burst : s.burst ≡ 0
  pub room : s.room ≡ 8
  pub seed : s.seed ≡ 1
  pub nodes : All IsThinNode s.nodes
  pub acts : s.acts ≡ []

-- octets of the thin form are read as such a script
abbrev pub ThinScriptsHaveDefaults : Type 0
ThinScriptsHaveDefaults = (octets : List ℕ) → has_thin_form octets ≡ true → (s : Script) × (script_of octets ≡ Ok s) × IsThinScript s
