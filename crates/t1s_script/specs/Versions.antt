-- The versions of the script format: each has the words of those before it.
use Rattle.std.specs.Prelude.{ℕ, Bool, List, nat_le, codes, Option, Some, None, if◌then◌else◌}
use Rattle.std.specs.Str.{bytes_eq}
use Rattle.t1s_base.specs.Limits.{early_last_node, early_most_ticks, last_node, most_ticks}
use Rattle.t1s_script.specs.declared.versions.Version.{Version}
use Rattle.t1s_script.specs.declared.versions.Version.TheVariants.{V1, V2, V3}
use Rattle.t1s_script.specs.declared.words.Word.{Word}
use Rattle.t1s_script.specs.declared.words.Word.TheVariants.{Also, Stub}

-- the number by which the first line names a version
abbrev pub number_of_version : Version → ℕ
number_of_version V1 = 1
number_of_version V2 = 2
number_of_version V3 = 3

-- the version that a first line names
abbrev pub version_of : List ℕ → Option Version
version_of line =
    if bytes_eq line (codes "t1s 1") then Some V1
    else if bytes_eq line (codes "t1s 2") then Some V2
    else if bytes_eq line (codes "t1s 3") then Some V3
    else None

-- the version since which a word is one
abbrev pub since : Word → Version
since Stub = V2
since Also = V3
since _ = V1

-- whether a word is one of those of a version
abbrev pub has_word : Version → Word → Bool
has_word version word = nat_le (number_of_version (since word)) (number_of_version version)

-- the greatest number of a node, and the most ticks of a run
abbrev pub last_node_of : Version → ℕ
last_node_of V3 = last_node
last_node_of _ = early_last_node

abbrev pub most_ticks_of : Version → ℕ
most_ticks_of V3 = most_ticks
most_ticks_of _ = early_most_ticks
