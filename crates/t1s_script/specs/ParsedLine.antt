-- What one line of a script says, by itself: its word, and its numbers in their ranges.
use Rattle.std.specs.Prelude.{ℕ, ◌==◌, ◌&&◌, Bool, false, List, [], ◌∷◌, nat_le, nat_lt, codes, Option, Some, None, Result, Ok, Err, if◌then◌else◌}
use Rattle.std.specs.Str.{bytes_eq}
use Rattle.t1s_base.specs.Numbers.{number_of}
use Rattle.t1s_script.specs.Lines.{fields_of}
use Rattle.t1s_script.specs.Settings.{setting_range}
use Rattle.t1s_script.specs.Limits.{last_draw, last_further_id, longest_stub}
use Rattle.t1s_script.specs.Versions.{has_word, last_node_of, most_ticks_of}
use Rattle.t1s_script.specs.FrameTexts.{hex_frame, fill_frame}
use Rattle.t1s_script.specs.declared.refusals.ScriptReason.{ScriptReason}
use Rattle.t1s_script.specs.declared.refusals.ScriptReason.TheVariants.{UnknownWord, Form, Number, OutOfRange}
use Rattle.t1s_script.specs.declared.versions.Version.{Version}
use Rattle.t1s_script.specs.declared.words.Range.{Range}
use Rattle.t1s_script.specs.declared.words.Setting.TheVariants.{Count, To, Rise, Fall, Burst, Room}
use Rattle.t1s_script.specs.declared.words.Word.{Word}
use Rattle.t1s_script.specs.declared.words.Word.TheVariants.{Set as SetWord, Seed as SeedWord, Node as NodeWord, Also as AlsoWord, Stub as StubWord, Late as LateWord, ToNode as ToNodeWord, Draw as DrawWord, Offer as OfferWord, Fill as FillWord, Noise as NoiseWord, End as EndWord}
use Rattle.t1s_script.specs.declared.words.ScriptLine.{ScriptLine}
use Rattle.t1s_script.specs.declared.words.ScriptLine.TheVariants.{Skipped, Set, Seed, Node, Also, Stub, Late, ToNode, Draw, Offer, Noise, End}

-- what a line says, or the first reason of the table for which it is refused by itself
abbrev pub ParsedLine : Type 0
ParsedLine = Result ScriptLine ScriptReason

-- the word that a field is, of whatever version
abbrev pub word_of : List ℕ → Option Word
word_of field =
    if bytes_eq field (codes "count") then Some (SetWord Count)
    else if bytes_eq field (codes "to") then Some (SetWord To)
    else if bytes_eq field (codes "rise") then Some (SetWord Rise)
    else if bytes_eq field (codes "fall") then Some (SetWord Fall)
    else if bytes_eq field (codes "burst") then Some (SetWord Burst)
    else if bytes_eq field (codes "room") then Some (SetWord Room)
    else if bytes_eq field (codes "seed") then Some SeedWord
    else if bytes_eq field (codes "node") then Some NodeWord
    else if bytes_eq field (codes "also") then Some AlsoWord
    else if bytes_eq field (codes "stub") then Some StubWord
    else if bytes_eq field (codes "late") then Some LateWord
    else if bytes_eq field (codes "tonode") then Some ToNodeWord
    else if bytes_eq field (codes "draw") then Some DrawWord
    else if bytes_eq field (codes "offer") then Some OfferWord
    else if bytes_eq field (codes "fill") then Some FillWord
    else if bytes_eq field (codes "noise") then Some NoiseWord
    else if bytes_eq field (codes "end") then Some EndWord
    else None

-- a word, where it is one of those of that version
abbrev pub word_known : Version → Option Word → Option Word
word_known version (Some word) = if has_word version word then Some word else None
word_known version None = None

-- the word of that version that a field is
abbrev pub word_in : Version → List ℕ → Option Word
word_in version field = word_known version (word_of field)

-- ---- the fields of a line: as many as the word takes, then each number is one, and then each lies in its range

-- the numbers up to one
abbrev pub up_to : ℕ → Range
up_to greatest = record { least = 0; greatest = greatest }

abbrev pub is_within : Range → ℕ → Bool
is_within range n = nat_le range.least n && nat_le n range.greatest

-- two numbers in their ranges
abbrev pub two_within : Range → Range → Option ℕ → Option ℕ → Result (ℕ × ℕ) ScriptReason
two_within first second (Some a) (Some b) = if is_within first a && is_within second b then Ok (a, b) else Err OutOfRange
two_within first second _ _ = Err Number

-- three numbers in their ranges
abbrev pub three_within : Range → Range → Range → Option ℕ → Option ℕ → Option ℕ → Result (ℕ × ℕ × ℕ) ScriptReason
three_within first second third (Some a) (Some b) (Some c) =
    if is_within first a && is_within second b && is_within third c then Ok (a, b, c) else Err OutOfRange
three_within first second third _ _ _ = Err Number

-- one number and no further field
abbrev pub one_within : Range → Option ℕ → Result ℕ ScriptReason
one_within range (Some a) = if is_within range a then Ok a else Err OutOfRange
one_within range None = Err Number

abbrev pub one_number : Range → List (List ℕ) → Result ℕ ScriptReason
one_number range (a ∷ []) = one_within range (number_of a)
one_number range _ = Err Form

-- two numbers and no further field
abbrev pub two_numbers : Range → Range → List (List ℕ) → Result (ℕ × ℕ) ScriptReason
two_numbers first second (a ∷ b ∷ []) = two_within first second (number_of a) (number_of b)
two_numbers first second _ = Err Form

-- three numbers and no further field
abbrev pub three_numbers : Range → Range → Range → List (List ℕ) → Result (ℕ × ℕ × ℕ) ScriptReason
three_numbers first second third (a ∷ b ∷ c ∷ []) = three_within first second third (number_of a) (number_of b) (number_of c)
three_numbers first second third _ = Err Form

-- ---- what a line says with its numbers

abbrev pub says : {X : Type 0} → (X → ScriptLine) → Result X ScriptReason → ParsedLine
says line (Ok numbers) = Ok (line numbers)
says line (Err reason) = Err reason

-- a frame that is offered: what is wrong with the frame comes after what is wrong with a number
abbrev pub offers : Result (ℕ × ℕ) ScriptReason → Result (List ℕ) ScriptReason → ParsedLine
offers (Ok target) frame = says (λ octets. Offer target.0 target.1 octets) frame
offers (Err reason) frame = Err reason

-- the tick, the node and the octets
abbrev pub offer_in : Version → List (List ℕ) → ParsedLine
offer_in version (tick ∷ number ∷ octets ∷ []) = offers (two_within (up_to (most_ticks_of version)) (up_to (last_node_of version)) (number_of tick) (number_of number)) (hex_frame octets)
offer_in version _ = Err Form

-- The tick, the node, how many octets and the octet. How many has no range of its own but that of all numbers: other
-- sizes than those of a frame are `FrameSize`.
abbrev pub fills : Result (ℕ × ℕ × ℕ) ScriptReason → List ℕ → ParsedLine
fills (Ok numbers) octet = offers (Ok (numbers.0, numbers.1)) (fill_frame numbers.2 octet)
fills (Err reason) octet = Err reason

abbrev pub fill_in : Version → List (List ℕ) → ParsedLine
fill_in version (tick ∷ number ∷ count ∷ octet ∷ []) =
    fills (three_within (up_to (most_ticks_of version)) (up_to (last_node_of version)) (up_to 9999999999) (number_of tick) (number_of number) (number_of count)) octet
fill_in version _ = Err Form

-- the tick at which a noise begins and the tick at which it has ended, which is above it
abbrev pub lasts : Result (ℕ × ℕ) ScriptReason → ParsedLine
lasts (Ok ticks) = if nat_lt ticks.0 ticks.1 then Ok (Noise ticks.0 ticks.1) else Err OutOfRange
lasts (Err reason) = Err reason

abbrev pub noise_in : Version → List (List ℕ) → ParsedLine
noise_in version fields = lasts (two_numbers (up_to (most_ticks_of version)) (up_to (most_ticks_of version)) fields)

-- what the fields after the word say, a row for each word; how many nodes and ticks there are is the version's
abbrev pub line_by_word : Version → Option Word → List (List ℕ) → ParsedLine
line_by_word version (Some (SetWord w)) fields = says (λ n. Set w n) (one_number (setting_range w) fields)
line_by_word version (Some SeedWord) fields = says (λ n. Seed n) (one_number (up_to 4294967295) fields)
line_by_word version (Some NodeWord) fields = says (λ n. Node n.0 n.1 n.2) (three_numbers (up_to (last_node_of version)) (up_to 255) (up_to 255) fields)
line_by_word version (Some AlsoWord) fields = says (λ n. Also n.0 n.1) (two_numbers (up_to (last_node_of version)) (up_to last_further_id) fields)
line_by_word version (Some StubWord) fields = says (λ n. Stub n.0 n.1) (two_numbers (up_to (last_node_of version)) (up_to longest_stub) fields)
line_by_word version (Some LateWord) fields = says (λ n. Late n.0 n.1) (two_numbers (up_to (last_node_of version)) (up_to (most_ticks_of version)) fields)
line_by_word version (Some ToNodeWord) fields = says (λ n. ToNode n.0 n.1) (two_numbers (up_to (last_node_of version)) (setting_range To) fields)
line_by_word version (Some DrawWord) fields = says (λ n. Draw n.0 n.1) (two_numbers (up_to (last_node_of version)) (up_to last_draw) fields)
line_by_word version (Some OfferWord) fields = offer_in version fields
line_by_word version (Some FillWord) fields = fill_in version fields
line_by_word version (Some NoiseWord) fields = noise_in version fields
line_by_word version (Some EndWord) fields = says (λ n. End n) (one_number (record { least = 1; greatest = most_ticks_of version }) fields)
line_by_word version None fields = Err UnknownWord

-- ---- whole lines

abbrev pub line_in : Version → List (List ℕ) → ParsedLine
line_in version [] = Err UnknownWord
line_in version (first ∷ fields) = line_by_word version (word_in version first) fields

-- a line that begins with `#` is skipped
abbrev pub is_skipped : List ℕ → Bool
is_skipped [] = false
is_skipped (octet ∷ rest) = octet == 35

-- what a line after the first says, in a script of that version
abbrev pub parsed_line : Version → List ℕ → ParsedLine
parsed_line version line = if is_skipped line then Ok Skipped else line_in version (fields_of line)
