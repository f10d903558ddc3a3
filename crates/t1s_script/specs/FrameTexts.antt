-- The frames that lines of a script offer, as texts.
use Rattle.std.specs.Prelude.{ℕ, ◌&&◌, List, [], ◌∷◌, length, replicate, nat_le, Option, Some, None, Result, Ok, Err, if◌then◌else◌}
use Rattle.hex.specs.Hex.{decode_of}
use Rattle.hex.specs.declared.error.FromHexError.{FromHexError}
use Rattle.t1s_frame.specs.Frame.{frame_of}
use Rattle.t1s_script.specs.Limits.{shortest_offer, longest_offer}
use Rattle.t1s_script.specs.declared.refusals.ScriptReason.{ScriptReason}
use Rattle.t1s_script.specs.declared.refusals.ScriptReason.TheVariants.{Hex, FrameSize}

-- the frame of these octets and their frame check sequence, where they are as many as a frame may have without it
abbrev pub frame_within : List ℕ → Result (List ℕ) ScriptReason
frame_within octets =
    if nat_le shortest_offer (length octets) && nat_le (length octets) longest_offer then Ok (frame_of octets) else Err FrameSize

-- the frame of what a text of hex digits decodes to
abbrev pub frame_decoded : Result (List ℕ) FromHexError → Result (List ℕ) ScriptReason
frame_decoded (Ok octets) = frame_within octets
frame_decoded (Err error) = Err Hex

-- a text of hex digits, of either case and two for each octet; no digits at all are no octets
abbrev pub hex_frame : List ℕ → Result (List ℕ) ScriptReason
hex_frame text = frame_decoded (decode_of text)

-- the octet of two hex digits
abbrev pub sole_octet : Result (List ℕ) FromHexError → Option ℕ
sole_octet (Ok (octet ∷ [])) = Some octet
sole_octet _ = None

-- an octet that stands `count` times
abbrev pub frame_filled : ℕ → Option ℕ → Result (List ℕ) ScriptReason
frame_filled count (Some octet) = frame_within (replicate count octet)
frame_filled count None = Err Hex

abbrev pub fill_frame : ℕ → List ℕ → Result (List ℕ) ScriptReason
fill_frame count text = frame_filled count (sole_octet (decode_of text))
