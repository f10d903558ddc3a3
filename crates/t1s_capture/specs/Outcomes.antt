-- What the octets of a piece lead to where they are read in place.
use Rattle.std.specs.Prelude.{ℕ, List}
use Rattle.t1s_capture.specs.declared.capture_reader.Outcome.{Outcome}
use Rattle.t1s_capture.specs.declared.capture_reader.Outcome.TheVariants.{More as ReadMore, Held as ReadHeld, Refused as ReadRefused}
use Rattle.t1s_capture.specs.declared.decoder.Next.{Next}
use Rattle.t1s_capture.specs.declared.decoder.Next.TheVariants.{More, Held, Refused}
use Rattle.t1s_capture.specs.HeldItems.{held_item}
use Rattle.t1s_capture.specs.State.{DecoderState, ReaderState}
use Rattle.t1s_capture.specs.PrefixParts.{in_magic}
use Rattle.t1s_capture.specs.Stands.{state_of}
use Rattle.t1s_capture.specs.DecoderTable.{fed}

-- what was read leads to this, where it leaves this reader
abbrev pub outcome_next : Outcome → ReaderState → Next
outcome_next ReadMore r = More r.decoder
outcome_next (ReadHeld item) r = Held (record { item = held_item item r.nibbles; decoder = r.decoder })
outcome_next (ReadRefused refusal) r = Refused refusal

-- the decoder that an answer leaves: after a refusal it is as a new one
abbrev pub left_by : Next → DecoderState
left_by (More decoder) = decoder
left_by (Held held) = held.decoder
left_by (Refused refusal) = state_of 0 (in_magic 0)

-- the decoder that these octets leave
abbrev pub decoder_left : DecoderState → List ℕ → DecoderState
decoder_left d octets = left_by (fed d octets).1
