-- What a decoder answers that stays in its place, and what it is once the item that it lent is gone.
use mathlib.Core.Option.{none}
use Rattle.std.specs.Prelude.{◌≡◌, ◌≤◌, ℕ, List, length, ⊤}
use Rattle.std.specs.Borrow.{MutBor, Fml, follows_so}
use Rattle.t1s_capture.specs.declared.decoder.Next.{Next}
use Rattle.t1s_capture.specs.declared.decoder.Next.TheVariants.{More, Held, Refused}
use Rattle.t1s_capture.specs.declared.decoder.Advance.{Advance}
use Rattle.t1s_capture.specs.declared.decoder.Advance.TheVariants.{More as AdvancedMore, Held as AdvancedHeld, Refused as AdvancedRefused}
use Rattle.t1s_capture.specs.contracts.decoder.Decoder.{the_row}
use Rattle.t1s_capture.specs.DecodedItems.{frame_of_item}
use Rattle.t1s_capture.specs.HeldItems.{decoded_item}
use Rattle.t1s_capture.specs.State.{DecoderState}
use Rattle.t1s_capture.specs.Outcomes.{decoder_left}

-- what a decoder that goes by value would have answered, where this one is left
abbrev pub advance_next : Advance → DecoderState → Next
advance_next AdvancedMore decoder = More decoder
advance_next (AdvancedHeld item) decoder = Held (record { item = decoded_item item; decoder = decoder })
advance_next (AdvancedRefused refusal) decoder = Refused refusal

-- the frame that is lent is none of more than 1522 octets
abbrev pub AdvanceFits : Advance → Type 0
AdvanceFits AdvancedMore = ⊤
AdvanceFits (AdvancedHeld item) = length (frame_of_item (decoded_item item)) ≤ 1522
AdvanceFits (AdvancedRefused refusal) = ⊤

abbrev pub LeavesDecoder : MutBor DecoderState → List ℕ → Fml
LeavesDecoder d piece = follows_so the_row the_row d.ghost_name none (λ _ _. ⊤) (λ left. left ≡ decoder_left d.now piece)
