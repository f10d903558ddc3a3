-- What is read leads to what is answered, and the decoder that is left is the one that the octets leave.
use Rattle.std.proofs.Common.{◌<◌, refl, sym, ap, ◌∙◌}
use Rattle.std.proofs.lemmas.List.Elements.{All-from_get_or}
use Rattle.t1s_capture.specs.declared.capture_reader.Outcome.{Outcome}
use Rattle.t1s_capture.specs.declared.decoder.Next.TheVariants.{Held}
use Rattle.t1s_capture.specs.DecodedItems.{DecodedItem}
use Rattle.t1s_capture.specs.State.{ReaderState}
use Rattle.t1s_capture.specs.Outcomes.{outcome_next, decoder_left}
use Rattle.t1s_capture.proofs.Advancing.{advanced, left_is}
use Rattle.t1s_capture.proofs.decoder.Decoder.advance.Goals as goal

pub returns-in-More : goal.returns-in-More
returns-in-More c =
    let d = c.args.self.now in
    let piece = c.args.piece.now in
    let r = c.run-count.new.self in
    let left : ReaderState = record { decoder = decoder_left d piece; nibbles = r.nibbles } in
    let h =
    advanced d c.self.inside.reader.decoder c.self.view_is r piece c.run-count.ensures.left c.run-count.result.1 c.run-count.result.0 _ c.requires
    (All-from_get_or (λ o. o < 256) piece 0 (λ i lt. (c.type_inv.piece i).fits)) c.run-count.ensures.next
    (ap (λ (o : Outcome). outcome_next o left) c.in-More.is) in (
      (refl, λ _. tt, left_is d c.self.inside.reader.decoder c.self.view_is r piece c.run-count.ensures.left),
      record { after = tt; some = h.some; within = h.within; fed = h.fed_to; fits = tt },
    )

pub returns-in-Held : goal.returns-in-Held
returns-in-Held c =
    let d = c.args.self.now in
    let piece = c.args.piece.now in
    let r = c.run-count.new.self in
    let left : ReaderState = record { decoder = decoder_left d piece; nibbles = r.nibbles } in
    let h =
    advanced d c.self.inside.reader.decoder c.self.view_is r piece c.run-count.ensures.left c.run-count.result.1 c.run-count.result.0 _ c.requires
    (All-from_get_or (λ o. o < 256) piece 0 (λ i lt. (c.type_inv.piece i).fits)) c.run-count.ensures.next
    (ap (λ (o : Outcome). outcome_next o left) c.in-Held.is
    ∙ ap (λ (i : DecodedItem). Held (record { item = i; decoder = decoder_left d piece })) (sym c.item.ensures.item)) in (
      (refl, λ _. tt, left_is d c.self.inside.reader.decoder c.self.view_is r piece c.run-count.ensures.left),
      record { after = tt; some = h.some; within = h.within; fed = h.fed_to; fits = c.item.ensures.fits },
    )

pub returns-in-Refused : goal.returns-in-Refused
returns-in-Refused c =
    let d = c.args.self.now in
    let piece = c.args.piece.now in
    let r = c.run-count.new.self in
    let left : ReaderState = record { decoder = decoder_left d piece; nibbles = r.nibbles } in
    let h =
    advanced d c.self.inside.reader.decoder c.self.view_is r piece c.run-count.ensures.left c.run-count.result.1 c.run-count.result.0 _ c.requires
    (All-from_get_or (λ o. o < 256) piece 0 (λ i lt. (c.type_inv.piece i).fits)) c.run-count.ensures.next
    (ap (λ (o : Outcome). outcome_next o left) c.in-Refused.is) in (
      (refl, λ _. tt, left_is d c.self.inside.reader.decoder c.self.view_is r piece c.run-count.ensures.left),
      record { after = tt; some = h.some; within = h.within; fed = h.fed_to; fits = tt },
    )
