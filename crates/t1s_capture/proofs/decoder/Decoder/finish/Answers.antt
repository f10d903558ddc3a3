-- The end of the octets: the counts where they are a capture, and else that they are cut short.
use Rattle.std.proofs.Common.{subst, sym}
use Rattle.t1s_capture.specs.State.{DecoderState}
use Rattle.t1s_capture.specs.Stands.{Stands}
use Rattle.t1s_capture.proofs.Steps.{Answer, EndIs, end_is}
use Rattle.t1s_capture.proofs.decoder.Decoder.finish.Goals as goal

pub returns-clause-ok : goal.returns-clause-ok
returns-clause-ok c octets counts stands =
    let here = c.self.inside.reader.decoder in
    let stands_here : Stands octets here = subst (λ (d : DecoderState). Stands octets d) (sym c.self.view_is) stands in
    (subst (λ (x : Answer). EndIs octets x) (sym c.ended.ensures) (end_is octets here stands_here)).ok counts

pub returns-clause-truncated : goal.returns-clause-truncated
returns-clause-truncated c octets r stands =
    let here = c.self.inside.reader.decoder in
    let stands_here : Stands octets here = subst (λ (d : DecoderState). Stands octets d) (sym c.self.view_is) stands in
    (subst (λ (x : Answer). EndIs octets x) (sym c.ended.ensures) (end_is octets here stands_here)).truncated r
