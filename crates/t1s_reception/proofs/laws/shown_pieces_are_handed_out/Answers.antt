use Rattle.t1s_reception.proofs.HandedOut.{each_handed_out, views_counted}
use Rattle.t1s_reception.proofs.OnlyShown.{only_shown}
use Rattle.t1s_reception.proofs.laws.shown_pieces_are_handed_out.Goals as goal

pub returns : goal.returns
returns c octets node items capture short = record {
  each = each_handed_out octets node items capture short;
  only = λ p h. only_shown octets node items capture h.0 h.1 h.2 p h.3 h.4;
  counted = views_counted items;
}
