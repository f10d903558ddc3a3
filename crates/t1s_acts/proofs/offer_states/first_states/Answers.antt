use Rattle.std.proofs.Common.{◌≡◌, List, length, get_or, arith, refl, sym, ◌∙◌, ap}
use Rattle.std.proofs.lemmas.List.{with_items_is}
use Rattle.t1s_script.specs.Script.{offer_number}
use Rattle.t1s_line.specs.declared.offers.OfferState.{OfferState}
use Rattle.t1s_line.specs.declared.offers.OfferState.TheVariants.{Unknown}
use Rattle.t1s_acts.proofs.ActNumbers.{expected_more, none_known, some_below, take_none}
use Rattle.t1s_acts.proofs.offer_states.first_states.Goals as goal

pub loop-act-init : goal.loop-act-init
loop-act-init c =
    record {
      room = refl;
      states = λ k. rw (c.in_ok-resize.ensures.items, c.new-states.ensures.items, take_none) (none_known _ k);
    }

pub expect-requires : goal.expect-requires
expect-requires c =
    let act = c.act-item.result in
    let is = c.act-item.is in
    let within = rw (← is) at (c.last_number.ensures c.loop-act.act-index act (omega arith)) in
    some_below (offer_number act) c.last_number.result (length c.as_mut_slice.result.now)
    (omega (arith, c.as_mut_slice.ensures.len, c.in_ok-resize.ensures.len, c.from.ensures, c.loop-act.invariant.room)) within

pub loop-act-preserved : goal.loop-act-preserved
loop-act-preserved c =
    let act = c.act-item.result in
    let before = c.loop-act.invariant in
    let whole = with_items_is c.loop-act.states c.expect.new.states (omega arith) in
    let room : length c.expect.new.states ≡ length c.resize.new.self.items = omega arith in
    record {
      room = ap (λ (states : List OfferState). length states) whole ∙ room;
      states = λ k.
          ap (λ (states : List OfferState). get_or states k Unknown) whole
          ∙ ((rw (c.as_mut_slice.ensures.value, before.states k) at (c.expect.ensures k))
          ∙ sym (expected_more c.args.acts.now c.loop-act.act-index act k (omega arith) c.act-item.is));
    }
