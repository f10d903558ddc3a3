use Rattle.std.proofs.Common.{◌≡◌, ℕ, get_or, length, take}
use Rattle.t1s_line.specs.declared.offers.OfferState.TheVariants.{Unknown}
use Rattle.t1s_line.specs.Offers.{first_state}
use Rattle.t1s_acts.proofs.offer_states.first_states.Given as goal

abbrev pub invariant-loop-act : goal.invariant-loop-act
invariant-loop-act l =
    record {
      room : length l.states.items ≡ length l.initial.states.items;
      states : (number : ℕ) → get_or l.states.items number Unknown ≡ first_state (take l.act-index l.acts) number;
    }
