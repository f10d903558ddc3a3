-- A quarter that completes a symbol.
use Rattle.std.proofs.Common.{◌≡◌, refl, Bool, true, ◌∙◌}
use Rattle.std.specs.Prelude.{Result, Ok, Err, Option}
use Rattle.t1s_symbols.specs.declared.Quarter.{Quarter}
use Rattle.t1s_symbols.specs.declared.Class.{Class}
use Rattle.t1s_symbols.specs.Quarters.{continues_last}
use Rattle.t1s_grammar.specs.declared.place.Phase.{Phase}
use Rattle.t1s_grammar.specs.declared.place.PlaceFault.{PlaceFault}
use Rattle.t1s_grammar.specs.PlaceTable.{place_step}
use Rattle.t1s_pcs_rx.specs.declared.reader.Burst.{Burst}
use Rattle.t1s_pcs_rx.specs.declared.reader.Burst.TheVariants.{Reading, Ended}
use Rattle.t1s_pcs_rx.specs.Receiver.{Receiver}
use Rattle.t1s_pcs_rx.specs.ReceiveTable.{class_after, after_judgement, quarter_from}

-- what is judged counts on the history and the kept nibbles alone
after_judgement-same : (r : Receiver) (q : Quarter) (class here : Class) (there : Burst) (place : Phase) (j : Result Phase PlaceFault)
    → after_judgement (record r { class = here; burst = there }) q class place j ≡ after_judgement r q class place j
after_judgement-same r q class here there place (Ok next) = refl
after_judgement-same r q class here there place (Err fault) = refl

pub quarter-complete : (r new : Receiver) (q : Quarter) (own : Bool) (last : Option Quarter) (fresh : Bool) (place : Phase)
    (b : Burst) (class : Class) → b ≡ Reading last fresh place → continues_last last q ≡ true → q.part ≡ 3
    → class ≡ class_after r.class fresh q.sym
    → new ≡ after_judgement (record r { class = class; burst = Ended }) q class place (place_step place q.sym)
    → new ≡ quarter_from r q own b
quarter-complete r new q own last fresh place b class e goes whole sets is =
    is
    ∙ after_judgement-same r q class class Ended place (place_step place q.sym)
    ∙ rw (e, goes, whole, sets) refl
