-- What a receiver completes over ticks, whatever is heard in them, and whether the node drives in them or not.
use Rattle.std.specs.Prelude.{ℕ, suc, List, [], ◌∷◌, ◌++◌, Option, Some, None}
use Rattle.t1s_pcs_rx.specs.Receiver.{Receiver, receive_start}
use Rattle.t1s_pcs_rx.specs.ReceiveTable.{receive_step, receive_event}
use Rattle.t1s_pcs_rx.specs.Views.{View}
use Rattle.t1s_capture.specs.Cut.{Tick}

-- a piece that is completed in a tick, and what is told of it
pub record Reception : Type 0 where
  pub tick : ℕ
  pub view : View

-- the event of a tick
abbrev pub in_tick : ℕ → Option View → List Reception
in_tick t None = []
in_tick t (Some view) = record { tick = t; view = view } ∷ []

-- what a receiver completes in ticks of which the first is tick t
abbrev pub receptions_from : ℕ → Receiver → List Tick → List Reception
receptions_from t r [] = []
receptions_from t r (x ∷ xs) = in_tick t (receive_event r x.0 x.1) ++ receptions_from (suc t) (receive_step r x.0 x.1) xs

-- and the receiver after them
abbrev pub receiver_after : Receiver → List Tick → Receiver
receiver_after r [] = r
receiver_after r (x ∷ xs) = receiver_after (receive_step r x.0 x.1) xs

-- what a receiver completes in all ticks from tick 0 on, which find it as it is at first
abbrev pub receptions : List Tick → List Reception
receptions ticks = receptions_from 0 receive_start ticks
