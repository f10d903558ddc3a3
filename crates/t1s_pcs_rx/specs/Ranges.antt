-- The range of what a receiver keeps.
use Rattle.std.specs.Prelude.{ℕ, ◌-◌, Bool, true, IsTrue, nat_le, length}
use Rattle.t1s_grammar.specs.declared.place.Phase.{Phase}
use Rattle.t1s_grammar.specs.declared.place.Phase.TheVariants.{Within}
use Rattle.t1s_pcs_rx.specs.declared.reader.Burst.{Burst}
use Rattle.t1s_pcs_rx.specs.declared.reader.Burst.TheVariants.{Reading}
use Rattle.t1s_pcs_rx.specs.Receiver.{Receiver}

-- among the nibbles of a piece, those from the tenth on are heard
abbrev pub room_at : Phase → ℕ → Bool
room_at (Within closed lead nibbles) heard = nat_le heard (nibbles - 9)
room_at _ heard = true

abbrev pub room_in : Burst → ℕ → Bool
room_in (Reading last fresh place) heard = room_at place heard
room_in _ heard = true

pub record IsReceiver (r : Receiver) : Type 0 where
  pub heard : IsTrue (room_in r.burst (length r.nibbles))
