-- A receiver as plain data.
use Rattle.std.specs.Prelude.{ℕ, Bool, true, false, List, []}
use Rattle.t1s_symbols.specs.declared.Class.{Class}
use Rattle.t1s_symbols.specs.declared.Class.TheVariants.{None as Unread}
use Rattle.t1s_scramble.specs.Scrambled.{start_history}
use Rattle.t1s_pcs_rx.specs.declared.reader.Burst.{Burst}
use Rattle.t1s_pcs_rx.specs.declared.reader.Burst.TheVariants.{Outside, Reading, Ended}

-- the class, where it is in a burst and in the grammar, the history of its descrambler, and the nibbles of the
-- piece from the tenth on
pub record Receiver : Type 0 where
  pub class : Class
  pub burst : Burst
  pub history : List Bool
  pub nibbles : List ℕ

abbrev pub receive_start : Receiver
receive_start = record { class = Unread; burst = Outside; history = start_history; nibbles = [] }

-- it is inside a burst, which is read or whose reading has ended
abbrev pub is_inside : Burst → Bool
is_inside Outside = false
is_inside (Reading last fresh place) = true
is_inside Ended = true
