-- What the definitions say together.
use Rattle.std.specs.Prelude.{◌≡◌, ◌↔◌, ℕ, ◌<◌, ◌≤◌, List, ◌∷◌, length, All}
use Rattle.t1s_frame.specs.Arrivals.{arrival_of}
use Rattle.t1s_frame.specs.Frame.{IsFrame, nibbles_of}
use Rattle.t1s_frame.specs.declared.arrivals.Arrival.TheVariants.{Good}

-- Of nibbles, as many as a piece can have from the tenth on: they are Good exactly where they are 5, 5, D
-- and the nibbles of a frame, which has 64 to 1522 octets and ends with the check sequence of those before.
abbrev pub GoodExactlyForFrames : Type 0
GoodExactlyForFrames =
    (nibbles : List ℕ) → All (λ n. n < 16) nibbles → length nibbles ≤ 3047
    → (arrival_of nibbles ≡ Good)
    ↔ ((octets : List ℕ) × IsFrame octets × (nibbles ≡ 5 ∷ 5 ∷ 13 ∷ nibbles_of octets))
