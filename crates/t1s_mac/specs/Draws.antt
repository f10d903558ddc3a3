-- The numbers that backoffs wait (IEEE 802.3 clause 4.2.3.2.5).
use Rattle.std.specs.Prelude.{ℕ, ◌%◌, ◌^◌, min, List, drop, slice_index}
use Rattle.rand_pcg.specs.Lcg.{Lcg}
use Rattle.rand_pcg.specs.Pcg.{pcg32}

-- how many numbers an attempt draws from: 2 to the power of the attempt, and of 10 at most
abbrev pub draw_bound : ℕ → ℕ
draw_bound attempt = 2 ^ min attempt 10

-- of a generator: the low bits of its next word
abbrev pub seed_answer : Lcg → ℕ → ℕ
seed_answer generator attempt = (pcg32 generator).0 % draw_bound attempt

-- and the generator after that word
abbrev pub seed_after : Lcg → Lcg
seed_after generator = (pcg32 generator).1

-- of the numbers that are left in a list: the low bits of the first, and 0 where none is left
abbrev pub list_answer : List ℕ → ℕ → ℕ
list_answer numbers attempt = slice_index numbers 0 % draw_bound attempt

-- and the numbers after the first
abbrev pub list_after : List ℕ → List ℕ
list_after numbers = drop 1 numbers
