-- The octets that a source has left and that were written to a sink. None stands where the object does
-- not tell them; then it tells them neither before nor after.
use Rattle.std.specs.Prelude.{ℕ, ◌≡◌, List, take, Option}
use Rattle.std.specs.Io.KnownBytes.{prepend_known, append_known}

-- A source has given these octets: what was left is these octets, and then what is left now.
abbrev pub Gives : Option (List ℕ) → Option (List ℕ) → List ℕ → Type 0
Gives before after octets = before ≡ prepend_known octets after

-- A sink has grown by these octets: what is written now is what was written, and then these octets.
abbrev pub Grows : Option (List ℕ) → Option (List ℕ) → List ℕ → Type 0
Grows before after octets = after ≡ append_known before octets

-- A sink has grown by a prefix of these octets: by none, some or all of them, from the first on.
abbrev pub GrowsByPrefix : Option (List ℕ) → Option (List ℕ) → List ℕ → Type 0
GrowsByPrefix before after octets = (count : ℕ) × Grows before after (take count octets)
