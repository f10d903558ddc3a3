-- A cable on which nothing is on its way: it needs no hearing, and what it keeps stays as it is.
use Rattle.std.specs.Prelude.{◌≡◌, ℕ, ◌+◌, ◌≤◌, Option, None}
use Rattle.t1s_symbols.specs.declared.Quarter.{Quarter}

-- each node has a count of ticks, the current one included, in which a quarter of it may still be on its way. A quarter is kept
-- for reach + 1 ticks, so the node put nothing in the newest ones, as many as these exceed its count by
abbrev pub IsQuiet : ℕ → (ℕ → ℕ) → (ℕ → ℕ → Option Quarter) → Type 0
IsQuiet reach busy at = (i d : ℕ) → d + busy i ≤ reach → at i d ≡ None
