-- How the quarters of symbols follow one another.
use Rattle.std.specs.Prelude.{◌+◌, Bool, ◌&&◌, ◌||◌, ◌==◌, Option, None, Some, if◌then◌else◌}
use Rattle.t1s_symbols.specs.declared.Quarter.{Quarter}
use Rattle.t1s_symbols.specs.declared.QuarterReading.{QuarterReading}
use Rattle.t1s_symbols.specs.declared.QuarterReading.TheVariants.{Broken, Partial, Complete}
use Rattle.t1s_symbols.specs.Symbols.{same_symbol}

-- a quarter continues the one before where it is the next part of the same symbol, or part 0 of any symbol after
-- a part 3
abbrev pub continues : Quarter → Quarter → Bool
continues p q = ((q.part == (p.part + 1)) && same_symbol p.sym q.sym) || ((p.part == 3) && (q.part == 0))

-- the first quarter of a burst has to be a part 0, and each later one continues the one before
abbrev pub continues_last : Option Quarter → Quarter → Bool
continues_last None q = q.part == 0
continues_last (Some p) q = continues p q

-- what a quarter is in the reading of a burst, by the last quarter before it: a quarter of part 3 completes its symbol
abbrev pub quarter_reading : Option Quarter → Quarter → QuarterReading
quarter_reading last q = if continues_last last q then (if q.part == 3 then Complete else Partial) else Broken
