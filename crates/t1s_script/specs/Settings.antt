-- The numbers that hold for a whole script: their ranges and defaults.
use Rattle.std.specs.Prelude.{ℕ}
use Rattle.t1s_script.specs.declared.words.Range.{Range}
use Rattle.t1s_script.specs.declared.words.Setting.{Setting}
use Rattle.t1s_script.specs.declared.words.Setting.TheVariants.{Count, To, Rise, Fall, Burst, Room}

-- the least number that a setting takes
abbrev pub lowest : Setting → ℕ
lowest Count = 1
lowest To = 16
lowest Rise = 1
lowest Fall = 1
lowest Burst = 0
lowest Room = 1

-- the greatest number that it takes
abbrev pub highest : Setting → ℕ
highest Count = 254
highest To = 255
highest Rise = 16
highest Fall = 16
highest Burst = 255
highest Room = 64

-- the numbers that it takes
abbrev pub setting_range : Setting → Range
setting_range w = record { least = lowest w; greatest = highest w }

-- the number that it has where no line gives one
abbrev pub default_of : Setting → ℕ
default_of Count = 8
default_of To = 32
default_of Rise = 4
default_of Fall = 4
default_of Burst = 0
default_of Room = 8
