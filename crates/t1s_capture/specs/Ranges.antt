-- The ranges of the numbers that a decoder keeps.
use Rattle.std.specs.Prelude.{◌≡◌, ℕ, ◌+◌, ◌-◌, ◌*◌, ◌≤◌, ◌<◌, ◌^◌, length, Bool, true, false}
use Rattle.t1s_symbols.specs.declared.Symbol.{Symbol}
use Rattle.t1s_symbols.specs.declared.Symbol.TheVariants.{Nibble, J, K, T, R, H, N, S}
use Rattle.t1s_grammar.specs.declared.place.Phase.{Phase}
use Rattle.t1s_grammar.specs.PlaceTable.{nibbles_at}
use Rattle.t1s_capture.specs.declared.stage.CountSoFar.{CountSoFar}
use Rattle.t1s_capture.specs.declared.stage.CountSoFar.TheVariants.{Nothing, One, Two, Three}
use Rattle.t1s_capture.specs.declared.stage.BurstSoFar.{BurstSoFar}
use Rattle.t1s_capture.specs.declared.stage.Stage.{Stage}
use Rattle.t1s_capture.specs.declared.stage.Stage.TheVariants.{Magic, Version, Node, InGap, InBurst, InBlur, AfterTorn, Ended}
use Rattle.t1s_capture.specs.declared.progress.Progress.{Progress}

-- how many octets the item that is begun has so far
abbrev pub octets_counted : CountSoFar → ℕ
octets_counted Nothing = 0
octets_counted (One a) = 1
octets_counted (Two a b) = 2
octets_counted (Three a b c) = 3

abbrev pub octets_begun : Stage → ℕ
octets_begun (Magic n) = 0
octets_begun Version = 0
octets_begun Node = 0
octets_begun (InGap count) = 1 + octets_counted count
octets_begun (InBurst burst) = burst.symbols
octets_begun (InBlur blur) = blur.symbols + 1 + octets_counted blur.count
octets_begun AfterTorn = 0
octets_begun Ended = 0

-- how many nibbles are kept
abbrev pub nibbles_held : Stage → ℕ
nibbles_held (InBurst burst) = nibbles_at burst.place - 9
nibbles_held _ = 0

abbrev pub StageInRange : Stage → Type 0
StageInRange (Magic n) = n < 4
StageInRange (InBurst burst) = (burst.closed ≤ burst.symbols) × (nibbles_at burst.place ≤ burst.symbols)
StageInRange _ = Unit {0}

-- Each octet accounts for at most 2^30 ticks, so the ticks of a capture of at most 2^30 octets fit.
pub record Fits (p : Progress) (stage : Stage) : Type 0 where
  pub limit : p.taken ≤ 2 ^ 30
  pub ticks : p.counts.ticks + 2 ^ 30 * octets_begun stage ≤ 2 ^ 30 * p.taken
  pub beacons : p.counts.beacons ≤ p.taken
  pub runs : p.counts.runs ≤ p.taken
  pub bare : p.counts.bare ≤ p.taken
  pub torn : p.counts.torn ≤ p.taken
  pub pieces : p.counts.pieces ≤ p.taken
  pub good : p.counts.good ≤ p.taken
  pub heard : length p.reader.nibbles ≡ nibbles_held stage
  pub room : length p.reader.nibbles ≤ 3047
  pub numbers : StageInRange stage

-- how many nibbles the piece that is begun has after a symbol, where it had so many before
abbrev pub NibblesAfter : Symbol → ℕ → Phase → Type 0
NibblesAfter (Nibble n) before place = (before < 3056) × (nibbles_at place ≡ before + 1)
NibblesAfter R before place = nibbles_at place ≡ 0
NibblesAfter K before place = nibbles_at place ≡ 0
NibblesAfter S before place = nibbles_at place ≡ 0
NibblesAfter J before place = nibbles_at place ≡ before
NibblesAfter T before place = nibbles_at place ≡ before
NibblesAfter H before place = nibbles_at place ≡ before
NibblesAfter N before place = nibbles_at place ≡ before

-- whether a symbol ends a piece
abbrev pub closes : Symbol → Bool
closes (Nibble n) = false
closes R = true
closes K = true
closes S = true
closes J = false
closes T = false
closes H = false
closes N = false

-- the same ranges where one more symbol was judged, and its octet is not counted yet
pub record FitsSymbol (p : Progress) (s : Symbol) (groups : ℕ) (burst : BurstSoFar) : Type 0 where
  pub below : p.taken < 2 ^ 30
  pub ticks : p.counts.ticks + 2 ^ 30 * burst.symbols ≤ 2 ^ 30 * (p.taken + 1)
  pub beacons : p.counts.beacons ≤ p.taken
  pub runs : p.counts.runs ≤ p.taken
  pub bare : p.counts.bare ≤ p.taken
  pub torn : p.counts.torn ≤ p.taken
  pub pieces : p.counts.pieces ≤ p.taken
  pub good : p.counts.good ≤ p.taken
  pub heard : length p.reader.nibbles ≡ groups - 9
  pub room : length p.reader.nibbles ≤ 3047
  pub closed : burst.closed ≤ burst.symbols
  pub fewer : groups < burst.symbols
  pub nibbles : NibblesAfter s groups burst.place
