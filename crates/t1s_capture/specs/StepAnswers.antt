-- What a step of a decoder leads to, with the progress that it leaves.
use Rattle.std.specs.Prelude.{◌≡◌, ◌≤◌, ℕ, suc, ◌+◌, Bool, true, false, List, length, get_or, drop, Result, Ok, Err}
use Rattle.t1s_pcs_rx.specs.PieceReading.{without_nibbles}
use Rattle.t1s_capture.specs.declared.items.Why.{Why}
use Rattle.t1s_capture.specs.declared.stage.BurstSoFar.{BurstSoFar}
use Rattle.t1s_capture.specs.declared.stage.CountSoFar.TheVariants.{Nothing}
use Rattle.t1s_capture.specs.declared.stage.Stage.{Stage}
use Rattle.t1s_capture.specs.declared.stage.Stage.TheVariants.{InBurst, InGap}
use Rattle.t1s_capture.specs.declared.progress.Progress.{Progress}
use Rattle.t1s_capture.specs.declared.progress.Step.{Step}
use Rattle.t1s_capture.specs.declared.progress.Step.TheVariants.{Goes, Yields, Refuses}
use Rattle.t1s_capture.specs.declared.decoder.Next.{Next}
use Rattle.t1s_capture.specs.declared.decoder.Next.TheVariants.{More, Held}
use Rattle.t1s_capture.specs.HeldItems.{held_item}
use Rattle.t1s_capture.specs.DecodedItems.{BeaconItem}
use Rattle.t1s_capture.specs.State.{DecoderState}
use Rattle.t1s_capture.specs.DecoderTable.{fed, feed_on, goes, yields, refuses, with_beacon, with_ticks}
use Rattle.t1s_capture.specs.Ranges.{Fits}

-- what a symbol that ends no piece leads to
abbrev pub passed_next : Result BurstSoFar Why → Progress → Next
passed_next (Ok burst) p = goes p (InBurst burst)
passed_next (Err why) p = refuses p why

-- the octet of the step is not counted yet in the progress
abbrev pub step_next : Step → Progress → Next
step_next (Goes stage) p = goes p stage
step_next (Yields item stage) p = yields (held_item item p.reader.nibbles) p p.counts stage
step_next (Refuses why) p = refuses p why

-- the progress once the octet is counted, and once an item that is held is let go
abbrev pub counted : Progress → Progress
counted p = record { taken = p.taken + 1; counts = p.counts; reader = p.reader }

abbrev pub let_go : Progress → Progress
let_go p = record { taken = p.taken; counts = p.counts; reader = without_nibbles p.reader }

-- the progress once the nibbles of an item that was handed out are let go, if there was one
abbrev pub settled : Bool → Progress → Progress
settled true p = let_go p
settled false p = p

-- what a step leaves fits the stage that it leads to
abbrev pub StepFits : Step → Progress → Type 0
StepFits (Goes stage) p = Fits (counted p) stage
StepFits (Yields item stage) p = Fits (let_go (counted p)) stage
StepFits (Refuses why) p = Unit {0}

-- ---- many octets

-- a decoder by its progress and its stage
abbrev pub decoder_at : Progress → Stage → DecoderState
decoder_at p stage = record { taken = p.taken; counts = p.counts; reader = p.reader; stage = stage }

-- what is fed after so many octets
abbrev pub after_octets : ℕ → ℕ × Next → ℕ × Next
after_octets n x = (n + x.0, x.1)

-- the octets before this place hand out nothing and are not refused, and the one there leads to this
abbrev pub IsSteppedTo : DecoderState → List ℕ → ℕ → Next → Type 0
IsSteppedTo d octets place next = fed d octets ≡ after_octets place (feed_on next (λ e. fed e (drop (suc place) octets)))

-- Behind the count of a gap stand a beacon and the first octet of the next gap.
pub record IsBeacon (octets : List ℕ) : Type 0 where
  pub long : 10 ≤ length octets
  pub first : get_or octets 4 0 ≡ 8
  pub second : get_or octets 5 0 ≡ 8
  pub third : get_or octets 6 0 ≡ 8
  pub fourth : get_or octets 7 0 ≡ 8
  pub fifth : get_or octets 8 0 ≡ 8
  pub gap : get_or octets 9 0 ≡ 0x20

-- what these octets lead to where the gap is so many ticks, with all but the last of them counted
abbrev pub beacon_ends : Progress → ℕ → Next
beacon_ends p n =
    yields (BeaconItem (p.counts.ticks + n)) (record { taken = p.taken + 9; counts = p.counts; reader = p.reader })
    (with_beacon (with_ticks (with_ticks p.counts n) 20)) (InGap Nothing)

-- what the last octet of many leads to. It is counted in the progress where it isn't refused
abbrev pub last_next : Step → Progress → Next
last_next (Goes stage) p = More (decoder_at p stage)
last_next (Yields item stage) p = Held (record { item = held_item item p.reader.nibbles; decoder = decoder_at (let_go p) stage })
last_next (Refuses why) p = refuses p why

abbrev pub LastFits : Step → Progress → Type 0
LastFits (Goes stage) p = Fits p stage
LastFits (Yields item stage) p = Fits (let_go p) stage
LastFits (Refuses why) p = Unit {0}
