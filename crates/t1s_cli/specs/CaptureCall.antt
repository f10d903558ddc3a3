-- What a call that decodes a capture has done.
use Rattle.std.specs.Prelude.{◌≡◌, ◌≢◌, ℕ, ◌^◌, ◌≤◌, Bool, List, [], ◌++◌, length, Option, IfSome}
use Rattle.t1s_base.specs.Octets.{Gives}
use Rattle.t1s_capture.specs.Captures.{IsCapturePrefix}
use Rattle.t1s_cli.specs.DecodeProgress.{ShownItems, DecodeEnd}
use Rattle.t1s_cli.specs.Faults.{HasFaultCause}
use Rattle.t1s_cli.specs.declared.status.Status.{Status}
use Rattle.t1s_cli.specs.declared.status.Status.TheVariants.{Done, ReadFault}

-- What was read begins a capture of at most 2^30 octets, but for a last piece of at most 4096 octets.
pub record IsReadInPieces (octets : List ℕ) : Type 0 where
  pub before : List ℕ
  pub piece : List ℕ
  pub octets_are : octets ≡ before ++ piece
  pub begins : IsCapturePrefix before
  pub within : length before ≤ 2 ^ 30
  pub short : length piece ≤ 4096

-- It took some octets, where `left` tells what the source has left, and has others left. Only a failed read ends it
-- before the decoding has ended; the lines of what was taken stand then, and it begins a capture.
pub record CaptureCall {S K : Type 0} (left : S → Option (List ℕ)) (read_faults : S → ℕ) (written : K → Option (List ℕ)) (write_faults : K → ℕ) (finished : K → Bool) (source source' : S) (sink sink' : K) (status : Status) : Type 0 where
  pub cause : HasFaultCause (read_faults source) (read_faults source') ReadFault status
  pub taken : List ℕ
  pub beyond : List ℕ
  pub gives : Gives (left source) (left source') taken
  pub rest : IfSome (left source') (λ octets. beyond ≡ octets)
  pub pieces : IsReadInPieces taken
  pub failed : status ≡ ReadFault → IsCapturePrefix taken × ShownItems written write_faults taken sink sink'
  pub ended : status ≢ ReadFault → DecodeEnd written write_faults finished (taken ++ beyond) sink sink' status
  pub whole : status ≡ Done → beyond ≡ []
