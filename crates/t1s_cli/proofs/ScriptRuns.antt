-- The laws of the run of a script that is read.
use Rattle.std.proofs.Common.{◌≡◌, ℕ, List, Ok}
use Rattle.t1s_script.specs.Reading.{script_of}
use Rattle.t1s_script.specs.declared.script.Script.{Script}
use Rattle.t1s_script.proofs.Validity.{read_valid}
use Rattle.t1s_schedule.proofs.FitRuns.{shares_line}
use Rattle.t1s_delivery.proofs.FitRuns.{delivers}
use Rattle.t1s_cli.specs.RunLaws.{RunLaws}
use Rattle.t1s_cli.proofs.ThinScripts.{has_beacons}

pub run_laws : (octets : List ℕ) (s : Script) → script_of octets ≡ Ok s → RunLaws octets s
run_laws octets s is = record {
  shares_line = λ fit. shares_line s s.end (read_valid octets s is) fit;
  delivers = λ fit. delivers s s.end (read_valid octets s is) fit;
  beacons = λ form. has_beacons octets s form is;
}
