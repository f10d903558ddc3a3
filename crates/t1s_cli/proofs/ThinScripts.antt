-- A script of the thin form has the default timers, and so its beacons have fixed ticks.
use Rattle.std.proofs.Common.{◌≡◌, ℕ, ◌+◌, ◌*◌, true, List, Ok, sym, ◌∙◌, subst, arith}
use Rattle.std.proofs.lemmas.Option.{slice_get_within, get_or_from_slice_get}
use Rattle.t1s_script.specs.Reading.{script_of}
use Rattle.t1s_script.specs.ThinForm.{has_thin_form, IsThinNode, IsThinScript}
use Rattle.t1s_script.specs.declared.script.Script.{Script}
use Rattle.t1s_script.proofs.ThinScripts.{thin_scripts}
use Rattle.t1s_script.proofs.Validity.{read_valid}
use Rattle.t1s_line.specs.Beacons.{beacon_start, IsBeacon}
use Rattle.t1s_line.proofs.BeaconTicks.{drives_are_beacons}
use Rattle.t1s_cli.specs.RunLaws.{IsThinBeacon, HasBeacons}

-- what reading gives for octets of the thin form is the thin script
thin_of : (octets : List ℕ) (s : Script) → has_thin_form octets ≡ true → script_of octets ≡ Ok s → IsThinScript s
thin_of octets s form is =
    let (t, read, thin) = thin_scripts octets form in
    let same : t ≡ s = cc in
    subst IsThinScript same thin

pub has_beacons : (octets : List ℕ) (s : Script) → has_thin_form octets ≡ true → script_of octets ≡ Ok s → HasBeacons s
has_beacons octets s form is z line one =
    let thin = thin_of octets s form is in
    let node : IsThinNode line = rw (get_or_from_slice_get s.nodes z line line one.here) at (thin.nodes z line (slice_get_within s.nodes z line one.here)) in
    let beacons = drives_are_beacons s z line (read_valid octets s is) thin.acts one node.start in
    let starts : (k : ℕ) → beacon_start s line k ≡ 8256 + k * (24 + 32 * s.count) = λ k. rw (node.to, thin.fall) (omega arith) in
    let here : (k a f : ℕ) → IsThinBeacon s k a f → IsBeacon s line k a f = λ k a f b. record { start = b.start ∙ sym (starts k); below = b.below; stop = b.stop } in
    let there : (k a f : ℕ) → IsBeacon s line k a f → IsThinBeacon s k a f = λ k a f b. record { start = b.start ∙ starts k; below = b.below; stop = b.stop } in
    record {
      drives = λ i a f. (
        λ h. let found = (beacons.drives i a f).0 h in (found.0, found.1, there found.1 a f found.2),
        λ h. (beacons.drives i a f).1 (h.0, h.1, here h.1 a f h.2),
      );
      symbols = λ k a f t b from to. beacons.symbols k a f t (here k a f b) from to;
    }
