-- The wires of a node have codes of their own, and its changes are of these wires; so is what a node hears.
use Rattle.std.proofs.Common.{◌≡◌, ℕ, zero, suc, ◌+◌, ◌*◌, ◌%◌, ◌<◌, ◌≤◌, ◌==◌, ◌&&◌, Bool, true, false, List, [], ◌∷◌, ◌++◌, Option, Some, None, refl, sym, subst, inl, inr, arith}
use Rattle.std.proofs.lemmas.List.{append-nil}
use Rattle.std.proofs.lemmas.Bool.{cases_eq}
use Rattle.std.specs.Str.{bytes_eq}
use Rattle.t1s_waveform.specs.Dumps.{Scope, Wire, EachOnce, HasWire, codes_of_wires, declared_codes, declared_wires}
use Rattle.t1s_waveform.specs.Wires.{code, drive_changes, fall_changes, heard_bits, heard_code, heard_scope, scope_of, start_changes, wires_of}
use Rattle.t1s_waveform.specs.declared.heard.Heard.{Heard}
use Rattle.t1s_waveform.specs.declared.heard.Heard.TheVariants.{Silence, Beacon, Run, Bare, Torn, Blur}
use Rattle.t1s_waveform.proofs.Dumps.{Goes, RisesTo, declared_codes-append, declared_wires-append, rises-append, rises_once, wire_left, wire_right}

-- the codes of a node
abbrev pub node_codes : ℕ → List (List ℕ)
node_codes node = codes_of_wires (wires_of node)

-- the wires of the first nodes
abbrev pub first_scopes : ℕ → List Scope
first_scopes zero = []
first_scopes (suc count) = first_scopes count ++ scope_of count ∷ []

codes_of_first : (count : ℕ) → declared_codes (first_scopes (suc count)) ≡ declared_codes (first_scopes count) ++ node_codes count
codes_of_first count =
    subst (λ (cs : List (List ℕ)). declared_codes (first_scopes (suc count)) ≡ declared_codes (first_scopes count) ++ cs) (append-nil (node_codes count)) (declared_codes-append (first_scopes count) (scope_of count ∷ []))

-- ---- each code stands once

node_rises : (node : ℕ) → node < 32 → RisesTo (256 * (65 + node)) (node_codes node) (256 * (65 + suc node))
node_rises node below =
    let same : node % 32 ≡ node = omega arith in
    (omega arith, (omega arith, (omega arith, (omega arith, (omega arith, (omega arith, (omega arith, (omega arith, (omega arith, (omega arith, (omega arith, omega arith)))))))))))

first_rise : (count : ℕ) → count ≤ 32 → RisesTo 0 (declared_codes (first_scopes count)) (256 * (65 + count))
first_rise zero few = omega arith
first_rise (suc count) few =
    subst (λ (cs : List (List ℕ)). RisesTo 0 cs (256 * (65 + suc count))) (sym (codes_of_first count))
    (rises-append 0 (declared_codes (first_scopes count)) (node_codes count) (256 * (65 + count)) (256 * (65 + suc count)) (first_rise count (omega arith)) (node_rises count (omega arith)))

-- the wire of what a node hears, where there is one
abbrev pub heard_scopes : Option ℕ → List Scope
heard_scopes None = []
heard_scopes (Some node) = heard_scope node ∷ []

heard_rises : (heard : Option ℕ) (m : ℕ) → m ≤ 256 * 97 → RisesTo m (declared_codes (heard_scopes heard)) (256 * 98)
heard_rises None m low = omega arith
heard_rises (Some node) m low = (omega arith, omega arith)

pub each_once : (count : ℕ) (heard : Option ℕ) → count ≤ 32 → EachOnce (declared_codes (first_scopes count ++ heard_scopes heard))
each_once count heard few =
    subst EachOnce (sym (declared_codes-append (first_scopes count) (heard_scopes heard)))
    (rises_once 0 (declared_codes (first_scopes count) ++ declared_codes (heard_scopes heard)) (256 * 98)
    (rises-append 0 (declared_codes (first_scopes count)) (declared_codes (heard_scopes heard)) (256 * (65 + count)) (256 * 98) (first_rise count few) (heard_rises heard (256 * (65 + count)) (omega arith))))

-- ---- the wires of changes

-- the wires of the first nodes
abbrev pub first_wires : ℕ → List Wire
first_wires count = declared_wires (first_scopes count)

pub wire_first : (count node : ℕ) (c : List ℕ) (bits : ℕ) → node < count → HasWire (wires_of node) c bits → HasWire (first_wires count) c bits
wire_first zero node c bits below h = absurd (omega arith)
wire_first (suc count) node c bits below h =
    subst (λ (ws : List Wire). HasWire ws c bits) (sym wires_of_first) (elim (cases_eq node count) [
      | inl e ↦ wire_right (first_wires count) (wires_of count) c bits (subst (λ (n : ℕ). HasWire (wires_of n) c bits) e h)
      | inr n ↦ wire_left (first_wires count) (wires_of count) c bits (wire_first count node c bits (omega arith) h)
    ])
  where
    wires_of_first : first_wires (suc count) ≡ first_wires count ++ wires_of count
    wires_of_first =
        subst (λ (ws : List Wire). first_wires (suc count) ≡ first_wires count ++ ws) (append-nil (wires_of count)) (declared_wires-append (first_scopes count) (scope_of count ∷ []))

-- those of the first nodes, and that of what one hears
pub wire_of_first : (count : ℕ) (heard : Option ℕ) (c : List ℕ) (bits : ℕ) → HasWire (first_wires count) c bits → HasWire (declared_wires (first_scopes count ++ heard_scopes heard)) c bits
wire_of_first count heard c bits h =
    subst (λ (ws : List Wire). HasWire ws c bits) (sym (declared_wires-append (first_scopes count) (heard_scopes heard)))
    (wire_left (first_wires count) (declared_wires (heard_scopes heard)) c bits h)

pub wire_of_heard : (count node : ℕ) → HasWire (declared_wires (first_scopes count ++ heard_scopes (Some node))) heard_code 3
wire_of_heard count node =
    subst (λ (ws : List Wire). HasWire ws heard_code 3) (sym (declared_wires-append (first_scopes count) (heard_scopes (Some node))))
    (wire_right (first_wires count) (declared_wires (heard_scopes (Some node))) heard_code 3 (inl (refl, refl)))

pub three_bits : (what : Heard) → Rattle.std.proofs.Common.length (heard_bits what) ≡ 3
three_bits Silence = refl
three_bits Beacon = refl
three_bits Run = refl
three_bits Bare = refl
three_bits Torn = refl
three_bits Blur = refl

module _ (node : ℕ) where
  has_drives : HasWire (wires_of node) (code node 97) 1
  has_drives = inl (refl, refl)

  has_beacon : HasWire (wires_of node) (code node 98) 1
  has_beacon = inr (inl (refl, refl))

  has_commit : HasWire (wires_of node) (code node 99) 1
  has_commit = inr (inr (inl (refl, refl)))

  has_frame : HasWire (wires_of node) (code node 100) 1
  has_frame = inr (inr (inr (inl (refl, refl))))

  pub has_status : HasWire (wires_of node) (code node 101) 1
  has_status = inr (inr (inr (inr (inl (refl, refl)))))

  pub has_taken : HasWire (wires_of node) (code node 102) 1
  has_taken = inr (inr (inr (inr (inr (inl (refl, refl))))))

  pub has_refused : HasWire (wires_of node) (code node 103) 1
  has_refused = inr (inr (inr (inr (inr (inr (inl (refl, refl)))))))

  pub has_good : HasWire (wires_of node) (code node 104) 1
  has_good = inr (inr (inr (inr (inr (inr (inr (inl (refl, refl))))))))

  pub has_bad : HasWire (wires_of node) (code node 105) 1
  has_bad = inr (inr (inr (inr (inr (inr (inr (inr (inl (refl, refl)))))))))

  pub has_jam : HasWire (wires_of node) (code node 106) 1
  has_jam = inr (inr (inr (inr (inr (inr (inr (inr (inr (inl (refl, refl))))))))))

  pub has_drop : HasWire (wires_of node) (code node 107) 1
  has_drop = inr (inr (inr (inr (inr (inr (inr (inr (inr (inr (inl (refl, refl)))))))))))

  pub drive_goes : (beacon commit frame : Bool) (t : ℕ) → Goes (wires_of node) t (drive_changes node beacon commit frame) t
  drive_goes beacon commit frame t = (has_drives, (has_beacon, (has_commit, (has_frame, refl))))

  pub falls_go : (t : ℕ) → Goes (wires_of node) t (fall_changes node) t
  falls_go t = (has_taken, (has_refused, (has_good, (has_bad, (has_jam, (has_drop, refl))))))

  pub start_goes : (t : ℕ) → Goes (wires_of node) t (start_changes node) t
  start_goes t = (has_drives, (has_beacon, (has_commit, (has_frame, (has_status, falls_go t)))))

-- ---- values

-- the codes of two wires of nodes that have other letters
pub other_letter : (n m : ℕ) (a b : ℕ) → (a == b) ≡ false → bytes_eq (code n a) (code m b) ≡ false
other_letter n m a b other = rw other (go (65 + n % 32 == 65 + m % 32))
  where
    go : (x : Bool) → (x && false) ≡ false
    go true = refl
    go false = refl

-- a wire of a node, and that of what a node hears
pub other_heard : (n a : ℕ) → bytes_eq (code n a) heard_code ≡ false
other_heard n a = let other : (65 + n % 32 == 97) ≡ false = grind arith in rw other refl
