-- The window that words name has 32 nodes at most.
use Rattle.std.proofs.Common.{◌≡◌, ℕ, ◌≤◌, ◌&&◌, Bool, true, false, nat_lt, nat_le, List, [], ◌∷◌, codes, Option, Some, None, refl, arith}
use Rattle.std.specs.Prelude.{if◌then◌else◌}
use Rattle.std.specs.Str.{bytes_eq}
use Rattle.t1s_drawing.specs.DrawCall.{dump_window, heard_window, hearing, picture_window, window_in, window_of}
use Rattle.t1s_drawing.specs.ReadLines.{small_number}
use Rattle.t1s_drawing.specs.declared.window.Form.{Form}
use Rattle.t1s_drawing.specs.declared.window.Form.TheVariants.{Picture, Waveform}
use Rattle.t1s_drawing.specs.declared.window.Window.{Window}

few_of : (form : Form) (from until nodes : Option ℕ) (w : Window) → window_of form from until nodes ≡ Some w → w.nodes ≤ 32
few_of form None until nodes w h = absurd cc
few_of form (Some from) None nodes w h = absurd cc
few_of form (Some from) (Some until) None w h = absurd cc
few_of form (Some from) (Some until) (Some nodes) w h = go (nat_lt from until && nat_lt 0 nodes && nat_le nodes 32) refl h
  where
    go : (b : Bool) → (nat_lt from until && nat_lt 0 nodes && nat_le nodes 32) ≡ b → ◌≡◌ {A = Option Window} (if b then Some (record { form = form; from = from; until = until; nodes = nodes; heard = None }) else None) (Some w) → w.nodes ≤ 32
    go true e k =
        let few : nodes ≤ 32 = grind arith in
        let same : nodes ≡ w.nodes = cc in
        omega arith
    go false e k = absurd cc

picture_few : (word from until nodes : List ℕ) (w : Window) → picture_window word from until nodes ≡ Some w → w.nodes ≤ 32
picture_few word from until nodes w h = go (bytes_eq word (codes "picture")) h
  where
    go : (b : Bool) → ◌≡◌ {A = Option Window} (if b then window_of Picture (small_number from) (small_number until) (small_number nodes) else None) (Some w) → w.nodes ≤ 32
    go true k = few_of Picture (small_number from) (small_number until) (small_number nodes) w k
    go false k = absurd cc

dump_few : (word until nodes : List ℕ) (w : Window) → dump_window word until nodes ≡ Some w → w.nodes ≤ 32
dump_few word until nodes w h = go (bytes_eq word (codes "wave")) h
  where
    go : (b : Bool) → ◌≡◌ {A = Option Window} (if b then window_of Waveform (Some 0) (small_number until) (small_number nodes) else None) (Some w) → w.nodes ≤ 32
    go true k = few_of Waveform (Some 0) (small_number until) (small_number nodes) w k
    go false k = absurd cc

hearing_few : (o : Option Window) (node : Option ℕ) (w : Window) → ((v : Window) → o ≡ Some v → v.nodes ≤ 32) → hearing o node ≡ Some w → w.nodes ≤ 32
hearing_few None k w few h = absurd cc
hearing_few (Some v) None w few h = absurd cc
hearing_few (Some v) (Some node) w few h = go (nat_lt node v.nodes) h
  where
    go : (b : Bool) → ◌≡◌ {A = Option Window} (if b then Some (record { form = v.form; from = v.from; until = v.until; nodes = v.nodes; heard = Some node }) else None) (Some w) → w.nodes ≤ 32
    go true k =
        let low : v.nodes ≤ 32 = few v refl in
        let same : v.nodes ≡ w.nodes = cc in
        omega arith
    go false k = absurd cc

four_few : (word a b c : List ℕ) (w : Window) → window_in (word ∷ a ∷ b ∷ c ∷ []) ≡ Some w → w.nodes ≤ 32
four_few word x y z w h = go (bytes_eq word (codes "picture")) h
  where
    go : (b : Bool) → ◌≡◌ {A = Option Window} (if b then picture_window word x y z else heard_window word x y z) (Some w) → w.nodes ≤ 32
    go true k = picture_few word x y z w k
    go false k = hearing_few (dump_window word x y) (small_number z) w (λ v e. dump_few word x y v e) k

pub few_nodes : (words : List (List ℕ)) (w : Window) → window_in words ≡ Some w → w.nodes ≤ 32
few_nodes [] w h = absurd cc
few_nodes (a ∷ []) w h = absurd cc
few_nodes (a ∷ b ∷ []) w h = absurd cc
few_nodes (a ∷ b ∷ c ∷ []) w h = dump_few a b c w h
few_nodes (a ∷ b ∷ c ∷ d ∷ []) w h = four_few a b c d w h
few_nodes (a ∷ b ∷ c ∷ d ∷ e ∷ words) w h = absurd cc
