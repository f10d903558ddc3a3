-- The wires of a node, and their changes.
use Rattle.std.specs.Prelude.{ℕ, ◌+◌, ◌%◌, ◌||◌, Bool, false, true, List, [], ◌∷◌, ◌++◌, codes, decimal}
use Rattle.t1s_waveform.specs.Dumps.{Wire, Scope, Item, Change, Vector}
use Rattle.t1s_waveform.specs.declared.heard.Heard.{Heard}
use Rattle.t1s_waveform.specs.declared.heard.Heard.TheVariants.{Silence, Beacon, Run, Bare, Torn, Blur}

-- the identifier code of the wire of a node that has this letter
abbrev pub code : ℕ → ℕ → List ℕ
code node letter = (65 + node % 32) ∷ letter ∷ []

-- the number of the node ends the name
abbrev pub named : List ℕ → List ℕ → ℕ → ℕ → Wire
named wire_code name node bits = record { code = wire_code; name = name ++ (codes "_" ++ decimal node); bits = bits }

abbrev pub wire_of : ℕ → ℕ → List ℕ → Wire
wire_of node letter name = named (code node letter) name node 1

-- the node drives, and what; its PLCA status is OK; and pulses of one tick: an offer was taken or refused, a good frame or a
-- piece that is none arrived, a jam began, a frame was dropped
abbrev pub wires_of : ℕ → List Wire
wires_of node =
    wire_of node 97 (codes "drives") ∷ wire_of node 98 (codes "beacon") ∷ wire_of node 99 (codes "commit") ∷ wire_of node 100 (codes "frame")
    ∷ wire_of node 101 (codes "status") ∷ wire_of node 102 (codes "taken") ∷ wire_of node 103 (codes "refused") ∷ wire_of node 104 (codes "good")
    ∷ wire_of node 105 (codes "bad") ∷ wire_of node 106 (codes "jam") ∷ wire_of node 107 (codes "drop") ∷ []

abbrev pub scope_of : ℕ → Scope
scope_of node = record { name = codes "node_" ++ decimal node; wires = wires_of node }

abbrev pub change : ℕ → ℕ → Bool → Item
change node letter value = Change value (code node letter)

-- what a node drives from now on
abbrev pub drive_changes : ℕ → Bool → Bool → Bool → List Item
drive_changes node beacon commit frame =
    change node 97 (beacon || commit || frame) ∷ change node 98 beacon ∷ change node 99 commit ∷ change node 100 frame ∷ []

-- the pulses of a node are over
abbrev pub fall_changes : ℕ → List Item
fall_changes node =
    change node 102 false ∷ change node 103 false ∷ change node 104 false ∷ change node 105 false ∷ change node 106 false ∷ change node 107 false ∷ []

-- the node drives nothing, and nothing has happened at it
abbrev pub start_changes : ℕ → List Item
start_changes node =
    change node 97 false ∷ change node 98 false ∷ change node 99 false ∷ change node 100 false ∷ change node 101 false
    ∷ fall_changes node

-- ---- what a node hears

-- three bits, the high one first
abbrev pub heard_bits : Heard → List Bool
heard_bits Silence = false ∷ false ∷ false ∷ []
heard_bits Beacon = false ∷ false ∷ true ∷ []
heard_bits Run = false ∷ true ∷ false ∷ []
heard_bits Bare = false ∷ true ∷ true ∷ []
heard_bits Torn = true ∷ false ∷ false ∷ []
heard_bits Blur = true ∷ false ∷ true ∷ []

-- the code of its wire, which no wire of another kind has
abbrev pub heard_code : List ℕ
heard_code = 97 ∷ 97 ∷ []

-- the wire of what the node hears, by its capture
abbrev pub heard_scope : ℕ → Scope
heard_scope node = record { name = codes "capture_" ++ decimal node; wires = named heard_code (codes "hears") node 3 ∷ [] }

-- the node hears this from now on
abbrev pub heard_change : Heard → Item
heard_change what = Vector (heard_bits what) heard_code
