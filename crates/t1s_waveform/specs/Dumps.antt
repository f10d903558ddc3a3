-- Value change dumps (VCD, IEEE Std 1364).
use Rattle.std.specs.Prelude.{◌≡◌, ◌⊎◌, ℕ, ◌<◌, Bool, List, [], ◌∷◌, ◌++◌, length, map, codes, decimal, if◌then◌else◌}

-- a wire: its identifier code, its name, and how many bits it has
pub record Wire : Type 0 where
  pub code : List ℕ
  pub name : List ℕ
  pub bits : ℕ

-- the wires that are declared together
pub record Scope : Type 0 where
  pub name : List ℕ
  pub wires : List Wire

-- what stands after the declarations: a time, or the value that the wire of a code has from that time on: of a wire of one bit
-- this bit, of another one its bits, the high one first
pub data Item : Type 0 where
  Time : ℕ → Item
  Change : Bool → List ℕ → Item
  Vector : List Bool → List ℕ → Item

-- ---- the text

abbrev pub wire_text : Wire → List ℕ
wire_text wire = codes "$var wire " ++ (decimal wire.bits ++ (codes " " ++ (wire.code ++ (codes " " ++ (wire.name ++ codes " $end\n")))))

abbrev pub wires_text : List Wire → List ℕ
wires_text [] = []
wires_text (wire ∷ wires) = wire_text wire ++ wires_text wires

abbrev pub scope_text : Scope → List ℕ
scope_text scope = codes "$scope module " ++ (scope.name ++ (codes " $end\n" ++ (wires_text scope.wires ++ codes "$upscope $end\n")))

abbrev pub scopes_text : List Scope → List ℕ
scopes_text [] = []
scopes_text (scope ∷ scopes) = scope_text scope ++ scopes_text scopes

abbrev pub digit_of : Bool → ℕ
digit_of value = if value then 49 else 48

abbrev pub time_text : ℕ → List ℕ
time_text tick = codes "#" ++ (decimal tick ++ codes "\n")

abbrev pub item_text : Item → List ℕ
item_text (Time tick) = time_text tick
item_text (Change value code) = digit_of value ∷ (code ++ codes "\n")
item_text (Vector values code) = codes "b" ++ (map digit_of values ++ (codes " " ++ (code ++ codes "\n")))

abbrev pub items_text : List Item → List ℕ
items_text [] = []
items_text (item ∷ items) = item_text item ++ items_text items

-- ---- which dumps are valid

abbrev pub codes_of_wires : List Wire → List (List ℕ)
codes_of_wires [] = []
codes_of_wires (wire ∷ wires) = wire.code ∷ codes_of_wires wires

-- the codes that are declared
abbrev pub declared_codes : List Scope → List (List ℕ)
declared_codes [] = []
declared_codes (scope ∷ scopes) = codes_of_wires scope.wires ++ declared_codes scopes

-- the wires that are declared
abbrev pub declared_wires : List Scope → List Wire
declared_wires [] = []
declared_wires (scope ∷ scopes) = scope.wires ++ declared_wires scopes

abbrev pub IsAmong : List (List ℕ) → List ℕ → Type 0
IsAmong [] code = ⊥
IsAmong (c ∷ cs) code = (c ≡ code) ⊎ IsAmong cs code

-- no code is declared twice
abbrev pub EachOnce : List (List ℕ) → Type 0
EachOnce [] = Unit {0}
EachOnce (c ∷ cs) = ¬ (IsAmong cs c) × EachOnce cs

-- each time is later than the one before it
abbrev pub Ascend : ℕ → List Item → Type 0
Ascend before [] = Unit {0}
Ascend before (Time tick ∷ items) = (before < tick) × Ascend tick items
Ascend before (Change value code ∷ items) = Ascend before items
Ascend before (Vector values code ∷ items) = Ascend before items

-- one of these wires has that code and so many bits
abbrev pub HasWire : List Wire → List ℕ → ℕ → Type 0
HasWire [] code bits = ⊥
HasWire (wire ∷ wires) code bits = ((wire.code ≡ code) × (wire.bits ≡ bits)) ⊎ HasWire wires code bits

-- each change is of one of these wires, and has as many bits as it
abbrev pub HaveWires : List Wire → List Item → Type 0
HaveWires ws [] = Unit {0}
HaveWires ws (Time tick ∷ items) = HaveWires ws items
HaveWires ws (Change value code ∷ items) = HasWire ws code 1 × HaveWires ws items
HaveWires ws (Vector values code ∷ items) = HasWire ws code (length values) × HaveWires ws items

-- The text is a dump with a time unit of 100 ns: declarations, in which no code stands twice, then times that ascend from 0 on,
-- and after each the changes of its wires, which are declared and have as many bits.
pub record IsDump (text : List ℕ) : Type 0 where
  pub scopes : List Scope
  pub items : List Item
  pub once : EachOnce (declared_codes scopes)
  pub ascend : Ascend 0 items
  pub have_wires : HaveWires (declared_wires scopes) items
  pub is : text ≡ codes "$timescale 100 ns $end\n" ++ (scopes_text scopes ++ (codes "$enddefinitions $end\n" ++ items_text (Time 0 ∷ items)))
