-- The IDs of a node.
use Rattle.std.specs.Prelude.{ℕ, ◌≡◌, ◌<◌, ◌≤◌, Bool, false, ◌==◌, List, [], ◌∷◌, length, All, refl}
use Rattle.std.specs.List.{list_any}
use Rattle.t1s_base.specs.declared.node_ids.Held.{Held}
use Rattle.t1s_base.specs.declared.node_ids.Held.TheVariants.{One, Two, Three, Four}

-- the ID is in the list
abbrev pub has_id : List ℕ → ℕ → Bool
has_id ids id = list_any (λ held. held == id) ids

-- no ID stands twice
abbrev pub AreDistinct : List ℕ → Type 0
AreDistinct [] = Unit {0}
AreDistinct (id ∷ ids) = (has_id ids id ≡ false) × AreDistinct ids

-- one to four IDs, each of them one octet, and no two the same
pub record IsIds (ids : List ℕ) : Type 0 where
  pub some : 1 ≤ length ids
  pub few : length ids ≤ 4
  pub octets : All (λ id. id < 256) ids
  pub distinct : AreDistinct ids

-- ---- how they are kept

abbrev pub ids_of : Held → List ℕ
ids_of (One a) = a ∷ []
ids_of (Two a b) = a ∷ b ∷ []
ids_of (Three a b c) = a ∷ b ∷ c ∷ []
ids_of (Four a b c d) = a ∷ b ∷ c ∷ d ∷ []

-- what keeps a list; only lists of one to four IDs are kept
abbrev pub held_of : List ℕ → Held
held_of [] = One 0
held_of (a ∷ []) = One a
held_of (a ∷ b ∷ []) = Two a b
held_of (a ∷ b ∷ c ∷ []) = Three a b c
held_of (a ∷ b ∷ c ∷ d ∷ rest) = Four a b c d

pub held_of_ids : (held : Held) → held_of (ids_of held) ≡ held
held_of_ids (One a) = refl
held_of_ids (Two a b) = refl
held_of_ids (Three a b c) = refl
held_of_ids (Four a b c d) = refl
