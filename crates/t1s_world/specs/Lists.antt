-- Lists that change element by element.
use Rattle.std.specs.Prelude.{List, [], ◌∷◌}

-- each element is changed by the one that stands beside it in another list
abbrev pub each_with : {X Y : Type 0} → (X → Y → X) → List X → List Y → List X
each_with f [] ys = []
each_with f (x ∷ xs) [] = x ∷ xs
each_with f (x ∷ xs) (y ∷ ys) = f x y ∷ each_with f xs ys
