-- Lists of anything.
use Rattle.std.specs.Prelude.{List, [], ◌∷◌, ◌≡◌, ◌⊎◌}

-- the list has the element
abbrev pub Among : {X : Type 0} → List X → X → Type 0
Among [] x = ⊥
Among (y ∷ ys) x = (x ≡ y) ⊎ Among ys x
