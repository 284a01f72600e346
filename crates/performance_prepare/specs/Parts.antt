-- A list cut into parts.
use Rattle.std.specs.Prelude.{Bool, if◌then◌else◌, List, [], ◌∷◌, ◌++◌}

-- the part so far, the last member of which is given, with all that follow and join the part before them; and the other parts
abbrev pub parts_from : {X : Type 0} → (List X → X → X → Bool) → List X → X → List X → List (List X)
parts_from joins part last [] = part ∷ []
parts_from joins part last (x ∷ xs) =
    if joins part last x then parts_from joins (part ++ (x ∷ [])) x xs else part ∷ parts_from joins (x ∷ []) x xs

-- the list is cut before each member that does not join the part before it, or the last member of that
abbrev pub parts : {X : Type 0} → (List X → X → X → Bool) → List X → List (List X)
parts joins [] = []
parts joins (x ∷ xs) = parts_from joins (x ∷ []) x xs
