-- Words with a space after each.
use Rattle.std.specs.Prelude.{ℕ, List, [], ◌∷◌, ◌++◌}
use Rattle.std.specs.List.{flat_map}

abbrev pub words_text : List (List ℕ) → List ℕ
words_text words = flat_map (λ word. word ++ (32 ∷ [])) words
