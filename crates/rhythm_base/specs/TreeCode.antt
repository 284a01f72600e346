-- A tree as numbers and back, by which contracts see it as a value.
use Rattle.std.specs.Prelude.{◌≡◌, ℕ, List, [], ◌∷◌, ◌++◌, refl}
use Rattle.std.specs.Coded.{Coded, code_by, coded_ℕ, coded_list, coded×}
use Rattle.std.proofs.Common.{zero, suc, ap, ◌∙◌, append_assoc, append-nil, sym}
use Rattle.rhythm_base.specs.Forest.{Forest, Tree, more, none}

-- A forest as a list of numbers: 0 for nothing, and else the rule's number and one more, the children and the rest.
abbrev pub forest_numbers : Forest → List ℕ
forest_numbers none = 0 ∷ []
forest_numbers (more r kids rest) = suc r ∷ (forest_numbers kids ++ forest_numbers rest)

-- the forest on top of a pile, made of the two on top
abbrev pub pile_joined : ℕ → List Forest → List Forest
pile_joined r (kids ∷ rest ∷ pile) = more r kids rest ∷ pile
pile_joined r _ = []

abbrev pub pile_with : ℕ → List Forest → List Forest
pile_with zero pile = none ∷ pile
pile_with (suc r) pile = pile_joined r pile

-- the pile that numbers spell
abbrev pub forest_pile : List ℕ → List Forest
forest_pile [] = []
forest_pile (n ∷ ns) = pile_with n (forest_pile ns)

abbrev pub top_forest : List Forest → Forest
top_forest [] = none
top_forest (f ∷ fs) = f

pub forest_pile-numbers : (f : Forest) (ns : List ℕ) → forest_pile (forest_numbers f ++ ns) ≡ f ∷ forest_pile ns
forest_pile-numbers none ns = refl
forest_pile-numbers (more r kids rest) ns =
    ap (λ l. pile_with (suc r) (forest_pile l)) (append_assoc (forest_numbers kids) (forest_numbers rest) ns)
    ∙ ap (pile_joined r) (forest_pile-numbers kids (forest_numbers rest ++ ns) ∙ ap (λ l. kids ∷ l) (forest_pile-numbers rest ns))

pub forest_numbers-back : (f : Forest) → top_forest (forest_pile (forest_numbers f)) ≡ f
forest_numbers-back f = ap (λ l. top_forest (forest_pile l)) (sym (append-nil (forest_numbers f))) ∙ ap top_forest (forest_pile-numbers f [])

abbrev pub forest_code : Coded Forest
forest_code = code_by (List ℕ) (coded_list coded_ℕ) forest_numbers (λ ns. top_forest (forest_pile ns)) forest_numbers-back

abbrev pub tree_code : Coded Tree
tree_code = code_by (ℕ × Forest) (coded× coded_ℕ forest_code) (λ t. (t.rule, t.kids)) (λ p. record { rule = p.0; kids = p.1 }) (λ _. refl)
