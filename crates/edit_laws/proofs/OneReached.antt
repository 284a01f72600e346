-- The cells that a change reaches are one list.
use Rattle.std.proofs.Common.{◌≡◌, ℕ, List, [], ◌∷◌}
use Rattle.std.specs.Cmp.Lexicographic.{nat_list_cmp_total}
use Rattle.rhythm_base.specs.Performance.{Performance}
use Rattle.edit_laws.specs.Reached.{AreReached}
use Rattle.rhythm_base.specs.Grammar.{Grammar}
use Rattle.rhythm_base.proofs.FirstLists.{one_earlier, one_order}

abbrev cell_place : ℕ × ℕ → List ℕ
cell_place c = c.0 ∷ c.1 ∷ []

pub one_reached : (g : Grammar) (before after : Performance) (xs ys : List (ℕ × ℕ)) → AreReached g before after xs → AreReached g before after ys → xs ≡ ys
one_reached g before after xs ys h k =
    one_order _ (λ x y. one_earlier nat_list_cmp_total (cell_place x) (cell_place y)) xs ys h.in_order k.in_order
    (λ c there. (k.exactly c.0 c.1).1 ((h.exactly c.0 c.1).0 there))
    (λ c there. (h.exactly c.0 c.1).1 ((k.exactly c.0 c.1).0 there))
