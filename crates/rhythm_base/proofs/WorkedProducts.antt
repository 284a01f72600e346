-- Worked products of ranked matrices, computed by the definitions.
use Rattle.std.specs.Prelude.{◌≡◌, ℕ, List, [], ◌∷◌, Option, Some, None, refl}
use Rattle.rhythm_base.specs.declared.best.Best.{Best}
use Rattle.rhythm_base.specs.Ranked.{CarryMatrix, at, choice, identity_entries, middle_of, product_of, table}

abbrev best : ℕ → ℕ → Option Best
best cost rank = Some (record { cost = cost; rank = rank })

abbrev nothing : List (Option Best)
nothing = None ∷ None ∷ None ∷ None ∷ None ∷ []

-- 0 chords in: 0 out for 5, rank 1, or 1 out for 3, rank 0
abbrev either : CarryMatrix
either = (best 5 1 ∷ best 3 0 ∷ None ∷ None ∷ None ∷ []) ∷ nothing ∷ nothing ∷ nothing ∷ nothing ∷ []

-- 0 in: 0 out for 2. 1 in: 0 out for 4, rank 1, or 4 out for 1, rank 0
abbrev after : CarryMatrix
after =
    (best 2 0 ∷ None ∷ None ∷ None ∷ None ∷ []) ∷ (best 4 1 ∷ None ∷ None ∷ None ∷ best 1 0 ∷ []) ∷ nothing ∷ nothing ∷ nothing ∷ []

-- both ways to 0 out cost 7: the lower rank on the left decides, so the count in the middle is 1
tie_by_the_left : middle_of either after 0 0 ≡ Some 1
unfolding middle_of choice
tie_by_the_left = refl

-- and of the two ends the ranks on the left are the same, so those on the right decide
ranks_of_the_product : product_of either after ≡ (best 7 1 ∷ None ∷ None ∷ None ∷ best 4 0 ∷ []) ∷ nothing ∷ nothing ∷ nothing ∷ nothing ∷ []
unfolding product_of choice
ranks_of_the_product = refl

-- the count 4 in the middle is one like the others
abbrev to_four : CarryMatrix
to_four = (None ∷ None ∷ None ∷ None ∷ best 1 0 ∷ []) ∷ nothing ∷ nothing ∷ nothing ∷ nothing ∷ []

abbrev from_four : CarryMatrix
from_four = nothing ∷ nothing ∷ nothing ∷ nothing ∷ (best 6 0 ∷ None ∷ None ∷ None ∷ None ∷ []) ∷ []

over_four : at (product_of to_four from_four) 0 0 ≡ best 7 0
unfolding product_of choice
over_four = refl

-- the product from the wrong side has no way
no_way : product_of from_four from_four ≡ nothing ∷ nothing ∷ nothing ∷ nothing ∷ nothing ∷ []
unfolding product_of choice
no_way = refl

-- the table of the two bars is the product
table_of_two : table (either ∷ after ∷ []) ≡ product_of either after
unfolding table product_of choice
table_of_two = refl

neutral : product_of identity_entries either ≡ either
unfolding product_of choice identity_entries
neutral = refl
