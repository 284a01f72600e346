-- Folds over trees side by side. What stands for a way over the first of them is a choice: its cost, and its order, a number
-- with a digit to the base 8 for each tree, the rank of the tree in its row.
use Rattle.std.specs.Prelude.{ℕ, ◌+◌, ◌*◌, Option, Some, None}
use Rattle.rhythm_base.specs.Ranked.{pick}
use Rattle.row_laws.specs.BestRules.{Choice, is_nearer}

-- one tree more: its cost is added, and its rank is a digit more
abbrev pub digit_sum : Option Choice → Option Choice → Option Choice
digit_sum None y = None
digit_sum (Some x) None = None
digit_sum (Some x) (Some y) = Some (x.0 + y.0, x.1 * 8 + y.1)

-- the nearest over the counts between, with its count
abbrev pub fold_pick : (ℕ → Option Choice) → (ℕ → ℕ → Option Choice) → ℕ → Option (ℕ × Choice)
fold_pick fold next b = pick is_nearer (λ m. digit_sum (fold m) (next m b)) 5
