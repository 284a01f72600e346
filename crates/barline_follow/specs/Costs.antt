-- Costs, where there are any: the lower of two, the sum of two, and the least of several; and what they are with a bar more.
use Rattle.std.specs.Prelude.{◌≡◌, ℕ, ◌+◌, ◌≤◌, ◌^◌, Bool, List, [], ◌∷◌, min, slice_index_or, Option, Some, None, is_some, if◌then◌else◌}
use Rattle.std.proofs.Common.{zero, suc}
use Rattle.barline_follow.specs.declared.heads.Heads.{Heads}
use Rattle.chain_bars.specs.Tower.{best_cost}
use Rattle.rhythm_base.specs.Ranked.{CarryMatrix, at, five}

abbrev pub lower : Option ℕ → Option ℕ → Option ℕ
lower None b = b
lower (Some a) None = Some a
lower (Some a) (Some b) = Some (min a b)

abbrev pub sum : Option ℕ → Option ℕ → Option ℕ
sum None b = None
sum (Some a) None = None
sum (Some a) (Some b) = Some (a + b)

-- the least of the first n
abbrev pub least_below : (ℕ → Option ℕ) → ℕ → Option ℕ
least_below costs zero = None
least_below costs (suc n) = lower (least_below costs n) (costs n)

unfoldable pub least_of_five : (ℕ → Option ℕ) → Option ℕ
least_of_five costs = least_below costs 5

abbrev pub head_cost_at : List (Option ℕ) → ℕ → Option ℕ
head_cost_at costs n = slice_index_or costs n None

-- what a bar costs for these numbers of chords that enter and leave it
abbrev pub bar_cost_at : List (List (Option ℕ)) → ℕ → ℕ → Option ℕ
bar_cost_at bar from to = slice_index_or (slice_index_or bar from []) to None

-- the costs with a bar of these costs more, by the number of chords that leave it: the least over the numbers that enter it
abbrev pub costs_with_bar : List (Option ℕ) → List (List (Option ℕ)) → List (Option ℕ)
costs_with_bar costs bar = five (λ to. least_of_five (λ from. sum (head_cost_at costs from) (bar_cost_at bar from to)))

-- the same with a bar of this table
abbrev pub costs_with : List (Option ℕ) → CarryMatrix → List (Option ℕ)
costs_with costs m = five (λ to. least_of_five (λ from. sum (head_cost_at costs from) (best_cost (at m from to))))

-- the numbers of chords that may enter a bar after these costs
abbrev pub asked_after : List (Option ℕ) → List Bool
asked_after costs = five (λ n. is_some (head_cost_at costs n))

-- what a voice costs: in a closed list where no chord leaves, and else the least
abbrev pub own_cost : Bool → Heads → Option ℕ
own_cost is_closed heads = if is_closed then head_cost_at heads.costs 0 else least_of_five (head_cost_at heads.costs)

-- what the voices cost together, where each has a cost
abbrev pub total : Bool → List Heads → Option ℕ
total is_closed [] = Some 0
total is_closed (heads ∷ voices) = sum (own_cost is_closed heads) (total is_closed voices)

-- low enough to be added to
abbrev pub AreLowCosts : List (List (Option ℕ)) → Type 0
AreLowCosts bar = (from to c : ℕ) → bar_cost_at bar from to ≡ Some c → c ≤ 2 ^ 52

-- low enough that those of 16 voices have a sum
abbrev pub AreLowHeads : Heads → Type 0
AreLowHeads heads = (n c : ℕ) → head_cost_at heads.costs n ≡ Some c → c ≤ 2 ^ 52
