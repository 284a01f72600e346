-- How the counts in the middle, and their sums, stand as choices.
use Rattle.std.specs.Prelude.{◌≡◌, ℕ, ◌+◌, ◌-◌, ◌*◌, ◌<◌, ◌≤◌, ◌^◌, List, [], ◌∷◌, if◌then◌else◌, Option, Some, None}
use Rattle.rhythm_base.specs.Ranked.{CarryMatrix, Key, Sum, at, better, five, is_under, pick, ranked, sum_before, sum_key, summed}
use Rattle.rhythm_base.specs.declared.best.Best.{Best}
use Rattle.carry_matrix.specs.Rows.{cost_code, rank_code, row_code}
use Rattle.carry_matrix.specs.declared.choice.Choice.{Choice}
use Rattle.carry_matrix.specs.declared.row.Row.{Row}

-- a count in the middle with its sum, or none
abbrev pub Chosen : Type 0
Chosen = Option (ℕ × Sum)

abbrev pub choice_code : Chosen → Choice
choice_code None = record { cost = 2 ^ 62; order = 2 ^ 32 - 1; middle = 0 }
choice_code (Some x) = record { cost = x.1.0; order = 8 * x.1.1 + x.1.2; middle = x.0 }

abbrev pub choices_code : (ℕ → Chosen) → List Choice
choices_code o = five (λ to. choice_code (o to))

-- the choices among the counts in the middle below n, for a number carried in
abbrev pub choices_below : CarryMatrix → CarryMatrix → ℕ → ℕ → List Choice
choices_below a b from n = choices_code (λ to. pick sum_before (λ m. summed (at a from m) (at b m to)) n)

-- a cost below 2 ^ 62 and a rank on the right of at most 5, where there is a sum
abbrev pub IsLowSum : Chosen → Type 0
IsLowSum None = Unit {0}
IsLowSum (Some x) = (x.1.0 < 2 ^ 62) × (x.1.2 ≤ 5)

abbrev pub AreLowSums : (ℕ → Chosen) → Type 0
AreLowSums o = (to : ℕ) → to < 5 → IsLowSum (o to)

-- the sum of the two costs is below 2 ^ 62, where there is an entry on the right
abbrev pub HasLowSum : Best → Option Best → Type 0
HasLowSum left right = (y : Best) → right ≡ Some y → left.cost + y.cost < 2 ^ 62

-- what is nearer: what was chosen, or two entries round a count in the middle
abbrev pub nearer_of : Chosen → Best → Option Best → ℕ → Chosen
nearer_of o left right middle = better sum_before o middle (summed (Some left) right)

-- the nearer of a choice and of two entries, the right of which stands as a cost and a rank
abbrev pub IsNearer : Choice → Best → ℕ → ℕ → ℕ → Choice → Type 0
IsNearer best left cost rank middle nearer =
    (o : Chosen) (right : Option Best) → IsLowSum o → best ≡ choice_code o → cost ≡ cost_code right → rank ≡ rank_code right
    → HasLowSum left right → nearer ≡ choice_code (nearer_of o left right middle)

-- the same for each number carried out, where the entries on the right stand as a row
abbrev pub AreNearer : List Choice → Best → Row → ℕ → List Choice → Type 0
AreNearer choices left row middle nearer =
    (o : ℕ → Chosen) (right : ℕ → Option Best) → AreLowSums o → choices ≡ choices_code o → row ≡ row_code right
    → ((to : ℕ) (y : Best) → to < 5 → right to ≡ Some y → left.cost + y.cost < 2 ^ 62)
    → nearer ≡ choices_code (λ to. nearer_of (o to) left (right to) middle)

-- 1 where the choice stands for ranks under those of the order, and else 0
abbrev pub CountsUnder : Choice → ℕ → ℕ → Type 0
CountsUnder choice order count =
    (o : Chosen) (l r : ℕ) → IsLowSum o → choice ≡ choice_code o → r ≤ 5 → order ≡ 8 * l + r
    → count ≡ (if is_under (sum_key o) (l ∷ r ∷ []) then 1 else 0)

-- the entry of one of the sums of a row
abbrev pub entry_among : (ℕ → Chosen) → Chosen → Option Best
entry_among o u = ranked (λ n. sum_key (o n)) (sum_key u)

-- the rank of a choice among those of its row
abbrev pub IsRankAmong : List Choice → Choice → ℕ → Type 0
IsRankAmong choices own rank =
    (o : ℕ → Chosen) (u : Chosen) → AreLowSums o → IsLowSum u → choices ≡ choices_code o → own ≡ choice_code u
    → rank ≡ rank_code (entry_among o u)

-- the cost of a choice, in whatever row
abbrev pub IsCostOf : Choice → ℕ → Type 0
IsCostOf own cost = (u : Chosen) → IsLowSum u → own ≡ choice_code u → (row : ℕ → Option Key) → cost ≡ cost_code (ranked row (sum_key u))

-- the row of the choices
abbrev pub IsRowChosen : List Choice → Row → Type 0
IsRowChosen choices row =
    (o : ℕ → Chosen) → AreLowSums o → choices ≡ choices_code o → row ≡ row_code (λ to. entry_among o (o to))
