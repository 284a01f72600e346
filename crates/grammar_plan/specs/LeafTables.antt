-- The rules of the leaves of a symbol, by what a leaf asks.
use Rattle.std.specs.Prelude.{◌≡◌, ℕ, ◌+◌, ◌<◌, ◌≤◌, ◌⊎◌, ◌==◌, ◌&&◌, nat_lt, nat_le, if◌then◌else◌, List, [], length, slice_get, slice_index_or, Option, Some, None}
use Rattle.rhythm_base.specs.Bodies.{ending_of}
use Rattle.rhythm_base.specs.Grammar.{Grammar}
use Rattle.rhythm_base.specs.declared.rule.Ending.{Ending}
use Rattle.rhythm_base.specs.declared.rule.Ending.TheVariants.{Note, Short, Tie, Rest, Grace}
use Rattle.rhythm_base.specs.declared.rule.Rule.{Rule}
use Rattle.grammar_plan.specs.declared.leaf_rule.LeafRule.{LeafRule}

-- the place of the leaves that are ended so: there is one for each number of chords and for each way to sound
abbrev pub place_of_ending : Ending → Option ℕ
place_of_ending Note = Some 0
place_of_ending Short = Some 1
place_of_ending Tie = Some 2
place_of_ending Rest = Some 3
place_of_ending (Grace m) = if nat_lt 0 m && nat_lt m 4 then Some (m + 3) else None

abbrev pub leaf_place : Option Ending → Option ℕ
leaf_place None = None
leaf_place (Some ending) = place_of_ending ending

-- the place of a rule among those of the symbol
abbrev pub place_in : Rule → ℕ → Option ℕ
place_in rule symbol = if rule.lhs == symbol then leaf_place (ending_of rule.body) else None

-- the first, unless there is none or the second is lighter
abbrev pub lighter_of : Option LeafRule → LeafRule → LeafRule
lighter_of None y = y
lighter_of (Some x) y = if nat_le x.weight y.weight then x else y

-- the rule of the number r has this place among those of the symbol
abbrev pub HasLeafPlace : Grammar → ℕ → ℕ → ℕ → Rule → Type 0
HasLeafPlace g symbol place r rule = (slice_get g.rules r ≡ Some rule) × (place_in rule symbol ≡ Some place)

-- the first rule of the least weight with this place, of those before n
abbrev pub IsFirstBelow : Grammar → ℕ → ℕ → ℕ → Option LeafRule → Type 0
IsFirstBelow g symbol n place None = (r : ℕ) (rule : Rule) → r < n → HasLeafPlace g symbol place r rule → ⊥
IsFirstBelow g symbol n place (Some l) =
    (rule : Rule) × HasLeafPlace g symbol place l.rule rule × (rule.weight ≡ l.weight) × (l.rule < n)
    × ((s : ℕ) (other : Rule) → s < n → HasLeafPlace g symbol place s other → (l.weight < other.weight) ⊎ ((l.weight ≡ other.weight) × (l.rule ≤ s)))

abbrev pub AreFirstBelow : Grammar → ℕ → ℕ → List (Option LeafRule) → Type 0
AreFirstBelow g symbol n row = (place : ℕ) → place < 7 → IsFirstBelow g symbol n place (slice_index_or row place None)

-- by symbol
abbrev pub AreAllFirst : Grammar → List (List (Option LeafRule)) → Type 0
AreAllFirst g leaves = (symbol : ℕ) → symbol < length leaves → AreFirstBelow g symbol (length g.rules) (slice_index_or leaves symbol [])
