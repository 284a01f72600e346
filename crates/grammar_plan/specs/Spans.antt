-- Between which numbers the rules of each symbol lie.
use Rattle.std.specs.Prelude.{◌≡◌, ℕ, ◌<◌, ◌≤◌, List, length, slice_index_or}
use Rattle.rhythm_base.specs.declared.rule.Rule.{Rule}
use Rattle.grammar_plan.specs.declared.spans.Spans.{Spans}

-- each rule before n has a number from the first of its symbol on, and below the symbol's end
abbrev pub AreSpansBelow : List Rule → ℕ → List ℕ → List ℕ → Type 0
AreSpansBelow rules n first end =
    (i : ℕ) (d : Rule) → i < n → i < length rules
    → (slice_index_or first (slice_index_or rules i d).lhs 0 ≤ i) × (i < slice_index_or end (slice_index_or rules i d).lhs 0)

abbrev pub AreRuleSpans : List Rule → Spans → Type 0
AreRuleSpans rules s = AreSpansBelow rules (length rules) s.first s.end

-- each rule of the symbol has a number from the first on, and below the end
abbrev pub IsRuleSpan : List Rule → ℕ → ℕ → ℕ → Type 0
IsRuleSpan rules symbol first end = (i : ℕ) (d : Rule) → i < length rules → (slice_index_or rules i d).lhs ≡ symbol → (first ≤ i) × (i < end)
