-- Weights made of counts: a rule that is used half as often as another of its symbol costs `bit` more.
use Rattle.std.specs.Prelude.{◌≡◌, ℕ, ◌+◌, ◌-◌, ◌*◌, ◌/◌, ◌^◌, ◌≤◌, ◌==◌, ◌&&◌, Bool, nat_lt, if◌then◌else◌, List, Some, filter, max, slice_get, sum_by}
use Rattle.std.specs.List.{list_any, zip}
use Rattle.rhythm_base.specs.declared.rule.Rule.{Rule}
use Rattle.weight_learning.specs.Shares.{share}
use Rattle.weight_learning.specs.Steps.{steps}

-- a rule and its count
abbrev pub CountedRule : Type 0
CountedRule = Rule × ℕ

-- the share of a rule by its weight: `bit` more halves it
abbrev pub share_of : ℕ → Rule → ℕ
share_of bit rule = share (64 * rule.weight / bit)

-- the rules of a symbol
abbrev pub rules_of_symbol : ℕ → List Rule → List Rule
rules_of_symbol symbol rules = filter (λ r. r.lhs == symbol) rules

-- and with their counts
abbrev pub counted_of : ℕ → List CountedRule → List CountedRule
counted_of symbol counted = filter (λ q. q.0.lhs == symbol) counted

-- the shares of a symbol's rules together, 1 at least
abbrev pub share_sum : ℕ → ℕ → List Rule → ℕ
share_sum bit symbol rules = max (sum_by (share_of bit) (rules_of_symbol symbol rules)) 1

-- the share of a rule in the whole
pub record IsShareOf (share whole : ℕ) : Type 0 where
  pub some : 1 ≤ whole
  pub part : share ≤ whole
  pub few : share ≤ 2 ^ 31

-- 1,024 parts for each use; and of the parts of 20 imagined uses the share of the whole, a part at least
abbrev pub rule_parts : ℕ → ℕ → ℕ → ℕ
rule_parts count share whole = 1024 * count + max (20480 * share / whole) 1

-- the parts of a rule
abbrev pub parts_of : ℕ → ℕ → CountedRule → ℕ
parts_of bit whole q = rule_parts q.1 (share_of bit q.0) whole

-- the parts of a symbol's rules together
abbrev pub part_sum : ℕ → ℕ → List Rule → List ℕ → ℕ
part_sum bit symbol rules counts = sum_by (parts_of bit (share_sum bit symbol rules)) (counted_of symbol (zip rules counts))

-- some rule of the symbol is used
abbrev pub is_used : ℕ → List Rule → List ℕ → Bool
is_used symbol rules counts = list_any (λ q. (q.0.lhs == symbol) && nat_lt 0 q.1) (zip rules counts)

-- a rule of a symbol that is used weighs `bit` for each halving from the parts of the symbol's rules to its own; the others weigh
-- what they weighed
abbrev pub learned_weight : ℕ → List Rule → List ℕ → CountedRule → ℕ
learned_weight bit rules counts q =
    let symbol = q.0.lhs in
    let all = steps (part_sum bit symbol rules counts) in
    let own = steps (parts_of bit (share_sum bit symbol rules) q) in
    if is_used symbol rules counts then bit * (all - own) / 64 else q.0.weight

-- what the rule of a number weighs
abbrev pub IsLearnedWeight : ℕ → List Rule → List ℕ → ℕ → ℕ → Type 0
IsLearnedWeight bit rules counts number weight =
    (rule : CountedRule) → slice_get (zip rules counts) number ≡ Some rule → weight ≡ learned_weight bit rules counts rule
