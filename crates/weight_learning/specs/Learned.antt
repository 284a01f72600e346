-- The grammar with learned weights.
use Rattle.rule_counts.specs.Counts.{AreCapped}
use Rattle.std.specs.Prelude.{◌≡◌, ℕ, ◌≤◌, List, length, map}
use Rattle.std.specs.List.{zip}
use Rattle.rhythm_base.specs.declared.limits.TheConstants.{MOST_RULES}
use Rattle.rhythm_base.specs.declared.rule.Rule.{Rule}
use Rattle.rhythm_base.specs.Grammar.{Grammar}
use Rattle.weight_learning.specs.declared.weights.TheConstants.{HEAVIEST_BIT}
use Rattle.weight_learning.specs.Weights.{CountedRule, learned_weight}

abbrev pub learned_rule : ℕ → List Rule → List ℕ → CountedRule → Rule
learned_rule bit rules counts q = record q.0 { weight = learned_weight bit rules counts q }

abbrev pub learned_rules : ℕ → List Rule → List ℕ → List Rule
learned_rules bit rules counts = map (learned_rule bit rules counts) (zip rules counts)

-- only the weights of rules change
unfoldable pub learned : Grammar → List ℕ → ℕ → Grammar
learned g counts bit = record g { rules = learned_rules bit g.rules counts }

-- there is a count for each rule, and the bit is in its range
pub record CanLearn (g : Grammar) (counts : List ℕ) (bit : ℕ) : Type 0 where
  pub few_rules : length g.rules ≤ MOST_RULES
  pub of_each : length counts ≡ length g.rules
  pub capped : AreCapped counts
  pub some_bit : 1 ≤ bit
  pub bit_range : bit ≤ HEAVIEST_BIT

abbrev pub without_weight : Rule → Rule
without_weight r = record r { weight = 0 }

-- a grammar whose rules all weigh nothing: two grammars are the same but for their weights where this is the same
abbrev pub unweighted : Grammar → Grammar
unweighted g = record g { rules = map without_weight g.rules }
