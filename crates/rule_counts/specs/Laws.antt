-- What counts come to.
use Rattle.std.specs.Prelude.{◌≡◌, ℕ, ◌<◌, List, [], ◌∷◌, ◌++◌, All, length}
use Rattle.std.specs.List.Sorted.{IsPermutation}
use Rattle.rhythm_base.specs.Grammar.{Grammar}
use Rattle.rhythm_base.specs.RuleTrees.{IsRuleList}
use Rattle.rule_counts.specs.Counts.{AreRuleCounts, AreRaised}

-- the counts of lists, raised by those of one more list, are the counts of all of them
abbrev pub CountsAddUp : Type 0
CountsAddUp =
    (rules : ℕ) (lists : List (List ℕ)) (list old new : List ℕ) → AreRuleCounts rules lists old → AreRaised old list new
    → AreRuleCounts rules (lists ++ list ∷ []) new

-- lists in another order have the same counts
abbrev pub CountsAreOfAnyOrder : Type 0
CountsAreOfAnyOrder =
    (rules : ℕ) (lists others : List (List ℕ)) (counts : List ℕ) → IsPermutation lists others → AreRuleCounts rules lists counts
    → AreRuleCounts rules others counts

-- lists have one list of counts, and counts are raised by a list to one
pub record RuleCountsAreOne : Type 0 where
  pub counts : (rules : ℕ) (lists : List (List ℕ)) (some other : List ℕ) → AreRuleCounts rules lists some → AreRuleCounts rules lists other → some ≡ other
  pub raised : (old list some other : List ℕ) → AreRaised old list some → AreRaised old list other → some ≡ other

-- the rule list of a tree has the numbers of rules of the grammar alone
abbrev pub RuleListsHaveRulesOfTheGrammar : Type 0
RuleListsHaveRulesOfTheGrammar =
    (g : Grammar) (symbol : ℕ) (rules : List ℕ) → IsRuleList g symbol rules → All (λ r. r < length g.rules) rules
