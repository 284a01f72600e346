-- Counts of rules, raised by those of a performance.
use Rattle.std.specs.Prelude.{ℕ, List, ◌++◌, length}
use Rattle.edit_session.specs.RuleLists.{AreRuleListsOf}
use Rattle.rhythm_base.specs.Grammar.{Grammar}
use Rattle.rhythm_base.specs.Performance.{Performance}
use Rattle.rule_counts.specs.Counts.{AreRuleCounts}

-- what told the counts of some lists tells those of these lists besides
abbrev pub AreRaisedBy : ℕ → List (List ℕ) → List ℕ → List ℕ → Type 0
AreRaisedBy rules own old new = (lists : List (List ℕ)) → AreRuleCounts rules lists old → AreRuleCounts rules (lists ++ own) new

-- the rules in the least derivations of a performance are counted besides
abbrev pub AreCountedIn : Grammar → Performance → List ℕ → List ℕ → Type 0
AreCountedIn g p old new = (own : List (List ℕ)) × AreRuleListsOf g p own × AreRaisedBy (length g.rules) own old new
