-- What rule lists come to.
use Rattle.std.specs.Prelude.{◌≡◌, ℕ, List}
use Rattle.edit_session.specs.RuleLists.{AreRuleListsOf}
use Rattle.rhythm_base.specs.Grammar.{Grammar}
use Rattle.rhythm_base.specs.Performance.{IsWellFormed, Performance}
use Rattle.rhythm_base.specs.Readable.{IsReadable}

-- the least derivations of a performance have one list of rule lists
abbrev pub RuleListsAreOne : Type 0
RuleListsAreOne =
    (g : Grammar) (p : Performance) (some other : List (List ℕ)) → IsWellFormed p → AreRuleListsOf g p some → AreRuleListsOf g p other → some ≡ other
