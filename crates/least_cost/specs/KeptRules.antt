-- The rules of a table.
use Rattle.std.specs.Prelude.{ℕ, List}
use Rattle.least_cost.specs.declared.kept_rules.KeptRules.{KeptRules}
use Rattle.least_cost.specs.declared.kept_rules.KeptRules.TheVariants.{Few, Many}

-- they may be followed by others, where no list lies
abbrev pub rules_of : KeptRules → List ℕ
rules_of (Few rules) = rules
rules_of (Many rules) = rules.items
