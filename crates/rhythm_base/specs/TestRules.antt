-- The rules of a small grammar, for tests.
use Rattle.std.specs.Prelude.{List, [], ◌∷◌}
use Rattle.rhythm_base.specs.declared.rule.Body.TheVariants.{Split, Parts, Note}
use Rattle.rhythm_base.specs.declared.rule.Rule.{Rule}

-- cut in two, cut into parts of sizes 2 and 1, a note
abbrev pub test_rules : List Rule
test_rules =
    record { lhs = 0; weight = 0; body = Split (0 ∷ 0 ∷ []) } ∷ record { lhs = 0; weight = 0; body = Parts ((2, 0) ∷ (1, 0) ∷ []) }
    ∷ record { lhs = 0; weight = 0; body = Note } ∷ []
