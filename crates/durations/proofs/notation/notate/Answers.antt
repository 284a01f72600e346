use Rattle.std.proofs.Common.{◌∙◌, ◌++◌, List, ap, subst, sym}
use Rattle.durations.specs.declared.value.Value.{Value}
use Rattle.durations.specs.Values.{AreValues}
use Rattle.durations.proofs.Firsts.{values_dots}
use Rattle.durations.proofs.Grids.{values_grid}
use Rattle.durations.proofs.Sums.{values_sum}
use Rattle.durations.proofs.notation.notate.Goals as goal

pub returns-clause-values : goal.returns-clause-values
returns-clause-values c =
    let told = c.in_ok-push_length.ensures in
    let whole_list = told.2 ∙ ap (λ (xs : List Value). xs ++ told.0) c.new-values.ensures.items in
    subst (AreValues c.args.len c.args.whole) (sym whole_list) (subst (λ whole. AreValues c.args.len whole told.0) c.of.ensures told.1)

pub returns-clause-sum : goal.returns-clause-sum
returns-clause-sum c = values_sum c.args.len c.args.whole c.push_length.new.values.items c.requires.parts (returns-clause-values c)

pub returns-clause-grid : goal.returns-clause-grid
returns-clause-grid c = values_grid c.args.len c.args.whole c.push_length.new.values.items (returns-clause-values c)

pub returns-clause-dots : goal.returns-clause-dots
returns-clause-dots c = values_dots c.args.len c.args.whole c.push_length.new.values.items (returns-clause-values c)
