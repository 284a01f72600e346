use Rattle.std.proofs.Common.{◌∙◌, length, refl, sym, subst, arith}
use Rattle.std.specs.Prelude.{IsSome, Some}
use Rattle.std.proofs.lemmas.Option.{slice_get_read, slice_get_within}
use Rattle.grammar_plan.proofs.LeafTables.{some_one}
use Rattle.grammar_plan.proofs.SeatLemmas.{root-had}
use Rattle.grammar_plan.proofs.plan.Plan.root.Goals as goal

pub returns-then-symbol-len-clause-root : goal.returns-then-symbol-len-clause-root
returns-then-symbol-len-clause-root c = λ is.
    let roots = c.args.self.now.roots.items in
    let had = root-had c.args.grammar.now roots c.args.symbol c.requires.plan.starts is in
    let low = slice_get_within roots c.args.symbol (Some had.0) had.1 in
    let read = slice_get_read roots (length roots) c.args.symbol c.index.result.now refl low c.index.ensures in
    subst IsSome (some_one (Some had.0) c.index.result.now (sym had.1 ∙ read)) refl

pub returns-else-symbol-len-clause-root : goal.returns-else-symbol-len-clause-root
returns-else-symbol-len-clause-root c = λ is.
    let roots = c.args.self.now.roots.items in
    let had = root-had c.args.grammar.now roots c.args.symbol c.requires.plan.starts is in
    let low = slice_get_within roots c.args.symbol (Some had.0) had.1 in
    let long = c.len.ensures in
    absurd (omega (arith, low, long, c.if-symbol-len.false))
