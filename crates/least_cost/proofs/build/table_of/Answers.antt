use Rattle.std.proofs.Common.{◌∙◌, ap, subst, sym}
use Rattle.rhythm_base.specs.BarTables.{BarTable, IsTable}
use Rattle.rhythm_base.specs.Paths.{AreLow, IsRanked}
use Rattle.least_cost.specs.KeptRules.{rules_of}
use Rattle.least_cost.specs.Tables.{lists_of}
use Rattle.least_cost.proofs.Roots.{root-low, root-ranked, root-table}
use Rattle.least_cost.proofs.TableLists.{lists-are, placed-kept}
use Rattle.least_cost.proofs.build.table_of.Goals as goal

pub make-matrix-requires-clause-ranks : goal.make-matrix-requires-clause-ranks
make-matrix-requires-clause-ranks c =
    let h = c.requires.trees in
    subst IsRanked (sym h.matrix) (root-ranked c.args.grammar.now c.args.input.now c.requires.ready h.keys h.least)

pub make-matrix-requires-clause-costs : goal.make-matrix-requires-clause-costs
make-matrix-requires-clause-costs c =
    let h = c.requires.trees in
    subst AreLow (sym h.matrix) (root-low c.args.grammar.now c.args.input.now c.requires.ready h.keys h.least)

pub of-requires : goal.of-requires
of-requires c = let h = c.requires.trees in placed-kept c.args.rules.now (rules_of c.in_ok-own.own) c.args.ends c.in_ok-own.ensures h.lists.placed

pub returns-clause-table : goal.returns-clause-table
returns-clause-table c =
    let g = c.args.grammar.now in
    let k = c.args.input.now in
    let h = c.requires.trees in
    let rules = rules_of c.in_ok-own.own in
    let ends = c.args.ends in
    let matrix = c.make-matrix.result in
    let is = c.make-matrix.ensures ∙ h.matrix in
    let made : BarTable = record { matrix = matrix; lists = lists_of matrix rules ends; input = c.in_ok-kept.kept } in
    let table : IsTable g (record { matrix = matrix; lists = lists_of matrix rules ends; input = k })
    = root-table g k c.requires.ready h.keys h.least made is (lists-are matrix h.keys c.args.rules.now rules ends is h.lists c.in_ok-own.ensures) in
    subst (IsTable g) (ap (λ i. record { matrix = matrix; lists = lists_of matrix rules ends; input = i }) (sym c.in_ok-kept.ensures) ∙ sym c.of.ensures) table
