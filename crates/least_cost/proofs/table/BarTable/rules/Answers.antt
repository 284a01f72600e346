use Rattle.std.proofs.Common.{sym, ap, ◌∙◌}
use Rattle.std.specs.Prelude.{Some}
use Rattle.rhythm_base.specs.BarTables.{list_at}
use Rattle.bar_trees.specs.WrittenLists.{list_of, list_number}
use Rattle.least_cost.specs.KeptRules.{rules_of}
use Rattle.least_cost.specs.Tables.{list_where}
use Rattle.least_cost.proofs.TableLists.{list-where}
use Rattle.least_cost.proofs.table.BarTable.rules.Goals as goal

pub returns-in-Some : goal.returns-in-Some
returns-in-Some c =
    let x = c.self.inside in
    let from = c.args.from in
    let to = c.args.to in
    ap Some c.list_in.ensures ∙ (λ i. Some (list_of c.as_slice.result.now x.ends (list_number (c.of-row.ensures i) (c.of-column.ensures i)))) ∙ ap (λ rules. Some (list_of rules x.ends (list_number from to))) c.as_slice.ensures ∙ ap (λ e. list_where e (list_of (rules_of x.rules) x.ends (list_number from to))) c.in-Some.ensures.is
    ∙ sym (list-where x.matrix (rules_of x.rules) x.ends from to c.requires.from c.requires.to) ∙ ap (λ t. list_at t from to) c.self.view_is
