use Rattle.std.proofs.Common.{◌∙◌, sym, ap, subst}
use Rattle.rhythm_base.specs.Ranked.{product_of}
use Rattle.carry_matrix.specs.Rows.{AreRows, entries_of}
use Rattle.carry_matrix.proofs.Rows.{each_row, entries_back, matrix_rows, row_for}
use Rattle.path_laws.proofs.ProductCosts.{product_low}
use Rattle.path_laws.proofs.PathTables.{product_ranked}
use Rattle.carry_matrix.proofs.products.product.Goals as goal

pub of-requires-6 : goal.of-requires-6
of-requires-6 g c =
    let p = product_of c.args.a.now c.args.b.now in
    subst AreRows (sym (each_row p _ _ _ _ _ (row_for p c.product_row-first.result c.product_row-first.ensures c.of.ensures) (row_for p c.product_row-second.result c.product_row-second.ensures c.of-2.ensures) (row_for p c.product_row-third.result c.product_row-third.ensures c.of-3.ensures) (row_for p c.product_row-fourth.result c.product_row-fourth.ensures c.of-4.ensures) (row_for p c.product_row-fifth.result c.product_row-fifth.ensures c.of-5.ensures)))
    (matrix_rows p (product_ranked c.args.a.now c.args.b.now c.see.ensures c.see-2.ensures) (product_low c.args.a.now c.args.b.now c.requires.small))

pub returns-clause-result : goal.returns-clause-result
returns-clause-result g c =
    let p = product_of c.args.a.now c.args.b.now in
    c.of-6.ensures
    ∙ ap entries_of (each_row p _ _ _ _ _ (row_for p c.product_row-first.result c.product_row-first.ensures c.of.ensures) (row_for p c.product_row-second.result c.product_row-second.ensures c.of-2.ensures) (row_for p c.product_row-third.result c.product_row-third.ensures c.of-3.ensures) (row_for p c.product_row-fourth.result c.product_row-fourth.ensures c.of-4.ensures) (row_for p c.product_row-fifth.result c.product_row-fifth.ensures c.of-5.ensures))
    ∙ entries_back p (product_ranked c.args.a.now c.args.b.now c.see.ensures c.see-2.ensures) (product_low c.args.a.now c.args.b.now c.requires.small)
