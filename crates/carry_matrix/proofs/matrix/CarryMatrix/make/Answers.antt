use Rattle.std.proofs.Common.{◌∙◌, sym, ap, subst}
use Rattle.carry_matrix.specs.Rows.{AreRows, entries_of}
use Rattle.carry_matrix.proofs.Rows.{each_row, entries_back, matrix_rows}
use Rattle.carry_matrix.proofs.matrix.CarryMatrix.make.Goals as goal

pub of-requires : goal.of-requires
of-requires c =
    subst AreRows (sym (each_row c.args.entries _ _ _ _ _ c.row_of-first.ensures c.row_of-second.ensures c.row_of-third.ensures c.row_of-fourth.ensures c.row_of-fifth.ensures))
    (matrix_rows c.args.entries c.requires.ranks c.requires.costs)

pub returns : goal.returns
returns c =
    c.of.ensures
    ∙ ap entries_of (each_row c.args.entries _ _ _ _ _ c.row_of-first.ensures c.row_of-second.ensures c.row_of-third.ensures c.row_of-fourth.ensures c.row_of-fifth.ensures)
    ∙ entries_back c.args.entries c.requires.ranks c.requires.costs
