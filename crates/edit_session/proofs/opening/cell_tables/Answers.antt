use Rattle.std.proofs.Common.{◌≡◌, length, subst, sym, ap, ◌∙◌}
use Rattle.std.specs.Prelude.{All}
use Rattle.rhythm_base.specs.Counter.{risen}
use Rattle.bar_pool.specs.Pool.{AreTablesOf, RisesWithin}
use Rattle.std.proofs.lemmas.Result.{err_from_is_err_and}
use Rattle.edit_session.specs.Opening.{cells_of}
use Rattle.edit_session.proofs.Tables.{cells_long, cells_units}
use Rattle.edit_session.proofs.opening.cell_tables.Goals as goal

pub build_cells-requires-clause-units : goal.build_cells-requires-clause-units
build_cells-requires-clause-units g c κs within =
    subst (λ ks. All (λ k. k.resolution ≡ c.args.grammar.now.resolution) ks) (sym c.as_slice.ensures.value)
    (cells_units c.args.grammar.now c.args.performance.now c.in_ok-inputs.inputs.items c.in_ok-inputs.ensures.inputs)

pub returns-clause-tables : goal.returns-clause-tables
returns-clause-tables g c = record {
  inputs = c.in_ok-inputs.inputs.items;
  are_inputs = c.in_ok-inputs.ensures.inputs;
  are = subst (λ ks. AreTablesOf c.args.grammar.now ks c.in_ok-tables.tables.items) c.as_slice.ensures.value c.in_ok-tables.ensures.tables;
}

pub returns-clause-builds : goal.returns-clause-builds
returns-clause-builds g c =
    let long : length c.as_slice.result.now ≡ cells_of c.args.performance.now =
    ap length c.as_slice.ensures.value ∙ cells_long c.args.grammar.now c.args.performance.now c.in_ok-inputs.inputs.items c.in_ok-inputs.ensures.inputs in
    c.in_ok-tables.ensures.builds ∙ ap (λ n. risen c.args.builds.now n) long

pub returns-in_err-tables-clause-built : goal.returns-in_err-tables-clause-built
returns-in_err-tables-clause-built g c =
    let p = err_from_is_err_and c.from_residual-in_err-tables.result c.from_residual-in_err-tables.ensures.1 in
    let long : length c.as_slice.result.now ≡ cells_of c.args.performance.now =
    ap length c.as_slice.ensures.value ∙ cells_long c.args.grammar.now c.args.performance.now c.in_ok-inputs.inputs.items c.in_ok-inputs.ensures.inputs in
    rw (p.1, p.2) (subst (λ n. RisesWithin c.args.builds.now c.build_cells.new.builds n) long c.build_cells.ensures.most)
