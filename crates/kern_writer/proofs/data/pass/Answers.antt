use Rattle.std.proofs.Common.{ap, set, sym, ◌∙◌}
use Rattle.std.proofs.lemmas.List.Edits.{map_over_more}
use Rattle.kern_writer.specs.Columns.{tokens_after}
use Rattle.kern_writer.proofs.data.pass.Goals as goal

pub columns-preserved : goal.columns-preserved
columns-preserved c =
    let f = tokens_after c.args.place in
    let i = c.columns.column-index in
    let more = map_over_more f c.args.columns.now c.columns.columns i c.column-item.result c.columns-test.true c.columns.invariant c.column-item.is in
    ap (λ t. set c.columns.columns i t) (c.pass.ensures ∙ ap f (sym c.column-item.is)) ∙ more
