use Rattle.std.proofs.Common.{set, ap, sym, ◌∙◌}
use Rattle.std.proofs.lemmas.List.Edits.{map_over_more}
use Rattle.kern_reader.specs.Columns.{at_bar}
use Rattle.kern_reader.proofs.spine.begin_bar.Goals as goal

pub spines-preserved : goal.spines-preserved
spines-preserved c =
    let i = c.spines.spine-index in
    ap (λ s. set c.spines.spines i s) (c.at_bar.ensures ∙ ap at_bar (sym c.spine-item.is))
    ∙ map_over_more at_bar c.args.spines.now c.spines.spines i c.spine-item.result c.spines-test.true c.spines.invariant c.spine-item.is
