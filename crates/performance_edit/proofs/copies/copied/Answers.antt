use Rattle.std.proofs.Common.{◌∙◌}
use Rattle.performance_edit.proofs.copies.copied.Goals as goal

pub with_parts-requires : goal.with_parts-requires
with_parts-requires c =
    let notes = c.in_ok-notes.ensures ∙ c.notes.ensures.value in
    rw (c.in_ok-bars.ensures, notes, c.in_ok-pins.ensures, c.last.ensures) c.notes.ensures.formed
