use Rattle.std.proofs.Common.{subst, sym}
use Rattle.rhythm_base.specs.Performance.{IsWellFormed}
use Rattle.performance_edit.proofs.Formed.{after-formed, with_parts-after}
use Rattle.performance_edit.proofs.edits.performance_after.Goals as goal

pub with_parts-requires : goal.with_parts-requires
with_parts-requires c =
    let p = c.args.performance.now in
    let edit = c.args.edit.now in
    let formed = subst IsWellFormed (sym (with_parts-after p edit)) (after-formed p edit c.bars_after.ensures.formed c.requires.range c.requires.made) in
    rw (c.in_ok-bars.ensures.bars, c.last_after-last.ensures, c.in_ok-notes.ensures, c.in_ok-pins.ensures) formed
