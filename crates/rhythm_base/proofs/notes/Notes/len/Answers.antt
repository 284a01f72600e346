use Rattle.std.proofs.Common.{◌≡◌, length, ap, ◌∙◌, arith}
use Rattle.std.specs.Arc.{arc_slice_items}
use Rattle.rhythm_base.proofs.NoteBlocks.{whole_length}
use Rattle.rhythm_base.proofs.notes.Notes.len.Goals as goal

pub returns-clause-value : goal.returns-clause-value
returns-clause-value c =
    let inside = c.self.inside in
    whole_length (arc_slice_items inside.blocks) inside.count c.self.invariant.0 ∙ ap length c.self.view_is

pub returns-clause-few : goal.returns-clause-few
returns-clause-few c =
    let inside = c.self.inside in
    let is : inside.count ≡ length c.args.self.now =
    whole_length (arc_slice_items inside.blocks) inside.count c.self.invariant.0 ∙ ap length c.self.view_is in
    omega (arith, is, c.self.invariant.1)
