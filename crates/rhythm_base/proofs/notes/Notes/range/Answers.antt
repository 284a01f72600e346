use Rattle.std.proofs.Common.{◌≡◌, length, ap, ◌∙◌, arith}
use Rattle.std.specs.Arc.{arc_slice_items}
use Rattle.rhythm_base.proofs.NoteBlocks.{whole_length}
use Rattle.rhythm_base.proofs.notes.Notes.range.Goals as goal

pub blocks_from-requires-clause-place : goal.blocks_from-requires-clause-place
blocks_from-requires-clause-place c =
    let inside = c.self.inside in
    let is : inside.count ≡ length c.args.self.now =
    whole_length (arc_slice_items inside.blocks) inside.count c.self.invariant.0 ∙ ap length c.self.view_is in
    omega (arith, is, c.requires.from, c.requires.up_to)
