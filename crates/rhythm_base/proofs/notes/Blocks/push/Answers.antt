use Rattle.std.proofs.Common.{◌+◌, ◌++◌, ◌∙◌, rules, refl, subst, sym, ap, arith}
use Rattle.std.specs.Prelude.{List}
use Rattle.std.specs.Arc.{arc_slice_items}
use Rattle.rhythm_base.specs.NoteBlocks.{AreBlocks, Block, notes_of}
use Rattle.rhythm_base.specs.declared.note.Note.{Note}
use Rattle.rhythm_base.proofs.NoteBlocks.{blocks_push, notes_push}
use Rattle.rhythm_base.proofs.notes.Blocks.push.Goals as goal

pub invariant_of-self-2 : goal.invariant_of-self-2
invariant_of-self-2 c =
    let inside = c.self.inside in
    let b : Block = record { from = inside.count; notes = arc_slice_items c.args.notes } in
    let room = c.if-self-more.false in (
      subst (λ (bs : List Block). AreBlocks 0 bs (inside.count + c.len-more.result)) (sym c.in_ok-push.ensures.items)
          (blocks_push 0 inside.blocks.items inside.count c.len-more.result b c.self.invariant.0 refl (search rules)),
      omega (arith, room, c.self.invariant.1),
    )

pub returns : goal.returns
returns c =
    let inside = c.self.inside in
    let more : List Note = arc_slice_items c.args.notes in
    let b : Block = record { from = inside.count; notes = more } in
    ap notes_of c.in_ok-push.ensures.items ∙ notes_push inside.blocks.items b ∙ ap (λ (l : List Note). l ++ more) c.self.view_is
