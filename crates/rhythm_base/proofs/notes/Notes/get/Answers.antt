use Rattle.std.proofs.Common.{◌≡◌, ◌-◌, List, ap, ◌∙◌, sym, subst, get_or, Some}
use Rattle.std.specs.Prelude.{slice_get}
use Rattle.std.specs.Arc.{arc_slice_items}
use Rattle.rhythm_base.specs.declared.note.Note.{Note}
use Rattle.rhythm_base.specs.NoteBlocks.{Block, IsBlockOf}
use Rattle.rhythm_base.proofs.NoteBlocks.{get_at}
use Rattle.rhythm_base.proofs.notes.Notes.get.Goals as goal

pub returns-in-Some : goal.returns-in-Some
returns-in-Some c =
    let bs : List Block = arc_slice_items c.self.inside.blocks in
    let number = c.args.number in
    let i = c.in-Some.place in
    let d : Block = c.index-blocks-place.result in
    let are : c.as_slice-blocks.result.now ≡ bs = c.as_slice-blocks.ensures.value in
    let same : d ≡ get_or bs i d = c.index-blocks-place.is ∙ ap (λ (l : List Block). get_or l i d) are in
    let of : IsBlockOf bs number (Some i) = subst (λ (l : List Block). IsBlockOf l number (Some i)) are c.in-Some.ensures in
    let from = c.from.ensures ∙ ap (λ (b : Block). b.from) same in
    let own = c.notes.ensures ∙ ap (λ (b : Block). b.notes) same in
    c.note_at.ensures ∙ (λ j. slice_get (own j) (number - from j))
    ∙ sym (get_at bs c.self.inside.count number i d c.self.invariant.0 of)
    ∙ ap (λ (l : List Note). slice_get l number) c.self.view_is
