use Rattle.std.proofs.Common.{◌≡◌, ◌+◌, ◌++◌, List, length, take, drop, ap, ◌∙◌, arith, rules, subst, IfOk}
use Rattle.std.specs.Arc.{arc_slice_items}
use Rattle.rhythm_base.specs.declared.note.Note.{Note}
use Rattle.rhythm_base.specs.NoteBlocks.{Block, notes_of}
use Rattle.rhythm_base.proofs.NoteBlocks.{five, whole_length}
use Rattle.rhythm_base.proofs.notes.Notes.with_other.Goals as goal

pub blocks_before-requires-clause-place : goal.blocks_before-requires-clause-place
blocks_before-requires-clause-place c =
    let inside = c.self.inside in
    let is : inside.count ≡ length c.args.self.now =
    whole_length (arc_slice_items inside.blocks) inside.count c.self.invariant.0 ∙ ap length c.self.view_is in
    omega (arith, is, c.requires)

pub blocks_from-requires-clause-place : goal.blocks_from-requires-clause-place
blocks_from-requires-clause-place c =
    let inside = c.self.inside in
    let is : inside.count ≡ length c.args.self.now =
    whole_length (arc_slice_items inside.blocks) inside.count c.self.invariant.0 ∙ ap length c.self.view_is in
    omega (arith, is, c.requires)

pub overflow_add-from : goal.overflow_add-from
overflow_add-from c =
    let inside = c.self.inside in
    let is : inside.count ≡ length c.args.self.now =
    whole_length (arc_slice_items inside.blocks) inside.count c.self.invariant.0 ∙ ap length c.self.view_is in
    omega (arith, is, c.requires, c.self.invariant.1)

pub returns : goal.returns
returns c =
    let bs : List Block = arc_slice_items c.self.inside.blocks in
    let whole : notes_of c.as_slice-blocks.result.now ≡ c.args.self.now = ap notes_of c.as_slice-blocks.ensures.value ∙ c.self.view_is in
    let front : notes_of c.blocks_before.result.0.now ++ c.blocks_before.result.1.now ≡ take c.args.from c.args.self.now =
    c.blocks_before.ensures ∙ ap (λ l. take c.args.from l) whole in
    let back : c.blocks_from.result.0.now ++ notes_of c.blocks_from.result.1.now ≡ drop (c.args.from + c.args.dropped) c.args.self.now =
    c.blocks_from.ensures ∙ ap (λ l. drop (c.args.from + c.args.dropped) l) whole in
    let front_notes : List Note = notes_of c.blocks_before.result.0.now in
    let first : List Note = c.blocks_before.result.1.now in
    let last : List Note = c.blocks_from.result.0.now in
    let back_notes : List Note = notes_of c.blocks_from.result.1.now in
    let others : List Note = c.args.others.now in
    let changed : c.in_ok-changed.changed.items ≡ first ++ (others ++ last) = c.in_ok-changed.ensures in
    let pushed : c.push_shared.new.self ≡ front_notes = c.in_ok-push_shared.ensures ∙ ap (λ (l : List Note). l ++ front_notes) c.in_ok-list.ensures in
    let lent : c.as_slice.result.now ≡ c.in_ok-changed.changed.items = search rules in
    let more : c.push_notes.new.self ≡ front_notes ++ (first ++ (others ++ last)) =
    c.in_ok-push_notes.ensures ∙ (λ j. pushed j ++ (lent ∙ changed) j) in
    let all : c.push_shared-2.new.self ≡ (front_notes ++ (first ++ (others ++ last))) ++ back_notes =
    c.in_ok-push_shared-2.ensures ∙ ap (λ (l : List Note). l ++ back_notes) more in
    let is : c.push_shared-2.new.self ≡ take c.args.from c.args.self.now ++ (others ++ drop (c.args.from + c.args.dropped) c.args.self.now) =
    all ∙ five front_notes first others last back_notes ∙ (λ j. front j ++ (others ++ back j)) in
    subst (λ (l : List Note). IfOk c.finish.result (λ n. n ≡ l)) is c.finish.ensures
