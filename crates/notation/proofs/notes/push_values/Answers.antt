use Rattle.std.proofs.Common.{◌∙◌}
use Rattle.std.proofs.lemmas.List.{take_rest}
use Rattle.notation.specs.Spelling.{IsNoteValue}
use Rattle.notation.proofs.Fronts.{first_at, more_hold}
use Rattle.notation.proofs.NoteLemmas.{first_value, no_value, note_ends, value_note}
use Rattle.notation.proofs.notes.push_values.Goals as goal

pub note-requires : goal.note-requires
note-requires c = c.values.invariant.each 0 no_value c.in-len1-up.len_at_least

pub values-preserved : goal.values-preserved
values-preserved c =
    let later = c.values.later.now in
    let v = first_value later in
    let split = first_at later _ no_value c.in-len1-up.len_at_least (take_rest later 1) in
    record {
      each = more_hold IsNoteValue later _ v split c.values.invariant.each;
      notes = value_note c.args.by.grid c.args.by.whole c.args.token.now c.values.first later _ v c.note.result c.values.list.items c.push.new.self.items _ split
          (c.note.ensures ∙ note_ends c.args.by.grid c.args.by.whole c.args.token.now c.values.first c.is_empty.result _ v c.is_empty.ensures)
          c.in_ok-push.ensures.items c.values.invariant.notes;
    }
