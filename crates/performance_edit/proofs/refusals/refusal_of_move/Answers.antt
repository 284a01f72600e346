use Rattle.std.proofs.Common.{sym, ap, ◌∙◌, Some}
use Rattle.rhythm_base.specs.declared.edit_fault.EditFault.TheVariants.{PastEnd}
use Rattle.edit_laws.specs.Edits.{has_note, is_past, moved_to, note_at, without_note}
use Rattle.performance_edit.proofs.Searches.{no_fault, no_note, note-end, past_end, same_note}
use Rattle.performance_edit.proofs.refusals.refusal_of_move.Goals as goal

pub returns-in_default : goal.returns-in_default
returns-in_default c =
    let found = ap (λ l. note_at l c.args.channel c.args.key c.args.onset) (sym c.notes-notes.ensures.value) ∙ sym c.in_default.ensures in
    sym (no_note c.args.performance.now c.args.channel c.args.key c.args.onset c.args.to (sym c.if-lacks_voice.ensures) found)

pub moved_to-requires : goal.moved_to-requires
moved_to-requires c =
    let found = ap (λ l. note_at l c.args.channel c.args.key c.args.onset) (sym c.notes-notes.ensures.value) ∙ sym c.in-Some.ensures in
    record { onset = c.requires.3; end = note-end c.args.performance.now c.args.channel c.args.key c.args.onset c.in-Some.note c.notes-notes.ensures.formed found }

pub returns-then-has_other : goal.returns-then-has_other
returns-then-has_other c =
    let found = ap (λ l. note_at l c.args.channel c.args.key c.args.onset) (sym c.notes-notes.ensures.value) ∙ sym c.in-Some.ensures in
    let same = ap (λ l. has_note (without_note c.args.channel c.args.key c.args.onset l) c.args.channel c.args.key c.args.to) (sym c.notes-notes.ensures.value) ∙ sym c.if-has_other.ensures in
    sym (same_note c.args.performance.now c.args.channel c.args.key c.args.onset c.args.to c.in-Some.note (sym c.if-lacks_voice.ensures) found same)

pub returns-then-is_past : goal.returns-then-is_past
returns-then-is_past c =
    let found = ap (λ l. note_at l c.args.channel c.args.key c.args.onset) (sym c.notes-notes.ensures.value) ∙ sym c.in-Some.ensures in
    let free = ap (λ l. has_note (without_note c.args.channel c.args.key c.args.onset l) c.args.channel c.args.key c.args.to) (sym c.notes-notes.ensures.value) ∙ sym c.if-has_other.ensures in
    let past = ap (λ t. is_past t (moved_to c.args.to c.in-Some.note)) (sym c.last-last.ensures) ∙ ap (is_past c.last-last.result) (sym c.moved_to.ensures) ∙ sym c.if-is_past.ensures in
    ap (λ t. Some (PastEnd t)) c.last-last.ensures
    ∙ sym (past_end c.args.performance.now c.args.channel c.args.key c.args.onset c.args.to c.in-Some.note (sym c.if-lacks_voice.ensures) found free past)

pub returns-else-is_past : goal.returns-else-is_past
returns-else-is_past c =
    let found = ap (λ l. note_at l c.args.channel c.args.key c.args.onset) (sym c.notes-notes.ensures.value) ∙ sym c.in-Some.ensures in
    let free = ap (λ l. has_note (without_note c.args.channel c.args.key c.args.onset l) c.args.channel c.args.key c.args.to) (sym c.notes-notes.ensures.value) ∙ sym c.if-has_other.ensures in
    let inside = ap (λ t. is_past t (moved_to c.args.to c.in-Some.note)) (sym c.last-last.ensures) ∙ ap (is_past c.last-last.result) (sym c.moved_to.ensures) ∙ sym c.if-is_past.ensures in
    sym (no_fault c.args.performance.now c.args.channel c.args.key c.args.onset c.args.to c.in-Some.note (sym c.if-lacks_voice.ensures) found free inside)
