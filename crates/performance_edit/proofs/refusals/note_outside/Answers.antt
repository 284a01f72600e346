use Rattle.std.proofs.Common.{rules, ◌≡◌, ◌∙◌, ap}
use Rattle.std.specs.Option.{option_map}
use Rattle.rhythm_base.specs.declared.edit_fault.EditFault.TheVariants.{NoteOutside}
use Rattle.performance_edit.proofs.Searches.{least-past}
use Rattle.performance_edit.proofs.refusals.note_outside.Goals as goal

pub returns : goal.returns
returns c =
    let said : c.map.result ≡ option_map NoteOutside c.least_past.result = search rules in
    said ∙ ap (option_map NoteOutside) c.least_past.ensures ∙ least-past NoteOutside c.args.tick c.args.notes.now
