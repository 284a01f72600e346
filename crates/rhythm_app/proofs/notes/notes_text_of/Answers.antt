use Rattle.std.proofs.Common.{◌∙◌, ap, arith, inl, refl, Err, Some}
use Rattle.std.proofs.lemmas.Result.{err_from_is_err_and}
use Rattle.rhythm_app.specs.Asked.{notes}
use Rattle.rhythm_app.specs.Commands.{named}
use Rattle.rhythm_app.specs.Inputs.{file_content}
use Rattle.rhythm_app.specs.Outcome.{IsRead}
use Rattle.rhythm_app.specs.declared.stop.Kind.TheVariants as kind
use Rattle.rhythm_app.proofs.Noting.{noted}
use Rattle.rhythm_app.proofs.Performing.{midi_is_no_script, not_had, read_cause, read_end}
use Rattle.rhythm_app.proofs.notes.notes_text_of.Goals as goal

pub returns-in_err-played : goal.returns-in_err-played
returns-in_err-played g c =
    let midi = c.args.midi.now in
    let o = c.args.options in
    let said = c.in_err-played.ensures in
    let stop = c.in_err-played.field-0.0 in
    let p = err_from_is_err_and c.from_residual.result c.from_residual.ensures.1 in
    not_had (Some (notes midi o)) _ c.args.lent.now _ stop c.from_residual.result (p.1 ∙ ap Err p.2) c.lent.view_is refl said.files
    (λ files are. read_cause (notes midi o) kind.Midi midi files (IsRead (file_content files midi)) refl (λ s h. inl h) _ _ stop (said.tests files are) said.end midi_is_no_script)
    (read_end kind.Midi _ _ stop said.end midi_is_no_script) refl (λ files are names. said.strays files are (names 0 (named kind.Midi midi) (omega arith)))

pub returns : goal.returns
returns g c =
    let midi = c.args.midi.now in
    let o = c.args.options in
    let said = c.in_ok-played.ensures in
    noted midi o _ c.args.lent.now _ c.in_ok-played.played c.noted.result c.lent.view_is refl said.files said.tests c.noted.ensures.tests c.noted.ensures.content
    (λ files are names. said.strays files are (names 0 (named kind.Midi midi) (omega arith)))
