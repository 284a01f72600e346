use Rattle.std.proofs.Common.{◌∙◌, ap, arith, inl, refl, Err, Some}
use Rattle.std.proofs.lemmas.Result.{err_from_is_err_and}
use Rattle.rhythm_app.specs.Asked.{events}
use Rattle.rhythm_app.specs.Commands.{named}
use Rattle.rhythm_app.specs.Inputs.{file_content}
use Rattle.rhythm_app.specs.Outcome.{IsScoreRead}
use Rattle.rhythm_app.specs.declared.stop.Kind.TheVariants as kind
use Rattle.rhythm_app.proofs.Listing.{listed}
use Rattle.rhythm_app.proofs.Performing.{kern_is_no_script, not_had, read_cause, read_end}
use Rattle.rhythm_app.proofs.events.events_text.Goals as goal

pub returns-in_err-score : goal.returns-in_err-score
returns-in_err-score g c =
    let stop = c.in_err-score.field-0.0 in
    let p = err_from_is_err_and c.from_residual.result c.from_residual.ensures.1 in
    not_had (Some (events c.args.kern.now)) _ c.args.lent.now _ stop c.from_residual.result (p.1 ∙ ap Err p.2) c.lent.view_is refl c.in_err-score.ensures.files
    (λ files are. read_cause (events c.args.kern.now) kind.Kern c.args.kern.now files (IsScoreRead (file_content files c.args.kern.now)) refl (λ s h. inl h) _ _ stop (c.in_err-score.ensures.tests files are) c.in_err-score.ensures.end kern_is_no_script)
    (read_end kind.Kern _ _ stop c.in_err-score.ensures.end kern_is_no_script) refl
    (λ files are names. c.in_err-score.ensures.strays files are (names 0 (named kind.Kern c.args.kern.now) (omega arith)))

pub returns : goal.returns
returns g c =
    listed c.args.kern.now _ c.args.lent.now _ c.in_ok-score.score c.listing.result c.lent.view_is refl c.in_ok-score.ensures.files c.in_ok-score.ensures.tests c.listing.ensures.text c.listing.ensures.memory
    (λ files are names. c.in_ok-score.ensures.strays files are (names 0 (named kind.Kern c.args.kern.now) (omega arith)))
