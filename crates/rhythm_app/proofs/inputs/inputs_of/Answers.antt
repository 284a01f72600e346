use Rattle.std.proofs.Common.{◌∙◌, arith}
use Rattle.std.proofs.lemmas.Result.{err_from_is_err_and}
use Rattle.rhythm_app.specs.Inputs.{shown_inputs, shown_name}
use Rattle.rhythm_app.proofs.InputNames.{midi_there, grammar_there, script_there}
use Rattle.rhythm_app.proofs.Sessions.{inputs_cause, loaded_follows, unfound_follows, unloaded_follows, unread_grammar, unread_midi, unread_script}
use Rattle.rhythm_app.proofs.inputs.inputs_of.Goals as goal

pub returns-in_err-played-clause-cause : goal.returns-in_err-played-clause-cause
returns-in_err-played-clause-cause g c =
    let p = err_from_is_err_and c.from_residual.result c.from_residual.ensures.1 in
    rw (p.1, p.2) (λ files are. unread_midi (shown_inputs c.args.inputs) files _ _ c.in_err-played.field-0.0 (c.in_err-played.ensures.tests files are) c.in_err-played.ensures.end)

pub returns-in_err-grammar-clause-cause : goal.returns-in_err-grammar-clause-cause
returns-in_err-grammar-clause-cause g c =
    let p = err_from_is_err_and c.from_residual-in_err-grammar.result c.from_residual-in_err-grammar.ensures.1 in
    rw (p.1, p.2) (λ files are. unread_grammar (shown_inputs c.args.inputs) files c.in_ok-played.played _ _ c.in_err-grammar.field-0.0 (c.in_ok-played.ensures.tests files are)
    (c.in_err-grammar.ensures.tests files (c.in_ok-played.ensures.files ∙ are)) c.in_err-grammar.ensures.end)

pub returns-in_err-script-clause-cause : goal.returns-in_err-script-clause-cause
returns-in_err-script-clause-cause g c =
    let p = err_from_is_err_and c.from_residual-in_err-script.result c.from_residual-in_err-script.ensures.1 in
    rw (p.1, p.2) (λ files are. unread_script (shown_inputs c.args.inputs) files c.in_ok-played.played c.in_ok-grammar.grammar _ _ c.in_err-script.field-0.0 c.in_err-script.ensures.named (c.in_ok-played.ensures.tests files are)
    (c.in_ok-grammar.ensures.tests files (c.in_ok-played.ensures.files ∙ are)) (c.in_err-script.ensures.tests files (c.in_ok-grammar.ensures.files ∙ c.in_ok-played.ensures.files ∙ are))
    c.in_err-script.ensures.end)

pub returns-in_err-played-clause-strays : goal.returns-in_err-played-clause-strays
returns-in_err-played-clause-strays g c = λ files are names. c.in_err-played.ensures.strays files are (midi_there (shown_inputs c.args.inputs) files names)

pub returns-in_err-grammar-clause-strays : goal.returns-in_err-grammar-clause-strays
returns-in_err-grammar-clause-strays g c = λ files are names.
    c.in_err-grammar.ensures.strays files (c.in_ok-played.ensures.files ∙ are) (grammar_there (shown_inputs c.args.inputs) files names)
    ∙ c.in_ok-played.ensures.strays files are (midi_there (shown_inputs c.args.inputs) files names)

pub returns-in_err-script-clause-strays : goal.returns-in_err-script-clause-strays
returns-in_err-script-clause-strays g c = λ files are names.
    let i = shown_inputs c.args.inputs in
    c.in_err-script.ensures.strays files (c.in_ok-grammar.ensures.files ∙ c.in_ok-played.ensures.files ∙ are) (script_there i files names)
    ∙ c.in_ok-grammar.ensures.strays files (c.in_ok-played.ensures.files ∙ are) (grammar_there i files names) ∙ c.in_ok-played.ensures.strays files are (midi_there i files names)

pub returns-in-Ok-clause-strays : goal.returns-in-Ok-clause-strays
returns-in-Ok-clause-strays g c = λ files are names.
    let i = shown_inputs c.args.inputs in
    c.in_ok-script.ensures.strays files (c.in_ok-grammar.ensures.files ∙ c.in_ok-played.ensures.files ∙ are) (script_there i files names)
    ∙ c.in_ok-grammar.ensures.strays files (c.in_ok-played.ensures.files ∙ are) (grammar_there i files names) ∙ c.in_ok-played.ensures.strays files are (midi_there i files names)

pub returns-clause-tests : goal.returns-clause-tests
returns-clause-tests g c = λ files are.
    unloaded_follows (shown_inputs c.args.inputs) files c.in_ok-played.played c.in_ok-grammar.grammar c.in_ok-script.script.items
    (c.in_ok-played.ensures.tests files are) (c.in_ok-grammar.ensures.tests files (c.in_ok-played.ensures.files ∙ are))
    (c.in_ok-script.ensures.tests files (c.in_ok-grammar.ensures.files ∙ c.in_ok-played.ensures.files ∙ are)) c.in-Err.stop c.in-Err.ensures.tests

pub returns-clause-cause : goal.returns-clause-cause
returns-clause-cause g c = λ files are.
    inputs_cause (shown_inputs c.args.inputs) files c.in-Err.stop
    (unloaded_follows (shown_inputs c.args.inputs) files c.in_ok-played.played c.in_ok-grammar.grammar c.in_ok-script.script.items
    (c.in_ok-played.ensures.tests files are) (c.in_ok-grammar.ensures.tests files (c.in_ok-played.ensures.files ∙ are))
    (c.in_ok-script.ensures.tests files (c.in_ok-grammar.ensures.files ∙ c.in_ok-played.ensures.files ∙ are)) c.in-Err.stop c.in-Err.ensures.tests) c.in-Err.ensures.content

pub returns-clause-strays : goal.returns-clause-strays
returns-clause-strays g c = λ files are names.
    let i = shown_inputs c.args.inputs in
    c.in_ok-script.ensures.strays files (c.in_ok-grammar.ensures.files ∙ c.in_ok-played.ensures.files ∙ are) (script_there i files names)
    ∙ c.in_ok-grammar.ensures.strays files (c.in_ok-played.ensures.files ∙ are) (grammar_there i files names) ∙ c.in_ok-played.ensures.strays files are (midi_there i files names)

pub returns-in-Ok-clause-tests : goal.returns-in-Ok-clause-tests
returns-in-Ok-clause-tests g c = λ files are.
    loaded_follows (shown_inputs c.args.inputs) files c.in_ok-played.played c.in_ok-grammar.grammar c.in_ok-script.script.items
    (c.in_ok-played.ensures.tests files are) (c.in_ok-grammar.ensures.tests files (c.in_ok-played.ensures.files ∙ are))
    (c.in_ok-script.ensures.tests files (c.in_ok-grammar.ensures.files ∙ c.in_ok-played.ensures.files ∙ are)) c.in-Ok.performance c.in-Ok.ensures.tests

pub returns-in_err-script-clause-tests : goal.returns-in_err-script-clause-tests
returns-in_err-script-clause-tests g c =
    let p = err_from_is_err_and c.from_residual-in_err-script.result c.from_residual-in_err-script.ensures.1 in
    rw (p.1, p.2) (λ files are. unfound_follows (shown_inputs c.args.inputs) files c.in_ok-played.played c.in_ok-grammar.grammar c.in_err-script.field-0.0 (c.in_ok-played.ensures.tests files are)
    (c.in_ok-grammar.ensures.tests files (c.in_ok-played.ensures.files ∙ are)) (c.in_err-script.ensures.tests files (c.in_ok-grammar.ensures.files ∙ c.in_ok-played.ensures.files ∙ are)))
