use Rattle.std.proofs.Common.{◌∙◌, ap, sym}
use Rattle.rhythm_app.specs.Asked.{command_by}
use Rattle.rhythm_app.specs.Inputs.{shown_name}
use Rattle.rhythm_app.proofs.CountedWords.{seven_words, three_words, two_words}
use Rattle.rhythm_app.proofs.request.command_of.Goals as goal

pub returns-in-2-clause-asked : goal.returns-in-2-clause-asked
returns-in-2-clause-asked c =
    c.request_of_one.ensures.asked
    ∙ sym (ap (command_by c.args.options.now (shown_name c.args.script)) (two_words c.args.words.now c.in_ok-word.word.now c.in_ok-first.first.now (sym c.count.ensures ∙ c.in-2.is) c.in_ok-word.ensures c.in_ok-first.ensures))

pub returns-in_ok-second-in-3-clause-asked : goal.returns-in_ok-second-in-3-clause-asked
returns-in_ok-second-in-3-clause-asked c =
    c.request_of_two.ensures.asked
    ∙ sym (ap (command_by c.args.options.now (shown_name c.args.script)) (three_words c.args.words.now c.in_ok-word.word.now c.in_ok-first.first.now c.in_ok-second-in-3.second.now (sym c.count.ensures ∙ c.in-3.is) c.in_ok-word.ensures c.in_ok-first.ensures
    c.in_ok-second-in-3.ensures))

pub returns-in_ok-step-in-7-clause-asked : goal.returns-in_ok-step-in-7-clause-asked
returns-in_ok-step-in-7-clause-asked c =
    c.request_of_six.ensures.asked
    ∙ sym (ap (command_by c.args.options.now (shown_name c.args.script)) (seven_words c.args.words.now c.in_ok-word.word.now c.in_ok-first.first.now c.in_ok-get-in-7.field-0.now c.in_ok-bar-in-7.bar.now c.in_ok-low-in-7.low.now c.in_ok-high-in-7.high.now
    c.in_ok-step-in-7.step.now (sym c.count.ensures ∙ c.in-7.is) c.in_ok-word.ensures c.in_ok-first.ensures c.in_ok-get-in-7.ensures c.in_ok-bar-in-7.ensures c.in_ok-low-in-7.ensures c.in_ok-high-in-7.ensures
    c.in_ok-step-in-7.ensures))
