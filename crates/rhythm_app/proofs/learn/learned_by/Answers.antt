use Rattle.std.proofs.Common.{◌≡◌, ◌∙◌, [], ap, drop, length, subst}
use Rattle.rhythm_base.specs.Grammar.{Grammar}
use Rattle.rule_counts.specs.Counts.{AreRuleCounts}
use Rattle.rhythm_app.proofs.CountedFiles.{text_learned, text_stopped, uncounted}
use Rattle.rhythm_app.proofs.learn.learned_by.Goals as goal

pub returns-in_default : goal.returns-in_default
returns-in_default g c = uncounted c.args.bit c.args.grammar.now (drop 3 c.args.words.now) c.args.lent.now

pub returns-in-Ok-count_files : goal.returns-in-Ok-count_files
returns-in-Ok-count_files g c =
    let same : length c.as_slice.result.now ≡ length c.args.grammar.now.rules = ap length c.as_slice.ensures.value ∙ ap (λ (x : Grammar). length x.rules) c.grammar.view_is in
    let none = subst (λ n. AreRuleCounts n [] c.in-Ok.counts) same c.in-Ok.ensures in
    text_learned c.args.bit c.args.grammar.now (drop 3 c.args.words.now) c.in-Ok.counts c.count_files.new.counts c.args.lent.now c.count_files.new.lent none c.in-Ok-count_files.field-0 c.learned_text.result
    c.in-Ok-count_files.ensures c.learned_text.ensures.text c.learned_text.ensures.memory

pub returns : goal.returns
returns g c =
    let same : length c.as_slice.result.now ≡ length c.args.grammar.now.rules = ap length c.as_slice.ensures.value ∙ ap (λ (x : Grammar). length x.rules) c.grammar.view_is in
    let none = subst (λ n. AreRuleCounts n [] c.in-Ok.counts) same c.in-Ok.ensures in
    text_stopped c.args.bit c.args.grammar.now (drop 3 c.args.words.now) c.in-Ok.counts c.count_files.new.counts c.args.lent.now c.count_files.new.lent none c.in-Err.stop c.in-Err.ensures
