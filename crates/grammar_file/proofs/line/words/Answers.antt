use Rattle.std.proofs.Common.{◌≡◌, rules, tests, ◌==◌, ◌∙◌, length, map, not}
use Rattle.std.proofs.lemmas.Iterator.Consumers.{YieldsList-at, YieldsList-from_filter, map_from_collect}
use Rattle.std.proofs.lemmas.Iterator.Splits.{YieldsList-from_slice_split}
use Rattle.grammar_file.specs.Lines.{is_blank, grammar_words}
use Rattle.grammar_file.proofs.OutcomeLemmas.{at_ok}
use Rattle.grammar_file.proofs.line.words.Goals as goal

pub returns : goal.returns
returns c =
    c.of.ensures
    ∙ at_ok (λ v. map (λ x. x.now) v.items ≡ grammar_words c.args.line.now) c.collect.result _ c.in_ok-collect.was
    (map_from_collect _ c.collect.ensures.ran
    (YieldsList-from_filter _ (λ word. not (length word == 0))
    (YieldsList-at c.filter-words.ensures.source
    (YieldsList-from_slice_split _ is_blank c.args.line.now c.split.ensures.rest c.split.ensures.done c.split.ensures.closure
    (λ x r q k. search (rules, tests))))
    c.filter-words.ensures.closure (λ x r q k. search (rules, tests))))
