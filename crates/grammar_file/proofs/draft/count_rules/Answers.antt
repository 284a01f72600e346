use Rattle.std.proofs.Common.{rules, tests}
use Rattle.std.proofs.lemmas.Iterator.{YieldsList-from_slice}
use Rattle.std.proofs.lemmas.Iterator.Consumers.{YieldsList-from_filter, count_from_yields_List}
use Rattle.grammar_file.specs.Statements.{is_rule}
use Rattle.grammar_file.proofs.draft.count_rules.Goals as goal

pub returns : goal.returns
returns c =
    count_from_yields_List _ _ c.count.ensures.ran
    (YieldsList-from_filter _ is_rule (YieldsList-from_slice c.args.spoken.now (cc)) c.filter.ensures.closure (λ x r q k. search (rules, tests)))
