use Rattle.std.proofs.Common.{rules, tests, ◌==◌}
use Rattle.std.proofs.lemmas.Iterator.Search.{any_from_yields_List}
use Rattle.std.proofs.lemmas.Iterator.Splits.{YieldsList-from_slice_split}
use Rattle.kern_reader.specs.Lines.{begins_signature}
use Rattle.kern_reader.proofs.line_words.has_signature.Goals as goal

pub returns : goal.returns
returns c =
    any_from_yields_List (begins_signature) _ _ _ c.any.ensures.ran
    (YieldsList-from_slice_split _ (λ b. b == 9) c.args.line.now c.split.ensures.rest c.split.ensures.done c.split.ensures.closure (λ x r q k. search (rules, tests)))
    (λ x b q k. search (rules, tests))
