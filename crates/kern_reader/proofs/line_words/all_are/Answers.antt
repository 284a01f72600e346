use Rattle.std.proofs.Common.{rules, tests, ◌==◌}
use Rattle.std.proofs.lemmas.Iterator.Search.{all_from_yields_List}
use Rattle.std.proofs.lemmas.Iterator.Splits.{YieldsList-from_slice_split}
use Rattle.std.specs.Str.{bytes_eq}
use Rattle.kern_reader.proofs.line_words.all_are.Goals as goal

pub returns : goal.returns
returns c =
    all_from_yields_List (λ text. bytes_eq text c.args.word.now) _ _ _ c.all.ensures.ran
    (YieldsList-from_slice_split _ (λ b. b == 9) c.args.line.now c.split.ensures.rest c.split.ensures.done c.split.ensures.closure (λ x r q k. search (rules, tests)))
    (λ x b q k. search (rules, tests))
