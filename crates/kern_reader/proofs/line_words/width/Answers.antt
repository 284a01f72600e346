use Rattle.std.proofs.Common.{◌==◌, arith}
use Rattle.std.proofs.lemmas.List.Splits.{length-slice_split}
use Rattle.kern_reader.proofs.line_words.width.Goals as goal

pub returns : goal.returns
returns c = omega (arith, c.tabs.ensures.count, length-slice_split (λ b. b == 9) c.args.line.now)
