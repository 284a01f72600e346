use Rattle.std.proofs.Common.{ap, ◌<◌, length, arith}
use Rattle.kern_reader.specs.Lines.{signature_line}
use Rattle.kern_reader.proofs.SignatureLemmas.{short_word}
use Rattle.kern_reader.proofs.line_reading.signature_line.Goals as goal

pub returns-then-first-lt2-clause-line : goal.returns-then-first-lt2-clause-line
returns-then-first-lt2-clause-line c =
    let short : length c.args.first.now < 2 = omega arith in
    ap signature_line (short_word c.args.first.now short)
