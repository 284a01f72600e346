use Rattle.std.proofs.Common.{◌≡◌, ap, sym, subst, ◌∙◌, arith, length}
use Rattle.kern_reader.specs.declared.fault.KernWhat.TheVariants.{Memory}
use Rattle.kern_reader.specs.Outcome.{IsLineToRead, read_from}
use Rattle.text_words.specs.Lines.{text_lines}
use Rattle.kern_reader.proofs.LinesToRead.{fault_handed, line_to_read, rest_next}
use Rattle.kern_reader.proofs.read.read_kern.Goals as goal

pub lines-preserved : goal.lines-preserved
lines-preserved c =
    let (before, is, same) = c.lines.invariant.before in
    let n = c.lines.number in
    let (after, next, step) = c.in_ok-read_line.ensures.read before (text_lines c.first_line.result.1.now) is in
    let count = ap length c.first_line.ensures.line in
    record {
      before = (after, next, sym step ∙ ap (read_from before n) (sym c.first_line.ensures.line) ∙ same);
      some = omega (arith, c.lines.invariant.some);
      small = omega (arith, c.lines.invariant.small, c.first_line.ensures.shorter);
      rest = rest_next _ _ _ _ n c.lines.invariant.some c.lines.invariant.rest c.first_line.ensures.line;
      count = omega (arith, c.lines.invariant.count, count);
    }

pub returns-in_err-read_line-clause-memory : goal.returns-in_err-read_line-clause-memory
returns-in_err-read_line-clause-memory c =
    let (before, is, same) = c.lines.invariant.before in
    let n = c.lines.number in
    let first = c.first_line.ensures.line in
    let said = c.in_err-read_line.ensures.said in
    fault_handed (λ fault. fault.what ≡ Memory → IsLineToRead c.args.bytes.now fault.line) c.from_residual.result c.in_err-read_line.field-0.0 c.from_residual.ensures
    (λ memory. subst (IsLineToRead c.args.bytes.now) (sym c.in_err-read_line.ensures.line)
    (line_to_read c.args.bytes.now before n _ _ c.lines.invariant.some said (c.in_err-read_line.ensures.memory memory) (ap (read_from before n) (sym first) ∙ same) (sym first ∙ c.lines.invariant.rest)))
