use Rattle.std.proofs.Common.{◌≡◌, ◌+◌, suc, ◌∷◌, false, sym, subst, ◌∙◌, arith}
use Rattle.kern_reader.specs.Lines.{line_of}
use Rattle.kern_reader.specs.Reading.{IsReading}
use Rattle.kern_reader.specs.Text.{is_skipped}
use Rattle.kern_reader.proofs.TextLemmas.{read_next, read_stops}
use Rattle.kern_reader.proofs.read.read_line.Goals as goal

pub returns-in-Ok-clause-read : goal.returns-in-Ok-clause-read
returns-in-Ok-clause-read c = λ before texts is.
    let text = c.args.text.now in
    let n = c.args.number in
    let said : is_skipped text ≡ false = sym c.begins_with.ensures ∙ c.if-begins_with.false in
    let (none, next) = c.in-Ok.ensures.read n before is in
    let more : suc n ≡ n + 1 = omega arith in
    (line_of text ∷ before, subst (λ k. IsReading k (line_of text ∷ before) c.read.new.self) more next, read_next before n text texts said none)

pub returns-in-Err-clause-fault : goal.returns-in-Err-clause-fault
returns-in-Err-clause-fault c = λ ready before texts is.
    let text = c.args.text.now in
    let said : is_skipped text ≡ false = sym c.begins_with.ensures ∙ c.if-begins_with.false in
    read_stops before c.args.number text texts c.in-Err.what said (c.in-Err.ensures.fault ready c.args.number before is)
