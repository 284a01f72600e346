use Rattle.std.proofs.Common.{arith, rules, ◌≡◌, ◌∷◌, [], codes, subst}
use Rattle.std.proofs.lemmas.Result.{err_from_is_err_and}
use Rattle.std.specs.Io.KnownBytes.{Appends}
use Rattle.std.specs.Prelude.{decimal}
use Rattle.edit_script.specs.Replies.{fault_words, reply_line}
use Rattle.rhythm_app.specs.Ends.{AppendsPart}
use Rattle.rhythm_app.specs.Stops.{joined_words}
use Rattle.rhythm_app.proofs.Taken.{AppendsPart-first, writes_after, writes_cut}
use Rattle.rhythm_app.proofs.line.write_refused.Goals as goal

pub returns-in_err-write_parts-in-Some : goal.returns-in_err-write_parts-in-Some
returns-in_err-write_parts-in-Some g c =
    let same : c.from.result ≡ c.args.line = search rules in
    let said = c.in_err-write_parts-in-Some.ensures in
    let p = err_from_is_err_and c.from_residual.result c.from_residual.ensures.1 in
    let part = subst (λ n. AppendsPart (g.K.Sink.taken c.args.sink.now) (g.K.Sink.taken c.write_parts-in-Some.new.sink) (joined_words (codes "script " ∷ decimal n ∷ codes " " ∷ []))) same said.part in
    rw c.in-Some.is (writes_cut g.K.Sink.taken g.K.Sink.faults _ _ _ _ c.from_residual.result p.0 p.1
    (AppendsPart-first _ _ (joined_words (codes "script " ∷ decimal c.args.line ∷ codes " " ∷ [])) (reply_line (fault_words c.in-Some.fault)) part) (omega arith) said.cause.failed said.cause.later)

pub returns-in_ok-write_parts-in-Some : goal.returns-in_ok-write_parts-in-Some
returns-in_ok-write_parts-in-Some g c =
    let same : c.from.result ≡ c.args.line = search rules in
    let front = subst (λ n. Appends (g.K.Sink.taken c.args.sink.now) (g.K.Sink.taken c.write_parts-in-Some.new.sink) (joined_words (codes "script " ∷ decimal n ∷ codes " " ∷ []))) same
    c.in_ok-write_parts-in-Some.ensures.all in
    rw c.in-Some.is (writes_after g.K.Sink.taken g.K.Sink.faults _ _ _ (joined_words (codes "script " ∷ decimal c.args.line ∷ codes " " ∷ [])) (reply_line (fault_words c.in-Some.fault)) c.write_fault.result front
    c.in_ok-write_parts-in-Some.ensures.cause.later c.write_fault.ensures)
