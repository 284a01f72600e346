use Rattle.std.proofs.Common.{arith, rules, ◌≡◌, ◌∷◌, [], codes, subst}
use Rattle.std.specs.Io.KnownBytes.{Appends}
use Rattle.std.specs.Prelude.{decimal}
use Rattle.std.proofs.lemmas.Result.{err_from_is_err_and}
use Rattle.rhythm_app.specs.Ends.{AppendsPart}
use Rattle.rhythm_app.specs.Stops.{joined_words, midi_stop_line}
use Rattle.rhythm_app.proofs.Taken.{AppendsPart-first, writes_after, writes_cut}
use Rattle.rhythm_app.proofs.line.write_in_file.Goals as goal

pub returns-in_err-write_parts : goal.returns-in_err-write_parts
returns-in_err-write_parts g c =
    let same : c.from.result ≡ c.args.number = search rules in
    let said = c.in_err-write_parts.ensures in
    let p = err_from_is_err_and c.from_residual.result c.from_residual.ensures.1 in
    let part = subst (λ n. AppendsPart (g.K.Sink.taken c.args.sink.now) (g.K.Sink.taken c.write_parts.new.sink) (joined_words (codes "file " ∷ decimal n ∷ codes " " ∷ []))) same said.part in
    writes_cut g.K.Sink.taken g.K.Sink.faults _ _ _ _ c.from_residual.result p.0 p.1
    (AppendsPart-first _ _ (joined_words (codes "file " ∷ decimal c.args.number ∷ codes " " ∷ [])) (midi_stop_line c.args.stop) part) (omega arith) said.cause.failed said.cause.later

pub returns : goal.returns
returns g c =
    let same : c.from.result ≡ c.args.number = search rules in
    let front = subst (λ n. Appends (g.K.Sink.taken c.args.sink.now) (g.K.Sink.taken c.write_parts.new.sink) (joined_words (codes "file " ∷ decimal n ∷ codes " " ∷ []))) same c.in_ok-write_parts.ensures.all in
    writes_after g.K.Sink.taken g.K.Sink.faults _ _ _ (joined_words (codes "file " ∷ decimal c.args.number ∷ codes " " ∷ [])) (midi_stop_line c.args.stop) c.write_midi_stop.result front c.in_ok-write_parts.ensures.cause.later
    c.write_midi_stop.ensures
