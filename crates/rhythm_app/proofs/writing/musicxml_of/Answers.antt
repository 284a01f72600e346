use Rattle.rhythm_app.proofs.Notating.{as_many}
use Rattle.rhythm_app.proofs.writing.musicxml_of.Goals as goal

pub write_musicxml-requires-clause-same : goal.write_musicxml-requires-clause-same
write_musicxml-requires-clause-same c =
    as_many c.args.session.now.grammar c.args.session.now.performance c.performance-performance.result.now c.in_ok-score.score c.channels.result.now c.in_ok-score.ensures.score
    c.performance-performance.ensures.value c.channels.ensures
