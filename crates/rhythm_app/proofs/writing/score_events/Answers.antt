use Rattle.event_laws.proofs.VoiceEvents.{their_events}
use Rattle.rhythm_app.proofs.writing.score_events.Goals as goal

pub returns-in-Ok-clause-events : goal.returns-in-Ok-clause-events
returns-in-Ok-clause-events c =
    let of = c.in_ok-score.ensures in
    let back = their_events c.args.session.now.grammar c.args.session.now.performance c.in_ok-score.score of.short.0 c.requires.readable c.requires.formed of.score of.short.1.0 in
    record { text = of.short.0; written = of.short.1; score = back.0; read = back.1; are = (back.2 c.in-Ok.events.items).1 c.in-Ok.ensures }
