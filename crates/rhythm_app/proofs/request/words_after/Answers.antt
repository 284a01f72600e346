use Rattle.std.proofs.Common.{rules}
use Rattle.rhythm_app.proofs.WordsAfter.{known_word}
use Rattle.rhythm_app.proofs.request.words_after.Goals as goal

pub returns-in-transcribe-clause-known : goal.returns-in-transcribe-clause-known
returns-in-transcribe-clause-known c = known_word c.args.word.now (search rules)

pub returns-in-fit-clause-known : goal.returns-in-fit-clause-known
returns-in-fit-clause-known c = known_word c.args.word.now (search rules)

pub returns-in-learn-clause-known : goal.returns-in-learn-clause-known
returns-in-learn-clause-known c = known_word c.args.word.now (search rules)

pub returns-in-notes-clause-known : goal.returns-in-notes-clause-known
returns-in-notes-clause-known c = known_word c.args.word.now (search rules)

pub returns-in-events-clause-known : goal.returns-in-events-clause-known
returns-in-events-clause-known c = known_word c.args.word.now (search rules)

pub returns-in-generate-clause-known : goal.returns-in-generate-clause-known
returns-in-generate-clause-known c = known_word c.args.word.now (search rules)

pub returns-in-drill-clause-known : goal.returns-in-drill-clause-known
returns-in-drill-clause-known c = known_word c.args.word.now (search rules)
