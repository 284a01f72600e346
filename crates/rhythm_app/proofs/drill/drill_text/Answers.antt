use Rattle.rhythm_app.proofs.Drilling.{drill_had, unmade, unruled}
use Rattle.rhythm_app.proofs.drill.drill_text.Goals as goal

pub returns-in-Ok-piece_of : goal.returns-in-Ok-piece_of
returns-in-Ok-piece_of g c =
    let said = c.drilled.ensures in
    drill_had c.args.number c.args.grammar.now c.args.lent.now c.read_rules.new.lent c.in-Ok.rules c.in-Ok.ensures c.in-Ok-piece_of.piece c.drilled.new.lent c.drilled.result c.in-Ok-piece_of.ensures.piece said.tests said.content
    said.all said.built said.counts.1.0 said.counts.1.1 said.counts.0

pub returns-in-Err-piece_of : goal.returns-in-Err-piece_of
returns-in-Err-piece_of g c =
    unmade c.args.number c.args.grammar.now c.args.lent.now c.read_rules.new.lent c.in-Ok.rules c.in-Ok.ensures c.in-Err-piece_of.stop c.in-Err-piece_of.ensures.memory

pub returns-in-Err : goal.returns-in-Err
returns-in-Err g c = unruled c.args.number c.args.grammar.now c.args.lent.now c.read_rules.new.lent c.in-Err.stop c.in-Err.ensures
