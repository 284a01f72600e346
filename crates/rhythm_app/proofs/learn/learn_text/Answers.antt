use Rattle.std.proofs.Common.{drop}
use Rattle.rhythm_app.proofs.CountedFiles.{learned_had, unlearned}
use Rattle.rhythm_app.proofs.learn.learn_text.Goals as goal

pub returns-in-Ok : goal.returns-in-Ok
returns-in-Ok g c =
    learned_had c.args.bit c.args.grammar.now (drop 3 c.args.words.now) c.args.lent.now c.read_rules.new.lent c.in-Ok.rules c.in-Ok.ensures c.learned_by.new.lent c.learned_by.result c.learned_by.ensures

pub returns-in-Err : goal.returns-in-Err
returns-in-Err g c = unlearned c.args.bit c.args.grammar.now (drop 3 c.args.words.now) c.args.lent.now c.read_rules.new.lent c.in-Err.stop c.in-Err.ensures
