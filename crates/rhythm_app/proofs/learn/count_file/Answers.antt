use Rattle.rhythm_app.proofs.CountedFiles.{read_file, unread_file}
use Rattle.rhythm_app.proofs.learn.count_file.Goals as goal

pub returns-in-Ok : goal.returns-in-Ok
returns-in-Ok g c =
    read_file c.args.grammar.now c.args.midi.now c.args.counts.now c.args.lent.now c.read_performance.new.lent c.in-Ok.performance c.in-Ok.ensures c.count_performance.new.lent c.count_performance.new.counts
    c.count_performance.result c.count_performance.ensures

pub returns-in-Err : goal.returns-in-Err
returns-in-Err g c = unread_file c.args.grammar.now c.args.midi.now c.args.counts.now c.args.lent.now c.read_performance.new.lent c.in-Err.stop c.in-Err.ensures
