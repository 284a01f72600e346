use Rattle.session_history.proofs.Moves.{begun_keeps}
use Rattle.session_history.proofs.history.History.new.Goals as goal

pub invariant_of-result : goal.invariant_of-result
invariant_of-result c =
    let is = c.performance-present.ensures in
    begun_keeps c.args.session c.in-Ok.past c.in-Ok-new.future c.in-Ok.ensures c.in-Ok-new.ensures is.formed is.derivations is.room
