use Rattle.std.proofs.Common.{map}
use Rattle.performance_prepare.proofs.Answered.{least_reduced}
use Rattle.performance_prepare.proofs.upbeat.first_onset.Goals as goal

pub returns-in-Some : goal.returns-in-Some
returns-in-Some c = least_reduced (map (λ n. n.onset) c.args.notes.now) c.in-Some.onset c.in-Some.ensures
