use Rattle.script_laws.proofs.OneRuns.{one_answer, one_run_of_script}
use Rattle.kern_writer.specs.PerformanceText.{IsWrittenScore}
use Rattle.script_run.proofs.OneScores.{one_score}
use Rattle.script_run.proofs.laws.lines_have_one_answer.Goals as goal

pub returns : goal.returns
returns c = λ g readable.
    let some = readable.ranges.some_unit in
    (one_answer g (IsWrittenScore g) some (one_score g readable), one_run_of_script g (IsWrittenScore g) some (one_score g readable))
