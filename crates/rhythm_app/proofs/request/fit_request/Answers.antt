use Rattle.rhythm_app.specs.Inputs.{shown_inputs}
use Rattle.rhythm_app.proofs.Candidates.{few_asked, few_tried, many_asked}
use Rattle.rhythm_app.proofs.request.fit_request.Goals as goal

pub returns-then-count-le-MOST_CANDIDATES-clause-asked : goal.returns-then-count-le-MOST_CANDIDATES-clause-asked
returns-then-count-le-MOST_CANDIDATES-clause-asked c =
    few_asked (shown_inputs c.args.inputs) c.args.among c.count-count.result c.count-count.ensures.steps c.if-count-le-MOST_CANDIDATES.true

pub returns-then-count-le-MOST_CANDIDATES-clause-range : goal.returns-then-count-le-MOST_CANDIDATES-clause-range
returns-then-count-le-MOST_CANDIDATES-clause-range c =
    (c.requires.options, few_tried (shown_inputs c.args.inputs) c.args.among c.count-count.result c.count-count.ensures.steps c.if-count-le-MOST_CANDIDATES.true c.requires.ticks.order c.requires.ticks.high c.requires.ticks.step)

pub returns-else-count-le-MOST_CANDIDATES-clause-asked : goal.returns-else-count-le-MOST_CANDIDATES-clause-asked
returns-else-count-le-MOST_CANDIDATES-clause-asked c =
    many_asked (shown_inputs c.args.inputs) c.args.among c.count-count.result c.count-count.ensures.steps c.if-count-le-MOST_CANDIDATES.false
