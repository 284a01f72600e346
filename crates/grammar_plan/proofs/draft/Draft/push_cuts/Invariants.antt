use Rattle.grammar_plan.specs.Drafts.{HasMoreCuts}
use Rattle.grammar_plan.proofs.draft.Draft.push_cuts.Given as goal

abbrev pub invariant-rules : goal.invariant-rules
invariant-rules l =
    HasMoreCuts l.grammar (l.width, l.symbol) l.fn.self.pairs.found.items l.self.pairs.found.items l.fn.self.parts.items l.self.parts.items l.fn.self.cuts.items l.self.cuts.items l.number
