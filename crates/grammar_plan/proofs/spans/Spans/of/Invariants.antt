use Rattle.std.proofs.Common.{◌≡◌, length}
use Rattle.grammar_plan.specs.Spans.{AreSpansBelow}
use Rattle.grammar_plan.proofs.spans.Spans.of.Given as goal

abbrev pub invariant-loop-number : goal.invariant-loop-number
invariant-loop-number l = record {
  first_long : length l.first ≡ 256;
  end_long : length l.end ≡ 256;
  spans : AreSpansBelow l.grammar.rules l.number l.first l.end;
}
