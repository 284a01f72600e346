use Rattle.std.proofs.Common.{◌≡◌, ◌≤◌, ◌*◌, drop}
use Rattle.grammar_plan.specs.QuietRows.{others_cost}
use Rattle.grammar_plan.proofs.QuietSums.{summed}
use Rattle.grammar_plan.proofs.quiet_trees.others_cost.Given as goal

abbrev pub invariant-parts : goal.invariant-parts
invariant-parts l = record {
  rest : summed l.total (others_cost l.rows (drop l.part-index l.parts)) ≡ others_cost l.rows l.parts;
  low : l.total ≤ 3000000000 * l.part-index;
}
