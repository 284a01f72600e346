use Rattle.std.proofs.Common.{◌≡◌, ◌≤◌, ◌+◌, ◌*◌, drop}
use Rattle.rhythm_base.specs.Bodies.{sizes}
use Rattle.grammar_plan.proofs.suiting.sizes.Given as goal

abbrev pub invariant-loop-part : goal.invariant-loop-part
invariant-loop-part l = record {
  so_far : l.total + sizes (drop l.part-index l.parts) ≡ sizes l.parts;
  small : l.total ≤ 255 * l.part-index;
}
