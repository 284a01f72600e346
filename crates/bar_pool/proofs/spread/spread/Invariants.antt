use Rattle.std.proofs.Common.{length, take}
use Rattle.bar_pool.specs.Pool.{AreTablesOf}
use Rattle.bar_pool.proofs.Spreading.{IsRest}
use Rattle.bar_pool.proofs.spread.spread.Given as goal

abbrev pub invariant-inputs : goal.invariant-inputs
invariant-inputs g l = record {
  tables : AreTablesOf l.order.grammar.now (take l.number l.order.inputs.now) l.tables.items;
  rest : IsRest l.order.grammar.now l.order.inputs.now l.equals (length l.fn.found.items) l.initial.builds l.number l.found.rest.items l.builds;
}
