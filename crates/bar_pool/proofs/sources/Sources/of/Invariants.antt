use Rattle.std.proofs.Common.{◌≡◌, ℕ, length}
use Rattle.std.specs.Prelude.{Option, Some, slice_get}
use Rattle.bar_pool.specs.Known.{KnowsInputs}
use Rattle.bar_pool.specs.Sources.{IsSource, searched_from}
use Rattle.bar_pool.proofs.sources.Sources.of.Given as goal

abbrev pub invariant-inputs : goal.invariant-inputs
invariant-inputs l = record {
  known : KnowsInputs l.inputs l.number l.known;
  long : length l.equals.items ≡ l.number;
  sources : (number : ℕ) (source : Option ℕ) → slice_get l.equals.items number ≡ Some source → IsSource l.inputs number source;
  searched : l.searched.items ≡ searched_from 0 l.equals.items;
}
