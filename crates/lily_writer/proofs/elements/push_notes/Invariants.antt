use Rattle.std.proofs.Common.{◌≡◌, ◌≤◌, ◌++◌, length}
use Rattle.std.specs.Prelude.{All}
use Rattle.durations.specs.Value.{plain_grid}
use Rattle.lily_writer.specs.Elements.{elements_text}
use Rattle.lily_writer.specs.Pieces.{notes}
use Rattle.lily_writer.proofs.elements.push_notes.Given as goal

abbrev pub invariant-values : goal.invariant-values
invariant-values l = record {
  some : All (λ v. 1 ≤ plain_grid v.recip) l.later;
  text : l.text.items ++ elements_text l.flats (notes l.keys l.marked l.goes_on l.later) ≡ l.initial.text.items ++ elements_text l.flats
      (notes l.keys l.short l.goes_on l.values);
}

abbrev pub decreases-values : goal.decreases-values
decreases-values l = length l.later
