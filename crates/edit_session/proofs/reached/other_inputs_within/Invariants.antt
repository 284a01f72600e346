use Rattle.std.proofs.Common.{◌≡◌, ℕ, ◌<◌, ◌≤◌, List, [], map, max}
use Rattle.std.specs.Prelude.{slice_get}
use Rattle.bar_cut.specs.Cuts.{inputs}
use Rattle.rhythm_base.specs.BarInput.{BarInput}
use Rattle.edit_session.specs.ReachedCells.{AreOtherInputs, place_pair}
use Rattle.edit_session.proofs.reached.other_inputs_within.Given as goal

abbrev pub invariant-bars : goal.invariant-bars
invariant-bars l = record {
  low : l.fn.span.first_bar ≤ l.number;
  high : l.number ≤ max l.fn.span.first_bar l.fn.span.bar_end;
  found : (all : List BarInput)
      → ((bar : ℕ) → l.fn.span.first_bar ≤ bar → bar < l.fn.span.bar_end
      → slice_get all bar ≡ slice_get (inputs l.fn.grammar l.performance.pins l.channel l.performance.last l.performance.bars l.chords) bar)
      → AreOtherInputs l.channel all l.tables l.fn.span.first_bar [] [] → AreOtherInputs l.channel all l.tables l.number (map place_pair l.cells.items) l.others.items;
}
