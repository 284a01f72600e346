use Rattle.std.proofs.Common.{◌≡◌, ◌*◌}
use Rattle.rhythm_base.specs.declared.inner.Inner.{Inner}
use Rattle.bar_view.specs.Points.{IsPoint}
use Rattle.bar_view.specs.Units.{end_of_earlier}
use Rattle.bar_view.specs.Views.{IsViewTo}
use Rattle.bar_view.proofs.view.View.set.Given as goal

abbrev pub invariant-chords : goal.invariant-chords
invariant-chords l = record {
  count : l.count ≡ l.chord-index;
  view : IsViewTo l.input l.count l.self;
  end : (d : Inner) → IsPoint l.input.length (end_of_earlier l.input l.count d * l.input.resolution) l.end;
}
