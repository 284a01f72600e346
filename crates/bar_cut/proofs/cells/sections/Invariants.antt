use Rattle.std.proofs.Common.{◌≡◌, ◌++◌, drop, map}
use Rattle.rhythm_base.specs.Cells.{input}
use Rattle.rhythm_base.specs.Barlines.{barline}
use Rattle.rhythm_base.specs.Leaves.{soundings}
use Rattle.rhythm_base.specs.Voices.{voice_bars_from}
use Rattle.std.specs.Prelude.{filter}
use Rattle.bar_cut.specs.Cuts.{inputs}
use Rattle.bar_cut.proofs.Passes.{end_before, is_from}
use Rattle.bar_cut.proofs.cells.sections.Given as goal

abbrev pub invariant-bars : goal.invariant-bars
invariant-bars l = record {
  made : l.sections.items ++ map (λ m. input l.fn.grammar m (soundings l.voice)) (voice_bars_from l.fn.grammar l.pins l.channel l.last l.number (drop l.number l.bars))
      ≡ inputs l.fn.grammar l.pins l.channel l.last l.bars l.voice;
  later : l.later ≡ filter (is_from (barline l.bars l.last l.number)) l.voice;
  before : l.before ≡ end_before (barline l.bars l.last l.number) l.voice;
}
