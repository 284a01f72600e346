use Rattle.std.proofs.Common.{◌≡◌, ◌+◌, ◌++◌, drop, None}
use Rattle.std.specs.Prelude.{IfSome}
use Rattle.derivation.specs.Score.{IsScoreBar}
use Rattle.musicxml_writer.specs.Parts.{bars_text}
use Rattle.musicxml_writer.proofs.part.push_bars.Given as goal

abbrev pub invariant-bars : goal.invariant-bars
invariant-bars l = record {
  before : IfSome l.before IsScoreBar;
  text : l.text.items ++ bars_text l.part l.before (l.index + 1) (drop l.index l.bars) (drop l.index l.groups)
      ≡ l.initial.text.items ++ bars_text l.part None 1 l.bars l.groups;
}
