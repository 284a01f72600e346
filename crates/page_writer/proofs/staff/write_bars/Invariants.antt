use Rattle.std.proofs.Common.{◌≡◌, ◌++◌, drop}
use Rattle.std.specs.Prelude.{IfSome, None}
use Rattle.derivation.specs.Score.{IsScoreBar}
use Rattle.page_writer.specs.Staves.{bars_lines}
use Rattle.score_words.specs.TextLines.{lines_text}
use Rattle.page_writer.proofs.staff.write_bars.Given as goal

abbrev pub invariant-bars : goal.invariant-bars
invariant-bars l = record {
  earlier : IfSome l.before IsScoreBar;
  text : l.text.items ++ lines_text (bars_lines l.first l.before (drop l.number l.bars) (drop l.number l.most) (drop l.number l.groups))
      ≡ l.initial.text.items ++ lines_text (bars_lines l.first None l.bars l.most l.groups);
}
