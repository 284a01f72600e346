use Rattle.std.proofs.Common.{◌<◌, arith, length, sym}
use Rattle.command_line.proofs.Reading.{one_more_word, word_there}
use Rattle.command_line.proofs.read.texts_of.Goals.{in-Some+in_ok-push, in_default}
use Rattle.command_line.proofs.read.texts_of.Goals as goal

pub loop-at-preserved : goal.loop-at-preserved
loop-at-preserved c = elim c.match-get.branch [
  | in-Some+in_ok-push w ↦ rw w.list-is
      (one_more_word c.args.words.now c.loop-at.at c.loop-at.list.items w.push.new.self.items w.in-Some.word w.in_ok-push.ensures.items c.loop-at.invariant w.in-Some.ensures)
  | in_default w ↦
      let there : c.loop-at.at < length c.args.words.now = omega (arith, c.count-at-end.ensures) in
      absurd (word_there c.args.words.now c.loop-at.at there (sym (w.in_default.ensures)))
]
