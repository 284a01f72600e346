use Rattle.std.proofs.Common.{◌≤◌, ◌∙◌, get_or}
use Rattle.std.proofs.lemmas.List.{length-set}
use Rattle.note_list.specs.Pairing.{IsPlayed}
use Rattle.rhythm_base.specs.declared.note.Note.{Note}
use Rattle.performance_prepare.proofs.Grouped.{all_set, ends_all, ends_pushed}
use Rattle.performance_prepare.proofs.groups.put_ends.Goals as goal

pub loop-note-preserved : goal.loop-note-preserved
loop-note-preserved c =
    let none : Note = record { channel = 0; key = 0; onset = 0; end = 0 } in
    let i = c.loop-note.note-index in
    let n : Note = get_or c.args.group.now c.loop-note.note-index none in
    let played : IsPlayed 1000000000 n = c.requires.group c.loop-note.note-index none c.loop-note-test.true in
    record {
      ends = λ before h. ends_pushed c.loop-note.ends before c.args.group.now c.loop-note.note-index none c.loop-note-test.true
          c.loop-note.invariant.long played.key (c.loop-note.invariant.ends before h);
      low = all_set (λ end. end ≤ 1000000000) c.loop-note.ends n.key n.end played.within c.loop-note.invariant.low;
      long = length-set c.loop-note.ends n.key n.end ∙ c.loop-note.invariant.long;
    }

pub returns-clause-ends : goal.returns-clause-ends
returns-clause-ends c =
    λ before h. ends_all c.loop-note.ends before c.args.group.now c.loop-note.note-index c.loop-note-test.false
    (c.loop-note.invariant.ends before h)
