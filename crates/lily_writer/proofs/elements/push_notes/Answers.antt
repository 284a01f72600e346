use Rattle.std.proofs.Common.{◌≤◌}
use Rattle.std.proofs.lemmas.List.{take_rest}
use Rattle.durations.specs.Value.{plain_grid}
use Rattle.lily_writer.proofs.NotesAfter.{more_hold, notes_next}
use Rattle.lily_writer.proofs.elements.push_notes.Goals as goal

pub values-preserved : goal.values-preserved
values-preserved c =
    let later = c.values.later.now in
    record {
      some = more_hold (λ v. 1 ≤ plain_grid v.recip) later _ c.in-len1-up.len_at_least (take_rest later 1) c.values.invariant.some;
      text = notes_next c.args.flats c.args.keys c.values.marked c.args.goes_on c.is_tied.result later _ _ c.values.text.items
          c.push_chord_value.new.text.items _ c.in-len1-up.len_at_least (take_rest later 1) c.is_tied.ensures c.in_ok-push_chord_value.ensures
          c.values.invariant.text;
    }
