use Rattle.std.proofs.Common.{rules, arith}
use Rattle.std.proofs.lemmas.List.Sorted.{length_permutation}
use Rattle.note_list.proofs.OneList.{kept_permuted, all_played, sorted_in_order, are_notes}
use Rattle.note_list.proofs.pairing.pair.Goals as goal

pub returns-clause-notes : goal.returns-clause-notes
returns-clause-notes c =
    let moved = kept_permuted c.args.last c.args.events.now c.in_ok-notes.notes.items c.put_in_order.new.notes.items c.in_ok-notes.ensures.notes c.in_ok-put_in_order.ensures.same in
    record {
      sounding = search rules;
      notes = are_notes c.args.last c.args.events.now c.put_in_order.new.notes.items moved (sorted_in_order c.put_in_order.new.notes.items moved.once c.in_ok-put_in_order.ensures.sorted);
      few = omega (arith, c.in_ok-notes.ensures.few, length_permutation _ _ c.in_ok-put_in_order.ensures.same);
    }

pub returns-clause-played : goal.returns-clause-played
returns-clause-played c =
    let moved = kept_permuted c.args.last c.args.events.now c.in_ok-notes.notes.items c.put_in_order.new.notes.items c.in_ok-notes.ensures.notes c.in_ok-put_in_order.ensures.same in
    all_played c.args.last c.args.events.now c.put_in_order.new.notes.items c.requires.order c.requires.events moved
