use Rattle.std.proofs.Common.{arith}
use Rattle.score_words.proofs.WrittenKeys.{few_written, key_written, none_written}
use Rattle.page_writer.specs.Pitches.{page_pitch}
use Rattle.page_writer.proofs.chord.push_pitches.Goals as goal

pub keys-init : goal.keys-init
keys-init c = none_written (page_pitch c.args.sf) c.args.keys c.args.text.now.items c.of-left.result c.of-left.ensures

pub overflow_add-number : goal.overflow_add-number
overflow_add-number c =
    let few = few_written (page_pitch c.args.sf) c.args.keys c.args.text.now.items c.keys.text.items c.keys.number c.in-Some.key c.keys.left
    c.next.new.self c.keys.invariant c.in-Some.ensures.keys in
    omega (arith, few)

pub keys-preserved : goal.keys-preserved
keys-preserved c =
    key_written (page_pitch c.args.sf) c.args.keys c.args.text.now.items c.keys.text.items c.push_between.new.text.items c.push_pitch.new.text.items
    c.keys.number c.in-Some.key c.keys.left c.next.new.self c.keys.invariant c.in-Some.ensures.keys c.in_ok-push_between.ensures c.in_ok-push_pitch.ensures
