use Rattle.std.proofs.Common.{arith}
use Rattle.score_words.proofs.WrittenKeys.{few_written, key_written}
use Rattle.kern_writer.specs.Tokens.{note_text}
use Rattle.kern_writer.proofs.chord.push_notes.Goals as goal

pub overflow_add-number : goal.overflow_add-number
overflow_add-number c =
    let few = few_written (note_text c.args.flats c.args.value.now c.args.next) c.args.value.now.sound.keys c.args.text.now.items c.keys.text.items c.keys.number
    c.in-Some.key c.keys.left c.next.new.self c.keys.invariant c.in-Some.ensures.keys in
    omega (arith, few)

pub keys-preserved : goal.keys-preserved
keys-preserved c =
    key_written (note_text c.args.flats c.args.value.now c.args.next) c.args.value.now.sound.keys c.args.text.now.items c.keys.text.items c.push_between.new.text.items
    c.push_note.new.text.items c.keys.number c.in-Some.key c.keys.left c.next.new.self c.keys.invariant c.in-Some.ensures.keys c.in_ok-push_between.ensures
    c.in_ok-push_note.ensures
