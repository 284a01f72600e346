use Rattle.std.proofs.Common.{◌++◌, ap, true}
use Rattle.musicxml_writer.specs.Notes.{grace_text, keys_text}
use Rattle.musicxml_writer.proofs.Chords.{key_next, keys_end}
use Rattle.musicxml_writer.proofs.note.push_grace_chord.Goals as goal

pub keys-init : goal.keys-init
keys-init c = ap (λ ks. c.args.text.now.items ++ keys_text (grace_text c.args.setting) true ks) c.of-left.ensures

pub keys-preserved : goal.keys-preserved
keys-preserved c =
    key_next (grace_text c.args.setting) c.keys.lowest c.in-Some.key c.keys.left c.next.new.self c.keys.text.items c.push_grace.new.text.items _
    c.in-Some.ensures.keys c.in_ok-push_grace.ensures c.keys.invariant

pub returns : goal.returns
returns c = keys_end (grace_text c.args.setting) c.keys.lowest c.keys.left c.keys.text.items _ c.in_default.ensures.keys c.keys.invariant
