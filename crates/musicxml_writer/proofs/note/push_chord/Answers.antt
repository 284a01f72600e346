use Rattle.std.proofs.Common.{◌++◌, ap, ◌∙◌, true}
use Rattle.score_words.specs.Keys.{rising_keys}
use Rattle.notation.specs.Notes.{Note}
use Rattle.musicxml_writer.specs.Notes.{key_text, keys_text}
use Rattle.musicxml_writer.proofs.Chords.{key_next, keys_end}
use Rattle.musicxml_writer.proofs.note.push_chord.Goals as goal

pub keys-init : goal.keys-init
keys-init c =
    ap (λ ks. c.args.text.now.items ++ keys_text (key_text c.args.setting c.args.note.now) true ks) (c.of-left.ensures ∙ ap (λ (n : Note). rising_keys n.keys) c.note.view_is)

pub keys-preserved : goal.keys-preserved
keys-preserved c =
    key_next (key_text c.args.setting c.args.note.now) c.keys.lowest c.in-Some.key c.keys.left c.next.new.self c.keys.text.items c.push_key.new.text.items _
    c.in-Some.ensures.keys c.in_ok-push_key.ensures c.keys.invariant

pub returns : goal.returns
returns c = keys_end (key_text c.args.setting c.args.note.now) c.keys.lowest c.keys.left c.keys.text.items _ c.in_default.ensures.keys c.keys.invariant
