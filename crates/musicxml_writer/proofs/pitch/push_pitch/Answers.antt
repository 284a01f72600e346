use Rattle.std.proofs.Common.{◌++◌, ap, ◌∙◌, rules, w8}
use Rattle.std.specs.Prelude.{codes}
use Rattle.std.specs.Fmt.{signed_decimal}
use Rattle.std.proofs.lemmas.Int.{to_z-of_z}
use Rattle.std.proofs.lemmas.Result.{on_ok_weaker}
use Rattle.musicxml_writer.specs.Elements.{element, some_element}
use Rattle.musicxml_writer.specs.Pitches.{alter_text, letter_text, pitch_text}
use Rattle.musicxml_writer.proofs.Appended.{element_after, three}
use Rattle.musicxml_writer.proofs.pitch.push_pitch.Goals as goal

pub returns : goal.returns
unfolding pitch_text
returns c =
    let name = c.args.name in
    let step = element (codes "step") (letter_text name.letter) in
    let alter = some_element (codes "alter") (alter_text name.alteration) in
    let octave = element (codes "octave") (signed_decimal name.octave) in
    let inner = three c.open.new.text.items c.push_words.new.text.items c.push_some.new.text.items c.push_signed.new.text.items step alter octave
    (c.in_ok-push_words.ensures ∙ ap (λ t. c.open.new.text.items ++ element (codes "step") t) c.letter_text.ensures)
    (c.in_ok-push_some.ensures ∙ ap (λ t. c.push_words.new.text.items ++ some_element (codes "alter") t) c.alter_text.ensures)
    (c.in_ok-push_signed.ensures
    ∙ ap (λ z. c.push_some.new.text.items ++ element (codes "octave") (signed_decimal z)) (to_z-of_z w8 name.octave (search rules))) in
    on_ok_weaker c.close.result
    (λ h. element_after (codes "pitch") (step ++ alter ++ octave) c.args.text.now.items c.open.new.text.items c.push_signed.new.text.items
    c.close.new.text.items c.in_ok-open.ensures inner h)
    c.close.ensures
