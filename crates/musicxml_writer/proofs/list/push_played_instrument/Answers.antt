use Rattle.std.proofs.Common.{◌+◌, ◌++◌, ap, ◌∙◌}
use Rattle.std.specs.Prelude.{codes, decimal}
use Rattle.std.proofs.lemmas.Result.{on_ok_weaker}
use Rattle.musicxml_writer.specs.Elements.{closing, element, opening_with}
use Rattle.musicxml_writer.specs.Text.{instrument_name, played_instrument}
use Rattle.musicxml_writer.proofs.Appended.{three}
use Rattle.musicxml_writer.proofs.list.push_played_instrument.Goals as goal

pub returns : goal.returns
unfolding played_instrument
returns c =
    let name = codes "midi-instrument" in
    on_ok_weaker c.close.result
    (λ h. three c.args.text.now.items c.open_instrument.new.text.items c.push_count.new.text.items c.close.new.text.items
    (opening_with name (codes "id") (instrument_name c.args.number)) (element (codes "midi-channel") (decimal (c.args.channel + 1))) (closing name)
    c.in_ok-open_instrument.ensures
    (c.in_ok-push_count.ensures ∙ ap (λ n. c.open_instrument.new.text.items ++ element (codes "midi-channel") (decimal (n + 1))) c.from.ensures)
    h)
    c.close.ensures
