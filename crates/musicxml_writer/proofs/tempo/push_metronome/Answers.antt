use Rattle.std.proofs.Common.{◌++◌}
use Rattle.std.specs.Prelude.{codes, decimal}
use Rattle.std.proofs.lemmas.Result.{on_ok_weaker}
use Rattle.musicxml_writer.specs.Attributes.{metronome}
use Rattle.musicxml_writer.specs.Elements.{element}
use Rattle.musicxml_writer.proofs.Appended.{element_after, two}
use Rattle.musicxml_writer.proofs.tempo.push_metronome.Goals as goal

pub returns : goal.returns
unfolding metronome
returns c =
    let unit = element (codes "beat-unit") (codes "quarter") in
    let minute = element (codes "per-minute") (decimal c.args.quarters) in
    on_ok_weaker c.close.result
    (λ h. element_after (codes "metronome") (unit ++ minute) c.args.text.now.items c.open.new.text.items c.push_count.new.text.items
    c.close.new.text.items c.in_ok-open.ensures
    (two c.open.new.text.items c.push_words.new.text.items c.push_count.new.text.items unit minute c.in_ok-push_words.ensures
    c.in_ok-push_count.ensures) h)
    c.close.ensures
