use Rattle.std.specs.Prelude.{codes}
use Rattle.musicxml_writer.specs.Elements.{empty_element}
use Rattle.musicxml_writer.proofs.Repeats.{repeat_next}
use Rattle.musicxml_writer.proofs.value.push_dots.Goals as goal

pub dots-preserved : goal.dots-preserved
dots-preserved c =
    repeat_next c.dots.counter (empty_element (codes "dot")) c.args.text.now.items c.dots.text.items c.push_empty.new.text.items
    c.dots.invariant c.in_ok-push_empty.ensures
