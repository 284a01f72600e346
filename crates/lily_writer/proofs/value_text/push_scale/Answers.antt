use Rattle.std.proofs.lemmas.Result.{on_ok_weaker}
use Rattle.lily_writer.proofs.Scales.{scale_after}
use Rattle.lily_writer.proofs.value_text.push_scale.Goals as goal

pub returns : goal.returns
returns c =
    on_ok_weaker c.push_number-2.result
    (scale_after c.args.part c.args.number c.lowest-scale.result.parts c.lowest-scale.result.whole c.args.text.now.items
    c.push.new.self.items c.push_number.new.text.items c.push-2.new.self.items c.push_number-2.new.text.items
    c.requires c.if-part-number.false c.lowest-scale.ensures c.in_ok-push.ensures.items c.in_ok-push_number.ensures
    c.in_ok-push-2.ensures.items)
    c.push_number-2.ensures
