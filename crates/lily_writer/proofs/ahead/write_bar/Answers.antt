use Rattle.lily_writer.proofs.Stretches.{bar_written}
use Rattle.lily_writer.proofs.ahead.write_bar.Goals as goal

pub returns : goal.returns
returns c =
    bar_written c.args.resolution c.args.bar.from c.args.bar.to c.args.flats c.args.ahead c.in_ok-after.after c.args.text.now.items
    c.write_ended.new.text.items c.write_front.new.text.items
    c.in_ok-after.ensures.passed c.in_ok-write_front.ensures
