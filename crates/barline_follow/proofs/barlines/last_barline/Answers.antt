use Rattle.std.proofs.Common.{sym}
use Rattle.barline_follow.proofs.Paired.{last_is}
use Rattle.barline_follow.proofs.barlines.last_barline.Goals as goal

pub returns-in-len1-up : goal.returns-in-len1-up
returns-in-len1-up c = sym (last_is 0 c.args.ticks.now 0 c.in-len1-up.len_at_least)
