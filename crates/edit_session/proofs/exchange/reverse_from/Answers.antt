use Rattle.std.proofs.Common.{◌++◌, ap, ◌∙◌}
use Rattle.std.specs.Prelude.{reverse}
use Rattle.edit_session.proofs.exchange.reverse_from.Goals as goal

pub returns : goal.returns
returns c = λ i. c.split_at_mut-front.ensures.front i ++ (c.reverse.ensures.after ∙ ap reverse c.split_at_mut-front.ensures.back) i
