use Rattle.std.proofs.Common.{sym, ap, ◌∙◌}
use Rattle.notation.specs.Tokens.{Token}
use Rattle.notation.proofs.GroupLemmas.{group_end_last}
use Rattle.notation.proofs.groups.group_end.Goals as goal

pub returns-in-Some : goal.returns-in-Some
returns-in-Some c = ap (λ (t : Token). t.end) c.last-in-Some.view_is ∙ sym (group_end_last c.args.tokens.now c.in-Some.last.now (sym c.in-Some.ensures.value))
