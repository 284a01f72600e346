use Rattle.std.proofs.Common.{sym, ap, ◌∙◌}
use Rattle.notation.proofs.Joining.{ended, joined_last}
use Rattle.notation.proofs.token.Token.joined.Goals as goal

pub returns-in-Some : goal.returns-in-Some
returns-in-Some c =
    let t = c.args.self.now in
    c.until-in-Some.ensures ∙ ap (ended t) c.last-in-Some.view_is ∙ sym (joined_last t c.args.more.now c.in-Some.last.now (sym c.in-Some.ensures.value))
