use Rattle.std.proofs.Common.{subst}
use Rattle.rhythm_app.specs.Builds.{HasFollowed, HasPartlyFollowed}
use Rattle.rhythm_app.specs.Lent.{Lent}
use Rattle.rhythm_app.proofs.follow.script_over.Goals as goal

pub returns-in-Ok-write_edits-clause-builds : goal.returns-in-Ok-write_edits-clause-builds
returns-in-Ok-write_edits-clause-builds g c =
    subst (λ (l : Lent _ _ _). HasFollowed c.args.session.now.grammar c.args.session.now.performance l.built c.follow-script.new.builds) c.lent.view_is c.in-Ok.ensures.builds

pub returns-in-Ok-write_edits-clause-most : goal.returns-in-Ok-write_edits-clause-most
returns-in-Ok-write_edits-clause-most g c =
    subst (λ (l : Lent _ _ _). HasPartlyFollowed c.args.session.now.grammar c.args.session.now.performance l.built c.follow-script.new.builds) c.lent.view_is c.follow-script.ensures.most

pub returns-in-Ok-clause-most : goal.returns-in-Ok-clause-most
returns-in-Ok-clause-most g c =
    subst (λ (l : Lent _ _ _). HasPartlyFollowed c.args.session.now.grammar c.args.session.now.performance l.built c.follow-script.new.builds) c.lent.view_is c.follow-script.ensures.most
