use Rattle.std.proofs.Common.{subst}
use Rattle.std.specs.Prelude.{All}
use Rattle.rhythm_base.specs.Voices.{HasDerivation}
use Rattle.edit_session.specs.Session.{Session}
use Rattle.edit_session.proofs.Voices.{all_derivations}
use Rattle.edit_session.proofs.session.Session.performance.Goals as goal

pub returns-clause-derivations : goal.returns-clause-derivations
returns-clause-derivations c =
    let kept = c.self.inside in
    subst (λ (s : Session). All (HasDerivation s.grammar s.performance) s.performance.channels) c.self.view_is
    (all_derivations kept.grammar kept.performance c.self.invariant.readable c.self.invariant.formed c.self.invariant.starts kept.room kept.performance.channels kept.voices.items c.self.invariant.each)
