use Rattle.rhythm_base.specs.Bodies.{sizes}
use Rattle.tree_laws.proofs.Quiet.{alike-key, alike-turned}
use Rattle.tree_laws.proofs.laws.quiet_intervals_are_alike.Goals as goal

pub returns : goal.returns
returns c = λ d s qs p q a b key ground wide alike. (alike-key d ground s qs wide p q a b key alike, alike-key d ground s qs wide q p a b key (alike-turned d (sizes qs) p q alike))
