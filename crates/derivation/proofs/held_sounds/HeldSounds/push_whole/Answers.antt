use Rattle.std.proofs.Common.{rules, ◌≡◌, ◌++◌, ◌∷◌, [], ap, ◌∙◌}
use Rattle.derivation.specs.declared.held.HeldSound.TheVariants.{Whole}
use Rattle.derivation.proofs.HeldLists.{whole_held, whole_is}
use Rattle.derivation.proofs.held_sounds.HeldSounds.push_whole.Goals as goal

pub invariant_of-self-2 : goal.invariant_of-self-2
invariant_of-self-2 c =
    let held : c.push-2.new.self.items ≡ c.self.inside.held.items ++ Whole ∷ [] = search rules in
    let wholes : c.push.new.self.items ≡ c.self.inside.wholes.items ++ c.args.sound ∷ [] = search rules in
    rw (held, wholes, c.of-latest.ensures) (whole_held c.self.inside.held.items c.self.inside.wholes.items c.self.inside.latest c.args.sound c.self.invariant)

pub returns : goal.returns
returns c =
    let held : c.push-2.new.self.items ≡ c.self.inside.held.items ++ Whole ∷ [] = search rules in
    let wholes : c.push.new.self.items ≡ c.self.inside.wholes.items ++ c.args.sound ∷ [] = search rules in
    rw (held, wholes) (whole_is c.self.inside.held.items c.self.inside.wholes.items c.self.inside.latest c.args.sound c.self.invariant ∙ ap (λ xs. xs ++ c.args.sound ∷ []) c.self.view_is)
