use Rattle.std.proofs.Common.{◌≡◌, ◌++◌, ◌∷◌, [], ap, sym, ◌∙◌, subst}
use Rattle.derivation.specs.HeldSounds.{AreHeld, alike, first_latest, latest_after, latest_of, sounds_held}
use Rattle.derivation.proofs.HeldLists.{alike_held, alike_is}
use Rattle.derivation.proofs.held_sounds.HeldSounds.push_alike.Goals as goal

-- the sound is alike to the last of those that are held
same : (c : goal.After-self-1) → c.args.sound.now ≡ alike (latest_after first_latest (sounds_held first_latest c.self.inside.held.items c.self.inside.wholes.items)) c.args.sound.now.place c.args.sound.now.width c.args.sound.now.kind
same c = let s = c.args.sound.now in c.requires ∙ ap (λ xs. alike (latest_after first_latest xs) s.place s.width s.kind) (sym c.self.view_is)

pub invariant_of-self-2 : goal.invariant_of-self-2
invariant_of-self-2 c =
    let held = c.self.inside.held.items in
    let wholes = c.self.inside.wholes.items in
    let kept = alike_held held wholes c.self.inside.latest c.args.sound.now c.self.invariant (same c) in
    subst (λ l. AreHeld c.push.new.self.items wholes l) (sym c.of-self-inside.ensures) (subst (λ hs. AreHeld hs wholes (latest_of c.args.sound.now)) (sym c.in_ok-push.ensures.items) kept)

pub returns : goal.returns
returns c =
    let held = c.self.inside.held.items in
    let wholes = c.self.inside.wholes.items in
    ap (λ hs. sounds_held first_latest hs wholes) c.in_ok-push.ensures.items
    ∙ alike_is held wholes c.self.inside.latest c.args.sound.now c.self.invariant (same c)
    ∙ ap (λ xs. xs ++ c.args.sound.now ∷ []) c.self.view_is
