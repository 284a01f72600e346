use Rattle.std.proofs.Common.{◌≡◌, ◌*◌, ◌≤◌, map, sym, ◌∙◌, subst}
use Rattle.std.specs.Prelude.{All, sum}
use Rattle.durations.specs.declared.joined.Timed.{Timed}
use Rattle.durations.specs.Joined.{IsTimedLeaf}
use Rattle.voice_values.proofs.TimedSounds.{timed_bar, timed_leaves}
use Rattle.voice_values.proofs.voice_value.bar_values.Goals as goal

pub values_of-requires-clause-leaves : goal.values_of-requires-clause-leaves
values_of-requires-clause-leaves c =
    let whole : c.args.resolution * c.args.bar.now.den ≡ c.from.result * c.from-2.result = cc in
    subst (λ w. All (IsTimedLeaf w) c.deref.result.now) whole
    (subst (All (IsTimedLeaf (c.args.resolution * c.args.bar.now.den))) (sym (c.deref.ensures.value ∙ c.in_ok-timed.ensures)) (timed_leaves c.args.resolution c.args.bar.now c.args.sounds.now c.requires.bar c.requires.some c.requires.full))

pub values_of-requires-clause-bar : goal.values_of-requires-clause-bar
values_of-requires-clause-bar c =
    let whole : c.args.resolution * c.args.bar.now.den ≡ c.from.result * c.from-2.result = cc in
    subst (λ w. sum (map (λ (x : Timed). x.len) c.deref.result.now) ≤ 64 * w) whole
    (subst (λ t. sum (map (λ (x : Timed). x.len) t) ≤ 64 * (c.args.resolution * c.args.bar.now.den)) (sym (c.deref.ensures.value ∙ c.in_ok-timed.ensures)) (timed_bar c.args.resolution c.args.bar.now c.args.sounds.now c.requires.bar c.requires.full))
