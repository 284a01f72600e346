use Rattle.std.proofs.Common.{rules, ◌≡◌, ℕ, sym, ap, ◌∙◌}
use Rattle.std.specs.Prelude.{filter, nat_lt, Option, Some}
use Rattle.std.proofs.lemmas.Fn.{filter_same}
use Rattle.barline_follow.specs.Barring.{Barring, Course, is_below, course_value, barring_value}
use Rattle.barline_follow.proofs.Gathering.{none_above}
use Rattle.barline_follow.proofs.round.clear_above.Goals as goal

pub returns-in-Some : goal.returns-in-Some
returns-in-Some c =
    let most : ℕ = c.value-most.result in
    let kept : c.retain.new.self.items ≡ filter (λ (t : Course). nat_lt (course_value t) most) c.args.kept.now.items =
    filter_same _ _ _ (λ x b f' k. search rules) _ _ c.retain.ensures.filtered in
    let value_is : most ≡ barring_value c.in-Some.best = c.value-most.ensures in
    let best_is : c.args.best.now ≡ Some c.in-Some.best = c.in-Some.is in
    kept
    ∙ ap (λ (n : ℕ). filter (λ (t : Course). nat_lt (course_value t) n) c.args.kept.now.items) value_is
    ∙ ap (λ (o : Option Barring). filter (λ (t : Course). is_below o t.barring) c.args.kept.now.items) (sym best_is)

pub returns-in_default : goal.returns-in_default
returns-in_default c = none_above c.args.best.now c.args.kept.now.items (λ b is. c.in_default.not-Some b is)
