use Rattle.std.proofs.Common.{rules, ℕ, Bool, true, false, ◌∙◌, ◌≡◌, ◌+◌, ◌-◌, ◌++◌, List}
use Rattle.std.specs.Prelude.{◌==◌, filter, slice_index}
use Rattle.performance_prepare.specs.Middle.{inner_borders, numbers_from}
use Rattle.performance_prepare.proofs.Middles.{kept_more, left_out, none_left, test_false, test_true}
use Rattle.performance_prepare.proofs.middle.borders_at.Goals as goal
use Rattle.performance_prepare.proofs.middle.borders_at.Goals.{then-partings-border+in_ok-push, else-partings-border}

pub borders-preserved : goal.borders-preserved
borders-preserved c =
    let p : ℕ → Bool = λ b. slice_index c.args.partings.now (b - 1) == c.args.best in
    let all : List ℕ = filter p inner_borders in
    elim c.if-partings-border.branch [
      | then-partings-border+in_ok-push w ↦ (
          let passes : p c.borders.border ≡ true =
          test_true (slice_index c.args.partings.now (c.borders.border - 1)) c.args.best w.if-partings-border.true in
          (λ i. (w.list-is i).items ++ filter p (numbers_from (c.borders.border + 1) 128))
          ∙ kept_more p c.borders.list.items w.push.new.self.items all c.borders.border 128 c.borders-test.true passes
          (search (rules, w.in_ok-push.ensures.items)) c.borders.invariant
          )
      | else-partings-border w ↦ (
          let fails : p c.borders.border ≡ false =
          test_false (slice_index c.args.partings.now (c.borders.border - 1)) c.args.best w.if-partings-border.false in
          (λ i. (w.list-is i).items ++ filter p (numbers_from (c.borders.border + 1) 128))
          ∙ left_out p c.borders.list.items all c.borders.border 128 c.borders-test.true fails c.borders.invariant
          )
    ]

pub returns : goal.returns
returns c = none_left (λ b. slice_index c.args.partings.now (b - 1) == c.args.best) c.borders.list.items
    (filter (λ b. slice_index c.args.partings.now (b - 1) == c.args.best) inner_borders) c.borders.border 128 c.borders-test.false
    c.borders.invariant
