use Rattle.std.proofs.Common.{◌≡◌, ◌∙◌, ◌+◌, ap, arith, sym}
use Rattle.rhythm_base.specs.Ranked.{choice, five}
use Rattle.carry_matrix.specs.Choices.{choices_below}
use Rattle.carry_matrix.proofs.products.chosen_row.Goals as goal

pub with_middle-first-requires-clause-known : goal.with_middle-first-requires-clause-known
with_middle-first-requires-clause-known c = (λ i. five (λ to. c.none.ensures i)) ∙ ap (choices_below c.args.a.now c.args.b.now c.args.from) (sym c.of.ensures)

pub with_middle-second-requires-clause-known : goal.with_middle-second-requires-clause-known
with_middle-second-requires-clause-known c = c.with_middle-first.ensures ∙ ap (choices_below c.args.a.now c.args.b.now c.args.from) (omega (arith, c.of.ensures, c.of-2.ensures))

pub with_middle-third-requires-clause-known : goal.with_middle-third-requires-clause-known
with_middle-third-requires-clause-known c = c.with_middle-second.ensures ∙ ap (choices_below c.args.a.now c.args.b.now c.args.from) (omega (arith, c.of-2.ensures, c.of-3.ensures))

pub with_middle-fourth-requires-clause-known : goal.with_middle-fourth-requires-clause-known
with_middle-fourth-requires-clause-known c = c.with_middle-third.ensures ∙ ap (choices_below c.args.a.now c.args.b.now c.args.from) (omega (arith, c.of-3.ensures, c.of-4.ensures))

pub with_middle-requires-clause-known : goal.with_middle-requires-clause-known
with_middle-requires-clause-known c = c.with_middle-fourth.ensures ∙ ap (choices_below c.args.a.now c.args.b.now c.args.from) (omega (arith, c.of-4.ensures, c.of-5.ensures))

pub returns : goal.returns
unfolding choice
returns c =
    let all : c.of-5.result + 1 ≡ 5 = omega (arith, c.of-5.ensures) in
    c.with_middle.ensures ∙ ap (choices_below c.args.a.now c.args.b.now c.args.from) all
