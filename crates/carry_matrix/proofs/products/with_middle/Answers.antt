use Rattle.std.proofs.Common.{◌≡◌, ◌∙◌, ◌+◌, ℕ, suc, sym, ap, arith}
use Rattle.std.specs.Prelude.{Option, Some}
use Rattle.rhythm_base.specs.Ranked.{Sum, at, better, pick, sum_before, summed}
use Rattle.carry_matrix.specs.Choices.{choices_below, choices_code}
use Rattle.carry_matrix.proofs.Choices.{pick_low}
use Rattle.carry_matrix.proofs.products.with_middle.Goals as goal

pub returns-in-Some : goal.returns-in-Some
returns-in-Some c =
    let m : ℕ = c.args.middle in
    let sums : ℕ → ℕ → Option Sum = λ to m. summed (at c.args.a.now c.args.from m) (at c.args.b.now m to) in
    let next : suc m ≡ m + 1 = omega arith in
    c.nearer_row.ensures (λ to. pick sum_before (sums to) m) (at c.args.b.now m) (pick_low c.args.a.now c.args.b.now c.requires.small c.requires.ranked c.args.from m (omega (arith, c.count.ensures.is, c.count.ensures.within)))
    c.requires.known c.row.ensures.is
    (λ to y lt s. c.requires.small c.args.from m m to c.in-Some.left y (sym c.in-Some.ensures.is) s)
    ∙ ap (λ n. choices_code (λ to. better sum_before (pick sum_before (sums to) m) n (summed (Some c.in-Some.left) (at c.args.b.now m to)))) c.count.ensures.is
    ∙ ap (λ x. choices_code (λ to. better sum_before (pick sum_before (sums to) m) m (summed x (at c.args.b.now m to)))) c.in-Some.ensures.is
    ∙ ap (choices_below c.args.a.now c.args.b.now c.args.from) next

pub returns-in_default : goal.returns-in_default
returns-in_default c =
    let m : ℕ = c.args.middle in
    let sums : ℕ → ℕ → Option Sum = λ to m. summed (at c.args.a.now c.args.from m) (at c.args.b.now m to) in
    let next : suc m ≡ m + 1 = omega arith in
    c.requires.known
    ∙ ap (λ x. choices_code (λ to. better sum_before (pick sum_before (sums to) m) m (summed x (at c.args.b.now m to)))) c.in_default.ensures.is
    ∙ ap (choices_below c.args.a.now c.args.b.now c.args.from) next
