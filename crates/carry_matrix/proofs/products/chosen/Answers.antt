use Rattle.std.proofs.Common.{◌≡◌, ◌∙◌, ◌+◌, ℕ, suc, sym, ap, arith}
use Rattle.std.specs.Prelude.{Option, slice_index_or}
use Rattle.rhythm_base.specs.Ranked.{Sum, at, better, choice, pick, sum_before, summed}
use Rattle.carry_matrix.specs.Choices.{choice_code}
use Rattle.carry_matrix.specs.Rows.{cost_code, rank_code}
use Rattle.carry_matrix.proofs.Choices.{pick_low}
use Rattle.path_laws.proofs.Products.{five_at}
use Rattle.carry_matrix.proofs.products.chosen.Goals.{in-Some, in_default}
use Rattle.carry_matrix.proofs.products.chosen.Goals as goal

pub counts-preserved : goal.counts-preserved
counts-preserved c =
    let m : ℕ = c.counts.middle in
    let count : ℕ = c.of-count.result in
    let place : ℕ = c.index-place.result in
    let within = c.index-place.ensures.within in
    let sums : ℕ → Option Sum = λ m. summed (at c.args.a.now c.args.from m) (at c.args.b.now m place) in
    let next : suc m ≡ m + 1 = omega arith in
    elim c.match-entry.branch [
      | in-Some w ↦
          w.best-is
          ∙ w.nearer-best.ensures (pick sum_before sums m) (at c.args.b.now count place) (pick_low c.args.a.now c.args.b.now c.requires.small c.requires.ranked c.args.from m (omega (arith, c.counts.auto.middle-end)) place within)
          c.counts.invariant
          (ap (λ r. slice_index_or r.costs place 0) w.row-row.ensures.is ∙ five_at (λ to. cost_code (at c.args.b.now count to)) 0 place within)
          (ap (λ r. slice_index_or r.ranks place 0) w.row-row.ensures.is ∙ five_at (λ to. rank_code (at c.args.b.now count to)) 0 place within)
          (λ y s. c.requires.small c.args.from count count place w.in-Some.left y (sym w.in-Some.ensures.is) s)
          ∙ ap (λ x. choice_code (better sum_before (pick sum_before sums m) m (summed x (at c.args.b.now count place)))) w.in-Some.ensures.is
          ∙ ap (λ n. choice_code (better sum_before (pick sum_before sums m) m (sums n))) c.of-count.ensures
          ∙ ap (λ n. choice_code (pick sum_before sums n)) next
      | in_default w ↦
          w.best-is
          ∙ c.counts.invariant
          ∙ ap (λ x. choice_code (better sum_before (pick sum_before sums m) m (summed x (at c.args.b.now count place)))) w.in_default.ensures.is
          ∙ ap (λ n. choice_code (better sum_before (pick sum_before sums m) m (sums n))) c.of-count.ensures
          ∙ ap (λ n. choice_code (pick sum_before sums n)) next
    ]

pub returns : goal.returns
unfolding choice
returns c =
    let all : c.counts.middle ≡ 5 = omega (arith, c.counts.auto.middle-end, c.counts-test.false) in
    c.counts.invariant
    ∙ ap (λ n. choice_code (pick sum_before (λ m. summed (at c.args.a.now c.args.from m) (at c.args.b.now m c.index-place.result)) n)) all
    ∙ ap (λ to. choice_code (pick sum_before (λ m. summed (at c.args.a.now c.args.from m) (at c.args.b.now m to)) 5)) c.index-place.ensures.is
