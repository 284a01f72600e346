use Rattle.std.proofs.Common.{rules, ℕ, ◌≡◌, ◌+◌, ◌-◌, ◌*◌, ◌≤◌, ◌++◌, ◌∷◌, [], ◌∙◌, ap, arith}
use Rattle.barline_follow.specs.Script.{further}
use Rattle.barline_follow.proofs.Further.{further_more, last_more}
use Rattle.barline_follow.proofs.barlines.lengthened.Goals as goal

pub bars-preserved : goal.bars-preserved
bars-preserved c =
    let bar : ℕ = c.args.bar in
    let left : ℕ = c.args.count - c.bars._number in
    let some : 1 ≤ left = omega (arith, c.bars-test.true) in
    let less : c.args.count - (c.bars._number + 1) ≡ left - 1 = omega arith in
    let pushed : c.push.new.self.items ≡ c.bars.longer.items ++ ((c.bars.last + bar) ∷ []) = search rules in (
      ap (λ xs. xs ++ further bar (c.bars.last + bar) (c.args.count - (c.bars._number + 1))) pushed
          ∙ ap (λ n. (c.bars.longer.items ++ ((c.bars.last + bar) ∷ [])) ++ further bar (c.bars.last + bar) n) less
          ∙ further_more c.bars.longer.items bar c.bars.last left some
          ∙ c.bars.invariant.0,
      ap (λ n. c.bars.last + bar + n * bar) less ∙ last_more bar c.bars.last left some ∙ c.bars.invariant.1,
    )
