use Rattle.std.proofs.Common.{rules, ◌≡◌, ◌+◌, ◌++◌, ◌∷◌, [], ap, sym, ◌∙◌}
use Rattle.bar_pool.specs.Sources.{counted_from}
use Rattle.bar_pool.proofs.Numbers.{numbers_more}
use Rattle.bar_pool.proofs.pool.numbers_below.Goals as goal

pub numbers-preserved : goal.numbers-preserved
numbers-preserved c =
    let pushed : c.push.new.self.items ≡ c.numbers.numbers.items ++ c.numbers.number ∷ [] = search rules in
    let place : c.numbers.number ≡ 0 + c.numbers.number = search rules in
    pushed ∙ ap (λ l. l ++ c.numbers.number ∷ []) c.numbers.invariant ∙ ap (λ n. counted_from 0 c.numbers.number ++ n ∷ []) place ∙ sym (numbers_more 0 c.numbers.number)
