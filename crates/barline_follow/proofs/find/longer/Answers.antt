use Rattle.std.proofs.Common.{rules, ℕ, ◌≡◌, ◌+◌, ◌<◌, ◌≤◌, ◌^◌, ◌++◌, ◌∷◌, [], List, sym, subst, ◌∙◌, arith}
use Rattle.rhythm_base.specs.Lists.{last_end}
use Rattle.barline_follow.specs.Barring.{barring_end}
use Rattle.barline_follow.proofs.Further.{last_pushed}
use Rattle.barline_follow.proofs.find.longer.Goals as goal

pub of-requires-clause-end : goal.of-requires-clause-end
of-requires-clause-end c =
    let end : ℕ = c.end.result + c.args.offer.ticks in
    let pushed : c.push.new.self.items ≡ c.in_ok-ticks.ticks.items ++ (end ∷ []) = search rules in
    let last : last_end 0 (c.in_ok-ticks.ticks.items ++ (end ∷ [])) ≡ end = last_pushed 0 end c.in_ok-ticks.ticks.items in
    let early : barring_end c.args.barring.now + c.args.offer.ticks ≤ 2000000000 = c.requires.early in
    let low : last_end 0 (c.in_ok-ticks.ticks.items ++ (end ∷ [])) < 2 ^ 33 = omega (arith, last, c.end.ensures.value, early) in
    subst (λ (l : List ℕ). last_end 0 l < 2 ^ 33) (sym pushed) low

pub of-requires-clause-value : goal.of-requires-clause-value
of-requires-clause-value c = omega (arith, c.prices.ensures, c.requires.low)

pub returns : goal.returns
returns c =
    let end : ℕ = c.end.result + c.args.offer.ticks in
    let pushed : c.push.new.self.items ≡ c.in_ok-ticks.ticks.items ++ (end ∷ []) = search rules in
    let copied : c.in_ok-ticks.ticks.items ≡ c.args.barring.now.ticks = search rules in
    let ticks_are : c.push.new.self.items ≡ c.args.barring.now.ticks ++ ((barring_end c.args.barring.now + c.args.offer.ticks) ∷ []) =
    pushed ∙ (λ i. copied i ++ ((c.end.ensures.value i + c.args.offer.ticks) ∷ [])) in
    c.of.ensures ∙ (λ i. record { ticks = ticks_are i; prices = c.prices.ensures i + c.args.offer.price; cost = c.args.cost })
