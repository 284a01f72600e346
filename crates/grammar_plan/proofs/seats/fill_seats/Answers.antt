use Rattle.std.proofs.Common.{rules, ◌≤◌, length, arith}
use Rattle.grammar_plan.proofs.SeatLemmas.{draft-few}
use Rattle.grammar_plan.proofs.seats.fill_seats.Goals as goal

pub returns-then-number-len-clause-all : goal.returns-then-number-len-clause-all
returns-then-number-len-clause-all c =
    let d = c.seats.draft in
    let few = draft-few c.args.grammar.now d.pairs.found.items d.parts.items d.cuts.items c.seats.seats.items c.seats.invariant.draft in
    let count = c.seats.invariant.count in
    let all : length d.pairs.found.items ≤ c.seats.number = search rules in
    omega (arith, few, count, all)
