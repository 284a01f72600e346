use Rattle.std.proofs.Common.{ℕ, sym, ◌∙◌, subst}
use Rattle.durations.specs.Values.{IsLowest}
use Rattle.durations.proofs.length.lowest_parts.Goals as goal

pub returns-clause-lowest : goal.returns-clause-lowest
returns-clause-lowest c =
    let coarser : ℕ → Type 0 = λ b. IsLowest c.args.parts c.args.whole c.lowest-length.result.parts b in
    let told = subst (λ whole. IsLowest c.args.parts whole c.lowest-length.result.parts c.lowest-length.result.whole) c.count.ensures.is c.lowest-length.ensures in
    subst coarser (sym c.of.ensures) told
