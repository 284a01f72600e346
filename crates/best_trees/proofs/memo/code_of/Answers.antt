use Rattle.std.proofs.Common.{◌≡◌, ◌∙◌, ◌*◌, ◌%◌, bit_or}
use Rattle.best_trees.specs.Memos.{demand_code, family_code}
use Rattle.best_trees.proofs.memo.code_of.Goals as goal

pub returns : goal.returns
unfolding family_code
returns c =
    let part : c.from-3.result ≡ demand_code c.args.family.demand = c.from-3.ensures ∙ c.demand_code.ensures in
    λ i. bit_or (bit_or (bit_or (c.site_code.ensures i * 4503599627370496 % 18446744073709551616) (c.from.ensures i * 1099511627776 % 18446744073709551616)) (c.from-2.ensures i * 4294967296 % 18446744073709551616)) (part i)
