use Rattle.std.proofs.Common.{◌≡◌, ◌∙◌, ap}
use Rattle.rhythm_base.specs.Ranked.{at}
use Rattle.carry_matrix.specs.Rows.{entries_of, entry_at}
use Rattle.carry_matrix.proofs.Rows.{entry_read, rank_within}
use Rattle.carry_matrix.proofs.matrix.CarryMatrix.entry.Goals as goal

found : (c : goal.After-entry) → c.entry.result ≡ at (entries_of c.self.inside.rows) c.index.result c.index-place.result
found c =
    c.entry.ensures
    ∙ ap (λ rows. entry_at rows c.index.result c.index-place.result) c.self.invariant.coded
    ∙ entry_read _ c.self.invariant.low c.index.result c.index-place.result c.index.ensures.within c.index-place.ensures.within

pub returns-clause-is : goal.returns-clause-is
returns-clause-is c =
    found c
    ∙ ap (λ m. at m c.index.result c.index-place.result) c.self.view_is
    ∙ (λ i. at c.args.self.now (c.index.ensures.is i) (c.index-place.ensures.is i))

pub returns-clause-rank : goal.returns-clause-rank
returns-clause-rank c =
    rank_within _ c.self.invariant.ranked c.index.result c.index-place.result c.index.ensures.within c.index-place.ensures.within c.entry.result (found c)
