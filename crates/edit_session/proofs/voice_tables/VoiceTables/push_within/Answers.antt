use Rattle.std.proofs.Common.{length, sym, ap, ◌∙◌, subst, arith}
use Rattle.std.proofs.lemmas.List.{length-map}
use Rattle.rhythm_base.specs.declared.limits.TheConstants.{DEAREST_CELL}
use Rattle.rhythm_base.specs.BarTables.{BarTable}
use Rattle.rhythm_base.specs.Paths.{IsCheap}
use Rattle.edit_session.specs.VoiceTables.{VoiceTables}
use Rattle.edit_session.proofs.voice_tables.VoiceTables.push_within.Goals as goal

pub push_within-requires-clause-cheap : goal.push_within-requires-clause-cheap
push_within-requires-clause-cheap g c κs within = subst (IsCheap DEAREST_CELL) (sym c.matrix.ensures) c.requires.cheap

pub returns-clause-products : goal.returns-clause-products
returns-clause-products g c = (
  c.push_within.ensures.products.0,
  λ d few.
      let long = ap length c.self.invariant ∙ length-map c.self.inside.tables.items (λ (x : BarTable). x.matrix) ∙ ap (λ (v : VoiceTables). length v.tables) c.self.view_is in
      c.push_within.ensures.products.1 d (omega (arith, few, long)),
)
