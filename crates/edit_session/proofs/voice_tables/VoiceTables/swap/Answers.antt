use Rattle.std.proofs.Common.{length, set, sym, ap, ◌∙◌, subst, arith}
use Rattle.std.proofs.lemmas.List.{length-map, map-set}
use Rattle.rhythm_base.specs.declared.limits.TheConstants.{DEAREST_CELL}
use Rattle.rhythm_base.specs.BarTables.{BarTable}
use Rattle.rhythm_base.specs.Paths.{IsCheap}
use Rattle.chain_bars.specs.Laws.{matrices}
use Rattle.edit_session.specs.VoiceTables.{VoiceTables}
use Rattle.edit_session.proofs.voice_tables.VoiceTables.swap.Goals as goal

pub replace-requires-clause-cheap : goal.replace-requires-clause-cheap
replace-requires-clause-cheap g c κs within = subst (IsCheap DEAREST_CELL) (sym c.matrix.ensures) c.requires.cheap

pub invariant_of-self : goal.invariant_of-self
invariant_of-self g c =
    c.replace.ensures.cells
    ∙ (λ i. set (c.self.invariant i) c.args.bar (c.matrix.ensures i))
    ∙ sym (map-set (λ (x : BarTable). x.matrix) c.self.inside.tables.items c.args.bar c.args.table)
    ∙ ap (λ (x : BarTable). matrices (set c.self.inside.tables.items c.args.bar x)) (sym c.replace-2.ensures.after)

pub returns-clause-products : goal.returns-clause-products
returns-clause-products g c = (
  c.replace.ensures.products.0,
  λ d few.
      let long = ap length c.self.invariant ∙ length-map c.self.inside.tables.items (λ (x : BarTable). x.matrix) ∙ ap (λ (v : VoiceTables). length v.tables) c.self.view_is in
      c.replace.ensures.products.1 d (omega (arith, few, long)),
)
