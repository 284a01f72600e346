use Rattle.std.proofs.Common.{◌∷◌, [], length, sym, ap, ◌∙◌, subst, arith}
use Rattle.std.proofs.lemmas.List.{length-append}
use Rattle.edit_session.specs.Exchange.{IsCheapTable}
use Rattle.edit_session.proofs.exchange.place_table.Goals as goal

pub swap-table-requires-clause-cheap : goal.swap-table-requires-clause-cheap
swap-table-requires-clause-cheap g c κs within = subst IsCheapTable (sym c.coming.view_is) c.requires.cheap

pub push_within-requires-clause-cheap : goal.push_within-requires-clause-cheap
push_within-requires-clause-cheap g c κs within = subst IsCheapTable (sym c.coming.view_is) c.requires.cheap

pub returns-else-bar-tables-clause-products : goal.returns-else-bar-tables-clause-products
returns-else-bar-tables-clause-products g c = (
  c.push_within.ensures.products.0,
  λ d few.
      let long = ap length c.push_within.ensures.tables ∙ length-append c.args.voice.now.tables (c.coming.inside.table ∷ []) in
      c.push_within.ensures.products.1 d (omega (arith, few, long)),
)
