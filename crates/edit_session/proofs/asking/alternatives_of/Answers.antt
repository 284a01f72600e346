use Rattle.std.proofs.Common.{ℕ, ◌≡◌, ◌<◌, List, ap, get_or, length, refl, subst, sym, ◌∙◌}
use Rattle.std.specs.Prelude.{Some, slice_get}
use Rattle.std.proofs.lemmas.Option.{slice_get_read}
use Rattle.bar_alternatives.specs.BestTrees.{AreBestTrees, AreSmall, unpinned}
use Rattle.bar_alternatives.specs.Laws.{costs_after, costs_before}
use Rattle.rhythm_base.specs.BarInput.{BarInput}
use Rattle.rhythm_base.specs.BarTables.{BarTable}
use Rattle.rhythm_base.specs.Forest.{Tree}
use Rattle.edit_session.proofs.AskedBars.{best_of_bar, can_be_pinned, small_after, small_before}
use Rattle.edit_session.proofs.asking.alternatives_of.Given.{Over}
use Rattle.edit_session.proofs.asking.alternatives_of.Goals as goal
use Rattle.edit_session.proofs.asking.alternatives_of.Goals.{In_ok-list}

pub alternatives-requires-clause-before : goal.alternatives-requires-clause-before
alternatives-requires-clause-before g c =
    subst AreSmall (sym c.around-around.ensures.before) (small_before c.args.grammar.now c.args.voice.now.tables c.requires.tables c.requires.few c.args.bar)

pub alternatives-requires-clause-after : goal.alternatives-requires-clause-after
alternatives-requires-clause-after g c =
    subst AreSmall (sym c.around-around.ensures.after) (small_after c.args.grammar.now c.args.voice.now.tables c.requires.tables c.requires.few c.args.bar)

there : (g : Over) (c : In_ok-list g) → slice_get c.args.voice.now.tables c.args.bar ≡ Some c.index-tables-bar.result
there g c =
    let tables = c.tables.ensures in
    ap (λ ts. slice_get ts c.args.bar) (sym tables)
    ∙ slice_get_read c.tables.result.now (length c.tables.result.now) c.args.bar c.index-tables-bar.result refl (subst (λ (ts : List BarTable). c.args.bar < length ts) (sym tables) c.requires.bar) c.index-tables-bar.is

best : (g : Over) (c : In_ok-list g)
    → AreBestTrees c.args.grammar.now (unpinned c.index-tables-bar.result.input) (costs_before c.args.voice.now.tables c.args.bar) (costs_after c.args.voice.now.tables c.args.bar) c.args.count c.in_ok-list.list.items
best g c =
    let grammar = c.args.grammar.now in
    let list : List (ℕ × Tree) = c.in_ok-list.list.items in
    subst (λ l. AreBestTrees grammar (unpinned c.index-tables-bar.result.input) (costs_before c.args.voice.now.tables c.args.bar) l c.args.count list) c.around-around.ensures.after
    (subst (λ l. AreBestTrees grammar (unpinned c.index-tables-bar.result.input) l c.around-around.result.after c.args.count list) c.around-around.ensures.before
    (subst (λ (k : BarInput). AreBestTrees grammar (unpinned k) c.around-around.result.before c.around-around.result.after c.args.count list) c.input-input.ensures c.in_ok-list.ensures))

pub returns-clause-best : goal.returns-clause-best
returns-clause-best g c = λ p channel formed tables.
    best_of_bar c.args.grammar.now c.requires.readable p channel c.args.bar c.args.count c.args.voice.now.tables c.index-tables-bar.result c.in_ok-list.list.items formed tables (there g c) c.requires.bar (best g c)

pub returns-clause-shapes : goal.returns-clause-shapes
returns-clause-shapes g c =
    let units = (let is = c.requires.tables c.args.bar c.index-tables-bar.result c.requires.bar in
    ap (λ (x : BarTable). x.input.resolution) (c.index-tables-bar.is ∙ ap (λ (ts : List BarTable). get_or ts c.args.bar c.index-tables-bar.result) c.tables.ensures) ∙ is.units) in
    can_be_pinned c.args.grammar.now c.requires.readable (unpinned c.index-tables-bar.result.input) (costs_before c.args.voice.now.tables c.args.bar) (costs_after c.args.voice.now.tables c.args.bar) c.args.count
    c.in_ok-list.list.items units (best g c)
