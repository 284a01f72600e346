use Rattle.std.proofs.Common.{[], ◌∷◌, refl, sym, subst, append-nil}
use Rattle.std.specs.Prelude.{Some, None}
use Rattle.tree_laws.specs.Forests.{IsForestKey}
use Rattle.path_laws.specs.Tables.{IsLeastKey}
use Rattle.grammar_plan.specs.Plans.{pair_of}
use Rattle.bar_trees.specs.WrittenLists.{IsListOf}
use Rattle.least_rows.specs.Searches.{ground_in}
use Rattle.least_rows.specs.Places.{IsSeatPlace}
use Rattle.least_rows.proofs.PlanSeats.{on_ok, root-place}
use Rattle.least_rows.proofs.RootRows.{no-list, some_key}
use Rattle.least_rows.proofs.roots.write_list.Goals as goal

pub returns-in_default-clause-list : goal.returns-in_default-clause-list
returns-in_default-clause-list c =
    ([], sym (append-nil c.args.rules.now.items), no-list c.args.search.now.grammar.now c.args.search.now.input.now c.args.tree.from c.args.tree.to c.args.best c.requires.root.to c.requires.best c.in_default.is)

pub write-requires-clause-tree : goal.write-requires-clause-tree
write-requires-clause-tree c = record {
  place = subst (IsSeatPlace c.args.search.now c.args.tree.seat) (sym c.requires.root.place) (root-place c.args.search.now c.args.tree.seat c.requires.root.root);
  from = c.requires.root.from;
}

pub returns-clause-list : goal.returns-clause-list
returns-clause-list c =
    let bar = c.args.search.now in
    let seat = c.requires.root.root in
    let found = some_key bar.grammar.now bar.input.now c.args.tree.from c.args.tree.to c.args.best c.requires.root.to c.requires.best c.in-Some._best c.in-Some.is in
    let least : IsLeastKey (IsForestKey (ground_in bar) None c.args.tree.place (pair_of seat.0 ∷ []) c.args.tree.from c.args.tree.to) (Some found.0)
    = subst (λ p. IsLeastKey (IsForestKey (ground_in bar) None p (pair_of seat.0 ∷ []) c.args.tree.from c.args.tree.to) (Some found.0)) (sym c.requires.root.place)
    (subst (λ q. IsLeastKey (IsForestKey (ground_in bar) None 0 (q ∷ []) c.args.tree.from c.args.tree.to) (Some found.0)) (sym seat.2) found.1) in
    on_ok c.write.result (λ h. (found.0.1, h seat.0 found.0 seat.1 least, λ keys own. subst (λ o. IsListOf o found.0.1) (sym (found.2 keys own)) refl)) c.write.ensures.list
