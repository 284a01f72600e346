use Rattle.std.proofs.Common.{◌≡◌, ◌<◌, ◌≤◌, arith, [], ◌∷◌, refl, subst}
use Rattle.std.specs.Prelude.{Option, Some, None, option_map}
use Rattle.std.proofs.lemmas.Option.{slice_get_within}
use Rattle.std.proofs.lemmas.Result.{IfOk-weaker}
use Rattle.rhythm_base.specs.Shape.{Shape}
use Rattle.tree_laws.specs.Forests.{first_shape, one_shape}
use Rattle.row_laws.specs.Grounds.{ground_of}
use Rattle.best_trees.specs.Pins.{least_leaves}
use Rattle.best_trees.proofs.Crowds.{crowded-none}
use Rattle.best_trees.proofs.Steps.{forests-none}
use Rattle.best_trees.proofs.bar.best_trees.Goals as goal

pub returns-then-leaves-from : goal.returns-then-leaves-from
returns-then-leaves-from c =
    let g = c.args.grammar.now in
    let k = c.args.input.now in
    let shape = option_map (λ s. s.now) c.args.shape in
    let many : k.resolution < c.leaves.result = let true_so = c.if-leaves-from.true in let from = c.from.ensures in let units = c.resolution.ensures in omega (arith, true_so, from, units) in
    let least : c.leaves.result ≤ least_leaves shape = subst (λ s. c.leaves.result ≤ least_leaves s) c.in_ok-demand.ensures c.leaves.ensures in
    let bare = crowded-none (k.resolution, k.symbol) [] (one_shape shape) shape c.leaves.result c.requires.ready.cell.some_unit (one_first shape) least many in
    IfOk-weaker c.none.result _ _ (λ grid is. forests-none (ground_of g k) (one_shape shape) c.args.count 0 ((k.resolution, k.symbol) ∷ []) grid (bare g.rules) is) c.none.ensures
  where
    one_first : (s : Option Shape) → first_shape (one_shape s) ≡ one_shape s
    one_first None = refl
    one_first (Some x) = refl

pub take-requires-2 : goal.take-requires-2
take-requires-2 c =
    let answer = c.in_ok-number.ensures.answer in
    slice_get_within c.search-2.new.memo.found.items c.in_ok-number.number answer.0 answer.1
