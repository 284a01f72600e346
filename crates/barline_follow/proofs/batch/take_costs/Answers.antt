use Rattle.std.proofs.Common.{◌≡◌, ℕ, ◌+◌, ◌<◌, ◌++◌, List, drop, length, set, ap, sym, subst, ◌∙◌, arith}
use Rattle.std.specs.Prelude.{All}
use Rattle.std.specs.List.{flat_map}
use Rattle.std.proofs.lemmas.List.{drop-set-lt, take_all}
use Rattle.bar_pool.specs.Costs.{AreAllCosts}
use Rattle.barline_follow.specs.Longer.{Longer, draft_of}
use Rattle.barline_follow.specs.PassedOver.{IsWeighed, cells_in}
use Rattle.barline_follow.proofs.Batches.{all_more, next_weighed, same_long, same_set, some_cost}
use Rattle.barline_follow.proofs.batch.take_costs.Goals as goal

pub take_cost-requires : goal.take_cost-requires
take_cost-requires c =
    let w = c.requires in
    let i : ℕ = c.lists.list-index in
    let within : i < length c.lists.lists = omega (arith, c.lists-test.true, same_long c.lists.lists c.args.lists.now c.lists.invariant.1) in
    let was = c.lists.invariant.0 w.0 w.1 w.2 w.3 w.4 w.5 in
    let here = next_weighed w.0 w.1 w.2 c.lists.lists i c.list-item.result c.lists.left.now within c.list-item.is was.1 was.2 in
    let some = some_cost w.0 w.1 w.2 c.list-item.result (flat_map (cells_in w.0 w.2) (drop (i + 1) c.lists.lists)) c.lists.left.now w.3 here.0 here.2 in
    record { some = λ still. some (ap (λ (x : Longer). x.is_out) c.list-item.is ∙ still) }

pub lists-preserved : goal.lists-preserved
lists-preserved c =
    let i : ℕ = c.lists.list-index in
    let ls : List Longer = c.lists.lists in
    let l : Longer = c.list-item.result in
    let m : Longer = c.take_cost.new.list in
    let within : i < length ls = omega (arith, c.lists-test.true, same_long ls c.args.lists.now c.lists.invariant.1) in (
      λ next r v lt all are.
          let was = c.lists.invariant.0 next r v lt all are in
          let here = next_weighed next r v ls i l c.lists.left.now within c.list-item.is was.1 was.2 in
          let one = c.in_ok-left.ensures.taken next r v (flat_map (cells_in next v) (drop (i + 1) ls)) lt
          (subst (λ (x : Longer). IsWeighed next r v x) c.list-item.is here.0)
          (subst (λ (x : Longer). AreAllCosts next.grammar.now (cells_in next v x ++ flat_map (cells_in next v) (drop (i + 1) ls)) c.lists.left.now) c.list-item.is here.2) in
          let same : drop (i + 1) (set ls i m) ≡ drop (i + 1) ls = drop-set-lt (i + 1) ls i m (omega arith) in (
            all_more (IsWeighed next r (v + 1)) ls i m within was.0 one.1,
            subst (λ (xs : List Longer). All (IsWeighed next r v) xs) (sym same) here.1,
            subst (λ (xs : List Longer). AreAllCosts next.grammar.now (flat_map (cells_in next v) xs) c.in_ok-left.left.now) (sym same) one.0,
          ),
      same_set draft_of ls i l m within c.in_ok-left.ensures.draft ∙ c.lists.invariant.1,
    )

pub returns-clause-weighed : goal.returns-clause-weighed
returns-clause-weighed c next r v lt all are =
    let was = c.lists.invariant.0 next r v lt all are in
    subst (λ (xs : List Longer). All (IsWeighed next r (v + 1)) xs) (take_all c.lists.list-index c.lists.lists (omega (arith, c.lists-test.false, same_long c.lists.lists c.args.lists.now c.lists.invariant.1))) was.0
