use Rattle.std.proofs.Common.{arith, ◌≡◌, ◌<◌, All, length, ap, sym, subst, ◌∙◌}
use Rattle.std.proofs.lemmas.Result.{on_ok_weaker}
use Rattle.bar_pool.proofs.SourceLists.{searched_below, searched_few}
use Rattle.bar_pool.proofs.Spreading.{each_length}
use Rattle.bar_pool.specs.Sources.{IsTableAt, searched_from}
use Rattle.bar_pool.proofs.pool.build_cells.Goals as goal

pub build_all_searched-requires-clause-within : goal.build_all_searched-requires-clause-within
build_all_searched-requires-clause-within g c κs within =
    let many = length c.args.order.now.inputs.now in
    let equals = c.in_ok-sources.sources.equals.items in
    let long = c.in_ok-sources.ensures.equals.long in
    let is : c.as_slice-searched.result.now ≡ searched_from 0 equals = c.as_slice-searched.ensures.value ∙ c.in_ok-sources.ensures.searched in
    subst (All (λ n. n < many)) (sym is) (searched_below 0 many equals (omega (arith, long)))

pub returns-in_err-found-clause-most : goal.returns-in_err-found-clause-most
returns-in_err-found-clause-most g c =
    let equals = c.in_ok-sources.sources.equals.items in
    let is : length c.as_slice-searched.result.now ≡ length (searched_from 0 equals) = ap length (c.as_slice-searched.ensures.value ∙ c.in_ok-sources.ensures.searched) in
    let few = searched_few 0 equals in
    let most = c.build_all_searched.ensures.most in
    (most.0, omega (arith, most.1, is, few, c.in_ok-sources.ensures.equals.long))

pub returns-clause-builds : goal.returns-clause-builds
returns-clause-builds g c =
    let inputs = c.args.order.now.inputs.now in
    let equals = c.in_ok-sources.sources.equals.items in
    let searched = c.as_slice-searched.result.now in
    let is : length searched ≡ length (searched_from 0 equals) = ap length (c.as_slice-searched.ensures.value ∙ c.in_ok-sources.ensures.searched) in
    let few = searched_few 0 equals in
    let many = each_length (IsTableAt c.args.order.now.grammar.now inputs) searched c.in_ok-found.found.items c.in_ok-found.ensures.things in
    on_ok_weaker c.spread.result (λ rises. omega (arith, rises, c.in_ok-found.ensures.builds, many, is, few, c.in_ok-sources.ensures.equals.long)) c.spread.ensures.builds

pub returns-clause-most : goal.returns-clause-most
returns-clause-most g c =
    let inputs = c.args.order.now.inputs.now in
    let equals = c.in_ok-sources.sources.equals.items in
    let searched = c.as_slice-searched.result.now in
    let is : length searched ≡ length (searched_from 0 equals) = ap length (c.as_slice-searched.ensures.value ∙ c.in_ok-sources.ensures.searched) in
    let few = searched_few 0 equals in
    let many = each_length (IsTableAt c.args.order.now.grammar.now inputs) searched c.in_ok-found.found.items c.in_ok-found.ensures.things in
    let most = c.spread.ensures.most in (
      omega (arith, most.0, c.in_ok-found.ensures.builds),
      omega (arith, most.1, c.in_ok-found.ensures.builds, many, is, few, c.in_ok-sources.ensures.equals.long),
    )
