use Rattle.std.proofs.Common.{◌≡◌, ◌+◌, ◌++◌, [], List, length, map, refl, sym, subst, ◌∙◌}
use Rattle.std.proofs.lemmas.List.{append-nil, take_all}
use Rattle.std.proofs.lemmas.List.Elements.{All-nil}
use Rattle.bar_pool.specs.Costs.{AreAllCosts}
use Rattle.least_cost.specs.declared.costs.BarCosts.{BarCosts}
use Rattle.rhythm_base.specs.Lists.{Each}
use Rattle.barline_follow.specs.declared.offers.Offer.{Offer}
use Rattle.barline_follow.specs.Barring.{Course, barring_end}
use Rattle.barline_follow.specs.Gathered.{IsGathered, found_of, going_in}
use Rattle.barline_follow.specs.Longer.{Longer, draft_of}
use Rattle.barline_follow.specs.NextBars.{IsCourseOf, IsTried, asked_cells}
use Rattle.barline_follow.specs.PassedOver.{IsWeighed}
use Rattle.barline_follow.specs.Rounds.{Draft, Found, IsFound, with_bar}
use Rattle.barline_follow.proofs.Batches.{all_known, gathered_on}
use Rattle.barline_follow.proofs.gather.add_all.Goals as goal

pub find-requires-clause-costs : goal.find-requires-clause-costs
find-requires-clause-costs c =
    let next = c.args.next.now in
    let l : Longer = c.list-item.result in
    let weighed = subst (IsWeighed next c.args.round.now (length next.voices.now)) (sym c.list-item.is) (c.requires.weighed c.lists.list-index l c.lists-test.true) in
    let full = all_known next c.args.round.now l weighed (sym c.is_out.ensures ∙ c.if-is_out.false) in
    subst (λ (cs : List BarCosts). AreAllCosts next.grammar.now (asked_cells next c.course.result.now c.offer.result) cs) (sym c.costs.ensures)
    (subst (λ (t : Course). AreAllCosts next.grammar.now (asked_cells next t c.offer.result) l.costs) (sym c.course.ensures)
    (subst (λ (o : Offer). AreAllCosts next.grammar.now (asked_cells next l.course o) l.costs) (sym c.offer.ensures) full))

pub find-requires-clause-course : goal.find-requires-clause-course
find-requires-clause-course c =
    let next = c.args.next.now in
    let l : Longer = c.list-item.result in
    let weighed = subst (IsWeighed next c.args.round.now (length next.voices.now)) (sym c.list-item.is) (c.requires.weighed c.lists.list-index l c.lists-test.true) in
    subst (λ (t : Course). IsCourseOf next next.number t) (sym c.course.ensures) weighed.longer.course

pub find-requires-clause-tried : goal.find-requires-clause-tried
find-requires-clause-tried c =
    let next = c.args.next.now in
    let l : Longer = c.list-item.result in
    let weighed = subst (IsWeighed next c.args.round.now (length next.voices.now)) (sym c.list-item.is) (c.requires.weighed c.lists.list-index l c.lists-test.true) in
    subst (λ (t : Course). IsTried next (barring_end t.barring) c.offer.result) (sym c.course.ensures)
    (subst (λ (o : Offer). IsTried next (barring_end l.course.barring) o) (sym c.offer.ensures) weighed.longer.tried)

pub add-requires : goal.add-requires
add-requires c =
    let h = c.lists.invariant c.requires.round.0 c.requires.round.1 c.requires.round.2 c.requires.round.3 in
    (c.requires.round.0, c.requires.round.1 ++ h.0, c.requires.round.2 ++ h.1, h.4)

pub lists-init : goal.lists-init
lists-init c best found courses h = (
  [],
  [],
  refl,
  All-nil (IsCourseOf c.args.next.now (c.args.next.now.number + 1)),
  subst (λ (l : List Found). IsGathered best l (courses ++ []) c.args.round.now) (sym (append-nil found))
      (subst (λ (l : List Course). IsGathered best found l c.args.round.now) (sym (append-nil courses)) h),
)

pub lists-preserved : goal.lists-preserved
lists-preserved c best found courses h =
    let next = c.args.next.now in
    let l : Longer = c.list-item.result in
    let was = c.lists.invariant best found courses h in
    let added = c.in_ok-add.ensures best (found ++ was.0) (courses ++ was.1) was.4 in
    let drafts : with_bar c.course.result.now.barring c.offer.result ≡ draft_of l = λ k. with_bar (c.course.ensures k).barring (c.offer.ensures k) in
    gathered_on next c.args.lists.now c.lists.list-index l best found was.0 courses was.1 c.add.new.self (found_of c.in_ok-found.found)
    (going_in c.in_ok-found.found) c.lists-test.true c.list-item.is was.2 was.3
    (subst (λ (d : Draft). IsFound next.grammar.now next.performance.now d (found_of c.in_ok-found.found)) drafts c.in_ok-found.ensures.found)
    c.in_ok-found.ensures.going added

pub lists-preserved-then-is_out : goal.lists-preserved-then-is_out
lists-preserved-then-is_out c best found courses h =
    let next = c.args.next.now in
    let l : Longer = c.list-item.result in
    let was = c.lists.invariant best found courses h in
    let weighed = subst (IsWeighed next c.args.round.now (length next.voices.now)) (sym c.list-item.is) (c.requires.weighed c.lists.list-index l c.lists-test.true) in
    let passed = weighed.out (sym c.is_out.ensures ∙ c.if-is_out.true) in
    gathered_on next c.args.lists.now c.lists.list-index l best found was.0 courses was.1 c.lists.round passed.0 passed.1
    c.lists-test.true c.list-item.is was.2 was.3 passed.2 passed.3 (passed.4 best found was.0 courses was.1 c.lists.round h was.4)

pub returns : goal.returns
returns c best found courses h =
    let next = c.args.next.now in
    let was = c.lists.invariant best found courses h in (
      was.0,
      was.1,
      subst (λ (l : List Longer). Each (IsFound next.grammar.now next.performance.now) (map draft_of l) was.0)
          (take_all c.lists.list-index c.args.lists.now c.lists-test.false) was.2,
      was.3,
      was.4,
    )
