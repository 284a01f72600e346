use Rattle.std.proofs.Common.{◌≡◌, ◌+◌, ◌*◌, ◌++◌, ℕ, List, drop, length, map, take, ap, sym, subst, ◌∙◌, arith}
use Rattle.std.specs.Prelude.{All}
use Rattle.std.proofs.lemmas.List.{append_assoc, length-append, length-take, map-append}
use Rattle.std.proofs.lemmas.List.Elements.{All-append, All-take}
use Rattle.edit_session.proofs.GrownVoices.{written_back}
use Rattle.rhythm_base.specs.Counter.{risen}
use Rattle.rhythm_base.specs.Lists.{Each}
use Rattle.barline_follow.specs.Longer.{Longer, draft_of}
use Rattle.barline_follow.specs.NextBars.{IsCourseOf}
use Rattle.barline_follow.specs.PassedOver.{IsUntried, IsWeighed}
use Rattle.barline_follow.specs.Rounds.{Draft, Found, IsFound}
use Rattle.barline_follow.proofs.Batches.{all_back, all_weighed, rises_on, risen_on, rows_few, rows_on, same_long}
use Rattle.barline_follow.proofs.KnownCosts.{in_two}
use Rattle.barline_follow.proofs.Searching.{each_append}
use Rattle.barline_follow.proofs.gather.gather.Goals as goal

pub cost_lists-requires-clause-weighed : goal.cost_lists-requires-clause-weighed
cost_lists-requires-clause-weighed g c κs within =
    let next = c.args.next.now in
    let inv = c.batches.invariant in
    let now : List Longer = c.as_mut_slice.result.now in
    let now_is : now ≡ take c.min.result c.batches.batch.items = c.as_mut_slice.ensures.value ∙ c.in_ok-later.ensures.items in
    let rest = all_back (IsUntried next) inv.0 c.batches.batch.items (subst (λ (l : List Longer). All (IsUntried next) l) inv.1 c.requires.lists) in
    all_weighed next c.batches.round now
    (subst (λ (l : List Longer). All (IsUntried next) l) (sym now_is) (All-take (IsUntried next) c.min.result c.batches.batch.items rest))

pub returns-in_err-cost_lists-clause-most : goal.returns-in_err-cost_lists-clause-most
returns-in_err-cost_lists-clause-most g c =
    let next = c.args.next.now in
    let inv = c.batches.invariant in
    let now : List Longer = c.as_mut_slice.result.now in
    let now_is : now ≡ take c.min.result c.batches.batch.items = c.as_mut_slice.ensures.value ∙ c.in_ok-later.ensures.items in
    let all = ap length inv.1 ∙ length-append inv.0 c.batches.batch.items in
    let few = length-take c.min.result c.batches.batch.items in
    rises_on c.args.builds.now c.batches.builds c.cost_lists.new.builds (length next.voices.now * length inv.0) (length next.voices.now * length now)
    (length next.voices.now * length c.args.lists.items) inv.3 c.cost_lists.ensures.most
    (rows_few (length next.voices.now) (length inv.0) (length c.args.lists.items) (length now) (omega (arith, all, few, ap length now_is)))

pub add_all-requires-clause-weighed : goal.add_all-requires-clause-weighed
add_all-requires-clause-weighed g c =
    let next = c.args.next.now in
    let inv = c.batches.invariant in
    let now : List Longer = c.as_mut_slice.result.now in
    let now_is : now ≡ take c.min.result c.batches.batch.items = c.as_mut_slice.ensures.value ∙ c.in_ok-later.ensures.items in
    let count : c.split_off.new.self.len ≡ length c.split_off.new.self.items = omega (arith, c.as_mut_slice.ensures.len, ap length c.as_mut_slice.ensures.value) in
    let long : length c.cost_lists.new.lists ≡ length c.split_off.new.self.items =
    same_long c.cost_lists.new.lists now c.in_ok-cost_lists.ensures.drafts ∙ ap length c.as_mut_slice.ensures.value in
    let after_is : c.as_slice.result.now ≡ c.cost_lists.new.lists =
    c.as_slice.ensures.value ∙ written_back c.split_off.new.self.len c.split_off.new.self.items c.cost_lists.new.lists count long in
    subst (λ (l : List Longer). All (IsWeighed next c.batches.round (length next.voices.now)) l) (sym after_is) c.in_ok-cost_lists.ensures.weighed

pub returns-in_err-add_all-clause-most : goal.returns-in_err-add_all-clause-most
returns-in_err-add_all-clause-most g c =
    let next = c.args.next.now in
    let inv = c.batches.invariant in
    let now : List Longer = c.as_mut_slice.result.now in
    let now_is : now ≡ take c.min.result c.batches.batch.items = c.as_mut_slice.ensures.value ∙ c.in_ok-later.ensures.items in
    let all = ap length inv.1 ∙ length-append inv.0 c.batches.batch.items in
    let few = length-take c.min.result c.batches.batch.items in
    rises_on c.args.builds.now c.batches.builds c.cost_lists.new.builds (length next.voices.now * length inv.0) (length next.voices.now * length now)
    (length next.voices.now * length c.args.lists.items) inv.3 c.cost_lists.ensures.most
    (rows_few (length next.voices.now) (length inv.0) (length c.args.lists.items) (length now) (omega (arith, all, few, ap length now_is)))

pub batches-preserved : goal.batches-preserved
batches-preserved g c =
    let next = c.args.next.now in
    let inv = c.batches.invariant in
    let now : List Longer = c.as_mut_slice.result.now in
    let now_is : now ≡ take c.min.result c.batches.batch.items = c.as_mut_slice.ensures.value ∙ c.in_ok-later.ensures.items in
    let count : c.split_off.new.self.len ≡ length c.split_off.new.self.items = omega (arith, c.as_mut_slice.ensures.len, ap length c.as_mut_slice.ensures.value) in
    let long : length c.cost_lists.new.lists ≡ length c.split_off.new.self.items =
    same_long c.cost_lists.new.lists now c.in_ok-cost_lists.ensures.drafts ∙ ap length c.as_mut_slice.ensures.value in
    let after_is : c.as_slice.result.now ≡ c.cost_lists.new.lists =
    c.as_slice.ensures.value ∙ written_back c.split_off.new.self.len c.split_off.new.self.items c.cost_lists.new.lists count long in
    let batch : List Longer = c.batches.batch.items in
    let later : List Longer = c.in_ok-later.later.items in
    let later_is : later ≡ drop c.min.result batch = c.in_ok-later.ensures.tail in
    let Finds : Draft → Found → Type 0 = IsFound next.grammar.now next.performance.now in
    let was = inv.2 in
    let more = c.in_ok-add_all.ensures c.args.best was.0 was.1 was.4 in
    let drafts = ap (map draft_of) after_is ∙ c.in_ok-cost_lists.ensures.drafts in (
      inv.0 ++ now,
      inv.1 ∙ ap (λ (l : List Longer). inv.0 ++ l) (sym (in_two c.min.result batch) ∙ (λ k. sym now_is k ++ sym later_is k))
          ∙ sym (append_assoc inv.0 now later),
      (
        was.0 ++ more.0,
        was.1 ++ more.1,
        subst (λ (l : List Draft). Each Finds l (was.0 ++ more.0)) (sym (map-append draft_of inv.0 now))
            (each_append Finds (map draft_of inv.0) (map draft_of now) was.0 more.0 was.2 (subst (λ (l : List Draft). Each Finds l more.0) drafts more.2)),
        All-append (IsCourseOf next (next.number + 1)) was.1 more.1 was.3 more.3,
        more.4,
      ),
      c.in_ok-cost_lists.ensures.builds
          ∙ ap (λ (x : ℕ). risen x (length next.voices.now * length now)) inv.3
          ∙ risen_on c.args.builds.now (length next.voices.now * length inv.0) (length next.voices.now * length now)
          ∙ ap (risen c.args.builds.now)
          (rows_on (length next.voices.now) (length inv.0) (length (inv.0 ++ now)) (length now) (length-append inv.0 now)),
    )
