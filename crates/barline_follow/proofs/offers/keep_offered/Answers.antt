use Rattle.std.proofs.Common.{◌+◌, ◌++◌, List, take, sym, ◌∙◌, subst}
use Rattle.std.specs.Prelude.{filter}
use Rattle.std.proofs.lemmas.List.{append-nil, take_all}
use Rattle.barline_follow.specs.declared.offers.Offer.{Offer}
use Rattle.barline_follow.specs.Least.{AreFirstLeast}
use Rattle.barline_follow.specs.Offers.{is_offered}
use Rattle.barline_follow.proofs.Offered.{failed_more, passed_more}
use Rattle.barline_follow.proofs.offers.keep_offered.Goals as goal
use Rattle.barline_follow.proofs.offers.keep_offered.Goals.{then-is_offered+in_ok-keep, else-is_offered}

abbrev Are : List Offer → List Offer → Type 0
Are xs kept = AreFirstLeast (λ o. o.price) (λ o. o.ticks) xs kept

pub keep-requires : goal.keep-requires
keep-requires c = (
  c.requires.kept.0 ++ filter (is_offered c.args.whole) (take c.proposals.proposal-index c.args.proposals.now),
  c.proposals.invariant c.requires.kept.0 c.requires.kept.1,
)

pub proposals-init : goal.proposals-init
proposals-init c xs are = subst (λ l. Are l c.args.offers.now.items) (sym (append-nil xs)) are

pub proposals-preserved : goal.proposals-preserved
proposals-preserved c xs are = elim c.if-is_offered.branch [
  | then-is_offered+in_ok-keep w ↦
      let so_far = xs ++ filter (is_offered c.args.whole) (take c.proposals.proposal-index c.args.proposals.now) in
      let one = w.in_ok-keep.ensures so_far (c.proposals.invariant xs are) in
      let more = passed_more (is_offered c.args.whole) xs c.args.proposals.now c.proposals.proposal-index _ c.proposals-test.true (sym c.is_offered.ensures ∙ w.if-is_offered.true) in
      subst (λ v. Are (xs ++ filter (is_offered c.args.whole) (take (c.proposals.proposal-index + 1) c.args.proposals.now)) v.items) (sym w.offers-is)
      (subst (λ l. Are l w.keep.new.kept.items) more one)
  | else-is_offered w ↦
      let more = failed_more (is_offered c.args.whole) xs c.args.proposals.now c.proposals.proposal-index _ c.proposals-test.true (sym c.is_offered.ensures ∙ w.if-is_offered.false) in
      subst (λ v. Are (xs ++ filter (is_offered c.args.whole) (take (c.proposals.proposal-index + 1) c.args.proposals.now)) v.items) (sym w.offers-is)
      (subst (λ l. Are l c.proposals.offers.items) more (c.proposals.invariant xs are))
]

pub returns : goal.returns
returns c xs are =
    subst (λ l. Are (xs ++ filter (is_offered c.args.whole) l) c.proposals.offers.items)
    (take_all c.proposals.proposal-index c.args.proposals.now c.proposals-test.false) (c.proposals.invariant xs are)
