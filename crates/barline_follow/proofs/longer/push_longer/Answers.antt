use Rattle.std.proofs.Common.{◌++◌, List, map, ap, sym, ◌∙◌}
use Rattle.std.proofs.lemmas.List.{append-nil, take_all}
use Rattle.barline_follow.specs.declared.offers.Offer.{Offer}
use Rattle.barline_follow.specs.Longer.{untried}
use Rattle.barline_follow.proofs.Searching.{grown_one}
use Rattle.barline_follow.proofs.longer.push_longer.Goals as goal

pub offers-init : goal.offers-init
offers-init c = sym (append-nil c.args.lists.now.items)

pub offers-preserved : goal.offers-preserved
offers-preserved c =
    c.in_ok-push.ensures.items
    ∙ grown_one (untried c.args.course.now) c.args.lists.now.items c.offers.lists.items c.args.tried.now c.offers.offer-index _ c.new.result
    c.offers-test.true c.offers.invariant c.new.ensures

pub returns : goal.returns
returns c =
    c.offers.invariant
    ∙ ap (λ (l : List Offer). c.args.lists.now.items ++ map (untried c.args.course.now) l) (take_all c.offers.offer-index c.args.tried.now c.offers-test.false)
