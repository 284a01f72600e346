use Rattle.std.proofs.Common.{◌≡◌, ◌+◌, ◌++◌, ◌∷◌, [], List, Vec, Global, map, take, ap, sym, subst, ◌∙◌}
use Rattle.std.proofs.lemmas.List.{map-append}
use Rattle.rhythm_base.specs.Lists.{Each}
use Rattle.barline_follow.specs.declared.offers.Offer.{Offer}
use Rattle.barline_follow.specs.Barring.{Course}
use Rattle.barline_follow.specs.NextBars.{AreTriedOffers}
use Rattle.barline_follow.proofs.Searching.{each_more}
use Rattle.barline_follow.proofs.tried.front_tried.Goals as goal

abbrev items_of : Vec Offer Global → List Offer
items_of own = own.items

pub lists-preserved : goal.lists-preserved
lists-preserved c =
    let next = c.args.next.now in
    let front : List Course = c.args.front.now in
    let own : Vec Offer Global = c.in_ok-tried_of.field-0 in
    let all_more : map items_of c.push.new.self.items ≡ map items_of c.lists.all.items ++ (own.items ∷ []) =
    ap (map items_of) c.in_ok-push.ensures.items ∙ map-append items_of c.lists.all.items (own ∷ []) in
    let one = subst (λ (t : Course). AreTriedOffers next t own.items) c.course-item.is c.in_ok-tried_of.ensures in
    subst (λ (l : List (List Offer)). Each (AreTriedOffers next) (take (c.lists.course-index + 1) front) l) (sym all_more)
    (each_more (AreTriedOffers next) front (map items_of c.lists.all.items) c.lists.course-index c.course-item.result own.items c.lists-test.true c.lists.invariant one)
