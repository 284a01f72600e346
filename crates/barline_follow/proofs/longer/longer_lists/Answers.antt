use Rattle.std.proofs.Common.{◌≡◌, ◌<◌, ◌++◌, ℕ, List, Vec, Global, length, map, get_or, ap, ap₂, sym, ◌∙◌, arith}
use Rattle.std.proofs.lemmas.List.{take_all}
use Rattle.barline_follow.specs.declared.offers.Offer.{Offer}
use Rattle.barline_follow.specs.Barring.{Course}
use Rattle.barline_follow.specs.Longer.{all_longer, untried}
use Rattle.barline_follow.proofs.LongerLists.{all_longer_more}
use Rattle.barline_follow.proofs.longer.longer_lists.Goals as goal

abbrev items_of : Vec Offer Global → List Offer
items_of own = own.items

pub lists-preserved : goal.lists-preserved
lists-preserved c =
    let n : ℕ = c.lists.place in
    let front : List Course = c.args.front.now in
    let tried : List (Vec Offer Global) = c.args.tried.now in
    let low : n < length front = omega (arith, c.lists-test.true, c.min-place-end.ensures) in
    let high : n < length tried = omega (arith, c.lists-test.true, c.min-place-end.ensures) in
    let own : c.as_slice-own.result.now ≡ (get_or tried n c.index-tried-place.result).items = c.as_slice-own.ensures.value ∙ ap items_of c.index-tried-place.is in
    c.in_ok-push_longer.ensures
    ∙ (λ i. c.lists.invariant i ++ map (untried (c.index-front-place.is i)) (own i))
    ∙ sym (all_longer_more front tried n c.index-front-place.result c.index-tried-place.result low high)

pub returns : goal.returns
returns c =
    let n : ℕ = c.lists.place in
    let front : List Course = c.args.front.now in
    let tried : List (Vec Offer Global) = c.args.tried.now in
    c.lists.invariant
    ∙ ap₂ (λ (f : List Course) (t : List (Vec Offer Global)). all_longer f (map items_of t))
    (take_all n front (omega (arith, c.lists-test.false, c.min-place-end.ensures, c.requires)))
    (take_all n tried (omega (arith, c.lists-test.false, c.min-place-end.ensures, c.requires)))
