use Rattle.std.proofs.Common.{rules, ◌≡◌, ◌-◌, ℕ, ap, subst, ◌∙◌}
use Rattle.std.specs.Prelude.{filter, nat_le, ◌&&◌}
use Rattle.std.proofs.lemmas.Fn.{filter_same}
use Rattle.barline_follow.specs.declared.offers.Offer.{Offer}
use Rattle.barline_follow.specs.Barring.{Barring, barring_end, last_length}
use Rattle.barline_follow.specs.Offers.{AreOffers}
use Rattle.barline_follow.proofs.NextBarLemmas.{left_is}
use Rattle.barline_follow.proofs.tried.tried_of.Goals as goal

pub returns : goal.returns
returns c =
    let next = c.args.next.now in
    let before : c.last_length-before.result ≡ last_length c.args.course.now.barring.ticks =
    c.last_length-before.ensures.value ∙ ap (λ (b : Barring). last_length b.ticks) c.barring.ensures in
    let are : AreOffers next.grammar.now next.performance.now next.number (last_length c.args.course.now.barring.ticks) c.in_ok-offers.offers.items =
    subst (λ (k : ℕ). AreOffers next.grammar.now next.performance.now next.number k c.in_ok-offers.offers.items) before c.in_ok-offers.ensures in
    let end : c.end.result ≡ barring_end c.args.course.now.barring = c.end.ensures.value ∙ ap barring_end c.barring-2.ensures in
    let kept : c.retain.new.self.items ≡ filter (λ (o : Offer). next.is_rooted && nat_le o.ticks (2000000000 - c.end.result)) c.in_ok-offers.offers.items =
    filter_same _ _ _ (λ x b f' k. search rules) _ _ c.retain.ensures.filtered in (
      c.in_ok-offers.offers.items,
      are,
      kept ∙ left_is next (barring_end c.args.course.now.barring) (2000000000 - c.end.result) c.in_ok-offers.offers.items c.requires.course.early (ap (λ (n : ℕ). 2000000000 - n) end),
    )
