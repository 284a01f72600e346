use Rattle.std.proofs.Common.{◌≡◌, ◌+◌, ◌≤◌, ℕ, List, false, drop, length, take, ap, ap₂, sym, subst, ◌∙◌, arith}
use Rattle.std.specs.Prelude.{All, nat_le}
use Rattle.least_cost.specs.declared.costs.BarCosts.{BarCosts}
use Rattle.barline_follow.specs.declared.heads.Heads.{Heads}
use Rattle.barline_follow.specs.Barring.{Barring, Course, barring_end}
use Rattle.barline_follow.specs.Costs.{AreLowCosts, AreLowHeads, total}
use Rattle.barline_follow.specs.Longer.{Longer}
use Rattle.barline_follow.specs.NextBars.{asked_cells}
use Rattle.barline_follow.specs.PassedOver.{RulesOut}
use Rattle.barline_follow.proofs.BarCosts.{all_low_bars}
use Rattle.barline_follow.proofs.Finding.{heads_low}
use Rattle.barline_follow.proofs.PassedOver.{first_few, first_low, none_other, none_own, others_few, others_low, ruled, within}
use Rattle.barline_follow.proofs.RisingTotals.{are_longer, longer_heads}
use Rattle.barline_follow.proofs.weigh.changes_nothing.Goals as goal

pub split_at-requires : goal.split_at-requires
split_at-requires c =
    let heads_is = c.heads-heads.ensures ∙ ap (λ (t : Course). t.heads) c.course-course.ensures in
    let fits = within c.args.next.now c.requires.next c.args.list.now c.requires.longer c.requires.known.0 c.requires.known.1 in
    omega (arith, fits, ap length heads_is, ap length c.costs-costs.ensures)

pub heads_with-requires-clause-low : goal.heads_with-requires-clause-low
heads_with-requires-clause-low c =
    let l : Longer = c.args.list.now in
    let heads_is = c.heads-heads.ensures ∙ ap (λ (t : Course). t.heads) c.course-course.ensures in
    subst (λ (hs : List Heads). All AreLowHeads hs) (sym heads_is)
    (heads_low c.args.next.now c.requires.next l.course c.requires.longer.course l.offer c.requires.longer.tried)

pub heads_with-requires-clause-low_bars : goal.heads_with-requires-clause-low_bars
heads_with-requires-clause-low_bars c =
    let l : Longer = c.args.list.now in
    subst (λ (bars : List BarCosts). All (λ (bar : BarCosts). AreLowCosts bar.costs) bars) (sym c.costs-costs.ensures)
    (all_low_bars c.args.next.now.grammar.now (take c.requires.known.0 (asked_cells c.args.next.now l.course l.offer)) l.costs c.requires.known.1)

pub total-requires-clause-few : goal.total-requires-clause-few
total-requires-clause-few c =
    let heads_is = c.heads-heads.ensures ∙ ap (λ (t : Course). t.heads) c.course-course.ensures in
    let is = c.as_slice.ensures.value ∙ are_longer c.heads-heads.result.now c.costs-costs.result.now c.in_ok-known.known.items c.in_ok-known.ensures
    ∙ ap₂ longer_heads heads_is c.costs-costs.ensures in
    subst (λ (hs : List Heads). length hs ≤ 16) (sym is)
    (first_few c.args.next.now c.requires.next c.args.list.now c.requires.longer c.requires.known.0 c.requires.known.1)

pub total-requires-clause-low : goal.total-requires-clause-low
total-requires-clause-low c =
    let heads_is = c.heads-heads.ensures ∙ ap (λ (t : Course). t.heads) c.course-course.ensures in
    let is = c.as_slice.ensures.value ∙ are_longer c.heads-heads.result.now c.costs-costs.result.now c.in_ok-known.known.items c.in_ok-known.ensures
    ∙ ap₂ longer_heads heads_is c.costs-costs.ensures in
    subst (λ (hs : List Heads). All AreLowHeads hs) (sym is)
    (first_low c.args.next.now c.requires.next c.args.list.now c.requires.longer c.requires.known.0 c.requires.known.1)

pub returns-in_default : goal.returns-in_default
returns-in_default c told =
    let next = c.args.next.now in
    let l : Longer = c.args.list.now in
    let heads_is = c.heads-heads.ensures ∙ ap (λ (t : Course). t.heads) c.course-course.ensures in
    let is = c.as_slice.ensures.value ∙ are_longer c.heads-heads.result.now c.costs-costs.result.now c.in_ok-known.known.items c.in_ok-known.ensures
    ∙ ap₂ longer_heads heads_is c.costs-costs.ensures in
    let end_is : c.end.result ≡ barring_end l.course.barring =
    c.end.ensures.value ∙ ap barring_end (c.barring.ensures ∙ ap (λ (t : Course). t.barring) c.course-course.ensures) in
    let offer_is : c.offer.result ≡ l.offer = c.offer.ensures in
    let value : c.total.result ≡ total (nat_le next.closing (barring_end l.course.barring + l.offer.ticks)) (longer_heads l.course.heads l.costs) =
    c.total.ensures.value ∙ (λ k. total (nat_le next.closing (end_is k + (offer_is k).ticks)) (is k)) in
    none_own next c.requires.next l c.requires.longer c.requires.known.0 c.requires.known.1 c.args.round.now (sym value ∙ c.in_default.is)

pub total-requires-2-clause-few : goal.total-requires-2-clause-few
total-requires-2-clause-few c =
    let l : Longer = c.args.list.now in
    let heads_is = c.heads-heads.ensures ∙ ap (λ (t : Course). t.heads) c.course-course.ensures in
    let others_is : c.split_at.result.1.now ≡ drop (length l.costs) l.course.heads =
    c.split_at.ensures.back ∙ (λ k. drop (length (c.costs-costs.ensures k)) (heads_is k)) in
    subst (λ (hs : List Heads). length hs ≤ 16) (sym others_is)
    (others_few c.args.next.now c.requires.next c.args.list.now c.requires.longer c.requires.known.0 c.requires.known.1)

pub total-requires-2-clause-low : goal.total-requires-2-clause-low
total-requires-2-clause-low c =
    let l : Longer = c.args.list.now in
    let heads_is = c.heads-heads.ensures ∙ ap (λ (t : Course). t.heads) c.course-course.ensures in
    let others_is : c.split_at.result.1.now ≡ drop (length l.costs) l.course.heads =
    c.split_at.ensures.back ∙ (λ k. drop (length (c.costs-costs.ensures k)) (heads_is k)) in
    subst (λ (hs : List Heads). All AreLowHeads hs) (sym others_is)
    (others_low c.args.next.now c.requires.next c.args.list.now c.requires.longer c.requires.known.0 c.requires.known.1)

pub returns-in_default-total : goal.returns-in_default-total
returns-in_default-total c told =
    let l : Longer = c.args.list.now in
    let heads_is = c.heads-heads.ensures ∙ ap (λ (t : Course). t.heads) c.course-course.ensures in
    let others_is : c.split_at.result.1.now ≡ drop (length l.costs) l.course.heads =
    c.split_at.ensures.back ∙ (λ k. drop (length (c.costs-costs.ensures k)) (heads_is k)) in
    none_other c.args.next.now c.requires.next l c.requires.longer c.requires.known.0 c.requires.known.1 c.args.round.now
    (sym (c.total-2.ensures.value ∙ ap (total false) others_is) ∙ c.in_default-total.is)

pub returns : goal.returns
returns c told =
    let next = c.args.next.now in
    let l : Longer = c.args.list.now in
    let heads_is = c.heads-heads.ensures ∙ ap (λ (t : Course). t.heads) c.course-course.ensures in
    let is = c.as_slice.ensures.value ∙ are_longer c.heads-heads.result.now c.costs-costs.result.now c.in_ok-known.known.items c.in_ok-known.ensures
    ∙ ap₂ longer_heads heads_is c.costs-costs.ensures in
    let end_is : c.end.result ≡ barring_end l.course.barring =
    c.end.ensures.value ∙ ap barring_end (c.barring.ensures ∙ ap (λ (t : Course). t.barring) c.course-course.ensures) in
    let offer_is : c.offer.result ≡ l.offer = c.offer.ensures in
    let value : c.total.result ≡ total (nat_le next.closing (barring_end l.course.barring + l.offer.ticks)) (longer_heads l.course.heads l.costs) =
    c.total.ensures.value ∙ (λ k. total (nat_le next.closing (end_is k + (offer_is k).ticks)) (is k)) in
    let others_is : c.split_at.result.1.now ≡ drop (length l.costs) l.course.heads =
    c.split_at.ensures.back ∙ (λ k. drop (length (c.costs-costs.ensures k)) (heads_is k)) in
    let price_is : c.offer-price.result ≡ l.offer = c.offer-price.ensures in
    let prices_is : c.prices.result ≡ l.course.barring.prices =
    c.prices.ensures ∙ ap (λ (b : Barring). b.prices) (c.barring-2.ensures ∙ ap (λ (t : Course). t.barring) c.course-course.ensures) in
    let a : ℕ = c.in-Some.own in
    let b : ℕ = c.in-Some-total.rest in
    let at : c.end.result + c.offer.result.ticks ≡ barring_end l.course.barring + l.offer.ticks = λ k. end_is k + (offer_is k).ticks in
    let low : a + b + (c.prices.result + c.offer-price.result.price) ≡ a + b + (l.course.barring.prices + l.offer.price) =
    λ k. a + b + (prices_is k + (price_is k).price) in
    ruled next c.requires.next l c.requires.longer c.requires.known.0 c.requires.known.1 c.args.round.now a b (sym value ∙ c.in-Some.is)
    (sym (c.total-2.ensures.value ∙ ap (total false) others_is) ∙ c.in-Some-total.is)
    (subst (λ (e : ℕ). RulesOut (nat_le next.closing e) e (a + b + (l.course.barring.prices + l.offer.price)) c.args.round.now) at
    (subst (λ (n : ℕ). RulesOut (nat_le next.closing (c.end.result + c.offer.result.ticks)) (c.end.result + c.offer.result.ticks) n c.args.round.now) low
    (c.rules_out.ensures told)))
