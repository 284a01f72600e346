use Rattle.std.proofs.Common.{ℕ, ◌+◌, ◌*◌, ◌≤◌, List, Vec, Global, length, map, ap, sym, subst, ◌∙◌, arith}
use Rattle.std.specs.Prelude.{All, Option}
use Rattle.std.specs.List.{filter_map}
use Rattle.std.proofs.lemmas.List.{length-map}
use Rattle.bar_pool.specs.Pool.{RisesWithin}
use Rattle.rhythm_base.specs.Counter.{risen}
use Rattle.rhythm_base.specs.Lists.{Each}
use Rattle.barline_follow.specs.declared.offers.Offer.{Offer}
use Rattle.barline_follow.specs.Barring.{Barring}
use Rattle.barline_follow.specs.Gathered.{barring_of}
use Rattle.barline_follow.specs.Longer.{Longer, draft_of}
use Rattle.barline_follow.specs.NextBars.{AreTriedOffers, IsCourseOf, all_cells}
use Rattle.barline_follow.specs.PassedOver.{IsUntried}
use Rattle.barline_follow.specs.Rounds.{Draft, IsFound, IsNextFront, going_on}
use Rattle.barline_follow.proofs.FewTables.{few_tables}
use Rattle.barline_follow.proofs.LongerLists.{all_untried, drafts_are, tables_long}
use Rattle.barline_follow.proofs.RoundTables.{built_in_round}
use Rattle.barline_follow.proofs.Searching.{each_long}
use Rattle.barline_follow.proofs.WholeRounds.{all_among, all_tried, whole_round}
use Rattle.barline_follow.proofs.search.next_round.Goals as goal

abbrev items_of : List (Vec Offer Global) → List (List Offer)
items_of all = map (λ own. own.items) all

pub longer_lists-requires : goal.longer_lists-requires
longer_lists-requires g c =
    let tried = subst (λ (l : List (Vec Offer Global)). Each (AreTriedOffers c.args.next.now) c.args.front.now (items_of l)) (sym c.as_slice.ensures.value) c.in_ok-tried.ensures in
    each_long (AreTriedOffers c.args.next.now) c.args.front.now (items_of c.as_slice.result.now) tried
    ∙ length-map c.as_slice.result.now (λ (own : Vec Offer Global). own.items)

pub gather-requires-clause-lists : goal.gather-requires-clause-lists
gather-requires-clause-lists g c κs within =
    let next = c.args.next.now in
    let tried = subst (λ (l : List (Vec Offer Global)). Each (AreTriedOffers next) c.args.front.now (items_of l)) (sym c.as_slice.ensures.value) c.in_ok-tried.ensures in
    subst (λ (l : List Longer). All (IsUntried next) l) (sym c.in_ok-lists.ensures)
    (all_untried next c.args.front.now (items_of c.as_slice.result.now) c.requires.front
    (all_tried next c.requires.next c.args.front.now (items_of c.as_slice.result.now) tried))

pub returns-clause-round : goal.returns-clause-round
returns-clause-round g c =
    let next = c.args.next.now in
    let tried = subst (λ (l : List (Vec Offer Global)). Each (AreTriedOffers next) c.args.front.now (items_of l)) (sym c.as_slice.ensures.value) c.in_ok-tried.ensures in
    let was = c.in_ok-round.ensures.gathered in
    let drafts = ap (map draft_of) c.in_ok-lists.ensures ∙ drafts_are c.args.front.now (items_of c.as_slice.result.now) in
    whole_round next c.requires.next c.args.front.now c.close.result.0.items (items_of c.as_slice.result.now) was.0 c.args.best c.close.result.1
    c.requires.front tried (subst (λ (l : List Draft). Each (IsFound next.grammar.now next.performance.now) l was.0) drafts was.2)
    (c.close.ensures.best ∙ was.4.best_is)
    (subst (λ (o : Option Barring). IsNextFront o (filter_map going_on was.0) (map barring_of c.close.result.0.items)) (sym c.close.ensures.best)
    (c.close.ensures.front c.args.best was.0 was.1 was.4))

pub returns-clause-courses : goal.returns-clause-courses
returns-clause-courses g c =
    let next = c.args.next.now in
    let was = c.in_ok-round.ensures.gathered in
    all_among (IsCourseOf next (next.number + 1)) c.close.result.0.items was.1 was.3 (c.close.ensures.among c.args.best was.0 was.1 was.4)

pub returns-clause-lists : goal.returns-clause-lists
returns-clause-lists g c =
    let was = c.in_ok-round.ensures.gathered in
    c.close.ensures.few c.args.best was.0 was.1 was.4

-- no more tables than there may be in a round
no_more : (old new n m : ℕ) → RisesWithin old new n → n ≤ m → RisesWithin old new m
no_more old new n m built few = (built.0, omega (arith, built.1, few))

pub returns-in_err-round-clause-most : goal.returns-in_err-round-clause-most
returns-in_err-round-clause-most g c =
    let next = c.args.next.now in
    let tried = subst (λ (l : List (Vec Offer Global)). Each (AreTriedOffers next) c.args.front.now (items_of l)) (sym c.as_slice.ensures.value) c.in_ok-tried.ensures in
    let long = ap (λ (l : List Longer). length next.voices.now * length l) c.in_ok-lists.ensures ∙ tables_long next c.args.front.now (items_of c.as_slice.result.now) in
    let few = few_tables next c.args.front.now (items_of c.as_slice.result.now) c.requires.few_lists tried in
    no_more c.args.builds.now c.gather.new.builds (length next.voices.now * length c.in_ok-lists.lists.items) (24 * 14 * length next.voices.now)
    c.gather.ensures.most (omega (arith, long, few))

pub returns-clause-most : goal.returns-clause-most
returns-clause-most g c =
    let next = c.args.next.now in
    let tried = subst (λ (l : List (Vec Offer Global)). Each (AreTriedOffers next) c.args.front.now (items_of l)) (sym c.as_slice.ensures.value) c.in_ok-tried.ensures in
    let long = ap (λ (l : List Longer). length next.voices.now * length l) c.in_ok-lists.ensures ∙ tables_long next c.args.front.now (items_of c.as_slice.result.now) in
    let few = few_tables next c.args.front.now (items_of c.as_slice.result.now) c.requires.few_lists tried in
    no_more c.args.builds.now c.gather.new.builds (length next.voices.now * length c.in_ok-lists.lists.items) (24 * 14 * length next.voices.now)
    c.gather.ensures.most (omega (arith, long, few))

pub returns-clause-builds : goal.returns-clause-builds
returns-clause-builds g c =
    let next = c.args.next.now in
    let tried = subst (λ (l : List (Vec Offer Global)). Each (AreTriedOffers next) c.args.front.now (items_of l)) (sym c.as_slice.ensures.value) c.in_ok-tried.ensures in
    let long = ap (λ (l : List Longer). length next.voices.now * length l) c.in_ok-lists.ensures ∙ tables_long next c.args.front.now (items_of c.as_slice.result.now) in (
      length (all_cells next c.args.front.now (items_of c.as_slice.result.now)),
      c.in_ok-round.ensures.builds ∙ ap (risen c.args.builds.now) long,
      built_in_round next c.requires.next c.args.front.now (items_of c.as_slice.result.now) tried,
    )
