-- A whole round: from what is tried to all that is offered.
use Rattle.std.proofs.Common.{◌≡◌, ◌≢◌, ℕ, ◌+◌, ◌-◌, ◌≤◌, Bool, true, false, List, [], ◌∷◌, ◌++◌, length, map, get_or, refl, ap, sym, ◌∙◌, subst, arith}
use Rattle.std.specs.Prelude.{All, Contains, Option, Some, None, filter, nat_le, replicate, ◌&&◌, if◌then◌else◌}
use Rattle.std.specs.List.{cons_option, filter_map}
use Rattle.std.proofs.lemmas.Bool.{false≢true}
use Rattle.std.proofs.lemmas.Bool.Decides.{nat_tests}
use Rattle.std.proofs.lemmas.List.Elements.{All-filter, All-nil, Contains-get_or, filter_passes}
use Rattle.rhythm_base.proofs.Booleans.{and_left, and_right}
use Rattle.rhythm_base.specs.declared.chord.Chord.{Chord}
use Rattle.rhythm_base.specs.declared.limits.TheConstants.{LATEST_TICK}
use Rattle.rhythm_base.specs.declared.note.Bar.{Bar}
use Rattle.edit_laws.specs.Edits.{with_start}
use Rattle.rhythm_base.specs.Grammar.{Grammar, root_of}
use Rattle.rhythm_base.specs.Lists.{Each, last_end}
use Rattle.rhythm_base.specs.Performance.{Performance}
use Rattle.rhythm_base.specs.Voices.{HasStarts, IsSumOfCosts}
use Rattle.rhythm_base.proofs.FirstLists.{all_contained}
use Rattle.rhythm_base.proofs.OrderedLists.{all_head, all_tail}
use Rattle.barline_follow.specs.declared.next_bar.NextBar.{NextBar}
use Rattle.barline_follow.specs.declared.offers.Offer.{Offer}
use Rattle.barline_follow.specs.Bars.{bars_on, pattern_of, with_barlines}
use Rattle.barline_follow.specs.Barring.{Barring, Course, best_of, barring_end, last_length}
use Rattle.barline_follow.specs.Gathered.{barring_of}
use Rattle.barline_follow.specs.HeadCost.{IsHeadOfVoice, IsSum}
use Rattle.barline_follow.specs.NextBars.{AreTriedOffers, IsNextBar, IsCourseOf, IsTried, can_be}
use Rattle.barline_follow.specs.Offers.{AreOffers}
use Rattle.barline_follow.specs.Rounds.{Draft, Found, IsOpenAt, IsFound, IsNextFront, IsRound, IsWholeAt, going_on, lost, rows, whole_one, with_bar}
use Rattle.barline_follow.specs.Courses.{AreHeads, IsCourse, dearest_bar, first_heads, first_course}
use Rattle.barline_follow.proofs.Bounds.{offers_bounded}
use Rattle.barline_follow.proofs.Further.{last_pushed}
use Rattle.barline_follow.proofs.LongerBars.{bars_more}
use Rattle.barline_follow.proofs.Searching.{each_append}

-- ---- what is tried

module _ (next : NextBar) (n : IsNextBar next) where
  tried_bounded : (t : Course) (own : List Offer) → AreTriedOffers next t own → All (IsTried next (barring_end t.barring)) own
  tried_bounded t own (offers, are, is) =
      let bounds = offers_bounded next.grammar.now next.performance.now n.readable.ranges n.formed next.number (last_length t.barring.ticks) offers are in
      subst (λ (l : List Offer). All (IsTried next (barring_end t.barring)) l) (sym is) (λ k d lt.
      let o : Offer = get_or (filter (can_be next (barring_end t.barring)) offers) k d in
      let passes : can_be next (barring_end t.barring) o ≡ true = filter_passes (can_be next (barring_end t.barring)) offers k d lt in
      let bounded = All-filter (can_be next (barring_end t.barring)) (λ (o : Offer). (1 ≤ o.ticks) × (o.price ≤ dearest_bar)) offers bounds k d lt in
      let early : nat_le (barring_end t.barring + o.ticks) LATEST_TICK ≡ true = and_right next.is_rooted _ passes in
      record {
        rooted = and_left next.is_rooted _ passes;
        some = bounded.0;
        early = grind (arith, nat_tests, early);
        price = bounded.1;
      })

  pub all_tried : (front : List Course) (tried : List (List Offer)) → Each (AreTriedOffers next) front tried
      → Each (λ t own. All (IsTried next (barring_end t.barring)) own) front tried
  all_tried [] tried h = h
  all_tried (t ∷ front) [] h = absurd h
  all_tried (t ∷ front) (own ∷ tried) h = (tried_bounded t own h.0, all_tried front tried h.1)

  -- ---- what cannot be is lost

  abbrev g : Grammar
  g = next.grammar.now

  abbrev p : Performance
  p = next.performance.now

  last_rooted : (bars : List Bar) (b : Bar) → HasStarts g (bars ++ (b ∷ [])) → root_of g.starts b.num b.den ≢ None
  last_rooted [] b h = all_head (λ (b : Bar). root_of g.starts b.num b.den ≢ None) b [] h
  last_rooted (a ∷ bars) b h = last_rooted bars b (all_tail (λ (b : Bar). root_of g.starts b.num b.den ≢ None) a (bars ++ (b ∷ [])) h)

  heads_start : (ticks channels : List ℕ) (c : ℕ) → 1 ≤ length channels → IsSum (IsHeadOfVoice g p ticks) channels c → HasStarts g (with_barlines p ticks).bars
  heads_start ticks [] c some h = absurd (omega (arith, some))
  heads_start ticks (m ∷ channels) c some h = h.2.starts

  costs_start : (q : Performance) (channels : List ℕ) (c : ℕ) → 1 ≤ length channels → IsSumOfCosts g q channels c → HasStarts g q.bars
  costs_start q [] c some h = absurd (omega (arith, some))
  costs_start q (m ∷ channels) c some h = h.2.starts

  cannot_be : (t : Course) (o : Offer) → IsCourseOf next next.number t → can_be next (barring_end t.barring) o ≡ false → IsFound g p (with_bar t.barring o) lost
  cannot_be t o is out c = by next.is_rooted refl out
    where
      late : (a : ℕ) → nat_le a LATEST_TICK ≡ false → a ≤ LATEST_TICK → ⊥
      late a out le = let wrong : nat_le a LATEST_TICK ≡ true = grind (arith, nat_tests, le) in false≢true (sym out ∙ wrong)

      unrooted : next.is_rooted ≡ false → HasStarts g (with_barlines p (t.barring.ticks ++ ((barring_end t.barring + o.ticks) ∷ []))).bars → ⊥
      unrooted none starts =
          let at : length t.barring.ticks - 1 ≡ next.number = omega (arith, is.long) in
          let bars = bars_more g p t.barring.ticks next.like (barring_end t.barring + o.ticks) (omega (arith, is.long)) (ap (pattern_of p) at ∙ n.like) in
          last_rooted (bars_on p 0 t.barring.ticks) (with_start (barring_end t.barring) next.like) (subst (HasStarts g) bars starts) (n.rootless none)

      by : (b : Bool) → next.is_rooted ≡ b → (b && nat_le (barring_end t.barring + o.ticks) LATEST_TICK) ≡ false
          → (IsOpenAt g p (t.barring.ticks ++ ((barring_end t.barring + o.ticks) ∷ [])) c → ⊥) × (IsWholeAt g p (t.barring.ticks ++ ((barring_end t.barring + o.ticks) ∷ [])) c → ⊥)
      by true rooted out =
          let last : last_end 0 (t.barring.ticks ++ ((barring_end t.barring + o.ticks) ∷ [])) ≡ barring_end t.barring + o.ticks = last_pushed 0 (barring_end t.barring + o.ticks) t.barring.ticks in (
            λ h. late (barring_end t.barring + o.ticks) out (omega (arith, last, h.early)),
            λ h. late (barring_end t.barring + o.ticks) out (omega (arith, last, h.early)),
          )
      by false none out = (
        λ h. unrooted none (heads_start (t.barring.ticks ++ ((barring_end t.barring + o.ticks) ∷ [])) p.channels c n.formed.some_voice h.cost),
        λ h. unrooted none (costs_start (with_barlines p (t.barring.ticks ++ ((barring_end t.barring + o.ticks) ∷ []))) p.channels c n.formed.some_voice h.cost),
      )

  -- ---- all that is offered

  abbrev Finds : Draft → Found → Type 0
  Finds = IsFound g p

  -- these are found, and of them the same go on and are whole
  pub record AreAlike (found more : List Found) : Type 0 where
    pub go_on : filter_map going_on more ≡ filter_map going_on found
    pub wholes : filter_map whole_one more ≡ filter_map whole_one found

  filled : (t : Course) → IsCourseOf next next.number t → (offers : List Offer) (found : List Found)
      → Each Finds (map (with_bar t.barring) (filter (can_be next (barring_end t.barring)) offers)) found
      → (more : List Found) × Each Finds (map (with_bar t.barring) offers) more × AreAlike found more
  filled t is [] found h = (found, h, record { go_on = refl; wholes = refl })
  filled t is (o ∷ offers) found h = by (can_be next (barring_end t.barring) o) refl (λ rest. filled t is offers rest) found h
    where
      by : (b : Bool) → can_be next (barring_end t.barring) o ≡ b
          → ((rest : List Found) → Each Finds (map (with_bar t.barring) (filter (can_be next (barring_end t.barring)) offers)) rest
          → (more : List Found) × Each Finds (map (with_bar t.barring) offers) more × AreAlike rest more)
          → (found : List Found) → Each Finds (map (with_bar t.barring) (if b then o ∷ filter (can_be next (barring_end t.barring)) offers else filter (can_be next (barring_end t.barring)) offers)) found
          → (more : List Found) × Each Finds (map (with_bar t.barring) (o ∷ offers)) more × AreAlike found more
      by true can on [] h = absurd h
      by true can on (f ∷ found) h =
          let rest = on found h.1 in (
            f ∷ rest.0,
            (h.0, rest.1),
            record {
              go_on = ap (cons_option (going_on f)) rest.2.go_on;
              wholes = ap (cons_option (whole_one f)) rest.2.wholes;
            },
          )
      by false cannot on found h =
          let rest = on found h in
          (lost ∷ rest.0, (cannot_be t o is cannot, rest.1), record { go_on = rest.2.go_on; wholes = rest.2.wholes })

  split_found : (ds es : List Draft) (found : List Found) → Each Finds (ds ++ es) found
      → (first : List Found) × (others : List Found) × Each Finds ds first × Each Finds es others × (found ≡ first ++ others)
  split_found [] es found h = ([], found, refl, h, refl)
  split_found (d ∷ ds) es [] h = absurd h
  split_found (d ∷ ds) es (f ∷ found) h =
      let rest = split_found ds es found h.1 in
      (f ∷ rest.0, rest.1, (h.0, rest.2), rest.3, ap (λ l. f ∷ l) rest.4)

  given_append : (h : Found → Option Barring) (xs ys : List Found) → filter_map h (xs ++ ys) ≡ filter_map h xs ++ filter_map h ys
  given_append h [] ys = refl
  given_append h (x ∷ xs) ys = ap (cons_option (h x)) (given_append h xs ys) ∙ by (h x)
    where
      by : (o : Option Barring) → cons_option o (filter_map h xs ++ filter_map h ys) ≡ cons_option o (filter_map h xs) ++ filter_map h ys
      by None = refl
      by (Some b) = refl

  alike_append : (h : Found → Option Barring) (xs us ys vs all : List Found) → filter_map h us ≡ filter_map h xs → filter_map h vs ≡ filter_map h ys → all ≡ xs ++ ys
      → filter_map h (us ++ vs) ≡ filter_map h all
  alike_append h xs us ys vs all first others is =
      given_append h us vs ∙ (λ i. first i ++ others i) ∙ sym (given_append h xs ys) ∙ ap (filter_map h) (sym is)

  pub record IsComplete (front : List Course) (found : List Found) : Type 0 where
    pub offers : List (List Offer)
    pub are_offers : Each (λ b own. AreOffers g p next.number (last_length b.ticks) own) (map barring_of front) offers
    pub more : List Found
    pub each : Each Finds (rows (map barring_of front) offers) more
    pub alike : AreAlike found more

  pub complete : (front : List Course) (tried : List (List Offer)) (found : List Found) → All (IsCourseOf next next.number) front → Each (AreTriedOffers next) front tried
      → Each Finds (rows (map barring_of front) tried) found → IsComplete front found
  complete [] tried found all h k = record {
    offers = [];
    are_offers = refl;
    more = found;
    each = k;
    alike = record { go_on = refl; wholes = refl };
  }
  complete (t ∷ front) [] found all h k = absurd h
  complete (t ∷ front) (own ∷ tried) found all h k =
      let parts = split_found (map (with_bar t.barring) own) (rows (map barring_of front) tried) found k in
      let rest = complete front tried parts.1 (all_tail (IsCourseOf next next.number) t front all) h.1 parts.3 in
      let first = subst (λ (l : List Offer). Each Finds (map (with_bar t.barring) l) parts.0) h.0.2 parts.2 in
      let one = filled t (all_head (IsCourseOf next next.number) t front all) h.0.0 parts.0 first in
      record {
        offers = h.0.0 ∷ rest.offers;
        are_offers = (h.0.1, rest.are_offers);
        more = one.0 ++ rest.more;
        each = each_append Finds (map (with_bar t.barring) h.0.0) (rows (map barring_of front) rest.offers) one.0 rest.more one.1 rest.each;
        alike = record {
          go_on = alike_append going_on parts.0 one.0 parts.1 rest.more found one.2.go_on rest.alike.go_on parts.4;
          wholes = alike_append whole_one parts.0 one.0 parts.1 rest.more found one.2.wholes rest.alike.wholes parts.4;
        };
      }

  pub whole_round : (front next_front : List Course) (tried : List (List Offer)) (found : List Found) (best next_best : Option Barring)
      → All (IsCourseOf next next.number) front → Each (AreTriedOffers next) front tried → Each Finds (rows (map barring_of front) tried) found
      → next_best ≡ best_of best (filter_map whole_one found) → IsNextFront next_best (filter_map going_on found) (map barring_of next_front)
      → IsRound g p next.number (map barring_of front) best (map barring_of next_front) next_best
  whole_round front next_front tried found best next_best all h k best_is next_is =
      let it = complete front tried found all h k in
      record {
        drafts = rows (map barring_of front) it.offers;
        longer = record { offers = it.offers; are_offers = it.are_offers; are = refl };
        found = it.more;
        each = it.each;
        best_is = best_is ∙ ap (best_of best) (sym it.alike.wholes);
        next_is = subst (λ (l : List Barring). IsNextFront next_best l (map barring_of next_front)) (sym it.alike.go_on) next_is;
      }

pub all_among : (P : Course → Type 0) (front courses : List Course) → All P courses → ((course : Course) → Contains front course → Contains courses course) → All P front
all_among P front courses all among k d lt =
    all_contained P courses (get_or front k d) all (among (get_or front k d) (Contains-get_or front k d lt))

-- ---- the list of no bar

first_are : (g : Grammar) (p : Performance) (voices : List (List Chord)) → Each (AreHeads g p (0 ∷ [])) voices (replicate (length voices) first_heads)
first_are g p [] = refl
first_are g p (v ∷ voices) = (record { tables = []; each = tt; are = refl }, first_are g p voices)

pub is_first : (g : Grammar) (p : Performance) (voices : List (List Chord)) → IsCourse g p voices 0 (first_course (length voices))
is_first g p voices = record {
  long = omega arith;
  starts = All-nil (λ (b : Bar). root_of g.starts b.num b.den ≢ None);
  near = refl;
  early = omega arith;
  heads = first_are g p voices;
  prices = omega arith;
}
