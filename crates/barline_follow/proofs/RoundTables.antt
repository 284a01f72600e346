-- How many tables a round and all rounds build, and that this is one number.
use Rattle.std.proofs.Common.{◌≡◌, ℕ, zero, suc, ◌+◌, ◌*◌, ◌≤◌, Bool, true, false, List, [], ◌∷◌, length, map, refl, ap, sym, ◌∙◌, subst, arith}
use Rattle.std.specs.Prelude.{Option, Some, None, filter, is_some, nat_le, ◌&&◌}
use Rattle.std.specs.List.{flat_map}
use Rattle.std.proofs.lemmas.List.{length-append}
use Rattle.rhythm_base.specs.declared.limits.TheConstants.{LATEST_TICK}
use Rattle.rhythm_base.specs.Grammar.{Grammar, root_of}
use Rattle.rhythm_base.specs.Lists.{Each}
use Rattle.rhythm_base.specs.Performance.{Performance}
use Rattle.rhythm_base.specs.Voices.{AreChordsOf}
use Rattle.barline_follow.specs.declared.next_bar.NextBar.{NextBar}
use Rattle.barline_follow.specs.declared.offers.Offer.{Offer}
use Rattle.barline_follow.specs.Bars.{pattern_of}
use Rattle.barline_follow.specs.Barring.{Barring, Course, barring_end, last_length}
use Rattle.barline_follow.specs.Gathered.{barring_of}
use Rattle.barline_follow.specs.NextBars.{AreBuiltInRoundOf, AreTriedOffers, IsNextBar, all_cells, can_be, cells}
use Rattle.barline_follow.specs.Offers.{AreOffers}
use Rattle.barline_follow.specs.Rounds.{IsRound, no_bars}
use Rattle.barline_follow.specs.Searched.{AreBuiltInRound, AreBuiltInRounds, AreBuiltInSearch, has_root, is_tried, tried_bars}
use Rattle.barline_follow.proofs.FewTables.{own_cells}
use Rattle.barline_follow.proofs.OneAnswers.{one_offers}
use Rattle.barline_follow.proofs.OneBest.{each_one, one_round}
use Rattle.barline_follow.proofs.Searching.{each_long}

-- ---- a round

module _ (next : NextBar) (n : IsNextBar next) where
  abbrev g : Grammar
  g = next.grammar.now

  abbrev p : Performance
  p = next.performance.now

  -- the bar may have a root symbol exactly where there is one for its signature
  rooted : has_root g (pattern_of p next.number) ≡ next.is_rooted
  rooted = ap (has_root g) n.like ∙ by (root_of g.starts next.like.num next.like.den) next.is_rooted refl refl
    where
      by : (o : Option ℕ) (b : Bool) → root_of g.starts next.like.num next.like.den ≡ o → next.is_rooted ≡ b → is_some (root_of g.starts next.like.num next.like.den) ≡ next.is_rooted
      by (Some root) true is may = ap is_some is ∙ sym may
      by (Some root) false is may =
          let none : Some root ≡ None = sym is ∙ n.rootless may in
          absurd (cc)
      by None true is may = absurd (n.rooted may is)
      by None false is may = ap is_some is ∙ sym may

  same_test : (b : Barring) (o : Offer) → is_tried g p next.number b o ≡ can_be next (barring_end b) o
  same_test b o = ap (λ (rooted : Bool). rooted && nat_le (barring_end b + o.ticks) LATEST_TICK) rooted

  same_count : (b : Barring) (offers : List Offer) → length (filter (is_tried g p next.number b) offers) ≡ length (filter (can_be next (barring_end b)) offers)
  same_count b offers = ap (λ (test : Offer → Bool). length (filter test offers)) (λ i o. same_test b o i)

  -- the bars that are tried after each list, and their tables
  counted : (front : List Course) (tried : List (List Offer)) → Each (AreTriedOffers next) front tried
      → (offers : List (List Offer)) × Each (λ (b : Barring) own. AreOffers g p next.number (last_length b.ticks) own) (map barring_of front) offers
      × (length (all_cells next front tried) ≡ tried_bars g p next.number (map barring_of front) offers * length next.voices.now)
  counted [] tried h = ([], refl, omega arith)
  counted (t ∷ front) [] h = absurd h
  counted (t ∷ front) (own ∷ tried) h =
      let all = h.0.0 in
      let is = h.0.2 in
      let rest = counted front tried h.1 in
      let offers = rest.0 in
      let long = rest.2 in
      let count : length own ≡ length (filter (is_tried g p next.number t.barring) all) = ap length is ∙ sym (same_count t.barring all) in
      let first : length (flat_map (cells next (barring_end t.barring)) own) ≡ length (filter (is_tried g p next.number t.barring) all) * length next.voices.now =
      own_cells next (barring_end t.barring) own ∙ ap (λ (m : ℕ). m * length next.voices.now) count in
      let both = length-append (flat_map (cells next (barring_end t.barring)) own) (all_cells next front tried) in
      let more : (length (filter (is_tried g p next.number t.barring) all) + tried_bars g p next.number (map barring_of front) offers) * length next.voices.now
      ≡ length (filter (is_tried g p next.number t.barring) all) * length next.voices.now + tried_bars g p next.number (map barring_of front) offers * length next.voices.now = grind arith in
      (all ∷ offers, (h.0.1, rest.1), omega (arith, both, first, long, more))

  pub built_in_round : (front : List Course) (tried : List (List Offer)) → Each (AreTriedOffers next) front tried → AreBuiltInRoundOf next front (length (all_cells next front tried))
  built_in_round front tried h =
      let all = counted front tried h in
      let voices : length p.channels ≡ length next.voices.now = each_long (AreChordsOf g p) p.channels next.voices.now n.chords in
      record { offers = all.0; are_offers = all.1; are = all.2 ∙ ap (λ (m : ℕ). tried_bars g p next.number (map barring_of front) all.0 * m) (sym voices) }

-- ---- all rounds

module _ (g : Grammar) (p : Performance) where
  pub none_built : (k i : ℕ) (best : Option Barring) → AreBuiltInRounds g p k i [] best 0
  none_built zero i best = refl
  none_built (suc k) i best = refl

  pub more_built : (k i : ℕ) (front : List Barring) (best : Option Barring) (next : List Barring) (next_best : Option Barring) (own others : ℕ) → 1 ≤ length front
      → IsRound g p i front best next next_best → AreBuiltInRound g p i front own → AreBuiltInRounds g p k (suc i) next next_best others
      → AreBuiltInRounds g p (suc k) i front best (own + others)
  more_built k i [] best next next_best own others some round built rest = absurd (omega (arith, some))
  more_built k i (b ∷ front) best next next_best own others some round built rest = (next, next_best, own, others, round, built, rest, refl)

  -- ---- one number

  one_in_round : (i : ℕ) (front : List Barring) (m n : ℕ) → AreBuiltInRound g p i front m → AreBuiltInRound g p i front n → m ≡ n
  one_in_round i front m n h k =
      let offers : h.offers ≡ k.offers =
      each_one g p (λ (c : Barring) (own : List Offer). AreOffers g p i (last_length c.ticks) own)
      (λ c own others. one_offers g p i (last_length c.ticks) own others) front h.offers k.offers h.are_offers k.are_offers in
      h.are ∙ ap (λ (offers : List (List Offer)). tried_bars g p i front offers * length p.channels) offers ∙ sym k.are

  one_in_rounds : (k i : ℕ) (front : List Barring) (best : Option Barring) (m n : ℕ) → AreBuiltInRounds g p k i front best m → AreBuiltInRounds g p k i front best n → m ≡ n
  one_in_rounds zero i front best m n h k = h ∙ sym k
  one_in_rounds (suc rounds) i [] best m n h k = h ∙ sym k
  one_in_rounds (suc rounds) i (b ∷ front) best m n (next, next_best, own, others, round, built, rest, is) (next', next_best', own', others', round', built', rest', is') =
      let same = one_round g p i (b ∷ front) best next next' next_best next_best' round round' in
      let owns = one_in_round i (b ∷ front) own own' built built' in
      let rests = one_in_rounds rounds (suc i) next' next_best' others others'
      (subst (λ (o : Option Barring). AreBuiltInRounds g p rounds (suc i) next' o others) same.1 (subst (λ (l : List Barring). AreBuiltInRounds g p rounds (suc i) l next_best others) same.0 rest)) rest' in
      omega (arith, is, is', owns, rests)

  pub one_in_search : (m n : ℕ) → AreBuiltInSearch g p m → AreBuiltInSearch g p n → m ≡ n
  one_in_search m n h k = one_in_rounds (2 * length p.bars) 0 (no_bars ∷ []) None m n h k
