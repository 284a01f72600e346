-- Rule lists along a way, and of the entries of a row.
use Rattle.std.proofs.Common.{◌≡◌, ℕ, zero, suc, ◌<◌, ◌≤◌, ◌+◌, ◌-◌, ◌*◌, ◌^◌, ◌/◌, ◌%◌, ◌==◌, Bool, true, false, cond, not, List, [], ◌∷◌, ◌++◌, length, take, get_or, map, refl, sym, ap, ◌∙◌, subst, arith, add-zero}
use Rattle.std.specs.Prelude.{Option, Some, None, slice_get, position}
use Rattle.std.specs.List.{position_or_len}
use Rattle.rhythm_base.proofs.Positions.{position-missing}
use Rattle.std.proofs.lemmas.Bool.Decides.{nat_tests}
use Rattle.std.proofs.lemmas.List.Quantifiers.{position-Some}
use Rattle.std.proofs.lemmas.Option.{slice_get-get_or}
use Rattle.rhythm_base.specs.BarInput.{BarInput}
use Rattle.rhythm_base.specs.Bodies.{children, sizes}
use Rattle.rhythm_base.specs.Cells.{bar_of}
use Rattle.rhythm_base.specs.Grammar.{Grammar}
use Rattle.rhythm_base.specs.Leaves.{VoiceBar, in_bar, looks}
use Rattle.rhythm_base.specs.Ranked.{Key}
use Rattle.rhythm_base.specs.Trees.{BarLeaf, leaves}
use Rattle.rhythm_base.specs.declared.rule.Rule.{Rule}
use Rattle.tree_laws.specs.Forests.{Ground, IsForestKey, IsGround}
use Rattle.tree_laws.specs.Places.{reach}
use Rattle.path_laws.specs.Tables.{IsLeastKey}
use Rattle.tree_laws.proofs.Bars.{SideBySide, leaves-fill}
use Rattle.path_laws.proofs.LeastKeys.{IsLeast-one}
use Rattle.tree_laws.proofs.Quiet.{carried_by, leaving-calm}
use Rattle.tree_laws.proofs.Ticks.{parts-line}
use Rattle.row_laws.specs.Grounds.{IsReady, ground_of}
use Rattle.row_laws.specs.QuietTrees.{IsQuiet, IsQuietLeast}
use Rattle.row_laws.specs.Ways.{IsWayList}
use Rattle.row_laws.specs.declared.quiet.Quiet.{Quiet}
use Rattle.grammar_plan.specs.Plans.{HasSeat, IsCutOf, IsPlan, IsQuietTree, pair_of, quiet_rows_of}
use Rattle.grammar_plan.specs.declared.cut.Cut.{Cut}
use Rattle.grammar_plan.specs.declared.plan.Plan.{Plan}
use Rattle.grammar_plan.specs.declared.quiet_tree.QuietTree.{QuietTree}
use Rattle.grammar_plan.specs.declared.seat.Seat.{Seat}
use Rattle.least_rows.specs.Searches.{ground_in}
use Rattle.least_rows.specs.declared.search.Search.{Search}
use Rattle.least_rows.specs.Entries.{IsRowEntry, IsListMade, IsRow}
use Rattle.least_rows.specs.declared.entry.Entry.{Entry}
use Rattle.least_rows.specs.Parts.{ArePartsOf, AreSeatsOf, IsLeg, carried_after}
use Rattle.least_rows.specs.declared.parts.Parts.{Parts}
use Rattle.std.proofs.lemmas.Nat.{shr-shr}
use Rattle.least_rows.proofs.PlanSeats.{All-at, below-at, cut_below, cut_whole, has_seat-width, one_at, parts-at, parts-length, seat_of, width_of}
use Rattle.least_rows.proofs.QuietRows.{no_onset, none_carried}
use Rattle.row_laws.proofs.Grounds.{grounded}

-- ---- nothing is carried out of a quiet interval

some_carried : (p w a : ℕ) (bar : VoiceBar) (xs : List BarLeaf) → 1 ≤ w → SideBySide p xs (p + w) → carried_by a (map (λ x. x.part.ending) (in_bar bar xs)) ≡ 0
some_carried p w a bar [] wide side = absurd (omega (arith, side))
some_carried p w a bar (x ∷ xs) wide side = none_carried (map (λ x. x.part.ending) (in_bar bar xs))

pub quiet-nothing : (d : Ground) → IsGround d → (quiet : Quiet) (p a b : ℕ) (q : ℕ × ℕ) (k : Key) → 1 ≤ q.0 → IsQuiet quiet d p q.0 → IsForestKey d None p (q ∷ []) a b k → b ≡ 0
quiet-nothing d ground quiet p a b q k wide calm (f, stands, is) =
    let r : ℕ = d.book.resolution in
    let xs : List BarLeaf = leaves d.book.rules p (q ∷ []) f in
    let same : q.0 + 0 ≡ q.0 = add-zero q.0 in
    let fill : SideBySide p xs (p + q.0) = subst (λ w. SideBySide p xs (p + w)) same (leaves-fill d.book.rules f p (q ∷ []) (wide, tt) stands.trees) in
    let line = parts-line r d.bar p (p + q.0) xs ground.long fill in
    sym stands.fits.leave ∙ leaving-calm (looks r) d.chords (reach r d.bar p) (reach r d.bar (p + q.0)) a (in_bar d.bar xs) line (no_onset quiet d p q.0 calm) ∙ some_carried p q.0 a d.bar xs wide fill

-- ---- the least key of a quiet interval is that of the plan

pub quiet-key : (g : Grammar) (k : BarInput) (plan : Plan) → IsReady g k → IsPlan g plan → (quiet : Quiet) (n : ℕ) (s : Seat) → slice_get plan.seats.items n ≡ Some s → n < length plan.seats.items
    → (p a b : ℕ) → a < 5 → IsQuiet quiet (ground_of g k) p s.width → (key : Key) → IsLeastKey (IsForestKey (ground_of g k) None p (pair_of s ∷ []) a b) (Some key) → IsQuietLeast g quiet (pair_of s) a (Some key)
quiet-key g k plan ready plan_of quiet n s at low p a b la calm key least =
    go (get_or (get_or (quiet_rows_of plan quiet) n []) a None) (plan_of.quiet n a quiet low la s at)
  where
    wide : 1 ≤ s.width
    wide = (seat_of g plan plan_of n s at).wide

    none_out : b ≡ 0
    none_out = quiet-nothing (ground_of g k) (grounded g k ready) quiet p a b (pair_of s) key wide calm least.0

    own : IsLeastKey (IsForestKey (ground_of g k) None p (pair_of s ∷ []) a 0) (Some key)
    own = subst (λ b. IsLeastKey (IsForestKey (ground_of g k) None p (pair_of s ∷ []) a b) (Some key)) none_out least

    go : (t : Option QuietTree) → IsQuietTree g plan quiet (pair_of s) a t → IsQuietLeast g quiet (pair_of s) a (Some key)
    go None h = absurd (h (bar_of k) k.chords k.before (grounded g k ready) p calm key own.0)
    go (Some t) (x, all, cost, cheap, made) =
        let same : Some x ≡ Some key = IsLeast-one (IsForestKey (ground_of g k) None p (pair_of s ∷ []) a 0) (Some x) (Some key) (all (bar_of k) k.chords k.before (grounded g k ready) p calm) own in
        let P : Option Key → Type 0 = IsQuietLeast g quiet (pair_of s) a in
        subst P same all

-- ---- the entries of a row

module _ {X : Type 0} (p : X → Bool) where
  none_before : (xs : List X) (i : ℕ) (x : X) → length xs ≤ position_or_len p xs → slice_get xs i ≡ Some x → p x ≡ false
  none_before [] i x h at = absurd (cc)
  none_before (y ∷ ys) i x h at = go (p y) refl h i at (λ i. none_before ys i x)
    where
      go : (b : Bool) → p y ≡ b → suc (length ys) ≤ cond (not b) (1 + position_or_len p ys) 0 → (i : ℕ) → slice_get (y ∷ ys) i ≡ Some x
          → ((i : ℕ) → length ys ≤ position_or_len p ys → slice_get ys i ≡ Some x → p x ≡ false) → p x ≡ false
      go true e h i at later = absurd (omega (arith, h))
      go false e h zero at later = let same : y ≡ x = cc in ap p (sym same) ∙ e
      go false e h (suc i) at later = later i (omega (arith, h)) at

  pub position-none : (xs : List X) (i : ℕ) (x : X) → position p xs ≡ None → slice_get xs i ≡ Some x → p x ≡ false
  position-none xs i x h at = none_before xs i x (position-missing p xs h) at

module _ (d : Ground) (plan : Plan) (p : ℕ) (q : ℕ × ℕ) (a : ℕ) (entries : List Entry) (row : IsRow d plan p q a entries) (to : ℕ) (key : Key) (least : IsLeastKey (IsForestKey d None p (q ∷ []) a to) (Some key)) where
  few : to < 5
  few = let top : to ≤ 4 = least.0.1.fits.few_to in omega arith

  own_key : row.keys to ≡ Some key
  own_key = IsLeast-one (IsForestKey d None p (q ∷ []) a to) (row.keys to) (Some key) (row.least to few) least

  -- the row has an entry where there is a key
  pub entry_there : position (λ e. e.to == to) entries ≡ None → ⊥
  entry_there h =
      let one = row.all to key few own_key in
      let no = position-none (λ e. e.to == to) entries one.0 one.1 h one.2 in
      let is = one.3 in
      absurd (grind (arith, nat_tests))

  -- and so its list is made
  pub entry_made : (i : ℕ) (e : Entry) → position (λ e. e.to == to) entries ≡ Some i → e ≡ get_or entries i e → IsListMade d plan p q a e.rule e.cut e.way e.to key.1
  entry_made i e h at =
      let found = position-Some (λ (e : Entry). e.to == to) entries i e h in
      let here : slice_get entries i ≡ Some e = slice_get-get_or entries i e found.0 ∙ ap Some (sym at) in
      let own : IsRowEntry d plan p q a row.keys e = All-at (IsRowEntry d plan p q a row.keys) entries i e row.each here in
      let on : e.to == to ≡ true = ap (λ (e : Entry). e.to == to) at ∙ found.1 in
      let is : e.to ≡ to = grind (arith, nat_tests) in
      let same : Some own.1 ≡ Some key = sym own.2 ∙ ap row.keys is ∙ own_key in
      let equal : own.1 ≡ key = cc in
      subst (λ (k : Key). IsListMade d plan p q a e.rule e.cut e.way e.to k.1) equal own.4

-- how the list of any entry of a row is made
pub entry_list : (d : Ground) (plan : Plan) (p : ℕ) (q : ℕ × ℕ) (a : ℕ) (entries : List Entry) → IsRow d plan p q a entries → (i : ℕ) (e : Entry) → i < length entries → e ≡ get_or entries i e
    → (list : List ℕ) × IsListMade d plan p q a e.rule e.cut e.way e.to list
entry_list d plan p q a entries row i e low at =
    let here : slice_get entries i ≡ Some e = slice_get-get_or entries i e low ∙ ap Some (sym at) in
    let own : IsRowEntry d plan p q a row.keys e = All-at (IsRowEntry d plan p q a row.keys) entries i e row.each here in
    (own.1.1, own.4)

-- ---- a way

-- the way over one part less
pub record IsWayStep (d : Ground) (p : ℕ) (qs : List (ℕ × ℕ)) (a n way m : ℕ) (list : List ℕ) : Type 0 where
  pub earlier : List ℕ
  pub key : Key
  pub before : IsWayList d p qs a n (way / 8) (way % 8) earlier
  pub digit : way % 8 < 5
  pub least : IsLeastKey (IsForestKey d None (p + sizes (take n qs)) (get_or qs n (0, 0) ∷ []) (way % 8) m) (Some key)
  pub whole : list ≡ earlier ++ key.1

pub way_step : (d : Ground) (p : ℕ) (qs : List (ℕ × ℕ)) (a n c way m : ℕ) (list : List ℕ) → c ≡ suc n → IsWayList d p qs a c way m list → IsWayStep d p qs a n way m list
way_step d p qs a n c way m list e h = go (subst (λ c. IsWayList d p qs a c way m list) e h)
  where
    go : IsWayList d p qs a (suc n) way m list → IsWayStep d p qs a n way m list
    go (w, l, xs, k, before, low, is, least, whole) =
        let high : w ≡ way / 8 = omega (arith, low, is) in
        let digit : l ≡ way % 8 = omega (arith, low, is) in
        record {
          earlier = xs;
          key = k;
          before = subst (λ w. IsWayList d p qs a n w (way % 8) xs) high (subst (λ l. IsWayList d p qs a n w l xs) digit before);
          digit = omega (arith, low, digit);
          least = subst (λ l. IsLeastKey (IsForestKey d None (p + sizes (take n qs)) (get_or qs n (0, 0) ∷ []) l m) (Some k)) digit least;
          whole = whole;
        }

-- the cut of a list that is made so
pub record IsMadeCut (d : Ground) (plan : Plan) (p : ℕ) (q : ℕ × ℕ) (a rule : ℕ) (c : Cut) (way to : ℕ) (list : List ℕ) : Type 0 where
  pub cut : IsCutOf d.book plan q c
  pub below : List ℕ
  pub along : IsWayList d p (children cut.rule.body q.0) a (length (children cut.rule.body q.0)) way to below
  pub whole : list ≡ rule ∷ below

pub made_cut : (d : Ground) (plan : Plan) (p : ℕ) (q : ℕ × ℕ) (a rule : ℕ) (o : Option ℕ) (n way to : ℕ) (list : List ℕ) (c : Cut) → IsListMade d plan p q a rule o way to list → o ≡ Some n → slice_get plan.cuts.items n ≡ Some c
    → IsMadeCut d plan p q a rule c way to list
made_cut d plan p q a rule o n way to list c made is at = go (subst (λ o. IsListMade d plan p q a rule o way to list) is made)
  where
    go : IsListMade d plan p q a rule (Some n) way to list → IsMadeCut d plan p q a rule c way to list
    go (x, body, xs, at_x, own, cut_of, cut_rule, along, whole) =
        let same : x ≡ c = one_at plan.cuts.items n x c at_x at in
        let equal : body ≡ cut_of.rule = one_at d.book.rules x.rule body cut_of.rule cut_rule.at cut_of.is.at in
        let made : IsMadeCut d plan p q a rule x way to list = record {
          cut = cut_of;
          below = xs;
          along = subst (λ (b : Rule). IsWayList d p (children b.body q.0) a (length (children b.body q.0)) way to xs) equal along;
          whole = whole;
        } in
        subst (λ c. IsMadeCut d plan p q a rule c way to list) same made

-- it is one of the plan's cuts
pub made_there : (d : Ground) (plan : Plan) (p : ℕ) (q : ℕ × ℕ) (a rule : ℕ) (o : Option ℕ) (n way to : ℕ) (list : List ℕ) → IsListMade d plan p q a rule o way to list → o ≡ Some n → (c : Cut) × (slice_get plan.cuts.items n ≡ Some c)
made_there d plan p q a rule o n way to list made is = let own = subst (λ o. IsListMade d plan p q a rule o way to list) is made in (own.0, own.3)

pub made_leaf : (d : Ground) (plan : Plan) (p : ℕ) (q : ℕ × ℕ) (a rule : ℕ) (o : Option ℕ) (way to : ℕ) (list : List ℕ) → IsListMade d plan p q a rule o way to list → o ≡ None → list ≡ rule ∷ []
made_leaf d plan p q a rule o way to list made is = subst (λ o. IsListMade d plan p q a rule o way to list) is made

-- ---- a way from its first part on

-- the way over the first n parts, where r come after
pub way_first : (d : Ground) (p : ℕ) (qs : List (ℕ × ℕ)) (a n r c way m : ℕ) (ys : List ℕ) → c ≡ n + r → IsWayList d p qs a c way m ys
    → (xs : List ℕ) × IsWayList d p qs a n (way / 2 ^ (3 * r)) (carried_after way m r) xs
way_first d p qs a n zero c way m ys e h =
    let count : c ≡ n = omega (arith, e) in
    let whole : way ≡ way / 2 ^ (3 * 0) = omega arith in
    (ys, subst (λ w. IsWayList d p qs a n w m ys) whole (subst (λ c. IsWayList d p qs a c way m ys) count h))
way_first d p qs a n (suc r) c way m ys e h =
    let step = way_step d p qs a (n + r) c way m ys (omega (arith, e)) h in
    let more = way_first d p qs a n r (n + r) (way / 8) (way % 8) step.earlier refl step.before in
    (more.0, subst (λ l. IsWayList d p qs a n (way / 2 ^ (3 * suc r)) l more.0) (digit r) (subst (λ w. IsWayList d p qs a n w (carried_after (way / 8) (way % 8) r) more.0) (deeper r) more.1))
  where
    deeper : (r : ℕ) → way / 8 / 2 ^ (3 * r) ≡ way / 2 ^ (3 * suc r)
    deeper r = let three : 3 + 3 * r ≡ 3 * suc r = omega arith in shr-shr way 3 (3 * r) ∙ ap (λ j. way / 2 ^ j) three

    digit : (r : ℕ) → carried_after (way / 8) (way % 8) r ≡ way / 2 ^ (3 * r) % 8
    digit zero = omega arith
    digit (suc r) = ap (λ w. w % 8) (deeper r)

-- one part less
pub way_less : (way r : ℕ) → way / 2 ^ (3 * r) / 8 ≡ way / 2 ^ (3 * suc r)
way_less way r = let three : 3 * r + 3 ≡ 3 * suc r = omega arith in shr-shr way (3 * r) 3 ∙ ap (λ j. way / 2 ^ j) three

pub sizes_upto : (qs : List (ℕ × ℕ)) (n : ℕ) → n < length qs → sizes (take n qs) + (get_or qs n (0, 0)).0 ≤ sizes qs
sizes_upto [] n low = absurd (omega arith)
sizes_upto (q ∷ qs) zero low = omega arith
sizes_upto (q ∷ qs) (suc n) low = let more = sizes_upto qs n (omega arith) in omega (arith, more)

-- one of the parts
module _ (plan : Plan) (x : Parts) (parts : ArePartsOf plan x) (part d : ℕ) (low : x.first ≤ part) (high : part < x.end) where
  -- of whatever parts have these seats
  pub part_seat : (qs : List (ℕ × ℕ)) → AreSeatsOf plan x qs → HasSeat plan (get_or plan.parts.items part d) (get_or qs (part - x.first) (0, 0))
  part_seat qs are = parts-at plan x qs part d low high parts.within are

  pub part_there : (qs : List (ℕ × ℕ)) → AreSeatsOf plan x qs → part - x.first < length qs
  part_there qs are =
      let order : x.first ≤ x.end = parts.order in
      let long = parts-length plan x qs order parts.within are in
      omega (arith, long, low, high)

  pub part_narrow : (q : ℕ × ℕ) → HasSeat plan (get_or plan.parts.items part d) q → q.0 < x.width
  part_narrow q h =
      let n : ℕ = get_or plan.parts.items part d in
      let below = below-at x.width parts.seats (part - x.first) parts.below (part_there parts.seats parts.are) in
      let own : width_of (slice_get plan.seats.items n) ≡ (get_or parts.seats (part - x.first) (0, 0)).0 = has_seat-width plan n (get_or parts.seats (part - x.first) (0, 0)) (part_seat parts.seats parts.are) in
      let same : width_of (slice_get plan.seats.items n) ≡ q.0 = has_seat-width plan n q h in
      omega (arith, below.1, own, same)

-- the parts of an entry's cut
module _ (bar : Search) (s : Seat) (p a rule way to : ℕ) (list : List ℕ) (c : Cut) (wide : 1 ≤ s.width) (within : p + s.width ≤ bar.input.now.resolution)
    (made : IsMadeCut (ground_in bar) bar.plan.now p (pair_of s) a rule c way to list) where
  abbrev all_parts : Parts
  all_parts = record { first = c.first; end = c.end; width = s.width }

  pub cut_parts : ArePartsOf bar.plan.now (record { first = c.first; end = c.end; width = s.width })
  cut_parts = record {
    order = made.cut.order;
    within = made.cut.within;
    seats = children made.cut.rule.body s.width;
    are = made.cut.parts;
    below = cut_below bar.grammar.now bar.plan.now (pair_of s) c wide made.cut;
  }

  pub cut_count : c.end - c.first ≡ length (children made.cut.rule.body s.width)
  cut_count = sym (parts-length bar.plan.now all_parts (children made.cut.rule.body s.width) made.cut.order made.cut.within made.cut.parts)

  pub cut_along : IsWayList (ground_in bar) p (children made.cut.rule.body s.width) a (c.end - c.first) way to made.below
  cut_along = subst (λ n. IsWayList (ground_in bar) p (children made.cut.rule.body s.width) a n way to made.below) (sym cut_count) made.along

  pub cut_leg : IsLeg bar (record { first = c.first; end = c.end; width = s.width }) (record { place = p; from = a; way = way; to = to })
  cut_leg =
      let whole : sizes (children made.cut.rule.body s.width) ≡ s.width = cut_whole bar.grammar.now bar.plan.now (pair_of s) c wide made.cut in
      record {
        seats = children made.cut.rule.body s.width;
        are = made.cut.parts;
        within = omega (arith, whole, within);
        list = made.below;
        way = cut_along;
      }
