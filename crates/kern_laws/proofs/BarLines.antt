-- The lines of bars, after those before them.
use Rattle.std.proofs.Common.{◌≡◌, ℕ, zero, suc, ◌*◌, ◌/◌, ◌≤◌, ◌==◌, Bool, true, false, not, ◌&&◌, ◌||◌, List, [], ◌∷◌, ◌++◌, length, map, refl, sym, ap, ap₂, ◌∙◌, subst, arith, Option, Some, None}
use Rattle.kern_laws.proofs.PlaceSteps.{waiting_bar}
use Rattle.std.proofs.lemmas.List.{length-map}
use Rattle.std.specs.Prelude.{All, if◌then◌else◌, nat_lt, is_none, slice_index_or}
use Rattle.std.specs.Int.{◌∣◌}
use Rattle.std.specs.List.{flat_map, list_all, list_any}
use Rattle.std.proofs.Math.Nat.{div-mul_cancel, eq_of_mul-eq-mul_right, le_of_dvd}
use Rattle.std.proofs.lemmas.Bool.{and_parts, false≢true, le-ltb, eq-eqb}
use Rattle.std.proofs.lemmas.Bool.Decides.{nat_tests}
use Rattle.std.proofs.lemmas.List.Elements.{All-cons, All-head, All-tail}
use Rattle.rhythm_base.specs.Lists.{Each}
use Rattle.derivation.specs.declared.score.ScoreBar.{ScoreBar}
use Rattle.score_words.specs.Changes.{key_before, same_signature}
use Rattle.kern_writer.specs.Changes.{key_change, signature_change, signature_text, tempo_change}
use Rattle.derivation.specs.Score.{IsScoreBar}
use Rattle.text_words.specs.declared.time_signature.TimeSignature.{TimeSignature}
use Rattle.kern_reader.specs.declared.token.Token.{Token}
use Rattle.kern_reader.specs.declared.token.Token.TheVariants as token
use Rattle.kern_reader.specs.Columns.{add_bar, announced, columns_of, current_bar, grid_of, open_keys, place, spine_at, spines_of, stage_of, waiting}
use Rattle.kern_reader.specs.Faults.{has_no_grid, has_wrong_grace, has_wrong_tie, is_filled, is_misplaced, is_unfilled, is_unread, is_wrong_bar}
use Rattle.kern_reader.specs.Lines.{IsWellLine, line_of}
use Rattle.kern_reader.specs.Score.{IsColumnOn}
use Rattle.kern_reader.proofs.ColumnLemmas.{columns_on}
use Rattle.kern_reader.proofs.SpineLemmas.{spine_next, spine_scaled}
use Rattle.kern_laws.specs.Lines.{KernLine}
use Rattle.kern_laws.proofs.ScoreLines.{AreBarLines, AreBarsLines, AreSaidPlaces, Barline, ending_line, Other, Said, Signature, change_lines, lines_at, said_in_bar}
use Rattle.kern_laws.proofs.LineTests.{IsBody, IsInside, body_turn, finest, said_right}
use Rattle.kern_laws.proofs.LineWalk.{IsGood, Walk, walk_append}
use Rattle.kern_laws.proofs.PlaceLines.{saids_of}
use Rattle.kern_laws.proofs.PlaceParts.{Ahead, Fits, Frame, IsAt, Part, clean, next_place, open_after, spelled}
use Rattle.kern_laws.proofs.PlaceWalk.{IsFull, data_walk}
use Rattle.durations.proofs.Beats.{beat_part}

-- ---- bars

abbrev pub signature_of_bar : ScoreBar → TimeSignature
signature_of_bar bar = record { num = bar.num; den = bar.den }

abbrev pub signature_before : Option ScoreBar → Option TimeSignature
signature_before None = None
signature_before (Some bar) = Some (signature_of_bar bar)

abbrev pub frame_of : ℕ → ScoreBar → Frame
frame_of r bar = record { grid = 64 * r; times = 64 / bar.den; whole = r * bar.den; end = r * bar.num }

abbrev pub said_in : ℕ → List (List Said) → List Said
said_in n voice = slice_index_or voice n []

-- what a voice says in the bars from number n on, while a tie of these keys is open
abbrev pub FitsBars : ℕ → ℕ → List ScoreBar → Option ℕ → List (List Said) → Type 0
FitsBars r n [] tied voice = tied ≡ None
FitsBars r n (bar ∷ bars) tied voice =
    Fits (frame_of r bar) tied (said_in n voice) × (next_place (frame_of r bar) (said_in n voice) ≡ 0) × FitsBars r (suc n) bars (open_after tied (said_in n voice)) voice

abbrev pub spelled_bars : ℕ → List ScoreBar → List (List Said) → List Token → List Token
spelled_bars n [] voice before = before
spelled_bars n (bar ∷ bars) voice before = spelled_bars (suc n) bars voice (spelled (said_in n voice) (token.Bar (signature_of_bar bar) ∷ before))

abbrev pub Rest : ℕ → ℕ → List ScoreBar → Ahead
Rest r n bars voice target tied before = FitsBars r n bars tied voice × (spelled_bars n bars voice before ≡ target)

-- before a bar
pub record IsRested (r n : ℕ) (bars : List ScoreBar) (p : Part) (column : List Token) : Type 0 where
  pub waits : length (waiting column) ≡ 0
  pub later : Rest r n bars p.voice p.target (open_keys column) (clean column)

pub record IsBetween (width r : ℕ) (next : Option TimeSignature) (n : ℕ) (bars : List ScoreBar) (parts : List Part) (before : List KernLine) : Type 0 where
  pub body : IsBody width (64 * r) before
  pub said : announced before ≡ next
  pub full : is_unfilled (grid_of before) (current_bar before) (spines_of before) ≡ false
  pub each : Each (IsRested r n bars) parts (columns_of before)

abbrev begun : ℕ → Part → Part
begun n p = record p { saids = said_in n p.voice }

pub small_grid : (grid most : ℕ) → 1 ≤ most → most ≤ 61440 → grid ∣ most → nat_lt 61440 grid ≡ false
small_grid grid most some few h = le-ltb 61440 grid (omega (arith, le_of_dvd {m = grid} {n = most} some h, few))

-- ---- changes before a bar

other_ending : Other ≡ ending_line → ⊥
unfolding line_of
other_ending e = cc

signature_ending : (signature : TimeSignature) → Signature signature ≡ ending_line → ⊥
unfolding line_of
signature_ending signature e = cc

module _ (width r : ℕ) (some : 1 ≤ 64 * r) (few : 64 * r ≤ 61440) (n : ℕ) (bars : List ScoreBar) (parts : List Part) where
  other_good : (next : Option TimeSignature) (before : List KernLine) → IsBetween width r next n bars parts before → IsGood width before Other × IsBetween width r next n bars parts (Other ∷ before)
  unfolding is_unread has_no_grid is_wrong_bar is_misplaced has_wrong_grace has_wrong_tie
  other_good next before is = (
    record {
      turn = body_turn (stage_of before) Other is.body.stage other_ending;
      wide = λ h. is.body.wide;
      faultless = said_right before Other refl (small_grid (grid_of before) (64 * r) some few is.body.divides) refl refl refl refl;
    },
    record {
      body = record { stage = refl; well = All-cons IsWellLine Other before tt is.body.well; divides = is.body.divides; wide = is.body.wide };
      said = is.said;
      full = is.full;
      each = is.each;
    },
  )

  others_walk : {X : Type 0} (xs : List X) (next : Option TimeSignature) (before : List KernLine) → IsBetween width r next n bars parts before
      → (after : List KernLine) × Walk width before (map (λ _. Other) xs) after × IsBetween width r next n bars parts after
  others_walk [] next before is = (before, refl, is)
  others_walk (x ∷ xs) next before is =
      let (good, state) = other_good next before is in
      let (after, walk, end) = others_walk xs next (Other ∷ before) state in
      (after, (good, walk), end)

  signature_good : (bar : ScoreBar) (next : Option TimeSignature) (before : List KernLine) → IsScoreBar bar → IsBetween width r next n bars parts before
      → IsGood width before (Signature (signature_of_bar bar)) × IsBetween width r (Some (signature_of_bar bar)) n bars parts (Signature (signature_of_bar bar) ∷ before)
  unfolding is_unread has_no_grid is_wrong_bar is_misplaced has_wrong_grace has_wrong_tie
  signature_good bar next before well is = (
    record {
      turn = body_turn (stage_of before) (Signature (signature_of_bar bar)) is.body.stage (signature_ending (signature_of_bar bar));
      wide = λ h. is.body.wide;
      faultless = said_right before (Signature (signature_of_bar bar)) refl (small_grid (grid_of before) (64 * r) some few is.body.divides) refl refl refl refl;
    },
    record {
      body = record { stage = refl; well = All-cons IsWellLine (Signature (signature_of_bar bar)) before well.signature is.body.well; divides = is.body.divides; wide = is.body.wide };
      said = refl;
      full = is.full;
      each = is.each;
    },
  )

  same_before : (prior : Option ScoreBar) (bar : ScoreBar) → same_signature prior bar ≡ true → signature_before prior ≡ Some (signature_of_bar bar)
  same_before None bar e = absurd (false≢true e)
  same_before (Some prior) bar e =
      let (first, second) = and_parts (prior.num == bar.num) (prior.den == bar.den) e in
      let num : prior.num ≡ bar.num = grind (arith, nat_tests, first) in
      let den : prior.den ≡ bar.den = grind (arith, nat_tests, second) in
      λ i. Some (record { num = num i; den = den i })

  signature_walk : (prior : Option ScoreBar) (bar : ScoreBar) (before : List KernLine) → IsScoreBar bar → IsBetween width r (signature_before prior) n bars parts before
      → (after : List KernLine) × Walk width before (map (λ _. Signature (signature_of_bar bar)) (signature_change prior bar)) after × IsBetween width r (Some (signature_of_bar bar)) n bars parts after
  signature_walk prior bar before well is = go (same_signature prior bar) refl
    where
      go : (b : Bool) → same_signature prior bar ≡ b
          → (after : List KernLine) × Walk width before (map (λ _. Signature (signature_of_bar bar)) (if b then [] else signature_text bar ∷ [])) after × IsBetween width r (Some (signature_of_bar bar)) n bars parts after
      go true e = (before, refl, subst (λ o. IsBetween width r o n bars parts before) (same_before prior bar e) is)
      go false e = let (good, state) = signature_good bar (signature_before prior) before well is in (Signature (signature_of_bar bar) ∷ before, (good, refl), state)

  changes_walk : (prior : Option ScoreBar) (bar : ScoreBar) (before : List KernLine) → IsScoreBar bar → IsBetween width r (signature_before prior) n bars parts before
      → (after : List KernLine) × Walk width before (change_lines prior bar) after × IsBetween width r (Some (signature_of_bar bar)) n bars parts after
  changes_walk prior bar before well is =
      let (first, keys, a) = others_walk (key_change (key_before prior) bar.sf) (signature_before prior) before is in
      let (second, signatures, b) = signature_walk prior bar first well a in
      let (third, tempos, c) = others_walk (tempo_change prior bar) (Some (signature_of_bar bar)) second b in
      let keys_lines = map (λ _. Other) (key_change (key_before prior) bar.sf) in
      let signature_lines = map (λ _. Signature (signature_of_bar bar)) (signature_change prior bar) in
      let more = walk_append width before keys_lines first signature_lines second keys signatures in
      (third, walk_append width before (keys_lines ++ signature_lines) second (map (λ _. Other) (tempo_change prior bar)) third more tempos, c)

-- ---- barlines

place_bar : (grid : ℕ) (signature : TimeSignature) (column : List Token) → place grid (token.Bar signature ∷ column) ≡ 0
place_bar grid signature column = ap (λ s. s.place) (spine_next grid (token.Bar signature) column)

begun_at : (r n : ℕ) (bar : ScoreBar) (bars : List ScoreBar) (p : Part) (column : List Token) → IsRested r n (bar ∷ bars) p column
    → IsAt (frame_of r bar) (Rest r (suc n) bars) (begun n p) (token.Bar (signature_of_bar bar) ∷ column)
begun_at r n bar bars p column is =
    let ((fits, first, more), spelt) = is.later in
    record {
      here = place_bar (64 * r) (signature_of_bar bar) column ∙ sym (nothing (64 / bar.den)) ∙ ap (λ k. 64 / bar.den * k) (sym first);
      fits = fits;
      waits = ap length (waiting_bar (signature_of_bar bar) column);
      later = (more, spelt);
    }
  where
    nothing : (k : ℕ) → k * 0 ≡ 0
    nothing k = omega arith

each_begun : (r n : ℕ) (bar : ScoreBar) (bars : List ScoreBar) (parts : List Part) (columns : List (List Token)) → Each (IsRested r n (bar ∷ bars)) parts columns
    → Each (IsAt (frame_of r bar) (Rest r (suc n) bars)) (map (begun n) parts) (map (add_bar (Some (signature_of_bar bar))) columns)
each_begun r n bar bars [] columns each = ap (map (add_bar (Some (signature_of_bar bar)))) each
each_begun r n bar bars (p ∷ parts) [] each = absurd each
each_begun r n bar bars (p ∷ parts) (c ∷ columns) (own, rest) = (begun_at r n bar bars p c own, each_begun r n bar bars parts columns rest)

pub no_waiting : (r n g : ℕ) (bars : List ScoreBar) (parts : List Part) (columns : List (List Token)) → Each (IsRested r n bars) parts columns → list_any (λ s. nat_lt 0 s.graces) (map (spine_at g) columns) ≡ false
no_waiting r n g bars [] [] each = refl
no_waiting r n g bars [] (c ∷ columns) each = absurd (none (ap length each))
  where
    none : suc (length columns) ≡ 0 → ⊥
    none h = omega (arith, h)
no_waiting r n g bars (p ∷ parts) [] each = absurd each
no_waiting r n g bars (p ∷ parts) (c ∷ columns) (own, rest) =
    ap₂ ◌||◌ (ap (nat_lt 0) own.waits) (no_waiting r n g bars parts columns rest)

barline_ending : Barline ≡ ending_line → ⊥
unfolding line_of
barline_ending e = cc

module _ (width r : ℕ) (some : 1 ≤ 64 * r) (few : 64 * r ≤ 61440) (n : ℕ) (bar : ScoreBar) (bars : List ScoreBar) (parts : List Part) where
  barline_good : (before : List KernLine) → IsBetween width r (Some (signature_of_bar bar)) n (bar ∷ bars) parts before
      → IsGood width before Barline × IsInside width (64 * r) (signature_of_bar bar) (Barline ∷ before)
      × Each (IsAt (frame_of r bar) (Rest r (suc n) bars)) (map (begun n) parts) (columns_of (Barline ∷ before))
  unfolding is_unread has_no_grid is_wrong_bar is_misplaced has_wrong_grace has_wrong_tie
  barline_good before is = (
    record {
      turn = body_turn (stage_of before) Barline is.body.stage barline_ending;
      wide = λ h. is.body.wide;
      faultless = said_right before Barline refl (small_grid (grid_of before) (64 * r) some few is.body.divides) refl
          (no_waiting r n (grid_of before) (bar ∷ bars) parts (columns_of before) is.each) (ap₂ ◌||◌ is.full (ap is_none is.said)) refl;
    },
    record {
      body = record {
        stage = refl;
        well = All-cons IsWellLine Barline before tt is.body.well;
        divides = is.body.divides;
        wide = length-map (columns_of before) (add_bar (announced before)) ∙ is.body.wide;
      };
      bar = is.said;
      next = is.said;
    },
    subst (λ o. Each (IsAt (frame_of r bar) (Rest r (suc n) bars)) (map (begun n) parts) (map (add_bar o) (columns_of before))) (sym is.said) (each_begun r n bar bars parts (columns_of before) is.each),
  )

  -- ---- the bar is full

  filled_one : (g t : ℕ) (column : List Token) → IsScoreBar bar → 1 ≤ t → g * t ≡ 64 * r → IsColumnOn g column → place (64 * r) column ≡ 64 / bar.den * (r * bar.num)
      → is_filled g (signature_of_bar bar) (spine_at g column) ≡ true
  filled_one g t column well positive finer on full =
      let scaled : place (64 * r) column ≡ place g column * t = ap (λ x. place x column) (sym finer) ∙ ap (λ s. s.place) (spine_scaled g t column on) in
      let beat : 64 / bar.den * bar.den ≡ 64 = div-mul_cancel bar.den (beat_part bar.den well.signature.power) in
      let left : place g column * bar.den * t ≡ bar.num * g * t =
      turned (place g column) bar.den t ∙ ap (λ x. x * bar.den) (sym scaled ∙ full) ∙ beats (64 / bar.den) r bar.num bar.den ∙ ap (λ x. x * (r * bar.num)) beat
      ∙ sorted r bar.num ∙ ap (λ x. bar.num * x) (sym finer) ∙ joined bar.num g t in
      let same : place g column * bar.den ≡ bar.num * g = eq_of_mul-eq-mul_right t positive (place g column * bar.den) (bar.num * g) left in
      eq-eqb (place g column * bar.den) (bar.num * g) same
    where
      turned : (p d t : ℕ) → p * d * t ≡ p * t * d
      turned p d t = grind arith

      beats : (k r m d : ℕ) → k * (r * m) * d ≡ k * d * (r * m)
      beats k r m d = grind arith

      sorted : (r m : ℕ) → 64 * (r * m) ≡ m * (64 * r)
      sorted r m = grind arith

      joined : (m g t : ℕ) → m * (g * t) ≡ m * g * t
      joined m g t = grind arith

  all_filled : (g t : ℕ) (ps : List Part) (columns : List (List Token)) → IsScoreBar bar → 1 ≤ t → g * t ≡ 64 * r → All (IsColumnOn g) columns → Each (IsFull (frame_of r bar) (Rest r (suc n) bars)) ps columns
      → list_all (is_filled g (signature_of_bar bar)) (map (spine_at g) columns) ≡ true
  all_filled g t [] [] well positive finer on each = refl
  all_filled g t [] (c ∷ columns) well positive finer on each = absurd (none (ap length each))
    where
      none : suc (length columns) ≡ 0 → ⊥
      none h = omega (arith, h)
  all_filled g t (p ∷ ps) [] well positive finer on each = absurd each
  all_filled g t (p ∷ ps) (c ∷ columns) well positive finer on (own, rest) =
      ap₂ ◌&&◌ (filled_one g t c well positive finer (All-head (IsColumnOn g) c columns on) own.here) (all_filled g t ps columns well positive finer (All-tail (IsColumnOn g) c columns on) rest)

  each_rested : (ps : List Part) (columns : List (List Token)) → Each (IsFull (frame_of r bar) (Rest r (suc n) bars)) (map (begun n) ps) columns → Each (IsRested r (suc n) bars) ps columns
  each_rested [] columns each = each
  each_rested (p ∷ ps) [] each = absurd each
  each_rested (p ∷ ps) (c ∷ columns) (own, rest) = (record { waits = own.waits; later = own.later }, each_rested ps columns rest)

  begun_saids : (ps : List Part) → saids_of (map (begun n) ps) ≡ said_in_bar n (map (λ p. p.voice) ps)
  begun_saids [] = refl
  begun_saids (p ∷ ps) = ap (λ xs. said_in n p.voice ∷ xs) (begun_saids ps)

  some_times : IsScoreBar bar → 1 ≤ 64 / bar.den
  some_times well = go (64 / bar.den) (div-mul_cancel bar.den (beat_part bar.den well.signature.power))
    where
      go : (k : ℕ) → k * bar.den ≡ 64 → 1 ≤ k
      go zero h = absurd (omega (arith, h))
      go (suc k) h = omega arith

  -- a bar
  pub bar_walk : (prior : Option ScoreBar) (before lines : List KernLine) → IsScoreBar bar → AreBarLines prior bar (said_in_bar n (map (λ p. p.voice) parts)) lines
      → IsBetween width r (signature_before prior) n (bar ∷ bars) parts before
      → (after : List KernLine) × Walk width before lines after × IsBetween width r (Some (signature_of_bar bar)) (suc n) bars parts after
  bar_walk prior before lines well (places, said, are) is =
      let (first, changes, a) = changes_walk width r some few n (bar ∷ bars) parts prior bar before well is in
      let (good, inside, each) = barline_good first a in
      let said_parts : AreSaidPlaces (saids_of (map (begun n) parts)) places = subst (λ v. AreSaidPlaces v places) (sym (begun_saids parts)) said in
      let (last, places_done, end, full) = data_walk width (frame_of r bar) (Rest r (suc n) bars) (signature_of_bar bar) some few (some_times well) places (map (begun n) parts) (Barline ∷ first) said_parts inside each in
      let data_lines = subst (λ v. Walk width (Barline ∷ first) (flat_map (lines_at v) places) last) (begun_saids parts) places_done in
      let all = walk_append width before (change_lines prior bar) first (Barline ∷ flat_map (lines_at (said_in_bar n (map (λ p. p.voice) parts))) places) last changes (good, data_lines) in
      let (t, positive, finer) = finest width (64 * r) last some end.body in
      let filled = all_filled (grid_of last) t (map (begun n) parts) (columns_of last) well positive finer (columns_on last end.body.well) full in (
        last,
        subst (λ ls. Walk width before ls last) (sym are) all,
        record {
          body = end.body;
          said = end.next;
          full = ap (λ o. is_unfilled (grid_of last) o (spines_of last)) end.bar ∙ ap not filled;
          each = each_rested parts (columns_of last) full;
        },
      )

-- all bars
pub bars_walk : (width r : ℕ) (some : 1 ≤ 64 * r) (few : 64 * r ≤ 61440) (n : ℕ) (prior : Option ScoreBar) (bars : List ScoreBar) (parts : List Part) (before lines : List KernLine) → All IsScoreBar bars
    → AreBarsLines (map (λ p. p.voice) parts) prior n bars lines → IsBetween width r (signature_before prior) n bars parts before
    → (after : List KernLine) × (end : ℕ) × (next : Option TimeSignature) × Walk width before lines after × IsBetween width r next end [] parts after
bars_walk width r some few n prior [] parts before lines well are is = (before, n, signature_before prior, subst (λ ls. Walk width before ls before) (sym are) refl, is)
bars_walk width r some few n prior (bar ∷ bars) parts before lines well (own, others, here, rest, all) is =
    let (mid, walk, state) = bar_walk width r some few n bar bars parts prior before own (All-head IsScoreBar bar bars well) here is in
    let (after, end, next, more, last) = bars_walk width r some few (suc n) (Some bar) bars parts mid others (All-tail IsScoreBar bar bars well) rest state in
    (after, end, next, subst (λ ls. Walk width before ls after) (sym all) (walk_append width before own mid others after walk more), last)
