-- The head of a score, its last barline, and its end.
use Rattle.std.proofs.Common.{◌≡◌, ℕ, zero, suc, ◌*◌, ◌≤◌, true, false, ◌||◌, List, [], ◌∷◌, ◌++◌, length, map, replicate, refl, sym, ap, ap₂, ◌∙◌, subst, arith, Option, None}
use Rattle.std.proofs.lemmas.List.{length-replicate}
use Rattle.std.specs.Prelude.{All, codes, is_some, nat_lt}
use Rattle.std.specs.Int.{◌∣◌}
use Rattle.std.specs.List.{join_with_byte, list_any}
use Rattle.std.proofs.Math.Nat.{one-dvd}
use Rattle.std.proofs.lemmas.List.Elements.{All-cons, All-nil}
use Rattle.rhythm_base.specs.Lists.{Each}
use Rattle.derivation.specs.declared.score.ScoreBar.{ScoreBar}
use Rattle.derivation.specs.Score.{IsScoreBar}
use Rattle.text_words.specs.declared.time_signature.TimeSignature.{TimeSignature}
use Rattle.kern_reader.specs.declared.token.Token.{Token}
use Rattle.kern_reader.specs.Columns.{announced, columns_of, current_bar, grid_of, grid_with, line_values, spine_at, spines_of, stage_after, stage_of}
use Rattle.kern_reader.specs.Faults.{has_no_grid, has_wrong_grace, has_wrong_tie, is_head_stage, is_misplaced, is_unfilled, is_unread, is_wrong_bar}
use Rattle.kern_reader.specs.Lines.{IsWellLine, all_are, is_heading, line_of}
use Rattle.kern_reader.specs.Text.{columns}
use Rattle.kern_laws.specs.Lines.{KernLine}
use Rattle.kern_laws.proofs.ScoreLines.{AreBarsLines, Body, ending_line, HasTurn, Head, Heading, Last, LastBarline, Over, Said}
use Rattle.kern_laws.proofs.BarLines.{FitsBars, IsBetween, IsRested, bars_walk, small_grid, spelled_bars, no_waiting}
use Rattle.kern_laws.proofs.LineLists.{Every}
use Rattle.kern_laws.proofs.LineTests.{body_turn, said_right}
use Rattle.kern_laws.proofs.LineWalk.{IsGood, Walk, walk_append}
use Rattle.kern_laws.proofs.PlaceParts.{Part, clean}

-- ---- the head

abbrev heads : ℕ → List ℕ
heads n = join_with_byte 9 (replicate n (codes "**kern"))

split_heads : (n : ℕ) → columns (heads (suc n)) ≡ replicate (suc n) (codes "**kern")
split_heads zero = refl
split_heads (suc n) = ap (λ xs. codes "**kern" ∷ xs) (split_heads n)

all_heads : (n : ℕ) → all_are (codes "**kern") (replicate n (codes "**kern")) ≡ true
all_heads zero = refl
all_heads (suc n) = all_heads n

heading_text : (n : ℕ) → 1 ≤ n → (is_heading (heads n) ≡ true) × (columns (heads n) ≡ replicate n (codes "**kern"))
heading_text zero some = absurd (omega (arith, some))
heading_text (suc n) some = (ap (all_are (codes "**kern")) (split_heads n) ∙ all_heads (suc n), split_heads n)

module _ (n : ℕ) (some : 1 ≤ n) where
  head_columns : columns_of (Heading n ∷ []) ≡ replicate n []
  unfolding line_of
  head_columns = let (is, wide) = heading_text n some in rw is (ap (λ k. replicate k []) (ap length wide ∙ length-replicate n (codes "**kern")))

  head_stage : stage_after (Heading n) ≡ Body
  unfolding line_of
  head_stage = let (is, wide) = heading_text n some in rw is refl

  head_values : line_values (Heading n) ≡ []
  unfolding line_of
  head_values = let (is, wide) = heading_text n some in rw is refl

  head_well : IsWellLine (Heading n)
  unfolding line_of
  head_well = let (is, wide) = heading_text n some in rw is tt

  head_announced : announced (Heading n ∷ []) ≡ None
  unfolding line_of
  head_announced = let (is, wide) = heading_text n some in rw is refl

  head_bar : current_bar (Heading n ∷ []) ≡ None
  unfolding line_of
  head_bar = let (is, wide) = heading_text n some in rw is refl

  head_read : is_unread Head (Heading n) ≡ false
  unfolding line_of is_unread
  head_read = let (is, wide) = heading_text n some in rw is refl

  head_placed : is_misplaced None [] (Heading n) ≡ false
  unfolding line_of is_misplaced
  head_placed = let (is, wide) = heading_text n some in rw is refl

  head_grace : has_wrong_grace [] (Heading n) ≡ false
  unfolding line_of has_wrong_grace
  head_grace = let (is, wide) = heading_text n some in rw is refl

  head_full : is_wrong_bar 1 None None [] (Heading n) ≡ false
  unfolding line_of is_wrong_bar
  head_full = let (is, wide) = heading_text n some in rw is refl

  head_tie : has_wrong_tie [] (Heading n) ≡ false
  unfolding line_of has_wrong_tie
  head_tie = let (is, wide) = heading_text n some in rw is refl

-- what each voice says, from the beginning
abbrev pub part_of : List ScoreBar → List (List Said) → Part
part_of bars voice = record { saids = []; voice = voice; target = spelled_bars 0 bars voice [] }

voices_of : (bars : List ScoreBar) (voices : List (List (List Said))) → map (λ p. p.voice) (map (part_of bars) voices) ≡ voices
voices_of bars [] = refl
voices_of bars (voice ∷ voices) = ap (λ xs. voice ∷ xs) (voices_of bars voices)

first_rested : (r : ℕ) (bars : List ScoreBar) (voices : List (List (List Said))) → Every (FitsBars r 0 bars None) voices → Each (IsRested r 0 bars) (map (part_of bars) voices) (replicate (length voices) [])
first_rested r bars [] all = refl
first_rested r bars (voice ∷ voices) (fits, rest) = (record { waits = refl; later = (fits, refl) }, first_rested r bars voices rest)

head_turn : (n : ℕ) → HasTurn Head (Heading n)
unfolding line_of
head_turn n = record { head = λ e. (n, refl); body = λ e. absurd (no_body e); last = λ e. absurd (no_last e); over = λ e. no_over e }
  where
    no_body : Head ≡ Body → ⊥
    no_body e = cc

    no_last : Head ≡ Last → ⊥
    no_last e = cc

    no_over : Head ≡ Over → ⊥
    no_over e = cc

module _ (r : ℕ) (some : 1 ≤ 64 * r) (few : 64 * r ≤ 61440) (bars : List ScoreBar) (voices : List (List (List Said))) (voiced : 1 ≤ length voices) where
  head_good : IsGood (length voices) [] (Heading (length voices))
  unfolding has_no_grid
  head_good =
      let n = length voices in
      record {
        turn = head_turn n;
        wide = λ e. absurd (not_head e);
        faultless = said_right [] (Heading n) (head_read n voiced) (ap (λ vs. nat_lt 61440 (grid_with 1 vs)) (head_values n voiced)) (head_placed n voiced) (head_grace n voiced) (head_full n voiced) (head_tie n voiced);
      }
    where
      not_head : is_head_stage Head ≡ false → ⊥
      not_head e = cc

  begins : Every (FitsBars r 0 bars None) voices → IsBetween (length voices) r None 0 bars (map (part_of bars) voices) (Heading (length voices) ∷ [])
  begins all =
      let n = length voices in
      let spines = head_columns n voiced in
      record {
        body = record {
          stage = head_stage n voiced;
          well = All-cons IsWellLine (Heading n) [] (head_well n voiced) (All-nil IsWellLine);
          divides = subst (λ vs. grid_with 1 vs ∣ 64 * r) (sym (head_values n voiced)) (one-dvd (64 * r));
          wide = ap length spines ∙ length-replicate n (let none : List Token = [] in none);
        };
        said = head_announced n voiced;
        full = ap (λ o. is_unfilled (grid_of (Heading n ∷ [])) o (spines_of (Heading n ∷ []))) (head_bar n voiced);
        each = subst (λ cs. Each (IsRested r 0 bars) (map (part_of bars) voices) cs) (sym spines) (first_rested r bars voices all);
      }

-- ---- the end

no_open : (r n g : ℕ) (parts : List Part) (columns : List (List Token)) → Each (IsRested r n []) parts columns → list_any (λ s. is_some s.tied) (map (spine_at g) columns) ≡ false
no_open r n g [] [] each = refl
no_open r n g [] (c ∷ columns) each = absurd (none (ap length each))
  where
    none : suc (length columns) ≡ 0 → ⊥
    none h = omega (arith, h)
no_open r n g (p ∷ parts) [] each = absurd each
no_open r n g (p ∷ parts) (c ∷ columns) (own, rest) = ap₂ ◌||◌ (ap is_some own.later.0) (no_open r n g parts columns rest)

last_ending : LastBarline ≡ ending_line → ⊥
unfolding line_of
last_ending e = cc

last_turn : HasTurn Last ending_line
unfolding line_of
last_turn = record { head = λ e. absurd (no_head e); body = λ e. absurd (no_body e); last = λ e. refl; over = λ e. no_over e }
  where
    no_head : Last ≡ Head → ⊥
    no_head e = cc

    no_body : Last ≡ Body → ⊥
    no_body e = cc

    no_over : Last ≡ Over → ⊥
    no_over e = cc

module _ (width r : ℕ) (some : 1 ≤ 64 * r) (few : 64 * r ≤ 61440) (next : Option TimeSignature) (n : ℕ) (parts : List Part) (before : List KernLine) (is : IsBetween width r next n [] parts before) where
  last_good : IsGood width before LastBarline
  unfolding is_unread has_no_grid is_wrong_bar is_misplaced has_wrong_grace has_wrong_tie
  last_good = record {
    turn = body_turn (stage_of before) LastBarline is.body.stage last_ending;
    wide = λ h. is.body.wide;
    faultless = said_right before LastBarline refl (small_grid (grid_of before) (64 * r) some few is.body.divides) refl
        (no_waiting r n (grid_of before) [] parts (columns_of before) is.each) is.full (no_open r n (grid_of before) parts (columns_of before) is.each);
  }

  end_good : IsGood width (LastBarline ∷ before) ending_line
  unfolding line_of is_unread has_no_grid is_wrong_bar is_misplaced has_wrong_grace has_wrong_tie
  end_good = record {
    turn = last_turn;
    wide = λ h. is.body.wide;
    faultless = said_right (LastBarline ∷ before) ending_line refl (small_grid (grid_of before) (64 * r) some few is.body.divides) refl refl refl refl;
  }

  end_columns : columns_of (ending_line ∷ LastBarline ∷ before) ≡ columns_of before
  unfolding line_of
  end_columns = refl

  end_grid : grid_of (ending_line ∷ LastBarline ∷ before) ≡ grid_of before
  unfolding line_of
  end_grid = refl

  end_well : All IsWellLine (ending_line ∷ LastBarline ∷ before)
  unfolding line_of
  end_well = All-cons IsWellLine ending_line (LastBarline ∷ before) tt (All-cons IsWellLine LastBarline before tt is.body.well)

-- ---- the score

-- the column of a voice comes to what the voice says
abbrev pub IsSpelled : List ScoreBar → List (List Said) → List Token → Type 0
IsSpelled bars voice column = clean column ≡ spelled_bars 0 bars voice []

pub record IsDone (r : ℕ) (bars : List ScoreBar) (voices : List (List (List Said))) (lines after : List KernLine) : Type 0 where
  pub walk : Walk (length voices) [] lines after
  pub over : stage_of after ≡ Over
  pub well : All IsWellLine after
  pub divides : grid_of after ∣ 64 * r
  pub each : Each (IsSpelled bars) voices (columns_of after)

spelt_each : (r end : ℕ) (bars : List ScoreBar) (voices : List (List (List Said))) (columns : List (List Token)) → Each (IsRested r end []) (map (part_of bars) voices) columns → Each (IsSpelled bars) voices columns
spelt_each r end bars [] columns each = each
spelt_each r end bars (voice ∷ voices) [] each = absurd each
spelt_each r end bars (voice ∷ voices) (c ∷ columns) (own, rest) = (own.later.1, spelt_each r end bars voices columns rest)

pub score_walk : (r : ℕ) (bars : List ScoreBar) (voices : List (List (List Said))) (lines bar_lines : List KernLine) → 1 ≤ 64 * r → 64 * r ≤ 61440 → 1 ≤ length voices → All IsScoreBar bars
    → Every (FitsBars r 0 bars None) voices → AreBarsLines voices None 0 bars bar_lines → lines ≡ Heading (length voices) ∷ (bar_lines ++ LastBarline ∷ ending_line ∷ [])
    → (after : List KernLine) × IsDone r bars voices lines after
score_walk r bars voices lines bar_lines some few voiced well all are same =
    let width = length voices in
    let parts = map (part_of bars) voices in
    let head = Heading width ∷ [] in
    let bars_are : AreBarsLines (map (λ p. p.voice) parts) None 0 bars bar_lines = subst (λ vs. AreBarsLines vs None 0 bars bar_lines) (sym (voices_of bars voices)) are in
    let (mid, end, next, walk, state) = bars_walk width r some few 0 None bars parts head bar_lines well bars_are (begins r some few bars voices voiced all) in
    let after = ending_line ∷ LastBarline ∷ mid in
    let last : Walk width mid (LastBarline ∷ ending_line ∷ []) after = (last_good width r some few next end parts mid state, (end_good width r some few next end parts mid state, refl)) in
    let whole : Walk width [] (Heading width ∷ (bar_lines ++ LastBarline ∷ ending_line ∷ [])) after =
    (head_good r some few bars voices voiced, walk_append width head bar_lines mid (LastBarline ∷ ending_line ∷ []) after walk last) in (
      after,
      record {
        walk = subst (λ ls. Walk width [] ls after) (sym same) whole;
        over = refl;
        well = end_well width r some few next end parts mid state;
        divides = subst (λ g. g ∣ 64 * r) (sym (end_grid width r some few next end parts mid state)) state.body.divides;
        each = spelt_each r end bars voices (columns_of after) (subst (λ cs. Each (IsRested r end []) parts cs) (sym (end_columns width r some few next end parts mid state)) state.each);
      },
    )
