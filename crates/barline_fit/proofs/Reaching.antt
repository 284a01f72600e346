-- How many cells a barline reaches at several ticks together.
use Rattle.std.proofs.Common.{◌≡◌, ℕ, ◌+◌, ◌≤◌, List, [], ◌∷◌, ◌++◌, length, refl, sym, ap, ◌∙◌, subst, arith, Result, Ok, Err}
use Rattle.std.specs.Prelude.{MatchResult}
use Rattle.barline_fit.specs.Builds.{AreReachedAt, AreWithinReach}
use Rattle.barline_fit.specs.Laws.{ReachedSumsAreOne}
use Rattle.edit_laws.specs.Edits.{edited}
use Rattle.rhythm_base.specs.Grammar.{Grammar}
use Rattle.rhythm_base.specs.Performance.{Performance}
use Rattle.edit_laws.specs.Reached.{AreReached, WouldReach}
use Rattle.rhythm_base.specs.declared.edit.Edit.{Edit}
use Rattle.rhythm_base.specs.declared.edit.Edit.TheVariants.{Barline}
use Rattle.rhythm_base.specs.declared.edit_fault.EditFault.{EditFault}
use Rattle.edit_laws.proofs.OneReached.{one_reached}

-- ---- one edit

module _ (g : Grammar) (p : Performance) where
  abbrev reached_by : Result Performance EditFault → List (ℕ × ℕ) → Type 0
  reached_by r cells = MatchResult r (λ q. AreReached g p q cells) (λ fault. cells ≡ [])

  one_by : (r : Result Performance EditFault) (xs ys : List (ℕ × ℕ)) → reached_by r xs → reached_by r ys → xs ≡ ys
  one_by (Ok q) xs ys h k = one_reached g p q xs ys h k
  one_by (Err fault) xs ys h k = h ∙ sym k

  -- an edit would reach one list of cells
  pub one_would : (edit : Edit) (xs ys : List (ℕ × ℕ)) → WouldReach g p edit xs → WouldReach g p edit ys → xs ≡ ys
  one_would edit xs ys h k = one_by (edited p edit) xs ys h k

  pub would_reach : (edit : Edit) (q : Performance) (cells : List (ℕ × ℕ)) → edited p edit ≡ Ok q → AreReached g p q cells → WouldReach g p edit cells
  would_reach edit q cells is h = subst (λ r. reached_by r cells) (sym is) h

  pub would_reach_none : (edit : Edit) (fault : EditFault) → edited p edit ≡ Err fault → WouldReach g p edit []
  would_reach_none edit fault is = subst (λ r. reached_by r []) (sym is) refl

-- ---- several ticks

module _ (g : Grammar) (p : Performance) (bar : ℕ) where
  pub reached_none : AreReachedAt g p bar [] 0
  unfolding AreReachedAt
  reached_none = refl

  pub reached_one : (tick : ℕ) (cells : List (ℕ × ℕ)) → WouldReach g p (Barline bar tick) cells → AreReachedAt g p bar (tick ∷ []) (length cells)
  unfolding AreReachedAt
  reached_one tick cells h = (cells, 0, h, refl, omega arith)

  pub reached_append : (xs ys : List ℕ) (m n : ℕ) → AreReachedAt g p bar xs m → AreReachedAt g p bar ys n → AreReachedAt g p bar (xs ++ ys) (m + n)
  unfolding AreReachedAt
  reached_append [] ys m n h k = subst (AreReachedAt g p bar ys) (omega (arith, h)) k
  reached_append (tick ∷ xs) ys m n (cells, others, would, more, sum) k =
      (cells, others + n, would, reached_append xs ys others n more k, omega (arith, sum))

  pub reached_parts : (xs ys : List ℕ) (sum : ℕ) → AreReachedAt g p bar (xs ++ ys) sum
      → (m : ℕ) × (n : ℕ) × AreReachedAt g p bar xs m × AreReachedAt g p bar ys n × (sum ≡ m + n)
  unfolding AreReachedAt
  reached_parts [] ys sum h = (0, sum, refl, h, omega arith)
  reached_parts (tick ∷ xs) ys sum (cells, others, would, more, is) =
      let parts = reached_parts xs ys others more in
      (length cells + parts.0, parts.1, (cells, parts.0, would, parts.2, refl), parts.3, omega (arith, is, parts.4))

  pub one_sum : (ticks : List ℕ) (m n : ℕ) → AreReachedAt g p bar ticks m → AreReachedAt g p bar ticks n → m ≡ n
  unfolding AreReachedAt
  one_sum [] m n h k = h ∙ sym k
  one_sum (tick ∷ ticks) m n (cells, others, would, more, sum) (cells', others', would', more', sum') =
      let same = ap length (one_would g p (Barline bar tick) cells cells' would would') in
      let rest = one_sum ticks others others' more more' in
      omega (arith, sum, sum', same, rest)

  -- where the barline is never set, no cell is reached
  pub reached_nowhere : (ticks : List ℕ) → ((tick : ℕ) → (fault : EditFault) × (edited p (Barline bar tick) ≡ Err fault)) → AreReachedAt g p bar ticks 0
  unfolding AreReachedAt
  reached_nowhere [] never = refl
  reached_nowhere (tick ∷ ticks) never =
      let refusal = never tick in
      ([], 0, would_reach_none g p (Barline bar tick) refusal.0 refusal.1, reached_nowhere ticks never, refl)

  -- what is within the reach of the edit at a tick
  pub within_one : (tick n : ℕ) → ((cells : List (ℕ × ℕ)) → WouldReach g p (Barline bar tick) cells → n ≤ length cells) → AreWithinReach g p bar (tick ∷ []) n
  unfolding AreReachedAt
  within_one tick n within sum (cells, others, would, more, is) = let few = within cells would in omega (arith, few, is)

  -- the first ticks are tried, and at one more no more cells are built than the barline reaches there
  pub within_more : (xs : List ℕ) (tick : ℕ) (ys : List ℕ) (m n : ℕ) → AreReachedAt g p bar xs m → AreWithinReach g p bar (tick ∷ []) n
      → AreWithinReach g p bar (xs ++ tick ∷ ys) (m + n)
  within_more xs tick ys m n h within sum all =
      let parts = reached_parts xs (tick ∷ ys) sum all in
      let there = reached_parts (tick ∷ []) ys parts.1 parts.3 in
      let first = one_sum xs m parts.0 h parts.2 in
      let least = within there.0 there.2 in
      omega (arith, parts.4, there.4, first, least)

  -- all of them are tried
  pub within_all : (ticks : List ℕ) (m : ℕ) → AreReachedAt g p bar ticks m → AreWithinReach g p bar ticks m
  within_all ticks m h sum all = omega (arith, one_sum ticks m sum h all)

pub sums_one : ReachedSumsAreOne
sums_one = one_sum
