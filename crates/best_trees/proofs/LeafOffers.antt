-- A leaf that is offered for each number of chords carried in.
use Rattle.std.proofs.Common.{◌≡◌, ℕ, ◌<◌, ◌≤◌, ◌+◌, ◌&&◌, ◌==◌, Bool, true, false, inl, inr, List, [], refl, sym, ap, ◌∙◌, subst, arith}
use Rattle.std.specs.Prelude.{if◌then◌else◌}
use Rattle.std.proofs.lemmas.Bool.{cases_lt}
use Rattle.std.proofs.lemmas.Bool.Decides.{nat_tests}
use Rattle.rhythm_base.specs.Ranked.{Key}
use Rattle.rhythm_base.proofs.OrderedLists.{pairs_nil}
use Rattle.best_trees.specs.Firsts.{AreKeptKeys, IsBefore, offered}
use Rattle.best_trees.specs.Grids.{HasLists, ranking_at}

module _ (count : ℕ) (key : Key) (fit : ℕ → Bool) (next : ℕ) (old : List (List Key)) where
  -- what stands at a pair after the offer
  abbrev pub taken : ℕ → ℕ → List Key
  taken a b = if fit a && (next == b) then offered count key (ranking_at old a b) else ranking_at old a b

  -- the offers for the counts below n are made
  pub record IsOfferedBelow (n : ℕ) (grid : List (List Key)) : Type 0 where
    pub done : (a b : ℕ) → a < 5 → b < 5 → a < n → ranking_at grid a b ≡ taken a b
    pub rest : (a b : ℕ) → a < 5 → b < 5 → n ≤ a → ranking_at grid a b ≡ ranking_at old a b

  pub none-offered : IsOfferedBelow 0 old
  none-offered = record { done = λ a b la lb low. absurd (omega (arith, low)); rest = λ a b la lb high. refl }

  pub all-offered : (n : ℕ) (grid : List (List Key)) → n ≡ 5 → IsOfferedBelow n grid → HasLists taken grid
  all-offered n grid all h = λ a b la lb. h.done a b la lb (omega (arith, la, all))

  pub kept-still : (n : ℕ) (grid : List (List Key)) → n < 5 → next < 5 → ((a b : ℕ) → a < 5 → b < 5 → AreKeptKeys count (ranking_at old a b)) → IsOfferedBelow n grid → AreKeptKeys count (ranking_at grid n next)
  kept-still n grid low few kept h = subst (AreKeptKeys count) (sym (h.rest n next low few (omega arith))) (kept n next low few)

  off : (n a b : ℕ) → fit n ≡ false → a ≡ n → ranking_at old a b ≡ taken a b
  off n a b e same = go (fit a) (ap fit same ∙ e)
    where
      go : (t : Bool) → t ≡ false → ranking_at old a b ≡ (if t && (next == b) then offered count key (ranking_at old a b) else ranking_at old a b)
      go true h = absurd (cc)
      go false h = refl

  pub not-offered : (n : ℕ) (grid : List (List Key)) → fit n ≡ false → IsOfferedBelow n grid → IsOfferedBelow (n + 1) grid
  not-offered n grid e h = record {
    done = λ a b la lb low. elim (cases_lt a n) [ inl less ↦ h.done a b la lb less | inr more ↦ h.rest a b la lb more ∙ off n a b e (omega (arith, low, more)) ];
    rest = λ a b la lb high. h.rest a b la lb (omega (arith, high));
  }

  pub one-offered : (n : ℕ) (grid new : List (List Key)) → fit n ≡ true → IsOfferedBelow n grid
      → HasLists (λ a b. if (a == n) && (b == next) then offered count key (ranking_at grid a b) else ranking_at grid a b) new → IsOfferedBelow (n + 1) new
  one-offered n grid new e h is = record {
    done = λ a b la lb low. elim (cases_lt a n) [
      | inl less ↦ is a b la lb ∙ other a b (let t : (a == n) ≡ false = grind (arith, nat_tests, less) in t) ∙ h.done a b la lb less
      | inr more ↦
          let same : a ≡ n = omega (arith, low, more) in
          is a b la lb ∙ own a b (let t : (a == n) ≡ true = grind (arith, nat_tests, same) in t) (ap fit same ∙ e) (h.rest a b la lb more)
    ];
    rest = λ a b la lb high. is a b la lb ∙ other a b (let t : (a == n) ≡ false = grind (arith, nat_tests, high) in t) ∙ h.rest a b la lb (omega (arith, high));
  }
    where
      other : (a b : ℕ) → (a == n) ≡ false → (if (a == n) && (b == next) then offered count key (ranking_at grid a b) else ranking_at grid a b) ≡ ranking_at grid a b
      other a b t = ap (λ t. if t && (b == next) then offered count key (ranking_at grid a b) else ranking_at grid a b) t

      turned : (b : ℕ) → (b == next) ≡ (next == b)
      turned b = grind (arith, nat_tests)

      own : (a b : ℕ) → (a == n) ≡ true → fit a ≡ true → ranking_at grid a b ≡ ranking_at old a b
          → (if (a == n) && (b == next) then offered count key (ranking_at grid a b) else ranking_at grid a b) ≡ taken a b
      own a b t f same =
          (λ i. if t i && turned b i then offered count key (same i) else same i)
          ∙ sym (ap (λ t. if t && (next == b) then offered count key (ranking_at old a b) else ranking_at old a b) f)

-- ---- one key at each pair of equal counts

-- it stands at the pairs of the counts below n, and nothing else
pub record IsDiagonalBelow (count n : ℕ) (grid : List (List Key)) : Type 0 where
  pub done : (a b : ℕ) → a < 5 → b < 5 → a < n → ranking_at grid a b ≡ (if a == b then offered count (0, []) [] else [])
  pub rest : (a b : ℕ) → a < 5 → b < 5 → n ≤ a → ranking_at grid a b ≡ []

pub no-diagonal : (count : ℕ) (grid : List (List Key)) → HasLists (λ a b. []) grid → IsDiagonalBelow count 0 grid
no-diagonal count grid h = record { done = λ a b la lb low. absurd (omega (arith, low)); rest = λ a b la lb high. h a b la lb }

pub all-diagonal : (count n : ℕ) (grid : List (List Key)) → n ≡ 5 → IsDiagonalBelow count n grid → HasLists (λ a b. if a == b then offered count (0, []) [] else []) grid
all-diagonal count n grid all h = λ a b la lb. h.done a b la lb (omega (arith, la, all))

pub diagonal-kept : (count n : ℕ) (grid : List (List Key)) → n < 5 → IsDiagonalBelow count n grid → AreKeptKeys count (ranking_at grid n n)
diagonal-kept count n grid low h = subst (AreKeptKeys count) (sym (h.rest n n low low (omega arith))) (record { in_order = pairs_nil IsBefore; few = omega arith })

pub next-diagonal : (count n : ℕ) (grid new : List (List Key)) → IsDiagonalBelow count n grid
    → HasLists (λ a b. if (a == n) && (b == n) then offered count (0, []) (ranking_at grid a b) else ranking_at grid a b) new → IsDiagonalBelow count (n + 1) new
next-diagonal count n grid new h is = record {
  done = λ a b la lb low. elim (cases_lt a n) [
    | inl less ↦ is a b la lb ∙ other a b (let t : (a == n) ≡ false = grind (arith, nat_tests, less) in t) ∙ h.done a b la lb less
    | inr more ↦
        let same : a ≡ n = omega (arith, low, more) in
        is a b la lb ∙ own a b (let t : (a == n) ≡ true = grind (arith, nat_tests, same) in t) (let t : (b == n) ≡ (a == b) = grind (arith, nat_tests, same) in t) (h.rest a b la lb more)
  ];
  rest = λ a b la lb high. is a b la lb ∙ other a b (let t : (a == n) ≡ false = grind (arith, nat_tests, high) in t) ∙ h.rest a b la lb (omega (arith, high));
}
  where
    other : (a b : ℕ) → (a == n) ≡ false → (if (a == n) && (b == n) then offered count (0, []) (ranking_at grid a b) else ranking_at grid a b) ≡ ranking_at grid a b
    other a b t = ap (λ t. if t && (b == n) then offered count (0, []) (ranking_at grid a b) else ranking_at grid a b) t

    own : (a b : ℕ) → (a == n) ≡ true → (b == n) ≡ (a == b) → ranking_at grid a b ≡ []
        → (if (a == n) && (b == n) then offered count (0, []) (ranking_at grid a b) else ranking_at grid a b) ≡ (if a == b then offered count (0, []) [] else [])
    own a b t u same = λ i. if t i && u i then offered count (0, []) (same i) else same i
