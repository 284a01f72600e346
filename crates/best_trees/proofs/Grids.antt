-- Lists for pairs of counts, by the numbers of the pairs.
use Rattle.std.proofs.Common.{◌≡◌, ℕ, suc, ◌+◌, ◌*◌, ◌/◌, ◌%◌, ◌<◌, List, [], get_or, map, refl, sym, ap, ap₂, ◌∙◌, subst, arith}
use Rattle.rhythm_base.specs.Ranked.{Key, plus}
use Rattle.best_trees.specs.Grids.{HasLists, joined_row, joined_below, ranking_at}
use Rattle.best_trees.specs.Firsts.{AreKeptKeys, sums_offered}
use Rattle.best_trees.proofs.Offers.{sums-kept, sums-none}

-- the numbers of a pair
pub pair_from : (a b : ℕ) → b < 5 → (5 * a + b) / 5 ≡ a
pair_from a b h = omega (arith, h)

pub pair_to : (a b : ℕ) → b < 5 → (5 * a + b) % 5 ≡ b
pair_to a b h = omega (arith, h)

pub by_pairs : (lists : ℕ → ℕ → List Key) (grid : List (List Key)) → ((i : ℕ) → i < 25 → get_or grid i [] ≡ lists (i / 5) (i % 5)) → HasLists lists grid
by_pairs lists grid h a b la lb = h (5 * a + b) (omega (arith, la, lb)) ∙ ap₂ lists (pair_from a b lb) (pair_to a b lb)

-- ---- joining over one count more

module _ (count : ℕ) (top : Key) (left right : List (List Key)) (a b : ℕ) (old : List Key) where
  pub joined-next : (m : ℕ) (now new first others : List Key) → first ≡ ranking_at left a m → others ≡ ranking_at right m b → now ≡ joined_below count top left right a b old m
      → new ≡ sums_offered count (map (plus top) first) others now → new ≡ joined_below count top left right a b old (m + 1)
  joined-next m now new first others one two so_far is =
      let next : suc m ≡ m + 1 = omega arith in
      is ∙ (λ i. sums_offered count (map (plus top) (one i)) (two i) (so_far i)) ∙ ap (joined_below count top left right a b old) next

  -- where there is nothing on the left, or nothing on the right
  pub joined-bare_left : (m : ℕ) (now first : List Key) → first ≡ ranking_at left a m → first ≡ [] → now ≡ joined_below count top left right a b old m → now ≡ joined_below count top left right a b old (m + 1)
  joined-bare_left m now first one bare so_far =
      joined-next m now now first (ranking_at right m b) one refl so_far (sym (ap (λ l. sums_offered count (map (plus top) l) (ranking_at right m b) now) bare))

  pub joined-bare_right : (m : ℕ) (now others : List Key) → others ≡ ranking_at right m b → others ≡ [] → now ≡ joined_below count top left right a b old m → now ≡ joined_below count top left right a b old (m + 1)
  joined-bare_right m now others two bare so_far =
      let all = map (plus top) (ranking_at left a m) in
      joined-next m now now (ranking_at left a m) others refl two so_far (sym (ap (λ l. sums_offered count all l now) bare ∙ sums-none count all now))

  pub joined-kept : (now new first others : List Key) → AreKeptKeys count now → new ≡ sums_offered count (map (plus top) first) others now → AreKeptKeys count new
  joined-kept now new first others kept is = subst (AreKeptKeys count) (sym is) (sums-kept count (map (plus top) first) others now kept)

  pub joined-all : (best : List Key) (m : ℕ) → m ≡ 5 → best ≡ joined_below count top left right a b old m → best ≡ joined_row count top left right a b old
  unfolding joined_row
  joined-all best m all is = is ∙ ap (joined_below count top left right a b old) all

-- ---- a list by the number of its pair

pub at_pair : (P : List Key → Type 0) (grid : List (List Key)) → ((a b : ℕ) → a < 5 → b < 5 → P (ranking_at grid a b)) → (i : ℕ) → i < 25 → P (get_or grid i [])
at_pair P grid h i low =
    let whole : 5 * (i / 5) + i % 5 ≡ i = omega arith in
    subst (λ n. P (get_or grid n [])) whole (h (i / 5) (i % 5) (omega (arith, low)) (omega (arith, low)))
