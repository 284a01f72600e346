-- How many tables are built where the script to the chosen barlines is tried.
use Rattle.std.proofs.Common.{◌≡◌, ℕ, ◌+◌, ◌-◌, ◌≤◌, List, refl, ap, sym, ◌∙◌, subst, arith}
use Rattle.std.specs.Prelude.{Option}
use Rattle.bar_pool.specs.Pool.{RisesWithin}
use Rattle.edit_session.specs.Prepared.{RisesBy}
use Rattle.rhythm_base.specs.declared.edit.Edit.{Edit}
use Rattle.rhythm_base.specs.Grammar.{Grammar}
use Rattle.rhythm_base.specs.Performance.{Performance}
use Rattle.rhythm_base.specs.Voices.{IsCostOf}
use Rattle.barline_follow.specs.Answer.{chosen}
use Rattle.barline_follow.specs.Bars.{barlines_of}
use Rattle.barline_follow.specs.Barring.{Barring}
use Rattle.barline_follow.specs.Builds.{AreMostBuilt, AreReachedInTurn, AreWithinReachInTurn, most_tables}
use Rattle.barline_follow.specs.Laws.{MostBuiltAreOne}
use Rattle.barline_follow.specs.Rounds.{IsBest}
use Rattle.barline_follow.specs.Script.{script}
use Rattle.barline_follow.proofs.Answering.{no_script}
use Rattle.barline_follow.proofs.OneBest.{one_chosen}
use Rattle.barline_follow.proofs.ReachedInTurn.{one_in_turn, reached_none}
use Rattle.barline_follow.proofs.RoundTables.{one_in_search}
use Rattle.barline_follow.specs.Searched.{AreBuiltInSearch, AreBuiltToFollow}

module _ (g : Grammar) (p : Performance) where
  -- where the same barlines are chosen the script reaches one number of cells
  same_reached : (ticks others : List ℕ) (m n : ℕ) → ticks ≡ others → AreReachedInTurn g p (script p ticks) m → AreReachedInTurn g p (script p others) n → m ≡ n
  same_reached ticks others m n is h k = one_in_turn g p (script p others) m n (subst (λ (l : List ℕ). AreReachedInTurn g p (script p l) m) is h) k

  one_most : (m n : ℕ) → AreMostBuilt g p m → AreMostBuilt g p n → m ≡ n
  one_most m n (ticks, reached, are_chosen, h, is) (others, reached', are_chosen', k, is') =
      let same = same_reached ticks others reached reached' (one_chosen g p ticks others are_chosen are_chosen') h k in
      omega (arith, is, is', same)

  one_followed : (m n : ℕ) → AreBuiltToFollow g p m → AreBuiltToFollow g p n → m ≡ n
  one_followed m n (searched, ticks, reached, search, are_chosen, h, is) (searched', others, reached', search', are_chosen', k, is') =
      let first = one_in_search g p searched searched' search search' in
      let same = same_reached ticks others reached reached' (one_chosen g p ticks others are_chosen are_chosen') h k in
      omega (arith, is, is', first, same)

  -- what the search builds is within what is built at most
  pub within_search : (old new : ℕ) → RisesWithin old new (most_tables p) → RisesBy old new (λ n. (most : ℕ) → AreMostBuilt g p most → n ≤ most)
  within_search old new few = (new - old, omega (arith, few.0, few.1), λ most (ticks, reached, are_chosen, h, is). omega (arith, few.0, few.1, is))

module _ (g : Grammar) (p : Performance) (best : Option Barring) (cost : ℕ) (is_best : IsBest g p best) (is_cost : IsCostOf g p cost) where
  -- the barlines that are there are chosen, and no script is tried
  pub built_untried : (old new : ℕ) → chosen p cost best ≡ barlines_of p → RisesBy old new (AreBuiltInSearch g p) → RisesBy old new (AreBuiltToFollow g p)
  built_untried old new is (n, rises, searched) =
      let none = subst (λ (l : List Edit). AreReachedInTurn g p l 0) (sym (no_script p)) (reached_none g p) in
      (n, rises, (n, barlines_of p, 0, searched, (best, cost, is_best, is_cost, sym is), none, omega arith))

  -- the script is tried to its end
  pub built_tried : (ticks : List ℕ) (lines : List Edit) (old mid new : ℕ) → chosen p cost best ≡ ticks → lines ≡ script p ticks
      → RisesBy old mid (AreBuiltInSearch g p) → RisesBy mid new (AreReachedInTurn g p lines) → RisesBy old new (AreBuiltToFollow g p)
  built_tried ticks lines old mid new is lines_are (m, rose, searched) (n, rises, reached) = (
    m + n,
    omega (arith, rose, rises),
    (m, ticks, n, searched, (best, cost, is_best, is_cost, sym is), subst (λ (l : List Edit). AreReachedInTurn g p l n) lines_are reached, refl),
  )

  -- it is tried as far as there is memory
  pub within_trial : (ticks : List ℕ) (lines : List Edit) (old mid new : ℕ) → chosen p cost best ≡ ticks → lines ≡ script p ticks
      → RisesWithin old mid (most_tables p) → RisesBy mid new (AreWithinReachInTurn g p lines) → RisesBy old new (λ n. (most : ℕ) → AreMostBuilt g p most → n ≤ most)
  within_trial ticks lines old mid new is lines_are few (n, rises, within) = (
    new - old,
    omega (arith, few.0, few.1, rises),
    λ most (others, reached, are_chosen, h, most_is).
        let same : others ≡ ticks = one_chosen g p others ticks are_chosen (best, cost, is_best, is_cost, sym is) in
        let tried : script p others ≡ lines = ap (script p) same ∙ sym lines_are in
        let least = within reached (subst (λ (l : List Edit). AreReachedInTurn g p l reached) tried h) in
        omega (arith, few.0, few.1, rises, most_is, least),
  )

pub ones : MostBuiltAreOne
ones = record { searched = one_in_search; followed = one_followed; reached = one_in_turn; most = one_most }
