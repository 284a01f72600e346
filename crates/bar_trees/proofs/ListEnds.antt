-- Rule lists that are written one after another.
use Rattle.std.proofs.Common.{◌≡◌, ℕ, zero, suc, ◌<◌, ◌≤◌, ◌-◌, inl, inr, List, [], ◌++◌, length, take, drop, set, refl, sym, ap, ◌∙◌, subst, arith, length-append, length-drop}
use Rattle.std.proofs.Math.Seq.{drop-append_seam, take-length}
use Rattle.std.proofs.lemmas.Bool.{cases_lt}
use Rattle.std.proofs.lemmas.List.{drop-append-le, get_or-set_other, get_or-set_same, length-set, take-append-le}
use Rattle.grammar_plan.specs.Plans.{between}
use Rattle.bar_trees.specs.WrittenLists.{AreListsWritten, IsPlaced, list_end, list_start, list_of}

pub between-more : (rules more : List ℕ) (a b : ℕ) → a ≤ b → b ≤ length rules → between (rules ++ more) a b ≡ between rules a b
between-more rules more a b order within =
    let rest = length-drop a rules in
    ap (take (b - a)) (drop-append-le a rules more (omega (arith, order, within))) ∙ take-append-le (b - a) (drop a rules) more (omega (arith, rest, within))

pub between-new : (rules more : List ℕ) → between (rules ++ more) (length rules) (length (rules ++ more)) ≡ more
between-new rules more =
    let long = length-append rules more in
    let count : length (rules ++ more) - length rules ≡ length more = omega (arith, long) in
    (λ i. take (count i) (drop-append_seam rules more i)) ∙ take-length more

module _ (P : ℕ → List ℕ → Type 0) (rules more ends : List ℕ) (n : ℕ) (few : n < 25) (h : AreListsWritten P rules ends n) where
  -- the ends with that of the list of number n
  abbrev next_ends : List ℕ
  next_ends = set ends n (length (rules ++ more))

  first-kept : (i : ℕ) → i ≤ n → list_start next_ends i ≡ list_start ends i
  first-kept zero low = refl
  first-kept (suc i) low = get_or-set_other ends n i (length (rules ++ more)) 0 (λ same. let no : ⊥ = omega (arith, same, low) in no)

  end-kept : (i : ℕ) → i < n → list_end next_ends i ≡ list_end ends i
  end-kept i low = get_or-set_other ends n i (length (rules ++ more)) 0 (λ same. let no : ⊥ = omega (arith, same, low) in no)

  end-new : list_end next_ends n ≡ length (rules ++ more)
  end-new = let long = h.long in get_or-set_same ends n (length (rules ++ more)) 0 (omega (arith, few, long))

  placed : (i : ℕ) → i < suc n → IsPlaced (rules ++ more) next_ends i
  placed i below = elim (cases_lt i n) [
    | inl low ↦
        let first = first-kept i (omega (arith, low)) in
        let end = end-kept i low in
        let order = (h.placed i low).0 in
        let within = (h.placed i low).1 in
        let long = length-append rules more in
        (omega (arith, first, end, order), omega (arith, end, within, long))
    | inr high ↦
        let same : n ≡ i = omega (arith, high, below) in
        let first = first-kept n (omega arith) in
        let last = h.last in
        let long = length-append rules more in
        subst (IsPlaced (rules ++ more) next_ends) same (omega (arith, first, last, end-new, long), omega (arith, end-new))
  ]

  lists : P n more → (i : ℕ) → i < suc n → P i (list_of (rules ++ more) next_ends i)
  lists new i below = elim (cases_lt i n) [
    | inl low ↦
        let first = first-kept i (omega (arith, low)) in
        let end = end-kept i low in
        let own = h.placed i low in
        subst (P i) (sym ((λ j. between (rules ++ more) (first j) (end j)) ∙ between-more rules more (list_start ends i) (list_end ends i) own.0 own.1)) (h.lists i low)
    | inr high ↦
        let same : n ≡ i = omega (arith, high, below) in
        let first = first-kept n (omega arith) ∙ h.last in
        subst (λ i. P i (list_of (rules ++ more) next_ends i)) same (subst (P n) (sym ((λ j. between (rules ++ more) (first j) (end-new j)) ∙ between-new rules more)) new)
  ]

  written_here : P n more → AreListsWritten P (rules ++ more) next_ends (suc n)
  written_here new = record {
    long = length-set ends n (length (rules ++ more)) ∙ h.long;
    last = end-new;
    placed = placed;
    lists = lists new;
  }

-- one list more
pub written-next : (P : ℕ → List ℕ → Type 0) (rules more later ends : List ℕ) (n m : ℕ) → n < 25 → AreListsWritten P rules ends n → later ≡ rules ++ more → P n more → suc n ≡ m → AreListsWritten P later (set ends n (length later)) m
written-next P rules more later ends n m few h grown new next =
    subst (AreListsWritten P later (set ends n (length later))) next (subst (λ l. AreListsWritten P l (set ends n (length l)) (suc n)) (sym grown) (written_here P rules more ends n few h new))

-- the same lists, of which something else is known
pub written-so : (P Q : ℕ → List ℕ → Type 0) (rules ends : List ℕ) (n : ℕ) → ((i : ℕ) (xs : List ℕ) → i < n → P i xs → Q i xs) → AreListsWritten P rules ends n → AreListsWritten Q rules ends n
written-so P Q rules ends n f h = record { long = h.long; last = h.last; placed = h.placed; lists = λ i low. f i (list_of rules ends i) low (h.lists i low) }

-- no list yet
pub written-none : (P : ℕ → List ℕ → Type 0) (rules ends : List ℕ) → rules ≡ [] → length ends ≡ 25 → AreListsWritten P rules ends 0
written-none P rules ends none long = record {
  long = long;
  last = sym (ap length none);
  placed = λ i low. absurd (omega arith);
  lists = λ i low. absurd (omega arith);
}
