-- What keys cost near borders, added to what the borders cost.
use Rattle.std.proofs.Common.{◌≡◌, ◌⊎◌, ℕ, ◌+◌, ◌-◌, ◌<◌, ◌≤◌, List, length, map, set, take, inl, inr, sym, ap, ◌∙◌, subst, arith}
use Rattle.std.specs.Prelude.{slice_index}
use Rattle.std.proofs.lemmas.Bool.{cases_lt, cases_order}
use Rattle.std.proofs.lemmas.List.{get_or-set_other, get_or-set_same, length-set}
use Rattle.performance_prepare.specs.Groups.{cost, nearness}
use Rattle.performance_prepare.specs.Middle.{numbers_from}
use Rattle.performance_prepare.specs.Parted.{AreRaised, near, place_cost}
use Rattle.performance_prepare.proofs.Cutting.{whole}
use Rattle.performance_prepare.proofs.Grouped.{row_is}

-- the numbers with what is added to those below one
pub record AreAdded (f : ℕ → ℕ) (costs sums : List ℕ) (n : ℕ) : Type 0 where
  pub done : (k : ℕ) → k < n → k < 129 → slice_index sums k ≡ slice_index costs k + f k
  pub ahead : (k : ℕ) → n ≤ k → k < 129 → slice_index sums k ≡ slice_index costs k
  pub long : length sums ≡ 129

pub added_more : (f : ℕ → ℕ) (costs sums : List ℕ) (n v : ℕ) → n < 129 → v ≡ slice_index sums n + f n → AreAdded f costs sums n
    → AreAdded f costs (set sums n v) (n + 1)
added_more f costs sums n v within is h = record {
  done = λ k lt low. (elim (cases_order k n) [
    | inl e ↦ here k e
    | inr other ↦ elim other [
      | inl less ↦ get_or-set_other sums n k v 0 (λ e. omega (arith, less, e)) ∙ h.done k less low
      | inr more ↦ absurd (omega (arith, more, lt))
    ]
  ]);
  ahead = λ k le low. get_or-set_other sums n k v 0 (λ e. omega (arith, le, e)) ∙ h.ahead k (omega (arith, le)) low;
  long = length-set sums n v ∙ h.long;
}
  where
    own : slice_index (set sums n v) n ≡ slice_index costs n + f n
    own = get_or-set_same sums n v 0 (let long = h.long in omega (arith, long, within)) ∙ is
        ∙ ap (λ x. x + f n) (h.ahead n (omega arith) within)

    here : (k : ℕ) → k ≡ n → slice_index (set sums n v) k ≡ slice_index costs k + f k
    here k e = ap (slice_index (set sums n v)) e ∙ own ∙ sym (λ i. slice_index costs (e i) + f (e i))

-- the borders up to another cost as much more
pub added_raised : (f : ℕ → ℕ) (costs sums later : List ℕ) (first end more : ℕ) → first ≤ end → length later ≡ 129
    → ((k : ℕ) → first ≤ k → k < end → more ≡ f k) → AreRaised first end more sums later → AreAdded f costs sums first
    → AreAdded f costs later end
added_raised f costs sums later first end more le long same up h = record {
  done = λ k lt low. (elim (cases_lt k first) [
    | inl less ↦ up.low k less ∙ h.done k less low
    | inr past ↦ (let r = up.raised k past lt low in let a = h.ahead k past low in let m = same k past lt in omega (arith, r, a, m))
  ]);
  ahead = λ k past low. up.high k past low ∙ h.ahead k (omega (arith, le, past)) low;
  long = long;
}

pub raised_more : (first n more v : ℕ) (costs sums : List ℕ) → first ≤ n → n < 129 → length sums ≡ 129 → v ≡ slice_index sums n + more
    → AreRaised first n more costs sums → AreRaised first (n + 1) more costs (set sums n v)
raised_more first n more v costs sums le within long is h = record {
  low = λ k lt. get_or-set_other sums n k v 0 (λ e. omega (arith, lt, le, e)) ∙ h.low k lt;
  raised = λ k past lt low. (elim (cases_order k n) [
    | inl e ↦ subst (λ i. slice_index (set sums n v) i ≡ slice_index costs i + more) (sym e)
        (get_or-set_same sums n v 0 (omega (arith, long, within)) ∙ is ∙ ap (λ x. x + more) (h.high n (omega arith) within))
    | inr other ↦ elim other [
      | inl less ↦ get_or-set_other sums n k v 0 (λ e. omega (arith, less, e)) ∙ h.raised k past less low
      | inr greater ↦ absurd (omega (arith, greater, lt))
    ]
  ]);
  high = λ k past lt. get_or-set_other sums n k v 0 (λ e. omega (arith, past, e)) ∙ h.high k (omega (arith, past)) lt;
}

far_below : (key k : ℕ) → k < key - 4 → near key k ≡ 0
far_below key k lt = omega (arith, lt)

far_above : (key k : ℕ) → key + 6 ≤ k → near key k ≡ 0
far_above key k le = omega (arith, le)

pub added_none : (key : ℕ) (costs : List ℕ) → length costs ≡ 129 → AreAdded (near key) costs costs (key - 4)
added_none key costs long = record {
  done = λ k lt low. (let none = far_below key k lt in omega (arith, none));
  ahead = λ k le low. (let e : slice_index costs k ≡ slice_index costs k = omega arith in e);
  long = long;
}

pub added_all : (key n : ℕ) (costs sums : List ℕ) → (129 ≤ n) ⊎ (key + 6 ≤ n) → AreAdded (near key) costs sums n → (k : ℕ) → k < 129
    → slice_index sums k ≡ slice_index costs k + near key k
added_all key n costs sums (inl past) h k low = h.done k (omega (arith, past, low)) low
added_all key n costs sums (inr past) h k low = elim (cases_order k n) [
  | inl e ↦ (let none = far_above key k (omega (arith, past, e)) in let own = h.ahead k (omega (arith, e)) low in omega (arith, none, own))
  | inr other ↦ elim other [
    | inl less ↦ h.done k less low
    | inr more ↦ (let none = far_above key k (omega (arith, past, more)) in let own = h.ahead k (omega (arith, more)) low in
        omega (arith, none, own))
  ]
]

-- a group's costs, when those near all keys are added
pub costs_whole : (middle : ℕ) (struck held costs : List ℕ) (i : ℕ) → length struck ≤ i → length costs ≡ 129
    → ((k : ℕ) → k < 129 → slice_index costs k ≡ place_cost middle struck held k + nearness k (take i struck))
    → costs ≡ map (cost middle struck held) (numbers_from 0 129)
costs_whole middle struck held costs i past long each =
    row_is (cost middle struck held) costs 129 (omega arith) long (λ k lt.
    let here : slice_index costs k ≡ place_cost middle struck held k + nearness k struck = each k lt
    ∙ ap (λ keys. place_cost middle struck held k + nearness k keys) (whole struck i past) in
    omega (arith, here))
