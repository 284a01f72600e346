-- A bar more makes no voice cheaper, and a voice more makes no list cheaper.
use Rattle.std.proofs.Common.{◌≡◌, ℕ, ◌+◌, ◌<◌, ◌≤◌, Bool, true, false, List, [], ◌∷◌, ◌++◌, drop, length, map, refl, ap, ap₂, sym, ◌∙◌, arith}
use Rattle.std.specs.Prelude.{All, Option, Some, None}
use Rattle.std.specs.List.{zip}
use Rattle.std.proofs.lemmas.List.Elements.{All-nil}
use Rattle.least_cost.specs.declared.costs.BarCosts.{BarCosts}
use Rattle.path_laws.proofs.Products.{five_at}
use Rattle.rhythm_base.proofs.OrderedLists.{all_cons, all_head, all_tail}
use Rattle.barline_follow.specs.declared.heads.Heads.{Heads}
use Rattle.barline_follow.specs.Costs.{bar_cost_at, costs_with_bar, head_cost_at, least_of_five, own_cost, sum, total}
use Rattle.barline_follow.proofs.CostLemmas.{least_is, least_low, sum_parts}

-- ---- one voice

abbrev pub with_costs : Heads → BarCosts → Heads
with_costs h b = record { costs = costs_with_bar h.costs b.costs }

entry_rises : (costs : List (Option ℕ)) (bar : List (List (Option ℕ))) (to c : ℕ) → to < 5 → head_cost_at (costs_with_bar costs bar) to ≡ Some c
    → (a : ℕ) × (least_of_five (head_cost_at costs) ≡ Some a) × (a ≤ c)
unfolding least_of_five
entry_rises costs bar to c lt is =
    let entry : ℕ → ℕ → Option ℕ = λ to from. sum (head_cost_at costs from) (bar_cost_at bar from to) in
    let own : least_of_five (entry to) ≡ Some c = sym (five_at (λ to. least_of_five (entry to)) None to lt) ∙ is in
    let one = least_is (entry to) 5 c own in
    let parts = sum_parts (head_cost_at costs one.0) (bar_cost_at bar one.0 to) c one.2 in
    let least = least_low (head_cost_at costs) 5 one.0 parts.0 one.1 parts.2 in
    (least.0, least.1, omega (arith, least.2, parts.4))

own_rises : (is_closed : Bool) (h : Heads) (b : BarCosts) (c : ℕ) → own_cost is_closed (with_costs h b) ≡ Some c
    → (a : ℕ) × (own_cost false h ≡ Some a) × (a ≤ c)
unfolding least_of_five
own_rises true h b c is = entry_rises h.costs b.costs 0 c (omega arith) is
own_rises false h b c is =
    let one = least_is (head_cost_at (costs_with_bar h.costs b.costs)) 5 c is in
    entry_rises h.costs b.costs one.0 c one.1 one.2

-- ---- all voices

abbrev pub longer_heads : List Heads → List BarCosts → List Heads
longer_heads heads bars = map (λ pair. with_costs pair.0 pair.1) (zip heads bars)

none_longer : (heads : List Heads) → longer_heads heads [] ≡ []
none_longer [] = refl
none_longer (h ∷ heads) = refl

all_rise : (is_closed : Bool) (heads : List Heads) (bars : List BarCosts) (c : ℕ) → length heads ≤ length bars
    → total is_closed (longer_heads heads bars) ≡ Some c → (a : ℕ) × (total false heads ≡ Some a) × (a ≤ c)
all_rise is_closed [] bars c few is = (0, refl, omega arith)
all_rise is_closed (h ∷ heads) [] c few is = absurd (omega (arith, few))
all_rise is_closed (h ∷ heads) (b ∷ bars) c few is =
    let parts = sum_parts (own_cost is_closed (with_costs h b)) (total is_closed (longer_heads heads bars)) c is in
    let own = own_rises is_closed h b parts.0 parts.2 in
    let rest = all_rise is_closed heads bars parts.1 (omega (arith, few)) parts.3 in
    (own.0 + rest.0, ap₂ sum own.1 rest.1, omega (arith, own.2, rest.2, parts.4))

-- what the voices cost together is at least what the known ones cost, and the others without the bar
pub known_rise : (is_closed : Bool) (heads : List Heads) (known others : List BarCosts) (c : ℕ) → length heads ≤ length known + length others
    → total is_closed (longer_heads heads (known ++ others)) ≡ Some c
    → (a : ℕ) × (b : ℕ) × (total is_closed (longer_heads heads known) ≡ Some a) × (total false (drop (length known) heads) ≡ Some b) × (a + b ≤ c)
known_rise is_closed heads [] others c few is =
    let rest = all_rise is_closed heads others c (omega (arith, few)) is in
    (0, rest.0, ap (total is_closed) (none_longer heads), rest.1, omega (arith, rest.2))
known_rise is_closed [] (k ∷ known) others c few is = (0, 0, refl, refl, omega arith)
known_rise is_closed (h ∷ heads) (k ∷ known) others c few is =
    let parts = sum_parts (own_cost is_closed (with_costs h k)) (total is_closed (longer_heads heads (known ++ others))) c is in
    let rest = known_rise is_closed heads known others parts.1 (omega (arith, few)) parts.3 in
    (parts.0 + rest.0, rest.1, ap₂ sum parts.2 rest.2, rest.3, omega (arith, rest.4, parts.4))

-- ---- longer heads

pub longer_front : (P : Heads → Type 0) (heads : List Heads) (known others : List BarCosts) → All P (longer_heads heads (known ++ others))
    → All P (longer_heads heads known)
longer_front P [] known others h = All-nil P
longer_front P (x ∷ heads) [] others h = All-nil P
longer_front P (x ∷ heads) (k ∷ known) others h =
    all_cons P (with_costs x k) (longer_heads heads known) (all_head P (with_costs x k) (longer_heads heads (known ++ others)) h)
    (longer_front P heads known others (all_tail P (with_costs x k) (longer_heads heads (known ++ others)) h))

pub longer_few : (heads : List Heads) (bars : List BarCosts) → length (longer_heads heads bars) ≤ length heads
longer_few [] bars = omega arith
longer_few (h ∷ heads) [] = omega arith
longer_few (h ∷ heads) (b ∷ bars) = let rest = longer_few heads bars in omega (arith, rest)

pub longer_costs_are : (heads : List Heads) (bars : List BarCosts)
    → map (λ (h : Heads). h.costs) (longer_heads heads bars) ≡ map (λ pair. costs_with_bar pair.0.costs pair.1.costs) (zip heads bars)
longer_costs_are [] bars = refl
longer_costs_are (h ∷ heads) [] = refl
longer_costs_are (h ∷ heads) (b ∷ bars) = ap (λ l. costs_with_bar h.costs b.costs ∷ l) (longer_costs_are heads bars)

same_heads : (xs ys : List Heads) → map (λ (h : Heads). h.costs) xs ≡ map (λ (h : Heads). h.costs) ys → xs ≡ ys
same_heads [] [] is = refl
same_heads [] (y ∷ ys) is = absurd (cc)
same_heads (x ∷ xs) [] is = absurd (cc)
same_heads (x ∷ xs) (y ∷ ys) is =
    let own : x.costs ≡ y.costs = cc in
    let rest : map (λ (h : Heads). h.costs) xs ≡ map (λ (h : Heads). h.costs) ys = cc in
    (λ i. record { costs = own i } ∷ same_heads xs ys rest i)

pub are_longer : (heads : List Heads) (bars : List BarCosts) (longer : List Heads)
    → map (λ (h : Heads). h.costs) longer ≡ map (λ pair. costs_with_bar pair.0.costs pair.1.costs) (zip heads bars) → longer ≡ longer_heads heads bars
are_longer heads bars longer is = same_heads longer (longer_heads heads bars) (is ∙ sym (longer_costs_are heads bars))
