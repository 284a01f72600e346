-- The least of several costs, and the costs of least keys.
use Rattle.std.proofs.Common.{◌≡◌, ℕ, zero, suc, ◌+◌, ◌<◌, ◌≤◌, ◌⊎◌, inl, inr, Bool, true, false, refl, ap, ap₂, sym, ◌∙◌, arith}
use Rattle.std.specs.Prelude.{Option, Some, None, min, if◌then◌else◌}
use Rattle.std.specs.Cmp.{nat_cmp_is}
use Rattle.std.specs.Ordering.{is_lt, nat_cmp, ordering_then}
use Rattle.std.specs.declared.cmp.Ordering.{Ordering}
use Rattle.std.specs.declared.cmp.Ordering.TheVariants.{Less, Greater}
use Rattle.std.proofs.lemmas.Bool.{cases_lt, false≢true, true≢false}
use Rattle.chain_bars.specs.Tower.{best_cost, cost_of}
use Rattle.rhythm_base.specs.declared.best.Best.{Best}
use Rattle.rhythm_base.specs.Ranked.{Key, Keys, better, is_before, key_of, key_sum, pick, times, value_of}
use Rattle.barline_follow.specs.Costs.{least_below, lower, sum}

-- ---- the order of keys goes by cost first

pub not_less_cost : (a c : ℕ) (o : Ordering) → is_lt (ordering_then (nat_cmp a c) o) ≡ false → c ≤ a
not_less_cost a c o h = elim (cases_lt a c) [
  | inl less ↦ let wrong : true ≡ false = ap (λ r. is_lt (ordering_then r o)) (nat_cmp_is a c Less less) ∙ h in absurd (true≢false wrong)
  | inr ge ↦ ge
]

pub less_cost : (a c : ℕ) (o : Ordering) → is_lt (ordering_then (nat_cmp a c) o) ≡ true → a ≤ c
less_cost a c o h = elim (cases_lt c a) [
  | inl more ↦ let wrong : false ≡ true = ap (λ r. is_lt (ordering_then r o)) (nat_cmp_is a c Greater more) ∙ h in absurd (false≢true wrong)
  | inr le ↦ le
]

-- ---- the least of several

least_step : (o p : Option ℕ) (c : ℕ) → lower o p ≡ Some c → (o ≡ Some c) ⊎ (p ≡ Some c)
least_step None p c h = inr h
least_step (Some a) None c h = inl h
least_step (Some a) (Some b) c h = elim (cases_lt a b) [
  | inl less ↦ let is : min a b ≡ a = omega (arith, less) in inl (ap Some (sym is) ∙ h)
  | inr ge ↦ let is : min a b ≡ b = omega (arith, ge) in inr (ap Some (sym is) ∙ h)
]

-- the least is one of them
pub least_is : (costs : ℕ → Option ℕ) (n c : ℕ) → least_below costs n ≡ Some c → (k : ℕ) × (k < n) × (costs k ≡ Some c)
least_is costs zero c h = absurd (cc)
least_is costs (suc n) c h = elim (least_step (least_below costs n) (costs n) c h) [
  | inl before ↦ let found = least_is costs n c before in (found.0, omega (arith, found.1), found.2)
  | inr here ↦ (n, omega arith, here)
]

lower_left : (o p : Option ℕ) (c : ℕ) → o ≡ Some c → (d : ℕ) × (lower o p ≡ Some d) × (d ≤ c)
lower_left None p c h = absurd (cc)
lower_left (Some a) None c h = (a, refl, let same : a ≡ c = cc in omega (arith, same))
lower_left (Some a) (Some b) c h = (min a b, refl, let same : a ≡ c = cc in omega (arith, same))

lower_right : (o p : Option ℕ) (c : ℕ) → p ≡ Some c → (d : ℕ) × (lower o p ≡ Some d) × (d ≤ c)
lower_right None p c h = (c, h, omega arith)
lower_right (Some a) None c h = absurd (cc)
lower_right (Some a) (Some b) c h = (min a b, refl, let same : b ≡ c = cc in omega (arith, same))

-- and none of them is lower
pub least_low : (costs : ℕ → Option ℕ) (n k c : ℕ) → k < n → costs k ≡ Some c → (d : ℕ) × (least_below costs n ≡ Some d) × (d ≤ c)
least_low costs zero k c lt h = absurd (omega (arith, lt))
least_low costs (suc n) k c lt h = elim (cases_lt k n) [
  | inl before ↦
      let rest = least_low costs n k c before h in
      let more = lower_left (least_below costs n) (costs n) rest.0 rest.1 in
      (more.0, more.1, omega (arith, more.2, rest.2))
  | inr past ↦
      let same : k ≡ n = omega (arith, lt, past) in
      lower_right (least_below costs n) (costs n) c (sym (ap costs same) ∙ h)
]

pub least_same : (f g : ℕ → Option ℕ) (n : ℕ) → ((k : ℕ) → k < n → f k ≡ g k) → least_below f n ≡ least_below g n
least_same f g zero h = refl
least_same f g (suc n) h = ap₂ lower (least_same f g n (λ k lt. h k (omega (arith, lt)))) (h n (omega arith))

-- ---- sums

pub sum_parts : (a b : Option ℕ) (c : ℕ) → sum a b ≡ Some c → (x : ℕ) × (y : ℕ) × (a ≡ Some x) × (b ≡ Some y) × (c ≡ x + y)
sum_parts None b c h = absurd (cc)
sum_parts (Some x) None c h = absurd (cc)
sum_parts (Some x) (Some y) c h = (x, y, refl, refl, let same : x + y ≡ c = cc in sym same)

-- ---- the costs of least keys

pub cost_key : (o : Option Key) (c : ℕ) → cost_of o ≡ Some c → (k : Key) × (o ≡ Some k) × (c ≡ k.0)
cost_key None c h = absurd (cc)
cost_key (Some k) c h = (k, refl, let same : k.0 ≡ c = cc in sym same)

sum_cost : (a b : Option Key) → cost_of (key_sum a b) ≡ sum (cost_of a) (cost_of b)
sum_cost None b = refl
sum_cost (Some x) None = refl
sum_cost (Some x) (Some y) = refl

pub one_cost : (o : Option Best) → cost_of (key_of o) ≡ best_cost o
one_cost None = refl
one_cost (Some e) = refl

module _ (costs : ℕ → Option Key) where
  better_cost : (n : ℕ) (o : Option (ℕ × Key)) (p : Option Key) → cost_of (value_of (better is_before o n p)) ≡ lower (cost_of (value_of o)) (cost_of p)
  better_cost n None None = refl
  better_cost n (Some y) None = refl
  better_cost n None (Some x) = refl
  better_cost n (Some y) (Some x) = by (is_before x y.1) refl
    where
      by : (b : Bool) → is_before x y.1 ≡ b → cost_of (value_of (if b then Some (n, x) else Some y)) ≡ Some (min y.1.0 x.0)
      by true h = let low = less_cost x.0 y.1.0 _ h in let is : x.0 ≡ min y.1.0 x.0 = omega (arith, low) in ap Some is
      by false h = let low = not_less_cost x.0 y.1.0 _ h in let is : y.1.0 ≡ min y.1.0 x.0 = omega (arith, low) in ap Some is

  pick_cost : (n : ℕ) → cost_of (value_of (pick is_before costs n)) ≡ least_below (λ k. cost_of (costs k)) n
  pick_cost zero = refl
  pick_cost (suc n) = better_cost n (pick is_before costs n) (costs n) ∙ ap (λ o. lower o (cost_of (costs n))) (pick_cost n)

-- the least cost over the count in the middle
pub times_cost : (k l : Keys) (a b : ℕ) → cost_of (times k l a b) ≡ least_below (λ m. sum (cost_of (k a m)) (cost_of (l m b))) 5
times_cost k l a b =
    pick_cost (λ m. key_sum (k a m) (l m b)) 5
    ∙ least_same (λ m. cost_of (key_sum (k a m) (l m b))) (λ m. sum (cost_of (k a m)) (cost_of (l m b))) 5 (λ m lt. sum_cost (k a m) (l m b))
