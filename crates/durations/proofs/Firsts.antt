-- The first value of a length.
use Rattle.std.proofs.Common.{◌≡◌, ℕ, zero, suc, ◌-◌, ◌≤◌, List, [], ◌∷◌, refl, sym, subst, ◌⊎◌, inl, inr, arith}
use Rattle.std.specs.Prelude.{All}
use Rattle.std.proofs.lemmas.List.Elements.{All-cons}
use Rattle.durations.specs.declared.value.Recip.{Recip}
use Rattle.durations.specs.declared.value.Recip.TheVariants.{Of, Breve, Long}
use Rattle.durations.specs.declared.value.Value.{Value}
use Rattle.durations.specs.Value.{IsValueRow, IsSingle}
use Rattle.durations.specs.Values.{AreValues, HasSingle, IsTaken}
use Rattle.durations.proofs.LowestTerms.{lowest_within}
use Rattle.durations.proofs.Powers.{power_some}

-- the two ways in which values begin
abbrev pub Ways : ℕ → ℕ → Value → List Value → Type 0
Ways a b v more = (IsSingle a b v × (more ≡ [])) ⊎ ((HasSingle a b → ⊥) × (v.dots ≡ 0) × (c : ℕ) × IsTaken a b c v.recip × AreValues (a - c) b more)

row_some : (a b : ℕ) (r : Recip) (j : ℕ) → IsValueRow a b r j → 1 ≤ a
row_some a b (Of n) zero h = omega (arith, h.0)
row_some a b (Of n) (suc zero) h = omega (arith, h.0)
row_some a b (Of n) (suc (suc zero)) h = omega (arith, h.0)
row_some a b (Of n) (suc (suc (suc j))) h = absurd h
row_some a b Breve zero h = omega (arith, h.0)
row_some a b Breve (suc zero) h = omega (arith, h.0)
row_some a b Breve (suc (suc j)) h = absurd h
row_some a b Long zero h = omega (arith, h.0)
row_some a b Long (suc j) h = absurd h

-- nothing has no values
pub none_left : (whole : ℕ) (more : List Value) → 1 ≤ whole → AreValues 0 whole more → more ≡ []
none_left whole [] some h = refl
none_left whole (v ∷ more) some (a, b, lowest, rest) = absurd (go (lowest_within 0 whole a b some lowest) rest)
  where
    go : a ≤ 0 → Ways a b v more → ⊥
    go le (inl (single, last)) = let e = row_some a b v.recip v.dots single in omega (arith, e, le)
    go le (inr (none, plain, c, taken, h)) = let e = power_some c taken.power in omega (arith, e, le, taken.within)

row_dots : (a b : ℕ) (r : Recip) (j : ℕ) → IsValueRow a b r j → j ≤ 2
row_dots a b r zero h = omega arith
row_dots a b r (suc zero) h = omega arith
row_dots a b r (suc (suc zero)) h = omega arith
row_dots a b (Of n) (suc (suc (suc j))) h = absurd h
row_dots a b Breve (suc (suc (suc j))) h = absurd h
row_dots a b Long (suc (suc (suc j))) h = absurd h

pub values_dots : (len whole : ℕ) (vs : List Value) → AreValues len whole vs → All (λ v. v.dots ≤ 2) vs
values_dots len whole [] h = λ k d lt. absurd (omega arith)
values_dots len whole (v ∷ more) (a, b, lowest, h) = go h (λ rest. values_dots rest b more)
  where
    go : Ways a b v more → ((rest : ℕ) → AreValues rest b more → All (λ v. v.dots ≤ 2) more) → All (λ v. v.dots ≤ 2) (v ∷ more)
    go (inl (single, last)) next = All-cons (λ v. v.dots ≤ 2) v more (row_dots a b v.recip v.dots single) (subst (All (λ v. v.dots ≤ 2)) (sym last) (λ k d lt. absurd (omega arith)))
    go (inr (none, plain, c, taken, rest)) next = All-cons (λ v. v.dots ≤ 2) v more (omega (arith, plain)) (next (a - c) rest)
