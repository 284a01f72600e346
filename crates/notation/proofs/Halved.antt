-- Tokens that are joined where a test holds at their end.
use Rattle.std.proofs.Common.{◌≡◌, ℕ, zero, suc, ◌%◌, ◌/◌, ◌<◌, ◌≤◌, Bool, true, List, [], ◌∷◌, length, get_or, take, sym, ap, ◌∙◌, ◌⊎◌, inl, inr, arith}
use Rattle.std.specs.Prelude.{◌==◌, ◌&&◌, All}
use Rattle.std.specs.Int.{is_power_of_two}
use Rattle.std.proofs.Math.Nat.{mod-eq_of_lt}
use Rattle.std.proofs.lemmas.Bool.{cases_lt}
use Rattle.std.proofs.lemmas.Bool.Decides.{nat_tests}
use Rattle.std.proofs.lemmas.List.{get_or-map, get_or-take, length-map, length-take}
use Rattle.std.proofs.lemmas.List.Elements.{All-cons, All-nil}
use Rattle.notation.specs.Places.{is_halved}
use Rattle.notation.specs.Rests.{joined, joined_from, last_number}
use Rattle.notation.specs.Tokens.{Token, ends}
use Rattle.notation.proofs.LastNumbers.{last_holds}

divides : (rest : ℕ) (b : Bool) → ((rest == 0) && b) ≡ true → rest ≡ 0
divides rest b h = grind (arith, nat_tests, h)

-- a half, a quarter, an eighth .. is no longer than a whole note
pub halved_le : (whole len : ℕ) → 1 ≤ whole → is_halved whole len ≡ true → len ≤ whole
halved_le whole len some h = go (cases_lt whole len)
  where
    go : (whole < len) ⊎ (len ≤ whole) → len ≤ whole
    go (inl lt) = let e = divides (whole % len) (is_power_of_two (whole / len)) h in let f = mod-eq_of_lt lt in absurd (omega (arith, e, f, some))
    go (inr le) = le

-- the last of the tokens that are joined, where the test holds at its end
pub taken_at : (may : ℕ → Bool) (n j : ℕ) (t : Token) (more : List Token) → last_number may (ends (take n more)) ≡ suc j
    → (j < length more) × (may (get_or more j t).end ≡ true)
taken_at may n j t more h =
    let last = last_holds may (ends (take n more)) j h in
    let count = length-map (take n more) (λ (u : Token). u.end) in
    let few = length-take n more in
    let within : j < length (take n more) = omega (arith, last.0, count) in
    let lt : j < n = omega (arith, within, few) in
    let at : get_or (ends (take n more)) j 0 ≡ (get_or more j t).end = get_or-map (λ (u : Token). u.end) (take n more) j t 0 within ∙ ap
    (λ (u : Token). u.end) (get_or-take n more j t lt) in
    (omega (arith, within, few), sym (ap may at) ∙ last.1)

-- what holds of each token with those that are joined to it
pub joined_all :
    (P : Token → Type 0) (Q : List Token → Type 0) (count : Token → List Token → ℕ) (taken : ℕ) (ts : List Token)
    → ((t : Token) (more : List Token) → Q (t ∷ more) → P (joined (count t more) t more))
    → ((t : Token) (more : List Token) → Q (t ∷ more) → Q more) → Q ts → All P (joined_from count taken ts)
joined_all P Q count zero [] own next q = All-nil P
joined_all P Q count (suc k) [] own next q = All-nil P
joined_all P Q count zero (t ∷ more) own next q =
    All-cons P (joined (count t more) t more) (joined_from count (count t more) more) (own t more q)
    (joined_all P Q count (count t more) more own next (next t more q))
joined_all P Q count (suc k) (t ∷ more) own next q = joined_all P Q count k more own next (next t more q)
