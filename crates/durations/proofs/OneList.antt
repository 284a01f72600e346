-- A length has one list of values.
use Rattle.std.proofs.Common.{◌≡◌, ℕ, zero, suc, ◌-◌, ◌/◌, ◌≤◌, false, cond, nat_eq, List, [], ◌∷◌, sym, ap, ◌∙◌, subst, inl, inr, arith}
use Rattle.std.proofs.lemmas.Bool.Decides.{nat_tests}
use Rattle.durations.specs.declared.value.Recip.{Recip}
use Rattle.durations.specs.declared.value.Recip.TheVariants.{Of, Breve, Long}
use Rattle.durations.specs.declared.value.Value.{Value}
use Rattle.durations.specs.Value.{IsValueRow, IsSingle}
use Rattle.durations.specs.Values.{AreValues, IsPlain, IsTaken}
use Rattle.durations.proofs.Firsts.{Ways, none_left}
use Rattle.durations.proofs.LowestTerms.{lowest_one, lowest_some}
use Rattle.durations.proofs.Plain.{plain_one}
use Rattle.durations.proofs.Powers.{power_some}

-- the single value of a/b, where it has one
abbrev recip_of : ℕ → ℕ → Recip
recip_of zero b = Of b
recip_of (suc zero) b = Of b
recip_of (suc (suc zero)) b = Breve
recip_of (suc (suc (suc zero))) b = cond (nat_eq b 1) Breve (Of (b / 2))
recip_of (suc (suc (suc (suc zero)))) b = Long
recip_of (suc (suc (suc (suc (suc a))))) b = Of (b / 4)

abbrev dots_of : ℕ → ℕ
dots_of zero = 0
dots_of (suc zero) = 0
dots_of (suc (suc zero)) = 0
dots_of (suc (suc (suc zero))) = 1
dots_of (suc (suc (suc (suc zero)))) = 0
dots_of (suc (suc (suc (suc (suc a))))) = 2

row_is : (a b : ℕ) (r : Recip) (j : ℕ) → IsValueRow a b r j → (recip_of a b ≡ r) × (dots_of a ≡ j)
row_is a b (Of n) zero h = (ap (λ x. recip_of x b) h.0 ∙ ap Of h.1, ap dots_of h.0)
row_is a b (Of n) (suc zero) h =
    let even : nat_eq b 1 ≡ false = grind (arith, nat_tests, h.1) in
    (ap (λ x. recip_of x b) h.0 ∙ ap (λ t. cond t Breve (Of (b / 2))) even ∙ ap Of (omega (arith, h.1)), ap dots_of h.0)
row_is a b (Of n) (suc (suc zero)) h = (ap (λ x. recip_of x b) h.0 ∙ ap Of (omega (arith, h.1)), ap dots_of h.0)
row_is a b (Of n) (suc (suc (suc j))) h = absurd h
row_is a b Breve zero h = (ap (λ x. recip_of x b) h.0, ap dots_of h.0)
row_is a b Breve (suc zero) h = (ap (λ x. recip_of x b) h.0 ∙ ap (λ x. cond (nat_eq x 1) Breve (Of (x / 2))) h.1, ap dots_of h.0)
row_is a b Breve (suc (suc j)) h = absurd h
row_is a b Long zero h = (ap (λ x. recip_of x b) h.0, ap dots_of h.0)
row_is a b Long (suc j) h = absurd h

pub value_at : (v w : Value) → v.recip ≡ w.recip → v.dots ≡ w.dots → v ≡ w
value_at v w e f = λ i. record { recip = e i; dots = f i }

single_one : (a b : ℕ) (v w : Value) → IsSingle a b v → IsSingle a b w → v ≡ w
single_one a b v w h k =
    let one = row_is a b v.recip v.dots h in
    let two = row_is a b w.recip w.dots k in
    value_at v w (sym one.0 ∙ two.0) (sym one.1 ∙ two.1)

taken_one : (a b c d : ℕ) (r s : Recip) → IsTaken a b c r → IsTaken a b d s → c ≡ d
taken_one a b c d r s h k =
    let up = k.largest c r h.power h.within h.plain in
    let down = h.largest d s k.power k.within k.plain in
    omega (arith, up, down)

lists_at : (v w : Value) (vs ws : List Value) → v ≡ w → vs ≡ ws → v ∷ vs ≡ w ∷ ws
lists_at v w vs ws e f = λ i. e i ∷ f i

pub values_one : (len whole : ℕ) (vs ws : List Value) → 1 ≤ whole → AreValues len whole vs → AreValues len whole ws → vs ≡ ws
values_one len whole [] ws some h k = sym (none_left whole ws some (subst (λ x. AreValues x whole ws) h k))
values_one len whole (v ∷ vs) [] some h k = none_left whole (v ∷ vs) some (subst (λ x. AreValues x whole (v ∷ vs)) k h)
values_one len whole (v ∷ vs) (w ∷ ws) some (a, b, low, h) (c, d, other, k) =
    let same = lowest_one len whole a b c d some low other in
    let there : Ways a b w ws = subst (λ x. Ways x b w ws) (sym same.0) (subst (λ x. Ways c x w ws) (sym same.1) k) in
    go (lowest_some len whole a b some low) h there (λ rest. values_one rest b vs ws)
  where
    go : 1 ≤ b → Ways a b v vs → Ways a b w ws → ((rest : ℕ) → 1 ≤ b → AreValues rest b vs → AreValues rest b ws → vs ≡ ws) → v ∷ vs ≡ w ∷ ws
    go positive (inl (single, last)) (inl (too, end)) next = lists_at v w vs ws (single_one a b v w single too) (last ∙ sym end)
    go positive (inl (single, last)) (inr h) next = absurd (h.0 (v, single))
    go positive (inr h) (inl (single, last)) next = absurd (h.0 (w, single))
    go positive (inr (none, plain, off, taken, rest)) (inr (nor, flat, off', taken', rest')) next =
        let same = taken_one a b off off' v.recip w.recip taken taken' in
        let recip = plain_one off b v.recip w.recip (power_some off taken.power) positive taken.plain (subst (λ x. IsPlain x b w.recip) (sym same) taken'.plain) in
        let more = next (a - off) positive rest (subst (λ x. AreValues (a - x) b ws) (sym same) rest') in
        lists_at v w vs ws (value_at v w recip (plain ∙ sym flat)) more
