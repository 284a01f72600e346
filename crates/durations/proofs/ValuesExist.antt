-- Each length has values, and so the leaves of each bar have written values.
use Rattle.std.proofs.Common.{◌≡◌, ℕ, zero, suc, ◌+◌, ◌-◌, ◌*◌, ◌/◌, ◌%◌, ◌^◌, ◌≤◌, ◌<◌, ◌≢◌, Bool, true, false, ◌&&◌, ◌==◌, cond, List, [], ◌∷◌, ◌++◌, refl, subst, ◌⊎◌, inl, inr, arith}
use Rattle.std.specs.Int.{IsGcd, IsPowerOfTwo}
use Rattle.std.proofs.Math.Nat.{div-mul_cancel, mul-div_cancel', pow-suc}
use Rattle.std.proofs.lemmas.Bool.{cases_eq, cases_lt}
use Rattle.std.proofs.lemmas.Bool.Decides.{nat_tests}
use Rattle.std.proofs.lemmas.Nat.Gcd.{IsGcd-from_mod, IsGcd-from_zero, dvd_of_mod-eq-zero}
use Rattle.durations.specs.declared.value.Recip.{Recip}
use Rattle.durations.specs.declared.value.Recip.TheVariants.{Of, Breve, Long}
use Rattle.durations.specs.declared.value.Value.{Value}
use Rattle.durations.specs.declared.joined.Timed.{Timed}
use Rattle.durations.specs.declared.joined.Written.{Written}
use Rattle.durations.specs.Joined.{AreValuesOf, AreWritten, AreWrittenFrom, begins_or_ties, dots, dots_after, may_join, value_places}
use Rattle.durations.specs.Value.{IsValueRow, IsSingle}
use Rattle.durations.specs.Values.{AreValues, HasSingle, IsLowest, IsPlain, IsTaken}
use Rattle.durations.proofs.LowestTerms.{divided, lowest_parts, lowest_some, lowest_within}
use Rattle.durations.proofs.Plain.{next_largest, not_plain}
use Rattle.durations.proofs.Powers.{power_largest, power_some}

-- ---- lowest terms

gcd_within : (n a b : ℕ) → b ≤ n → (g : ℕ) × IsGcd a b g
gcd_within zero a b le = (a, IsGcd-from_zero a b (omega arith))
gcd_within (suc n) a b le = go (cases_eq b 0) (gcd_within n b (a % b))
  where
    go : (b ≡ 0) ⊎ (b ≢ 0) → (a % b ≤ n → (g : ℕ) × IsGcd b (a % b) g) → (g : ℕ) × IsGcd a b g
    go (inl e) next = (a, IsGcd-from_zero a b e)
    go (inr ne) next = let some : 0 < b = omega (arith, ne) in let h = next (omega (arith, some, le)) in (h.0, IsGcd-from_mod a b h.0 h.1)

pub lowest_exist : (len whole : ℕ) → 1 ≤ whole → (a : ℕ) × (b : ℕ) × IsLowest len whole a b
lowest_exist len whole some = let h = gcd_within whole len whole (omega arith) in (len / h.0, whole / h.0, divided len whole h.0 some h.1)

-- ---- a length is one value or not

-- where it is none of the lengths of the table
no_single : (a b : ℕ) → a ≢ 1 → ((n : ℕ) → a ≡ 3 → b ≡ 2 * n → ⊥) → ((n : ℕ) → a ≡ 7 → b ≡ 4 * n → ⊥) → (a ≡ 2 → b ≢ 1) → (a ≡ 3 → b ≢ 1) → (a ≡ 4 → b ≢ 1) → HasSingle a b → ⊥
no_single a b one three seven breve dotted long (v, h) = go v.recip v.dots h
  where
    go : (r : Recip) (j : ℕ) → IsValueRow a b r j → ⊥
    go (Of n) zero k = one k.0
    go (Of n) (suc zero) k = three n k.0 k.1
    go (Of n) (suc (suc zero)) k = seven n k.0 k.1
    go (Of n) (suc (suc (suc j))) k = k
    go Breve zero k = breve k.0 k.1
    go Breve (suc zero) k = dotted k.0 k.1
    go Breve (suc (suc j)) k = k
    go Long zero k = long k.0 k.1
    go Long (suc j) k = k

abbrev OneOrNone : ℕ → ℕ → Type 0
OneOrNone a b = ((v : Value) × IsSingle a b v) ⊎ (HasSingle a b → ⊥)

value_of : Recip → ℕ → Value
value_of r j = record { recip = r; dots = j }

-- a length of so many whole notes
of_wholes : (a b : ℕ) → a ≢ 1 → b ≡ 1 → OneOrNone a b
of_wholes a b one e = two (cases_eq a 2)
  where
    four : a ≢ 2 → a ≢ 3 → (a ≡ 4) ⊎ (a ≢ 4) → OneOrNone a b
    four n2 n3 (inl f) = inl (record { recip = Long; dots = 0 }, (f, e))
    four n2 n3 (inr n4) = inr (no_single a b one (λ n f g. omega (arith, e, g)) (λ n f g. omega (arith, e, g)) (λ f. absurd (n2 f)) (λ f. absurd (n3 f)) (λ f. absurd (n4 f)))

    three : a ≢ 2 → (a ≡ 3) ⊎ (a ≢ 3) → OneOrNone a b
    three n2 (inl f) = inl (record { recip = Breve; dots = 1 }, (f, e))
    three n2 (inr n3) = four n2 n3 (cases_eq a 4)

    two : (a ≡ 2) ⊎ (a ≢ 2) → OneOrNone a b
    two (inl f) = inl (record { recip = Breve; dots = 0 }, (f, e))
    two (inr n2) = three n2 (cases_eq a 3)

of_parts : (a b : ℕ) → a ≢ 1 → b ≢ 1 → OneOrNone a b
of_parts a b one many = three (cases_eq a 3) (cases_eq (b % 2) 0)
  where
    seven : a ≢ 3 → (a ≡ 7) ⊎ (a ≢ 7) → (b % 4 ≡ 0) ⊎ (b % 4 ≢ 0) → OneOrNone a b
    seven n3 (inl f) (inl g) = inl (record { recip = Of (b / 4); dots = 2 }, (f, omega (arith, g)))
    seven n3 (inl f) (inr g) = inr (no_single a b one (λ n h k. absurd (n3 h)) (λ n h k. g (omega (arith, k))) (λ h. many) (λ h. many) (λ h. many))
    seven n3 (inr n7) g = inr (no_single a b one (λ n h k. absurd (n3 h)) (λ n h k. absurd (n7 h)) (λ h. many) (λ h. many) (λ h. many))

    three : (a ≡ 3) ⊎ (a ≢ 3) → (b % 2 ≡ 0) ⊎ (b % 2 ≢ 0) → OneOrNone a b
    three (inl f) (inl g) = inl (record { recip = Of (b / 2); dots = 1 }, (f, omega (arith, g)))
    three (inl f) (inr g) = inr (no_single a b one (λ n h k. g (omega (arith, k))) (λ n h k. omega (arith, f, h)) (λ h. many) (λ h. many) (λ h. many))
    three (inr n3) g = seven n3 (cases_eq a 7) (cases_eq (b % 4) 0)

one_or_none : (a b : ℕ) → OneOrNone a b
one_or_none a b = go (cases_eq a 1) (cases_eq b 1)
  where
    go : (a ≡ 1) ⊎ (a ≢ 1) → (b ≡ 1) ⊎ (b ≢ 1) → OneOrNone a b
    go (inl e) f = inl (record { recip = Of b; dots = 0 }, (e, refl))
    go (inr ne) (inl f) = of_wholes a b ne f
    go (inr ne) (inr nf) = of_parts a b ne nf

-- ---- what is taken off

plain_or_none : (c b : ℕ) → ((r : Recip) × IsPlain c b r) ⊎ ((r : Recip) → IsPlain c b r → ⊥)
plain_or_none c b = go (cases_eq (b % c) 0) (cases_eq c (2 * b)) (cases_eq c (4 * b))
  where
    go : (b % c ≡ 0) ⊎ (b % c ≢ 0) → (c ≡ 2 * b) ⊎ (c ≢ 2 * b) → (c ≡ 4 * b) ⊎ (c ≢ 4 * b) → ((r : Recip) × IsPlain c b r) ⊎ ((r : Recip) → IsPlain c b r → ⊥)
    go (inl e) two four = inl (Of (b / c), mul-div_cancel' c (dvd_of_mod-eq-zero c e))
    go (inr part) (inl e) four = inl (Breve, e)
    go (inr part) (inr two) (inl e) = inl (Long, e)
    go (inr part) (inr two) (inr four) = inr (not_plain c b part two four)

-- the power of two that a number is from on, and less than two times of
power_of : (a : ℕ) → 1 ≤ a → (k : ℕ) × (2 ^ k ≤ a) × (a < 2 * 2 ^ k)
power_of zero some = absurd (omega (arith, some))
power_of (suc zero) some = let e : 2 ^ 0 ≡ 1 = refl in (0, omega (arith, e), omega (arith, e))
power_of (suc (suc a)) some = go (power_of (suc a) (omega arith))
  where
    go : (k : ℕ) × (2 ^ k ≤ suc a) × (suc a < 2 * 2 ^ k) → (k : ℕ) × (2 ^ k ≤ suc (suc a)) × (suc (suc a) < 2 * 2 ^ k)
    go (k, le, lt) = two (cases_lt (suc (suc a)) (2 * 2 ^ k))
      where
        two : (suc (suc a) < 2 * 2 ^ k) ⊎ (2 * 2 ^ k ≤ suc (suc a)) → (k : ℕ) × (2 ^ k ≤ suc (suc a)) × (suc (suc a) < 2 * 2 ^ k)
        two (inl more) = (k, omega (arith, le), more)
        two (inr end) = let e : 2 ^ suc k ≡ 2 ^ k * 2 = pow-suc 2 k in (suc k, omega (arith, e, end), omega (arith, e, lt, le))

-- no value without dots of at most a parts is of a power of two of parts above c
abbrev IsLargest : ℕ → ℕ → ℕ → Type 0
IsLargest a b c = (d : ℕ) (other : Recip) → IsPowerOfTwo d → d ≤ a → IsPlain d b other → d ≤ c

taken_from : (k a b : ℕ) → 2 ^ k ≤ a → IsLargest a b (2 ^ k) → (c : ℕ) × (r : Recip) × IsTaken a b c r
taken_from zero a b le largest = let whole : 1 * b ≡ b = omega arith in (2 ^ 0, Of b, record { power = (0, refl); within = le; plain = whole; largest = largest })
taken_from (suc k) a b le largest = go (plain_or_none (2 ^ suc k) b) (taken_from k a b (omega (arith, double, le)))
  where
    double : 2 ^ suc k ≡ 2 ^ k * 2
    double = pow-suc 2 k

    half : 2 ^ suc k / 2 ≡ 2 ^ k
    half = omega (arith, double)

    go : ((r : Recip) × IsPlain (2 ^ suc k) b r) ⊎ ((r : Recip) → IsPlain (2 ^ suc k) b r → ⊥) → (IsLargest a b (2 ^ k) → (c : ℕ) × (r : Recip) × IsTaken a b c r) → (c : ℕ) × (r : Recip) × IsTaken a b c r
    go (inl (r, plain)) next = (2 ^ suc k, r, record { power = (suc k, refl); within = le; plain = plain; largest = largest })
    go (inr none) next = next (λ d other power few plain. subst (λ x. d ≤ x) half (next_largest (2 ^ suc k) b d other (suc k, refl) none power plain (largest d other power few plain)))

taken_exist : (a b : ℕ) → 1 ≤ a → (c : ℕ) × (r : Recip) × IsTaken a b c r
taken_exist a b some = let h = power_of a some in taken_from h.0 a b h.1 (λ d other power few plain. power_largest a h.0 d h.2 power few)

-- ---- values

values_within : (n len whole : ℕ) → len ≤ n → 1 ≤ whole → (vs : List Value) × AreValues len whole vs
values_within zero len whole few some = let none : len ≡ 0 = omega (arith, few) in ([], none)
values_within (suc n) len whole few some = go (cases_eq len 0) (values_within n)
  where
    rest : 1 ≤ len → (a b : ℕ) → IsLowest len whole a b → OneOrNone a b → ((x y : ℕ) → x ≤ n → 1 ≤ y → (vs : List Value) × AreValues x y vs) → (vs : List Value) × AreValues len whole vs
    rest long a b low (inl (v, single)) next = (v ∷ [], (a, b, low, inl (single, refl)))
    rest long a b low (inr none) next =
        let taken = taken_exist a b (lowest_parts len whole a b long low) in
        let off = power_some taken.0 taken.2.power in
        let less = lowest_within len whole a b some low in
        let more = next (a - taken.0) b (omega (arith, off, less, few, taken.2.within)) (lowest_some len whole a b some low) in
        (record { recip = taken.1; dots = 0 } ∷ more.0, (a, b, low, inr (none, refl, taken.0, taken.2, more.1)))

    go : (len ≡ 0) ⊎ (len ≢ 0) → ((x y : ℕ) → x ≤ n → 1 ≤ y → (vs : List Value) × AreValues x y vs) → (vs : List Value) × AreValues len whole vs
    go (inl none) next = ([], none)
    go (inr ne) next = let low = lowest_exist len whole some in rest (omega (arith, ne)) low.0 low.1 low.2 (one_or_none low.0 low.1) next

pub values_exist : (len whole : ℕ) → 1 ≤ whole → (vs : List Value) × AreValues len whole vs
values_exist len whole some = values_within len len whole (omega arith) some

-- ---- the leaves of a bar

divides : (whole : ℕ) (leaf : Timed) → may_join whole leaf ≡ true → whole % leaf.len ≡ 0
divides whole leaf h = part (begins_or_ties leaf.kind) (whole % leaf.len) h
  where
    part : (b : Bool) (x : ℕ) → (b && (x == 0)) ≡ true → x ≡ 0
    part b x e = grind (arith, nat_tests, e)

leaf_exist : (whole : ℕ) (leaf : Timed) (more : List Timed) → 1 ≤ whole → (vs : List Value) × AreValuesOf whole leaf (dots whole leaf more) vs
leaf_exist whole leaf more some = go (may_join whole leaf) refl
  where
    two : whole % leaf.len ≡ 0 → (j : ℕ) → (vs : List Value) × AreValuesOf whole leaf j vs
    two part zero = values_exist leaf.len whole some
    two part (suc j) = (record { recip = Of (whole / leaf.len); dots = suc j } ∷ [], (whole / leaf.len, div-mul_cancel leaf.len (dvd_of_mod-eq-zero leaf.len part), refl))

    go : (b : Bool) → may_join whole leaf ≡ b → (vs : List Value) × AreValuesOf whole leaf (cond b (dots_after leaf.len more) 0) vs
    go false e = values_exist leaf.len whole some
    go true e = two (divides whole leaf e) (dots_after leaf.len more)

written_from : (whole joined i place : ℕ) (leaves : List Timed) → 1 ≤ whole → (ws : List Written) × AreWrittenFrom whole joined i place leaves ws
written_from whole zero i place [] some = ([], refl)
written_from whole (suc joined) i place [] some = ([], refl)
written_from whole zero i place (leaf ∷ more) some =
    let vs = leaf_exist whole leaf more some in
    let rest = written_from whole (dots whole leaf more) (i + 1) (place + leaf.len) more some in
    (value_places whole i place vs.0 ++ rest.0, (vs.0, rest.0, vs.1, refl, rest.1))
written_from whole (suc joined) i place (leaf ∷ more) some = written_from whole joined (i + 1) (place + leaf.len) more some

pub written_exist : (whole : ℕ) (leaves : List Timed) → 1 ≤ whole → (ws : List Written) × AreWritten whole leaves ws
written_exist whole leaves some = written_from whole 0 0 0 leaves some
