-- The notes of groups are written by halves, quarters, eighths .. with dots.
use Rattle.rhythm_base.specs.declared.limits.TheConstants.{MOST_UNITS}
use Rattle.std.proofs.Common.{◌≡◌, ℕ, zero, suc, ◌+◌, ◌-◌, ◌*◌, ◌/◌, ◌%◌, ◌^◌, ◌<◌, ◌≤◌, Bool, true, false, List, [], ◌∷◌, refl, sym, ap, ap₂, ◌∙◌, subst, ◌⊎◌, inl, inr, arith}
use Rattle.std.specs.Prelude.{All}
use Rattle.std.specs.Int.{◌∣◌, IsPowerOfTwo}
use Rattle.std.proofs.Math.Nat.{div-mul_cancel, dvd-mul_right, eq_of_mul-eq-mul_right, le-mul_of_pos_right, mul-le-mul_left, pow-suc}
use Rattle.std.proofs.Math.Pow.{pow_mono}
use Rattle.std.proofs.lemmas.Bool.{cases_lt}
use Rattle.std.proofs.lemmas.Nat.{pow-add}
use Rattle.std.proofs.lemmas.Nat.Gcd.{dvd_refl, dvd_trans, le_of_dvd}
use Rattle.std.proofs.lemmas.List.Elements.{All-append, All-cons, All-head, All-nil, All-tail}
use Rattle.rhythm_base.specs.declared.sound.Sound.{Sound}
use Rattle.rhythm_base.specs.Lists.{Each}
use Rattle.durations.specs.declared.value.Recip.{Recip}
use Rattle.durations.specs.declared.value.Recip.TheVariants.{Of, Breve, Long}
use Rattle.durations.specs.declared.value.Value.{Value}
use Rattle.durations.specs.Laws.{CountsIn}
use Rattle.durations.specs.Value.{parts, plain_grid, value_grid}
use Rattle.durations.specs.Values.{AreValues}
use Rattle.durations.proofs.Firsts.{values_dots}
use Rattle.durations.proofs.Grids.{values_grid}
use Rattle.durations.proofs.Powers.{power_some}
use Rattle.derivation.specs.declared.score.ScoreBar.{ScoreBar}
use Rattle.notation.specs.Bars.{AreVoiceGroups}
use Rattle.notation.specs.Notes.{AreNotes, Group, IsGroup, Note, is_empty, joined_ties, note, spelled_whole, token_notes}
use Rattle.notation.specs.Places.{IsOddPart, whole_of}
use Rattle.notation.specs.Tokens.{Token}
use Rattle.notation.proofs.NoteRatios.{notes_in_ratio}
use Rattle.notation.proofs.Spelled.{odd_some, odd_whole}
use Rattle.notation_laws.specs.Written.{IsHalvedPart, IsWrittenValue}

-- ---- what divides a power of two is one

double : (m : ℕ) → 2 ^ suc m ≡ 2 * 2 ^ m
double m = let e : 2 ^ suc m ≡ 2 ^ m * 2 = pow-suc 2 m in omega (arith, e)

one_factor : (d q : ℕ) → d * q ≡ 1 → d ≡ 1
one_factor d zero e = let none : d * zero ≡ 0 = omega arith in absurd (omega (arith, e, none))
one_factor zero (suc q) e = let none : zero * suc q ≡ 0 = omega arith in absurd (omega (arith, e, none))
one_factor (suc d) (suc q) e = let le : suc d ≤ suc d * suc q = le-mul_of_pos_right (suc d) (omega arith) in omega (arith, le, e)

-- a number is twice its half, or one more
by_halves : (n : ℕ) → (n ≡ 2 * (n / 2)) ⊎ (n ≡ 2 * (n / 2) + 1)
by_halves n = go (n % 2) refl
  where
    go : (k : ℕ) → n % 2 ≡ k → (n ≡ 2 * (n / 2)) ⊎ (n ≡ 2 * (n / 2) + 1)
    go zero e = inl (omega (arith, e))
    go (suc zero) e = inr (omega (arith, e))
    go (suc (suc k)) e = absurd (omega (arith, e))

factor_power : (m d q : ℕ) → d * q ≡ 2 ^ m → (i : ℕ) × (i ≤ m) × (d ≡ 2 ^ i)
factor_power zero d q e = (zero, omega arith, one_factor d q e)
factor_power (suc m) d q e = go (by_halves d) (by_halves q) (factor_power m (d / 2) q) (factor_power m d (q / 2))
  where
    whole : d * q ≡ 2 * 2 ^ m
    whole = e ∙ double m

    go : (d ≡ 2 * (d / 2)) ⊎ (d ≡ 2 * (d / 2) + 1) → (q ≡ 2 * (q / 2)) ⊎ (q ≡ 2 * (q / 2) + 1)
        → (d / 2 * q ≡ 2 ^ m → (i : ℕ) × (i ≤ m) × (d / 2 ≡ 2 ^ i)) → (d * (q / 2) ≡ 2 ^ m → (i : ℕ) × (i ≤ m) × (d ≡ 2 ^ i))
        → (i : ℕ) × (i ≤ suc m) × (d ≡ 2 ^ i)
    go (inl even) halves first second =
        let half : d * q ≡ 2 * (d / 2 * q) = ap (λ x. x * q) even ∙ turned (d / 2) q in
        let (i, few, is) = first (omega (arith, half, whole)) in
        (suc i, omega (arith, few), even ∙ ap (λ x. 2 * x) is ∙ sym (double i))
      where
        turned : (a b : ℕ) → 2 * a * b ≡ 2 * (a * b)
        turned a b = grind arith
    go (inr odd) (inl even) first second =
        let half : d * q ≡ 2 * (d * (q / 2)) = ap (λ x. d * x) even ∙ turned d (q / 2) in
        let (i, few, is) = second (omega (arith, half, whole)) in
        (i, omega (arith, few), is)
      where
        turned : (a b : ℕ) → a * (2 * b) ≡ 2 * (a * b)
        turned a b = grind arith
    go (inr odd) (inr other) first second =
        let product : d * q ≡ 2 * (2 * (d / 2 * (q / 2)) + d / 2 + q / 2) + 1 = (λ i. odd i * other i) ∙ turned (d / 2) (q / 2) in
        absurd (omega (arith, product, whole))
      where
        turned : (a b : ℕ) → (2 * a + 1) * (2 * b + 1) ≡ 2 * (2 * (a * b) + a + b) + 1
        turned a b = grind arith

divides_power : (m d : ℕ) → d ∣ 2 ^ m → (i : ℕ) × (i ≤ m) × (d ≡ 2 ^ i)
divides_power m d h = factor_power m d (2 ^ m / d) (turned d (2 ^ m / d) ∙ div-mul_cancel d h)
  where
    turned : (a b : ℕ) → a * b ≡ b * a
    turned a b = grind arith

-- ---- a whole note as it is spelled is a power of two

pub record IsPowerWhole (whole : ℕ) : Type 0 where
  pub power : ℕ
  pub few : power < 16
  pub even : 2 ∣ whole
  pub is : whole ≡ 2 ^ power

power_few : (m n : ℕ) → n ≡ 2 ^ m → n ≤ 61440 → m < 16
power_few m n e few = go (cases_lt m 16)
  where
    go : (m < 16) ⊎ (16 ≤ m) → m < 16
    go (inl lt) = lt
    go (inr le) = let most : 2 ^ 16 ≤ 2 ^ m = pow_mono le in let sixteen : 2 ^ 16
        ≡ 65536 = refl in absurd (omega (arith, e, few, most, sixteen))

spelled_power : (r odd normal : ℕ) → 1 ≤ r → r ≤ MOST_UNITS → IsOddPart r odd → IsPowerOfTwo normal → normal ≤ odd
    → IsPowerWhole (spelled_whole r odd normal)
spelled_power r odd normal some few part (j, power) le = record {
  power = 6 + halvings + j;
  few = power_few (6 + halvings + j) (spelled_whole r odd normal) is short;
  even = subst (λ n. 2 ∣ n) (sym half) (dvd-mul_right 2 (32 * 2 ^ halvings * normal));
  is = is;
}
  where
    halvings : ℕ
    halvings = part.0

    u : ℕ
    u = whole_of r / odd

    all : u * odd ≡ whole_of r
    all = odd_whole r odd part

    units : u ≡ 64 * 2 ^ halvings
    units =
        let whole : 64 * 2 ^ halvings * odd ≡ whole_of r = turned (2 ^ halvings) odd ∙ ap (λ x. 64 * x) (sym part.1) in
        eq_of_mul-eq-mul_right odd (odd_some r odd part) u (64 * 2 ^ halvings) (all ∙ sym whole)
      where
        turned : (a b : ℕ) → 64 * a * b ≡ 64 * (b * a)
        turned a b = grind arith

    is : u * normal ≡ 2 ^ (6 + halvings + j)
    is =
        let six : 2 ^ 6 ≡ 64 = refl in
        ap₂ (λ a b. a * b) units power ∙ ap (λ a. a * 2 ^ halvings * 2 ^ j) (sym six) ∙ ap (λ a. a * 2 ^ j) (sym (pow-add 2 6 halvings))
        ∙ sym (pow-add 2 (6 + halvings) j)

    half : u * normal ≡ 2 * (32 * 2 ^ halvings * normal)
    half = ap (λ x. x * normal) units ∙ turned (2 ^ halvings) normal
      where
        turned : (a b : ℕ) → 64 * a * b ≡ 2 * (32 * a * b)
        turned a b = grind arith

    short : u * normal ≤ 61440
    short = let most : u * normal ≤ u * odd = mul-le-mul_left u le in let units : r ≤ 960 = few in omega (arith, most, all, units)

-- ---- values

written_value : (whole : ℕ) (v : Value) → IsPowerWhole whole → CountsIn whole v → v.dots ≤ 2 → IsWrittenValue v
written_value whole v is counts dots = record { part = go v.recip refl; dots = dots }
  where
    grid : value_grid v ∣ whole
    grid = counts whole (dvd_refl whole) is.even

    plain : plain_grid v.recip ∣ whole
    plain = dvd_trans (plain_grid v.recip) (dvd-mul_right (plain_grid v.recip) (2 ^ v.dots)) grid

    go : (r : Recip) → v.recip ≡ r → IsHalvedPart r
    go (Of n) e =
        let own : n ∣ 2 ^ is.power = subst (λ m. n ∣ m) is.is (subst (λ r. plain_grid r ∣ whole) e plain) in
        let (i, few, same) = divides_power is.power n own in
        (i, let most = is.few in omega (arith, few, most), same)
    go Breve e = tt
    go Long e = tt

abbrev pub IsOfValue : Note → Type 0
IsOfValue n = IsWrittenValue n.value

values_written : (grid whole : ℕ) (t : Token) (first : Bool) (vs : List Value) → All IsWrittenValue vs
    → All IsOfValue (token_notes grid whole t first vs)
values_written grid whole t first [] are = All-nil IsOfValue
values_written grid whole t first (v ∷ vs) are =
    All-cons IsOfValue (note grid whole t first (is_empty vs) v) (token_notes grid whole t false vs) (All-head IsWrittenValue v vs are)
    (values_written grid whole t false vs (All-tail IsWrittenValue v vs are))

all_values : (len whole : ℕ) (vs : List Value) → IsPowerWhole whole → AreValues len whole vs → All IsWrittenValue vs
all_values len whole vs is are = go vs (values_grid len whole vs are) (values_dots len whole vs are)
  where
    go : (vs : List Value) → All (CountsIn whole) vs → All (λ v. v.dots ≤ 2) vs → All IsWrittenValue vs
    go [] counts dots = All-nil IsWrittenValue
    go (v ∷ vs) counts dots =
        All-cons IsWrittenValue v vs
        (written_value whole v is (All-head (CountsIn whole) v vs counts) (All-head (λ v. v.dots ≤ 2) v vs dots))
        (go vs (All-tail (CountsIn whole) v vs counts) (All-tail (λ v. v.dots ≤ 2) v vs dots))

notes_written : (grid whole : ℕ) (ts : List Token) (notes : List Note) → IsPowerWhole whole → AreNotes grid whole ts notes
    → All IsOfValue notes
notes_written grid whole [] notes is h = subst (All IsOfValue) (sym h) (All-nil IsOfValue)
notes_written grid whole (t ∷ ts) notes is (vs, others, values, are, same) =
    subst (All IsOfValue) (sym same)
    (All-append IsOfValue (token_notes grid whole t true vs) others
    (values_written grid whole t true vs (all_values ((t.end - t.start) / grid) whole vs is values))
    (notes_written grid whole ts others is are))

-- ---- groups

pub record IsSpelled (r : ℕ) (g : Group) : Type 0 where
  pub some_actual : 1 ≤ g.ratio.actual
  pub few_actual : g.ratio.actual ≤ MOST_UNITS
  pub some_normal : 1 ≤ g.ratio.normal
  pub few_normal : g.ratio.normal ≤ g.ratio.actual
  pub values : All IsOfValue g.notes
  pub long : All (λ n. n.duration * (value_grid n.value * g.ratio.actual) ≡ parts n.value * (whole_of r * g.ratio.normal)) g.notes

group_spelled : (r odd : ℕ) (ts : List Token) (g : Group) → 1 ≤ r → r ≤ MOST_UNITS → IsOddPart r odd → IsGroup r odd ts g → IsSpelled r g
group_spelled r odd ts g some few part h = record {
  some_actual = some_actual;
  few_actual = omega (arith, few_actual, odd_few, few);
  some_normal = power_some g.ratio.normal h.normal.0;
  few_normal = h.normal.1;
  values = notes_written h.grid (spelled_whole r odd g.ratio.normal)
      (joined_ties g.ratio.actual h.grid (spelled_whole r odd g.ratio.normal) ts) g.notes
      (spelled_power r odd g.ratio.normal some few part h.normal.0 (omega (arith, h.normal.1, few_actual))) h.notes;
  long = notes_in_ratio r odd ts g some part h;
}
  where
    some_odd : 1 ≤ odd
    some_odd = odd_some r odd part

    factors : (a b : ℕ) → odd ≡ a * b → (1 ≤ a) × (a ≤ odd)
    factors zero b e = let none : zero * b ≡ 0 = omega arith in absurd (omega (arith, e, none, some_odd))
    factors (suc a) zero e = let none : suc a * zero ≡ 0 = omega arith in absurd (omega (arith, e, none, some_odd))
    factors (suc a) (suc b) e = let le : suc a ≤ suc a * suc b = le-mul_of_pos_right (suc a) (omega arith) in
        (omega arith, omega (arith, le, e))

    some_actual : 1 ≤ g.ratio.actual
    some_actual = (factors g.ratio.actual h.grid h.actual).0

    few_actual : g.ratio.actual ≤ odd
    few_actual = (factors g.ratio.actual h.grid h.actual).1

    odd_few : odd ≤ r
    odd_few = le_of_dvd some (subst (λ x. odd ∣ x) (sym part.1) (dvd-mul_right odd (2 ^ part.0)))

each_spelled : (r odd : ℕ) (gs : List (List Token)) (groups : List Group) → 1 ≤ r → r ≤ MOST_UNITS → IsOddPart r odd
    → Each (IsGroup r odd) gs groups
    → All (IsSpelled r) groups
each_spelled r odd [] groups some few part each = subst (All (IsSpelled r)) (sym each) (All-nil (IsSpelled r))
each_spelled r odd (g ∷ gs) [] some few part each = absurd each
each_spelled r odd (g ∷ gs) (group ∷ groups) some few part (own, each) =
    All-cons (IsSpelled r) group groups (group_spelled r odd g group some few part own) (each_spelled r odd gs groups some few part each)

pub voice_spelled : (r n : ℕ) (bars : List ScoreBar) (sounds : List Sound) (all : List (List Group)) → 1 ≤ r → r ≤ MOST_UNITS
    → AreVoiceGroups r n bars sounds all → All (All (IsSpelled r)) all
voice_spelled r n [] sounds all some few h = subst (All (All (IsSpelled r))) (sym h) (All-nil (All (IsSpelled r)))
voice_spelled r n (bar ∷ bars) sounds [] some few h = absurd h
voice_spelled r n (bar ∷ bars) sounds (groups ∷ all) some few ((vs, odd, values, part, each), rest) =
    All-cons (All (IsSpelled r)) groups all (each_spelled r odd _ groups some few part each)
    (voice_spelled r (suc n) bars sounds all some few rest)
