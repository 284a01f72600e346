-- The tokens of a group can be spelled.
use Rattle.rhythm_base.specs.declared.limits.TheConstants.{MOST_UNITS}
use Rattle.std.proofs.Common.{◌≡◌, ℕ, zero, suc, ◌+◌, ◌-◌, ◌*◌, ◌/◌, ◌^◌, ◌≤◌, Bool, List, [], ◌∷◌, length, get_or, take, refl, sym, ap, ap₂, ◌∙◌, subst, arith}
use Rattle.std.specs.Prelude.{◌&&◌, All, not}
use Rattle.std.specs.Int.{◌∣◌, IsPowerOfTwo}
use Rattle.std.proofs.Math.Nat.{div-le_of_le-mul, div-mul_cancel, dvd-mul_left, dvd-mul_right, mul-le-mul_left, mul-le-mul_right}
use Rattle.std.proofs.lemmas.List.Elements.{All-cons, All-head, All-nil, All-tail}
use Rattle.std.proofs.lemmas.Nat.Gcd.{dvd_trans, le_of_dvd}
use Rattle.durations.proofs.Powers.{power_some}
use Rattle.durations.proofs.Wide.{some_product}
use Rattle.notation.specs.Notes.{IsGreatestPower, IsGrid, IsGroup, Note, ties_taken, tied_ends}
use Rattle.notation.specs.Places.{IsOddPart, is_halved, whole_of}
use Rattle.notation.specs.Rests.{joined, joined_from, last_number}
use Rattle.notation.specs.Runs.{AreRun, StandBetween}
use Rattle.notation.specs.Spelling.{AreInGrid, AreSpelled, IsSpellable, Spelling}
use Rattle.notation.specs.Tokens.{Token, is_silent, ends}
use Rattle.notation.proofs.GridLemmas.{CountIn}
use Rattle.notation.proofs.Halved.{halved_le, joined_all, taken_at}
use Rattle.notation.proofs.Joining.{ended, joined_at}
use Rattle.notation.proofs.TiedTokens.{gap, grid_later, grid_more, tied_front}
use Rattle.notation.proofs.Values.{some_divisor}

-- ---- the odd part of the resolution

pub odd_some : (r odd : ℕ) → IsOddPart r odd → 1 ≤ odd
odd_some r odd (k, e, h) = omega (arith, h)

pub odd_divides : (r odd : ℕ) → IsOddPart r odd → odd ∣ r
odd_divides r odd (k, e, h) = subst (λ x. odd ∣ x) (sym e) (dvd-mul_right odd (2 ^ k))

pub odd_whole : (r odd : ℕ) → IsOddPart r odd → whole_of r / odd * odd ≡ whole_of r
odd_whole r odd h = div-mul_cancel odd (dvd_trans odd (odd_divides r odd h) (dvd-mul_left r 64))

pub units_some : (r odd : ℕ) → IsOddPart r odd → 1 ≤ r
units_some r odd (k, e, h) = subst (λ x. 1 ≤ x) (sym e) (some_product odd (2 ^ k) (omega (arith, h)) (power_some (2 ^ k) (k, refl)))

odd_few : (r odd : ℕ) → 1 ≤ r → IsOddPart r odd → odd ≤ r
odd_few r odd some h = le_of_dvd some (odd_divides r odd h)

-- ---- the spelling of a group

pub grid_some : (odd grid : ℕ) → 1 ≤ odd → grid ∣ odd → 1 ≤ grid
grid_some odd grid some h = some_divisor grid odd some h

pub actual_some : (odd grid : ℕ) → 1 ≤ odd → grid ∣ odd → 1 ≤ odd / grid
actual_some odd grid some h = go (odd / grid) (div-mul_cancel grid h)
  where
    go : (n : ℕ) → n * grid ≡ odd → 1 ≤ n
    go zero e = omega (arith, e, some)
    go (suc n) e = omega arith

-- so many parts are one of the grid, and so many of the grid a whole note
pub record IsSpelling (grid whole : ℕ) : Type 0 where
  pub some_grid : 1 ≤ grid
  pub few_grid : grid ≤ MOST_UNITS
  pub some : 1 ≤ whole
  pub few : whole ≤ 64 * MOST_UNITS

pub spelling : (r odd grid actual normal : ℕ) → 1 ≤ r → r ≤ MOST_UNITS → IsOddPart r odd → grid ∣ odd → actual ≡ odd / grid
    → IsGreatestPower actual normal → IsSpelling grid (whole_of r / odd * normal)
spelling r odd grid actual normal some few h part is power =
    let odd_one = odd_some r odd h in
    let le = odd_few r odd some h in
    let u = whole_of r / odd in
    let all : u * odd ≡ whole_of r = odd_whole r odd h in
    let u_some : 1 ≤ u = factor u all in
    let p_some : 1 ≤ normal = power_some normal power.0 in
    let grid_one = grid_some odd grid odd_one part in
    let whole : odd / grid * grid ≡ odd = div-mul_cancel grid part in
    let actual_few : odd / grid ≤ odd = let e = mul-le-mul_left (odd / grid) grid_one in omega (arith, e, whole) in
    let short : u * normal ≤ u * odd = mul-le-mul_left u (omega (arith, power.1, is, actual_few)) in
    record {
      some_grid = grid_one;
      few_grid = let e = le_of_dvd odd_one part in omega
          (arith, e, le, few);
      some = some_product u normal u_some p_some;
      few = omega (arith, short, all, few);
    }
  where
    factor : (u : ℕ) → u * odd ≡ whole_of r → 1 ≤ u
    factor zero e = omega (arith, e, some)
    factor (suc u) e = omega arith

-- the same of what is computed
pub spelling_of : (r odd grid part whole normal : ℕ) → part ≡ odd → whole ≡ whole_of r → whole ≤ 64 * MOST_UNITS → IsOddPart r odd → grid ∣ odd
    → IsGreatestPower (part / grid) normal → IsSpelling grid (whole / part * normal)
spelling_of r odd grid part whole normal same all few h divides power =
    subst (λ w. IsSpelling grid (w / part * normal)) (sym all)
    (subst (λ o. IsGreatestPower (o / grid) normal → IsSpelling grid (whole_of r / o * normal)) (sym same)
    (λ p. spelling r odd grid (odd / grid) normal (units_some r odd h) (omega (arith, all, few)) h divides refl p) power)

pub whole_some : (r odd normal : ℕ) → 1 ≤ r → IsOddPart r odd → IsPowerOfTwo normal → 1 ≤ whole_of r / odd * normal
whole_some r odd normal some h power = some_product (whole_of r / odd) normal (factor (whole_of r / odd) (odd_whole r odd h)) (power_some normal power)
  where
    factor : (u : ℕ) → u * odd ≡ whole_of r → 1 ≤ u
    factor zero e = omega (arith, e, some)
    factor (suc u) e = omega arith

-- a whole note has at most twice as many parts as the note that is spelled so
spelled_long : (r odd grid actual normal : ℕ) → IsOddPart r odd → grid ∣ odd → actual ≡ odd / grid → IsGreatestPower actual normal
    → whole_of r ≤ 2 * (whole_of r / odd * normal * grid)
spelled_long r odd grid actual normal h part is power =
    let u = whole_of r / odd in
    let all : u * odd ≡ whole_of r = odd_whole r odd h in
    let whole : odd / grid * grid ≡ odd = div-mul_cancel grid part in
    let one : odd / grid * grid ≤ 2 * normal * grid = mul-le-mul_right grid (omega (arith, is, power.2)) in
    let two : u * (odd / grid * grid) ≤ u * (2 * normal * grid) = mul-le-mul_left u one in
    let three : u * (odd / grid * grid) ≡ whole_of r = ap (λ x. u * x) whole ∙ all in
    let four : u * (2 * normal * grid) ≡ 2 * (u * normal * grid) = turned u normal grid in
    omega (arith, two, three, four)
  where
    turned : (a b c : ℕ) → a * (2 * b * c) ≡ 2 * (a * b * c)
    turned a b c = grind arith

-- ---- its tokens

token_few : (r grid whole : ℕ) (t : Token) → whole_of r ≤ 2 * (whole * grid) → t.end ≤ t.start + 8 * whole_of r → (t.end - t.start) / grid ≤ 64 * whole
token_few r grid whole t long short =
    let e : 16 * (whole * grid) ≡ grid * (16 * whole) = turned whole grid in
    let few : (t.end - t.start) / grid ≤ 16 * whole = div-le_of_le-mul grid (omega (arith, long, short, e)) in
    omega (arith, few)
  where
    turned : (a b : ℕ) → 16 * (a * b) ≡ b * (16 * a)
    turned a b = grind arith

tokens_spellable : (r grid whole from to : ℕ) (ts : List Token) → whole_of r ≤ 2 * (whole * grid) → StandBetween r from ts to → All (CountIn grid) ts
    → All (IsSpellable grid whole) ts
tokens_spellable r grid whole from to [] long h count = All-nil (IsSpellable grid whole)
tokens_spellable r grid whole from to (t ∷ ts) long h count =
    let own = All-head (CountIn grid) t ts count in
    let here : IsSpellable grid whole t = record { some = gap grid t.start t.end own.0 own.1 h.1; few = token_few r grid whole t long h.2 } in
    All-cons (IsSpellable grid whole) t ts here (tokens_spellable r grid whole t.end to ts long h.3 (All-tail (CountIn grid) t ts count))

pub group_spellable : (r odd grid actual normal : ℕ) (ts : List Token) → IsOddPart r odd → IsGrid odd ts grid → actual ≡ odd / grid
    → IsGreatestPower actual normal → AreRun r ts
    → All (IsSpellable grid (whole_of r / odd * normal)) ts
group_spellable r odd grid actual normal ts h is_grid is power run =
    tokens_spellable r grid (whole_of r / odd * normal) run.from run.to ts
    (spelled_long r odd grid actual normal h is_grid.odd_part is power) run.stand is_grid.places

-- the same of what is computed
pub spellable_of : (r odd grid part whole normal : ℕ) (ts : List Token) → part ≡ odd → whole ≡ whole_of r → IsOddPart r odd → IsGrid odd ts grid
    → IsGreatestPower (part / grid) normal → AreRun r ts → All (IsSpellable grid (whole / part * normal)) ts
spellable_of r odd grid part whole normal ts same all h is_grid power run =
    subst (λ w. All (IsSpellable grid (w / part * normal)) ts) (sym all)
    (subst (λ o. IsGreatestPower (o / grid) normal → All (IsSpellable grid (whole_of r / o * normal)) ts) (sym same)
    (λ p. group_spellable r odd grid (odd / grid) normal ts h is_grid refl p run) power)

pub group_of : (r odd grid part whole normal parts : ℕ) (by : Spelling) (ts : List Token) (notes : List Note) → part ≡ odd → whole ≡ whole_of r
    → parts ≡ whole / part * normal → by ≡ record { grid = grid; whole = parts } → IsGrid odd ts grid → IsGreatestPower (part / grid) normal
    → AreSpelled by (part / grid) ts notes
    → IsGroup r odd ts (record { ratio = record { actual = part / grid; normal = normal }; notes = notes })
group_of r odd grid part whole normal parts by ts notes same all is spells is_grid power spelled =
    let here = subst (λ (s : Spelling). AreSpelled s (part / grid) ts notes) spells spelled in
    let there = subst (λ w. AreSpelled (record { grid = grid; whole = w }) (part / grid) ts notes) (is ∙ ap₂ (λ w o. w / o * normal) all same) here in
    record {
      grid = grid;
      is_grid = is_grid;
      actual = sym (div-mul_cancel grid is_grid.odd_part) ∙ ap (λ o. o / grid * grid) (sym same);
      normal = power;
      notes = there;
    }

-- ---- tokens that are joined

pub joined_spellable : (grid whole : ℕ) (ts : List Token) → 1 ≤ whole → AreInGrid grid ts → All (IsSpellable grid whole) ts → All
    (IsSpellable grid whole) (joined_from (ties_taken grid whole) 0 ts)
joined_spellable grid whole ts some places all =
    joined_all (IsSpellable grid whole) (λ us. AreInGrid grid us × All (IsSpellable grid whole) us) (ties_taken grid whole) 0 ts own
    (λ t more h. (grid_more grid t more h.0, All-tail (IsSpellable grid whole) t more h.1)) (places, all)
  where
    own : (t : Token) (more : List Token) → AreInGrid grid (t ∷ more) × All (IsSpellable grid whole) (t ∷ more) → IsSpellable grid whole
        (joined (ties_taken grid whole t more) t more)
    own t more (h, k) = go (tied_front (t.goes && not (is_silent t)) more)
      where
        may : ℕ → Bool
        may end = is_halved whole ((end - t.start) / grid)

        at : (n : ℕ) (j : ℕ) → last_number may (ends (take n more)) ≡ j → IsSpellable grid whole (joined j t more)
        at n zero e = All-head (IsSpellable grid whole) t more k
        at n (suc j) e =
            let last = taken_at may n j t more e in
            let later = grid_later grid t more h j t last.0 in
            let few = halved_le whole (((get_or more j t).end - t.start) / grid) some last.1 in
            let there : IsSpellable grid whole (ended t (get_or more j t)) = record { some = later; few = omega (arith, few) } in
            subst (IsSpellable grid whole) (sym (joined_at j t more t last.0)) there

        go : (n : ℕ) × (n ≤ length more) × (tied_ends (t.goes && not (is_silent t)) more ≡ ends (take n more)) → IsSpellable grid whole
            (joined (ties_taken grid whole t more) t more)
        go (n, le, e) = at n (ties_taken grid whole t more) (sym (ap (last_number may) e))
