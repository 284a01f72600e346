-- The place of a key in the window of a key signature.
use Rattle.std.proofs.Common.{◌≡◌, ℕ, suc, zero, ◌+◌, ◌-◌, ◌%◌, ◌==◌, ◌<◌, ◌≤◌, true, false, sym, ap, ◌∙◌, arith}
use Rattle.std.specs.Prelude.{ℤ, Option, Some, None, cond, find, unwrap_or}
use Rattle.std.specs.List.{range_with_len}
use Rattle.notation.specs.Names.{first_place, lowest_place, pitch_class, place_of}

-- the first of so many places from one on that has the key
abbrev pub first_from : ℕ → ℕ → ℕ → Option ℕ
first_from key place n = find (λ p. pitch_class p == key % 12) (range_with_len place n)

found_here : (key place n : ℕ) → (pitch_class place == key % 12) ≡ true → first_from key place (suc n) ≡ Some place
found_here key place n here = ap (λ b. cond b (Some place) (first_from key (place + 1) n)) here

found_later : (key place n : ℕ) → (pitch_class place == key % 12) ≡ false → first_from key place (suc n) ≡ first_from key (place + 1) n
found_later key place n other = ap (λ b. cond b (Some place) (first_from key (place + 1) n)) other

pub window_whole : (key lowest : ℕ) → first_from key lowest (lowest + 12 - lowest) ≡ first_place key lowest
unfolding first_place
window_whole key lowest = let e : lowest + 12 - lowest ≡ 12 = omega arith in ap (first_from key lowest) e

pub window_passes : (key lowest place : ℕ) → place < lowest + 12 → (pitch_class place == key % 12) ≡ false
    → first_from key place (lowest + 12 - place) ≡ first_place key lowest → first_from key (place + 1) (lowest + 12 - (place + 1)) ≡ first_place key lowest
window_passes key lowest place within other so =
    let e : lowest + 12 - place ≡ suc (lowest + 12 - (place + 1)) = omega (arith, within) in
    sym (found_later key place (lowest + 12 - (place + 1)) other) ∙ ap (first_from key place) (sym e) ∙ so

pub window_finds : (key lowest place : ℕ) (sf : Option ℤ) → lowest ≡ lowest_place sf → place < lowest + 12 → (pitch_class place == key % 12) ≡ true
    → first_from key place (lowest + 12 - place) ≡ first_place key lowest → place ≡ place_of sf key
window_finds key lowest place sf is within here so =
    let e : lowest + 12 - place ≡ suc (lowest + 12 - (place + 1)) = omega (arith, within) in
    let found : first_place key lowest ≡ Some place = sym so ∙ ap (first_from key place) e ∙ found_here key place (lowest + 12 - (place + 1)) here in
    sym (ap (λ found. unwrap_or found lowest) found) ∙ ap (λ l. unwrap_or (first_place key l) l) is

pub window_ends : (key lowest place : ℕ) (sf : Option ℤ) → lowest ≡ lowest_place sf → lowest + 12 ≤ place
    → first_from key place (lowest + 12 - place) ≡ first_place key lowest → lowest ≡ place_of sf key
window_ends key lowest place sf is past so =
    let e : lowest + 12 - place ≡ zero = omega (arith, past) in
    let found : first_place key lowest ≡ None = sym so ∙ ap (first_from key place) e in
    sym (ap (λ found. unwrap_or found lowest) found) ∙ ap (λ l. unwrap_or (first_place key l) l) is
