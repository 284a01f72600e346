-- The sounds that begin bars are the first of their bars.
use Rattle.std.proofs.Common.{◌≡◌, ℕ, zero, suc, ◌+◌, ◌*◌, ◌==◌, ◌≤◌, ◌<◌, Bool, true, false, List, [], ◌∷◌, get_or, length, refl, sym, ap, ◌∙◌, arith}
use Rattle.std.specs.Prelude.{cond, filter, map}
use Rattle.std.proofs.Math.Nat.{mul-le-mul}
use Rattle.std.proofs.lemmas.Bool.Decides.{nat_tests}
use Rattle.rhythm_base.specs.declared.sound.Sound.{Sound}
use Rattle.derivation.specs.WellSounded.{AreWellSounded, StandInBars}
use Rattle.voice_values.specs.Values.{sounds_in_bar}
use Rattle.page_writer.specs.Graces.{begun_graces, graces_of_first}
use Rattle.page_writer.specs.Writing.{start_graces}

-- the bar of the next sound that begins one, where the next sound stands at a place of a bar
next_bar : ℕ → ℕ → ℕ
next_bar n zero = n
next_bar n (suc p) = suc n

-- ---- one sound

other_bar : (s : Sound) (sounds : List Sound) (n k : ℕ) → s.bar ≡ n → n < k → begun_graces k (s ∷ sounds) ≡ begun_graces k sounds
other_bar s sounds n k is later =
    let test : (s.bar == k) ≡ false = grind (arith, nat_tests) in
    ap (λ b. length (graces_of_first (cond b (s ∷ sounds_in_bar k sounds) (sounds_in_bar k sounds)))) test

own_bar : (s : Sound) (sounds : List Sound) (n : ℕ) → s.bar ≡ n → begun_graces n (s ∷ sounds) ≡ length s.graces
own_bar s sounds n is =
    let test : (s.bar == n) ≡ true = grind (arith, nat_tests) in
    ap (λ b. length (graces_of_first (cond b (s ∷ sounds_in_bar n sounds) (sounds_in_bar n sounds)))) test

starts_one : (s : Sound) (sounds : List Sound) → s.place ≡ 0 → start_graces (s ∷ sounds) ≡ length s.graces ∷ start_graces sounds
starts_one s sounds is =
    let test : (s.place == 0) ≡ true = grind (arith, nat_tests) in
    ap (λ b. map (λ (s : Sound). length s.graces) (cond b (s ∷ filter (λ s. s.place == 0) sounds) (filter (λ s. s.place == 0) sounds))) test

starts_other : (s : Sound) (sounds : List Sound) (p : ℕ) → s.place ≡ suc p → start_graces (s ∷ sounds) ≡ start_graces sounds
starts_other s sounds p is =
    let test : (s.place == 0) ≡ false = grind (arith, nat_tests) in
    ap (λ b. map (λ (s : Sound). length s.graces) (cond b (s ∷ filter (λ s. s.place == 0) sounds) (filter (λ s. s.place == 0) sounds))) test

-- ---- all of them

abbrev Begins : ℕ → List Sound → Type 0
Begins n sounds = (k : ℕ) → get_or (start_graces sounds) k 0 ≡ begun_graces (n + k) sounds

-- a sound at the start of its bar, and those after it, the next of which begins the next bar
begins_one : (s : Sound) (sounds : List Sound) (n : ℕ) → s.bar ≡ n → s.place ≡ 0 → Begins (suc n) sounds → Begins n (s ∷ sounds)
begins_one s sounds n bar place rest zero =
    let e : n ≡ n + 0 = omega arith in
    ap (λ xs. get_or xs 0 0) (starts_one s sounds place) ∙ sym (own_bar s sounds n bar) ∙ ap (λ m. begun_graces m (s ∷ sounds)) e
begins_one s sounds n bar place rest (suc k) =
    let e : suc n + k ≡ n + suc k = omega arith in
    ap (λ xs. get_or xs (suc k) 0) (starts_one s sounds place) ∙ rest k ∙ ap (λ m. begun_graces m sounds) e
    ∙ sym (other_bar s sounds n (n + suc k) bar (omega arith))

-- any other
begins_other : (s : Sound) (sounds : List Sound) (n p : ℕ) → s.bar ≡ n → s.place ≡ suc p → Begins (suc n) sounds → Begins (suc n) (s ∷ sounds)
begins_other s sounds n p bar place rest k =
    ap (λ xs. get_or xs k 0) (starts_other s sounds p place) ∙ rest k ∙ sym (other_bar s sounds n (suc n + k) bar (omega arith))

begins : (r bars n p : ℕ) (sounds : List Sound) → StandInBars r bars n p sounds → Begins (next_bar n p) sounds
unfolding next_bar
begins r bars n p [] h = λ k. refl
begins r bars n p (s ∷ sounds) h =
    at p h.1 h.2 (later (p + s.width == r) h.5 (begins r bars (suc n) 0 sounds) (begins r bars n (p + s.width) sounds))
  where
    past : (q : ℕ) → 1 ≤ q → Begins (next_bar n q) sounds → Begins (suc n) sounds
    past zero some h = absurd (omega (arith, some))
    past (suc q) some h = h

    later : (b : Bool) → StandInBars r bars (cond b (suc n) n) (cond b 0 (p + s.width)) sounds
        → (StandInBars r bars (suc n) 0 sounds → Begins (suc n) sounds)
        → (StandInBars r bars n (p + s.width) sounds → Begins (next_bar n (p + s.width)) sounds) → Begins (suc n) sounds
    later true stand next same = next stand
    later false stand next same = past (p + s.width) (omega (arith, h.3)) (same stand)

    at : (p : ℕ) → s.bar ≡ n → s.place ≡ p → Begins (suc n) sounds → Begins (next_bar n p) (s ∷ sounds)
    at zero bar place rest = begins_one s sounds n bar place rest
    at (suc p) bar place rest = begins_other s sounds n p bar place rest

pub starts_begin : (r bars : ℕ) (sounds : List Sound) (k : ℕ) → AreWellSounded r bars sounds → get_or (start_graces sounds) k 0 ≡ begun_graces k sounds
unfolding next_bar
starts_begin r bars sounds k are =
    let e : 0 + k ≡ k = omega arith in begins r bars 0 0 sounds are.places k ∙ ap (λ m. begun_graces m sounds) e

-- ---- there are at most as many sounds as units

few_from : (r bars n p : ℕ) (sounds : List Sound) → StandInBars r bars n p sounds → n * r + p + length sounds ≤ bars * r
few_from r bars n p [] h = let same = ap (λ m. m * r) h.0 in omega (arith, same, h.1)
few_from r bars n p (s ∷ sounds) h =
    later (p + s.width == r) refl h.5 (few_from r bars (suc n) 0 sounds) (few_from r bars n (p + s.width) sounds)
  where
    next : suc n * r ≡ n * r + r
    next = omega arith

    later : (b : Bool) → (p + s.width == r) ≡ b → StandInBars r bars (cond b (suc n) n) (cond b 0 (p + s.width)) sounds
        → (StandInBars r bars (suc n) 0 sounds → suc n * r + 0 + length sounds ≤ bars * r)
        → (StandInBars r bars n (p + s.width) sounds → n * r + (p + s.width) + length sounds ≤ bars * r) → n * r + p + suc (length sounds) ≤ bars * r
    later true test stand then same = let few = then stand in omega (arith, few, next, h.3, h.4)
    later false test stand then same = let few = same stand in omega (arith, few, h.3)

pub few_sounds : (r bars : ℕ) (sounds : List Sound) → AreWellSounded r bars sounds → r ≤ 960 → bars ≤ 4096 → length sounds ≤ 4096 * 960
few_sounds r bars sounds are units few =
    let all = few_from r bars 0 0 sounds are.places in
    let most : bars * r ≤ 4096 * 960 = mul-le-mul few units in
    omega (arith, all, most)
