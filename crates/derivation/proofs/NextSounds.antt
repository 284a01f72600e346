use Rattle.std.proofs.Common.{◌≡◌, ℕ, suc, ◌+◌, ◌==◌, true, false, cond, List, [], ◌∷◌, ◌++◌, drop, take, refl, ap, sym, ◌∙◌, arith, ◌<◌, ◌≤◌, length, Bool, subst}
use Rattle.std.specs.Prelude.{Option, Some, is_some, option_map, slice_get}
use Rattle.std.specs.List.{prefix_len, take_while}
use Rattle.std.proofs.lemmas.Bool.Decides.{nat_tests}
use Rattle.std.proofs.lemmas.List.{append_assoc, length-drop}
use Rattle.std.proofs.lemmas.List.Sums.{take_while-cons}
use Rattle.rhythm_base.specs.declared.sound.Sound.{Sound}

abbrev pub first_bar : List Sound → Option ℕ
first_bar sounds = option_map (λ s. s.bar) (slice_get sounds 0)

-- no sound is left where there is no next one
pub over : (sounds : List Sound) → is_some (first_bar sounds) ≡ false → sounds ≡ []
over [] none = refl
over (s ∷ sounds) none = absurd (cc)

is_bar : (s : Sound) (n b : ℕ) → first_bar (s ∷ []) ≡ Some b → b ≡ n → (s.bar == n) ≡ true
is_bar s n b next same = let bar : s.bar ≡ b = cc in grind (arith, nat_tests)

-- the first sound is one of the bar, and the others of the bar come after it
pub own_first : (n b : ℕ) (before sounds : List Sound) → first_bar sounds ≡ Some b → b ≡ n
    → (before ++ take 1 sounds) ++ take_while (λ s. s.bar == n) (drop 1 sounds) ≡ before ++ take_while (λ s. s.bar == n) sounds
own_first n b before [] next same = absurd (cc)
own_first n b before (s ∷ sounds) next same =
    let own = take_while (λ (s : Sound). s.bar == n) sounds in
    append_assoc before (s ∷ []) own
    ∙ ap (λ l. before ++ l) (sym (take_while-cons (λ s. s.bar == n) s sounds ∙ ap (λ t. cond t (s ∷ own) []) (is_bar s n b next same)))

pub rest_first : (n b : ℕ) (sounds : List Sound) → first_bar sounds ≡ Some b → b ≡ n
    → drop (prefix_len (λ s. s.bar == n) (drop 1 sounds)) (drop 1 sounds) ≡ drop (prefix_len (λ s. s.bar == n) sounds) sounds
rest_first n b [] next same = absurd (cc)
rest_first n b (s ∷ sounds) next same =
    let k = prefix_len (λ (s : Sound). s.bar == n) sounds in
    let one : 1 + k ≡ suc k = omega arith in
    sym (ap (λ t. drop (cond t (1 + k) 0) (s ∷ sounds)) (is_bar s n b next same) ∙ ap (λ j. drop j (s ∷ sounds)) one)

-- a bar that ends among the first sounds ends there whatever comes after them
pub ends_before : (n : ℕ) (sounds others : List Sound) → prefix_len (λ s. s.bar == n) sounds < length sounds
    → prefix_len (λ s. s.bar == n) (sounds ++ others) ≡ prefix_len (λ s. s.bar == n) sounds
ends_before n [] others within = absurd (omega (arith, within))
ends_before n (s ∷ sounds) others within = go (s.bar == n) refl (ends_before n sounds others)
  where
    k : List Sound → ℕ
    k xs = prefix_len (λ (s : Sound). s.bar == n) xs

    go : (b : Bool) → (s.bar == n) ≡ b → (k sounds < length sounds → k (sounds ++ others) ≡ k sounds)
        → cond (s.bar == n) (1 + k (sounds ++ others)) 0 ≡ cond (s.bar == n) (1 + k sounds) 0
    go true own later =
        let less : k sounds < length sounds = omega (arith, subst (λ t. cond t (1 + k sounds) 0 < length (s ∷ sounds)) own within) in
        ap (λ m. cond (s.bar == n) (1 + m) 0) (later less)
    go false other later = ap (λ t. cond t (1 + k (sounds ++ others)) 0) other ∙ sym (ap (λ t. cond t (1 + k sounds) 0) other)

-- where the bar of the next sound is passed over, fewer sounds are left
pub fewer_left : (n : ℕ) (sounds : List Sound) → first_bar sounds ≡ Some n → length (drop (prefix_len (λ s. s.bar == n) sounds) sounds) < length sounds
fewer_left n [] next = absurd (cc)
fewer_left n (s ∷ sounds) next =
    let k = prefix_len (λ (s : Sound). s.bar == n) sounds in
    let rest = rest_first n n (s ∷ sounds) next refl in
    let left : length (drop k sounds) ≤ length sounds = omega (arith, length-drop k sounds) in
    omega (arith, left, ap length rest)
