-- The sounds of a voice, bar by bar.
use Rattle.std.proofs.Common.{◌≡◌, ℕ, suc, ◌+◌, ◌≤◌, ◌<◌, ◌≢◌, Bool, true, false, cond, List, [], ◌∷◌, drop, refl, sym, ap, ◌∙◌, subst, ◌⊎◌, inl, inr, arith}
use Rattle.std.specs.Prelude.{All, ◌==◌, sum_by}
use Rattle.std.specs.List.{prefix_len}
use Rattle.std.proofs.lemmas.Bool.{cases_eq}
use Rattle.std.proofs.lemmas.Bool.Decides.{nat_tests}
use Rattle.std.proofs.lemmas.List.Elements.{All-cons, All-head, All-nil, All-tail, All-weaker}
use Rattle.std.proofs.lemmas.List.Sums.{sum-map, sum_by-cons, take_while-cons}
use Rattle.rhythm_base.specs.declared.sound.Sound.{Sound}
use Rattle.derivation.specs.WellSounded.{StandInBars}
use Rattle.derivation.specs.Ahead.{later_sounds, own_sounds}
use Rattle.voice_values.specs.Ahead.{FillBar}
use Rattle.voice_values.specs.Values.{sounds_in_bar}
use Rattle.voice_values.proofs.TimedSounds.{width_of}

is_bar : (s : Sound) (n : ℕ) → s.bar ≡ n → (s.bar == n) ≡ true
is_bar s n e = grind (arith, nat_tests)

not_bar : (s : Sound) (n : ℕ) → s.bar ≢ n → (s.bar == n) ≡ false
not_bar s n ne = grind (arith, nat_tests)

-- ---- the sounds of the bar in front

own_here : (n : ℕ) (s : Sound) (sounds : List Sound) → s.bar ≡ n → own_sounds n (s ∷ sounds) ≡ s ∷ own_sounds n sounds
own_here n s sounds e = take_while-cons (λ s. s.bar == n) s sounds ∙ ap (λ b. cond b (s ∷ own_sounds n sounds) []) (is_bar s n e)

own_other : (n : ℕ) (s : Sound) (sounds : List Sound) → s.bar ≢ n → own_sounds n (s ∷ sounds) ≡ []
own_other n s sounds ne = take_while-cons (λ s. s.bar == n) s sounds ∙ ap (λ b. cond b (s ∷ own_sounds n sounds) []) (not_bar s n ne)

later_here : (n : ℕ) (s : Sound) (sounds : List Sound) → s.bar ≡ n → later_sounds n (s ∷ sounds) ≡ later_sounds n sounds
later_here n s sounds e =
    let k = prefix_len (λ (s : Sound). s.bar == n) sounds in
    let one : 1 + k ≡ suc k = omega arith in
    ap (λ b. drop (cond b (1 + k) 0) (s ∷ sounds)) (is_bar s n e) ∙ ap (λ j. drop j (s ∷ sounds)) one

later_other : (n : ℕ) (s : Sound) (sounds : List Sound) → s.bar ≢ n → later_sounds n (s ∷ sounds) ≡ s ∷ sounds
later_other n s sounds ne = ap (λ b. drop (cond b (1 + prefix_len (λ s. s.bar == n) sounds) 0) (s ∷ sounds)) (not_bar s n ne)

in_here : (n : ℕ) (s : Sound) (sounds : List Sound) → s.bar ≡ n → sounds_in_bar n (s ∷ sounds) ≡ s ∷ sounds_in_bar n sounds
in_here n s sounds e = ap (λ b. cond b (s ∷ sounds_in_bar n sounds) (sounds_in_bar n sounds)) (is_bar s n e)

in_other : (n : ℕ) (s : Sound) (sounds : List Sound) → s.bar ≢ n → sounds_in_bar n (s ∷ sounds) ≡ sounds_in_bar n sounds
in_other n s sounds ne = ap (λ b. cond b (s ∷ sounds_in_bar n sounds) (sounds_in_bar n sounds)) (not_bar s n ne)

-- ---- sounds that stand side by side

-- the bar and the unit after a sound
abbrev After : ℕ → ℕ → ℕ → ℕ → List Sound → Bool → Type 0
After r bars n q sounds ends = StandInBars r bars (cond ends (suc n) n) (cond ends 0 q) sounds

bars_from : (r bars n p : ℕ) (sounds : List Sound) → StandInBars r bars n p sounds → All (λ s. n ≤ s.bar) sounds
bars_from r bars n p [] h = All-nil (λ s. n ≤ s.bar)
bars_from r bars n p (s ∷ sounds) h = All-cons (λ s. n ≤ s.bar) s sounds (omega (arith, h.1)) (go (p + s.width == r) h.5 (bars_from r bars (suc n) 0 sounds) (bars_from r bars n (p + s.width) sounds))
  where
    go : (ends : Bool) → After r bars n (p + s.width) sounds ends → (StandInBars r bars (suc n) 0 sounds → All (λ s. suc n ≤ s.bar) sounds) → (StandInBars r bars n (p + s.width) sounds → All (λ s. n ≤ s.bar) sounds) → All (λ s. n ≤ s.bar) sounds
    go true k next same = All-weaker (λ s. suc n ≤ s.bar) (λ s. n ≤ s.bar) (λ s le. omega arith) sounds (next k)
    go false k next same = same k

none_in_bar : (n : ℕ) (sounds : List Sound) → All (λ s. suc n ≤ s.bar) sounds → sounds_in_bar n sounds ≡ []
none_in_bar n [] all = refl
none_in_bar n (s ∷ sounds) all =
    let past = All-head (λ s. suc n ≤ s.bar) s sounds all in
    in_other n s sounds (λ e. omega (arith, past, e)) ∙ none_in_bar n sounds (All-tail (λ s. suc n ≤ s.bar) s sounds all)

own_none : (n : ℕ) (sounds : List Sound) → All (λ s. suc n ≤ s.bar) sounds → own_sounds n sounds ≡ []
own_none n [] all = refl
own_none n (s ∷ sounds) all = let past = All-head (λ s. suc n ≤ s.bar) s sounds all in own_other n s sounds (λ e. omega (arith, past, e))

later_all : (n : ℕ) (sounds : List Sound) → All (λ s. suc n ≤ s.bar) sounds → later_sounds n sounds ≡ sounds
later_all n [] all = refl
later_all n (s ∷ sounds) all = let past = All-head (λ s. suc n ≤ s.bar) s sounds all in later_other n s sounds (λ e. omega (arith, past, e))

-- the sounds of the bar are those in front
pub in_bar_own : (r bars n p : ℕ) (sounds : List Sound) → StandInBars r bars n p sounds → sounds_in_bar n sounds ≡ own_sounds n sounds
in_bar_own r bars n p [] h = refl
in_bar_own r bars n p (s ∷ sounds) h = in_here n s sounds h.1 ∙ ap (λ t. s ∷ t) (go (p + s.width == r) h.5 (in_bar_own r bars n (p + s.width) sounds)) ∙ sym (own_here n s sounds h.1)
  where
    go : (ends : Bool) → After r bars n (p + s.width) sounds ends → (StandInBars r bars n (p + s.width) sounds → sounds_in_bar n sounds ≡ own_sounds n sounds) → sounds_in_bar n sounds ≡ own_sounds n sounds
    go true k same = let all = bars_from r bars (suc n) 0 sounds k in none_in_bar n sounds all ∙ sym (own_none n sounds all)
    go false k same = same k

-- the sounds of later bars are all there after the bar
pub in_later : (n m : ℕ) (sounds : List Sound) → n < m → sounds_in_bar m (later_sounds n sounds) ≡ sounds_in_bar m sounds
in_later n m [] lt = refl
in_later n m (s ∷ sounds) lt = go (cases_eq s.bar n) (in_later n m sounds lt)
  where
    go : (s.bar ≡ n) ⊎ (s.bar ≢ n) → sounds_in_bar m (later_sounds n sounds) ≡ sounds_in_bar m sounds → sounds_in_bar m (later_sounds n (s ∷ sounds)) ≡ sounds_in_bar m (s ∷ sounds)
    go (inl e) next = ap (sounds_in_bar m) (later_here n s sounds e) ∙ next ∙ sym (in_other m s sounds (λ f. omega (arith, e, f, lt)))
    go (inr ne) next = ap (sounds_in_bar m) (later_other n s sounds ne)

-- ---- the sounds of a bar fill it, and those after it stand in the later bars

pub record IsSplit (r bars n p : ℕ) (sounds : List Sound) : Type 0 where
  pub some : All (λ s. 1 ≤ s.width) (own_sounds n sounds)
  pub full : p + sum_by width_of (own_sounds n sounds) ≡ r
  pub later : StandInBars r bars (suc n) 0 (later_sounds n sounds)

pub stand_split : (r bars n p : ℕ) (sounds : List Sound) → n < bars → StandInBars r bars n p sounds → IsSplit r bars n p sounds
stand_split r bars n p [] lt h = absurd (omega (arith, h.0, lt))
stand_split r bars n p (s ∷ sounds) lt h = go (p + s.width == r) refl h.5 (stand_split r bars n (p + s.width) sounds lt)
  where
    own : own_sounds n (s ∷ sounds) ≡ s ∷ own_sounds n sounds
    own = own_here n s sounds h.1

    later : later_sounds n (s ∷ sounds) ≡ later_sounds n sounds
    later = later_here n s sounds h.1

    some_own : All (λ s. 1 ≤ s.width) (own_sounds n sounds) → All (λ s. 1 ≤ s.width) (own_sounds n (s ∷ sounds))
    some_own all = subst (All (λ s. 1 ≤ s.width)) (sym own) (All-cons (λ s. 1 ≤ s.width) s (own_sounds n sounds) h.3 all)

    width_own : sum_by width_of (own_sounds n (s ∷ sounds)) ≡ s.width + sum_by width_of (own_sounds n sounds)
    width_own = ap (sum_by width_of) own ∙ sum_by-cons width_of s (own_sounds n sounds)

    end : (p + s.width == r) ≡ true → p + s.width ≡ r
    end e = grind (arith, nat_tests, e)

    go : (ends : Bool) → (p + s.width == r) ≡ ends → After r bars n (p + s.width) sounds ends → (StandInBars r bars n (p + s.width) sounds → IsSplit r bars n (p + s.width) sounds) → IsSplit r bars n p (s ∷ sounds)
    go true e k next =
        let all = bars_from r bars (suc n) 0 sounds k in
        let none = own_none n sounds all in
        record {
          some = some_own (subst (All (λ s. 1 ≤ s.width)) (sym none) (All-nil (λ s. 1 ≤ s.width)));
          full = let zero : sum_by width_of (own_sounds n sounds) ≡ 0 = ap (sum_by width_of) none in omega (arith, width_own, zero, end e);
          later = subst (StandInBars r bars (suc n) 0) (sym (later ∙ later_all n sounds all)) k;
        }
    go false e k next =
        let split = next k in
        record {
          some = some_own split.some;
          full = omega (arith, width_own, split.full);
          later = subst (StandInBars r bars (suc n) 0) (sym later) split.later;
        }

pub stand_fill : (r bars n : ℕ) (sounds : List Sound) → n < bars → StandInBars r bars n 0 sounds → FillBar r n sounds
stand_fill r bars n sounds lt h =
    let split = stand_split r bars n 0 sounds lt h in
    record { some = split.some; full = omega (arith, split.full, sum-map width_of (own_sounds n sounds)) }

pub stand_later : (r bars n : ℕ) (sounds : List Sound) → n < bars → StandInBars r bars n 0 sounds → StandInBars r bars (suc n) 0 (later_sounds n sounds)
stand_later r bars n sounds lt h = (stand_split r bars n 0 sounds lt h).later

-- the first sound of a bar
pub first_in_bar : (r bars n : ℕ) (s : Sound) (sounds : List Sound) → StandInBars r bars n 0 (s ∷ sounds) → sounds_in_bar n (s ∷ sounds) ≡ s ∷ sounds_in_bar n sounds
first_in_bar r bars n s sounds h = in_here n s sounds h.1
