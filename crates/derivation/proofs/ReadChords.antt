-- Chords in the order of their onsets, split after a tick.
use Rattle.std.proofs.Common.{◌≡◌, ℕ, suc, ◌+◌, ◌<◌, ◌≤◌, Bool, true, false, cond, not, List, [], ◌∷◌, ◌++◌, length, get_or, take, drop, refl, sym, ap, ap₂, ◌∙◌, subst, arith, add-one, append_assoc, drop-cons}
use Rattle.std.specs.Prelude.{filter, nat_lt, nat_le, unwrap_or, Some, None, if◌then◌else◌}
use Rattle.std.specs.List.{position, position_or_len}
use Rattle.std.proofs.lemmas.Bool.Decides.{nat_tests}
use Rattle.std.proofs.lemmas.List.Sums.{prefix_len-le-length}
use Rattle.rhythm_base.specs.declared.chord.Chord.{Chord}
use Rattle.rhythm_base.specs.Leaves.{soundings}
use Rattle.rhythm_base.specs.Line.{Rising}
use Rattle.rhythm_base.specs.declared.sound.Sound.{Sound}
use Rattle.rhythm_base.specs.Lists.{last_of}
use Rattle.derivation.specs.declared.leaf.TimedLeaf.{TimedLeaf}
use Rattle.derivation.specs.TimedLeaves.{chords_after, chords_until, keys_after, sound_with, sounds_along}

-- the first place that passes, or the length
place_or_length : {X : Type 0} (p : X → Bool) (xs : List X) → unwrap_or (position p xs) (length xs) ≡ position_or_len p xs
place_or_length p xs = by (nat_lt (position_or_len p xs) (length xs)) refl
  where
    by : (b : Bool) → nat_lt (position_or_len p xs) (length xs) ≡ b → unwrap_or (if b then Some (position_or_len p xs) else None) (length xs) ≡ position_or_len p xs
    by true is = refl
    by false is = let most = prefix_len-le-length (λ x. not (p x)) xs in grind (arith, nat_tests, is, most)

-- where all begin after the tick, none begins up to it
all_after : (t low : ℕ) (cs : List Chord) → t < low → Rising low (soundings cs) → (chords_until t cs ≡ []) × (chords_after t cs ≡ cs)
all_after t low [] lt rise = (refl, refl)
all_after t low (c ∷ cs) lt rise =
    let late : nat_le c.onset t ≡ false = grind (arith, nat_tests, lt, rise.0) in
    let after : nat_lt t c.onset ≡ true = grind (arith, nat_tests, lt, rise.0) in
    let rest = all_after t (c.onset + 1) cs (omega (arith, lt, rise.0)) rise.1 in (
      ap (λ b. cond b (c ∷ chords_until t cs) (chords_until t cs)) late ∙ rest.0,
      ap (λ b. cond b (c ∷ chords_after t cs) (chords_after t cs)) after ∙ ap (λ l. c ∷ l) rest.1,
    )

abbrev SplitAt : ℕ → List Chord → ℕ → Type 0
SplitAt t cs n = (take n cs ≡ chords_until t cs) × (drop n cs ≡ chords_after t cs)

split_first : (t low : ℕ) (cs : List Chord) → Rising low (soundings cs) → SplitAt t cs (position_or_len (λ c. nat_lt t c.onset) cs)
split_first t low [] rise = (refl, refl)
split_first t low (c ∷ cs) rise = by (nat_lt t c.onset) refl (split_first t (c.onset + 1) cs rise.1)
  where
    n : ℕ
    n = position_or_len (λ c. nat_lt t c.onset) cs

    by : (b : Bool) → nat_lt t c.onset ≡ b → SplitAt t cs n → SplitAt t (c ∷ cs) (if not b then 1 + n else 0)
    by true is rest =
        let lt : t < c.onset = grind (arith, nat_tests, is) in
        let all = all_after t c.onset (c ∷ cs) lt (omega arith, rise.1) in
        (sym all.0, sym all.1)
    by false is rest =
        let one : suc n ≡ 1 + n = omega arith in
        let up_to : nat_le c.onset t ≡ true = grind (arith, nat_tests, is) in
        let next : SplitAt t (c ∷ cs) (suc n) = (
          ap (λ l. c ∷ l) rest.0 ∙ ap (λ b. cond b (c ∷ chords_until t cs) (chords_until t cs)) (sym up_to),
          rest.1 ∙ ap (λ b. cond b (c ∷ chords_after t cs) (chords_after t cs)) (sym is),
        ) in
        subst (SplitAt t (c ∷ cs)) one next

pub split_is : (t low : ℕ) (cs : List Chord) → Rising low (soundings cs) → SplitAt t cs (unwrap_or (position (λ c. nat_lt t c.onset) cs) (length cs))
split_is t low cs rise = subst (SplitAt t cs) (sym (place_or_length (λ c. nat_lt t c.onset) cs)) (split_first t low cs rise)

-- ---- those that are kept rise too

rise_from : (a b : ℕ) (cs : List Chord) → b ≤ a → Rising a (soundings cs) → Rising b (soundings cs)
rise_from a b [] le rise = tt
rise_from a b (c ∷ cs) le rise = (omega (arith, le, rise.0), rise.1)

pub rise_kept : (p : Chord → Bool) (low : ℕ) (cs : List Chord) → Rising low (soundings cs) → Rising low (soundings (filter p cs))
rise_kept p low [] rise = tt
rise_kept p low (c ∷ cs) rise = go (p c) (rise_kept p (c.onset + 1) cs rise.1)
  where
    go : (b : Bool) → Rising (c.onset + 1) (soundings (filter p cs)) → Rising low (soundings (cond b (c ∷ filter p cs) (filter p cs)))
    go true rest = (rise.0, rest)
    go false rest = rise_from (c.onset + 1) low (filter p cs) (omega (arith, rise.0)) rest

-- ---- one leaf more

pub along_step : (k : ℕ) (cs : List Chord) (xs : List TimedLeaf) (i : ℕ) (d : TimedLeaf) (heard more : List Sound) (s : Sound) (here after : List Chord) (keys : ℕ) (whole : List Sound)
    → i < length xs → here ≡ chords_until (get_or xs i d).middle cs → after ≡ chords_after (get_or xs i d).middle cs → keys ≡ keys_after k (last_of here)
    → s ≡ sound_with (get_or xs i d) here keys → more ≡ heard ++ s ∷ [] → heard ++ sounds_along k cs (drop i xs) ≡ whole → more ++ sounds_along keys after (drop (i + 1) xs) ≡ whole
along_step k cs xs i d heard more s here after keys whole within until later latest sound pushed made =
    let own : sound_with x (chords_until x.middle cs) (keys_after k (last_of (chords_until x.middle cs))) ≡ s =
    sym (ap₂ (sound_with x) until (latest ∙ ap (λ l. keys_after k (last_of l)) until)) ∙ sym sound in
    let others : sounds_along (keys_after k (last_of (chords_until x.middle cs))) (chords_after x.middle cs) (drop (i + 1) xs) ≡ sounds_along keys after (drop (i + 1) xs) =
    ap₂ (λ k l. sounds_along k l (drop (i + 1) xs)) (sym (latest ∙ ap (λ l. keys_after k (last_of l)) until)) (sym later) in
    let split : sounds_along k cs (drop i xs) ≡ s ∷ sounds_along keys after (drop (i + 1) xs) =
    ap (sounds_along k cs) (drop-cons xs i d within ∙ ap (λ n. x ∷ drop n xs) (sym (add-one i))) ∙ ap₂ ◌∷◌ own others in
    ap (λ l. l ++ sounds_along keys after (drop (i + 1) xs)) pushed ∙ append_assoc heard (s ∷ []) (sounds_along keys after (drop (i + 1) xs)) ∙ ap (λ l. heard ++ l) (sym split) ∙ made
  where
    x : TimedLeaf
    x = get_or xs i d
