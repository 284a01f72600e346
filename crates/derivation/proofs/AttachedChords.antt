-- The chords that are attached to a leaf, and the latest chord of a leaf, by the test of fit.
use Rattle.std.proofs.Common.{◌≡◌, ℕ, suc, ◌+◌, ◌-◌, ◌≤◌, ◌==◌, Bool, true, false, cond, List, [], ◌∷◌, ◌++◌, length, map, refl, sym, ap, ap₂, ◌∙◌, subst, arith}
use Rattle.std.specs.Prelude.{All, filter, nat_lt, nat_le, Option, Some, None, slice_get}
use Rattle.std.proofs.lemmas.Bool.Decides.{nat_tests}
use Rattle.std.proofs.lemmas.List.{length-map, map-append}
use Rattle.rhythm_base.specs.declared.chord.Chord.{Chord}
use Rattle.rhythm_base.specs.declared.rule.Ending.{Ending}
use Rattle.rhythm_base.specs.Leaves.{Leaf, looks, soundings}
use Rattle.rhythm_base.specs.Line.{Rising, agrees, agrees_with, ends_at, ends_before, last_sounds, placements, seat}
use Rattle.rhythm_base.specs.Lists.{last_of}
use Rattle.rhythm_base.proofs.OrderedLists.{all_head, all_tail}
use Rattle.derivation.specs.Sounds.{attached_to, latest_chord}

-- before the next number
pub lt_next : (a i : ℕ) → nat_lt a (suc i) ≡ nat_le a i
lt_next a i = go (nat_le a i) refl
  where
    go : (b : Bool) → nat_le a i ≡ b → nat_lt a (suc i) ≡ b
    go true e = grind (arith, nat_tests, e)
    go false e = grind (arith, nat_tests, e)

-- ---- the last of a list

pub last_more : {X : Type 0} (x y : X) (ys : List X) → last_of (x ∷ y ∷ ys) ≡ last_of (y ∷ ys)
last_more x y ys = let next : length (x ∷ y ∷ ys) - 1 ≡ suc (length (y ∷ ys) - 1) = omega arith in ap (slice_get (x ∷ y ∷ ys)) next

pub last_some : {X : Type 0} (xs : List X) → 1 ≤ length xs → (x : X) × (last_of xs ≡ Some x)
last_some [] some = absurd (omega (arith, some))
last_some (x ∷ []) some = (x, refl)
last_some (x ∷ y ∷ ys) some = let ih = last_some (y ∷ ys) (omega arith) in (ih.0, last_more x y ys ∙ ih.1)

pub last_holds : {X : Type 0} (P : X → Type 0) (xs : List X) → All P xs → (x : X) → last_of xs ≡ Some x → P x
last_holds P [] all x is = absurd (cc)
last_holds P (y ∷ []) all x is = let same : y ≡ x = (cc) in subst P same (all_head P y [] all)
last_holds P (y ∷ z ∷ zs) all x is = last_holds P (z ∷ zs) (all_tail P y (z ∷ zs) all) x (sym (last_more y z zs) ∙ is)

-- ---- the ends of chords by their seats

-- a chord sounds, where there is one
abbrev pub sounds_of_chord : (ℕ → Bool) → Option Chord → Bool
sounds_of_chord s None = false
sounds_of_chord s (Some c) = s c.end

last_sounds_is : (s : ℕ → Bool) (cs : List Chord) → last_sounds s (map (λ c. c.end) cs) ≡ sounds_of_chord s (last_of cs)
last_sounds_is s [] = refl
last_sounds_is s (c ∷ []) = refl
last_sounds_is s (c ∷ d ∷ cs) = last_sounds_is s (d ∷ cs) ∙ ap (sounds_of_chord s) (sym (last_more c d cs))

ends_are : (f : ℕ → ℕ) (test : ℕ → Bool) (cs : List Chord)
    → map (λ (q : ℕ × ℕ). q.1) (filter (λ q. test q.0) (map (λ c. (f c.onset, c.end)) (soundings cs))) ≡ map (λ c. c.end) (filter (λ c. test (f c.onset)) cs)
ends_are f test [] = refl
ends_are f test (c ∷ cs) = go (test (f c.onset)) (ends_are f test cs)
  where
    others : List (ℕ × ℕ)
    others = filter (λ q. test q.0) (map (λ c. (f c.onset, c.end)) (soundings cs))

    go : (b : Bool) → map (λ (q : ℕ × ℕ). q.1) others ≡ map (λ c. c.end) (filter (λ c. test (f c.onset)) cs)
        → map (λ (q : ℕ × ℕ). q.1) (cond b ((f c.onset, c.end) ∷ others) others) ≡ map (λ c. c.end) (cond b (c ∷ filter (λ c. test (f c.onset)) cs) (filter (λ c. test (f c.onset)) cs))
    go true ih = ap (λ l. c.end ∷ l) ih
    go false ih = ih

-- ---- in the order of onsets

module _ (f : ℕ → ℕ) (order : (t u : ℕ) → t ≤ u → f t ≤ f u) (i : ℕ) where
  none_lower : (low : ℕ) (cs : List Chord) → i ≤ f low → Rising low (soundings cs) → filter (λ c. nat_lt (f c.onset) i) cs ≡ []
  none_lower low [] le rise = refl
  none_lower low (c ∷ cs) le rise =
      let here : f low ≤ f c.onset = order low c.onset rise.0 in
      let next : f c.onset ≤ f (c.onset + 1) = order c.onset (c.onset + 1) (omega arith) in
      let no : nat_lt (f c.onset) i ≡ false = grind (arith, nat_tests, le, here) in
      rw no (none_lower (c.onset + 1) cs (omega (arith, le, here, next)) rise.1)

  -- the chords up to seat i are those up to the seat before it, and then those of seat i
  pub chords_up_to : (low : ℕ) (cs : List Chord) → Rising low (soundings cs)
      → filter (λ c. nat_le (f c.onset) i) cs ≡ filter (λ c. nat_lt (f c.onset) i) cs ++ filter (λ c. f c.onset == i) cs
  chords_up_to low [] rise = refl
  chords_up_to low (c ∷ cs) rise = go (nat_lt (f c.onset) i) (f c.onset == i) refl refl (chords_up_to (c.onset + 1) cs rise.1)
    where
      all : List Chord
      all = filter (λ c. nat_le (f c.onset) i) cs

      lower : List Chord
      lower = filter (λ c. nat_lt (f c.onset) i) cs

      here : List Chord
      here = filter (λ c. f c.onset == i) cs

      go : (a b : Bool) → nat_lt (f c.onset) i ≡ a → f c.onset == i ≡ b → all ≡ lower ++ here
          → cond (nat_le (f c.onset) i) (c ∷ all) all ≡ cond a (c ∷ lower) lower ++ cond b (c ∷ here) here
      go true true e k ih = absurd (grind (arith, nat_tests, e, k))
      go true false e k ih = let le : nat_le (f c.onset) i ≡ true = grind (arith, nat_tests, e) in rw le (ap (λ l. c ∷ l) ih)
      go false true e k ih =
          let le : nat_le (f c.onset) i ≡ true = grind (arith, nat_tests, k) in
          let low' : i ≤ f c.onset = grind (arith, nat_tests, k) in
          let next : f c.onset ≤ f (c.onset + 1) = order c.onset (c.onset + 1) (omega arith) in
          let none = none_lower (c.onset + 1) cs (omega (arith, low', next)) rise.1 in
          rw (le, none) (ap (λ l. c ∷ l) (ih ∙ ap (λ l. l ++ here) none))
      go false false e k ih = let gt : nat_le (f c.onset) i ≡ false = grind (arith, nat_tests, e, k) in rw gt ih

-- ---- one leaf of a line

module _ (r : ℕ) (xs : List Leaf) (cs : List Chord) (low : ℕ) (rise : Rising low (soundings cs)) (order : (t u : ℕ) → t ≤ u → seat (looks r) xs t ≤ seat (looks r) xs u) (i : ℕ) where
  -- the chords that are attached to leaves before leaf i
  abbrev pub attached_before : List Chord
  attached_before = filter (λ c. nat_lt (seat (looks r) xs c.onset) i) cs

  -- and those that are attached to leaf i or to one before it
  abbrev pub attached_by : List Chord
  attached_by = filter (λ c. nat_le (seat (looks r) xs c.onset) i) cs

  pub attached_by_is : attached_by ≡ attached_before ++ attached_to r xs cs i
  attached_by_is = chords_up_to (seat (looks r) xs) order i low cs rise

  -- what a leaf's rule asks, of the chords that are attached to it and of the latest chord
  pub agrees_by_chords : (b : Ending) (s : ℕ → Bool) → agrees_with b s (ends_at i (placements (looks r) xs [] (soundings cs))) (ends_before i (placements (looks r) xs [] (soundings cs)))
      ≡ agrees b (length (attached_to r xs cs i)) (sounds_of_chord s (latest_chord r xs cs i))
  agrees_by_chords b s =
      ap₂ (λ here before. agrees b (length here) (last_sounds s (before ++ here))) (ends_are (seat (looks r) xs) (λ n. n == i) cs) (ends_are (seat (looks r) xs) (λ n. nat_lt n i) cs)
      ∙ ap₂ (λ n l. agrees b n (last_sounds s l)) (length-map (attached_to r xs cs i) (λ c. c.end)) (sym (map-append (λ c. c.end) attached_before (attached_to r xs cs i)))
      ∙ ap (λ l. agrees b (length (attached_to r xs cs i)) (last_sounds s (map (λ c. c.end) l))) (sym attached_by_is)
      ∙ ap (agrees b (length (attached_to r xs cs i))) (last_sounds_is s attached_by)
