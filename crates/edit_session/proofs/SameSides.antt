-- Two lists of notes of a voice of which those before a tick are the same, or those from a tick on, begin or end alike.
use Rattle.std.proofs.Common.{◌≡◌, ℕ, suc, ◌+◌, ◌-◌, ◌<◌, ◌≤◌, Bool, true, false, List, [], ◌∷◌, drop, filter, get_or, length, take, refl, sym, ap, ◌∙◌, arith}
use Rattle.std.specs.Prelude.{nat_le, nat_lt, if◌then◌else◌}
use Rattle.std.specs.List.{AllWithin}
use Rattle.std.proofs.lemmas.Bool.Decides.{nat_tests}
use Rattle.std.proofs.lemmas.List.{get_or-drop, length-drop, length-take-le}
use Rattle.rhythm_base.proofs.ListParts.{filter_few}
use Rattle.rhythm_base.specs.declared.note.Note.{Note}
use Rattle.tempo_map.proofs.InForce.{filter_front}
use Rattle.voices.proofs.NoteBreaks.{notes_rise}
use Rattle.voices.proofs.VoiceParts.{filter-skip}
use Rattle.voices.specs.Voice.{AreNotesOfVoice}

module _ (p : Note → Bool) where
  -- none of them pass
  none_pass : (xs : List Note) → ((k : ℕ) (d : Note) → k < length xs → p (get_or xs k d) ≡ false) → filter p xs ≡ []
  none_pass [] none = refl
  none_pass (x ∷ xs) none =
      let no : p x ≡ false = none 0 x (omega arith) in
      rw no (none_pass xs (λ k d lt. none (suc k) d (omega (arith, lt))))

  all_pass : (xs : List Note) → ((k : ℕ) (d : Note) → k < length xs → p (get_or xs k d) ≡ true) → filter p xs ≡ xs
  all_pass [] all = refl
  all_pass (x ∷ xs) all =
      let has : p x ≡ true = all 0 x (omega arith) in
      rw has (ap (λ l. x ∷ l) (all_pass xs (λ k d lt. all (suc k) d (omega (arith, lt)))))

-- where those that pass stand in front of the others, they are the first ones
module _ (p : Note → Bool) where
  abbrev pub Fronted : List Note → Type 0
  Fronted xs = (i j : ℕ) (d : Note) → i ≤ j → j < length xs → p (get_or xs j d) ≡ true → p (get_or xs i d) ≡ true

  abbrev pub Backed : List Note → Type 0
  Backed xs = (i j : ℕ) (d : Note) → i ≤ j → j < length xs → p (get_or xs i d) ≡ true → p (get_or xs j d) ≡ true

  front_is : (xs : List Note) → Fronted xs → filter p xs ≡ take (length (filter p xs)) xs
  front_is [] h = refl
  front_is (x ∷ xs) h = at (p x) refl (front_is xs (λ i j d le lt. h (suc i) (suc j) d (omega (arith, le)) (omega (arith, lt))))
    where
      at : (b : Bool) → p x ≡ b → filter p xs ≡ take (length (filter p xs)) xs
          → (if b then x ∷ filter p xs else filter p xs) ≡ take (length (if b then x ∷ filter p xs else filter p xs)) (x ∷ xs)
      at true is rest = ap (λ l. x ∷ l) rest
      at false is rest =
          let none : filter p xs ≡ [] = none_pass p xs (λ k d lt. off (p (get_or xs k d)) k d lt refl) in
          rw none refl
        where
          off : (b : Bool) (k : ℕ) (d : Note) → k < length xs → p (get_or xs k d) ≡ b → b ≡ false
          off false k d lt at_k = refl
          off true k d lt at_k = let wrong = h 0 (suc k) d (omega arith) (omega (arith, lt)) at_k in absurd (cc)

  back_is : (xs : List Note) → Backed xs → filter p xs ≡ drop (length xs - length (filter p xs)) xs
  back_is [] h = refl
  back_is (x ∷ xs) h = at (p x) refl (back_is xs (λ i j d le lt. h (suc i) (suc j) d (omega (arith, le)) (omega (arith, lt))))
    where
      at : (b : Bool) → p x ≡ b → filter p xs ≡ drop (length xs - length (filter p xs)) xs
          → (if b then x ∷ filter p xs else filter p xs) ≡ drop (suc (length xs) - length (if b then x ∷ filter p xs else filter p xs)) (x ∷ xs)
      at true is rest =
          let all : filter p xs ≡ xs = all_pass p xs (λ k d lt. h 0 (suc k) d (omega arith) (omega (arith, lt)) is) in
          let none : suc (length xs) - suc (length (filter p xs)) ≡ 0 = omega (arith, ap length all) in
          ap (λ l. x ∷ l) all ∙ sym (ap (λ k. drop k (x ∷ xs)) none)
      at false is rest =
          let few = filter_few p xs in
          let next : suc (length xs) - length (filter p xs) ≡ suc (length xs - length (filter p xs)) = omega (arith, few) in
          rest ∙ sym (ap (λ k. drop k (x ∷ xs)) next)

abbrev pub is_early : ℕ → Note → Bool
is_early low n = nat_lt n.onset low

abbrev pub is_late : ℕ → Note → Bool
is_late high n = nat_le high n.onset

module _ (before after : List Note) (v : AreNotesOfVoice before) (w : AreNotesOfVoice after) where
  early_front : (low : ℕ) (xs : List Note) → AreNotesOfVoice xs → Fronted (is_early low) xs
  early_front low xs x i j d le lt is = let rise = notes_rise xs i j d x le lt in grind (arith, nat_tests, rise, is)

  late_back : (high : ℕ) (xs : List Note) → AreNotesOfVoice xs → Backed (is_late high) xs
  late_back high xs x i j d le lt is = let rise = notes_rise xs i j d x le lt in grind (arith, nat_tests, rise, is)

  -- they begin alike
  pub begin_alike : (low n : ℕ) → filter (is_early low) after ≡ filter (is_early low) before → n ≤ length before
      → AllWithin (λ m. m.onset < low) before 0 n → AllWithin (λ m. low ≤ m.onset) before n (length before) → (take n before ≡ take n after) × (n ≤ length after)
  begin_alike low n same within front back = (first ∙ ap (λ k. take k after) count, omega (arith, sym count, filter_few p after))
    where
      p : Note → Bool
      p = is_early low

      own : filter p before ≡ take n before
      own = filter_front p before n within (λ k d l h. let e = front k d l h in grind (arith, nat_tests, e)) (λ k d l h. let e = back k d l h in grind (arith, nat_tests, e))

      count : length (filter p after) ≡ n
      count = ap length same ∙ ap length own ∙ length-take-le n before within

      first : take n before ≡ take (length (filter p after)) after
      first = sym own ∙ sym same ∙ front_is p after (early_front low after w)

  -- they end alike
  pub end_alike : (high n : ℕ) → filter (is_late high) after ≡ filter (is_late high) before → n ≤ length before
      → AllWithin (λ m. m.onset < high) before 0 n → AllWithin (λ m. high ≤ m.onset) before n (length before)
      → (drop (length before - (length before - n)) before ≡ drop (length after - (length before - n)) after) × (length before - n ≤ length after)
  end_alike high n same within front back = (ap (λ k. drop k before) at ∙ last ∙ ap (λ k. drop (length after - k) after) count, omega (arith, sym count, filter_few p after))
    where
      p : Note → Bool
      p = is_late high

      at : length before - (length before - n) ≡ n
      at = omega (arith, within)

      own : filter p before ≡ drop n before
      own =
          sym (filter-skip p before n within (λ k d l h. let e = front k d l h in grind (arith, nat_tests, e)))
          ∙ all_pass p (drop n before) (λ k d lt. passes k d lt)
        where
          passing : (m : Note) → high ≤ m.onset → p m ≡ true
          passing m le = grind (arith, nat_tests, le)

          passes : (k : ℕ) (d : Note) → k < length (drop n before) → p (get_or (drop n before) k d) ≡ true
          passes k d lt =
              let e = back (n + k) d (omega arith) (omega (arith, lt, length-drop n before)) in
              ap p (get_or-drop n before k d) ∙ passing (get_or before (n + k) d) e

      count : length (filter p after) ≡ length before - n
      count = ap length same ∙ ap length own ∙ length-drop n before

      last : drop n before ≡ drop (length after - length (filter p after)) after
      last = sym own ∙ sym same ∙ back_is p after (late_back high after w)
