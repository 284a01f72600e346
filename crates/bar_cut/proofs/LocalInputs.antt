-- The input of a bar depends on no chords but its own and the one before it.
use Rattle.std.proofs.Common.{◌≡◌, ◌⊎◌, ℕ, ◌+◌, ◌<◌, ◌≤◌, Bool, true, false, List, [], ◌∷◌, ◌++◌, map, refl, sym, ap, ◌∙◌, inl, inr, arith, append_assoc, if◌then◌else◌}
use Rattle.std.specs.Prelude.{All, filter, nat_lt}
use Rattle.std.proofs.lemmas.Bool.Decides.{nat_tests}
use Rattle.rhythm_base.specs.declared.chord.Chord.{Chord}
use Rattle.rhythm_base.specs.declared.inner.Inner.{Inner}
use Rattle.rhythm_base.specs.Cells.{cut_end, has_onset, input, within_bar}
use Rattle.rhythm_base.specs.Grammar.{Grammar}
use Rattle.rhythm_base.specs.Leaves.{VoiceBar, soundings}
use Rattle.rhythm_base.specs.Lists.{last_end}
use Rattle.rhythm_base.proofs.OrderedLists.{all_head, all_tail}

module _ (p : ℕ → Bool) where
  abbrev kept : List Chord → List Inner
  kept cs = filter (λ (c : Inner). p c.onset) (soundings cs)

  skip_front : (xs ys : List Chord) → All (λ c. p c.onset ≡ false) xs → kept (xs ++ ys) ≡ kept ys
  skip_front [] ys none = refl
  skip_front (x ∷ xs) ys none =
      let no : p x.onset ≡ false = all_head (λ (c : Chord). p c.onset ≡ false) x xs none in
      rw no (skip_front xs ys (all_tail (λ (c : Chord). p c.onset ≡ false) x xs none))

  skip_all : (ys : List Chord) → All (λ c. p c.onset ≡ false) ys → kept ys ≡ []
  skip_all [] none = refl
  skip_all (y ∷ ys) none =
      let no : p y.onset ≡ false = all_head (λ (c : Chord). p c.onset ≡ false) y ys none in
      rw no (skip_all ys (all_tail (λ (c : Chord). p c.onset ≡ false) y ys none))

  skip_back : (xs ys : List Chord) → All (λ c. p c.onset ≡ false) ys → kept (xs ++ ys) ≡ kept xs
  skip_back [] ys none = skip_all ys none
  skip_back (x ∷ xs) ys none = by (p x.onset) (skip_back xs ys none)
    where
      one : Inner
      one = record { onset = x.onset; end = x.end }

      by : (b : Bool) → kept (xs ++ ys) ≡ kept xs → (if b then one ∷ kept (xs ++ ys) else kept (xs ++ ys)) ≡ (if b then one ∷ kept xs else kept xs)
      by true same = ap (λ l. one ∷ l) same
      by false same = same

  -- of those that pass the last has the last end, whatever came before one of them
  last_after : (e d : ℕ) (xs : List Chord) (c : Chord) (ys : List Chord) → p c.onset ≡ true
      → last_end e (map (λ (i : Inner). i.end) (kept (xs ++ (c ∷ ys)))) ≡ last_end d (map (λ (i : Inner). i.end) (kept (c ∷ ys)))
  last_after e d [] c ys is = rw is refl
  last_after e d (x ∷ xs) c ys is = by (p x.onset) (last_after x.end d xs c ys is) (last_after e d xs c ys is)
    where
      one : Inner
      one = record { onset = x.onset; end = x.end }

      most : ℕ
      most = last_end d (map (λ (i : Inner). i.end) (kept (c ∷ ys)))

      by : (b : Bool) → last_end x.end (map (λ (i : Inner). i.end) (kept (xs ++ (c ∷ ys)))) ≡ most → last_end e (map (λ (i : Inner). i.end) (kept (xs ++ (c ∷ ys)))) ≡ most
          → last_end e (map (λ (i : Inner). i.end) (if b then one ∷ kept (xs ++ (c ∷ ys)) else kept (xs ++ (c ∷ ys)))) ≡ most
      by true through past = through
      by false through past = past

-- there are no earlier chords, or one of these begins before the tick
abbrev pub IsBegun : ℕ → List Chord → List Chord → Type 0
IsBegun tick earlier cs = (earlier ≡ []) ⊎ ((c : Chord) × (others : List Chord) × (cs ≡ c ∷ others) × (c.onset < tick))

module _ (g : Grammar) (bar : VoiceBar) (earlier cs later : List Chord)
    (before : All (λ c. c.onset < bar.start) earlier) (after : All (λ c. bar.start + bar.length ≤ c.onset) later) where
  own_same : filter (λ c. has_onset bar c.onset) (soundings (earlier ++ (cs ++ later))) ≡ filter (λ c. has_onset bar c.onset) (soundings cs)
  own_same =
      skip_front (has_onset bar) earlier (cs ++ later) (λ k d lt. let low = before k d lt in grind (arith, nat_tests, low))
      ∙ skip_back (has_onset bar) cs later (λ k d lt. let high = after k d lt in grind (arith, nat_tests, high))

  abbrev is_early : ℕ → Bool
  is_early t = nat_lt t bar.start

  abbrev end_of : List Chord → ℕ
  end_of xs = last_end 0 (map (λ (c : Inner). c.end) (kept is_early xs))

  without_later : end_of (earlier ++ (cs ++ later)) ≡ end_of (earlier ++ cs)
  without_later =
      ap end_of (sym (append_assoc earlier cs later))
      ∙ ap (λ (l : List Inner). last_end 0 (map (λ (c : Inner). c.end) l)) (skip_back is_early (earlier ++ cs) later (λ k d lt. let high = after k d lt in grind (arith, nat_tests, high)))

  without_earlier : IsBegun bar.start earlier cs → end_of (earlier ++ cs) ≡ end_of cs
  without_earlier (inl none) = ap (λ (l : List Chord). end_of (l ++ cs)) none
  without_earlier (inr (c, others, is, lt)) =
      let early : is_early c.onset ≡ true = grind (arith, nat_tests, lt) in
      ap (λ (l : List Chord). end_of (earlier ++ l)) is ∙ last_after is_early 0 0 earlier c others early ∙ ap end_of (sym is)

  pub input_local : IsBegun bar.start earlier cs → input g bar (soundings (earlier ++ (cs ++ later))) ≡ input g bar (soundings cs)
  input_local begun =
      let before_same = without_later ∙ without_earlier begun in
      λ i. record {
        symbol = bar.symbol;
        resolution = g.resolution;
        num = bar.num;
        den = bar.den;
        length = bar.length;
        chords = map (within_bar bar) (own_same i);
        before = cut_end bar (before_same i);
        pin = bar.pin;
      }
