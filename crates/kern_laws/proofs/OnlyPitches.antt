-- Nothing but a pitch of a key is read as it.
use Rattle.std.proofs.Common.{◌≡◌, ℕ, suc, ◌+◌, ◌-◌, ◌*◌, ◌<◌, ◌≤◌, ◌==◌, ◌&&◌, ◌||◌, Bool, true, false, List, [], ◌∷◌, ◌++◌, drop, replicate, Option, Some, None, refl, sym, ap, subst, ◌⊎◌, inl, inr, arith}
use Rattle.std.specs.Prelude.{codes, cond, if◌then◌else◌, nat_le, nat_lt}
use Rattle.std.specs.List.{prefix_len}
use Rattle.std.specs.Str.{bytes_eq}
use Rattle.std.proofs.lemmas.Bool.{and_parts, leb-true}
use Rattle.std.proofs.lemmas.Bool.Decides.{nat_tests}
use Rattle.std.proofs.lemmas.Slice.Eq.{bytes_eq-Decides}
use Rattle.durations.specs.Pitch.{is_black, pitch}
use Rattle.text_words.specs.Steps.{◌>>=◌}
use Rattle.kern_reader.specs.Tokens.{altered, is_lower_case, is_upper, pitch_key, key_of_letters, octave_of, white_key}
use Rattle.text_words.specs.Numbers.{within_keys}
use Rattle.kern_laws.specs.Laws.{OnlyPitchesAreRead}
use Rattle.rhythm_base.proofs.NumbersBelow.{one_below, all_below}

-- ---- a letter so often, and an accidental: all that can be read

is_pitch : List ℕ → Option ℕ → Bool
is_pitch text None = true
is_pitch text (Some k) = bytes_eq text (pitch false k) || bytes_eq text (pitch true k)

abbrev is_only : ℕ → List ℕ → ℕ → Bool
is_only letter accidental count = is_pitch (replicate count letter ++ accidental) (key_of_letters letter count accidental)

-- each of the seven letters from the first on, once or more and at most so often
abbrev all_only : ℕ → ℕ → List ℕ → Bool
all_only first most accidental = all_below (λ i. all_below (λ n. is_only (first + i) accidental (suc n)) most) 7

lower_plain : all_only 97 6 [] ≡ true
unfolding pitch_key white_key is_pitch
lower_plain = refl

lower_sharp : all_only 97 6 (codes "#") ≡ true
unfolding pitch_key white_key is_pitch
lower_sharp = refl

lower_flat : all_only 97 6 (codes "-") ≡ true
unfolding pitch_key white_key is_pitch
lower_flat = refl

upper_plain : all_only 65 5 [] ≡ true
unfolding pitch_key white_key is_pitch
upper_plain = refl

upper_sharp : all_only 65 5 (codes "#") ≡ true
unfolding pitch_key white_key is_pitch
upper_sharp = refl

upper_flat : all_only 65 5 (codes "-") ≡ true
unfolding pitch_key white_key is_pitch
upper_flat = refl

one_only : (first most : ℕ) (accidental : List ℕ) (letter n : ℕ) → all_only first most accidental ≡ true → first ≤ letter → letter ≤ first + 6 → suc n ≤ most
    → is_only letter accidental (suc n) ≡ true
one_only first most accidental letter n all low high few =
    let letters = one_below (λ i. all_below (λ n. is_only (first + i) accidental (suc n)) most) 7 (letter - first) all (omega (arith, low, high)) in
    let same : first + (letter - first) ≡ letter = omega (arith, low) in
    subst (λ l. is_only l accidental (suc n) ≡ true) same (one_below (λ n. is_only (first + (letter - first)) accidental (suc n)) most n letters (omega (arith, few)))

-- ---- what a text is made of where a key is read of it

some_of : {A B : Type 0} (o : Option A) (next : A → Option B) (y : B) → (o >>= next) ≡ Some y → (x : A) × (o ≡ Some x) × (next x ≡ Some y)
some_of None next y e = absurd (cc)
some_of (Some x) next y e = (x, refl, e)

record IsCounted (first most letter count : ℕ) : Type 0 where
  low : first ≤ letter
  high : letter ≤ first + 6
  few : count ≤ most

counted_with : (first last most letter count : ℕ) → last ≡ first + 6 → ((nat_le first letter && nat_le letter last) && nat_le count most) ≡ true → IsCounted first most letter count
counted_with first last most letter count range e =
    let parts = and_parts (nat_le first letter && nat_le letter last) (nat_le count most) e in
    let ends = and_parts (nat_le first letter) (nat_le letter last) parts.0 in
    record {
      low = leb-true first letter ends.0;
      high = subst (λ n. letter ≤ n) range (leb-true letter last ends.1);
      few = leb-true count most parts.1;
    }

letter_of : (letter count octave : ℕ) → octave_of letter count ≡ Some octave → IsCounted 97 6 letter count ⊎ IsCounted 65 5 letter count
letter_of letter count octave e = go (is_lower_case letter && nat_le count 6) refl (is_upper letter && nat_le count 5) refl e
  where
    go : (b : Bool) → (is_lower_case letter && nat_le count 6) ≡ b → (c : Bool) → (is_upper letter && nat_le count 5) ≡ c
        → (if b then Some (count + 4) else if c then Some (5 - count) else None) ≡ Some octave → IsCounted 97 6 letter count ⊎ IsCounted 65 5 letter count
    go true low c high e = inl (counted_with 97 103 6 letter count refl low)
    go false low true high e = inr (counted_with 65 71 5 letter count refl high)
    go false low false high e = absurd (cc)

abbrev IsAccidental : List ℕ → Type 0
IsAccidental text = (text ≡ []) ⊎ ((text ≡ codes "#") ⊎ (text ≡ codes "-"))

accidental_of : (text : List ℕ) (white key : ℕ) → altered text white ≡ Some key → IsAccidental text
accidental_of text white key e =
    go (bytes_eq text []) refl (bytes_eq text (codes "#")) refl (is_black (white + 1)) (bytes_eq text (codes "-")) refl (is_black (white - 1)) e
  where
    go : (b : Bool) → bytes_eq text [] ≡ b → (c : Bool) → bytes_eq text (codes "#") ≡ c → (sharp : Bool) → (d : Bool) → bytes_eq text (codes "-") ≡ d → (flat : Bool)
        → (if b then Some white else if c && sharp then Some (white + 1) else if d && flat then Some (white - 1) else None) ≡ Some key → IsAccidental text
    go true is c other sharp d last flat e = inl ((bytes_eq-Decides text []).0 is)
    go false is true other true d last flat e = inr (inl ((bytes_eq-Decides text (codes "#")).0 other))
    go false is true other false true last flat e = inr (inr ((bytes_eq-Decides text (codes "-")).0 last))
    go false is true other false false last flat e = absurd (cc)
    go false is false other sharp true last flat e = inr (inr ((bytes_eq-Decides text (codes "-")).0 last))
    go false is false other sharp false last flat e = absurd (cc)

within_of : (n k : ℕ) → within_keys n ≡ Some k → k < 128
within_of n k e = go (nat_lt n 128) refl e
  where
    go : (b : Bool) → nat_lt n 128 ≡ b → (if b then Some n else None) ≡ Some k → k < 128
    go true few e = let same : n ≡ k = cc in let less : n < 128 = grind (arith, nat_tests) in omega (arith, same, less)
    go false few e = absurd (cc)

record IsRead (letter count : ℕ) (accidental : List ℕ) (k : ℕ) : Type 0 where
  letters : IsCounted 97 6 letter count ⊎ IsCounted 65 5 letter count
  accidental_is : IsAccidental accidental
  within : k < 128

read_of : (letter count : ℕ) (accidental : List ℕ) (k : ℕ) → key_of_letters letter count accidental ≡ Some k → IsRead letter count accidental k
read_of letter count accidental k e =
    let (octave, one, e1) = some_of (octave_of letter count) _ k e in
    let (white, two, e2) = some_of (white_key letter) _ k e1 in
    let (key, three, e3) = some_of (altered accidental white) _ k e2 in
    record { letters = letter_of letter count octave one; accidental_is = accidental_of accidental white key three; within = within_of (12 * octave + key) k e3 }

-- ---- so it is a pitch

abbrev IsPitch : List ℕ → ℕ → Type 0
IsPitch text k = (text ≡ pitch false k) ⊎ (text ≡ pitch true k)

pitch_of : (text : List ℕ) (k : ℕ) (o : Option ℕ) → is_pitch text o ≡ true → o ≡ Some k → IsPitch text k
unfolding is_pitch
pitch_of text k None test e = absurd (cc)
pitch_of text k (Some j) test e = let same : j ≡ k = cc in subst (IsPitch text) same (go (bytes_eq text (pitch false j)) refl (bytes_eq text (pitch true j)) refl test)
  where
    go : (b : Bool) → bytes_eq text (pitch false j) ≡ b → (c : Bool) → bytes_eq text (pitch true j) ≡ c → (b || c) ≡ true → IsPitch text j
    go true is c other test = inl ((bytes_eq-Decides text (pitch false j)).0 is)
    go false is true other test = inr ((bytes_eq-Decides text (pitch true j)).0 other)
    go false is false other test = absurd (cc)

only_of : (letter n : ℕ) (accidental : List ℕ) → IsCounted 97 6 letter (suc n) ⊎ IsCounted 65 5 letter (suc n) → IsAccidental accidental → is_only letter accidental (suc n) ≡ true
only_of letter n accidental (inl low) (inl plain) = subst (λ t. is_only letter t (suc n) ≡ true) (sym plain) (one_only 97 6 [] letter n lower_plain low.low low.high low.few)
only_of letter n accidental (inl low) (inr (inl sharp)) = subst (λ t. is_only letter t (suc n) ≡ true) (sym sharp) (one_only 97 6 (codes "#") letter n lower_sharp low.low low.high low.few)
only_of letter n accidental (inl low) (inr (inr flat)) = subst (λ t. is_only letter t (suc n) ≡ true) (sym flat) (one_only 97 6 (codes "-") letter n lower_flat low.low low.high low.few)
only_of letter n accidental (inr high) (inl plain) = subst (λ t. is_only letter t (suc n) ≡ true) (sym plain) (one_only 65 5 [] letter n upper_plain high.low high.high high.few)
only_of letter n accidental (inr high) (inr (inl sharp)) = subst (λ t. is_only letter t (suc n) ≡ true) (sym sharp) (one_only 65 5 (codes "#") letter n upper_sharp high.low high.high high.few)
only_of letter n accidental (inr high) (inr (inr flat)) = subst (λ t. is_only letter t (suc n) ≡ true) (sym flat) (one_only 65 5 (codes "-") letter n upper_flat high.low high.high high.few)

-- the letters that a text begins with, and the rest
prefix_split : (letter : ℕ) (text : List ℕ) → text ≡ replicate (prefix_len (λ b. b == letter) text) letter ++ drop (prefix_len (λ b. b == letter) text) text
prefix_split letter [] = refl
prefix_split letter (b ∷ text) = go (b == letter) refl (prefix_split letter text)
  where
    go : (t : Bool) → (b == letter) ≡ t → text ≡ replicate (prefix_len (λ b. b == letter) text) letter ++ drop (prefix_len (λ b. b == letter) text) text
        → b ∷ text ≡ replicate (cond t (1 + prefix_len (λ b. b == letter) text) 0) letter ++ drop (cond t (1 + prefix_len (λ b. b == letter) text) 0) (b ∷ text)
    go true e rest =
        let same : b ≡ letter = grind (arith, nat_tests) in
        let one : 1 + prefix_len (λ b. b == letter) text ≡ suc (prefix_len (λ b. b == letter) text) = omega arith in
        subst (λ n. b ∷ text ≡ replicate n letter ++ drop n (b ∷ text)) (sym one) (λ i. same i ∷ rest i)
    go false e rest = refl

pub only_pitches_are_read : OnlyPitchesAreRead
unfolding pitch_key
only_pitches_are_read [] k e = absurd (cc)
only_pitches_are_read (letter ∷ text) k e =
    let count = suc (prefix_len (λ b. b == letter) text) in
    let accidental = drop (prefix_len (λ b. b == letter) text) text in
    let read = read_of letter count accidental k e in
    let is = pitch_of (replicate count letter ++ accidental) k (key_of_letters letter count accidental) (only_of letter (prefix_len (λ b. b == letter) text) accidental read.letters read.accidental_is) e in
    let whole : letter ∷ text ≡ replicate count letter ++ accidental = ap (λ t. letter ∷ t) (prefix_split letter text) in
    (read.within, subst (λ t. IsPitch t k) (sym whole) is)
