use Rattle.std.proofs.Common.{◌≡◌, ⊎_elim, ℕ, zero, suc, ◌+◌, ◌-◌, ◌≤◌, ◌<◌, List, [], ◌∷◌, ◌++◌, length, drop, get_or, refl, ap, ap₂, subst, arith, length-append, length-drop}
use Rattle.std.specs.Prelude.{slice_get, slice_range, Some}
use Rattle.std.specs.Str.{IsCharBoundary, IsUtf8}
use Rattle.std.proofs.lemmas.Str.{IsCharBoundary-end, IsCharBoundary-at_seam, IsCharBoundary-start}
use Rattle.std.proofs.lemmas.Option.{slice_get-get_or}
use Rattle.std.proofs.lemmas.List.{drop-append-le, take-append-le}
use Rattle.std.proofs.Math.Seq.{drop-append_seam, take-length}
use Rattle.std.specs.Prelude.{slice_index}
use Rattle.std.proofs.lemmas.Bool.{cases_lt}
use Rattle.rhythm_base.specs.Pieces.{pieces, AreEnds}

pub length-pieces : (text : List ℕ) (from : ℕ) (ends : List ℕ) → length (pieces text from ends) ≡ length ends
length-pieces text from [] = refl
length-pieces text from (end ∷ ends) = ap suc (length-pieces text end ends)

-- where the piece k begins
abbrev pub start_of : ℕ → List ℕ → ℕ → ℕ
start_of from [] k = from
start_of from (end ∷ ends) zero = from
start_of from (end ∷ ends) (suc k) = start_of end ends k

pub pieces-at : (text : List ℕ) (from : ℕ) (ends : List ℕ) (k end : ℕ) → slice_get ends k ≡ Some end → slice_get (pieces text from ends) k ≡ Some (slice_range text (start_of from ends k) end)
pieces-at text from [] k end e = absurd (cc)
pieces-at text from (x ∷ xs) zero end e = let same : x ≡ end = cc in ap (λ n. Some (slice_range text from n)) same
pieces-at text from (x ∷ xs) (suc k) end e = pieces-at text x xs k end e

pub start_of-zero : (from : ℕ) (ends : List ℕ) → start_of from ends 0 ≡ from
start_of-zero from [] = refl
start_of-zero from (x ∷ xs) = refl

pub start_of-suc : (from : ℕ) (ends : List ℕ) (k start : ℕ) → slice_get ends k ≡ Some start → suc k < length ends → start_of from ends (suc k) ≡ start
start_of-suc from [] k start e h = absurd (cc)
start_of-suc from (x ∷ []) k start e h = absurd (omega arith)
start_of-suc from (x ∷ y ∷ ys) zero start e h = cc
start_of-suc from (x ∷ y ∷ ys) (suc k) start e h = start_of-suc x (y ∷ ys) k start e (omega arith)

pub AreEnds-at : (text : List ℕ) (from : ℕ) (ends : List ℕ) (k end : ℕ) → AreEnds text from ends → IsCharBoundary text from → slice_get ends k ≡ Some end
    → (start_of from ends k ≤ end) × IsCharBoundary text (start_of from ends k) × IsCharBoundary text end
AreEnds-at text from [] k end h b e = absurd (cc)
AreEnds-at text from (x ∷ xs) zero end h b e =
    let same : x ≡ end = cc in
    let P : ℕ → Type 0 = λ n. (from ≤ n) × IsCharBoundary text from × IsCharBoundary text n in
    subst P same (h.0, b, h.1)
AreEnds-at text from (x ∷ xs) (suc k) end h b e = AreEnds-at text x xs k end h.2 h.1 e

get_or-append_left : (xs ys : List ℕ) (i d : ℕ) → i < length xs → get_or (xs ++ ys) i d ≡ get_or xs i d
get_or-append_left [] ys i d h = absurd (omega arith)
get_or-append_left (x ∷ xs) ys zero d h = refl
get_or-append_left (x ∷ xs) ys (suc i) d h = get_or-append_left xs ys i d (omega arith)

within_longer : (text word : List ℕ) (i : ℕ) → IsUtf8 word → IsCharBoundary text i → IsCharBoundary (text ++ word) i
within_longer text word i utf8 h = ⊎_elim inside outside (cases_lt i (length text))
  where
    inside : i < length text → IsCharBoundary (text ++ word) i
    inside low =
        let same : slice_index (text ++ word) i ≡ slice_index text i = get_or-append_left text word i 0 low in
        (omega (arith, length-append text word), λ _ a. rw same (h.1 low (rw same at a)))

    outside : length text ≤ i → IsCharBoundary (text ++ word) i
    outside high =
        let here : length text ≡ i = omega (arith, h.0) in
        let P : ℕ → Type 0 = IsCharBoundary (text ++ word) in
        subst P here (IsCharBoundary-at_seam (text ++ word) text word refl utf8)

range_longer : (text word : List ℕ) (i j : ℕ) → j ≤ length text → slice_range (text ++ word) i j ≡ slice_range text i j
range_longer text word i j h = ⊎_elim inside outside (cases_lt (length text) i)
  where
    inside : length text < i → slice_range (text ++ word) i j ≡ slice_range text i j
    inside past = let none : j - i ≡ 0 = omega arith in rw none refl

    outside : i ≤ length text → slice_range (text ++ word) i j ≡ slice_range text i j
    outside low =
        let part : j - i ≤ length (drop i text) = omega (arith, length-drop i text) in
        rw (drop-append-le i text word low) (take-append-le (j - i) (drop i text) word part)

range_last : (text word : List ℕ) (i : ℕ) → length text ≡ i → slice_range (text ++ word) i (length text + length word) ≡ word
range_last text word i h =
    let P : ℕ → Type 0 = λ n. slice_range (text ++ word) n (length text + length word) ≡ word in
    let count : length text + length word - length text ≡ length word = omega arith in
    subst P h (rw (drop-append_seam text word, count) (take-length word))

pub pieces-push : (text word : List ℕ) (from : ℕ) (ends : List ℕ) → AreEnds text from ends
    → pieces (text ++ word) from (ends ++ (length text + length word) ∷ []) ≡ pieces text from ends ++ word ∷ []
pieces-push text word from [] h = ap (λ w. w ∷ []) (range_last text word from h)
pieces-push text word from (end ∷ ends) h = ap₂ (λ x xs. x ∷ xs) (range_longer text word from end h.1.0) (pieces-push text word end ends h.2)

pub AreEnds-push : (text word : List ℕ) (from : ℕ) (ends : List ℕ) → IsUtf8 word → AreEnds text from ends → AreEnds (text ++ word) from (ends ++ (length text + length word) ∷ [])
AreEnds-push text word from [] utf8 h =
    let long = length-append text word in
    let P : ℕ → Type 0 = IsCharBoundary (text ++ word) in
    (omega arith, subst P long (IsCharBoundary-end (text ++ word)), long)
AreEnds-push text word from (end ∷ ends) utf8 h = (h.0, within_longer text word end utf8 h.1, AreEnds-push text word end ends utf8 h.2)

-- the piece at a place past the first, by the ends before it and after it
pub record Between (text : List ℕ) (ends : List ℕ) (k start end : ℕ) : Type 0 where
  pub rises : start ≤ end
  pub starts : IsCharBoundary text start
  pub ends_there : IsCharBoundary text end
  pub piece : slice_get (pieces text 0 ends) k ≡ Some (slice_range text start end)

between_suc : (text : List ℕ) (ends : List ℕ) (k : ℕ) → IsUtf8 text → AreEnds text 0 ends → suc k < length ends → Between text ends (suc k) (get_or ends k 0) (get_or ends (suc k) 0)
between_suc text ends k utf8 h within =
    let before = slice_get-get_or ends k 0 (omega arith) in
    let here = slice_get-get_or ends (suc k) 0 within in
    let at = AreEnds-at text 0 ends (suc k) (get_or ends (suc k) 0) h (IsCharBoundary-start text utf8) here in
    let start = start_of-suc 0 ends k (get_or ends k 0) before within in
    let P : ℕ → Type 0 = λ n. Between text ends (suc k) n (get_or ends (suc k) 0) in
    subst P start (record { rises = at.0; starts = at.1; ends_there = at.2; piece = pieces-at text 0 ends (suc k) (get_or ends (suc k) 0) here })

pub between : (text : List ℕ) (ends : List ℕ) (k : ℕ) → IsUtf8 text → AreEnds text 0 ends → k < length ends → 0 < k → Between text ends k (get_or ends (k - 1) 0) (get_or ends k 0)
between text ends zero utf8 h within some = absurd (omega arith)
between text ends (suc k) utf8 h within some =
    let one : suc k - 1 ≡ k = omega arith in
    rw one (between_suc text ends k utf8 h within)
