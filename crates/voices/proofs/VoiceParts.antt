-- The notes of a channel stand together among notes in order.
use Rattle.std.proofs.Common.{◌≡◌, ℕ, zero, suc, ◌+◌, ◌-◌, ◌<◌, ◌≤◌, ◌∙◌, Bool, sym, ap, refl, true, false, List, [], ◌∷◌, drop, take, filter, get_or, length, inl, inr, arith}
use Rattle.std.specs.Prelude.{◌==◌, slice_get}
use Rattle.std.specs.List.{AllWithin, between}
use Rattle.std.proofs.lemmas.List.{drop-take, get_or-drop, length-drop}
use Rattle.std.proofs.Math.Seq.{drop-nil}
use Rattle.std.proofs.lemmas.Bool.{cases_lt}
use Rattle.std.proofs.lemmas.Bool.Decides.{nat_tests}
use Rattle.rhythm_base.specs.declared.note.Note.{Note}
use Rattle.rhythm_base.specs.Lists.{earlier}
use Rattle.rhythm_base.specs.Performance.{place_of_note}
use Rattle.tempo_map.proofs.InForce.{filter_front}
use Rattle.voices.specs.Voice.{AreNotesOfVoice}
use Rattle.voices.proofs.NoteBreaks.{notes_rise}

pub filter-skip : {X : Type 0} (p : X → Bool) (xs : List X) (n : ℕ) → n ≤ length xs → AllWithin (λ y. p y ≡ false) xs 0 n → filter p (drop n xs) ≡ filter p xs
filter-skip p xs zero within front = refl
filter-skip p [] (suc n) within front = absurd (omega arith)
filter-skip p (x ∷ xs) (suc n) within front =
    let no : p x ≡ false = front 0 x (omega arith) (omega arith) in
    rw no (filter-skip p xs n (omega arith) (λ k d l h. front (suc k) d (omega arith) (omega arith)))

-- those of one place up to another that pass, where no others do
pub filter-between : {X : Type 0} (p : X → Bool) (xs : List X) (from up_to : ℕ) → from ≤ up_to → up_to ≤ length xs
    → AllWithin (λ y. p y ≡ false) xs 0 from → AllWithin (λ y. p y ≡ true) xs from up_to → AllWithin (λ y. p y ≡ false) xs up_to (length xs)
    → between from up_to xs ≡ filter p xs
filter-between p xs from up_to order within none all later =
    sym
    (
    sym (filter-skip p xs from (omega (arith, order, within)) none)
    ∙ filter_front p (drop from xs) (up_to - from) (omega (arith, length-drop from xs, within))
    (λ k d l h. ap p (get_or-drop from xs k d) ∙ all (from + k) d (omega arith) (omega (arith, h)))
    (λ k d l h. ap p (get_or-drop from xs k d) ∙ later (from + k) d (omega (arith, l)) (omega (arith, h, length-drop from xs)))
    )

before_channel : (channel : ℕ) (n : Note) → earlier (place_of_note n) (channel ∷ 0 ∷ 0 ∷ []) ≡ true → n.channel < channel
before_channel channel n h = grind (arith, nat_tests, h)

from_channel : (channel : ℕ) (n : Note) → earlier (place_of_note n) (channel ∷ 0 ∷ 0 ∷ []) ≡ false → channel ≤ n.channel
from_channel channel n h = grind (arith, nat_tests, h)

module _ (notes : List Note) (channel from up_to : ℕ) (few : from ≤ length notes) (few_later : up_to ≤ length notes)
    (front : AllWithin (λ n. earlier (place_of_note n) (channel ∷ 0 ∷ 0 ∷ []) ≡ true) notes 0 from)
    (back : AllWithin (λ n. earlier (place_of_note n) (channel ∷ 0 ∷ 0 ∷ []) ≡ false) notes from (length notes))
    (front_later : AllWithin (λ n. earlier (place_of_note n) ((channel + 1) ∷ 0 ∷ 0 ∷ []) ≡ true) notes 0 up_to)
    (back_later : AllWithin (λ n. earlier (place_of_note n) ((channel + 1) ∷ 0 ∷ 0 ∷ []) ≡ false) notes up_to (length notes)) where
  pub part_order : from ≤ up_to
  part_order = elim (cases_lt up_to from) [
    | inl lt ↦ (
        let d : Note = record { channel = 0; key = 0; onset = 0; end = 0 } in
        let low = before_channel channel (get_or notes up_to d) (front up_to d (omega arith) lt) in
        let high = from_channel (channel + 1) (get_or notes up_to d) (back_later up_to d (omega arith) (omega (arith, lt, few))) in
        absurd (omega (arith, low, high)))
    | inr ge ↦ ge
  ]

  pub part_is : between from up_to notes ≡ filter (λ n. n.channel == channel) notes
  part_is =
      filter-between (λ n. n.channel == channel) notes from up_to part_order few_later
      (λ k d l h. let low = before_channel channel (get_or notes k d) (front k d l h) in grind (arith, nat_tests, low))
      (λ k d l h. let low = from_channel channel (get_or notes k d) (back k d l (omega (arith, h, few_later))) in
      let high = before_channel (channel + 1) (get_or notes k d) (front_later k d (omega arith) h) in grind (arith, nat_tests, low, high))
      (λ k d l h. let high = from_channel (channel + 1) (get_or notes k d) (back_later k d l h) in grind (arith, nat_tests, high))

-- ---- searches by onset

module _ (ns : List Note) (tick : ℕ) (v : AreNotesOfVoice ns) where
  pub up_to_one : (m : ℕ) → m < length ns → ((d : Note) → (get_or ns m d).onset < tick) → (k : ℕ) (d : Note) → k ≤ m → (get_or ns k d).onset < tick
  up_to_one m lt h k d le = let rise = notes_rise ns k m d v le lt in let low = h d in omega (arith, rise, low)

  pub after_one : (m : ℕ) → ((d : Note) → tick ≤ (get_or ns m d).onset) → (k : ℕ) (d : Note) → m ≤ k → k < length ns → tick ≤ (get_or ns k d).onset
  after_one m h k d le lt = let rise = notes_rise ns m k d v le lt in let high = h d in omega (arith, rise, high)

-- ---- a part of a part

drop_twice : {X : Type 0} (xs : List X) (m n k : ℕ) → k ≡ m + n → drop n (drop m xs) ≡ drop k xs
drop_twice xs zero n k is = let same : n ≡ k = omega (arith, is) in ap (λ i. drop i xs) same
drop_twice [] (suc m) zero k is = sym (drop-nil k)
drop_twice [] (suc m) (suc n) k is = sym (drop-nil k)
drop_twice (x ∷ xs) (suc m) n zero is = absurd (omega (arith, is))
drop_twice (x ∷ xs) (suc m) n (suc k) is = drop_twice xs m n k (omega (arith, is))

take_less : {X : Type 0} (xs : List X) (i n : ℕ) → i ≤ n → take i (take n xs) ≡ take i xs
take_less xs zero n le = refl
take_less xs (suc i) zero le = absurd (omega (arith, le))
take_less [] (suc i) (suc n) le = refl
take_less (x ∷ xs) (suc i) (suc n) le = ap (λ l. x ∷ l) (take_less xs i n (omega (arith, le)))

pub part_of_part : {X : Type 0} (xs : List X) (from up_to i j : ℕ) → i ≤ j → j ≤ up_to - from → from ≤ up_to → up_to ≤ length xs
    → between (from + i) (from + j) xs ≡ between i j (between from up_to xs)
part_of_part xs from up_to i j le few order within =
    let long : from + j - (from + i) ≡ j - i = omega (arith, le) in
    let most : i + (up_to - from - i) ≡ up_to - from = omega (arith, le, few) in
    let less : j - i ≤ up_to - from - i = omega (arith, few) in
    ap (λ n. take n (drop (from + i) xs)) long
    ∙ sym
    (
    ap (λ n. take (j - i) (drop i (take n (drop from xs)))) (sym most)
    ∙ ap (take (j - i)) (drop-take i (up_to - from - i) (drop from xs))
    ∙ take_less (drop i (drop from xs)) (j - i) (up_to - from - i) less
    ∙ ap (take (j - i)) (drop_twice xs from i (from + i) refl)
    )

get_drop : {X : Type 0} (xs : List X) (m k n : ℕ) → n ≡ m + k → slice_get (drop m xs) k ≡ slice_get xs n
get_drop xs zero k n is = let same : k ≡ n = omega (arith, is) in ap (slice_get xs) same
get_drop [] (suc m) k n is = refl
get_drop (x ∷ xs) (suc m) k zero is = absurd (omega (arith, is))
get_drop (x ∷ xs) (suc m) k (suc n) is = get_drop xs m k n (omega (arith, is))

get_take : {X : Type 0} (xs : List X) (n k : ℕ) → k < n → slice_get (take n xs) k ≡ slice_get xs k
get_take xs zero k lt = absurd (omega (arith, lt))
get_take [] (suc n) k lt = refl
get_take (x ∷ xs) (suc n) zero lt = refl
get_take (x ∷ xs) (suc n) (suc k) lt = get_take xs n k (omega (arith, lt))

pub get_part : {X : Type 0} (xs : List X) (from up_to k : ℕ) → k < up_to - from → slice_get xs (from + k) ≡ slice_get (between from up_to xs) k
get_part xs from up_to k lt = sym (get_take (drop from xs) (up_to - from) k lt ∙ get_drop xs from k (from + k) refl)
