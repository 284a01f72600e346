-- A list is cut into parts from its beginning on.
use Rattle.std.proofs.Common.{◌≡◌, ℕ, zero, suc, ◌+◌, ◌-◌, ◌<◌, ◌≤◌, Bool, true, false, cond, List, [], ◌∷◌, ◌++◌, length, take, drop, get_or, refl, sym, ap, ◌∙◌, arith, append_assoc, length-drop}
use Rattle.std.specs.List.{flat_map, slice_range}
use Rattle.std.proofs.lemmas.List.{append-nil, drop_more, get_or-drop, take_more}
use Rattle.performance_prepare.specs.Parts.{parts, parts_from}

pub whole : {X : Type 0} (ys : List X) (n : ℕ) → length ys ≤ n → take n ys ≡ ys
whole [] zero le = refl
whole [] (suc n) le = refl
whole (y ∷ ys) zero le = absurd (omega (arith, le))
whole (y ∷ ys) (suc n) le = ap (λ zs. y ∷ zs) (whole ys n (omega (arith, le)))

-- the part of a list from a place on
pub rest_whole : {X : Type 0} (xs : List X) (n : ℕ) → take (length xs - n) (drop n xs) ≡ drop n xs
rest_whole xs n = whole (drop n xs) (length xs - n) (let long = length-drop n xs in omega (arith, long))

module _ {X : Type 0} (joins : List X → X → X → Bool) where
  abbrev pub Cut : List X → ℕ → ℕ → X → List (List X)
  Cut xs start index d = parts_from joins (slice_range xs start index) (get_or xs (index - 1) d) (drop index xs)

  longer : (xs : List X) (start index : ℕ) (d : X) → start ≤ index → index < length xs
      → slice_range xs start (index + 1) ≡ slice_range xs start index ++ get_or xs index d ∷ []
  longer xs start index d le lt =
      let wide : index + 1 - start ≡ (index - start) + 1 = omega arith in
      let long : length (drop start xs) ≡ length xs - start = length-drop start xs in
      let there : get_or (drop start xs) (index - start) d ≡ get_or xs index d = get_or-drop start xs (index - start) d
      ∙ ap (λ n. get_or xs n d) (let e : start + (index - start) ≡ index = omega arith in e) in
      ap (λ n. take n (drop start xs)) wide ∙ take_more (drop start xs) (index - start) d (omega (arith, long))
      ∙ ap (λ x. take (index - start) (drop start xs) ++ x ∷ []) there

  pub cut_joined : (xs : List X) (start index : ℕ) (d : X) → start ≤ index → index < length xs
      → joins (slice_range xs start index) (get_or xs (index - 1) d) (get_or xs index d) ≡ true
      → Cut xs start index d ≡ Cut xs start (index + 1) d
  cut_joined xs start index d le lt h =
      ap (parts_from joins (slice_range xs start index) (get_or xs (index - 1) d)) (drop_more xs index d lt)
      ∙ ap (λ b. cond b (parts_from joins (slice_range xs start index ++ get_or xs index d ∷ []) (get_or xs index d) (drop (index + 1) xs))
      (slice_range xs start index ∷ parts_from joins (get_or xs index d ∷ []) (get_or xs index d) (drop (index + 1) xs))) h
      ∙ (λ i. parts_from joins (sym (longer xs start index d le lt) i) (get_or xs (let e : index ≡ index + 1 - 1 = omega arith in
      e i) d) (drop (index + 1) xs))

  pub cut_parted : (xs : List X) (start index : ℕ) (d : X) → index < length xs
      → joins (slice_range xs start index) (get_or xs (index - 1) d) (get_or xs index d) ≡ false
      → Cut xs start index d ≡ slice_range xs start index ∷ Cut xs index (index + 1) d
  cut_parted xs start index d lt h =
      let none : slice_range xs index index ≡ [] = ap (λ n. take n (drop index xs)) (let e : index - index ≡ 0 = omega arith in e) in
      let one : get_or xs index d ∷ [] ≡ slice_range xs index (index + 1) =
      sym (longer xs index index d (omega arith) lt ∙ ap (λ ys. ys ++ get_or xs index d ∷ []) none) in
      ap (parts_from joins (slice_range xs start index) (get_or xs (index - 1) d)) (drop_more xs index d lt)
      ∙ ap (λ b. cond b (parts_from joins (slice_range xs start index ++ get_or xs index d ∷ []) (get_or xs index d) (drop (index + 1) xs))
      (slice_range xs start index ∷ parts_from joins (get_or xs index d ∷ []) (get_or xs index d) (drop (index + 1) xs))) h
      ∙ (λ i. slice_range xs start index ∷ parts_from joins (one i) (get_or xs (let e : index ≡ index + 1 - 1 = omega arith in
      e i) d) (drop (index + 1) xs))

  -- where the list ends the part so far is the last
  pub cut_end : (xs : List X) (start index : ℕ) (d : X) → length xs ≤ index → Cut xs start index d ≡ drop start xs ∷ []
  cut_end xs start index d past =
      let none : drop index xs ≡ [] = empty (drop index xs) (let long = length-drop index xs in omega (arith, long, past)) in
      ap (parts_from joins (slice_range xs start index) (get_or xs (index - 1) d)) none
      ∙ ap (λ ys. ys ∷ []) (whole (drop start xs) (index - start) (let long = length-drop start xs in omega (arith, long, past)))
    where
      empty : (ys : List X) → length ys ≡ 0 → ys ≡ []
      empty [] e = refl
      empty (y ∷ ys) e = absurd (omega (arith, e))

  module _ {Y : Type 0} (f : List X → List Y) where
    pub cut_begin : (xs : List X) (d : X) → f [] ≡ [] → flat_map f (Cut xs 0 1 d) ≡ flat_map f (parts joins xs)
    cut_begin [] d e = append-nil (f []) ∙ e
    cut_begin (x ∷ xs) d e = refl

    pub begin_more : (xs : List X) (start index : ℕ) (d : X) (placed : List Y) (all : List Y) → start ≤ index → index < length xs
        → joins (slice_range xs start index) (get_or xs (index - 1) d) (get_or xs index d) ≡ true
        → placed ++ flat_map f (Cut xs start index d) ≡ all → placed ++ flat_map f (Cut xs start (index + 1) d) ≡ all
    begin_more xs start index d placed all le lt h e = ap (λ ps. placed ++ flat_map f ps) (sym (cut_joined xs start index d le lt h)) ∙ e

    pub begin_part : (xs : List X) (start index : ℕ) (d : X) (placed more : List Y) (all : List Y) → index < length xs
        → joins (slice_range xs start index) (get_or xs (index - 1) d) (get_or xs index d) ≡ false
        → more ≡ placed ++ f (slice_range xs start index) → placed ++ flat_map f (Cut xs start index d) ≡ all
        → more ++ flat_map f (Cut xs index (index + 1) d) ≡ all
    begin_part xs start index d placed more all lt h m e =
        ap (λ ys. ys ++ flat_map f (Cut xs index (index + 1) d)) m
        ∙ append_assoc placed (f (slice_range xs start index)) (flat_map f (Cut xs index (index + 1) d))
        ∙ sym (ap (λ ps. placed ++ flat_map f ps) (cut_parted xs start index d lt h)) ∙ e

    pub begin_end : (xs : List X) (start index : ℕ) (d : X) (placed more : List Y) (all : List Y) → length xs ≤ index
        → more ≡ placed ++ f (drop start xs) → placed ++ flat_map f (Cut xs start index d) ≡ all → more ≡ all
    begin_end xs start index d placed more all past m e =
        m ∙ ap (λ ys. placed ++ ys) (sym (append-nil (f (drop start xs))))
        ∙ sym (ap (λ ps. placed ++ flat_map f ps) (cut_end xs start index d past)) ∙ e

-- ---- the first part from a place on

module _ {X : Type 0} (joins : List X → X → X → Bool) where
  pub parts_begin : (xs : List X) (start : ℕ) (d : X) → start < length xs → parts joins (drop start xs) ≡ Cut joins xs start (start + 1) d
  parts_begin xs start d lt =
      ap (parts joins) (drop_more xs start d lt)
      ∙ (λ i. parts_from joins (one (start + 1 - start) (let e : start + 1 - start ≡ 1 = omega arith in
      e) (drop start xs) (drop_more xs start d lt) i) (get_or xs (let e : start ≡ start + 1 - 1 = omega arith in
      e i) d) (drop (start + 1) xs))
    where
      one : (n : ℕ) → n ≡ 1 → (ys : List X) → ys ≡ get_or xs start d ∷ drop (start + 1) xs → get_or xs start d ∷ [] ≡ take n ys
      one n e ys f = sym (ap (λ m. take m ys) e ∙ ap (take 1) f)

  pub parts_first : (xs : List X) (start index : ℕ) (d : X) → index < length xs
      → joins (slice_range xs start index) (get_or xs (index - 1) d) (get_or xs index d) ≡ false
      → parts joins (drop start xs) ≡ Cut joins xs start index d
      → parts joins (drop start xs) ≡ slice_range xs start index ∷ parts joins (drop index xs)
  parts_first xs start index d lt apart h = h ∙ cut_parted joins xs start index d lt apart
      ∙ ap (λ ps. slice_range xs start index ∷ ps) (sym (parts_begin xs index d lt))

  pub parts_more : (xs : List X) (start index : ℕ) (d : X) → start ≤ index → index < length xs
      → joins (slice_range xs start index) (get_or xs (index - 1) d) (get_or xs index d) ≡ true
      → parts joins (drop start xs) ≡ Cut joins xs start index d
      → parts joins (drop start xs) ≡ Cut joins xs start (index + 1) d
  parts_more xs start index d le lt one h = h ∙ cut_joined joins xs start index d le lt one

  pub parts_last : (xs : List X) (start index : ℕ) (d : X) → length xs ≤ index → parts joins (drop start xs) ≡ Cut joins xs start index d
      → parts joins (drop start xs) ≡ slice_range xs start (length xs) ∷ parts joins (drop (length xs) xs)
  parts_last xs start index d past h =
      h ∙ cut_end joins xs start index d past
      ∙ (λ i. sym (rest_whole xs start) i ∷ parts joins
      (sym (none (drop (length xs) xs) (let long = length-drop (length xs) xs in omega (arith, long))) i))
    where
      none : (ys : List X) → length ys ≡ 0 → ys ≡ []
      none [] e = refl
      none (y ∷ ys) e = absurd (omega (arith, e))
