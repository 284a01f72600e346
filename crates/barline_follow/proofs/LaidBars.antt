-- Bars that are laid on barlines, and what edits of barlines make of them.
use Rattle.std.proofs.Common.{◌≡◌, ℕ, zero, suc, ◌+◌, ◌-◌, ◌<◌, ◌≤◌, ◌⊎◌, inl, inr, true, false, List, [], ◌∷◌, ◌++◌, length, take, set, refl, ap, ap₂, sym, ◌∙◌, arith}
use Rattle.std.specs.Prelude.{filter, nat_lt, if◌then◌else◌, ◌==◌, slice_get, Some}
use Rattle.std.proofs.lemmas.Bool.{cases_lt, eq-eqb, ne_eqb}
use Rattle.rhythm_base.specs.declared.edit.Edit.TheVariants.{AddBar, Barline, DropBar}
use Rattle.rhythm_base.specs.declared.note.Bar.{Bar}
use Rattle.rhythm_base.specs.declared.pin.Pin as pin
use Rattle.rhythm_base.specs.Barlines.{barline, nominal, nominal_of}
use Rattle.edit_laws.specs.Edits.{next_bar, performance_after, with_barline, with_start}
use Rattle.rhythm_base.specs.Lists.{last_end, last_of}
use Rattle.rhythm_base.specs.Performance.{Performance}
use Rattle.barline_follow.proofs.Further.{last_pushed}

module _ (pat : ℕ → Bar) where
  -- bar i is like pat i
  abbrev pub laid : ℕ → List ℕ → List Bar
  laid i [] = []
  laid i (t ∷ []) = []
  laid i (t ∷ u ∷ ticks) = with_start t (pat i) ∷ laid (suc i) (u ∷ ticks)

  pub length-laid : (i : ℕ) (ticks : List ℕ) → length (laid i ticks) ≡ length ticks - 1
  length-laid i [] = omega arith
  length-laid i (t ∷ []) = omega arith
  length-laid i (t ∷ u ∷ ticks) = let h = length-laid (suc i) (u ∷ ticks) in omega (arith, h)

  -- ---- another start

  laid_cons : (i a : ℕ) (ticks : List ℕ) → 1 ≤ length ticks → laid i (a ∷ ticks) ≡ with_start a (pat i) ∷ laid (suc i) ticks
  laid_cons i a [] h = absurd (omega (arith, h))
  laid_cons i a (t ∷ ticks) h = refl

  length-set_cons : (t b : ℕ) (ticks : List ℕ) (k : ℕ) → 1 ≤ length (set (b ∷ ticks) k t)
  length-set_cons t b ticks zero = omega arith
  length-set_cons t b ticks (suc k) = omega arith

  pub laid-set : (j t i : ℕ) (ticks : List ℕ) → with_barline j t (laid i ticks) ≡ laid i (set ticks j t)
  laid-set zero t i [] = refl
  laid-set (suc j) t i [] = refl
  laid-set zero t i (a ∷ []) = refl
  laid-set (suc j) t i (a ∷ []) = refl
  laid-set zero t i (a ∷ b ∷ ticks) = refl
  laid-set (suc j) t i (a ∷ b ∷ ticks) =
      ap (λ l. with_start a (pat i) ∷ l) (laid-set j t (suc i) (b ∷ ticks))
      ∙ sym (laid_cons i a (set (b ∷ ticks) j t) (length-set_cons t b ticks j))

  pub last-set : (e j t : ℕ) (ticks : List ℕ) → j < length ticks → (if j == length (laid 0 ticks) then t else last_end e ticks) ≡ last_end e (set ticks j t)
  last-set e j t ticks lt = at (cases_lt (j + 1) (length ticks))
    where
      inside : (e j t : ℕ) (ticks : List ℕ) → j + 1 < length ticks → last_end e (set ticks j t) ≡ last_end e ticks
      inside e j t [] lt = absurd (omega (arith, lt))
      inside e zero t (a ∷ []) lt = absurd (omega (arith, lt))
      inside e zero t (a ∷ b ∷ ticks) lt = refl
      inside e (suc j) t (a ∷ ticks) lt = inside a j t ticks (omega (arith, lt))

      at_end : (e j t : ℕ) (ticks : List ℕ) → j + 1 ≡ length ticks → last_end e (set ticks j t) ≡ t
      at_end e j t [] is = absurd (omega (arith, is))
      at_end e zero t (a ∷ []) is = refl
      at_end e zero t (a ∷ b ∷ ticks) is = absurd (omega (arith, is))
      at_end e (suc j) t (a ∷ ticks) is = at_end a j t ticks (omega (arith, is))

      at : (j + 1 < length ticks) ⊎ (length ticks ≤ j + 1) → (if j == length (laid 0 ticks) then t else last_end e ticks) ≡ last_end e (set ticks j t)
      at (inl low) =
          let long = length-laid 0 ticks in
          let no : (j == length (laid 0 ticks)) ≡ false = ne_eqb j (length (laid 0 ticks)) (λ is. omega (arith, is, long, low)) in
          ap (λ b. if b then t else last_end e ticks) no ∙ sym (inside e j t ticks low)
      at (inr past) =
          let long = length-laid 0 ticks in
          let yes : (j == length (laid 0 ticks)) ≡ true = eq-eqb j (length (laid 0 ticks)) (omega (arith, long, lt, past)) in
          ap (λ b. if b then t else last_end e ticks) yes ∙ sym (at_end e j t ticks (omega (arith, lt, past)))

  -- ---- one bar more

  pub laid-push : (i e x : ℕ) (ticks : List ℕ) → 1 ≤ length ticks
      → laid i (ticks ++ (x ∷ [])) ≡ laid i ticks ++ (with_start (last_end e ticks) (pat (i + (length ticks - 1))) ∷ [])
  laid-push i e x [] h = absurd (omega (arith, h))
  laid-push i e x (t ∷ []) h = let at : i + (1 - 1) ≡ i = omega arith in ap (λ k. with_start t (pat k) ∷ []) (sym at)
  laid-push i e x (t ∷ u ∷ ticks) h =
      let at : suc i + (length (u ∷ ticks) - 1) ≡ i + (length (t ∷ u ∷ ticks) - 1) = omega arith in
      ap (λ l. with_start t (pat i) ∷ l) (laid-push (suc i) t x (u ∷ ticks) (omega arith)
      ∙ ap (λ k. laid (suc i) (u ∷ ticks) ++ (with_start (last_end u ticks) (pat k) ∷ [])) at)

  last_laid : (i e d : ℕ) (ticks : List ℕ) → 2 ≤ length ticks → (t : ℕ) × (slice_get (laid i ticks) (length (laid i ticks) - 1) ≡ Some (with_start t (pat (i + (length ticks - 2)))))
  last_laid i e d [] h = absurd (omega (arith, h))
  last_laid i e d (t ∷ []) h = absurd (omega (arith, h))
  last_laid i e d (t ∷ u ∷ []) h = let at : i + (2 - 2) ≡ i = omega arith in (t, ap (λ k. Some (with_start t (pat k))) (sym at))
  last_laid i e d (t ∷ u ∷ v ∷ ticks) h =
      let rest = last_laid (suc i) e d (u ∷ v ∷ ticks) (omega arith) in
      let long = length-laid (suc i) (u ∷ v ∷ ticks) in
      let at : suc i + (length (u ∷ v ∷ ticks) - 2) ≡ i + (length (t ∷ u ∷ v ∷ ticks) - 2) = omega arith in
      let place : length (laid i (t ∷ u ∷ v ∷ ticks)) - 1 ≡ suc (length (laid (suc i) (u ∷ v ∷ ticks)) - 1) = omega (arith, long) in
      (rest.0, ap (slice_get (laid i (t ∷ u ∷ v ∷ ticks))) place ∙ rest.1 ∙ ap (λ k. Some (with_start rest.0 (pat k))) at)

  -- ---- one bar fewer

  pub laid-take : (i n : ℕ) (ticks : List ℕ) → take (n - 1) (laid i ticks) ≡ laid i (take n ticks)
  laid-take i zero ticks = let at : zero - 1 ≡ zero = omega arith in ap (λ k. take k (laid i ticks)) at
  laid-take i (suc n) [] = let at : suc n - 1 ≡ n = omega arith in ap (λ k. take k []) at ∙ none n
    where
      none : (n : ℕ) → take n [] ≡ laid i []
      none zero = refl
      none (suc n) = refl
  laid-take i (suc n) (t ∷ []) = let at : suc n - 1 ≡ n = omega arith in ap (λ k. take k []) at ∙ none n
    where
      none : (n : ℕ) → take n [] ≡ laid i (t ∷ take n [])
      none zero = refl
      none (suc n) = refl
  laid-take i (suc zero) (t ∷ u ∷ ticks) = let at : suc zero - 1 ≡ zero = omega arith in ap (λ k. take k (laid i (t ∷ u ∷ ticks))) at
  laid-take i (suc (suc n)) (t ∷ u ∷ ticks) =
      let at : suc (suc n) - 1 ≡ suc n = omega arith in
      let below : suc n - 1 ≡ n = omega arith in
      ap (λ k. take k (laid i (t ∷ u ∷ ticks))) at
      ∙ ap (λ l. with_start t (pat i) ∷ l) (ap (λ k. take k (laid (suc i) (u ∷ ticks))) (sym below) ∙ laid-take (suc i) (suc n) (u ∷ ticks))

  pub last-take : (i e last n : ℕ) (ticks : List ℕ) → n < length ticks → 1 ≤ n → barline (laid i ticks) last (n - 1) ≡ last_end e (take n ticks)
  last-take i e last zero ticks lt some = absurd (omega (arith, some))
  last-take i e last (suc n) [] lt some = absurd (omega (arith, lt))
  last-take i e last (suc n) (t ∷ []) lt some = absurd (omega (arith, lt))
  last-take i e last (suc zero) (t ∷ u ∷ ticks) lt some = let at : suc zero - 1 ≡ zero = omega arith in ap (barline (laid i (t ∷ u ∷ ticks)) last) at
  last-take i e last (suc (suc n)) (t ∷ u ∷ ticks) lt some =
      let at : suc (suc n) - 1 ≡ suc n = omega arith in
      let below : suc n - 1 ≡ n = omega arith in
      ap (barline (laid i (t ∷ u ∷ ticks)) last) at
      ∙ ap (barline (laid (suc i) (u ∷ ticks)) last) (sym below) ∙ last-take (suc i) t last (suc n) (u ∷ ticks) (omega (arith, lt)) (omega arith)

  -- ---- edits

  module _ (p : Performance) where
    -- the performance with bars laid on these barlines
    abbrev pub on : List ℕ → Performance
    on ticks = record p { bars = laid 0 ticks; last = last_end 0 ticks }

    pub after_barline : (j t : ℕ) (ticks : List ℕ) → j < length ticks → performance_after (on ticks) (Barline j t) ≡ on (set ticks j t)
    after_barline j t ticks lt =
        ap₂ (λ (bars : List Bar) (last : ℕ). record p { bars = bars; last = last }) (laid-set j t 0 ticks) (last-set 0 j t ticks lt)

    -- a bar like the last is added, where the next would be like it
    pub after_added : (ticks : List ℕ) → 2 ≤ length ticks → pat (length ticks - 1) ≡ pat (length ticks - 2)
        → performance_after (on ticks) AddBar ≡ on (ticks ++ ((last_end 0 ticks + nominal p.division (pat (length ticks - 2))) ∷ []))
    after_added ticks some like =
        let end : ℕ = last_end 0 ticks in
        let last = last_laid 0 0 0 ticks some in
        let found : last_of (laid 0 ticks) ≡ Some (with_start last.0 (pat (length ticks - 2))) =
        let at : 0 + (length ticks - 2) ≡ length ticks - 2 = omega arith in last.1 ∙ ap (λ k. Some (with_start last.0 (pat k))) at in
        let place : 0 + (length ticks - 1) ≡ length ticks - 1 = omega arith in
        let bars : laid 0 ticks ++ next_bar end (last_of (laid 0 ticks)) ≡ laid 0 (ticks ++ ((end + nominal p.division (pat (length ticks - 2))) ∷ [])) =
        ap (λ o. laid 0 ticks ++ next_bar end o) found
        ∙ ap (λ b. laid 0 ticks ++ (with_start end b ∷ [])) (sym like ∙ ap pat (sym place))
        ∙ sym (laid-push 0 0 (end + nominal p.division (pat (length ticks - 2))) ticks (omega (arith, some))) in
        let after : end + nominal_of p.division (last_of (laid 0 ticks)) ≡ last_end 0 (ticks ++ ((end + nominal p.division (pat (length ticks - 2))) ∷ [])) =
        ap (λ o. end + nominal_of p.division o) found ∙ sym (last_pushed 0 (end + nominal p.division (pat (length ticks - 2))) ticks) in
        ap₂ (λ (bars : List Bar) (last : ℕ). record p { bars = bars; last = last }) bars after

    pub after_dropped : (ticks : List ℕ) → 2 ≤ length ticks → p.pins ≡ [] → performance_after (on ticks) DropBar ≡ on (take (length ticks - 1) ticks)
    after_dropped ticks some none =
        let long = length-laid 0 ticks in
        let count : length (laid 0 ticks) ≡ length ticks - 1 = long in
        let bars : take (length (laid 0 ticks) - 1) (laid 0 ticks) ≡ laid 0 (take (length ticks - 1) ticks) =
        ap (λ k. take (k - 1) (laid 0 ticks)) count ∙ laid-take 0 (length ticks - 1) ticks in
        let last : barline (laid 0 ticks) (last_end 0 ticks) (length (laid 0 ticks) - 1) ≡ last_end 0 (take (length ticks - 1) ticks) =
        ap (λ k. barline (laid 0 ticks) (last_end 0 ticks) (k - 1)) count
        ∙ last-take 0 0 (last_end 0 ticks) (length ticks - 1) ticks (omega (arith, some)) (omega (arith, some)) in
        let pins : filter (λ q. nat_lt q.bar (length (laid 0 ticks) - 1)) p.pins ≡ p.pins =
        ap (filter (λ (q : pin.Pin). nat_lt q.bar (length (laid 0 ticks) - 1))) none ∙ sym none in
        λ i. record p { bars = bars i; last = last i; pins = pins i }
