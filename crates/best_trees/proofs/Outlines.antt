-- Outlines under numbers: what is added after changes none of those before.
use Rattle.std.proofs.Common.{◌≡◌, ℕ, zero, suc, ◌-◌, ◌+◌, ◌<◌, ◌≤◌, nat_lt, true, false, inl, inr, List, [], ◌∷◌, ◌++◌, length, take, drop, get_or, refl, sym, ap, ◌∙◌, subst, arith, append_assoc, append-nil}
use Rattle.std.specs.Prelude.{Option, Some, None, if◌then◌else◌}
use Rattle.std.proofs.lemmas.Bool.{cases_lt}
use Rattle.std.proofs.lemmas.Bool.Decides.{nat_tests}
use Rattle.std.proofs.lemmas.List.{length-append, get_or_append_left, get_or_at, get_or_past, length_push, length-take-le, take-append-drop, drop_more}
use Rattle.rhythm_base.specs.Shape.{Shape, cuts, end, shape_of_parts, part}
use Rattle.best_trees.specs.declared.pins.PinPart.{PinPart}
use Rattle.best_trees.specs.Pins.{AreCounted, GrowsOutlines, HasOutline, HasPart, leaf_count, outline_at, outline_before, outlines, part_outline}

pub Grows-same : (os : List Shape) → GrowsOutlines os os
Grows-same os = ([], sym (append-nil os))

pub Grows-then : (os ps qs : List Shape) → GrowsOutlines os ps → GrowsOutlines ps qs → GrowsOutlines os qs
Grows-then os ps qs h k = (h.0 ++ k.0, k.1 ∙ ap (λ l. l ++ k.0) h.1 ∙ append_assoc os h.0 k.0)

pub HasOutline-more : (os ps : List Shape) (o : Option ℕ) (x : Shape) → GrowsOutlines os ps → HasOutline os o x → HasOutline ps o x
HasOutline-more os ps None x longer h = h
HasOutline-more os ps (Some i) x longer h =
    let more_long = length-append os longer.0 in
    let P : List Shape → Type 0 = λ ps. HasOutline ps (Some i) x in
    subst P (sym longer.1) (omega (arith, more_long, h.0), get_or_append_left os longer.0 end i h.0 ∙ h.1)

pub HasOutline-is : (os : List Shape) (o : Option ℕ) (x : Shape) → HasOutline os o x → outline_at os o ≡ x
HasOutline-is os None x h = sym h
HasOutline-is os (Some i) x h = h.1

outlines-append : (os : List Shape) (xs ys : List PinPart) → outlines os (xs ++ ys) ≡ outlines (outlines os xs) ys
outlines-append os [] ys = refl
outlines-append os (x ∷ xs) ys = outlines-append (os ++ part_outline os x ∷ []) xs ys

outlines-more : (os : List Shape) (xs : List PinPart) → (new : List Shape) × (outlines os xs ≡ os ++ new) × (length new ≡ length xs)
outlines-more os [] = ([], sym (append-nil os), refl)
outlines-more os (x ∷ xs) =
    let h = outlines-more (os ++ part_outline os x ∷ []) xs in
    (part_outline os x ∷ h.0, h.1 ∙ append_assoc os (part_outline os x ∷ []) h.0, ap suc h.2)

pub outlines-long : (xs : List PinPart) → length (outlines [] xs) ≡ length xs
outlines-long xs = let h = outlines-more [] xs in ap length h.1 ∙ h.2

pub outlines-push : (xs : List PinPart) (x : PinPart) → outlines [] (xs ++ x ∷ []) ≡ outlines [] xs ++ part_outline (outlines [] xs) x ∷ []
outlines-push xs x = outlines-append [] xs (x ∷ [])

-- the outline of a part that is kept
pub kept_part : (xs ys : List PinPart) (x : PinPart) (i : ℕ) (y z : Shape) → ys ≡ xs ++ x ∷ [] → i ≡ length xs → HasOutline (outlines [] xs) x.parts y → HasOutline (outlines [] xs) x.others z
    → HasOutline (outlines [] ys) (Some i) (part y z)
kept_part xs ys x i y z e at h k =
    let next : outlines [] ys ≡ outlines [] xs ++ part_outline (outlines [] xs) x ∷ [] = ap (outlines []) e ∙ outlines-push xs x in
    let long = outlines-long xs in
    let longer = length_push (outlines [] xs) (part_outline (outlines [] xs) x) in
    let P : List Shape → Type 0 = λ ps. HasOutline ps (Some i) (part y z) in
    subst P (sym next)
    (omega (arith, long, longer, at), get_or_at (outlines [] xs) (part_outline (outlines [] xs) x) [] end i (long ∙ sym at) ∙ (λ j. part (HasOutline-is (outlines [] xs) x.parts y h j) (HasOutline-is (outlines [] xs) x.others z k j)))

-- what a part says, by the parts before it
module _ (xs : List PinPart) (i : ℕ) (d : PinPart) (low : i < length xs) where
  front-long : length (outlines [] (take i xs)) ≡ i
  front-long = outlines-long (take i xs) ∙ length-take-le i xs (omega arith)

  split_at : outlines [] xs ≡ outlines (outlines [] (take i xs) ++ part_outline (outlines [] (take i xs)) (get_or xs i d) ∷ []) (drop (i + 1) xs)
  split_at =
      ap (outlines []) (sym (take-append-drop i xs) ∙ ap (λ l. take i xs ++ l) (drop_more xs i d low))
      ∙ outlines-append [] (take i xs) (get_or xs i d ∷ drop (i + 1) xs)

  whole : (new : List Shape) × (outlines [] xs ≡ outlines [] (take i xs) ++ (part_outline (outlines [] (take i xs)) (get_or xs i d) ∷ new))
  whole =
      let h = outlines-more (outlines [] (take i xs) ++ part_outline (outlines [] (take i xs)) (get_or xs i d) ∷ []) (drop (i + 1) xs) in
      (h.0, split_at ∙ h.1 ∙ append_assoc (outlines [] (take i xs)) (part_outline (outlines [] (take i xs)) (get_or xs i d) ∷ []) h.0)

  before_is : (o : Option ℕ) → outline_before (outlines [] xs) i o ≡ outline_at (outlines [] (take i xs)) o
  before_is None = refl
  before_is (Some n) = elim (cases_lt n i) [
    | inl less ↦
        let on : nat_lt n i ≡ true = grind (arith, nat_tests) in
        let long = front-long in
        ap (λ b. if b then get_or (outlines [] xs) n end else end) on
        ∙ ap (λ l. get_or l n end) whole.1
        ∙ get_or_append_left (outlines [] (take i xs)) (part_outline (outlines [] (take i xs)) (get_or xs i d) ∷ whole.0) end n (omega (arith, long))
    | inr far ↦
        let off : nat_lt n i ≡ false = grind (arith, nat_tests) in
        let long = front-long in
        ap (λ b. if b then get_or (outlines [] xs) n end else end) off ∙ sym (get_or_past (outlines [] (take i xs)) n end (omega (arith, long)))
  ]

  pub outline_is : outline_at (outlines [] xs) (Some i) ≡ part (outline_before (outlines [] xs) i (get_or xs i d).parts) (outline_before (outlines [] xs) i (get_or xs i d).others)
  outline_is =
      ap (λ l. get_or l i end) whole.1 ∙ get_or_at (outlines [] (take i xs)) (part_outline (outlines [] (take i xs)) (get_or xs i d)) whole.0 end i front-long
      ∙ (λ j. part (sym (before_is (get_or xs i d).parts) j) (sym (before_is (get_or xs i d).others) j))

pub outline_none : (xs : List PinPart) (i : ℕ) → length xs ≤ i → outline_at (outlines [] xs) (Some i) ≡ end
outline_none xs i h = let long = outlines-long xs in get_or_past (outlines [] xs) i end (omega (arith, long))

-- one of shapes side by side, with those after it
pub shapes-from : (xs : List Shape) (i : ℕ) (x : Shape) → i < length xs → part (get_or xs i x) (shape_of_parts (drop (i + 1) xs)) ≡ shape_of_parts (drop i xs)
shapes-from xs i x low = ap shape_of_parts (sym (drop_more xs i x low))

-- the outline of one of shapes side by side, and of those after it
pub kept_from : (os ps qs xs : List Shape) (place : ℕ) (x : Shape) (parts others : Option ℕ) (n : ℕ) → 1 ≤ place → place ≤ length xs → GrowsOutlines os ps
    → HasOutline ps parts (get_or xs (place - 1) x) → HasPart ps qs parts others n → HasOutline os others (shape_of_parts (drop place xs))
    → HasOutline qs (Some n) (shape_of_parts (drop (place - 1) xs))
kept_from os ps qs xs place x parts others n some within grown own kept after =
    let next : place - 1 + 1 ≡ place = omega (arith, some) in
    let whole : part (get_or xs (place - 1) x) (shape_of_parts (drop place xs)) ≡ shape_of_parts (drop (place - 1) xs)
    = ap (λ k. part (get_or xs (place - 1) x) (shape_of_parts (drop k xs))) (sym next) ∙ shapes-from xs (place - 1) x (omega (arith, some, within)) in
    subst (HasOutline qs (Some n)) whole
    (kept (get_or xs (place - 1) x) (shape_of_parts (drop place xs)) own (HasOutline-more os ps others (shape_of_parts (drop place xs)) grown after))

-- it has fewer parts than all have
pub shape-falls : (xs : List Shape) (i : ℕ) (x : Shape) → i < length xs → cuts (get_or xs i x) < cuts (shape_of_parts xs)
shape-falls [] i x low = absurd (omega (arith, low))
shape-falls (y ∷ ys) zero x low = omega arith
shape-falls (y ∷ ys) (suc i) x low = let rest = shape-falls ys i x (omega (arith, low)) in omega (arith, rest)

-- ---- the leaves of parts

-- a part more, which counts no more leaves than it and those after it have
pub counted-push : (xs ys : List PinPart) (x : PinPart) → ys ≡ xs ++ x ∷ [] → AreCounted xs → x.leaves ≤ leaf_count (part_outline (outlines [] xs) x) → AreCounted ys
counted-push xs ys x e counted own i d low = elim (cases_lt i (length xs)) [
  | inl less ↦
      let next : outlines [] ys ≡ outlines [] xs ++ part_outline (outlines [] xs) x ∷ [] = ap (outlines []) e ∙ outlines-push xs x in
      let long = outlines-long xs in
      let same : get_or (outlines [] ys) i end ≡ get_or (outlines [] xs) i end
      = ap (λ l. get_or l i end) next ∙ get_or_append_left (outlines [] xs) (part_outline (outlines [] xs) x ∷ []) end i (omega (arith, less, long)) in
      let item : get_or ys i d ≡ get_or xs i d = ap (λ l. get_or l i d) e ∙ get_or_append_left xs (x ∷ []) d i less in
      let P : PinPart → Shape → Type 0 = λ y o. y.leaves ≤ leaf_count o in
      subst (P (get_or ys i d)) (sym same) (subst (λ y. P y (get_or (outlines [] xs) i end)) (sym item) (counted i d less))
  | inr more ↦
      let next : outlines [] ys ≡ outlines [] xs ++ part_outline (outlines [] xs) x ∷ [] = ap (outlines []) e ∙ outlines-push xs x in
      let long = outlines-long xs in
      let all : length ys ≡ length xs + 1 = ap length e ∙ length-append xs (x ∷ []) in
      let last : length xs ≡ i = omega (arith, low, more, all) in
      let same : get_or (outlines [] ys) i end ≡ part_outline (outlines [] xs) x
      = ap (λ l. get_or l i end) next ∙ get_or_at (outlines [] xs) (part_outline (outlines [] xs) x) [] end i (long ∙ last) in
      let item : get_or ys i d ≡ x = ap (λ l. get_or l i d) e ∙ get_or_at xs x [] d i last in
      let P : PinPart → Shape → Type 0 = λ y o. y.leaves ≤ leaf_count o in
      subst (P (get_or ys i d)) (sym same) (subst (λ y. P y (part_outline (outlines [] xs) x)) (sym item) own)
]
