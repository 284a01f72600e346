-- Blocks of a list of notes: how long the list is, one more block, and where a place of the list stands.
use Rattle.std.proofs.Common.{◌≡◌, ℕ, zero, suc, ◌+◌, ◌-◌, ◌≤◌, ◌<◌, ◌⊎◌, inl, inr, List, [], ◌∷◌, ◌++◌, length, take, drop, get_or, refl, sym, ap, ◌∙◌, arith, append_assoc, append-nil, length-append, Some, None}
use Rattle.std.proofs.Math.Seq.{take-append-add, drop-append-add}
use Rattle.std.proofs.lemmas.List.{take-append-le, drop-append-le, length-take, take-append-drop}
use Rattle.std.proofs.lemmas.Grind.{flat_map-append}
use Rattle.std.proofs.lemmas.Bool.{cases_lt}
use Rattle.std.specs.Prelude.{slice_get, Option}
use Rattle.std.proofs.Common.{leb, Bool, true, false}
use Rattle.std.specs.Option.{SomeIff}
use Rattle.std.specs.List.Sorted.{IsPartitionPoint}
use Rattle.std.proofs.lemmas.Bool.Decides.{nat_tests}
use Rattle.std.proofs.Math.ListN.{drop_of_length-le}
use Rattle.std.specs.Prelude.{min}
use Rattle.std.specs.Ordering.{is_lt}
use Rattle.rhythm_base.specs.Lists.{AreInOrder, earlier}
use Rattle.rhythm_base.specs.Performance.{place_of_note}
use Rattle.rhythm_base.proofs.OrderedLists.{goes_through}
use Rattle.rhythm_base.specs.declared.note.Note.{Note}
use Rattle.rhythm_base.specs.NoteBlocks.{AreBlocks, Block, IsBlockOf, notes_of}

-- as many notes as the blocks say
pub blocks_length : (from : ℕ) (bs : List Block) (up_to : ℕ) → AreBlocks from bs up_to → up_to ≡ from + length (notes_of bs)
blocks_length from [] up_to h = omega (arith, h)
blocks_length from (b ∷ bs) up_to h =
    let rest = blocks_length (from + length b.notes) bs up_to h.1 in
    let long = length-append b.notes (notes_of bs) in
    omega (arith, rest, long)

-- one more block
pub blocks_push : (from : ℕ) (bs : List Block) (up_to more : ℕ) (b : Block) → AreBlocks from bs up_to → b.from ≡ up_to → length b.notes ≡ more
    → AreBlocks from (bs ++ b ∷ []) (up_to + more)
blocks_push from [] up_to more b h at long = (at ∙ sym h, omega (arith, h, long))
blocks_push from (x ∷ bs) up_to more b h at long = (h.0, blocks_push (from + length x.notes) bs up_to more b h.1 at long)

pub notes_push : (bs : List Block) (b : Block) → notes_of (bs ++ b ∷ []) ≡ notes_of bs ++ b.notes
notes_push [] b = append-nil b.notes
notes_push (x ∷ bs) b = ap (λ l. x.notes ++ l) (notes_push bs b) ∙ sym (append_assoc x.notes (notes_of bs) b.notes)

pub whole_length : (bs : List Block) (up_to : ℕ) → AreBlocks 0 bs up_to → up_to ≡ length (notes_of bs)
whole_length bs up_to h = let is = blocks_length 0 bs up_to h in omega (arith, is)

-- ---- the block of a number among the others

pub from_is : (from : ℕ) (bs : List Block) (up_to i : ℕ) (d : Block) → AreBlocks from bs up_to → i < length bs
    → (get_or bs i d).from ≡ from + length (notes_of (take i bs))
from_is from [] up_to i d h lt = absurd (omega (arith, lt))
from_is from (b ∷ bs) up_to zero d h lt = omega (arith, h.0)
from_is from (b ∷ bs) up_to (suc i) d h lt =
    let rest = from_is (from + length b.notes) bs up_to i d h.1 (omega (arith, lt)) in
    let long = length-append b.notes (notes_of (take i bs)) in
    omega (arith, rest, long)

pub parted : (bs : List Block) (i : ℕ) (d : Block) → i < length bs → notes_of bs ≡ notes_of (take i bs) ++ ((get_or bs i d).notes ++ notes_of (drop (suc i) bs))
parted [] i d lt = absurd (omega (arith, lt))
parted (b ∷ bs) zero d lt = refl
parted (b ∷ bs) (suc i) d lt =
    ap (λ l. b.notes ++ l) (parted bs i d (omega (arith, lt)))
    ∙ sym (append_assoc b.notes (notes_of (take i bs)) ((get_or bs i d).notes ++ notes_of (drop (suc i) bs)))

-- the next block begins where it ends, or nothing stands after it
pub next_from : (from : ℕ) (bs : List Block) (up_to i : ℕ) (d : Block) → AreBlocks from bs up_to → suc i < length bs
    → (get_or bs (suc i) d).from ≡ (get_or bs i d).from + length (get_or bs i d).notes
next_from from [] up_to i d h lt = absurd (omega (arith, lt))
next_from from (b ∷ []) up_to i d h lt = absurd (omega (arith, lt))
next_from from (b ∷ c ∷ bs) up_to zero d h lt = omega (arith, h.0, h.1.0)
next_from from (b ∷ c ∷ bs) up_to (suc i) d h lt = next_from (from + length b.notes) (c ∷ bs) up_to i d h.1 (omega (arith, lt))

pub last_up_to : (from : ℕ) (bs : List Block) (up_to i : ℕ) (d : Block) → AreBlocks from bs up_to → suc i ≡ length bs
    → up_to ≡ (get_or bs i d).from + length (get_or bs i d).notes
last_up_to from [] up_to i d h last = absurd (omega (arith, last))
last_up_to from (b ∷ []) up_to zero d h last = omega (arith, h.0, h.1)
last_up_to from (b ∷ []) up_to (suc i) d h last = absurd (omega (arith, last))
last_up_to from (b ∷ c ∷ bs) up_to zero d h last = absurd (omega (arith, last))
last_up_to from (b ∷ c ∷ bs) up_to (suc i) d h last = last_up_to (from + length b.notes) (c ∷ bs) up_to i d h.1 (omega (arith, last))

-- later blocks begin no earlier
pub from_rise : (from : ℕ) (bs : List Block) (up_to i j : ℕ) (d : Block) → AreBlocks from bs up_to → i ≤ j → j < length bs → (get_or bs i d).from ≤ (get_or bs j d).from
from_rise from [] up_to i j d h le lt = absurd (omega (arith, lt))
from_rise from (b ∷ bs) up_to zero j d h le lt = let at = from_is from (b ∷ bs) up_to j d h lt in omega (arith, at, h.0)
from_rise from (b ∷ bs) up_to (suc i) zero d h le lt = absurd (omega (arith, le))
from_rise from (b ∷ bs) up_to (suc i) (suc j) d h le lt = from_rise (from + length b.notes) bs up_to i j d h.1 (omega (arith, le)) (omega (arith, lt))

-- ---- the block of a place

module _ (bs : List Block) (up_to place i : ℕ) (d : Block) (are : AreBlocks 0 bs up_to) (of : IsBlockOf bs place (Some i)) where
  abbrev block : Block
  block = get_or bs i d

  pub low : block.from ≤ place
  low = of.1 i d (omega arith) (omega arith)

  before_next : suc i < length bs → place < block.from + length block.notes
  before_next lt =
      let next = next_from 0 bs up_to i d are lt in
      let high = of.2 (suc i) d (omega arith) lt in
      omega (arith, next, high)

  -- a place of the list is within its block
  pub high : place ≤ up_to → place - block.from ≤ length block.notes
  high within = elim (cases_lt (suc i) (length bs)) [
    | inl lt ↦ let near = before_next lt in omega (arith, near)
    | inr ge ↦ let last = last_up_to 0 bs up_to i d are (omega (arith, ge, of.0)) in omega (arith, last, within)
  ]

  place_is : place ≡ length (notes_of (take i bs)) + (place - block.from)
  place_is = let at = from_is 0 bs up_to i d are of.0 in let l = low in omega (arith, at, l)

  pub take_at : place ≤ up_to → notes_of (take i bs) ++ take (place - block.from) block.notes ≡ take place (notes_of bs)
  take_at within =
      let front = notes_of (take i bs) in
      let rest = block.notes ++ notes_of (drop (suc i) bs) in
      sym
      (
      ap (λ k. take k (notes_of bs)) place_is
      ∙ ap (λ l. take (length front + (place - block.from)) l) (parted bs i d of.0)
      ∙ take-append-add front rest (place - block.from)
      ∙ ap (λ l. front ++ l) (take-append-le (place - block.from) block.notes (notes_of (drop (suc i) bs)) (high within))
      )

  pub drop_at : place ≤ up_to → drop (place - block.from) block.notes ++ notes_of (drop (suc i) bs) ≡ drop place (notes_of bs)
  drop_at within =
      let front = notes_of (take i bs) in
      let rest = block.notes ++ notes_of (drop (suc i) bs) in
      sym
      (
      ap (λ k. drop k (notes_of bs)) place_is
      ∙ ap (λ l. drop (length front + (place - block.from)) l) (parted bs i d of.0)
      ∙ drop-append-add front rest (place - block.from)
      ∙ drop-append-le (place - block.from) block.notes (notes_of (drop (suc i) bs)) (high within)
      )

get_left : {X : Type 0} (xs back : List X) (k : ℕ) → (k < length xs) ⊎ (back ≡ []) → slice_get (xs ++ back) k ≡ slice_get xs k
get_left [] back k (inl lt) = absurd (omega (arith, lt))
get_left [] back k (inr none) = rw none refl
get_left (x ∷ xs) back zero how = refl
get_left (x ∷ xs) back (suc k) (inl lt) = get_left xs back k (inl (omega (arith, lt)))
get_left (x ∷ xs) back (suc k) (inr none) = get_left xs back k (inr none)

get_past : {X : Type 0} (front xs : List X) (k n : ℕ) → n ≡ length front + k → slice_get (front ++ xs) n ≡ slice_get xs k
get_past [] xs k n is = let same : n ≡ k = omega (arith, is) in ap (λ i. slice_get xs i) same
get_past (y ∷ front) xs k zero is = absurd (omega (arith, is))
get_past (y ∷ front) xs k (suc n) is = get_past front xs k n (omega (arith, is))

module _ (bs : List Block) (up_to place i : ℕ) (d : Block) (are : AreBlocks 0 bs up_to) (of : IsBlockOf bs place (Some i)) where
  ends_there : (place - (get_or bs i d).from < length (get_or bs i d).notes) ⊎ (notes_of (drop (suc i) bs) ≡ [])
  ends_there = elim (cases_lt (suc i) (length bs)) [
    | inl lt ↦ let near = before_next bs up_to place i d are of lt in let l = low bs up_to place i d are of in inl (omega (arith, near, l))
    | inr ge ↦ inr (ap notes_of (drop_of_length-le bs ge))
  ]

  pub get_at : slice_get (notes_of bs) place ≡ slice_get (get_or bs i d).notes (place - (get_or bs i d).from)
  get_at =
      let front = notes_of (take i bs) in
      let own = (get_or bs i d).notes in
      let back = notes_of (drop (suc i) bs) in
      ap (λ l. slice_get l place) (parted bs i d of.0)
      ∙ get_past front (own ++ back) (place - (get_or bs i d).from) place (place_is bs up_to place i d are of)
      ∙ get_left own back (place - (get_or bs i d).from) ends_there

-- ---- the block that a search finds

pub found_block : (bs : List Block) (up_to n place : ℕ) → AreBlocks 0 bs up_to → n ≤ length bs
    → IsPartitionPoint (λ (b : Block). leb b.from place ≡ true) (λ (b : Block). leb b.from place ≡ false) bs n
    → (r : Option ℕ) → SomeIff r (1 ≤ n) (n - 1) → IsBlockOf bs place r
found_block [] up_to n place are within point None none = refl
found_block (b ∷ bs) up_to n place are within point None none =
    let no : n ≡ 0 = grind (arith, none) in
    let late = point.1 0 b (omega (arith, no)) (omega arith) in
    absurd (grind (arith, nat_tests, late, are.0))
found_block bs up_to n place are within point (Some i) some =
    let some_n : 1 ≤ n = some.0 in
    let is : i ≡ n - 1 = some.1 in (
      omega (arith, within, is),
      λ k d l h. let f = point.0 k d l (omega (arith, h, is, some_n)) in grind (arith, nat_tests, f),
      λ k d l h. let f = point.1 k d (omega (arith, l, is, some_n)) h in grind (arith, nat_tests, f),
    )

-- ---- the first notes of a list of blocks

-- one more block of which as many are taken as are wanted
pub take_more : {X : Type 0} (n : ℕ) (xs ys : List X) → take n xs ++ take (n - length (take n xs)) ys ≡ take n (xs ++ ys)
take_more zero xs ys = refl
take_more (suc n) [] ys = let all : suc n - 0 ≡ suc n = omega arith in ap (λ k. take k ys) all
take_more (suc n) (x ∷ xs) ys =
    let same : suc n - suc (length (take n xs)) ≡ n - length (take n xs) = omega arith in
    ap (λ l. x ∷ l) (ap (λ k. take n xs ++ take k ys) same ∙ take_more n xs ys)

-- no more are taken than there are
pub take_within : {X : Type 0} (n : ℕ) (xs : List X) → take (min (length xs) n) xs ≡ take n xs
take_within zero xs = let none : min (length xs) 0 ≡ 0 = omega arith in ap (λ k. take k xs) none
take_within (suc n) [] = let none : min 0 (suc n) ≡ 0 = omega arith in ap (λ k. take k []) none
take_within (suc n) (x ∷ xs) =
    let fewer : min (suc (length xs)) (suc n) ≡ suc (min (length xs) n) = omega arith in
    ap (λ k. take k (x ∷ xs)) fewer ∙ ap (λ l. x ∷ l) (take_within n xs)

-- ---- searches in a list in order

module _ (x : List ℕ) (ns : List Note) (order : AreInOrder place_of_note ns) where
  abbrev before : Note → Bool
  before n = earlier (place_of_note n) x

  pub up_to_one : (m : ℕ) → m < length ns → ((d : Note) → true ≡ before (get_or ns m d)) → (k : ℕ) (d : Note) → k ≤ m → before (get_or ns k d) ≡ true
  up_to_one m lt h k d le = elim (cases_lt k m) [
    | inl less ↦ goes_through (place_of_note (get_or ns k d)) (place_of_note (get_or ns m d)) x (ap is_lt (order k m d less lt)) (sym (h d))
    | inr ge ↦ let same : k ≡ m = omega (arith, le, ge) in ap (λ i. before (get_or ns i d)) same ∙ sym (h d)
  ]

  from_one : (m k : ℕ) (d : Note) → false ≡ before (get_or ns m d) → m < k → k < length ns → (b : Bool) → before (get_or ns k d) ≡ b → b ≡ false
  from_one m k d h less lt false is = refl
  from_one m k d h less lt true is =
      let early = goes_through (place_of_note (get_or ns m d)) (place_of_note (get_or ns k d)) x (ap is_lt (order m k d less lt)) is in
      absurd (cc)

  pub after_one : (m : ℕ) → ((d : Note) → false ≡ before (get_or ns m d)) → (k : ℕ) (d : Note) → m ≤ k → k < length ns → before (get_or ns k d) ≡ false
  after_one m h k d le lt = elim (cases_lt m k) [
    | inl less ↦ from_one m k d (h d) less lt (before (get_or ns k d)) refl
    | inr ge ↦ let same : m ≡ k = omega (arith, le, ge) in ap (λ i. before (get_or ns i d)) (sym same) ∙ sym (h d)
  ]

-- ---- five lists as one, in two ways

pub five : {X : Type 0} (vs bs cs ds es : List X) → (vs ++ (bs ++ (cs ++ ds))) ++ es ≡ (vs ++ bs) ++ (cs ++ (ds ++ es))
five vs bs cs ds es =
    append_assoc vs (bs ++ (cs ++ ds)) es
    ∙ ap (λ l. vs ++ l) (append_assoc bs (cs ++ ds) es ∙ ap (λ l. bs ++ l) (append_assoc cs ds es))
    ∙ sym (append_assoc vs bs (cs ++ (ds ++ es)))

-- as many as are wanted are taken of the first blocks already
pub enough : (n i : ℕ) (first : List Note) (later : List Block) (out : List Note)
    → out ≡ take n (first ++ notes_of (take i later)) → n ≤ length out → out ≡ take n (first ++ notes_of later)
enough n i first later out is many =
    let before = first ++ notes_of (take i later) in
    let long : length out ≡ min n (length before) = ap length is ∙ length-take n before in
    let whole : before ++ notes_of (drop i later) ≡ first ++ notes_of later =
    append_assoc first (notes_of (take i later)) (notes_of (drop i later))
    ∙ ap (λ l. first ++ l) (sym (flat_map-append (λ (b : Block). b.notes) (take i later) (drop i later)) ∙ ap notes_of (take-append-drop i later)) in
    is ∙ sym (take-append-le n before (notes_of (drop i later)) (omega (arith, long, many))) ∙ ap (take n) whole
