-- What searches of the notes find.
use Rattle.std.proofs.Common.{◌≡◌, ℕ, ◌≤◌, Bool, true, false, ◌&&◌, ◌||◌, List, [], ◌∷◌, map, refl, ap, sym, ◌∙◌, arith, Option, Some, None}
use Rattle.std.specs.List.{list_any, reduce}
use Rattle.std.specs.Option.{is_some, option_map}
use Rattle.performance_edit.specs.OnlyPlaces.{lesser}
use Rattle.std.proofs.Common.{◌++◌}
use Rattle.std.proofs.lemmas.List.{map-append}
use Rattle.std.proofs.lemmas.List.Elements.{filter-append}
use Rattle.std.specs.Prelude.{fold, filter, find, if◌then◌else◌, min}
use Rattle.rhythm_base.specs.declared.edit.Edit.TheVariants.{Move}
use Rattle.rhythm_base.specs.declared.edit_fault.EditFault.{EditFault}
use Rattle.rhythm_base.specs.declared.edit_fault.EditFault.TheVariants.{NoNote, PastEnd, SameNote}
use Rattle.rhythm_base.specs.declared.limits.TheConstants.{LATEST_TICK}
use Rattle.rhythm_base.specs.declared.note.Note.{Note}
use Rattle.edit_laws.specs.Edits.{edit_tests, first_refusal, has_note, is_note, is_past, lacks_voice, moved_to, note_at, onsets_past, without_note}
use Rattle.rhythm_base.specs.Lists.{least_of}
use Rattle.rhythm_base.specs.Performance.{IsNoteOf, IsWellFormed, Performance}
use Rattle.edit_laws.proofs.Edited.{is_found}

module _ {X : Type 0} (p : X → Bool) where
  -- one that passes, among those that pass another test
  pub list_any-filter : (q : X → Bool) (xs : List X) → list_any (λ x. p x && q x) xs ≡ list_any p (filter q xs)
  list_any-filter q [] = refl
  list_any-filter q (x ∷ xs) = at (p x) (q x) refl (list_any-filter q xs)
    where
      at : (a b : Bool) → p x ≡ a → list_any (λ x. p x && q x) xs ≡ list_any p (filter q xs)
          → ((a && b) || list_any (λ x. p x && q x) xs) ≡ list_any p (if b then x ∷ filter q xs else filter q xs)
      at true true is rest = ap (λ v. v || list_any p (filter q xs)) (sym is)
      at true false is rest = rest
      at false true is rest = rest ∙ ap (λ v. v || list_any p (filter q xs)) (sym is)
      at false false is rest = rest

  -- one is found where there is one
  pub is_some-find : (xs : List X) → is_some (find p xs) ≡ list_any p xs
  is_some-find [] = refl
  is_some-find (x ∷ xs) = at (p x) (is_some-find xs)
    where
      at : (b : Bool) → is_some (find p xs) ≡ list_any p xs → is_some (if b then Some x else find p xs) ≡ (b || list_any p xs)
      at true rest = refl
      at false rest = rest

  -- and there is a least number of those that pass
  pub is_some-reduce : (number : X → ℕ) (xs : List X) → is_some (reduce min (map number (filter p xs))) ≡ list_any p xs
  is_some-reduce number [] = refl
  is_some-reduce number (x ∷ xs) = at (p x) (is_some-reduce number xs)
    where
      at : (b : Bool) → is_some (reduce min (map number (filter p xs))) ≡ list_any p xs
          → is_some (reduce min (map number (if b then x ∷ filter p xs else filter p xs))) ≡ (b || list_any p xs)
      at true rest = refl
      at false rest = rest

-- what is said of the least of some numbers, if there are any
reduce-least : (fault : ℕ → EditFault) (ts : List ℕ) → option_map fault (reduce min ts) ≡ (if is_some (reduce min ts) then Some (fault (least_of ts)) else None)
reduce-least fault [] = refl
reduce-least fault (t ∷ ts) = refl

-- what is said of the least onset past a tick, if there is one
pub least-past : (fault : ℕ → EditFault) (tick : ℕ) (notes : List Note)
    → option_map fault (reduce min (onsets_past tick notes)) ≡ (if list_any (is_past tick) notes then Some (fault (least_of (onsets_past tick notes))) else None)
least-past fault tick notes =
    reduce-least fault (onsets_past tick notes)
    ∙ ap (λ b. if b then Some (fault (least_of (onsets_past tick notes))) else None) (is_some-reduce (is_past tick) (λ n. n.onset) notes)

-- ---- the least of two parts

min_first : (x b : ℕ) (bs : List ℕ) → fold min (min x b) bs ≡ min x (fold min b bs)
min_first x b [] = refl
min_first x b (c ∷ cs) = let same : min (min x b) c ≡ min x (min b c) = omega arith in ap (λ n. fold min n cs) same ∙ min_first x (min b c) cs

fold_parts : (x : ℕ) (xs ys : List ℕ) → Some (fold min x (xs ++ ys)) ≡ lesser (Some (fold min x xs)) (reduce min ys)
fold_parts x [] [] = refl
fold_parts x [] (y ∷ ys) = ap Some (min_first x y ys)
fold_parts x (z ∷ xs) ys = fold_parts (min x z) xs ys

reduce_parts : (xs ys : List ℕ) → reduce min (xs ++ ys) ≡ lesser (reduce min xs) (reduce min ys)
reduce_parts [] ys = refl
reduce_parts (x ∷ xs) ys = fold_parts x xs ys

pub least-parts : (tick : ℕ) (xs ys : List Note)
    → lesser (reduce min (onsets_past tick xs)) (reduce min (onsets_past tick ys)) ≡ reduce min (onsets_past tick (xs ++ ys))
least-parts tick xs ys =
    sym
    (
    ap (λ l. reduce min (map (λ (n : Note). n.onset) l)) (filter-append (is_past tick) xs ys)
    ∙ ap (reduce min) (map-append (λ (n : Note). n.onset) (filter (is_past tick) xs) (filter (is_past tick) ys))
    ∙ reduce_parts (onsets_past tick xs) (onsets_past tick ys)
    )

-- ---- the note that is to move

module _ (p : Performance) (channel key onset : ℕ) where
  there : (found : Option Note) → note_at p.notes channel key onset ≡ found → has_note p.notes channel key onset ≡ is_some found
  there found is = sym (is_some-find (is_note channel key onset) p.notes) ∙ ap is_some is

  pub note-end : (n : Note) → IsWellFormed p → note_at p.notes channel key onset ≡ Some n → n.end ≤ LATEST_TICK
  note-end n w is =
      let it = is_found (is_note channel key onset) (IsNoteOf p.channels p.last) n p.notes w.notes is in
      omega (arith, it.0.end, w.last_barline)

  pub no_note : (to : ℕ) → lacks_voice p channel ≡ false → note_at p.notes channel key onset ≡ None
      → first_refusal (edit_tests p (Move channel key onset to)) ≡ Some NoNote
  no_note to voice is = rw (voice, there None is) refl

  module _ (to : ℕ) (n : Note) (voice : lacks_voice p channel ≡ false) (is : note_at p.notes channel key onset ≡ Some n) where
    abbrev other : Bool
    other = has_note (without_note channel key onset p.notes) channel key to

    pub same_note : other ≡ true → first_refusal (edit_tests p (Move channel key onset to)) ≡ Some SameNote
    same_note same = rw (voice, there (Some n) is, same) refl

    pub past_end : other ≡ false → is_past p.last (moved_to to n) ≡ true → first_refusal (edit_tests p (Move channel key onset to)) ≡ Some (PastEnd p.last)
    past_end free past = rw (voice, there (Some n) is, free, is, past) refl

    pub no_fault : other ≡ false → is_past p.last (moved_to to n) ≡ false → first_refusal (edit_tests p (Move channel key onset to)) ≡ None
    no_fault free inside = rw (voice, there (Some n) is, free, is, inside) refl
