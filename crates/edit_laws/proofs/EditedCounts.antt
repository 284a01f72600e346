-- An edit that is not refused keeps the limits of notes and of cells, and a root symbol for each bar.
use Rattle.std.proofs.Common.{◌≡◌, ℕ, ◌+◌, ◌-◌, ◌*◌, ◌≤◌, Bool, true, false, not, cond, ◌||◌, List, [], ◌∷◌, length, length-append, filter, refl, subst, arith, Option, Some, None, Ok}
use Rattle.std.specs.List.{list_any}
use Rattle.std.specs.Ordering.{is_lt, nat_cmp}
use Rattle.std.specs.Cmp.Lexicographic.{slice_cmp}
use Rattle.std.specs.Prelude.{◌≢◌, All}
use Rattle.std.proofs.Math.Nat.{mul-le-mul_left}
use Rattle.std.proofs.lemmas.List.{length-take}
use Rattle.std.proofs.lemmas.List.Elements.{All-append, All-nil, All-take}
use Rattle.std.proofs.lemmas.List.Filters.{length-filter_both}
use Rattle.rhythm_base.specs.declared.edit.Edit.TheVariants.{Add, Drop, Move, Barline, Pin, Unpin, AddBar, DropBar}
use Rattle.rhythm_base.specs.declared.edit.Edit.{Edit}
use Rattle.rhythm_base.specs.declared.note.Bar.{Bar}
use Rattle.rhythm_base.specs.declared.note.Note.{Note}
use Rattle.rhythm_base.specs.Lists.{list_with, last_of}
use Rattle.edit_laws.specs.Edits.{performance_after, edited, first_refusal, is_note, moved_to, next_bar, note_at, put_moved, edit_tests, without_note, with_start}
use Rattle.rhythm_base.specs.Performance.{Performance, place_of_note}
use Rattle.rhythm_base.specs.Grammar.{Grammar, root_of}
use Rattle.rhythm_base.specs.Voices.{HasStarts}
use Rattle.rhythm_base.proofs.OrderedLists.{all_cons}
use Rattle.edit_laws.proofs.BarEdits.{All-get, All-with_barline, length-with_barline}
use Rattle.edit_laws.proofs.Edited.{all_pass, made, not_above, not_false}

-- ---- how many notes

module _ {X : Type 0} (place : X → List ℕ) where
  -- a list with one more
  pub length-put : (x : X) (xs : List X) → length (list_with place x xs) ≡ length xs + 1
  length-put x xs =
      let before : X → Bool = λ y. is_lt (slice_cmp nat_cmp (place y) (place x)) in
      let both = length-filter_both before (λ y. not (before y)) (λ y. refl) xs in
      let joined = length-append (filter before xs) (x ∷ filter (λ y. not (before y)) xs) in
      omega (arith, both, joined)

module _ {X : Type 0} (p : X → Bool) where
  few_kept : (xs : List X) → length (filter (λ x. not (p x)) xs) ≤ length xs
  few_kept xs = let both = length-filter_both p (λ x. not (p x)) (λ x. refl) xs in omega (arith, both)

  -- where one of them passes, fewer do not
  fewer_kept : (xs : List X) → list_any p xs ≡ true → length (filter (λ x. not (p x)) xs) + 1 ≤ length xs
  fewer_kept [] h = absurd (cc)
  fewer_kept (x ∷ xs) h = at (p x) h (few_kept xs) (fewer_kept xs)
    where
      at : (b : Bool) → (b || list_any p xs) ≡ true → length (filter (λ x. not (p x)) xs) ≤ length xs
          → (list_any p xs ≡ true → length (filter (λ x. not (p x)) xs) + 1 ≤ length xs)
          → length (cond (not b) (x ∷ filter (λ x. not (p x)) xs) (filter (λ x. not (p x)) xs)) + 1 ≤ length (x ∷ xs)
      at true any few later = omega (arith, few)
      at false any few later = omega (arith, later any)

few_moved : (to : ℕ) (found : Option Note) (notes : List Note) → length (put_moved to found notes) ≤ length notes + 1
few_moved to None notes = omega arith
few_moved to (Some n) notes = omega (arith, length-put place_of_note (moved_to to n) notes)

-- ---- the limits

abbrev FewNotes : Performance → Type 0
FewNotes p = length p.notes ≤ 65536

few_notes : (p : Performance) (edit : Edit) → first_refusal (edit_tests p edit) ≡ None → FewNotes p → FewNotes (performance_after p edit)
few_notes p (Add channel key onset until) h few =
    let pass = all_pass (edit_tests p (Add channel key onset until)) h in
    let n : Note = record { channel = channel; key = key; onset = onset; end = until } in
    omega (arith, not_above 65536 (length p.notes + 1) pass.1.1.1.1.0, length-put place_of_note n p.notes)
few_notes p (Drop channel key onset) h few = omega (arith, few, few_kept (is_note channel key onset) p.notes)
few_notes p (Move channel key onset to) h few =
    let pass = all_pass (edit_tests p (Move channel key onset to)) h in
    let there : list_any (is_note channel key onset) p.notes ≡ true = not_false _ pass.1.0 in
    omega (
      arith,
      few,
      fewer_kept (is_note channel key onset) p.notes there,
      few_moved to (note_at p.notes channel key onset) (without_note channel key onset p.notes),
    )
few_notes p (Barline bar tick) h few = few
few_notes p (Pin channel bar shape) h few = few
few_notes p (Unpin channel bar) h few = few
few_notes p AddBar h few = few
few_notes p DropBar h few = few

abbrev FewCells : Performance → Type 0
FewCells p = length p.channels * length p.bars ≤ 16384

-- no more bars, no more cells
fewer : (channels bars more : ℕ) → bars ≤ more → channels * more ≤ 16384 → channels * bars ≤ 16384
fewer channels bars more le few = omega (arith, few, mul-le-mul_left channels le)

pub one_bar : (last : ℕ) (o : Option Bar) → length (next_bar last o) ≤ 1
one_bar last None = omega arith
one_bar last (Some b) = omega arith

few_cells : (p : Performance) (edit : Edit) → first_refusal (edit_tests p edit) ≡ None → FewCells p → FewCells (performance_after p edit)
few_cells p (Add channel key onset until) h few = few
few_cells p (Drop channel key onset) h few = few
few_cells p (Move channel key onset to) h few = few
few_cells p (Barline bar tick) h few = fewer (length p.channels) _ (length p.bars) (omega (arith, length-with_barline bar tick p.bars)) few
few_cells p (Pin channel bar shape) h few = few
few_cells p (Unpin channel bar) h few = few
few_cells p AddBar h few =
    let pass = all_pass (edit_tests p AddBar) h in
    fewer (length p.channels) _ (length p.bars + 1)
    (omega (arith, length-append p.bars (next_bar p.last (last_of p.bars)), one_bar p.last (last_of p.bars)))
    (not_above 16384 (length p.channels * (length p.bars + 1)) pass.1.0)
few_cells p DropBar h few = fewer (length p.channels) _ (length p.bars) (omega (arith, length-take (length p.bars - 1) p.bars)) few

-- ---- root symbols

abbrev Has : Grammar → Bar → Type 0
Has g b = root_of g.starts b.num b.den ≢ None

has_starts : (g : Grammar) (p : Performance) (edit : Edit) → HasStarts g p.bars → HasStarts g (performance_after p edit).bars
has_starts g p (Add channel key onset until) all = all
has_starts g p (Drop channel key onset) all = all
has_starts g p (Move channel key onset to) all = all
has_starts g p (Barline bar tick) all = All-with_barline (Has g) bar tick p.bars (λ b h. h) all
has_starts g p (Pin channel bar shape) all = all
has_starts g p (Unpin channel bar) all = all
has_starts g p AddBar all = All-append (Has g) p.bars (next_bar p.last (last_of p.bars)) all (by (last_of p.bars) refl)
  where
    by : (o : Option Bar) → last_of p.bars ≡ o → All (Has g) (next_bar p.last o)
    by None is = All-nil (Has g)
    by (Some b) is = all_cons (Has g) (with_start p.last b) [] (All-get (Has g) p.bars (length p.bars - 1) b all is) (All-nil (Has g))
has_starts g p DropBar all = All-take (Has g) (length p.bars - 1) p.bars all

-- ---- all of it, of an edit that is made

pub edited_notes : (p q : Performance) (edit : Edit) → edited p edit ≡ Ok q → FewNotes p → FewNotes q
edited_notes p q edit h few =
    let both = made (performance_after p edit) q (first_refusal (edit_tests p edit)) h in
    subst FewNotes both.1 (few_notes p edit both.0 few)

pub edited_cells : (p q : Performance) (edit : Edit) → edited p edit ≡ Ok q → FewCells p → FewCells q
edited_cells p q edit h few =
    let both = made (performance_after p edit) q (first_refusal (edit_tests p edit)) h in
    subst FewCells both.1 (few_cells p edit both.0 few)

pub edited_starts : (g : Grammar) (p q : Performance) (edit : Edit) → edited p edit ≡ Ok q → HasStarts g p.bars → HasStarts g q.bars
edited_starts g p q edit h all =
    let both = made (performance_after p edit) q (first_refusal (edit_tests p edit)) h in
    subst (λ (r : Performance). HasStarts g r.bars) both.1 (has_starts g p edit all)
