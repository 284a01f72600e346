-- What an edit of a drill keeps: the number of bars, the last barline, and all notes but one that it drops.
use Rattle.std.proofs.Common.{◌≡◌, ℕ, ◌+◌, ◌*◌, ◌%◌, ◌==◌, ◌<◌, ◌≤◌, Bool, true, false, not, if◌then◌else◌, ◌⊎◌, inl, inr, List, [], ◌∷◌, length, refl, sym, ap, subst, arith, Some, None}
use Rattle.std.specs.Cmp.Lexicographic.{slice_cmp}
use Rattle.std.specs.Ordering.{nat_cmp}
use Rattle.std.specs.Prelude.{All, AllPairs, filter}
use Rattle.std.specs.declared.cmp.Ordering.TheVariants.{Less}
use Rattle.std.proofs.lemmas.Bool.Decides.{eqb_tells, nat_tests}
use Rattle.std.proofs.lemmas.List.Elements.{filter_passes}
use Rattle.std.proofs.lemmas.List.Filters.{length-filter_both}
use Rattle.std.proofs.lemmas.List.Kept.{AllPairs-filter}
use Rattle.rhythm_base.specs.declared.edit.Edit.{Edit}
use Rattle.rhythm_base.specs.declared.note.Note.{Note}
use Rattle.edit_laws.specs.Edits.{edit_tests, first_refusal, is_note, moved_to, note_at, performance_after, put_moved, without_note}
use Rattle.rhythm_base.specs.Grammar.{Grammar}
use Rattle.rhythm_base.specs.Performance.{IsWellFormed, Performance, place_of_note}
use Rattle.edit_laws.specs.EditOutcomes.{EditOutcome, IsOutcome, made, refused}
use Rattle.edit_laws.proofs.BarEdits.{length-with_barline}
use Rattle.edit_laws.proofs.Edited.{made as made_passes}
use Rattle.edit_laws.proofs.EditedCounts.{length-put}
use Rattle.drill_run.specs.Drill.{Drilled, IsDrillStep}
use Rattle.drill_run.proofs.EditKinds.{IsKind, kind_of, moved_inside}

-- ---- one note fewer

abbrev IsBeforeNote : Note → Note → Type 0
IsBeforeNote x y = slice_cmp nat_cmp (place_of_note x) (place_of_note y) ≡ Less

apart : (channel key onset : ℕ) (x y : Note) → is_note channel key onset x ≡ true → is_note channel key onset y ≡ true → IsBeforeNote x y → ⊥
apart channel key onset x y h k before = grind (arith, nat_tests)

-- notes in order have one of a channel, key and onset at most
one_such : (channel key onset : ℕ) (xs : List Note) → AllPairs IsBeforeNote xs → All (λ n. is_note channel key onset n ≡ true) xs → length xs ≤ 1
one_such channel key onset [] order all = omega arith
one_such channel key onset (x ∷ []) order all = omega arith
one_such channel key onset (x ∷ y ∷ more) order all =
    absurd (apart channel key onset x y (all 0 x (omega arith)) (all 1 x (omega arith)) (order 0 1 x (omega arith) (omega arith)))

pub one_fewer : (p : Performance) (channel key onset : ℕ) → IsWellFormed p → length p.notes ≤ length (without_note channel key onset p.notes) + 1
one_fewer p channel key onset w =
    let test : Note → Bool = is_note channel key onset in
    let both = length-filter_both test (λ n. not (test n)) (λ n. refl) p.notes in
    let few = one_such channel key onset (filter test p.notes) (AllPairs-filter IsBeforeNote test p.notes w.notes_in_order) (filter_passes test p.notes) in
    omega (arith, both, few)

-- ---- an edit

-- the same voices, as many bars, the same last barline, and no note fewer, or one where the number of the edit leaves 1 over fours
pub record Keeps (e : ℕ) (p q : Performance) : Type 0 where
  pub voices : q.channels ≡ p.channels
  pub bars : length q.bars ≡ length p.bars
  pub last : q.last ≡ p.last
  pub notes : (length p.notes ≤ length q.notes) ⊎ ((e % 4 ≡ 1) × (length p.notes ≤ length q.notes + 1))

unchanged : (e : ℕ) (p : Performance) → Keeps e p p
unchanged e p = record { voices = refl; bars = refl; last = refl; notes = inl (omega arith) }

module _ (e : ℕ) (p : Performance) (w : IsWellFormed p) where
  after : (edit : Edit) → IsKind e p edit → first_refusal (edit_tests p edit) ≡ None → Keeps e p (performance_after p edit)
  after edit (inl (channel, key, onset, until, low, small, is)) passes =
      let n : Note = record { channel = channel; key = key; onset = onset; end = until } in
      let more = length-put place_of_note n p.notes in
      subst (λ (x : Edit). Keeps e p (performance_after p x)) (sym is) (record { voices = refl; bars = refl; last = refl; notes = inl (omega (arith, more)) })
  after edit (inr (inl (k, n, there, turn, is))) passes =
      let fewer = one_fewer p n.channel n.key n.onset w in
      subst (λ (x : Edit). Keeps e p (performance_after p x)) (sym is) (record { voices = refl; bars = refl; last = refl; notes = inr (turn, fewer) })
  after edit (inr (inr (inl (k, n, there, is)))) passes =
      let to = n.onset + 30 in
      let one = moved_inside p n.channel n.key n.onset to (subst (λ (x : Edit). first_refusal (edit_tests p x) ≡ None) is passes) in
      let rest : List Note = without_note n.channel n.key n.onset p.notes in
      let fewer = one_fewer p n.channel n.key n.onset w in
      let more = length-put place_of_note (moved_to to one.0) rest in
      let same : length (put_moved to (note_at p.notes n.channel n.key n.onset) rest) ≡ length (put_moved to (Some one.0) rest) = ap (λ o. length (put_moved to o rest)) one.1 in
      subst (λ (x : Edit). Keeps e p (performance_after p x)) (sym is) (record { voices = refl; bars = refl; last = refl; notes = inl (omega (arith, fewer, more, same)) })
  after edit (inr (inr (inr (bar, tick, some, few, is)))) passes =
      subst (λ (x : Edit). Keeps e p (performance_after p x)) (sym is) (record { voices = refl; bars = length-with_barline bar tick p.bars; last = kept (eqb_tells bar (length p.bars)); notes = inl (omega arith) })
    where
      kept : (((bar == length p.bars) ≡ true) × (bar ≡ length p.bars)) ⊎ (((bar == length p.bars) ≡ false) × (bar ≡ length p.bars → ⊥)) → (if bar == length p.bars then tick else p.last) ≡ p.last
      kept (inl is) = absurd (omega (arith, few, is.1))
      kept (inr other) = ap (λ b. if b then tick else p.last) other.0

pub step_keeps : (g : Grammar) (number e : ℕ) (old new : Drilled) (besides : ℕ) → IsWellFormed old.performance → IsDrillStep g number e old new besides
    → Keeps e old.performance new.performance
step_keeps g number e old new besides w step = by step.outcome step.comes
  where
    by : (outcome : EditOutcome) → IsOutcome g old.performance step.edit outcome new.performance → Keeps e old.performance new.performance
    by (refused fault) (is, stays) = subst (Keeps e old.performance) (sym stays) (unchanged e old.performance)
    by (made reached cost) (cells, is, count) =
        let both = made_passes (performance_after old.performance step.edit) new.performance (first_refusal (edit_tests old.performance step.edit)) is.made in
        subst (Keeps e old.performance) both.1 (after e old.performance w step.edit (kind_of e old.performance step.edit number step.is) both.0)

-- ---- enough for the edits to come

-- before the edit of number e at most (e + 2) / 4 notes have been dropped
pub record HasEnough (e : ℕ) (p : Performance) : Type 0 where
  pub bars : 2 ≤ length p.bars
  pub last : p.last ≤ 1999999000
  pub dropped : ℕ
  pub few_dropped : 4 * dropped ≤ e + 2
  pub notes : 11 ≤ length p.notes + dropped

pub keeps_enough : (e : ℕ) (p q : Performance) → HasEnough e p → Keeps e p q → HasEnough (e + 1) q
keeps_enough e p q h k = by k.notes
  where
    by : (length p.notes ≤ length q.notes) ⊎ ((e % 4 ≡ 1) × (length p.notes ≤ length q.notes + 1)) → HasEnough (e + 1) q
    by (inl all) = record {
      bars = omega (arith, h.bars, k.bars);
      last = omega (arith, h.last, k.last);
      dropped = h.dropped;
      few_dropped = omega (arith, h.few_dropped);
      notes = omega (arith, h.notes, all);
    }
    by (inr (turn, fewer)) = record {
      bars = omega (arith, h.bars, k.bars);
      last = omega (arith, h.last, k.last);
      dropped = h.dropped + 1;
      few_dropped = omega (arith, h.few_dropped, turn);
      notes = omega (arith, h.notes, fewer);
    }

-- so there is a note for each of forty edits
pub some_note : (e : ℕ) (p : Performance) → HasEnough e p → e < 40 → 1 ≤ length p.notes
some_note e p h few = omega (arith, few, h.few_dropped, h.notes)
