-- The notes of a voice, beat after beat.
use Rattle.std.proofs.Common.{◌≡◌, ℕ, zero, suc, ◌+◌, ◌*◌, ◌%◌, ◌/◌, ◌<◌, ◌≤◌, List, ◌++◌, length, sym, ap, subst, ◌∙◌, append_assoc, append-nil, length-append, arith}
use Rattle.std.specs.Prelude.{All}
use Rattle.std.specs.List.{flat_map, range_with_len, AllByRecursion}
use Rattle.std.proofs.Math.Numerals.{add-one}
use Rattle.std.proofs.Math.Nat.{mod-lt}
use Rattle.std.proofs.lemmas.List.Elements.{All-append, All-from_recursion}
use Rattle.rhythm_base.specs.declared.note.Note.{Note}
use Rattle.rhythm_gen.specs.declared.figure.Figure.{Figure}
use Rattle.rhythm_gen.specs.declared.figure.Figure.TheVariants.{Rest, One, Two}
use Rattle.rhythm_gen.specs.Beat.{beat_notes, figure, key, kind, notes_in_beat, shift}
use Rattle.rhythm_gen.specs.Draws.{draw}
use Rattle.rhythm_gen.specs.Voice.{CanBeWritten, first_beats}

one_more : (f : ℕ → List Note) (a n : ℕ) → flat_map f (range_with_len a (suc n)) ≡ flat_map f (range_with_len a n) ++ f (a + n)
one_more f a zero =
    let same : a ≡ a + 0 = omega arith in
    append-nil (f a) ∙ ap f same
one_more f a (suc n) =
    let same : (a + 1) + n ≡ a + suc n = omega arith in
    ap (λ (xs : List Note). f a ++ xs) (one_more f (a + 1) n)
    ∙ ap (λ k. f a ++ (flat_map f (range_with_len (a + 1) n) ++ f k)) same
    ∙ simp append_assoc

more_suc : (start channel n : ℕ) → first_beats start channel (suc n) ≡ first_beats start channel n ++ beat_notes channel n (draw start (n + 1))
more_suc start channel n =
    let f : ℕ → List Note = λ beat. beat_notes channel beat (draw start (beat + 1)) in
    let same : 0 + n ≡ n = omega arith in
    one_more f 0 n ∙ ap (λ k. first_beats start channel n ++ f k) same

-- one beat more
pub more_beats : (start channel n : ℕ) → first_beats start channel (n + 1) ≡ first_beats start channel n ++ beat_notes channel n (draw start (n + 1))
more_beats start channel n = ap (first_beats start channel) (add-one n) ∙ more_suc start channel n

figure_written : (f : Figure) (channel k t : ℕ) → channel < 16 → t < 100000000 → AllByRecursion CanBeWritten (notes_in_beat f channel k t)
figure_written Rest channel k t few early = tt
figure_written One channel k t few early = (record { channel = few; onset = omega arith; end = omega arith }, tt)
figure_written Two channel k t few early =
    (record { channel = few; onset = omega arith; end = omega arith }, (record { channel = few; onset = omega arith; end = omega arith }, tt))

figure_few : (f : Figure) (channel k t : ℕ) → length (notes_in_beat f channel k t) ≤ 2
figure_few Rest channel k t = omega arith
figure_few One channel k t = omega arith
figure_few Two channel k t = omega arith

-- the notes can be written
pub beats_written : (start channel n : ℕ) → channel ≤ 1 → n ≤ 8000 → All CanBeWritten (first_beats start channel n)
beats_written start channel zero few early = λ k d within. absurd (omega arith)
beats_written start channel (suc n) few early =
    let v = draw start (n + 1) in
    let late : shift v < 21 = mod-lt (v / 4) (omega arith) in
    let last = All-from_recursion CanBeWritten _ (figure_written (figure (kind (n % 4) v)) channel (key channel v) (480 * n + shift v) (omega arith) (omega arith)) in
    let P : List Note → Type 0 = All CanBeWritten in
    subst P (sym (more_suc start channel n)) (All-append CanBeWritten (first_beats start channel n) (beat_notes channel n v) (beats_written start channel n few (omega arith)) last)

-- two a beat at most
pub beats_few : (start channel n : ℕ) → length (first_beats start channel n) ≤ 2 * n
beats_few start channel zero = omega arith
beats_few start channel (suc n) =
    let v = draw start (n + 1) in
    let f : ℕ → List Note = λ beat. beat_notes channel beat (draw start (beat + 1)) in
    omega (
      arith,
      beats_few start channel n,
      figure_few (figure (kind (n % 4) v)) channel (key channel v) (480 * n + shift v),
      ap length (more_suc start channel n),
      length-append (first_beats start channel n) (beat_notes channel n v),
    )
