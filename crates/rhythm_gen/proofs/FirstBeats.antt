-- The first beat of each bar has a note.
use Rattle.std.proofs.Common.{◌≡◌, ◌≢◌, ℕ, zero, suc, ◌+◌, ◌*◌, ◌/◌, ◌%◌, ◌<◌, ◌≤◌, ◌==◌, Bool, true, false, List, ◌++◌, length, length-append, refl, subst, sym, inl, inr, arith}
use Rattle.std.specs.Prelude.{Contains, if◌then◌else◌}
use Rattle.std.specs.List.{flat_map, range_with_len}
use Rattle.std.proofs.Math.Nat.{mod-lt}
use Rattle.std.proofs.lemmas.Bool.{cases_lt}
use Rattle.std.proofs.lemmas.List.Elements.{Contains-append_left, Contains-append_right}
use Rattle.rhythm_base.specs.declared.note.Note.{Note}
use Rattle.rhythm_gen.specs.declared.figure.Figure.{Figure}
use Rattle.rhythm_gen.specs.declared.figure.Figure.TheVariants.{Rest, One, Two}
use Rattle.rhythm_gen.specs.Beat.{beat_notes, figure, key, kind, notes_in_beat, shift}
use Rattle.rhythm_gen.specs.Draws.{draw}
use Rattle.rhythm_gen.specs.Voice.{voice_notes}

-- a note of a channel that begins in the first ticks of a bar
pub record BeginsIn (channel bar : ℕ) (n : Note) : Type 0 where
  pub voice : n.channel ≡ channel
  pub low : 1920 * bar ≤ n.onset
  pub high : n.onset < 1920 * bar + 21

-- what no figure but a rest is without
figure_sounds : (f : Figure) (channel k t : ℕ) → f ≢ Rest → (n : Note) × Contains (notes_in_beat f channel k t) n × (n.channel ≡ channel) × (n.onset ≡ t)
figure_sounds Rest channel k t other = absurd (other refl)
figure_sounds One channel k t other = (record { channel = channel; key = k; onset = t; end = t + 400 }, (0, omega arith, refl), refl, refl)
figure_sounds Two channel k t other = (record { channel = channel; key = k; onset = t; end = t + 180 }, (0, omega arith, refl), refl, refl)

by_kind : (one three : Bool) → one ≡ false → (if one then Rest else (if three then Two else One)) ≢ Rest
by_kind true three e is = absurd (cc)
by_kind false true e is = absurd (cc)
by_kind false false e is = absurd (cc)

-- the first beat of a bar is no rest
no_rest : (v : ℕ) → figure (kind 0 v) ≢ Rest
no_rest v = go (v % 4 == 0) refl
  where
    go : (b : Bool) → (v % 4 == 0) ≡ b → figure (if b then 1 else v % 4) ≢ Rest
    go true e is = absurd (cc)
    go false e is = by_kind (v % 4 == 0) (v % 4 == 3) e is

-- what is among the notes of one beat is among those of all
among_beats : (f : ℕ → List Note) (a n k : ℕ) (x : Note) → a ≤ k → k < a + n → Contains (f k) x → Contains (flat_map f (range_with_len a n)) x
among_beats f a zero k x low high h = absurd (omega arith)
among_beats f a (suc n) k x low high h = elim (cases_lt a k) [
  | inl later ↦ Contains-append_right (f a) (flat_map f (range_with_len (a + 1) n)) x (among_beats f (a + 1) n k x (omega arith) (omega arith) h)
  | inr here ↦ (let same : k ≡ a = omega arith in
      Contains-append_left (f a) (flat_map f (range_with_len (a + 1) n)) x (subst (λ j. Contains (f j) x) same h))
]

pub first_beat : (start bars channel bar : ℕ) → bar < bars → (n : Note) × Contains (voice_notes start bars channel) n × BeginsIn channel bar n
first_beat start bars channel bar lt =
    let v = draw start (4 * bar + 1) in
    let late : shift v < 21 = mod-lt (v / 4) (omega arith) in
    let place : 0 ≡ (4 * bar) % 4 = omega arith in
    let rests : figure (kind ((4 * bar) % 4) v) ≢ Rest = subst (λ p. figure (kind p v) ≢ Rest) place (no_rest v) in
    let one = figure_sounds (figure (kind ((4 * bar) % 4) v)) channel (key channel v) (480 * (4 * bar) + shift v) rests in (
      one.0,
      among_beats (λ beat. beat_notes channel beat (draw start (beat + 1))) 0 (4 * bars) (4 * bar) one.0 (omega arith) (omega arith) one.1,
      record { voice = one.2; low = omega (arith, one.3); high = omega (arith, one.3) },
    )

-- ---- so there are as many notes as bars at least

one_more_note : (start channel a : ℕ) → a % 4 ≡ 0 → 1 ≤ length (beat_notes channel a (draw start (a + 1)))
one_more_note start channel a first =
    let v = draw start (a + 1) in
    let rests : figure (kind (a % 4) v) ≢ Rest = subst (λ p. figure (kind p v) ≢ Rest) (sym first) (no_rest v) in
    let one = figure_sounds (figure (kind (a % 4) v)) channel (key channel v) (480 * a + shift v) rests in
    let there = one.1 in
    omega (arith, there.1)

notes_from : (start channel a n : ℕ) → a % 4 ≡ 0 → n ≤ length (flat_map (λ beat. beat_notes channel beat (draw start (beat + 1))) (range_with_len a (4 * n)))
notes_from start channel a zero first = omega arith
notes_from start channel a (suc n) first =
    let f : ℕ → List Note = λ beat. beat_notes channel beat (draw start (beat + 1)) in
    let four : 4 * suc n ≡ suc (suc (suc (suc (4 * n)))) = omega arith in
    let rest : List Note = flat_map f (range_with_len (a + 1 + 1 + 1 + 1) (4 * n)) in
    let third : List Note = f (a + 1 + 1 + 1) ++ rest in
    let second : List Note = f (a + 1 + 1) ++ third in
    let first_note = one_more_note start channel a first in
    let more = notes_from start channel (a + 1 + 1 + 1 + 1) n (omega arith) in
    let P : ℕ → Type 0 = λ k. suc n ≤ length (flat_map f (range_with_len a k)) in
    subst P (sym four) (omega (
      arith,
      first_note,
      more,
      length-append (f a) (f (a + 1) ++ second),
      length-append (f (a + 1)) second,
      length-append (f (a + 1 + 1)) third,
      length-append (f (a + 1 + 1 + 1)) rest,
    ))

pub some_notes : (start bars channel : ℕ) → bars ≤ length (voice_notes start bars channel)
some_notes start bars channel = notes_from start channel 0 bars refl
