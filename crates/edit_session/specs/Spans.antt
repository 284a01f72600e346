-- The bars of a voice that a change of its notes may reach, and the notes on which their inputs depend.
use Rattle.std.specs.Prelude.{◌≡◌, ◌⊎◌, ℕ, ◌+◌, ◌<◌, ◌≤◌, List, ◌∷◌, All, drop, filter, get_or, length, nat_le, nat_lt, take}
use Rattle.std.specs.List.{between}
use Rattle.edit_session.specs.declared.span.Span.{Span}
use Rattle.rhythm_base.specs.declared.event.Tempo.{Tempo}
use Rattle.rhythm_base.specs.declared.note.Bar.{Bar}
use Rattle.rhythm_base.specs.declared.note.Note.{Note}
use Rattle.rhythm_base.specs.Barlines.{barline}
use Rattle.rhythm_base.specs.Performance.{Performance}
use Rattle.rhythm_base.specs.Pins.{pin_of}
use Rattle.voices.specs.Breaks.{IsBreak}

-- up to the place the notes are as before, no chord goes on over it, and no other note begins before the tick
pub record AreSameBefore (tempos : List Tempo) (division window : ℕ) (before after : List Note) (place tick : ℕ) : Type 0 where
  pub same : take place before ≡ take place after
  pub break : IsBreak tempos division window before place
  pub break_after : IsBreak tempos division window after place
  pub low : All (λ n. tick ≤ n.onset) (drop place before)
  pub low_after : All (λ n. tick ≤ n.onset) (drop place after)

-- from the place on the notes are those from another place on before, no chord goes on over it, the first of them begins at the
-- tick, and no other note begins after it
pub record AreSameFrom (tempos : List Tempo) (division window : ℕ) (before after : List Note) (place tick : ℕ) : Type 0 where
  pub place_before : ℕ
  pub same : drop place_before before ≡ drop place after
  pub break : IsBreak tempos division window before place_before
  pub break_after : IsBreak tempos division window after place
  pub high : All (λ n. n.onset ≤ tick) (take place_before before)
  pub high_after : All (λ n. n.onset ≤ tick) (take place after)
  pub first : (n : Note) × (others : List Note) × (drop place after ≡ n ∷ others) × (n.onset ≡ tick)

-- The notes from one place up to another lie between breaks. They are all that begin between two ticks, and the first of them
-- begins before these, or is the first of the voice.
pub record IsNotePart (tempos : List Tempo) (division window : ℕ) (notes : List Note) (low high first end : ℕ) : Type 0 where
  pub order : first ≤ end
  pub within : end ≤ length notes
  pub break : IsBreak tempos division window notes first
  pub break_end : IsBreak tempos division window notes end
  pub earlier : All (λ n. n.onset < low) (take first notes)
  pub later : All (λ n. high ≤ n.onset) (drop end notes)
  pub begun : (first ≡ 0) ⊎ ((n : Note) × (others : List Note) × (between first end notes ≡ n ∷ others) × (n.onset < low))

-- the notes are as before at the start, and the bars up to that number end by there
pub record IsFirstBar (tempos : List Tempo) (division window : ℕ) (before after : List Note) (bars : List Bar) (last number : ℕ) : Type 0 where
  pub place : ℕ
  pub tick : ℕ
  pub within : number ≤ length bars
  pub same : AreSameBefore tempos division window before after place tick
  pub bars_end : (bar : ℕ) → bar < number → barline bars last (bar + 1) ≤ tick

-- the notes are as before at the end, and the bars from that number on start after there; or there is no such bar
pub record IsBarEnd (tempos : List Tempo) (division window : ℕ) (before after : List Note) (bars : List Bar) (last number : ℕ) : Type 0 where
  pub within : number ≤ length bars
  pub is : (length bars ≤ number) ⊎ ((place tick : ℕ) × AreSameFrom tempos division window before after place tick
      × ((bar : ℕ) → number ≤ bar → bar < length bars → tick < barline bars last bar))

-- Outside of the bars of the span a change of notes leaves all inputs, and its notes have the chords that the others depend on. The
-- bars from one to another are in it.
pub record IsNoteSpan (tempos : List Tempo) (division window : ℕ) (before after : List Note) (bars : List Bar) (last first_bar bar_end : ℕ) (span : Span) : Type 0 where
  pub first : IsFirstBar tempos division window before after bars last span.first_bar
  pub end : IsBarEnd tempos division window before after bars last span.bar_end
  pub part : IsNotePart tempos division window after (barline bars last span.first_bar) (barline bars last span.bar_end) span.first_note span.note_end
  pub from : span.first_bar ≤ first_bar
  pub up_to : bar_end ≤ span.bar_end

-- the same of the bars of a performance
abbrev pub IsSpanOf : List Tempo → Performance → ℕ → List Note → List Note → ℕ → ℕ → Span → Type 0
IsSpanOf tempos p window before after first_bar bar_end span =
    IsNoteSpan tempos p.division window before after p.bars p.last first_bar bar_end span

-- a bar starts and ends where it did, and has the signature that it had
pub record IsSameBar (before after : Performance) (number : ℕ) : Type 0 where
  pub there : number < length before.bars
  pub bar : (d : Bar) → get_or after.bars number d ≡ get_or before.bars number d
  pub end : barline after.bars after.last (number + 1) ≡ barline before.bars before.last (number + 1)

-- All that inputs depend on is as before: notes that begin before one tick, or from another one on, and bars and pins outside of
-- some bars.
pub record IsKnown (before after : Performance) (low high first_bar bar_end : ℕ) : Type 0 where
  pub early : filter (λ n. nat_lt n.onset low) after.notes ≡ filter (λ n. nat_lt n.onset low) before.notes
  pub late : filter (λ n. nat_le high n.onset) after.notes ≡ filter (λ n. nat_le high n.onset) before.notes
  pub pins : (channel bar : ℕ) → bar < length after.bars → (bar < first_bar) ⊎ (bar_end ≤ bar) → pin_of after.pins channel bar ≡ pin_of before.pins channel bar
  pub tempos : after.tempos ≡ before.tempos
  pub division : after.division ≡ before.division
  pub first : first_bar ≤ length after.bars
  pub end : bar_end ≤ length after.bars
  pub bars : (number : ℕ) → number < length after.bars → (number < first_bar) ⊎ (bar_end ≤ number) → IsSameBar before after number
