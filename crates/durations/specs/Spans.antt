-- The sounding spans of a voice: each chord from its beginning over all its ties, across bars.
use Rattle.std.specs.Prelude.{◌≡◌, ℕ, ◌+◌, ◌*◌, ◌/◌, ◌≤◌, if◌then◌else◌, List, [], ◌∷◌, sum_by, take, take_while, slice_get, unwrap_or}
use Rattle.std.specs.Int.{IsGcd}
use Rattle.std.specs.Option.{option_map}
use Rattle.rhythm_base.specs.declared.note.Bar.{Bar}
use Rattle.rhythm_base.specs.declared.sound.Sound.{Sound}
use Rattle.rhythm_base.specs.declared.span.Frac.{Frac}
use Rattle.rhythm_base.specs.declared.span.Span.{Span}
use Rattle.rhythm_base.specs.Lists.{Each}
use Rattle.rhythm_base.specs.SoundKinds.{begins_chord, is_short, is_tie}

-- n / d in lowest terms
pub record IsFrac (n d : ℕ) (f : Frac) : Type 0 where
  pub value : f.num * d ≡ n * f.den
  pub some : 1 ≤ f.den
  pub lowest : IsGcd f.num f.den 1

-- ---- places, in parts of a whole note. With R units to the bar there are 64 * R parts to the whole note, and a unit of a
-- bar of num / den has num * 64 / den parts

abbrev pub parts_of_unit : Bar → ℕ
parts_of_unit bar = bar.num * (64 / bar.den)

abbrev pub parts_of_sound : List Bar → Sound → ℕ
parts_of_sound bars s = unwrap_or (option_map parts_of_unit (slice_get bars s.bar)) 0

-- from the beginning of the score: the bars before, and the units before
abbrev pub place_of : ℕ → List Bar → Sound → ℕ
place_of resolution bars s = resolution * sum_by parts_of_unit (take s.bar bars) + s.place * parts_of_sound bars s

abbrev pub sound_length : List Bar → Sound → ℕ
sound_length bars s = s.width * parts_of_sound bars s

-- ---- runs

-- each sound that begins a chord, with the ties right after it
abbrev pub chord_runs : List Sound → List (Sound × List Sound)
chord_runs [] = []
chord_runs (s ∷ sounds) = if begins_chord s.kind then (s, take_while (λ t. is_tie t.kind) sounds) ∷ chord_runs sounds else chord_runs sounds

-- the span of a run: it has the keys, the grace chords and the mark of its first sound, and sounds as long as all of it
pub record IsSpan (resolution : ℕ) (bars : List Bar) (run : Sound × List Sound) (x : Span) : Type 0 where
  pub start : IsFrac (place_of resolution bars run.0) (64 * resolution) x.start
  pub len : IsFrac (sum_by (sound_length bars) (run.0 ∷ run.1)) (64 * resolution) x.len
  pub keys : x.keys ≡ run.0.keys
  pub graces : x.graces ≡ run.0.graces
  pub short : x.short ≡ is_short run.0.kind

-- the spans of a voice, in order
abbrev pub AreSpans : ℕ → List Bar → List Sound → List Span → Type 0
AreSpans resolution bars sounds spans = Each (IsSpan resolution bars) (chord_runs sounds) spans
