-- When a chord that begins in a column is the run of a chord of sounds.
use Rattle.std.proofs.Common.{◌≡◌, ℕ, suc, ◌+◌, ◌*◌, ◌≤◌, List, [], ◌∷◌, length, sym, ap, ◌∙◌, arith}
use Rattle.std.specs.Prelude.{reverse, sum_by}
use Rattle.rhythm_base.specs.declared.note.Bar.{Bar}
use Rattle.rhythm_base.specs.declared.sound.Sound.{Sound}
use Rattle.rhythm_base.specs.declared.span.Span.{Span}
use Rattle.rhythm_base.specs.Lists.{Each}
use Rattle.durations.specs.Spans.{IsSpan, sound_length}
use Rattle.rhythm_base.specs.SoundKinds.{is_short}
use Rattle.durations.specs.Spans as sounds
use Rattle.durations.specs.Value.{width}
use Rattle.kern_reader.specs.Columns.{waiting}
use Rattle.voice_events.proofs.SameFractions.{frac_same}
use Rattle.kern_reader.specs.Events.{Beginning, IsKernSpan, token_place, tied_values}

-- the same place, length, keys, grace chords and mark
pub record IsMatch (grid resolution : ℕ) (bars : List Bar) (b : Beginning) (run : Sound × List Sound) : Type 0 where
  pub start : token_place grid b.before * (64 * resolution) ≡ sounds.place_of resolution bars run.0 * (64 * grid)
  pub len : (width grid b.writing.value + sum_by (width grid) (tied_values b.after)) * (64 * resolution) ≡ sum_by (sound_length bars) (run.0 ∷ run.1) * grid
  pub keys : b.keys ≡ run.0.keys
  pub graces : reverse (waiting b.before) ≡ run.0.graces
  pub short : b.writing.short ≡ is_short run.0.kind

module _ (grid resolution : ℕ) (bars : List Bar) (fine : 1 ≤ grid) (some : 1 ≤ resolution) where
  kern_span : (b : Beginning) (run : Sound × List Sound) (x : Span) → IsMatch grid resolution bars b run → IsKernSpan grid b x → IsSpan resolution bars run x
  kern_span b run x match is = record {
    start = frac_same (token_place grid b.before) (64 * grid) (sounds.place_of resolution bars run.0) (64 * resolution) x.start (omega (arith, fine)) match.start is.start;
    len = frac_same (width grid b.writing.value + sum_by (width grid) (tied_values b.after)) grid (sum_by (sound_length bars) (run.0 ∷ run.1)) (64 * resolution) x.len fine match.len is.len;
    keys = is.keys ∙ match.keys;
    graces = is.graces ∙ match.graces;
    short = is.short ∙ match.short;
  }

  sound_span : (b : Beginning) (run : Sound × List Sound) (x : Span) → IsMatch grid resolution bars b run → IsSpan resolution bars run x → IsKernSpan grid b x
  sound_span b run x match is = record {
    start = frac_same (sounds.place_of resolution bars run.0) (64 * resolution) (token_place grid b.before) (64 * grid) x.start (omega (arith, some)) (sym match.start) is.start;
    len = frac_same (sum_by (sound_length bars) (run.0 ∷ run.1)) (64 * resolution) (width grid b.writing.value + sum_by (width grid) (tied_values b.after)) grid x.len (omega (arith, some)) (sym match.len) is.len;
    keys = is.keys ∙ sym match.keys;
    graces = is.graces ∙ sym match.graces;
    short = is.short ∙ sym match.short;
  }

  pub kern_spans : (bs : List Beginning) (runs : List (Sound × List Sound)) (spans : List Span) → Each (IsMatch grid resolution bars) bs runs → Each (IsKernSpan grid) bs spans → Each (IsSpan resolution bars) runs spans
  kern_spans [] [] spans match each = each
  kern_spans [] (run ∷ runs) spans match each = absurd (none (ap length match))
    where
      none : suc (length runs) ≡ 0 → ⊥
      none h = omega (arith, h)
  kern_spans (b ∷ bs) [] spans match each = absurd match
  kern_spans (b ∷ bs) (run ∷ runs) [] match each = absurd each
  kern_spans (b ∷ bs) (run ∷ runs) (x ∷ spans) (one, more) (own, rest) = (kern_span b run x one own, kern_spans bs runs spans more rest)

  pub sound_spans : (bs : List Beginning) (runs : List (Sound × List Sound)) (spans : List Span) → Each (IsMatch grid resolution bars) bs runs → Each (IsSpan resolution bars) runs spans → Each (IsKernSpan grid) bs spans
  sound_spans [] [] spans match each = each
  sound_spans [] (run ∷ runs) spans match each = absurd (none (ap length match))
    where
      none : suc (length runs) ≡ 0 → ⊥
      none h = omega (arith, h)
  sound_spans (b ∷ bs) [] spans match each = absurd match
  sound_spans (b ∷ bs) (run ∷ runs) [] match each = absurd each
  sound_spans (b ∷ bs) (run ∷ runs) (x ∷ spans) (one, more) (own, rest) = (sound_span b run x one own, sound_spans bs runs spans more rest)
