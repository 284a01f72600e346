-- The sounds of each voice have spans.
use Rattle.std.proofs.Common.{ℕ, ◌*◌, ◌≤◌, List, [], ◌∷◌, refl, arith}
use Rattle.std.specs.Prelude.{sum_by}
use Rattle.rhythm_base.specs.declared.note.Bar.{Bar}
use Rattle.rhythm_base.specs.declared.sound.Sound.{Sound}
use Rattle.rhythm_base.specs.declared.span.Span.{Span}
use Rattle.rhythm_base.specs.Lists.{Each}
use Rattle.durations.specs.Spans.{IsSpan, chord_runs, place_of, sound_length}
use Rattle.rhythm_base.specs.SoundKinds.{is_short}
use Rattle.derivation.proofs.Fractions.{frac_exist}
use Rattle.derivation.specs.Laws.{SpansExist}

span_exist : (resolution : ℕ) (bars : List Bar) (run : Sound × List Sound) → 1 ≤ resolution → (x : Span) × IsSpan resolution bars run x
span_exist resolution bars run some =
    let start = frac_exist (place_of resolution bars run.0) (64 * resolution) (omega (arith, some)) in
    let len = frac_exist (sum_by (sound_length bars) (run.0 ∷ run.1)) (64 * resolution) (omega (arith, some)) in (
      record { start = start.0; len = len.0; keys = run.0.keys; graces = run.0.graces; short = is_short run.0.kind },
      record { start = start.1; len = len.1; keys = refl; graces = refl; short = refl },
    )

runs_exist : (resolution : ℕ) (bars : List Bar) (runs : List (Sound × List Sound)) → 1 ≤ resolution → (xs : List Span) × Each (IsSpan resolution bars) runs xs
runs_exist resolution bars [] some = ([], refl)
runs_exist resolution bars (run ∷ runs) some =
    let one = span_exist resolution bars run some in
    let rest = runs_exist resolution bars runs some in
    (one.0 ∷ rest.0, (one.1, rest.1))

pub spans_exist : SpansExist
spans_exist resolution bars sounds some = runs_exist resolution bars (chord_runs sounds) some
