-- Lengths and places in parts of a whole note. With R units to the bar there are 64 * R parts to the whole note.
use Rattle.std.specs.Prelude.{ℕ, ◌+◌, ◌*◌, ◌/◌, List, sum_by}
use Rattle.rhythm_base.specs.declared.span.Frac.{Frac}
use Rattle.rhythm_base.specs.declared.span.Span.{Span}
use Rattle.durations.specs.Spans.{IsFrac}
use Rattle.derivation.specs.declared.score.ScoreBar.{ScoreBar}

-- ---- bars

abbrev pub score_bar_parts : ℕ → ScoreBar → ℕ
score_bar_parts resolution bar = resolution * (bar.num * (64 / bar.den))

abbrev pub score_parts : ℕ → List ScoreBar → ℕ
score_parts resolution bars = sum_by (score_bar_parts resolution) bars

-- ---- spans

-- how many parts of 1/d a number of whole notes is, where it is a whole number of them
abbrev pub frac_parts : ℕ → Frac → ℕ
frac_parts d f = f.num * (d / f.den)

-- it is a whole number of them, in lowest terms
abbrev pub IsWhole : ℕ → Frac → Type 0
IsWhole d f = IsFrac (frac_parts d f) d f

abbrev pub start_parts : ℕ → Span → ℕ
start_parts resolution x = frac_parts (64 * resolution) x.start

abbrev pub len_parts : ℕ → Span → ℕ
len_parts resolution x = frac_parts (64 * resolution) x.len

abbrev pub end_parts : ℕ → Span → ℕ
end_parts resolution x = start_parts resolution x + len_parts resolution x
