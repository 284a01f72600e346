-- A bar as it is written.
use Rattle.std.specs.Prelude.{List}
use Rattle.derivation.specs.declared.score.ScoreBar.{ScoreBar}
use Rattle.rhythm_base.specs.declared.event.KeyMark.{KeyMark}
use Rattle.rhythm_base.specs.declared.event.Tempo.{Tempo}
use Rattle.rhythm_base.specs.declared.note.Bar.{Bar}
use Rattle.rhythm_base.specs.Time.{key_at, tempo_at}

-- with the tempo and the key in force at its start
abbrev pub bar_in_force : List Tempo → List KeyMark → Bar → ScoreBar
bar_in_force tempos marks bar = record {
  num = bar.num;
  den = bar.den;
  tempo = tempo_at tempos bar.start;
  sf = key_at marks bar.start;
}
