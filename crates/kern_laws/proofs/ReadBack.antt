-- A score that is written reads back.
use Rattle.std.proofs.Common.{List, [], ◌∷◌, map, reverse, refl, sym, ap, subst}
use Rattle.rhythm_base.specs.declared.note.Bar.{Bar}
use Rattle.rhythm_base.specs.Performance.{Performance}
use Rattle.derivation.proofs.OneScore.{scores_one}
use Rattle.derivation.specs.declared.score.ScoreBar.{ScoreBar}
use Rattle.derivation.specs.PerformanceScore.{score_bar}
use Rattle.kern_reader.specs.Outcome.{scored}
use Rattle.kern_reader.specs.Score.{score_columns}
use Rattle.kern_laws.specs.Laws.{ReadsBack, ScoresReadBack, TextsReadBack}
use Rattle.voice_events.specs.Events.{HaveSignatures}
use Rattle.kern_laws.proofs.LineScore.{lines_stand}
use Rattle.kern_laws.proofs.ReadBackTexts.{reads}
use Rattle.kern_laws.proofs.SpanEvents.{events_are_spans}

pub scores_read_back : ScoresReadBack
scores_read_back s bars text is have written =
    let (lines, are, read) = reads s text is written in
    record {
      score = score_columns (reverse lines);
      read = ap scored (read (lines_stand s lines is are));
      events = λ events. events_are_spans s lines bars events is are have;
    }

-- the bars of a score have the signatures of those of the performance
have_signatures : (p : Performance) (bars : List Bar) → HaveSignatures (map (score_bar p) bars) bars
have_signatures p [] = refl
have_signatures p (bar ∷ bars) = ap (λ rest. (bar.num, bar.den) ∷ rest) (have_signatures p bars)

pub texts_read_back : TextsReadBack
texts_read_back g p text readable formed (s, of, written) =
    let is = scores_one.can_be_written g p s readable formed of in
    let have = subst (λ (bars : List ScoreBar). HaveSignatures bars p.bars) (sym of.bars) (have_signatures p p.bars) in
    (s, of, subst (λ r. ReadsBack r p.bars s.voices text) of.resolution (scores_read_back s p.bars text is have written))
