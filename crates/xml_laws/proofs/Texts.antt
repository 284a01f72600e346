-- The text of a score is read as the spans of its voices.
use Rattle.std.proofs.Common.{◌≡◌, ℕ, List, [], ◌++◌, map, Some, None, refl, ap, ◌∙◌, append_assoc}
use Rattle.std.specs.Prelude.{codes}
use Rattle.std.specs.Option.{option_map}
use Rattle.rhythm_base.specs.declared.note.Bar.{Bar}
use Rattle.rhythm_base.specs.Lists.{Each}
use Rattle.derivation.specs.Score.{IsScore, Score}
use Rattle.voice_events.specs.Events.{HaveSignatures}
use Rattle.notation.specs.Bars.{AreVoiceGroups}
use Rattle.notation.specs.Notes.{Group}
use Rattle.voice_events.proofs.BarUnits.{signatures_kept, some_bar}
use Rattle.notation_laws.proofs.ScoreEvents.{spans_are_events}
use Rattle.musicxml_writer.specs.Elements.{closing, line}
use Rattle.musicxml_writer.specs.Text.{head, part_list, parts_text, score_text}
use Rattle.xml_laws.specs.Laws.{BarsAreFull, TextsAreReadBack, TextsSayTheEvents}
use Rattle.xml_laws.specs.Reading.{read_parts, text_parts}
use Rattle.xml_laws.specs.Words.{head_marks, head_values, xml_words}
use Rattle.xml_laws.proofs.OutsideParts.{head_passes, list_passes}
use Rattle.xml_laws.proofs.PartsRead.{ArePartsRead, parts_read}

tail_passes : read_parts None (xml_words (line (closing (codes "score-partwise")))) ≡ Some []
unfolding closing head_values head_marks
tail_passes = refl

parts_are : (s : Score) (bars : List Bar) (voices : List (List (List Group))) (is : IsScore s) (signatures : HaveSignatures s.bars bars)
    → Each (AreVoiceGroups s.resolution 0 s.bars) s.voices voices
    → ArePartsRead s.resolution is.some_unit is.few_units s.bars bars is.bars signatures s.voices
    (parts_text s.resolution s.bars 1 s.voices voices ++ line (closing (codes "score-partwise")))
parts_are s bars written is signatures each =
    parts_read s.resolution is.some_unit is.few_units s.bars bars is.bars signatures 1 s.voices written
    (line (closing (codes "score-partwise")))
    is.voices each tail_passes

text_is : (s : Score) (channels : List ℕ) (written : List (List (List Group)))
    → text_parts (score_text s channels written)
    ≡ read_parts None (xml_words (parts_text s.resolution s.bars 1 s.voices written ++ line (closing (codes "score-partwise"))))
unfolding text_parts score_text
text_is s channels written =
    let list = part_list channels in
    let parts = parts_text s.resolution s.bars 1 s.voices written in
    let tail = line (closing (codes "score-partwise")) in
    ap (λ t. read_parts None (xml_words t)) (append_assoc (head ++ list) parts tail ∙ append_assoc head list (parts ++ tail))
    ∙ head_passes (list ++ (parts ++ tail)) ∙ list_passes channels (parts ++ tail)

pub texts_read : TextsAreReadBack
texts_read s bars channels text is signatures (written, each, same) =
    let all = parts_are s bars written is signatures each in
    record {
      spans = map (λ part. part.spans) all.parts;
      read = ap (option_map (map (λ part. part.spans))) (ap text_parts same ∙ text_is s channels written ∙ all.read);
      are = all.are;
    }

pub bars_full : BarsAreFull
bars_full s channels text is (written, each, same) =
    let all = parts_are s (map some_bar s.bars) written is (signatures_kept s.bars) each in
    ap (option_map (map (λ part. part.lengths))) (ap text_parts same ∙ text_is s channels written ∙ all.read) ∙ ap (λ ls. Some ls) all.long

-- so it says the events of the score
pub events_said : TextsSayTheEvents
events_said s channels text is written =
    let bars = map some_bar s.bars in
    let signatures = signatures_kept s.bars in
    let back = texts_read s bars channels text is signatures written in
    record { spans = back.spans; read = back.read; events = spans_are_events s bars back.spans signatures back.are }
