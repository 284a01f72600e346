-- The text of what an editing session starts from: a record a line, of words with a space between two.
use Rattle.std.specs.Prelude.{◌≡◌, ℕ, List, [], ◌∷◌, ◌++◌, codes, decimal}
use Rattle.std.specs.Fmt.{signed_decimal}
use Rattle.std.specs.List.{enumerate_from, flat_map}
use Rattle.rhythm_base.specs.declared.event.Tempo.{Tempo}
use Rattle.rhythm_base.specs.declared.event.KeyMark.{KeyMark}
use Rattle.rhythm_base.specs.declared.note.Bar.{Bar}
use Rattle.rhythm_base.specs.declared.note.Note.{Note}
use Rattle.rhythm_base.specs.Performance.{Performance}
use Rattle.notes_writer.specs.ByOnset.{AreByOnset}
use Rattle.notes_writer.specs.Line.{words_line, record_signature}

-- a bar: its number, the tick at which it begins, and its signature
abbrev pub bar_record : ℕ × Bar → List ℕ
bar_record (number, b) = words_line (codes "bar" ∷ decimal number ∷ decimal b.start ∷ record_signature b.num b.den ∷ [])

-- a change of tempo: its tick, and the microseconds of a quarter note
abbrev pub tempo_record : Tempo → List ℕ
tempo_record t = words_line (codes "tempo" ∷ decimal t.tick ∷ decimal t.micros ∷ [])

-- a change of key: its tick, and the sharps, or after a minus sign the flats
abbrev pub key_record : KeyMark → List ℕ
key_record k = words_line (codes "key" ∷ decimal k.tick ∷ signed_decimal k.sf ∷ [])

-- a note: its channel and key, and the ticks at which it begins and ends
abbrev pub note_line : Note → List ℕ
note_line n = words_line (codes "note" ∷ decimal n.channel ∷ decimal n.key ∷ decimal n.onset ∷ decimal n.end ∷ [])

-- the tick of the last barline
abbrev pub end_line : ℕ → List ℕ
end_line last = words_line (codes "end" ∷ decimal last ∷ [])

-- the bars, numbered from 0 as an edit script numbers them; the tempos, the keys, these notes, and the last barline
abbrev pub notes_records : Performance → List Note → List ℕ
notes_records p notes =
    flat_map bar_record (enumerate_from 0 p.bars) ++ flat_map tempo_record p.tempos ++ flat_map key_record p.key_marks
    ++ flat_map note_line notes ++ end_line p.last

-- the text of a performance, with its notes by onset, channel and key
abbrev pub IsNotesText : Performance → List ℕ → Type 0
IsNotesText p text = (notes : List Note) × AreByOnset p.notes notes × (text ≡ notes_records p notes)
