-- The cells of one voice with another input than that of their table, after a change.
use Rattle.std.specs.Prelude.{ℕ, List, length, map}
use Rattle.bar_cut.specs.Cuts.{inputs}
use Rattle.edit_session.specs.Inputs.{AreInputsOfVoice}
use Rattle.edit_session.specs.ReachedCells.{AreOtherInputs, AreOtherInputsWithin, place_pair}
use Rattle.edit_session.specs.declared.reached.CellPlace.{CellPlace}
use Rattle.edit_session.specs.declared.span.Span.{Span}
use Rattle.rhythm_base.specs.declared.chord.Chord.{Chord}
use Rattle.rhythm_base.specs.BarInput.{BarInput}
use Rattle.rhythm_base.specs.BarTables.{BarTable}
use Rattle.rhythm_base.specs.Grammar.{Grammar}
use Rattle.rhythm_base.specs.Performance.{Performance}

-- these, with their inputs, of the inputs of the voice
abbrev pub AreOthersOfVoice : Grammar → Performance → ℕ → List BarTable → List CellPlace → List BarInput → Type 0
AreOthersOfVoice g p channel tables cells others =
    (own : List BarInput) × AreInputsOfVoice g p channel own
    × AreOtherInputs channel own tables (length own) (map place_pair cells) others

-- these in the bars of a span, by the chords that their inputs depend on
abbrev pub AreOthersInSpan : Grammar → Performance → ℕ → List Chord → List BarTable → Span → List CellPlace → List BarInput → Type 0
AreOthersInSpan g p channel chords tables span cells others =
    AreOtherInputsWithin channel (inputs g p.pins channel p.last p.bars chords) tables span.first_bar span.bar_end (map place_pair cells) others
