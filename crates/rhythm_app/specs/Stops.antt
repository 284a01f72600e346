-- The status of each stop, and the line that err takes.
use Rattle.std.specs.Prelude.{ℕ, List, [], ◌∷◌, ◌++◌, codes, decimal, Option, Some, None}
use Rattle.edit_script.specs.Replies.{fault_words, reply_line}
use Rattle.grammar_file.specs.declared.fault.GrammarWhat.{GrammarWhat}
use Rattle.grammar_file.specs.declared.fault.GrammarWhat.TheVariants as what
use Rattle.kern_reader.specs.FaultName.{fault_name}
use Rattle.performance_prepare.specs.declared.prepare_fault.PrepareFault.{PrepareFault}
use Rattle.performance_prepare.specs.declared.prepare_fault.PrepareFault.TheVariants as preparing
use Rattle.rhythm_app.specs.declared.stop.Kind.{Kind}
use Rattle.rhythm_app.specs.declared.stop.Kind.TheVariants as kind
use Rattle.rhythm_app.specs.declared.stop.Stop.{Stop}
use Rattle.rhythm_app.specs.declared.stop.MidiStop.{MidiStop}
use Rattle.rhythm_app.specs.declared.stop.MidiStop.TheVariants as midi
use Rattle.rhythm_app.specs.declared.stop.Stop.TheVariants.{Usage, FileTooLong, LineTooLong, Smf, Grammar, Kern, NoNotes, TooManyNotes, BadSignature, UnevenBar, TooManyBars, TooManyCells, NoStart, Unprepared, NoDerivation, ScoreTooLong, RenderTooLong, InFile, TooManyFiles, TooManyCandidates, NoBarline, NoCandidate, ScriptLine, Read, Write, Memory}
use Rattle.rhythm_base.specs.declared.edit_fault.EditFault.{EditFault}
use Rattle.script_run.specs.declared.script_stop.ScriptStop.{ScriptStop}
use Rattle.script_run.specs.declared.script_stop.ScriptStop.TheVariants as script
use Rattle.smf_reader.specs.declared.fault.SmfFault.{SmfFault}
use Rattle.smf_reader.specs.declared.fault.SmfFault.TheVariants as smf

-- the status of a stop by a MIDI file
abbrev pub midi_status_of : MidiStop → ℕ
midi_status_of (midi.TooLong _) = 4
midi_status_of (midi.Smf _) = 2
midi_status_of midi.NoNotes = 2
midi_status_of (midi.TooManyNotes _) = 4
midi_status_of (midi.BadSignature _ _) = 2
midi_status_of (midi.UnevenBar _ _ _) = 2
midi_status_of (midi.TooManyBars _) = 4
midi_status_of (midi.TooManyCells _) = 4
midi_status_of (midi.NoStart _ _ _) = 2
midi_status_of (midi.NoDerivation _ _) = 3
midi_status_of midi.Read = 5

-- the status of a stop by the options
abbrev pub prepare_status_of : PrepareFault → ℕ
prepare_status_of preparing.NoNotes = 2
prepare_status_of (preparing.TooManyVoices _) = 4
prepare_status_of (preparing.WrongDivision _) = 4
prepare_status_of (preparing.TooLate _) = 4
prepare_status_of (preparing.BadUpbeat _ _) = 2
prepare_status_of preparing.Memory = 7

abbrev pub status_of : Stop → ℕ
status_of Usage = 1
status_of (FileTooLong _ _) = 4
status_of (LineTooLong _) = 4
status_of (Smf _) = 2
status_of (Grammar _) = 2
status_of (Kern _) = 2
status_of NoNotes = 2
status_of (TooManyNotes _) = 4
status_of (BadSignature _ _) = 2
status_of (UnevenBar _ _ _) = 2
status_of (TooManyBars _) = 4
status_of (TooManyCells _) = 4
status_of (NoStart _ _ _) = 2
status_of (Unprepared fault) = prepare_status_of fault
status_of (NoDerivation _ _) = 3
status_of (ScoreTooLong _) = 4
status_of (RenderTooLong _) = 4
status_of (InFile _ s) = midi_status_of s
status_of (TooManyFiles _) = 4
status_of (TooManyCandidates _) = 4
status_of (NoBarline _) = 9
status_of NoCandidate = 9
status_of (ScriptLine _ _) = 2
status_of (Read _) = 5
status_of Write = 6
status_of Memory = 7

-- why the answering of a script ends, as a stop of the run
abbrev pub script_stop : ScriptStop → Stop
script_stop script.Read = Read kind.Script
script_stop (script.TooLong read) = FileTooLong kind.Script read
script_stop (script.LineTooLong read) = LineTooLong read
script_stop script.Write = Write
script_stop script.Memory = Memory

-- ---- names

abbrev pub kind_name : Kind → List ℕ
kind_name kind.Midi = codes "midi"
kind_name kind.Grammar = codes "grammar"
kind_name kind.Kern = codes "kern"
kind_name kind.ScriptFile = codes "script-file"
kind_name kind.Script = codes "script"

-- the name of a fault of a MIDI file, and its number, where it has one. No file has want of memory as its fault
abbrev pub smf_name : SmfFault → List ℕ
smf_name smf.NotSmf = codes "NotSmf"
smf_name (smf.Format _) = codes "Format"
smf_name smf.Smpte = codes "Smpte"
smf_name smf.ZeroDivision = codes "ZeroDivision"
smf_name (smf.Truncated _) = codes "Truncated"
smf_name (smf.BadQuantity _) = codes "BadQuantity"
smf_name (smf.NoStatus _) = codes "NoStatus"
smf_name (smf.BadStatus _) = codes "BadStatus"
smf_name (smf.BadData _) = codes "BadData"
smf_name (smf.BadMeta _) = codes "BadMeta"
smf_name (smf.TooLate _) = codes "TooLate"
smf_name smf.Memory = codes "Memory"

abbrev pub smf_number : SmfFault → Option ℕ
smf_number smf.NotSmf = None
smf_number (smf.Format format) = Some format
smf_number smf.Smpte = None
smf_number smf.ZeroDivision = None
smf_number (smf.Truncated at) = Some at
smf_number (smf.BadQuantity at) = Some at
smf_number (smf.NoStatus at) = Some at
smf_number (smf.BadStatus at) = Some at
smf_number (smf.BadData at) = Some at
smf_number (smf.BadMeta at) = Some at
smf_number (smf.TooLate at) = Some at
smf_number smf.Memory = None

-- the same of what is wrong with a line of a grammar file
abbrev pub what_name : GrammarWhat → List ℕ
what_name what.Header = codes "Header"
what_name what.Line = codes "Line"
what_name (what.Number _) = codes "Number"
what_name what.DoubleStart = codes "DoubleStart"
what_name what.TooManyRules = codes "TooManyRules"
what_name what.TooManyNames = codes "TooManyNames"
what_name what.UnknownName = codes "UnknownName"
what_name what.Memory = codes "Memory"

abbrev pub what_number : GrammarWhat → Option ℕ
what_number what.Header = None
what_number what.Line = None
what_number (what.Number limit) = Some limit
what_number what.DoubleStart = None
what_number what.TooManyRules = None
what_number what.TooManyNames = None
what_number what.UnknownName = None
what_number what.Memory = None

-- ---- lines

-- texts, one after another
abbrev pub joined_words : List (List ℕ) → List ℕ
joined_words [] = []
joined_words (text ∷ texts) = text ++ joined_words texts

-- a name, and a number after it, where there is one
abbrev pub named_line : List ℕ → List ℕ → Option ℕ → List ℕ
named_line head name None = joined_words (head ∷ name ∷ codes "\n" ∷ [])
named_line head name (Some number) = joined_words (head ∷ name ∷ codes " " ∷ decimal number ∷ codes "\n" ∷ [])

-- a line of the grammar file, and what is wrong with it
abbrev pub grammar_fault_line : ℕ → List ℕ → Option ℕ → List ℕ
grammar_fault_line line name None = joined_words (codes "grammar " ∷ decimal line ∷ codes " " ∷ name ∷ codes "\n" ∷ [])
grammar_fault_line line name (Some number) =
    joined_words (codes "grammar " ∷ decimal line ∷ codes " " ∷ name ∷ codes " " ∷ decimal number ∷ codes "\n" ∷ [])

-- a line of the **kern file, and the name of its fault
abbrev pub kern_fault_line : ℕ → List ℕ → List ℕ
kern_fault_line line name = joined_words (codes "kern " ∷ decimal line ∷ codes " " ∷ name ∷ codes "\n" ∷ [])

-- two numbers
abbrev pub pair_line : List ℕ → ℕ → ℕ → List ℕ
pair_line head first second = joined_words (head ∷ decimal first ∷ codes " " ∷ decimal second ∷ codes "\n" ∷ [])

-- a bar and its signature
abbrev pub signature_line : List ℕ → ℕ → ℕ → ℕ → List ℕ
signature_line head bar num den =
    joined_words (head ∷ decimal bar ∷ codes " " ∷ decimal num ∷ codes "/" ∷ decimal den ∷ codes "\n" ∷ [])

-- what is counted, and the number that is above its limit
abbrev pub limit_line : List ℕ → ℕ → List ℕ
limit_line name count = named_line (codes "limit ") name (Some count)

-- of a MIDI file
abbrev pub midi_stop_line : MidiStop → List ℕ
midi_stop_line (midi.TooLong read) = limit_line (kind_name kind.Midi) read
midi_stop_line (midi.Smf fault) = named_line (codes "smf ") (smf_name fault) (smf_number fault)
midi_stop_line midi.NoNotes = joined_words (codes "notes NoNotes\n" ∷ [])
midi_stop_line (midi.TooManyNotes count) = limit_line (codes "notes") count
midi_stop_line (midi.BadSignature num dd) = pair_line (codes "bars BadSignature ") num dd
midi_stop_line (midi.UnevenBar bar num den) = signature_line (codes "bars UnevenBar ") bar num den
midi_stop_line (midi.TooManyBars start) = limit_line (codes "bars") start
midi_stop_line (midi.TooManyCells count) = limit_line (codes "cells") count
midi_stop_line (midi.NoStart bar num den) = signature_line (codes "start ") bar num den
midi_stop_line (midi.NoDerivation channel bar) = pair_line (codes "no derivation ") channel bar
midi_stop_line midi.Read = named_line (codes "read ") (kind_name kind.Midi) None

-- an upbeat
abbrev pub upbeat_line : ℕ → ℕ → List ℕ
upbeat_line num den = joined_words (codes "upbeat " ∷ decimal num ∷ codes "/" ∷ decimal den ∷ codes "\n" ∷ [])

-- of the options
abbrev pub prepare_stop_line : PrepareFault → List ℕ
prepare_stop_line preparing.NoNotes = joined_words (codes "notes NoNotes\n" ∷ [])
prepare_stop_line (preparing.TooManyVoices count) = limit_line (codes "voices") count
prepare_stop_line (preparing.WrongDivision division) = limit_line (codes "division") division
prepare_stop_line (preparing.TooLate tick) = limit_line (codes "ticks") tick
prepare_stop_line (preparing.BadUpbeat num den) = upbeat_line num den
prepare_stop_line preparing.Memory = joined_words (codes "memory\n" ∷ [])

-- of one MIDI file of several: its number, from 1, and the line of the file alone
abbrev pub in_file_line : ℕ → MidiStop → List ℕ
in_file_line number s = joined_words (codes "file " ∷ decimal number ∷ codes " " ∷ []) ++ midi_stop_line s

-- a line of the script file, and why it is refused: the words of the reply to its edit, after the first
abbrev pub script_fault_line : ℕ → Option EditFault → List ℕ
script_fault_line line None = joined_words (codes "script " ∷ decimal line ∷ codes " Line\n" ∷ [])
script_fault_line line (Some fault) = joined_words (codes "script " ∷ decimal line ∷ codes " " ∷ []) ++ reply_line (fault_words fault)

abbrev pub stop_line : Stop → List ℕ
stop_line Usage = joined_words (codes "usage\n" ∷ [])
stop_line (FileTooLong kind read) = limit_line (kind_name kind) read
stop_line (LineTooLong read) = limit_line (codes "script-line") read
stop_line (Smf fault) = midi_stop_line (midi.Smf fault)
stop_line (Grammar fault) = grammar_fault_line fault.line (what_name fault.what) (what_number fault.what)
stop_line (Kern fault) = kern_fault_line fault.line (fault_name fault.what)
stop_line NoNotes = midi_stop_line midi.NoNotes
stop_line (TooManyNotes count) = midi_stop_line (midi.TooManyNotes count)
stop_line (BadSignature num dd) = midi_stop_line (midi.BadSignature num dd)
stop_line (UnevenBar bar num den) = midi_stop_line (midi.UnevenBar bar num den)
stop_line (TooManyBars start) = midi_stop_line (midi.TooManyBars start)
stop_line (TooManyCells count) = midi_stop_line (midi.TooManyCells count)
stop_line (NoStart bar num den) = midi_stop_line (midi.NoStart bar num den)
stop_line (Unprepared fault) = prepare_stop_line fault
stop_line (NoDerivation channel bar) = midi_stop_line (midi.NoDerivation channel bar)
stop_line (ScoreTooLong line) = limit_line (codes "score") line
stop_line (RenderTooLong tick) = limit_line (codes "render") tick
stop_line (InFile number s) = in_file_line number s
stop_line (TooManyFiles count) = limit_line (codes "files") count
stop_line (TooManyCandidates count) = limit_line (codes "candidates") count
stop_line (NoBarline bar) = named_line (codes "fit ") (codes "NoBar") (Some bar)
stop_line NoCandidate = named_line (codes "fit ") (codes "NoCandidate") None
stop_line (ScriptLine line fault) = script_fault_line line fault
stop_line (Read kind) = named_line (codes "read ") (kind_name kind) None
stop_line Write = joined_words (codes "write\n" ∷ [])
stop_line Memory = joined_words (codes "memory\n" ∷ [])
