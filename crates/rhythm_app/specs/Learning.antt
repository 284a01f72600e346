-- What learning the weights of a grammar from MIDI files comes to. The grammar file is read first; then each MIDI file is tested in its
-- turn, as it is where a score is written, and the first that does not pass ends the run with its number.
use Rattle.std.specs.Prelude.{◌≡◌, ◌≤◌, ◌<◌, ℕ, ◌+◌, List, [], Result, Ok, Err, Option, Some, None, ⊤, flat_map, get_or, length, option_map, sum, take, unwrap_or}
use Rattle.std.specs.Option.{ForSome}
use Rattle.edit_session.specs.Opening.{CanOpen, cells_of}
use Rattle.edit_session.specs.RuleLists.{AreRuleListsOf}
use Rattle.grammar_file.specs.Printed.{printed}
use Rattle.rhythm_app.specs.Inputs.{file_content}
use Rattle.rhythm_app.specs.Outcome.{AreInTurn, IsLoading, IsRead, IsUnopened, Ready, say, serve}
use Rattle.rhythm_app.specs.declared.stop.Kind.TheVariants as kind
use Rattle.rhythm_app.specs.declared.stop.MidiStop.{MidiStop}
use Rattle.rhythm_app.specs.declared.stop.MidiStop.TheVariants as midi
use Rattle.rhythm_app.specs.declared.stop.Stop.{Stop}
use Rattle.rhythm_app.specs.declared.stop.Stop.TheVariants as stop
use Rattle.rhythm_base.specs.Counter.{risen}
use Rattle.rhythm_base.specs.Grammar.{Grammar}
use Rattle.rhythm_base.specs.Lists.{Each}
use Rattle.rhythm_base.specs.Performance.{Performance}
use Rattle.rhythm_ports.specs.Files.{File}
use Rattle.rule_counts.specs.Counts.{AreRuleCounts}
use Rattle.weight_learning.specs.Learned.{learned}

-- ---- one file

-- the rule lists of the least derivations of a performance, or why no session is opened on it
abbrev pub AreListsOf : Grammar → Performance → Result (List (List ℕ)) Stop → Type 0
AreListsOf g p (Ok lists) = CanOpen g p × AreRuleListsOf g p lists
AreListsOf g p (Err s) = IsUnopened g p s

-- those of a MIDI file, or the first of its tests that fails
abbrev pub AreOfFile : Grammar → List ℕ → Result (List (List ℕ)) Stop → Type 0
AreOfFile g bytes = AreInTurn (IsRead bytes) (λ f. AreInTurn (IsLoading f) (AreListsOf g))

-- the stop by a MIDI file that this is, where it is one
abbrev pub midi_stop_of : Stop → Option MidiStop
midi_stop_of (stop.FileTooLong kind.Midi read) = Some (midi.TooLong read)
midi_stop_of (stop.Smf fault) = Some (midi.Smf fault)
midi_stop_of stop.NoNotes = Some midi.NoNotes
midi_stop_of (stop.TooManyNotes count) = Some (midi.TooManyNotes count)
midi_stop_of (stop.BadSignature num dd) = Some (midi.BadSignature num dd)
midi_stop_of (stop.UnevenBar bar num den) = Some (midi.UnevenBar bar num den)
midi_stop_of (stop.TooManyBars start) = Some (midi.TooManyBars start)
midi_stop_of (stop.TooManyCells count) = Some (midi.TooManyCells count)
midi_stop_of (stop.NoStart bar num den) = Some (midi.NoStart bar num den)
midi_stop_of (stop.NoDerivation channel bar) = Some (midi.NoDerivation channel bar)
midi_stop_of (stop.Read kind.Midi) = Some midi.Read
midi_stop_of _ = None

-- a stop by the file of this number
abbrev pub in_file : ℕ → Stop → Stop
in_file number s = unwrap_or (option_map (stop.InFile number) (midi_stop_of s)) s

-- ---- the files

-- each file passes its tests, and these are the rule lists of all of them, file after file
pub record AreOfFiles (g : Grammar) (files : List File) (midis : List (List ℕ)) (lists : List (List ℕ)) : Type 0 where
  pub own : List (List (List ℕ))
  pub each : Each (λ name l. AreOfFile g (file_content files name) (Ok l)) midis own
  pub are : lists ≡ flat_map (λ l. l) own

-- the files before this one, counted from 0, pass their tests
abbrev pub PassBefore : Grammar → List File → List (List ℕ) → ℕ → Type 0
PassBefore g files midis n = (n < length midis) × ((lists : List (List ℕ)) × AreOfFiles g files (take n midis) lists)

-- and this one is stopped
abbrev pub IsFirstStop : Grammar → List File → List (List ℕ) → ℕ → Stop → Type 0
IsFirstStop g files midis n s = PassBefore g files midis n × AreOfFile g (file_content files (get_or midis n [])) (Err s)

-- the rule lists of all files, or the stop of the first that does not pass, with its number, from 1
abbrev pub AreAllListed : Grammar → List File → List (List ℕ) → Result (List (List ℕ)) Stop → Type 0
AreAllListed g files midis (Ok lists) = AreOfFiles g files midis lists
AreAllListed g files midis (Err s) = (n : ℕ) × (own : Stop) × IsFirstStop g files midis n own × (s ≡ in_file (n + 1) own)

-- ---- the weights

-- the text of the grammar with the weights that the rule lists say
abbrev pub IsLearnedText : ℕ → Grammar → List (List ℕ) → List ℕ → Type 0
IsLearnedText bit g lists text = (counts : List ℕ) × AreRuleCounts (length g.rules) lists counts × (text ≡ printed (learned g counts bit))

abbrev pub IsWeighed : ℕ → Grammar → List (List ℕ) → Result Ready Stop → Type 0
IsWeighed bit g lists (Ok (say text)) = IsLearnedText bit g lists text
IsWeighed bit g lists (Ok (serve t h q)) = ⊥
IsWeighed bit g lists (Err s) = ⊥

-- what learning by a grammar comes to
abbrev pub IsLearning : ℕ → List File → List (List ℕ) → Grammar → Result Ready Stop → Type 0
IsLearning bit files midis g = AreInTurn (AreAllListed g files midis) (IsWeighed bit g)

-- ---- the cells

-- a file says a performance of so many cells
abbrev pub HasCells : List ℕ → ℕ → Type 0
HasCells bytes count = (p : Performance) × AreInTurn (IsRead bytes) IsLoading (Ok p) × (count ≡ cells_of p)

-- the performances of these files have so many cells together
pub record HaveCells (files : List File) (midis : List (List ℕ)) (count : ℕ) : Type 0 where
  pub counts : List ℕ
  pub each : Each (λ name n. HasCells (file_content files name) n) midis counts
  pub all : count ≡ sum counts

-- the cells of these files were built, each once
abbrev pub AreCellsBuilt : List File → List (List ℕ) → ℕ → ℕ → Type 0
AreCellsBuilt files midis old new = (count : ℕ) × HaveCells files midis count × (new ≡ risen old count)

-- the cells of the first of these files, so many, were built
abbrev pub AreFirstBuilt : Option (List File) → List (List ℕ) → ℕ → ℕ → ℕ → Type 0
AreFirstBuilt fs midis n old new = ForSome fs (λ files. AreCellsBuilt files (take n midis) old new)

-- no more cells were built than those of some of the files
abbrev pub AreSomeBuilt : Option (List File) → List (List ℕ) → ℕ → ℕ → Type 0
AreSomeBuilt fs midis old new =
    ForSome fs (λ files. (n : ℕ) × (count : ℕ) × (n ≤ length midis) × HaveCells files (take n midis) count × (new ≤ risen old count))

-- how many were built when one file ended the run: those of the files before it, and its own where a voice of it has no derivation
abbrev pub HasBuiltBefore : Option (List File) → List (List ℕ) → ℕ → ℕ → ℕ → MidiStop → Type 0
HasBuiltBefore fs midis n old new (midi.NoDerivation _ _) = AreFirstBuilt fs midis n old new
HasBuiltBefore fs midis n old new _ = (m : ℕ) × (n ≡ m + 1) × AreFirstBuilt fs midis m old new

-- how many were built by the stop: where memory is wanting, no more than those of some files; and none where no MIDI file is read
abbrev pub HasLearnedOf : Option (List File) → List (List ℕ) → ℕ → ℕ → Stop → Type 0
HasLearnedOf fs midis old new (stop.InFile n s) = HasBuiltBefore fs midis n old new s
HasLearnedOf fs midis old new stop.Memory = AreSomeBuilt fs midis old new
HasLearnedOf fs midis old new stop.Write = ⊤
HasLearnedOf fs midis old new _ = new ≡ old
