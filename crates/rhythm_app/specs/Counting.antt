-- How the stages of learning weights may end.
use Rattle.std.specs.Prelude.{◌≡◌, ◌≢◌, ◌≤◌, ◌⊎◌, ℕ, ◌+◌, List, length, map, IfErr, IfOk, IsSome, OnOk, None, Result, Ok, Err, Vec, ⊤}
use Rattle.std.specs.Option.{ForSome}
use Rattle.edit_session.specs.Opening.{CanOpen, cells_of}
use Rattle.edit_session.specs.RuleLists.{AreRuleListsOf}
use Rattle.rhythm_app.specs.Builds.{MatchBuilds}
use Rattle.rhythm_app.specs.Commands.{HaveNames, one_of_several}
use Rattle.rhythm_app.specs.Inputs.{file_content}
use Rattle.rhythm_app.specs.Learning.{AreAllListed, AreCellsBuilt, AreOfFile, AreOfFiles, HasCells, HasLearnedOf, IsLearning, PassBefore, midi_stop_of}
use Rattle.rhythm_app.specs.Lent.{Lent}
use Rattle.rhythm_app.specs.Outcome.{AreInTurn, IsLoading, IsRead, IsUnopened, say}
use Rattle.rhythm_app.specs.Stages.{CountsUp, EndsBy, EndsReading, Follows, ReadsAlone, ReadsShelf}
use Rattle.rhythm_app.specs.declared.stop.Kind.TheVariants as kind
use Rattle.rhythm_app.specs.declared.stop.MidiStop.TheVariants as midi
use Rattle.rhythm_app.specs.declared.stop.Stop.{Stop}
use Rattle.rhythm_app.specs.declared.stop.Stop.TheVariants as stop
use Rattle.rhythm_base.specs.Counter.{risen}
use Rattle.rhythm_base.specs.Grammar.{Grammar}
use Rattle.rhythm_base.specs.Performance.{Performance}
use Rattle.rhythm_base.specs.declared.limits.TheConstants.{MOST_NOTES}
use Rattle.rhythm_ports.specs.Files.{File, file_of}
use Rattle.session_counts.specs.Counting.{AreRaisedBy}

-- ---- one file

-- a stop by a MIDI file, or want of memory
abbrev pub IsOfMidi : Stop → Type 0
IsOfMidi stop.Memory = ⊤
IsOfMidi s = IsSome (midi_stop_of s)

-- the performance that the bytes of a MIDI file say
abbrev pub IsMidiLoading : List ℕ → Result Performance Stop → Type 0
IsMidiLoading bytes = AreInTurn (IsRead bytes) IsLoading

-- what a MIDI file says is had: a performance
pub record HasPerformance {S O E : Type 0} (name : List ℕ) (old new : Lent S O E) (result : Result Performance Stop) : Type 0 where
  pub tests : ForSome old.files (λ files. Follows (IsMidiLoading (file_content files name)) result)
  pub few_notes : IfOk result (λ p. length p.notes ≤ MOST_NOTES)
  pub own : IfErr result IsOfMidi
  pub end : IfErr result (EndsBy kind.Midi old.shelf_faults new.shelf_faults)
  pub later : old.shelf_faults ≤ new.shelf_faults
  pub strays : ForSome old.files (λ files. file_of files name ≢ None → new.strays ≡ old.strays)
  pub reads : ReadsShelf old new

-- the rules in the least derivations of a performance were counted besides
pub record CountsPerformance {S O E : Type 0} (g : Grammar) (p : Performance) (counts counted : List ℕ) (old new : Lent S O E) {T : Type 0} (result : Result T Stop) : Type 0 where
  pub had : OnOk result (CanOpen g p × ((lists : List (List ℕ)) × AreRuleListsOf g p lists × AreRaisedBy (length g.rules) lists counts counted))
  pub of_each : length counted ≡ length counts
  pub cause : IfErr result (λ s. IsUnopened g p s ⊎ (s ≡ stop.Memory))
  pub all : OnOk result (new.built ≡ risen old.built (cells_of p))
  pub built : IfErr result (MatchBuilds (new.built ≡ risen old.built (cells_of p)) (new.built ≤ risen old.built (cells_of p)) (new.built ≡ old.built))
  pub counters : CountsUp old new

-- the shelf was read, and the counters were raised
pub record IsReadAndCounted {S O E : Type 0} (old new : Lent S O E) {T : Type 0} (result : Result T Stop) : Type 0 where
  pub end : IfErr result (EndsReading old.shelf_faults new.shelf_faults)
  pub later : old.shelf_faults ≤ new.shelf_faults
  pub rises : (old.built ≤ new.built) × (old.multiplied ≤ new.multiplied)
  pub alone : ReadsAlone old new

-- all cells of a file were built, or no more than these
abbrev pub IsFileBuilt : List File → List ℕ → ℕ → ℕ → Type 0
IsFileBuilt files name old new = (count : ℕ) × HasCells (file_content files name) count × (new ≡ risen old count)

abbrev pub IsFilePartlyBuilt : List File → List ℕ → ℕ → ℕ → Type 0
IsFilePartlyBuilt files name old new = (count : ℕ) × HasCells (file_content files name) count × (new ≤ risen old count)

-- the rules in the least derivations of a file were counted besides
pub record CountsFile {S O E : Type 0} (g : Grammar) (name counts counted : List ℕ) (old new : Lent S O E) {T : Type 0} (result : Result T Stop) : Type 0 where
  pub had : OnOk result (ForSome old.files (λ files.
      (lists : List (List ℕ)) × AreOfFile g (file_content files name) (Ok lists) × AreRaisedBy (length g.rules) lists counts counted))
  pub of_each : length counted ≡ length counts
  pub cause : IfErr result (λ s. ForSome old.files (λ files. Follows (AreOfFile g (file_content files name)) (Err s)))
  pub own : IfErr result IsOfMidi
  pub all : OnOk result (ForSome old.files (λ files. IsFileBuilt files name old.built new.built))
  pub built : IfErr result (MatchBuilds (ForSome old.files (λ files. IsFileBuilt files name old.built new.built))
      ((new.built ≡ old.built) ⊎ ForSome old.files (λ files. IsFilePartlyBuilt files name old.built new.built)) (new.built ≡ old.built))
  pub strays : ForSome old.files (λ files. file_of files name ≢ None → new.strays ≡ old.strays)
  pub read : IsReadAndCounted old new result

-- ---- several files

-- a failed read of the file of this number, from 1, where those before it pass their tests; or want of memory
abbrev pub IsFileFailure : Grammar → List File → List (List ℕ) → Stop → Type 0
IsFileFailure g files midis (stop.InFile number s) = (n : ℕ) × (s ≡ midi.Read) × (number ≡ n + 1) × PassBefore g files midis n
IsFileFailure g files midis stop.Memory = ⊤
IsFileFailure g files midis _ = ⊥

-- what several files leave, whatever comes of them
pub record IsEachCounted {S O E : Type 0} (midis : List (List ℕ)) (old new : Lent S O E) {T : Type 0} (result : Result T Stop) : Type 0 where
  pub all : OnOk result (ForSome old.files (λ files. AreCellsBuilt files midis old.built new.built))
  pub built : IfErr result (HasLearnedOf old.files midis old.built new.built)
  pub strays : ForSome old.files (λ files. HaveNames files (map one_of_several midis) → new.strays ≡ old.strays)
  pub read : IsReadAndCounted old new result

-- the rules in the least derivations of these files were counted besides
pub record CountsAll {S O E : Type 0} (g : Grammar) (midis : List (List ℕ)) (counts counted : List ℕ) (old new : Lent S O E) {T : Type 0} (result : Result T Stop) : Type 0 where
  pub had : OnOk result (ForSome old.files (λ files.
      (lists : List (List ℕ)) × AreOfFiles g files midis lists × AreRaisedBy (length g.rules) lists counts counted))
  pub of_each : length counted ≡ length counts
  pub cause : IfErr result (λ s. ForSome old.files (λ files. AreAllListed g files midis (Err s) ⊎ IsFileFailure g files midis s))
  pub files : IsEachCounted midis old new result

-- the text of the grammar with learned weights is had
pub record IsTextLearned {S O E A : Type 0} (bit : ℕ) (g : Grammar) (midis : List (List ℕ)) (old new : Lent S O E) (result : Result (Vec ℕ A) Stop) : Type 0 where
  pub text : IfOk result (λ v. ForSome old.files (λ files. IsLearning bit files midis g (Ok (say v.items))))
  pub cause : IfErr result (λ s. ForSome old.files (λ files. IsLearning bit files midis g (Err s) ⊎ IsFileFailure g files midis s))
  pub files : IsEachCounted midis old new result
