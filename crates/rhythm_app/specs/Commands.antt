-- The commands, a row each: the files that it reads, what it comes to by their bytes, and which cells it builds.
use Rattle.std.specs.Prelude.{◌≡◌, ◌≢◌, ℕ, Bool, true, false, List, [], ◌∷◌, All, map, Result, Ok, Err, Option, Some, None, ⊤}
use Rattle.std.specs.Option.{ForSome}
use Rattle.command_line.specs.Texts.{help_text, version_text}
use Rattle.barline_fit.specs.declared.candidates.Candidates.{Candidates}
use Rattle.rhythm_app.specs.Asked.{Asked, help, version, write, answer, fit, learn, too_many_candidates, too_many_files, follow, notes, events, generate, drill, asked_by}
use Rattle.rhythm_app.specs.Inputs.{Inputs, file_content}
use Rattle.rhythm_app.specs.Learning.{IsLearning}
use Rattle.rhythm_app.specs.Outcome.{AreInTurn, AreFilesRead, IsAnswering, IsDrilling, IsFitting, IsFollowing, IsListing, IsPieceMade, IsPlaying, IsNoting, IsRead, IsScoreRead, IsUnderstood, IsWriting, Ready, say}
use Rattle.rhythm_app.specs.declared.stop.Kind.{Kind}
use Rattle.rhythm_app.specs.declared.stop.Kind.TheVariants as kind
use Rattle.rhythm_app.specs.declared.stop.Stop.{Stop}
use Rattle.rhythm_app.specs.declared.stop.Stop.TheVariants.{TooManyCandidates, TooManyFiles, Usage}
use Rattle.rhythm_base.specs.Grammar.{Grammar}
use Rattle.rhythm_base.specs.Performance.{Performance}
use Rattle.rhythm_gen.specs.MidiFile.{generated}
use Rattle.rhythm_ports.specs.Files.{File, file_of}

-- which cells a command builds: none; those of the performance of its inputs; these, and those that a barline reaches at its candidates;
-- these, and those of the bars between other barlines; those of the performances of several files; or those of the piece of a number, by the grammar in a file, and those that its drill
-- reaches
pub data Cells : Type 0 where
  no_cells : Cells
  cells_in : Inputs → Cells
  cells_fitted : Inputs → Candidates → Cells
  cells_followed : Inputs → Cells
  cells_learned : List (List ℕ) → Cells
  cells_drilled : ℕ → List ℕ → Cells

-- a file that a command reads: which input it is, its name, and whether it is one of several, of which a stop tells the number
pub record Named : Type 0 where
  pub kind : Kind
  pub name : List ℕ
  pub by_number : Bool

abbrev pub named : Kind → List ℕ → Named
named kind name = record { kind = kind; name = name; by_number = false }

abbrev pub one_of_several : List ℕ → Named
one_of_several name = record { kind = kind.Midi; name = name; by_number = true }

-- the files that a command reads, in their order; what it comes to by the files; which cells it builds
pub record Command : Type 1 where
  pub reads : List Named
  pub outcome : List File → Result Ready Stop → Type 0
  pub cells : Cells

-- what is ready without a file
abbrev pub only : List ℕ → List File → Result Ready Stop → Type 0
only text files r = r ≡ Ok (say text)

-- the script file, where there is one
abbrev pub script_file : Option (List ℕ) → List Named
script_file None = []
script_file (Some name) = named kind.ScriptFile name ∷ []

-- the files of inputs, in the order in which they are read
abbrev pub input_files : Inputs → List Named
input_files i = named kind.Midi i.midi ∷ named kind.Grammar i.grammar ∷ script_file i.script

-- a command on inputs, by what it comes to by the grammar and the performance that they say
abbrev pub on_inputs : Inputs → (Grammar → Performance → Result Ready Stop → Type 0) → Cells → Command
on_inputs i last cells = record { reads = input_files i; outcome = λ files. AreFilesRead i files last; cells = cells }

abbrev pub command : Asked → Command
command help = record { reads = []; outcome = only help_text; cells = no_cells }
command version = record { reads = []; outcome = only version_text; cells = no_cells }
command (write form i) = on_inputs i (IsWriting form) (cells_in i)
command (answer talk i) = on_inputs i (IsAnswering talk) (cells_in i)
command (fit i c) = on_inputs i (IsFitting c) (cells_fitted i c)
command (too_many_candidates count) = record { reads = []; outcome = λ files r. r ≡ Err (TooManyCandidates count); cells = no_cells }
command (learn bit grammar midis) = record {
  reads = named kind.Grammar grammar ∷ map one_of_several midis;
  outcome = λ files. AreInTurn (IsUnderstood (file_content files grammar)) (IsLearning bit files midis);
  cells = cells_learned midis;
}
command (too_many_files count) = record { reads = []; outcome = λ files r. r ≡ Err (TooManyFiles count); cells = no_cells }
command (follow i) = on_inputs i IsFollowing (cells_followed i)
command (notes midi o) = record {
  reads = named kind.Midi midi ∷ [];
  outcome = λ files. AreInTurn (IsRead (file_content files midi)) (λ f. AreInTurn (IsPlaying o f) IsNoting);
  cells = no_cells;
}
command (events kern) = record {
  reads = named kind.Kern kern ∷ [];
  outcome = λ files. AreInTurn (IsScoreRead (file_content files kern)) IsListing;
  cells = no_cells;
}
command (generate number bars) = record { reads = []; outcome = only (generated number bars); cells = no_cells }
command (drill number grammar) = record {
  reads = named kind.Grammar grammar ∷ [];
  outcome = λ files. AreInTurn (IsUnderstood (file_content files grammar)) (λ g. AreInTurn (IsPieceMade number) (λ p. IsDrilling g number p));
  cells = cells_drilled number grammar;
}

-- the cells of what is asked for
abbrev pub cells_of_asked : Option Asked → Cells
cells_of_asked None = no_cells
cells_of_asked (Some asked) = (command asked).cells

-- no script is read for it
abbrev pub ReadsNoScript : Option Asked → Type 0
ReadsNoScript (Some (answer talk i)) = ⊥
ReadsNoScript _ = ⊤

-- the files have each of these names
abbrev pub HaveNames : List File → List Named → Type 0
HaveNames files reads = All (λ (it : Named). file_of files it.name ≢ None) reads

-- where the files of a shelf have these names, no name was opened that they have not
abbrev pub OpensOnly : {S : Type 0} → (S → Option (List File)) → (S → ℕ) → List Named → (old new : S) → Type 0
OpensOnly files strays reads old new = ForSome (files old) (λ files. HaveNames files reads → strays new ≡ strays old)

-- the same of one name
abbrev pub OpensOnlyName : {S : Type 0} → (S → Option (List File)) → (S → ℕ) → List ℕ → (old new : S) → Type 0
OpensOnlyName files strays name old new = ForSome (files old) (λ files. file_of files name ≢ None → strays new ≡ strays old)

-- the files have every name of the command
abbrev pub HasNames : List File → Option Asked → Type 0
HasNames files None = ⊤
HasNames files (Some asked) = HaveNames files (command asked).reads

-- ---- outcomes

-- what a command comes to by the files
abbrev pub HasOutcomeOf : Option Asked → List File → Result Ready Stop → Type 0
HasOutcomeOf None files r = r ≡ Err Usage
HasOutcomeOf (Some asked) files r = (command asked).outcome files r

-- what a command line comes to
abbrev pub HasOutcome : List (List ℕ) → List File → Result Ready Stop → Type 0
HasOutcome words files r = HasOutcomeOf (asked_by words) files r
