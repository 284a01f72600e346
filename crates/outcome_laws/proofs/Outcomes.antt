-- Every command line has an outcome.
use Rattle.std.proofs.Common.{◌≡◌, ℕ, List, [], subst, refl, Option, Some, None, Result, Ok, Err}
use Rattle.std.specs.Prelude.{IfSome}
use Rattle.performance_prepare.specs.Ranges.{AreInRange}
use Rattle.performance_prepare.specs.declared.options.Options.{Options}
use Rattle.rhythm_app.proofs.OneOutcome.{in_ranges, readable, sound_files, sound_inputs, well_played}
use Rattle.rhythm_app.specs.Asked.{Asked, help, version, write, answer, fit, too_many_candidates, follow, learn, too_many_files, notes, events, generate, drill, asked_by}
use Rattle.rhythm_app.specs.Commands.{HasOutcomeOf}
use Rattle.rhythm_app.specs.Inputs.{Inputs, file_content}
use Rattle.rhythm_app.specs.Learning.{IsLearning}
use Rattle.rhythm_app.specs.Outcome.{AreFilesRead, AreInTurn, AreInputs, AreLoaded, IsAnswering, IsDrilling, IsFitting, IsFollowing, IsListing, IsNoting, IsOpening, IsPieceMade, IsPieceOf, IsPlaying, IsRead, IsScoreRead, IsScriptRead, IsScripted, IsUnderstood, IsWriting, Ready, grammar_tests, kern_tests, loaded, midi_tests, sized}
use Rattle.rhythm_app.specs.declared.stop.Kind.TheVariants as kind
use Rattle.rhythm_app.specs.declared.stop.Stop.{Stop}
use Rattle.rhythm_app.specs.declared.stop.Stop.TheVariants.{TooManyCandidates, TooManyFiles, Usage}
use Rattle.rhythm_base.specs.Grammar.{Grammar}
use Rattle.rhythm_base.specs.Performance.{IsWellFormed, Performance}
use Rattle.rhythm_base.specs.Readable.{IsReadable}
use Rattle.rhythm_ports.specs.Files.{File}
use Rattle.outcome_laws.specs.Laws.{AreBytes, HoldBytes, RunsHaveOutcomes}
use Rattle.outcome_laws.proofs.AskedOptions.{HasAskedOptions, asked_in}
use Rattle.outcome_laws.proofs.Answerings.{some_answering}
use Rattle.outcome_laws.proofs.Drillings.{some_drilling}
use Rattle.outcome_laws.proofs.FileTests.{content_bytes, read_in_range}
use Rattle.outcome_laws.proofs.Fittings.{some_fitting}
use Rattle.outcome_laws.proofs.Followings.{some_following}
use Rattle.outcome_laws.proofs.InTurn.{ComesTo, in_turn}
use Rattle.outcome_laws.proofs.Learnings.{learnings}
use Rattle.outcome_laws.proofs.Listings.{some_listing}
use Rattle.outcome_laws.proofs.Notings.{some_noting}
use Rattle.outcome_laws.proofs.Pieces.{some_piece}
use Rattle.outcome_laws.proofs.Playings.{some_playing}
use Rattle.outcome_laws.proofs.ScriptFiles.{some_opened}
use Rattle.outcome_laws.proofs.Writings.{some_writing}

-- ---- commands on inputs

module _ (i : Inputs) (range : AreInRange i.options) (files : List File) (holds : HoldBytes files) where
  some_loaded : ComesTo (AreLoaded i files)
  some_loaded =
      let midi = file_content files i.midi in
      let grammar = file_content files i.grammar in
      in_turn (IsRead midi)
      (λ f. AreInTurn (IsUnderstood grammar) (λ g. AreInTurn (IsScriptRead i.script files) (λ script. AreInTurn (IsPlaying i.options f) (λ p r. r ≡ Ok (loaded g p script))))) (midi_tests midi, refl)
      (λ f read. in_turn (IsUnderstood grammar) (λ g. AreInTurn (IsScriptRead i.script files) (λ script. AreInTurn (IsPlaying i.options f) (λ p r. r ≡ Ok (loaded g p script)))) (grammar_tests grammar, refl)
      (λ g _. in_turn (IsScriptRead i.script files) (λ script. AreInTurn (IsPlaying i.options f) (λ p r. r ≡ Ok (loaded g p script))) (some_script i.script)
      (λ script _. in_turn (IsPlaying i.options f) (λ p r. r ≡ Ok (loaded g p script)) (some_playing i.options range f (read_in_range midi (content_bytes files i.midi holds) f read))
      (λ p _. (Ok (loaded g p script), refl)))))
    where
      some_script : (name : Option (List ℕ)) → ComesTo (IsScriptRead name files)
      some_script None = (Ok [], refl)
      some_script (Some name) = (sized kind.ScriptFile (file_content files name), refl)

  some_inputs : ComesTo (AreInputs i files)
  some_inputs =
      in_turn (AreLoaded i files) (λ x. AreInTurn (IsOpening x.grammar x.performance) (IsScripted x.script)) some_loaded
      (λ x loads. let sound = sound_files i files x loads in some_opened x.grammar x.performance x.script sound.0 sound.1)

  of_files : (last : Grammar → Performance → Result Ready Stop → Type 0) → ((g : Grammar) (p : Performance) → IsReadable g → IsWellFormed p → ComesTo (last g p))
      → ComesTo (AreFilesRead i files last)
  of_files last some =
      in_turn (AreInputs i files) (λ o. last o.grammar o.performance) some_inputs
      (λ o are. let sound = sound_inputs i files o are in some o.grammar o.performance sound.0 sound.1)

-- ---- the others

same_piece : (number : ℕ) (p : Performance) → IsPieceMade number (Ok p) → IsPieceOf number p
same_piece number p (q, piece, e) = let same : q ≡ p = back p q e in subst (IsPieceOf number) same piece
  where
    back : (p q : Performance) → ◌≡◌ {A = Result Performance Stop} (Ok p) (Ok q) → q ≡ p
    back p q e = cc

some_notes : (o : Options) → AreInRange o → (bytes : List ℕ) → AreBytes bytes → ComesTo (AreInTurn (IsRead bytes) (λ f. AreInTurn (IsPlaying o f) IsNoting))
some_notes o range bytes are =
    in_turn (IsRead bytes) (λ f. AreInTurn (IsPlaying o f) IsNoting) (midi_tests bytes, refl)
    (λ f read. in_turn (IsPlaying o f) IsNoting (some_playing o range f (read_in_range bytes are f read)) (λ p played. some_noting p (well_played o f p played)))

some_events : (bytes : List ℕ) → ComesTo (AreInTurn (IsScoreRead bytes) IsListing)
some_events bytes = in_turn (IsScoreRead bytes) IsListing (kern_tests bytes, refl) (λ score read. some_listing score (in_ranges bytes score read))

some_drill : (number : ℕ) (bytes : List ℕ) → ComesTo (AreInTurn (IsUnderstood bytes) (λ g. AreInTurn (IsPieceMade number) (λ p. IsDrilling g number p)))
some_drill number bytes =
    in_turn (IsUnderstood bytes) (λ g. AreInTurn (IsPieceMade number) (λ p. IsDrilling g number p)) (grammar_tests bytes, refl)
    (λ g understood. in_turn (IsPieceMade number) (λ p. IsDrilling g number p) (some_piece number)
    (λ p made. some_drilling g number p (readable bytes g understood) (same_piece number p made)))

-- ---- the run

module _ (files : List File) (holds : HoldBytes files) where
  outcome_of : (asked : Option Asked) → IfSome asked HasAskedOptions → ComesTo (HasOutcomeOf asked files)
  outcome_of None range = (Err Usage, refl)
  outcome_of (Some help) range = (_, refl)
  outcome_of (Some version) range = (_, refl)
  outcome_of (Some (write f i)) range = of_files i range files holds (IsWriting f) (λ g p readable formed. some_writing g p readable formed f)
  outcome_of (Some (answer talk i)) range = of_files i range files holds (IsAnswering talk) (some_answering talk)
  outcome_of (Some (fit i c)) range = of_files i range files holds (IsFitting c) (some_fitting c)
  outcome_of (Some (too_many_candidates count)) range = (Err (TooManyCandidates count), refl)
  outcome_of (Some (learn bit grammar midis)) range =
      in_turn (IsUnderstood (file_content files grammar)) (IsLearning bit files midis) (grammar_tests (file_content files grammar), refl)
      (λ g understood. learnings bit files midis g holds (readable (file_content files grammar) g understood))
  outcome_of (Some (too_many_files count)) range = (Err (TooManyFiles count), refl)
  outcome_of (Some (follow i)) range = of_files i range files holds IsFollowing some_following
  outcome_of (Some (notes midi o)) range = some_notes o range (file_content files midi) (content_bytes files midi holds)
  outcome_of (Some (events kern)) range = some_events (file_content files kern)
  outcome_of (Some (generate number bars)) range = (_, refl)
  outcome_of (Some (drill number grammar)) range = some_drill number (file_content files grammar)

pub some_outcome : RunsHaveOutcomes
some_outcome words files holds = outcome_of files holds (asked_by words) (asked_in words)
