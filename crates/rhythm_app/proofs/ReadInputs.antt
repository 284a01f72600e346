-- What the files say, of what is lent.
use Rattle.std.proofs.Common.{◌≡◌, ◌≢◌, ◌≤◌, ◌∙◌, ℕ, List, Vec, length, subst, IfErr, IfOk, None, Result}
use Rattle.std.specs.Option.{ForSome}
use Rattle.rhythm_app.specs.Commands.{HaveNames, input_files}
use Rattle.rhythm_app.specs.Counting.{HasPerformance, IsMidiLoading, IsOfMidi}
use Rattle.rhythm_app.specs.Inputs.{Inputs, file_content}
use Rattle.rhythm_app.specs.Lent.{Lent}
use Rattle.rhythm_app.specs.Outcome.{AreLoaded, IsUnderstood}
use Rattle.rhythm_app.specs.Stages.{EndsBy, EndsReading, Follows, HasLoaded, HasRules, IsEarly, IsLoadStop, ReadsShelf, loaded_of}
use Rattle.rhythm_app.specs.declared.stop.Kind.TheVariants as kind
use Rattle.rhythm_app.specs.declared.stop.Stop.{Stop}
use Rattle.rhythm_base.specs.Grammar.{Grammar}
use Rattle.rhythm_base.specs.Performance.{Performance}
use Rattle.rhythm_base.specs.Readable.{IsReadable}
use Rattle.rhythm_base.specs.declared.limits.TheConstants.{LONGEST_SCRIPT, MOST_NOTES}
use Rattle.rhythm_ports.specs.Files.{file_of}

module _ {S O E : Type 0} where
  -- the files of the shelf stay
  shelf_read : (old new : Lent S O E) → new ≡ record old { files = new.files; strays = new.strays; shelf_faults = new.shelf_faults } → new.files ≡ old.files → ReadsShelf old new
  shelf_read old new reads files = reads ∙ (λ i. record old { files = files i; strays = new.strays; shelf_faults = new.shelf_faults })

  pub inputs_had : {A : Type 0} (i : Inputs) (seen old new : Lent S O E) (r : Result (Grammar × Performance × Vec ℕ A) Stop) → seen ≡ old
      → new ≡ record seen { files = new.files; strays = new.strays; shelf_faults = new.shelf_faults } → new.files ≡ seen.files
      → ForSome seen.files (λ files. Follows (AreLoaded i files) (loaded_of r)) → IfErr r (λ stop. ForSome seen.files (λ files. IsLoadStop i files stop))
      → IfOk r (λ had. IsReadable had.0) → IfOk r (λ had. length had.1.notes ≤ MOST_NOTES) → IfOk r (λ had. length had.2.items ≤ LONGEST_SCRIPT)
      → IfErr r (EndsReading seen.shelf_faults new.shelf_faults) → IfErr r IsEarly → ForSome seen.files (λ files. HaveNames files (input_files i) → new.strays ≡ seen.strays)
      → HasLoaded i old new r
  inputs_had i seen old new r same reads files tests cause readable few_notes short end early strays =
      subst (λ (l : Lent S O E). HasLoaded i l new r) same (record {
        tests = tests;
        cause = cause;
        readable = readable;
        few_notes = few_notes;
        short = short;
        end = end;
        early = early;
        strays = strays;
        reads = shelf_read seen new reads files;
      })

  pub rules_had : (grammar : List ℕ) (seen old new : Lent S O E) (r : Result Grammar Stop) → seen ≡ old
      → new ≡ record seen { files = new.files; strays = new.strays; shelf_faults = new.shelf_faults } → new.files ≡ seen.files
      → ForSome seen.files (λ files. Follows (IsUnderstood (file_content files grammar)) r) → IfOk r IsReadable → IfErr r (EndsBy kind.Grammar seen.shelf_faults new.shelf_faults)
      → seen.shelf_faults ≤ new.shelf_faults → ForSome seen.files (λ files. file_of files grammar ≢ None → new.strays ≡ seen.strays) → HasRules grammar old new r
  rules_had grammar seen old new r same reads files tests readable end later strays =
      subst (λ (l : Lent S O E). HasRules grammar l new r) same (record { tests = tests; readable = readable; end = end; later = later; strays = strays; reads = shelf_read seen new reads files })

  pub performance_had : (name : List ℕ) (seen old new : Lent S O E) (r : Result Performance Stop) → seen ≡ old
      → new ≡ record seen { files = new.files; strays = new.strays; shelf_faults = new.shelf_faults } → new.files ≡ seen.files
      → ForSome seen.files (λ files. Follows (IsMidiLoading (file_content files name)) r) → IfOk r (λ p. length p.notes ≤ MOST_NOTES) → IfErr r IsOfMidi
      → IfErr r (EndsBy kind.Midi seen.shelf_faults new.shelf_faults) → seen.shelf_faults ≤ new.shelf_faults
      → ForSome seen.files (λ files. file_of files name ≢ None → new.strays ≡ seen.strays) → HasPerformance name old new r
  performance_had name seen old new r same reads files tests few_notes own end later strays =
      subst (λ (l : Lent S O E). HasPerformance name l new r) same (record {
        tests = tests;
        few_notes = few_notes;
        own = own;
        end = end;
        later = later;
        strays = strays;
        reads = shelf_read seen new reads files;
      })
