-- What the notes of a MIDI file come to.
use Rattle.std.proofs.Common.{◌≡◌, ℕ, List, Vec, refl, subst, IfErr, Some, Result, Ok, Err}
use Rattle.std.specs.Option.{ForSome}
use Rattle.performance_prepare.specs.declared.options.Options.{Options}
use Rattle.rhythm_app.specs.Asked.{notes}
use Rattle.rhythm_app.specs.Commands.{HasNames}
use Rattle.rhythm_app.specs.Inputs.{file_content}
use Rattle.rhythm_app.specs.Lent.{Lent}
use Rattle.rhythm_app.specs.Outcome.{AreInTurn, IsNoting, IsPlaying, IsRead, say}
use Rattle.rhythm_app.specs.Stages.{Follows, HasText, IsStoppedBefore, IsOfContent, said_of}
use Rattle.rhythm_app.specs.declared.stop.Stop.{Stop}
use Rattle.rhythm_app.proofs.InTurn.{next_follows}
use Rattle.rhythm_app.proofs.Performing.{content_ends, not_had, shelf_alone}
use Rattle.rhythm_app.proofs.Sessions.{no_failure, stop_cause}
use Rattle.smf_reader.specs.Played.{Smf}

-- the file was read, and its notes are written, or it stopped by what it holds, or there was not enough memory
pub noted : {S O E A : Type 0} (midi : List ℕ) (o : Options) (seen old new : Lent S O E) (f : Smf) (r : Result (Vec ℕ A) Stop) → seen ≡ old
    → new ≡ record seen { files = new.files; strays = new.strays; shelf_faults = new.shelf_faults } → new.files ≡ seen.files
    → ForSome seen.files (λ files. Follows (IsRead (file_content files midi)) (Ok f))
    → Follows (AreInTurn (IsPlaying o f) IsNoting) (said_of r) → IfErr r IsOfContent
    → ForSome seen.files (λ files. HasNames files (Some (notes midi o)) → new.strays ≡ seen.strays) → HasText (Some (notes midi o)) old new r
noted {S} {O} {E} {A} midi o seen old new f (Ok v) same reads known read text content strays =
    subst (λ (l : Lent S O E). HasText (Some (notes midi o)) l new (Ok v)) same (record {
      text = λ files are.
          (f, no_failure (IsRead (file_content files midi)) f (read files are), no_failure (AreInTurn (IsPlaying o f) IsNoting) (say v.items) text);
      all = λ files are. before.no_cells refl;
      before = before;
    })
  where
    before : IsStoppedBefore (Some (notes midi o)) seen new {T = Vec ℕ A} (Ok v)
    before = shelf_alone (Some (notes midi o)) seen new (Ok v) reads known tt tt tt strays
noted {S} {O} {E} {A} midi o seen old new f (Err s) same reads known read text content strays =
    not_had (Some (notes midi o)) seen old new s (Err s) refl same reads known
    (λ files are. stop_cause (notes midi o) files s
    (next_follows (IsRead (file_content files midi)) (λ f. AreInTurn (IsPlaying o f) IsNoting) f (Err s) (read files are) text) content)
    (content_ends {T = Vec ℕ A} seen.shelf_faults new.shelf_faults (Err s) content) refl strays
