-- What the events of a **kern file come to.
use Rattle.std.proofs.Common.{◌≡◌, ℕ, List, Vec, inr, refl, subst, sym, IfErr, IfOk, Some, Result, Ok, Err}
use Rattle.std.specs.Option.{ForSome}
use Rattle.kern_reader.specs.Score.{KernColumns}
use Rattle.rhythm_app.specs.Asked.{events}
use Rattle.rhythm_app.specs.Commands.{HasNames}
use Rattle.rhythm_app.specs.Inputs.{file_content}
use Rattle.rhythm_app.specs.Lent.{Lent}
use Rattle.rhythm_app.specs.Outcome.{IsListing, IsScoreRead, say}
use Rattle.rhythm_app.specs.Stages.{Follows, HasText}
use Rattle.rhythm_app.specs.declared.stop.Stop.{Stop}
use Rattle.rhythm_app.specs.declared.stop.Stop.TheVariants as stop
use Rattle.rhythm_app.proofs.Performing.{not_had, shelf_alone}
use Rattle.rhythm_app.proofs.Sessions.{no_failure}

-- the score was read, and its events are listed, or there was not enough memory
pub listed : {S O E A : Type 0} (kern : List ℕ) (seen old new : Lent S O E) (score : KernColumns) (r : Result (Vec ℕ A) Stop) → seen ≡ old
    → new ≡ record seen { files = new.files; strays = new.strays; shelf_faults = new.shelf_faults } → new.files ≡ seen.files → ForSome seen.files (λ files. Follows (IsScoreRead (file_content files kern)) (Ok score))
    → IfOk r (λ text. IsListing score (Ok (say text.items))) → IfErr r (λ end. end ≡ stop.Memory) → ForSome seen.files (λ files. HasNames files (Some (events kern)) → new.strays ≡ seen.strays)
    → HasText (Some (events kern)) old new r
listed {S} {O} {E} {A} kern seen old new score (Ok v) same reads known read text memory strays =
    subst (λ (l : Lent S O E). HasText (Some (events kern)) l new (Ok v)) same (record {
      text = λ files are. (score, no_failure (IsScoreRead (file_content files kern)) score (read files are), text);
      all = λ files are. ap_built;
      before = shelf_alone (Some (events kern)) seen new (Ok v) reads known tt tt tt strays;
    })
  where
    ap_built : new.built ≡ seen.built
    ap_built = (shelf_alone (Some (events kern)) seen new (Ok v) reads known tt tt tt strays).no_cells refl
listed {S} {O} {E} {A} kern seen old new score (Err s) same reads known read text memory strays =
    subst (λ (x : Stop). HasText {A = A} (Some (events kern)) old new (Err x)) (sym memory)
    (not_had (Some (events kern)) seen old new stop.Memory (Err stop.Memory) refl same reads known (λ files are. inr tt) tt refl strays)
