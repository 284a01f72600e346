-- What a request comes to is what the words come to.
use Rattle.std.proofs.Common.{◌≡◌, ℕ, List, subst, sym, ◌∙◌, Option, Some, None, Result, Err}
use Rattle.rhythm_app.specs.Asked.{Asked, too_many_candidates, too_many_files}
use Rattle.rhythm_app.specs.Builds.{HasBuilt}
use Rattle.rhythm_app.specs.Commands.{HasOutcomeOf, cells_of_asked}
use Rattle.rhythm_app.specs.Ends.{IsPerformed}
use Rattle.rhythm_app.specs.Lent.{Lent}
use Rattle.rhythm_app.specs.Stages.{EndsReading, HasText}
use Rattle.rhythm_app.specs.declared.stop.Stop.{Stop}
use Rattle.rhythm_app.specs.declared.stop.Stop.TheVariants as stop
use Rattle.rhythm_ports.specs.Files.{File}
use Rattle.std.proofs.Common.{refl, inl, arith}

some_is_none : (a : Asked) → ◌≡◌ {A = Option Asked} (Some a) None → ⊥
some_is_none a e = cc

module _ {S O E T : Type 0} (old new : Lent S O E) (r : Result T Stop) where
  pub performed_as : (asked said : Option Asked) → asked ≡ said → IsPerformed asked old new r → IsPerformed said old new r
  performed_as asked said same h = subst (λ (a : Option Asked). IsPerformed a old new r) same h

  -- where something is asked for the words are a command
  pub usage_as : (a : Asked) (said : Option Asked) → Some a ≡ said → IsPerformed (Some a) old new r → (r ≡ Err stop.Usage → said ≡ None) × (said ≡ None → r ≡ Err stop.Usage)
  usage_as a said same h = (λ e. absurd (some_is_none a (h.known e)), λ e. absurd (some_is_none a (same ∙ e)))

-- the words ask for nothing
pub nothing_asked : {S O E T : Type 0} (asked : Option Asked) (old : Lent S O E) → asked ≡ None → IsPerformed asked old old {T = T} (Err stop.Usage)
nothing_asked {S} {O} {E} {T} asked old none = subst (λ (a : Option Asked). IsPerformed a old old {T = T} (Err stop.Usage)) (sym none) (record {
  known = λ _. refl;
  done = tt;
  stopped = record { cause = λ files are. inl refl; risen = tt; took = (refl, refl); nothing = λ _ _. refl; built = refl };
  rest = record { files = refl; strays = λ files are names. refl; script = λ _. refl; built = omega arith; multiplied = omega arith };
  err = (refl, refl, refl);
})

-- a command that reads no file ends by the stop that its words come to
unread_stop : {S O E A : Type 0} (asked : Asked) (s : Stop) (old : Lent S O E) → ((files : List File) → HasOutcomeOf (Some asked) files (Err s)) → EndsReading old.shelf_faults old.shelf_faults s
    → HasBuilt (cells_of_asked (Some asked)) old.files old.built old.built s → HasText {A = A} (Some asked) old old (Err s)
unread_stop asked s old outcome end built = record {
  text = tt;
  all = tt;
  before = record {
    cause = λ files are. inl (outcome files);
    end = end;
    built = built;
    strays = λ files are names. refl;
    rises = (omega arith, omega arith);
    no_cells = λ _. refl;
    alone = refl;
  };
}

-- too many candidates are asked for
pub too_many_candidates_had : {S O E A : Type 0} (count : ℕ) (old : Lent S O E) → HasText {A = A} (Some (too_many_candidates count)) old old (Err (stop.TooManyCandidates count))
too_many_candidates_had count old = unread_stop (too_many_candidates count) (stop.TooManyCandidates count) old (λ files. refl) tt refl

-- too many files are
pub too_many_files_had : {S O E A : Type 0} (count : ℕ) (old : Lent S O E) → HasText {A = A} (Some (too_many_files count)) old old (Err (stop.TooManyFiles count))
too_many_files_had count old = unread_stop (too_many_files count) (stop.TooManyFiles count) old (λ files. refl) tt refl
