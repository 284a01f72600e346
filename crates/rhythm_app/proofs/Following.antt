-- What the stages of a command that follows the player come to together.
use Rattle.std.proofs.Common.{◌≡◌, ◌≢◌, ℕ, List, Vec, inl, inr, refl, subst, sym, IfErr, IfOk, OnOk, Option, Some, Result, Ok, Err}
use Rattle.std.specs.Option.{ForSome}
use Rattle.edit_session.specs.Session.{Session}
use Rattle.rhythm_app.specs.Asked.{follow}
use Rattle.rhythm_app.specs.Builds.{HasBuilt, HasBuiltAll, HasFollowed, HasFollowedOf, HasPartlyFollowed, OfLoaded}
use Rattle.rhythm_app.specs.Commands.{cells_followed, no_cells}
use Rattle.rhythm_app.specs.Inputs.{Inputs}
use Rattle.rhythm_app.specs.Lent.{Lent}
use Rattle.rhythm_app.specs.Outcome.{IsFollowing}
use Rattle.rhythm_app.specs.Stages.{CountsUp, Follows, HasOpened, HasText, IsBuiltUnopened, IsOfContent, said_of}
use Rattle.rhythm_app.specs.declared.stop.Stop.{Stop}
use Rattle.rhythm_app.specs.declared.stop.Stop.TheVariants as stop
use Rattle.rhythm_app.proofs.Opened.{of_session, text_had, unopened_text}
use Rattle.rhythm_app.proofs.Stops.{early_inputs}
use Rattle.rhythm_ports.specs.Files.{File}

some_cells : (i : Inputs) → cells_followed i ≢ no_cells
some_cells i e = cc

-- no session is had
unopened_follow : (i : Inputs) (fs : Option (List File)) (old new : ℕ) (s : Stop) → IsBuiltUnopened (OfLoaded i fs) old new s → HasFollowedOf i fs old new s
unopened_follow i fs old new s (inl (early, same)) = early_inputs _ _ _ _ old new same s early
unopened_follow i fs old new s (inr (inl (channel, bar, e, h))) = subst (HasFollowedOf i fs old new) (sym e) h
unopened_follow i fs old new s (inr (inr (inl (line, fault, e, h)))) = subst (HasFollowedOf i fs old new) (sym e) h
unopened_follow i fs old new s (inr (inr (inr (e, h)))) = subst (HasFollowedOf i fs old new) (sym e) (inr (inl h))

of_memory : {T : Type 0} (r : Result T Stop) → IfErr r (λ s. s ≡ stop.Memory) → IfErr r IsOfContent
of_memory (Ok x) memory = tt
of_memory (Err s) memory = subst IsOfContent (sym memory) tt

module _ {S O E : Type 0} (i : Inputs) (old mid : Lent S O E) where
  pub unread_follow : {A : Type 0} (s : Stop) → HasOpened i old mid (Err s) → HasText {A = A} (Some (follow i)) old mid (Err s)
  unread_follow s had =
      unopened_text (follow i) i IsFollowing refl (λ files r h. h) (some_cells i) old mid s had (unopened_follow i old.files old.built mid.built s had.built)

  module _ (new : Lent S O E) (s : Session) (had : HasOpened i old mid (Ok s)) where
    all_followed : {A : Type 0} (r : Result (Vec ℕ A) Stop) → OnOk r (HasFollowed s.grammar s.performance mid.built new.built)
        → IfOk r (λ _. ForSome old.files (λ files. HasBuiltAll (cells_followed i) files old.built new.built))
    all_followed (Ok v) h = of_session i old mid s had (λ n g p. HasFollowed g p n new.built) h
    all_followed (Err e) h = tt

    follow_cells : {A : Type 0} (r : Result (Vec ℕ A) Stop) → IfErr r (λ s. s ≡ stop.Memory) → HasPartlyFollowed s.grammar s.performance mid.built new.built
        → IfErr r (HasBuilt (cells_followed i) old.files old.built new.built)
    follow_cells (Ok v) memory some = tt
    follow_cells (Err e) memory some =
        subst (HasFollowedOf i old.files old.built new.built) (sym memory) (inr (inr (of_session i old mid s had (λ n g p. HasPartlyFollowed g p n new.built) some)))

    -- the script is had
    pub follow_had : {A : Type 0} (r : Result (Vec ℕ A) Stop) → Follows (IsFollowing s.grammar s.performance) (said_of r) → IfErr r (λ s. s ≡ stop.Memory)
        → OnOk r (HasFollowed s.grammar s.performance mid.built new.built) → HasPartlyFollowed s.grammar s.performance mid.built new.built → CountsUp mid new
        → HasText (Some (follow i)) old new r
    follow_had r tests memory all some counts =
        text_had (follow i) i IsFollowing refl (λ files r h. h) (some_cells i) old mid new s had counts r tests (of_memory r memory) (all_followed r all) (follow_cells r memory some)
