-- What the stages of a fit come to together.
use Rattle.std.proofs.Common.{◌≡◌, ◌≢◌, ◌≤◌, ◌⊎◌, ◌∷◌, [], ◌∙◌, ℕ, List, Vec, ap, inl, inr, refl, sym, subst, IfErr, IfOk, OnOk, Option, Some, Result, Ok, Err}
use Rattle.std.specs.Option.{ForSome}
use Rattle.barline_fit.specs.Builds.{AreReachedAt, AreWithinReach}
use Rattle.barline_fit.specs.Candidates.{ticks_of}
use Rattle.barline_fit.specs.Fitted.{IsFitFault, IsFitted}
use Rattle.rhythm_app.specs.FittedScore.{IsFittedScore}
use Rattle.barline_fit.specs.declared.candidates.Candidates.{Candidates}
use Rattle.barline_fit.specs.declared.fit_fault.FitFault.{FitFault}
use Rattle.barline_fit.specs.declared.fit_fault.FitFault.TheVariants as fitting
use Rattle.barline_fit.specs.declared.fitted.Fitted.{Fitted}
use Rattle.edit_session.specs.Opening.{CanOpen}
use Rattle.edit_session.specs.Prepared.{RisesBy}
use Rattle.edit_session.specs.Session.{Session}
use Rattle.rhythm_app.specs.Asked.{fit}
use Rattle.rhythm_app.specs.Builds.{HasBuilt, HasBuiltAll, HasFitted, HasFittedOf, HasFittedOver, HasPartlyFitted, HasTried, MatchFitted, OfLoaded}
use Rattle.rhythm_app.specs.Commands.{cells_fitted, no_cells}
use Rattle.rhythm_app.specs.Inputs.{Inputs}
use Rattle.rhythm_app.specs.Lent.{Lent}
use Rattle.rhythm_app.specs.Outcome.{IsFitting, fit_stop, fit_text}
use Rattle.rhythm_app.specs.Stages.{CountsUp, Follows, HasOpened, HasText, IsBuiltUnopened, IsEarly, IsOfContent, said_of}
use Rattle.rhythm_app.specs.declared.stop.Stop.{Stop}
use Rattle.rhythm_app.specs.declared.stop.Stop.TheVariants as stop
use Rattle.rhythm_app.proofs.Opened.{of_session, text_had, unopened_text}
use Rattle.rhythm_base.specs.declared.edit_fault.EditFault.{EditFault}
use Rattle.rhythm_ports.specs.Files.{File}

-- ---- a session

-- what is written where a tick is fitted
abbrev pub IsTextAt : {A : Type 0} → ℕ → Fitted → Result (Vec ℕ A) Stop → Session → Type 0
IsTextAt bar x r s = IfOk r (λ v. (score : List ℕ) × IsFittedScore s.grammar s.performance bar x.tick (Ok score) × (v.items ≡ fit_text x score))

-- why it is not
abbrev pub IsStopAt : {T : Type 0} → ℕ → ℕ → Result T Stop → Session → Type 0
IsStopAt bar tick r s = IfErr r (λ e. (e ≡ stop.Memory) ⊎ ((line : ℕ) × IsFittedScore s.grammar s.performance bar tick (Err line) × (e ≡ stop.ScoreTooLong line)))

module _ (c : Candidates) (s : Session) (can : CanOpen s.grammar s.performance) (old new : ℕ) where
  abbrev pub BuiltSo : Stop → Type 0
  BuiltSo e =
      MatchFitted ⊥ (λ line fault. ⊥) (new ≡ old) (HasTried c s.grammar s.performance old new) (HasFitted c s.grammar s.performance old new)
      (HasPartlyFitted c s.grammar s.performance old new) ⊥ e

  module _ (x : Fitted) (mid : ℕ) (fitted : IsFitted s.grammar s.performance c.bar (ticks_of c) x) (tried : HasTried c s.grammar s.performance old mid) {A : Type 0} where
    pub fit_tests : (r : Result (Vec ℕ A) Stop) → IsTextAt c.bar x r s → IsStopAt c.bar x.tick r s → Follows (IsFitting c s.grammar s.performance) (said_of r)
    fit_tests (Ok v) (score, scored, text) end = inl (x, score, record { can = can; fitted = fitted; scored = scored }, text)
    fit_tests (Err e) text (inl memory) = subst (λ (e : Stop). Follows (IsFitting c s.grammar s.performance) (Err e)) (sym memory) (inr tt)
    fit_tests (Err e) text (inr (line, scored, long)) = inl (inr (inr (x, line, record { can = can; fitted = fitted; scored = scored }, long)))

    pub fit_content : (r : Result (Vec ℕ A) Stop) → IsStopAt c.bar x.tick r s → IfErr r IsOfContent
    fit_content (Ok v) end = tt
    fit_content (Err e) (inl memory) = subst IsOfContent (sym memory) tt
    fit_content (Err e) (inr (line, scored, long)) = subst IsOfContent (sym long) tt

    ok_is_no_memory : (v : Vec ℕ A) → ◌≡◌ {A = Result (Vec ℕ A) Stop} (Ok v) (Err stop.Memory) → ⊥
    ok_is_no_memory v e = cc

    long_is_no_memory : (line : ℕ) → ◌≡◌ {A = Result (Vec ℕ A) Stop} (Err (stop.ScoreTooLong line)) (Err stop.Memory) → ⊥
    long_is_no_memory line e = cc

    pub fit_all : (r : Result (Vec ℕ A) Stop) → (r ≢ Err stop.Memory → RisesBy mid new (AreReachedAt s.grammar s.performance c.bar (x.tick ∷ [])))
        → OnOk r (HasFitted c s.grammar s.performance old new)
    fit_all (Ok v) built = (x, mid, fitted, tried, built (ok_is_no_memory v))
    fit_all (Err e) built = tt

    pub fit_built : (r : Result (Vec ℕ A) Stop) → IsStopAt c.bar x.tick r s → (r ≢ Err stop.Memory → RisesBy mid new (AreReachedAt s.grammar s.performance c.bar (x.tick ∷ [])))
        → RisesBy mid new (AreWithinReach s.grammar s.performance c.bar (x.tick ∷ [])) → IfErr r BuiltSo
    fit_built (Ok v) end built most = tt
    fit_built (Err e) (inl memory) built most = subst BuiltSo (sym memory) (inr (x, mid, fitted, tried, most))
    fit_built (Err e) (inr (line, scored, long)) built most =
        subst BuiltSo (sym long) (x, mid, fitted, tried, built (λ is. long_is_no_memory line (ap (λ (s : Stop). Err s) (sym long) ∙ is)))

  -- no tick is fitted
  pub unfitted_tests : (fault : FitFault) → IsFitFault s.grammar s.performance c.bar (ticks_of c) fault → Follows (IsFitting c s.grammar s.performance) (Err (fit_stop fault))
  unfitted_tests (fitting.NoBar bar) is = inl (inr (inl (fitting.NoBar bar, can, is, (λ e. cc), refl)))
  unfitted_tests fitting.NoCandidate is = inl (inr (inl (fitting.NoCandidate, can, is, (λ e. cc), refl)))
  unfitted_tests fitting.Memory is = inr tt

  pub unfitted_content : (fault : FitFault) → IsOfContent (fit_stop fault)
  unfitted_content (fitting.NoBar bar) = tt
  unfitted_content fitting.NoCandidate = tt
  unfitted_content fitting.Memory = tt

  pub unfitted_built : (fault : FitFault) → IsFitFault s.grammar s.performance c.bar (ticks_of c) fault → (fault ≢ fitting.Memory → HasTried c s.grammar s.performance old new)
      → (fault ≡ fitting.NoBar c.bar → new ≡ old) → RisesBy old new (AreWithinReach s.grammar s.performance c.bar (ticks_of c))
      → BuiltSo (fit_stop fault)
  unfitted_built (fitting.NoBar bar) (same, none) tried unbuilt most = unbuilt (ap fitting.NoBar same)
  unfitted_built fitting.NoCandidate is tried unbuilt most = tried (λ e. cc)
  unfitted_built fitting.Memory is tried unbuilt most = inl most

-- what is known of the cells by the stop gives what follows from it
fitted_more : (L' : Type 0) (R' : ℕ → Option EditFault → Type 0) {A B C D N A' B' C' D' N' : Type 0} → (A → A') → (B → B') → (C → C') → (D → D') → (N → N') → (s : Stop)
    → MatchFitted ⊥ (λ line fault. ⊥) A B C D N s → MatchFitted L' R' A' B' C' D' N' s
fitted_more L' R' a b c d n stop.Usage h = n h
fitted_more L' R' a b c d n (stop.FileTooLong k m) h = n h
fitted_more L' R' a b c d n (stop.LineTooLong m) h = n h
fitted_more L' R' a b c d n (stop.Smf e) h = n h
fitted_more L' R' a b c d n (stop.Grammar e) h = n h
fitted_more L' R' a b c d n (stop.Kern e) h = n h
fitted_more L' R' a b c d n stop.NoNotes h = n h
fitted_more L' R' a b c d n (stop.TooManyNotes m) h = n h
fitted_more L' R' a b c d n (stop.BadSignature m k) h = n h
fitted_more L' R' a b c d n (stop.UnevenBar j m k) h = n h
fitted_more L' R' a b c d n (stop.TooManyBars m) h = n h
fitted_more L' R' a b c d n (stop.TooManyCells m) h = n h
fitted_more L' R' a b c d n (stop.NoStart j m k) h = n h
fitted_more L' R' a b c d n (stop.Unprepared e) h = n h
fitted_more L' R' a b c d n (stop.NoDerivation m k) h = absurd h
fitted_more L' R' a b c d n (stop.ScoreTooLong m) h = c h
fitted_more L' R' a b c d n (stop.RenderTooLong m) h = n h
fitted_more L' R' a b c d n (stop.InFile m s) h = n h
fitted_more L' R' a b c d n (stop.TooManyFiles m) h = n h
fitted_more L' R' a b c d n (stop.TooManyCandidates m) h = n h
fitted_more L' R' a b c d n (stop.NoBarline m) h = a h
fitted_more L' R' a b c d n stop.NoCandidate h = b h
fitted_more L' R' a b c d n (stop.ScriptLine row why) h = absurd h
fitted_more L' R' a b c d n (stop.Read k) h = n h
fitted_more L' R' a b c d n stop.Write h = tt
fitted_more L' R' a b c d n stop.Memory h = d h

-- ---- the files

-- nothing is built yet
early_fitted : (L : Type 0) (R : ℕ → Option EditFault → Type 0) (A B C D : Type 0) (old new : ℕ) → new ≡ old → (s : Stop) → IsEarly s → MatchFitted L R A B C ((new ≡ old) ⊎ D) (new ≡ old) s
early_fitted L R A B C D old new same stop.Usage early = absurd early
early_fitted L R A B C D old new same (stop.FileTooLong k n) early = same
early_fitted L R A B C D old new same (stop.LineTooLong n) early = absurd early
early_fitted L R A B C D old new same (stop.Smf e) early = same
early_fitted L R A B C D old new same (stop.Grammar e) early = same
early_fitted L R A B C D old new same (stop.Kern e) early = same
early_fitted L R A B C D old new same stop.NoNotes early = same
early_fitted L R A B C D old new same (stop.TooManyNotes n) early = same
early_fitted L R A B C D old new same (stop.BadSignature m n) early = same
early_fitted L R A B C D old new same (stop.UnevenBar l m n) early = same
early_fitted L R A B C D old new same (stop.TooManyBars n) early = same
early_fitted L R A B C D old new same (stop.TooManyCells n) early = same
early_fitted L R A B C D old new same (stop.NoStart l m n) early = same
early_fitted L R A B C D old new same (stop.Unprepared e) early = same
early_fitted L R A B C D old new same (stop.NoDerivation m n) early = absurd early
early_fitted L R A B C D old new same (stop.ScoreTooLong n) early = absurd early
early_fitted L R A B C D old new same (stop.RenderTooLong n) early = absurd early
early_fitted L R A B C D old new same (stop.InFile m s) early = absurd early
early_fitted L R A B C D old new same (stop.TooManyFiles n) early = absurd early
early_fitted L R A B C D old new same (stop.TooManyCandidates n) early = absurd early
early_fitted L R A B C D old new same (stop.NoBarline n) early = absurd early
early_fitted L R A B C D old new same stop.NoCandidate early = absurd early
early_fitted L R A B C D old new same (stop.ScriptLine row why) early = absurd early
early_fitted L R A B C D old new same (stop.Read k) early = same
early_fitted L R A B C D old new same stop.Write early = absurd early
early_fitted L R A B C D old new same stop.Memory early = inl same

-- no session is had
unopened_fit : (i : Inputs) (c : Candidates) (fs : Option (List File)) (old new : ℕ) (s : Stop) → IsBuiltUnopened (OfLoaded i fs) old new s → HasFittedOf i fs c old new s
unopened_fit i c fs old new s (inl (early, same)) = early_fitted _ _ _ _ _ _ old new same s early
unopened_fit i c fs old new s (inr (inl (channel, bar, e, h))) = subst (HasFittedOf i fs c old new) (sym e) h
unopened_fit i c fs old new s (inr (inr (inl (line, fault, e, h)))) = subst (HasFittedOf i fs c old new) (sym e) h
unopened_fit i c fs old new s (inr (inr (inr (e, h)))) = subst (HasFittedOf i fs c old new) (sym e) (inr (inl h))

some_cells : (i : Inputs) (c : Candidates) → cells_fitted i c ≢ no_cells
some_cells i c e = cc

module _ {S O E : Type 0} (i : Inputs) (c : Candidates) (old mid : Lent S O E) where
  -- no session is had
  pub unread_fit : {A : Type 0} (s : Stop) → HasOpened i old mid (Err s) → HasText {A = A} (Some (fit i c)) old mid (Err s)
  unread_fit s had =
      unopened_text (fit i c) i (IsFitting c) refl (λ files r h. h) (some_cells i c) old mid s had (unopened_fit i c old.files old.built mid.built s had.built)

  module _ (new : Lent S O E) (s : Session) (had : HasOpened i old mid (Ok s)) where
    all_fitted : {A : Type 0} (r : Result (Vec ℕ A) Stop) → OnOk r (HasFitted c s.grammar s.performance mid.built new.built)
        → IfOk r (λ _. ForSome old.files (λ files. HasBuiltAll (cells_fitted i c) files old.built new.built))
    all_fitted (Ok v) h = of_session i old mid s had (λ n g p. HasFitted c g p n new.built) h
    all_fitted (Err e) h = tt

    fit_cells : {A : Type 0} (r : Result (Vec ℕ A) Stop) → IfErr r (HasFittedOver c s mid.built new.built) → IfErr r (HasBuilt (cells_fitted i c) old.files old.built new.built)
    fit_cells (Ok v) h = tt
    fit_cells (Err e) h =
        fitted_more _ _ (of_session i old mid s had (λ n g p. new.built ≡ n)) (of_session i old mid s had (λ n g p. HasTried c g p n new.built))
        (of_session i old mid s had (λ n g p. HasFitted c g p n new.built)) (λ some. inr (inr (of_session i old mid s had (λ n g p. HasPartlyFitted c g p n new.built) some)))
        (λ none. absurd none) e h

    -- a barline is fitted
    pub fit_had : {A : Type 0} (r : Result (Vec ℕ A) Stop) → Follows (IsFitting c s.grammar s.performance) (said_of r) → IfErr r IsOfContent
        → OnOk r (HasFitted c s.grammar s.performance mid.built new.built) → IfErr r (HasFittedOver c s mid.built new.built) → CountsUp mid new
        → HasText (Some (fit i c)) old new r
    fit_had r tests content all built counts =
        text_had (fit i c) i (IsFitting c) refl (λ files r h. h) (some_cells i c) old mid new s had counts r tests content (all_fitted r all) (fit_cells r built)
