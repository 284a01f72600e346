-- What the stages of a drill come to together.
use Rattle.std.proofs.Common.{◌≡◌, ◌≢◌, ◌≤◌, ◌⊎◌, ◌∙◌, ℕ, List, Vec, ap, arith, inl, inr, refl, sym, subst, IfErr, IfOk, OnOk, Option, Some, None, Result, Ok, Err}
use Rattle.std.specs.Option.{ForSome}
use Rattle.drill_run.specs.Ends.{HasDrilled, IsDrillBrokenOff, IsDrillOf}
use Rattle.drill_run.specs.declared.drill_stop.DrillStop.{DrillStop}
use Rattle.drill_run.specs.declared.drill_stop.DrillStop.TheVariants as drilling
use Rattle.edit_session.specs.Opening.{CanOpen, cells_of}
use Rattle.edit_session.specs.declared.open_fault.OpenFault.{OpenFault}
use Rattle.edit_session.specs.declared.open_fault.OpenFault.TheVariants as opening
use Rattle.rhythm_app.proofs.InTurn.{next_follows}
use Rattle.rhythm_app.specs.Asked.{drill}
use Rattle.rhythm_app.specs.Commands.{HasNames, HasOutcomeOf, cells_drilled, named, no_cells}
use Rattle.rhythm_app.specs.Inputs.{file_content}
use Rattle.rhythm_app.specs.Builds.{AreDrilled, AreSomeDrilled, ForPiece, HasBuilt, HasBuiltAll, MatchBuilds, MatchDrilled}
use Rattle.rhythm_app.specs.Outcome.{AreInTurn, IsDrilling, IsPieceMade, IsPieceOf, IsUnderstood, IsUnopened, Ready, open_stop, say}
use Rattle.rhythm_app.specs.Lent.{Lent}
use Rattle.rhythm_app.specs.Stages.{CountsAlone, EndsBy, Follows, HasRules, HasText, IsEarly, IsOfContent, ReadsShelf, said_of}
use Rattle.rhythm_app.specs.declared.stop.Kind.TheVariants as kind
use Rattle.rhythm_app.proofs.Performing.{content_ends, counted_alone, grammar_is_no_script, read_cause, read_end}
use Rattle.rhythm_app.proofs.Reading.{ends_early}
use Rattle.rhythm_app.proofs.Sessions.{said_follow, stage_cause, stage_ready}
use Rattle.rhythm_app.specs.declared.stop.Stop.{Stop}
use Rattle.rhythm_app.specs.declared.stop.Stop.TheVariants as stop
use Rattle.rhythm_base.specs.Counter.{risen}
use Rattle.rhythm_base.specs.Grammar.{Grammar}
use Rattle.rhythm_base.specs.Performance.{Performance}
use Rattle.rhythm_ports.specs.Files.{File, file_of}

-- ---- the session

module _ (g : Grammar) (number : ℕ) (p : Performance) where
  -- no session is opened
  pub unopened_drilling : (s : Stop) → IsUnopened g p s ⊎ (s ≡ stop.Memory) → Follows (IsDrilling g number p) (Err s)
  unopened_drilling s (inl h) = inl (inl h)
  unopened_drilling s (inr e) = subst (λ (x : Stop). Follows (IsDrilling g number p) (Err x)) (sym e) (inr tt)

  module _ (A B C : Type 0) (D : Type 0) (L : ℕ → Type 0) where
    at_fault : (fault : OpenFault) → MatchBuilds A B C (open_stop fault) → MatchDrilled A L (B ⊎ D) C (open_stop fault)
    at_fault (opening.Cells count) h = h
    at_fault (opening.NoStart bar num den) h = h
    at_fault (opening.NoDerivation channel bar) h = h
    at_fault opening.Memory h = inl h

    -- the cells that were built by then
    pub unopened_built : (s : Stop) → IsUnopened g p s ⊎ (s ≡ stop.Memory) → MatchBuilds A B C s → MatchDrilled A L (B ⊎ D) C s
    unopened_built s (inl (fault, is, other, e)) h =
        subst (MatchDrilled A L (B ⊎ D) C) (sym e) (at_fault fault (subst (MatchBuilds A B C) e h))
    unopened_built s (inr e) h = subst (MatchDrilled A L (B ⊎ D) C) (sym e) (inl (subst (MatchBuilds A B C) e h))

  -- the drill is that of the grammar and the performance that the session was opened with
  pub same_drill : (h : Grammar) (q : Performance) (said : Result (List ℕ) ℕ) (start mid now : ℕ) → h ≡ g → q ≡ p → mid ≡ start
      → HasDrilled h number q said mid now → HasDrilled g number p said start now
  same_drill h q said start mid now a b e d =
      subst (λ m. HasDrilled g number p said m now) e
      (subst (λ (x : Performance). HasDrilled g number x said mid now) b (subst (λ (x : Grammar). HasDrilled x number q said mid now) a d))

  pub same_break : (h : Grammar) (q : Performance) (start mid now : ℕ) → h ≡ g → q ≡ p → mid ≡ start
      → IsDrillBrokenOff h number q mid now → IsDrillBrokenOff g number p start now
  same_break h q start mid now a b e d =
      subst (λ m. IsDrillBrokenOff g number p m now) e
      (subst (λ (x : Performance). IsDrillBrokenOff g number x mid now) b (subst (λ (x : Grammar). IsDrillBrokenOff x number q mid now) a d))

  -- what it comes to
  pub drill_of : (said : Result (List ℕ) ℕ) (start now : ℕ) → HasDrilled g number p said start now → IsDrillOf g number p said
  drill_of said start now (last, besides, drilled, is, rises) = (last, besides, drilled, is)

  pub drilling_said : (text : List ℕ) (start now : ℕ) → CanOpen g p → HasDrilled g number p (Ok text) start now → Follows (IsDrilling g number p) (Ok (say text))
  drilling_said text start now can d = inl (can, drill_of (Ok text) start now d)

  pub drilling_too_long : (line start now : ℕ) → CanOpen g p → HasDrilled g number p (Err line) start now → Follows (IsDrilling g number p) (Err (stop.ScoreTooLong line))
  drilling_too_long line start now can d = inl (inr (line, can, drill_of (Err line) start now d, refl))

-- ---- the file and the piece

-- nothing is built yet
pub early_drilled : (A B : Type 0) (L : ℕ → Type 0) (old : ℕ) (s : Stop) → IsEarly s → MatchDrilled A L ((old ≡ old) ⊎ B) (old ≡ old) s
early_drilled A B L old stop.Usage early = absurd early
early_drilled A B L old (stop.FileTooLong k n) early = refl
early_drilled A B L old (stop.LineTooLong n) early = absurd early
early_drilled A B L old (stop.Smf e) early = refl
early_drilled A B L old (stop.Grammar e) early = refl
early_drilled A B L old (stop.Kern e) early = refl
early_drilled A B L old stop.NoNotes early = refl
early_drilled A B L old (stop.TooManyNotes n) early = refl
early_drilled A B L old (stop.BadSignature m n) early = refl
early_drilled A B L old (stop.UnevenBar l m n) early = refl
early_drilled A B L old (stop.TooManyBars n) early = refl
early_drilled A B L old (stop.TooManyCells n) early = refl
early_drilled A B L old (stop.NoStart l m n) early = refl
early_drilled A B L old (stop.Unprepared e) early = refl
early_drilled A B L old (stop.NoDerivation m n) early = absurd early
early_drilled A B L old (stop.ScoreTooLong n) early = absurd early
early_drilled A B L old (stop.RenderTooLong n) early = absurd early
early_drilled A B L old (stop.InFile m s) early = absurd early
early_drilled A B L old (stop.TooManyFiles n) early = absurd early
early_drilled A B L old (stop.TooManyCandidates n) early = absurd early
early_drilled A B L old (stop.NoBarline n) early = absurd early
early_drilled A B L old stop.NoCandidate early = absurd early
early_drilled A B L old (stop.ScriptLine row why) early = absurd early
early_drilled A B L old (stop.Read k) early = refl
early_drilled A B L old stop.Write early = absurd early
early_drilled A B L old stop.Memory early = inl refl

-- what is known of the cells by the stop gives what follows from it
drilled_more : {A D B E C F : Type 0} (L M : ℕ → Type 0) → (A → D) → ((line : ℕ) → L line → M line) → (B → E) → (C → F) → (s : Stop) → MatchDrilled A L B C s → MatchDrilled D M E F s
drilled_more L M a l b n stop.Usage h = n h
drilled_more L M a l b n (stop.FileTooLong k m) h = n h
drilled_more L M a l b n (stop.LineTooLong m) h = n h
drilled_more L M a l b n (stop.Smf e) h = n h
drilled_more L M a l b n (stop.Grammar e) h = n h
drilled_more L M a l b n (stop.Kern e) h = n h
drilled_more L M a l b n stop.NoNotes h = n h
drilled_more L M a l b n (stop.TooManyNotes m) h = n h
drilled_more L M a l b n (stop.BadSignature m k) h = n h
drilled_more L M a l b n (stop.UnevenBar j m k) h = n h
drilled_more L M a l b n (stop.TooManyBars m) h = n h
drilled_more L M a l b n (stop.TooManyCells m) h = n h
drilled_more L M a l b n (stop.NoStart j m k) h = n h
drilled_more L M a l b n (stop.Unprepared e) h = n h
drilled_more L M a l b n (stop.NoDerivation m k) h = a h
drilled_more L M a l b n (stop.ScoreTooLong m) h = l m h
drilled_more L M a l b n (stop.RenderTooLong m) h = n h
drilled_more L M a l b n (stop.InFile m s) h = n h
drilled_more L M a l b n (stop.TooManyFiles m) h = n h
drilled_more L M a l b n (stop.TooManyCandidates m) h = n h
drilled_more L M a l b n (stop.NoBarline m) h = n h
drilled_more L M a l b n stop.NoCandidate h = n h
drilled_more L M a l b n (stop.ScriptLine row why) h = n h
drilled_more L M a l b n (stop.Read k) h = n h
drilled_more L M a l b n stop.Write h = tt
drilled_more L M a l b n stop.Memory h = b h

understood_is : (bytes : List ℕ) (g : Grammar) → Follows (IsUnderstood bytes) (Ok g) → IsUnderstood bytes (Ok g)
understood_is bytes g (inl h) = h
understood_is bytes g (inr failed) = absurd failed

module _ (fs : Option (List File)) (number : ℕ) (grammar : List ℕ) (g : Grammar) (p : Performance)
    (understood : (files : List File) → fs ≡ Some files → Follows (IsUnderstood (file_content files grammar)) (Ok g)) (piece : IsPieceOf number p) where
  for_piece : (P : Grammar → Performance → Type 0) → P g p → ForSome fs (λ files. ForPiece (file_content files grammar) number P)
  for_piece P h = λ files are. (g, p, understood_is (file_content files grammar) g (understood files are), piece, h)

  -- the drill of the piece is what the words and the file come to
  pub drill_follows : (files : List File) → fs ≡ Some files → (r : Result Ready Stop) → Follows (IsDrilling g number p) r
      → Follows (HasOutcomeOf (Some (drill number grammar)) files) r
  drill_follows files are r h =
      next_follows (IsUnderstood (file_content files grammar)) (λ g. AreInTurn (IsPieceMade number) (λ p. IsDrilling g number p)) g r (understood files are)
      (next_follows (IsPieceMade number) (λ p. IsDrilling g number p) p r (inl (p, piece, refl)) h)

  pub all_drilled : {A : Type 0} (old new : ℕ) (r : Result (Vec ℕ A) Stop) → IfOk r (λ text. HasDrilled g number p (Ok text.items) (risen old (cells_of p)) new)
      → OnOk r (ForSome fs (λ files. HasBuiltAll (cells_drilled number grammar) files old new))
  all_drilled old new (Ok text) h = λ files are. (text.items, for_piece (λ g p. HasDrilled g number p (Ok text.items) (risen old (cells_of p)) new) h files are)
  all_drilled old new (Err s) h = tt

  pub piece_built : {T : Type 0} (old new : ℕ) (r : Result T Stop)
      → IfErr r (MatchDrilled (new ≡ risen old (cells_of p)) (λ line. HasDrilled g number p (Err line) (risen old (cells_of p)) new) (AreSomeDrilled g number p old new) (new ≡ old))
      → IfErr r (HasBuilt (cells_drilled number grammar) fs old new)
  piece_built old new (Ok x) h = tt
  piece_built old new (Err s) h =
      drilled_more (λ line. HasDrilled g number p (Err line) (risen old (cells_of p)) new) (λ line. ForSome fs (λ files. AreDrilled (file_content files grammar) number (Err line) old new))
      (for_piece (λ g p. new ≡ risen old (cells_of p))) (λ line. for_piece (λ g p. HasDrilled g number p (Err line) (risen old (cells_of p)) new))
      (λ some. inr (for_piece (λ g p. AreSomeDrilled g number p old new) some)) (λ none. none) s h

-- ---- the text of a drill

some_cells : (number : ℕ) (grammar : List ℕ) → cells_drilled number grammar ≡ no_cells → ⊥
some_cells number grammar e = cc

module _ {S O E : Type 0} (number : ℕ) (grammar : List ℕ) (old mid : Lent S O E) where
  same_strays : (strays : ForSome old.files (λ files. file_of files grammar ≢ None → mid.strays ≡ old.strays))
      → ForSome old.files (λ files. HasNames files (Some (drill number grammar)) → mid.strays ≡ old.strays)
  same_strays strays files are names = strays files are (names 0 (named kind.Grammar grammar) (omega arith))

  same_built : ReadsShelf old mid → mid.built ≡ old.built
  same_built alone = ap (λ (l : Lent S O E). l.built) alone

  early_end : (s : Stop) → EndsBy kind.Grammar old.shelf_faults mid.shelf_faults s → IsEarly s
  early_end s end = ends_early kind.Grammar old.shelf_faults mid.shelf_faults s end

module _ {S O E A : Type 0} (number : ℕ) (grammar : List ℕ) (old mid : Lent S O E) where
  -- the grammar is not had
  pub unruled : (s : Stop) → HasRules grammar old mid (Err s) → HasText {A = A} (Some (drill number grammar)) old mid (Err s)
  unruled s h = record {
    text = tt;
    all = tt;
    before = record {
      cause = λ files are. read_cause (drill number grammar) kind.Grammar grammar files (IsUnderstood (file_content files grammar)) refl (λ s h. inl h) old.shelf_faults mid.shelf_faults s (h.tests files are) h.end grammar_is_no_script;
      end = read_end kind.Grammar old.shelf_faults mid.shelf_faults s h.end grammar_is_no_script;
      built = subst (λ n. HasBuilt (cells_drilled number grammar) old.files old.built n s) (sym (same_built number grammar old mid h.reads)) (early_drilled _ _ _ old.built s (early_end number grammar old mid s h.end));
      strays = same_strays number grammar old mid h.strays;
      rises = (omega (arith, same_built number grammar old mid h.reads), omega (arith, ap (λ (l : Lent S O E). l.multiplied) h.reads));
      no_cells = λ e. absurd (some_cells number grammar e);
      alone = counted_alone old mid mid h.reads refl;
    };
  }

  module _ (g : Grammar) (h : HasRules grammar old mid (Ok g)) where
    -- there is not enough memory for the piece
    pub unmade : (s : Stop) → s ≡ stop.Memory → HasText {A = A} (Some (drill number grammar)) old mid (Err s)
    unmade s is = subst (λ (x : Stop). HasText {A = A} (Some (drill number grammar)) old mid (Err x)) (sym is) (record {
      text = tt;
      all = tt;
      before = record {
        cause = λ files are. inr tt;
        end = tt;
        built = inl (same_built number grammar old mid h.reads);
        strays = same_strays number grammar old mid h.strays;
        rises = (omega (arith, same_built number grammar old mid h.reads), omega (arith, ap (λ (l : Lent S O E). l.multiplied) h.reads));
        no_cells = λ e. absurd (some_cells number grammar e);
        alone = counted_alone old mid mid h.reads refl;
      };
    })

    -- the piece is drilled
    pub drill_had : (p : Performance) (new : Lent S O E) (r : Result (Vec ℕ A) Stop) → IsPieceOf number p → Follows (IsDrilling g number p) (said_of r) → IfErr r IsOfContent
        → IfOk r (λ text. HasDrilled g number p (Ok text.items) (risen mid.built (cells_of p)) new.built)
        → IfErr r (MatchDrilled (new.built ≡ risen mid.built (cells_of p)) (λ line. HasDrilled g number p (Err line) (risen mid.built (cells_of p)) new.built)
        (AreSomeDrilled g number p mid.built new.built) (new.built ≡ mid.built)) → mid.built ≤ new.built → mid.multiplied ≤ new.multiplied → CountsAlone mid new
        → HasText (Some (drill number grammar)) old new r
    drill_had p new r piece tests content all built rises multiplies counts =
        let follow = said_follow old.files (drill number grammar) r (λ files are. drill_follows old.files number grammar g p h.tests piece files are (said_of r) tests) in
        record {
          text = stage_ready old.files (drill number grammar) (λ v. say v.items) r follow;
          all = subst (λ n. OnOk r (ForSome old.files (λ files. HasBuiltAll (cells_drilled number grammar) files n new.built))) (same_built number grammar old mid h.reads)
              (all_drilled old.files number grammar g p h.tests piece mid.built new.built r all);
          before = record {
            cause = stage_cause old.files (drill number grammar) (λ v. say v.items) r follow content;
            end = content_ends old.shelf_faults new.shelf_faults r content;
            built = subst (λ n. IfErr r (HasBuilt (cells_drilled number grammar) old.files n new.built)) (same_built number grammar old mid h.reads)
                (piece_built old.files number grammar g p h.tests piece mid.built new.built r built);
            strays = λ files are names. ap (λ (l : Lent S O E). l.strays) counts ∙ same_strays number grammar old mid h.strays files are names;
            rises = (omega (arith, rises, same_built number grammar old mid h.reads), omega (arith, multiplies, ap (λ (l : Lent S O E). l.multiplied) h.reads));
            no_cells = λ e. absurd (some_cells number grammar e);
            alone = counted_alone old mid new h.reads counts;
          };
        }

-- ---- the counter of builds does not fall

pub drilled_rises : (g : Grammar) (number : ℕ) (p : Performance) (said : Result (List ℕ) ℕ) (old new : ℕ) → HasDrilled g number p said old new → old ≤ new
drilled_rises g number p said old new (last, besides, to, summary, rise) = omega (arith, rise)

pub drill_rises : {A : Type 0} (g : Grammar) (number : ℕ) (p : Performance) (r : Result (Vec ℕ A) DrillStop) (old new : ℕ)
    → IfOk r (λ text. HasDrilled g number p (Ok text.items) old new)
    → ((line : ℕ) → r ≡ Err (drilling.ScoreTooLong line) → HasDrilled g number p (Err line) old new)
    → (r ≡ Err drilling.Memory → IsDrillBrokenOff g number p old new) → old ≤ new
drill_rises g number p (Ok text) old new said long broken = drilled_rises g number p (Ok text.items) old new said
drill_rises g number p (Err (drilling.ScoreTooLong line)) old new said long broken = drilled_rises g number p (Err line) old new (long line refl)
drill_rises g number p (Err drilling.Memory) old new said long broken = omega (arith, (broken refl).rises)
