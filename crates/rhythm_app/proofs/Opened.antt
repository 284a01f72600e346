-- A command on inputs, by its stages: a session is opened on what they say, after the edits of their script file, and the command goes on from it.
use Rattle.std.proofs.Common.{◌≡◌, ◌≢◌, ◌≤◌, ◌∙◌, ℕ, List, Vec, arith, ap, inl, inr, refl, sym, subst, IfErr, IfOk, OnOk, Option, Some, Result, Ok, Err}
use Rattle.std.specs.Option.{ForSome}
use Rattle.edit_session.specs.Session.{Session}
use Rattle.rhythm_app.specs.Asked.{Asked}
use Rattle.rhythm_app.specs.Builds.{AreInputsBuilt, ArePartlyBuilt, ForInputs, HasBuilt, HasBuiltAll, OfInputs, OfLoaded}
use Rattle.rhythm_app.specs.Commands.{HasNames, HasOutcomeOf, HaveNames, Named, cells_in, command, input_files, no_cells}
use Rattle.rhythm_app.specs.Ends.{IsCauseOf}
use Rattle.rhythm_app.specs.Inputs.{Inputs}
use Rattle.rhythm_app.specs.Lent.{Lent}
use Rattle.rhythm_app.specs.Outcome.{AreFilesRead, AreInputs, Ready, say}
use Rattle.rhythm_app.specs.Scripted.{Opened}
use Rattle.rhythm_app.specs.Stages.{CountsUp, Follows, HasOpened, HasText, IsStoppedBefore, IsOfContent, IsOfWriting, ReadsAlone, ReadsShelf, StandsOn, said_of}
use Rattle.rhythm_app.specs.declared.stop.Stop.{Stop}
use Rattle.rhythm_app.proofs.Performing.{content_ends}
use Rattle.rhythm_app.proofs.Sessions.{inputs_stop, said_follow, stage_cause, stage_ready, then_follows, writing_inputs}
use Rattle.rhythm_app.proofs.Unopened.{inputs_partly, unopened_inputs}
use Rattle.rhythm_base.specs.Counter.{risen}
use Rattle.rhythm_base.specs.Grammar.{Grammar}
use Rattle.rhythm_base.specs.Performance.{Performance}
use Rattle.rhythm_ports.specs.Files.{File}

-- the reading of files builds nothing
pub same_built : {S O E : Type 0} (old mid : Lent S O E) → ReadsShelf old mid → mid.built ≡ old.built
same_built {S} {O} {E} old mid alone = ap (λ (l : Lent S O E). l.built) alone

-- the shelf was read and the counters raised, and then raised again
pub counted_more : {S O E : Type 0} (old mid new : Lent S O E) → ReadsAlone old mid → new ≡ record mid { built = new.built; multiplied = new.multiplied } → ReadsAlone old new
counted_more {S} {O} {E} old mid new alone counts =
    let strays = sym (ap (λ (l : Lent S O E). l.strays) counts) in
    let faults = sym (ap (λ (l : Lent S O E). l.shelf_faults) counts) in
    counts ∙ ap (λ (l : Lent S O E). record l { built = new.built; multiplied = new.multiplied }) alone
    ∙ (λ i. record old { strays = strays i; shelf_faults = faults i; built = new.built; multiplied = new.multiplied })

-- what holds of the session holds of what the inputs say
pub by_session : (s : Session) (o : Opened) → StandsOn s o → (P : Grammar → Performance → Type 0) → P s.grammar s.performance → P o.grammar o.performance
by_session s o stands P h = subst (λ (p : Performance). P o.grammar p) stands.1 (subst (λ (g : Grammar). P g s.performance) stands.0 h)

module _ {S O E : Type 0} (asked : Asked) (i : Inputs) (last : Grammar → Performance → Result Ready Stop → Type 0) (reads : (command asked).reads ≡ input_files i)
    (outcome : (files : List File) (r : Result Ready Stop) → AreFilesRead i files last r → HasOutcomeOf (Some asked) files r)
    (some : (command asked).cells ≢ no_cells) (old mid : Lent S O E) where
  same_strays : ForSome old.files (λ files. HaveNames files (input_files i) → mid.strays ≡ old.strays)
      → ForSome old.files (λ files. HasNames files (Some asked) → mid.strays ≡ old.strays)
  same_strays strays files are names = strays files are (subst (λ (n : List Named). HaveNames files n) reads names)

  -- no session is had
  pub unopened_before : {T : Type 0} (s : Stop) → HasOpened i old mid (Err s) → HasBuilt (command asked).cells old.files old.built mid.built s
      → IsStoppedBefore (Some asked) old mid {T = T} (Err s)
  unopened_before s had built = record {
    cause = λ files are. inputs_stop asked i files last reads (outcome files) s (had.cause files are);
    end = had.end;
    built = built;
    strays = same_strays had.strays;
    rises = had.rises;
    no_cells = λ e. absurd (some e);
    alone = had.alone;
  }

  pub unopened_text : {A : Type 0} (s : Stop) → HasOpened i old mid (Err s) → HasBuilt (command asked).cells old.files old.built mid.built s
      → HasText {A = A} (Some asked) old mid (Err s)
  unopened_text s had built = record { text = tt; all = tt; before = unopened_before s had built }

  module _ (new : Lent S O E) (s : Session) (had : HasOpened i old mid (Ok s)) (counts : CountsUp mid new) where
    -- what the command comes to over it is the outcome
    pub then_had : (r : Result Ready Stop) → Follows (last s.grammar s.performance) r → ForSome old.files (λ files. Follows (HasOutcomeOf (Some asked) files) r)
    then_had r h files are = go (had.had files are)
      where
        go : ForInputs i files (λ o. StandsOn s o × (mid.built ≡ risen old.built o.built)) → Follows (HasOutcomeOf (Some asked) files) r
        go (o, inputs, (stands, built)) =
            then_follows asked i files last reads (outcome files) o inputs r (by_session s o stands (λ g p. Follows (last g p) r) h)

    pub opened_before : {T : Type 0} (r : Result T Stop) → IfErr r (λ stop. ForSome old.files (λ files. IsCauseOf (Some asked) files stop)) → IfErr r IsOfContent
        → IfErr r (HasBuilt (command asked).cells old.files old.built new.built) → IsStoppedBefore (Some asked) old new r
    opened_before r cause content built = record {
      cause = cause;
      end = content_ends old.shelf_faults new.shelf_faults r content;
      built = built;
      strays = λ files are names. ap (λ (l : Lent S O E). l.strays) counts.0 ∙ same_strays had.strays files are names;
      rises = (omega (arith, counts.1.0, had.rises.0), omega (arith, counts.1.1, had.rises.1));
      no_cells = λ e. absurd (some e);
      alone = counted_more old mid new had.alone counts.0;
    }

    -- the text is had
    pub text_had : {A : Type 0} (r : Result (Vec ℕ A) Stop) → Follows (last s.grammar s.performance) (said_of r) → IfErr r IsOfContent
        → IfOk r (λ _. ForSome old.files (λ files. HasBuiltAll (command asked).cells files old.built new.built))
        → IfErr r (HasBuilt (command asked).cells old.files old.built new.built) → HasText (Some asked) old new r
    text_had r tests content all built =
        let said = said_follow old.files asked r (then_had (said_of r) tests) in
        record {
          text = stage_ready old.files asked (λ v. say v.items) r said;
          all = all;
          before = opened_before r (stage_cause old.files asked (λ v. say v.items) r said content) content built;
        }

-- ---- the cells of the inputs

pub some_in : (i : Inputs) → cells_in i ≢ no_cells
some_in i e = cc

module _ {S O E : Type 0} (i : Inputs) (old mid : Lent S O E) (s : Session) (had : HasOpened i old mid (Ok s)) where
  -- what is known of the cells after those of the session is known of what the inputs say
  pub of_session : (P : ℕ → Grammar → Performance → Type 0) → P mid.built s.grammar s.performance → OfInputs i old.files (λ o. P (risen old.built o.built) o.grammar o.performance)
  of_session P h files are = go (had.had files are)
    where
      go : ForInputs i files (λ o. StandsOn s o × (mid.built ≡ risen old.built o.built)) → ForInputs i files (λ o. P (risen old.built o.built) o.grammar o.performance)
      go (o, inputs, (stands, built)) = (o, inputs, by_session s o stands (P (risen old.built o.built)) (subst (λ n. P n s.grammar s.performance) built h))

  -- all are built
  pub opened_all : OfInputs i old.files (AreInputsBuilt old.built mid.built)
  opened_all files are = go (had.had files are)
    where
      go : ForInputs i files (λ o. StandsOn s o × (mid.built ≡ risen old.built o.built)) → ForInputs i files (AreInputsBuilt old.built mid.built)
      go (o, inputs, (stands, built)) = (o, inputs, built)

  -- and so some of them
  pub opened_partly : OfLoaded i old.files (ArePartlyBuilt old.built mid.built)
  opened_partly files are = inputs_partly i files old.built mid.built (opened_all files are)

  pub session_all : {T : Type 0} (r : Result T Stop) → IfOk r (λ _. ForSome old.files (λ files. HasBuiltAll (cells_in i) files old.built mid.built))
  session_all (Ok x) = opened_all
  session_all (Err e) = tt

  -- what is written of the session builds no more
  pub session_built : {T : Type 0} (r : Result T Stop) → IfErr r IsOfWriting → IfErr r (HasBuilt (cells_in i) old.files old.built mid.built)
  session_built (Ok x) end = tt
  session_built (Err e) end = writing_inputs _ _ _ _ _ e end opened_all (inr opened_partly)
