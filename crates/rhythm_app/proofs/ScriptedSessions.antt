-- A session is opened on what the files of inputs say, and the edits of the script are made over it.
use Rattle.std.proofs.Common.{◌≡◌, ◌≢◌, ◌≤◌, ◌⊎◌, ◌+◌, ◌∙◌, ℕ, List, [], ◌∷◌, Vec, get_or, arith, ap, inl, inr, refl, sym, subst, IfErr, IfOk, OnOk, Option, Some, Result, Ok, Err}
use Rattle.std.specs.Option.{ForSome}
use Rattle.std.proofs.lemmas.List.Elements.{Contains-get_or}
use Rattle.edit_laws.proofs.EditedCounts.{edited_cells, edited_starts}
use Rattle.edit_laws.specs.EditOutcomes.{IsMade}
use Rattle.edit_script.specs.ScriptLines.{script_lines}
use Rattle.edit_session.specs.Opening.{CanOpen, cells_of}
use Rattle.edit_session.specs.Session.{Session}
use Rattle.edit_session.specs.declared.open_fault.OpenFault.TheVariants as opening
use Rattle.performance_laws.proofs.OneVoices.{cost_has}
use Rattle.rhythm_app.proofs.Opened.{same_built}
use Rattle.rhythm_app.proofs.Performing.{content_ends, counted_alone}
use Rattle.rhythm_app.proofs.Scripting.{counts_on}
use Rattle.rhythm_app.proofs.Sessions.{no_failure}
use Rattle.rhythm_app.specs.Builds.{AreBuiltToLine, AreLoadedBuilt, ArePartlyBuilt, HasBuiltFor, OfInputs, OfLoaded}
use Rattle.rhythm_app.specs.Commands.{HaveNames, input_files}
use Rattle.rhythm_app.specs.Ends.{IsReadFailure}
use Rattle.rhythm_app.specs.Inputs.{Inputs}
use Rattle.rhythm_app.specs.Lent.{Lent}
use Rattle.rhythm_app.specs.Outcome.{AreInputs, AreLoaded, IsUnopened, Loaded, loaded, open_stop, refused_stop}
use Rattle.rhythm_app.specs.Scripted.{AreLinesMade, IsLineMade, MayHaveBuilt, Opened, Refused, edited_to, opened_on}
use Rattle.rhythm_app.specs.Stages.{CountsUp, Follows, HasEdited, HasLoaded, HasOpened, HasScripted, IsBuiltUnopened, IsEarly, IsLoadStop, IsOfContent, IsOpeningScripted, StandsOn, loaded_of, standing}
use Rattle.rhythm_app.specs.declared.stop.Stop.{Stop}
use Rattle.rhythm_app.specs.declared.stop.Stop.TheVariants as stop
use Rattle.rhythm_base.specs.Counter.{risen}
use Rattle.rhythm_base.specs.Grammar.{Grammar}
use Rattle.rhythm_base.specs.Performance.{Performance}
use Rattle.rhythm_ports.specs.Files.{File}

-- ---- the edits

pub same_opened : (a b : Opened) → ◌≡◌ {A = Result Opened Refused} (Ok a) (Ok b) → a ≡ b
same_opened a b e = cc

-- the grammar stays
made_grammar : (number : ℕ) (o last : Opened) (lines : List (List ℕ)) → AreLinesMade number o lines (Ok last) → last.grammar ≡ o.grammar
made_grammar number o last [] h = ap (λ (x : Opened). x.grammar) (same_opened last o h)
made_grammar number o last (line ∷ lines) (inl (fault, n, refused, e)) = absurd (cc)
made_grammar number o last (line ∷ lines) (inr (q, n, made, h)) = made_grammar (number + 1) (edited_to o q n) last lines h

-- and each voice has a derivation after them
line_open : (g : Grammar) (p q : Performance) (line : List ℕ) (n : ℕ) → CanOpen g p → IsLineMade g p line q n → CanOpen g q
line_open g p q line n can (edit, cost, says, (cells, is, count)) = record {
  cells = edited_cells p q edit is.made can.cells;
  starts = edited_starts g p q edit is.made can.starts;
  derivations = λ k d lt. cost_has g q q.channels cost (get_or q.channels k d) is.costs (Contains-get_or q.channels k d lt);
}

pub made_open : (number : ℕ) (o last : Opened) (lines : List (List ℕ)) → CanOpen o.grammar o.performance → AreLinesMade number o lines (Ok last) → CanOpen last.grammar last.performance
made_open number o last [] can h = subst (λ (x : Opened). CanOpen x.grammar x.performance) (sym (same_opened last o h)) can
made_open number o last (line ∷ lines) can (inl (fault, n, refused, e)) = absurd (cc)
made_open number o last (line ∷ lines) can (inr (q, n, made, h)) = made_open (number + 1) (edited_to o q n) last lines (line_open o.grammar o.performance q line n can made) h

-- ---- a session on what was loaded

module _ (g : Grammar) (p : Performance) (script : List ℕ) where
  abbrev what : Loaded
  what = loaded g p script

  -- the session that was opened stands on it
  begun : (s : Session) → s.grammar ≡ g → s.performance ≡ p → standing s (cells_of p) ≡ opened_on g p
  begun s grammar performance i = record { grammar = grammar i; performance = performance i; built = cells_of p }

  module _ {S O E : Type 0} (old mid new : Lent S O E) (opens : CountsUp old mid) where
    counts_more : CountsUp mid new → CountsUp old new
    counts_more = counts_on old mid new opens

    module _ (s t : Session) (grammar : s.grammar ≡ g) (performance : s.performance ≡ p) (can : CanOpen g p) (all : mid.built ≡ risen old.built (cells_of p)) (same : t.grammar ≡ s.grammar)
        (counts : CountsUp mid new) where
      from_start : {T : Type 0} (r : Result T Stop) → ((from n : ℕ) → mid.built ≡ risen from n → HasEdited (standing s n) (script_lines script) from new.built t.performance r)
          → HasEdited (opened_on g p) (script_lines script) old.built new.built t.performance r
      from_start r edited =
          subst (λ (o : Opened). HasEdited o (script_lines script) old.built new.built t.performance r) (begun s grammar performance) (edited old.built (cells_of p) all)

      -- all edits are made
      pub all_scripted : {T : Type 0} (x : T) → ((from n : ℕ) → mid.built ≡ risen from n → HasEdited (standing s n) (script_lines script) from new.built t.performance (Ok x))
          → HasScripted what old new (Ok t)
      all_scripted x edited = go (from_start (Ok x) edited)
        where
          go : HasEdited (opened_on g p) (script_lines script) old.built new.built t.performance (Ok x) → HasScripted what old new (Ok t)
          go (last, made, stands, built) =
              let grammar_is : t.grammar ≡ last.grammar = same ∙ grammar ∙ sym (made_grammar 1 (opened_on g p) last (script_lines script) made) in
              let opens_still = made_open 1 (opened_on g p) last (script_lines script) can made in
              record {
                had = (last, (opened_on g p, (can, refl), (Ok last, made, refl)), (grammar_is, stands), built);
                can = subst (λ (q : Performance). CanOpen t.grammar q) (sym stands) (subst (λ (h : Grammar). CanOpen h last.performance) (sym grammar_is) opens_still);
                cause = tt;
                content = tt;
                built = tt;
                counts = counts_more counts;
              }

      -- not all
      pub not_scripted : (T : Type 0) (e : Stop) → ((from n : ℕ) → mid.built ≡ risen from n → HasEdited {T = T} (standing s n) (script_lines script) from new.built t.performance (Err e))
          → HasScripted what old new (Err e)
      not_scripted T e edited = go (from_start {T = T} (Err e) edited)
        where
          go : HasEdited {T = T} (opened_on g p) (script_lines script) old.built new.built t.performance (Err e) → HasScripted what old new (Err e)
          go (inl (x, made, is, built)) = record {
            had = tt;
            can = tt;
            cause = inl (inr (opened_on g p, (can, refl), (Err x, made, ap (λ (y : Stop). Err y) is)));
            content = subst IsOfContent (sym is) tt;
            built = inr (inr (inl (x.line, x.fault, is, (x, made, refl, refl, built))));
            counts = counts_more counts;
          }
          go (inr (is, some)) = record {
            had = tt;
            can = tt;
            cause = inr is;
            content = subst IsOfContent (sym is) tt;
            built = inr (inr (inr (is, inr some)));
            counts = counts_more counts;
          }

  -- no session is opened
  module _ {S O E : Type 0} (old mid : Lent S O E) (opens : CountsUp old mid) where
    fault_built : (e : Stop) → IsUnopened g p e ⊎ (e ≡ stop.Memory) → HasBuiltFor p old.built mid.built e → IsBuiltUnopened (λ P. P what) old.built mid.built e
    fault_built e (inl (opening.Cells count, is, other, same)) h = inl (subst (λ (s : Stop). HasBuiltFor p old.built mid.built s → IsEarly s × (mid.built ≡ old.built)) (sym same) (λ h. (tt, h)) h)
    fault_built e (inl (opening.NoStart bar num den, is, other, same)) h = inl (subst (λ (s : Stop). HasBuiltFor p old.built mid.built s → IsEarly s × (mid.built ≡ old.built)) (sym same) (λ h. (tt, h)) h)
    fault_built e (inl (opening.NoDerivation channel bar, is, other, same)) h = inr (inl (channel, bar, same, subst (HasBuiltFor p old.built mid.built) same h))
    fault_built e (inl (opening.Memory, is, other, same)) h = absurd (other refl)
    fault_built e (inr same) h = inr (inr (inr (same, inl (subst (HasBuiltFor p old.built mid.built) same h))))

    pub not_opened : (e : Stop) → IsUnopened g p e ⊎ (e ≡ stop.Memory) → IsOfContent e → HasBuiltFor p old.built mid.built e → HasScripted what old mid (Err e)
    not_opened e unopened content built = record {
      had = tt;
      can = tt;
      cause = elim unopened [ inl it ↦ inl (inl it) | inr it ↦ inr it ];
      content = content;
      built = fault_built e unopened built;
      counts = opens;
    }

-- ---- a session on inputs

module _ {S O E A : Type 0} (i : Inputs) (old mid : Lent S O E) where
  -- the files are not had
  pub inputs_not_had : (e : Stop) → HasLoaded {A = A} i old mid (Err e) → HasOpened i old mid (Err e)
  inputs_not_had e had = record {
    had = tt;
    can = tt;
    cause = λ files are. elim (had.cause files are) [ inl it ↦ inl (inl it) | inr it ↦ inr it ];
    end = had.end;
    built = inl (had.early, same_built old mid had.reads);
    strays = had.strays;
    rises = (omega (arith, same_built old mid had.reads), omega (arith, ap (λ (l : Lent S O E). l.multiplied) had.reads));
    alone = counted_alone old mid mid had.reads refl;
  }

  module _ (new : Lent S O E) (g : Grammar) (p : Performance) (v : Vec ℕ A) (bytes : List ℕ) (are : bytes ≡ v.items) (had : HasLoaded i old mid (Ok (g, p, v))) where
    abbrev here : Loaded
    here = loaded g p v.items

    said : ForSome old.files (λ files. AreLoaded i files (Ok here))
    said files is = no_failure (AreLoaded i files) here (had.tests files is)

    of_said : (P : Loaded → Type 0) → P here → OfLoaded i old.files P
    of_said P h files is = (here, said files is, h)

    unopened_more : (e : Stop) → IsBuiltUnopened (λ P. P here) mid.built new.built e → IsBuiltUnopened (OfLoaded i old.files) old.built new.built e
    unopened_more e h = subst (λ n. IsBuiltUnopened (OfLoaded i old.files) n new.built e) (same_built old mid had.reads) (go h)
      where
        go : IsBuiltUnopened (λ P. P here) mid.built new.built e → IsBuiltUnopened (OfLoaded i old.files) mid.built new.built e
        go (inl it) = inl it
        go (inr (inl (channel, bar, is, it))) = inr (inl (channel, bar, is, of_said (AreLoadedBuilt mid.built new.built) it))
        go (inr (inr (inl (line, fault, is, it)))) = inr (inr (inl (line, fault, is, of_said (AreBuiltToLine line fault mid.built new.built) it)))
        go (inr (inr (inr (is, it)))) = inr (inr (inr (is, of_said (ArePartlyBuilt mid.built new.built) it)))

    pub scripted_inputs : (r : Result Session Stop) → HasScripted (loaded g p bytes) mid new r → HasOpened i old new r
    scripted_inputs r scripted = go r (subst (λ (b : List ℕ). HasScripted (loaded g p b) mid new r) are scripted)
      where
        same : mid.built ≡ old.built
        same = same_built old mid had.reads

        caused : (e : Stop) → IsOpeningScripted here (Err e) ⊎ (e ≡ stop.Memory) → (files : List File) → old.files ≡ Some files
            → AreInputs i files (Err e) ⊎ IsReadFailure (input_files i) files e
        caused e (inl it) files is = inl (inr (here, said files is, it))
        caused e (inr memory) files is = inr (subst (IsReadFailure (input_files i) files) (sym memory) tt)

        go : (r : Result Session Stop) → HasScripted here mid new r → HasOpened i old new r
        go (Ok s) h =
            let (o, comes, stands, built) = h.had in
            record {
              had = λ files is. (o, (here, said files is, comes), (stands, subst (λ n. new.built ≡ risen n o.built) same built));
              can = h.can;
              cause = tt;
              end = tt;
              built = tt;
              strays = λ files is names. ap (λ (l : Lent S O E). l.strays) h.counts.0 ∙ had.strays files is names;
              rises = (omega (arith, h.counts.1.0, same), omega (arith, h.counts.1.1, ap (λ (l : Lent S O E). l.multiplied) had.reads));
              alone = counted_alone old mid new had.reads h.counts.0;
            }
        go (Err e) h = record {
          had = tt;
          can = tt;
          cause = caused e h.cause;
          end = content_ends {T = Session} old.shelf_faults new.shelf_faults (Err e) h.content;
          built = unopened_more e h.built;
          strays = λ files is names. ap (λ (l : Lent S O E). l.strays) h.counts.0 ∙ had.strays files is names;
          rises = (omega (arith, h.counts.1.0, same), omega (arith, h.counts.1.1, ap (λ (l : Lent S O E). l.multiplied) had.reads));
          alone = counted_alone old mid new had.reads h.counts.0;
        }
