-- What the stages of a command come to together.
use Rattle.std.proofs.Common.{◌≡◌, ◌≢◌, ◌≤◌, ◌⊎◌, ◌∷◌, [], ℕ, List, Vec, arith, inl, inr, refl, sym, subst, IfErr, IfOk, OnOk, Option, Some, None, Result, Ok, Err}
use Rattle.std.specs.Option.{ForSome}
use Rattle.std.specs.Prelude.{IsOk}
use Rattle.rhythm_app.proofs.InTurn.{next_follows, stop_follows}
use Rattle.rhythm_app.proofs.Performing.{failure_of, grammar_is_no_script, midi_is_no_script, read_fails, script_file_is_no_script}
use Rattle.rhythm_app.specs.Asked.{Asked}
use Rattle.rhythm_app.specs.Builds.{MatchBuilds, MatchInputs}
use Rattle.rhythm_app.specs.Commands.{HasOutcomeOf, Named, command, input_files, named, script_file}
use Rattle.rhythm_app.specs.Ends.{ComesTo, IsCauseOf, IsReadFailure}
use Rattle.rhythm_app.specs.Inputs.{Inputs, file_content}
use Rattle.rhythm_app.specs.Outcome.{AreInTurn, AreInputs, AreFilesRead, AreLoaded, IsPlaying, IsRead, IsScriptRead, IsUnderstood, Loaded, Ready, grammar_tests, loaded, midi_tests, say}
use Rattle.rhythm_app.specs.Scripted.{Opened}
use Rattle.rhythm_app.specs.Stages.{EndsBy, Follows, IsFailure, IsLoadStop, IsOfContent, IsOfWriting, said_of}
use Rattle.rhythm_app.specs.declared.stop.Kind.TheVariants as kind
use Rattle.rhythm_app.specs.declared.stop.Stop.{Stop}
use Rattle.rhythm_app.specs.declared.stop.Stop.TheVariants as stop
use Rattle.rhythm_base.specs.Counter.{risen}
use Rattle.rhythm_base.specs.Grammar.{Grammar}
use Rattle.rhythm_base.specs.Performance.{Performance}
use Rattle.rhythm_base.specs.declared.edit_fault.EditFault.{EditFault}
use Rattle.rhythm_ports.specs.Files.{File}
use Rattle.smf_reader.specs.Played.{Smf}
use Rattle.kern_writer.proofs.ReadBars.{on_ok}

-- ---- stops

-- where the files hold no reason, memory was wanted
content_read : (reads : List Named) (files : List File) (s : Stop) → IsFailure s → IsOfContent s → IsReadFailure reads files s
content_read reads files stop.Usage failed content = absurd content
content_read reads files (stop.FileTooLong k n) failed content = absurd failed
content_read reads files (stop.LineTooLong n) failed content = absurd failed
content_read reads files (stop.Smf e) failed content = absurd failed
content_read reads files (stop.Grammar e) failed content = absurd failed
content_read reads files (stop.Kern e) failed content = absurd failed
content_read reads files stop.NoNotes failed content = absurd failed
content_read reads files (stop.TooManyNotes n) failed content = absurd failed
content_read reads files (stop.BadSignature m n) failed content = absurd failed
content_read reads files (stop.UnevenBar l m n) failed content = absurd failed
content_read reads files (stop.TooManyBars n) failed content = absurd failed
content_read reads files (stop.TooManyCells n) failed content = absurd failed
content_read reads files (stop.NoStart l m n) failed content = absurd failed
content_read reads files (stop.Unprepared e) failed content = absurd failed
content_read reads files (stop.NoDerivation m n) failed content = absurd failed
content_read reads files (stop.ScoreTooLong n) failed content = absurd failed
content_read reads files (stop.RenderTooLong n) failed content = absurd failed
content_read reads files (stop.InFile m s) failed content = absurd content
content_read reads files (stop.TooManyFiles n) failed content = absurd content
content_read reads files (stop.TooManyCandidates n) failed content = absurd failed
content_read reads files (stop.NoBarline n) failed content = absurd failed
content_read reads files stop.NoCandidate failed content = absurd failed
content_read reads files (stop.ScriptLine row why) failed content = absurd failed
content_read reads files (stop.Read k) failed content = absurd content
content_read reads files stop.Write failed content = absurd content
content_read reads files stop.Memory failed content = tt

pub stop_cause : (asked : Asked) (files : List File) (s : Stop) → Follows (HasOutcomeOf (Some asked) files) (Err s) → IsOfContent s → IsCauseOf (Some asked) files s
stop_cause asked files s (inl outcome) content = inl outcome
stop_cause asked files s (inr failed) content = inr (failure_of asked files s (content_read (command asked).reads files s failed content))

-- what is known of the cells by the stop gives what follows from it
match_more : {A B C D E F : Type 0} → (A → D) → (B → E) → (C → F) → (s : Stop) → MatchBuilds A B C s → MatchBuilds D E F s
match_more a b d stop.Usage h = d h
match_more a b d (stop.FileTooLong kind.Midi n) h = d h
match_more a b d (stop.FileTooLong kind.Grammar n) h = d h
match_more a b d (stop.FileTooLong kind.Kern n) h = d h
match_more a b d (stop.FileTooLong kind.ScriptFile n) h = d h
match_more a b d (stop.FileTooLong kind.Script n) h = tt
match_more a b d (stop.LineTooLong n) h = tt
match_more a b d (stop.Smf e) h = d h
match_more a b d (stop.Grammar e) h = d h
match_more a b d (stop.Kern e) h = d h
match_more a b d stop.NoNotes h = d h
match_more a b d (stop.TooManyNotes n) h = d h
match_more a b d (stop.BadSignature m n) h = d h
match_more a b d (stop.UnevenBar l m n) h = d h
match_more a b d (stop.TooManyBars n) h = d h
match_more a b d (stop.TooManyCells n) h = d h
match_more a b d (stop.NoStart l m n) h = d h
match_more a b d (stop.Unprepared e) h = d h
match_more a b d (stop.NoDerivation m n) h = a h
match_more a b d (stop.ScoreTooLong n) h = a h
match_more a b d (stop.RenderTooLong n) h = a h
match_more a b d (stop.InFile m s) h = d h
match_more a b d (stop.TooManyFiles n) h = d h
match_more a b d (stop.TooManyCandidates n) h = d h
match_more a b d (stop.NoBarline n) h = d h
match_more a b d stop.NoCandidate h = d h
match_more a b d (stop.ScriptLine row why) h = d h
match_more a b d (stop.Read kind.Midi) h = d h
match_more a b d (stop.Read kind.Grammar) h = d h
match_more a b d (stop.Read kind.Kern) h = d h
match_more a b d (stop.Read kind.ScriptFile) h = d h
match_more a b d (stop.Read kind.Script) h = tt
match_more a b d stop.Write h = tt
match_more a b d stop.Memory h = b h

pub built_more : {T A B C D E F : Type 0} → (r : Result T Stop) → (A → D) → (B → E) → (C → F) → IfErr r (MatchBuilds A B C) → IfErr r (MatchBuilds D E F)
built_more (Ok x) a b d h = tt
built_more (Err s) a b d h = match_more a b d s h

pub all_more : {T E A B : Type 0} → (r : Result T E) → (A → B) → OnOk r A → OnOk r B
all_more (Ok x) a h = a h
all_more (Err e) a h = tt

pub no_failure : {T : Type 0} (outcome : Result T Stop → Type 0) (x : T) → Follows outcome (Ok x) → outcome (Ok x)
no_failure outcome x (inl h) = h
no_failure outcome x (inr failed) = absurd failed

-- ---- the inputs

module _ (i : Inputs) (files : List File) where
  -- the MIDI file is not had
  pub unread_midi : (before now : ℕ) (s : Stop) → Follows (IsRead (file_content files i.midi)) (Err s) → EndsBy kind.Midi before now s → IsLoadStop i files s
  unread_midi before now s (inl h) end = inl (inl h)
  unread_midi before now s (inr failed) end = inr (read_fails kind.Midi (input_files i) files before now midi_is_no_script (inl (refl, refl)) s failed end)

  module _ (f : Smf) where
    passes : IsRead (file_content files i.midi) (Ok f) → IsOk (midi_tests (file_content files i.midi))
    passes read = subst (λ (r : Result Smf Stop). IsOk r) (sym read) refl

    -- it is, and the grammar file is not
    pub unread_grammar : (before now : ℕ) (s : Stop) → Follows (IsRead (file_content files i.midi)) (Ok f) → Follows (IsUnderstood (file_content files i.grammar)) (Err s)
        → EndsBy kind.Grammar before now s → IsLoadStop i files s
    unread_grammar before now s (inl read) (inl h) end = inl (inr (f, read, inl h))
    unread_grammar before now s (inl read) (inr failed) end =
        inr (read_fails kind.Grammar (input_files i) files before now grammar_is_no_script (inr (passes read, inl (refl, refl))) s failed end)
    unread_grammar before now s (inr failed) h end = absurd failed

    module _ (g : Grammar) where
      understands : IsUnderstood (file_content files i.grammar) (Ok g) → IsOk (grammar_tests (file_content files i.grammar))
      understands understood = subst (λ (r : Result Grammar Stop). IsOk r) (sym understood) refl

      -- they are, and the script file is not
      pub unread_script : (before now : ℕ) (s : Stop) → i.script ≢ None → Follows (IsRead (file_content files i.midi)) (Ok f) → Follows (IsUnderstood (file_content files i.grammar)) (Ok g)
          → Follows (IsScriptRead i.script files) (Err s) → EndsBy kind.ScriptFile before now s → IsLoadStop i files s
      unread_script before now s there (inr failed) understood h end = absurd failed
      unread_script before now s there (inl read) (inr failed) h end = absurd failed
      unread_script before now s there (inl read) (inl understood) (inl h) end = inl (inr (f, read, inr (g, understood, inl h)))
      unread_script before now s there (inl read) (inl understood) (inr failed) end =
          inr (read_fails kind.ScriptFile (input_files i) files before now script_file_is_no_script (inr (passes read, inr (understands understood, come_to i.script there))) s failed end)
        where
          come_to : (name : Option (List ℕ)) → name ≢ None → ComesTo files kind.ScriptFile (script_file name)
          come_to None there = absurd (there refl)
          come_to (Some name) there = inl (refl, refl)

      pub unfound_follows : (s : Stop) → Follows (IsRead (file_content files i.midi)) (Ok f) → Follows (IsUnderstood (file_content files i.grammar)) (Ok g)
          → Follows (IsScriptRead i.script files) (Err s) → Follows (AreLoaded i files) (Err s)
      unfound_follows s read understood h =
          next_follows (IsRead (file_content files i.midi))
          (λ f. AreInTurn (IsUnderstood (file_content files i.grammar)) (λ g. AreInTurn (IsScriptRead i.script files) (λ script. AreInTurn (IsPlaying i.options f) (λ p s. s ≡ Ok (loaded g p script))))) f (Err s) read
          (next_follows (IsUnderstood (file_content files i.grammar)) (λ g. AreInTurn (IsScriptRead i.script files) (λ script. AreInTurn (IsPlaying i.options f) (λ p s. s ≡ Ok (loaded g p script)))) g (Err s) understood
          (stop_follows (IsScriptRead i.script files) (λ script. AreInTurn (IsPlaying i.options f) (λ p s. s ≡ Ok (loaded g p script))) s h))

      module _ (script : List ℕ) (read : Follows (IsRead (file_content files i.midi)) (Ok f)) (understood : Follows (IsUnderstood (file_content files i.grammar)) (Ok g))
          (found : Follows (IsScriptRead i.script files) (Ok script)) where
        loading_follows : (r : Result Loaded Stop) → Follows (AreInTurn (IsPlaying i.options f) (λ p s. s ≡ Ok (loaded g p script))) r → Follows (AreLoaded i files) r
        loading_follows r h =
            next_follows (IsRead (file_content files i.midi))
            (λ f. AreInTurn (IsUnderstood (file_content files i.grammar)) (λ g. AreInTurn (IsScriptRead i.script files) (λ script. AreInTurn (IsPlaying i.options f) (λ p s. s ≡ Ok (loaded g p script))))) f r read
            (next_follows (IsUnderstood (file_content files i.grammar)) (λ g. AreInTurn (IsScriptRead i.script files) (λ script. AreInTurn (IsPlaying i.options f) (λ p s. s ≡ Ok (loaded g p script)))) g r understood
            (next_follows (IsScriptRead i.script files) (λ script. AreInTurn (IsPlaying i.options f) (λ p s. s ≡ Ok (loaded g p script))) script r found h))

        -- the performance could not be loaded
        pub unloaded_follows : (s : Stop) → Follows (IsPlaying i.options f) (Err s) → Follows (AreLoaded i files) (Err s)
        unloaded_follows s h = loading_follows (Err s) (stop_follows (IsPlaying i.options f) (λ p s. s ≡ Ok (loaded g p script)) s h)

        -- it was
        pub loaded_follows : (p : Performance) → Follows (IsPlaying i.options f) (Ok p) → Follows (AreLoaded i files) (Ok (loaded g p script))
        loaded_follows p h = loading_follows (Ok (loaded g p script)) (next_follows (IsPlaying i.options f) (λ p s. s ≡ Ok (loaded g p script)) p (Ok (loaded g p script)) h (inl refl))

  pub inputs_cause : (s : Stop) → Follows (AreLoaded i files) (Err s) → IsOfContent s → IsLoadStop i files s
  inputs_cause s (inl are) content = inl are
  inputs_cause s (inr failed) content = inr (content_read (input_files i) files s failed content)

-- ---- a command on its inputs

module _ (asked : Asked) (i : Inputs) (files : List File) (last : Grammar → Performance → Result Ready Stop → Type 0) (reads : (command asked).reads ≡ input_files i)
    (outcome : (r : Result Ready Stop) → AreFilesRead i files last r → HasOutcomeOf (Some asked) files r) where
  -- the inputs are not had
  pub inputs_stop : (s : Stop) → AreInputs i files (Err s) ⊎ IsReadFailure (input_files i) files s → IsCauseOf (Some asked) files s
  inputs_stop s (inl are) = inl (outcome (Err s) (inl are))
  inputs_stop s (inr failed) = inr (failure_of asked files s (subst (λ (n : List Named). IsReadFailure n files s) (sym reads) failed))

  -- they are
  pub then_follows : (o : Opened) → AreInputs i files (Ok o) → (r : Result Ready Stop) → Follows (last o.grammar o.performance) r → Follows (HasOutcomeOf (Some asked) files) r
  then_follows o are r h =
      elim (next_follows (AreInputs i files) (λ x. last x.grammar x.performance) o r (inl are) h) [ inl it ↦ inl (outcome r it) | inr failed ↦ inr failed ]

-- ---- a stage and what it is ready for

module _ {T : Type 0} (fs : Option (List File)) (asked : Asked) (ready : T → Ready) where
  abbrev pub Follow : Result T Stop → Type 0
  Follow (Ok x) = (files : List File) → fs ≡ Some files → Follows (HasOutcomeOf (Some asked) files) (Ok (ready x))
  Follow (Err s) = (files : List File) → fs ≡ Some files → Follows (HasOutcomeOf (Some asked) files) (Err s)

  pub stage_ready : (r : Result T Stop) → Follow r → IfOk r (λ x. ForSome fs (λ files. HasOutcomeOf (Some asked) files (Ok (ready x))))
  stage_ready (Ok x) h = λ files are. no_failure (HasOutcomeOf (Some asked) files) (ready x) (h files are)
  stage_ready (Err s) h = tt

  pub stage_cause : (r : Result T Stop) → Follow r → IfErr r IsOfContent → IfErr r (λ s. ForSome fs (λ files. IsCauseOf (Some asked) files s))
  stage_cause (Ok x) h content = tt
  stage_cause (Err s) h content = λ files are. stop_cause asked files s (h files are) content

-- a text that is ready
pub said_follow : {A : Type 0} (fs : Option (List File)) (asked : Asked) (r : Result (Vec ℕ A) Stop)
    → ((files : List File) → fs ≡ Some files → Follows (HasOutcomeOf (Some asked) files) (said_of r)) → Follow fs asked (λ v. say v.items) r
said_follow fs asked (Ok x) h = h
said_follow fs asked (Err s) h = h

-- ---- what is written of a session that is open

writing_content : (s : Stop) → IsOfWriting s → IsOfContent s
writing_content (stop.ScoreTooLong n) end = tt
writing_content (stop.RenderTooLong n) end = tt
writing_content (stop.InFile m s) end = absurd end
writing_content (stop.TooManyFiles n) end = absurd end
writing_content (stop.TooManyCandidates n) end = absurd end
writing_content (stop.NoBarline n) end = absurd end
writing_content stop.NoCandidate end = absurd end
writing_content (stop.ScriptLine row why) end = absurd end
writing_content stop.Memory end = tt
writing_content stop.Usage end = absurd end
writing_content (stop.FileTooLong k n) end = absurd end
writing_content (stop.LineTooLong n) end = absurd end
writing_content (stop.Smf e) end = tt
writing_content (stop.Grammar e) end = tt
writing_content (stop.Kern e) end = tt
writing_content stop.NoNotes end = tt
writing_content (stop.TooManyNotes n) end = tt
writing_content (stop.BadSignature m n) end = tt
writing_content (stop.UnevenBar l m n) end = tt
writing_content (stop.TooManyBars n) end = tt
writing_content (stop.TooManyCells n) end = tt
writing_content (stop.NoStart l m n) end = tt
writing_content (stop.Unprepared e) end = tt
writing_content (stop.NoDerivation m n) end = tt
writing_content (stop.Read k) end = absurd end
writing_content stop.Write end = absurd end

pub of_content : {T : Type 0} (r : Result T Stop) → IfErr r IsOfWriting → IfErr r IsOfContent
of_content (Ok x) end = tt
of_content (Err s) end = writing_content s end

-- all cells are built by then
pub writing_inputs : (L A B N : Type 0) (R : ℕ → Option EditFault → Type 0) (s : Stop) → IsOfWriting s → A → B → MatchInputs L R A B N s
writing_inputs L A B N R (stop.ScoreTooLong n) end all some = all
writing_inputs L A B N R (stop.RenderTooLong n) end all some = all
writing_inputs L A B N R (stop.InFile m s) end all some = absurd end
writing_inputs L A B N R (stop.TooManyFiles n) end all some = absurd end
writing_inputs L A B N R (stop.TooManyCandidates n) end all some = absurd end
writing_inputs L A B N R (stop.NoBarline n) end all some = absurd end
writing_inputs L A B N R stop.NoCandidate end all some = absurd end
writing_inputs L A B N R (stop.ScriptLine row why) end all some = absurd end
writing_inputs L A B N R stop.Memory end all some = some
writing_inputs L A B N R stop.Usage end all some = absurd end
writing_inputs L A B N R (stop.FileTooLong k n) end all some = absurd end
writing_inputs L A B N R (stop.LineTooLong n) end all some = absurd end
writing_inputs L A B N R (stop.Smf e) end all some = absurd end
writing_inputs L A B N R (stop.Grammar e) end all some = absurd end
writing_inputs L A B N R (stop.Kern e) end all some = absurd end
writing_inputs L A B N R stop.NoNotes end all some = absurd end
writing_inputs L A B N R (stop.TooManyNotes n) end all some = absurd end
writing_inputs L A B N R (stop.BadSignature m n) end all some = absurd end
writing_inputs L A B N R (stop.UnevenBar l m n) end all some = absurd end
writing_inputs L A B N R (stop.TooManyBars n) end all some = absurd end
writing_inputs L A B N R (stop.TooManyCells n) end all some = absurd end
writing_inputs L A B N R (stop.NoStart l m n) end all some = absurd end
writing_inputs L A B N R (stop.Unprepared e) end all some = absurd end
writing_inputs L A B N R (stop.NoDerivation m n) end all some = absurd end
writing_inputs L A B N R (stop.Read k) end all some = absurd end
writing_inputs L A B N R stop.Write end all some = absurd end
