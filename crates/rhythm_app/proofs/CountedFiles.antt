-- What MIDI files come to that are counted one after another.
use Rattle.std.proofs.Common.{◌≡◌, ◌≢◌, ◌≤◌, ◌<◌, ◌+◌, ◌⊎◌, ◌∙◌, ◌∷◌, [], ◌++◌, ℕ, zero, suc, true, false, List, Vec, length, map, get_or, take, append-nil, ap, arith, inl, inr, refl, sym, subst, IfErr, IfOk, OnOk, Option, Some, None, IsSome, Result, Ok, Err}
use Rattle.std.specs.Option.{ForSome}
use Rattle.std.specs.Prelude.{◌-◌, drop, flat_map, option_map, slice_get}
use Rattle.std.proofs.lemmas.Grind.{flat_map-append}
use Rattle.std.proofs.lemmas.List.{take_all}
use Rattle.std.proofs.lemmas.List.Elements.{All-head, All-tail}
use Rattle.std.proofs.lemmas.List.Sums.{sum_by_push}
use Rattle.derivation.proofs.Pairs.{each_more}
use Rattle.edit_session.specs.Opening.{CanOpen, cells_of}
use Rattle.edit_session.specs.declared.open_fault.OpenFault.{OpenFault}
use Rattle.edit_session.specs.declared.open_fault.OpenFault.TheVariants as opening
use Rattle.grammar_file.specs.Printed.{printed}
use Rattle.note_list.specs.declared.fault.NoteFault.TheVariants as note
use Rattle.performance_load.specs.declared.load_fault.LoadFault.{LoadFault}
use Rattle.performance_load.specs.declared.load_fault.LoadFault.TheVariants as loading
use Rattle.rhythm_app.proofs.Asking.{nothing_counted}
use Rattle.rhythm_app.proofs.Opened.{same_built}
use Rattle.rhythm_app.proofs.Performing.{content_ends, counted_alone, failure_of, grammar_is_no_script, midi_is_no_script, read_end, read_fails}
use Rattle.rhythm_app.proofs.Reading.{ends_early}
use Rattle.rhythm_app.proofs.Scoring.{open_content}
use Rattle.rhythm_app.proofs.Sessions.{built_more, no_failure}
use Rattle.rhythm_app.proofs.Stops.{early_built}
use Rattle.rhythm_app.specs.Asked.{learn}
use Rattle.rhythm_app.specs.Builds.{HasBuilt, HasBuiltAll, MatchBuilds}
use Rattle.rhythm_app.specs.Commands.{HasNames, HasOutcomeOf, HaveNames, Named, cells_learned, named, no_cells, one_of_several}
use Rattle.rhythm_app.specs.Counting.{CountsAll, HasPerformance, IsFileBuilt, CountsFile, IsFileFailure, IsFilePartlyBuilt, IsMidiLoading, IsOfMidi, CountsPerformance, IsReadAndCounted, IsTextLearned}
use Rattle.rhythm_app.specs.Ends.{IsCauseOf}
use Rattle.rhythm_app.specs.Inputs.{file_content}
use Rattle.rhythm_app.specs.Learning.{AreAllListed, AreCellsBuilt, AreFirstBuilt, AreOfFile, AreOfFiles, AreSomeBuilt, HasCells, HasLearnedOf, HaveCells, IsLearning, in_file}
use Rattle.rhythm_app.specs.Lent.{Lent}
use Rattle.rhythm_app.specs.Outcome.{IsUnderstood, IsUnopened, load_stop, open_stop, say}
use Rattle.rhythm_app.specs.Stages.{CountsAlone, CountsUp, EndsReading, Follows, HasRules, HasText, IsEarly, IsFailure, IsOfContent, IsUnread, ReadsAlone, ReadsShelf}
use Rattle.rhythm_app.specs.declared.stop.Kind.TheVariants as kind
use Rattle.rhythm_app.specs.declared.stop.Stop.{Stop}
use Rattle.rhythm_app.specs.declared.stop.Stop.TheVariants as stop
use Rattle.rhythm_base.specs.Counter.{risen}
use Rattle.rhythm_base.specs.Grammar.{Grammar}
use Rattle.rhythm_base.specs.Performance.{Performance}
use Rattle.rhythm_base.specs.declared.bar_fault.BarFault.TheVariants as laying
use Rattle.rhythm_ports.specs.Causes.{Rose}
use Rattle.rhythm_ports.specs.Files.{File, file_of}
use Rattle.rule_counts.specs.Counts.{AreRuleCounts}
use Rattle.script_run.proofs.Hearings.{risen_more}
use Rattle.session_counts.proofs.Raising.{by_both, by_none}
use Rattle.session_counts.specs.Counting.{AreCountedIn, AreRaisedBy}
use Rattle.weight_learning.specs.Learned.{learned}

-- ---- stops by a MIDI file

none_some : false ≡ true → ⊥
none_some e = cc

pub unread_own : (s : Stop) → IsUnread kind.Midi s → IsOfMidi s
unread_own stop.Usage h = absurd h
unread_own (stop.FileTooLong kind.Midi i) h = refl
unread_own (stop.FileTooLong kind.Grammar i) h = absurd (cc)
unread_own (stop.FileTooLong kind.Kern i) h = absurd (cc)
unread_own (stop.FileTooLong kind.ScriptFile i) h = absurd (cc)
unread_own (stop.FileTooLong kind.Script i) h = absurd (cc)
unread_own (stop.LineTooLong i) h = absurd h
unread_own (stop.Smf e) h = absurd h
unread_own (stop.Grammar e) h = absurd h
unread_own (stop.Kern e) h = absurd h
unread_own stop.NoNotes h = absurd h
unread_own (stop.TooManyNotes i) h = absurd h
unread_own (stop.BadSignature i j) h = absurd h
unread_own (stop.UnevenBar i j k) h = absurd h
unread_own (stop.TooManyBars i) h = absurd h
unread_own (stop.TooManyCells i) h = absurd h
unread_own (stop.NoStart i j k) h = absurd h
unread_own (stop.NoDerivation i j) h = absurd h
unread_own (stop.ScoreTooLong i) h = absurd h
unread_own (stop.Unprepared e) h = absurd h
unread_own (stop.RenderTooLong i) h = absurd h
unread_own (stop.InFile i x) h = absurd h
unread_own (stop.TooManyFiles i) h = absurd h
unread_own (stop.TooManyCandidates i) h = absurd h
unread_own (stop.NoBarline i) h = absurd h
unread_own stop.NoCandidate h = absurd h
unread_own (stop.ScriptLine row why) h = absurd h
unread_own (stop.Read kind.Midi) h = refl
unread_own (stop.Read kind.Grammar) h = absurd (cc)
unread_own (stop.Read kind.Kern) h = absurd (cc)
unread_own (stop.Read kind.ScriptFile) h = absurd (cc)
unread_own (stop.Read kind.Script) h = absurd (cc)
unread_own stop.Write h = absurd h
unread_own stop.Memory h = tt

pub open_own : (fault : OpenFault) → IsOfMidi (open_stop fault)
open_own (opening.Cells count) = refl
open_own (opening.NoStart bar num den) = refl
open_own (opening.NoDerivation channel bar) = refl
open_own opening.Memory = tt

pub load_own : (fault : LoadFault) → IsOfMidi (load_stop fault)
load_own (loading.Notes note.NoNotes) = refl
load_own (loading.Notes (note.TooManyNotes count)) = refl
load_own (loading.Notes note.Memory) = tt
load_own (loading.Bars (laying.TooManyBars start)) = refl
load_own (loading.Bars (laying.BadSignature num dd)) = refl
load_own (loading.Bars (laying.UnevenBar bar num den)) = refl
load_own (loading.Bars laying.Memory) = tt
load_own loading.Memory = tt

unopened_own : (g : Grammar) (p : Performance) (s : Stop) → IsUnopened g p s ⊎ (s ≡ stop.Memory) → IsOfMidi s
unopened_own g p s (inl (fault, is, other, e)) = subst IsOfMidi (sym e) (open_own fault)
unopened_own g p s (inr e) = subst IsOfMidi (sym e) tt

unopened_content : (g : Grammar) (p : Performance) (s : Stop) → IsUnopened g p s ⊎ (s ≡ stop.Memory) → IsOfContent s
unopened_content g p s (inl (fault, is, other, e)) = subst IsOfContent (sym e) (open_content fault)
unopened_content g p s (inr e) = subst IsOfContent (sym e) tt

-- a failure is a failed read of the file, or want of memory
failed_midi : (s : Stop) → IsFailure s → IsOfMidi s → (s ≡ stop.Read kind.Midi) ⊎ (s ≡ stop.Memory)
failed_midi stop.Usage failed own = absurd failed
failed_midi (stop.FileTooLong kind.Midi i) failed own = absurd failed
failed_midi (stop.FileTooLong kind.Grammar i) failed own = absurd failed
failed_midi (stop.FileTooLong kind.Kern i) failed own = absurd failed
failed_midi (stop.FileTooLong kind.ScriptFile i) failed own = absurd failed
failed_midi (stop.FileTooLong kind.Script i) failed own = absurd failed
failed_midi (stop.LineTooLong i) failed own = absurd failed
failed_midi (stop.Smf e) failed own = absurd failed
failed_midi (stop.Grammar e) failed own = absurd failed
failed_midi (stop.Kern e) failed own = absurd failed
failed_midi stop.NoNotes failed own = absurd failed
failed_midi (stop.TooManyNotes i) failed own = absurd failed
failed_midi (stop.BadSignature i j) failed own = absurd failed
failed_midi (stop.UnevenBar i j k) failed own = absurd failed
failed_midi (stop.TooManyBars i) failed own = absurd failed
failed_midi (stop.TooManyCells i) failed own = absurd failed
failed_midi (stop.NoStart i j k) failed own = absurd failed
failed_midi (stop.NoDerivation i j) failed own = absurd failed
failed_midi (stop.ScoreTooLong i) failed own = absurd failed
failed_midi (stop.Unprepared e) failed own = absurd failed
failed_midi (stop.RenderTooLong i) failed own = absurd failed
failed_midi (stop.InFile i x) failed own = absurd (none_some own)
failed_midi (stop.TooManyFiles i) failed own = absurd failed
failed_midi (stop.TooManyCandidates i) failed own = absurd failed
failed_midi (stop.NoBarline i) failed own = absurd failed
failed_midi stop.NoCandidate failed own = absurd failed
failed_midi (stop.ScriptLine row why) failed own = absurd failed
failed_midi (stop.Read kind.Midi) failed own = inl refl
failed_midi (stop.Read kind.Grammar) failed own = absurd (none_some own)
failed_midi (stop.Read kind.Kern) failed own = absurd (none_some own)
failed_midi (stop.Read kind.ScriptFile) failed own = absurd (none_some own)
failed_midi (stop.Read kind.Script) failed own = absurd (none_some own)
failed_midi stop.Write failed own = absurd (none_some own)
failed_midi stop.Memory failed own = inr refl

-- a stop of the file of this number comes before anything is written
in_file_end : (before now number : ℕ) (s : Stop) → EndsReading before now s → IsOfMidi s → EndsReading before now (in_file number s)
in_file_end before now number stop.Usage end own = absurd (none_some own)
in_file_end before now number (stop.FileTooLong kind.Midi i) end own = λ e. absurd (cc)
in_file_end before now number (stop.FileTooLong kind.Grammar i) end own = absurd (none_some own)
in_file_end before now number (stop.FileTooLong kind.Kern i) end own = absurd (none_some own)
in_file_end before now number (stop.FileTooLong kind.ScriptFile i) end own = absurd (none_some own)
in_file_end before now number (stop.FileTooLong kind.Script i) end own = absurd (none_some own)
in_file_end before now number (stop.LineTooLong i) end own = absurd (none_some own)
in_file_end before now number (stop.Smf e) end own = λ e. absurd (cc)
in_file_end before now number (stop.Grammar e) end own = absurd (none_some own)
in_file_end before now number (stop.Kern e) end own = absurd (none_some own)
in_file_end before now number stop.NoNotes end own = λ e. absurd (cc)
in_file_end before now number (stop.TooManyNotes i) end own = λ e. absurd (cc)
in_file_end before now number (stop.BadSignature i j) end own = λ e. absurd (cc)
in_file_end before now number (stop.UnevenBar i j k) end own = λ e. absurd (cc)
in_file_end before now number (stop.TooManyBars i) end own = λ e. absurd (cc)
in_file_end before now number (stop.TooManyCells i) end own = λ e. absurd (cc)
in_file_end before now number (stop.NoStart i j k) end own = λ e. absurd (cc)
in_file_end before now number (stop.NoDerivation i j) end own = λ e. absurd (cc)
in_file_end before now number (stop.ScoreTooLong i) end own = absurd (none_some own)
in_file_end before now number (stop.Unprepared e) end own = absurd (none_some own)
in_file_end before now number (stop.RenderTooLong i) end own = absurd (none_some own)
in_file_end before now number (stop.InFile i x) end own = absurd (none_some own)
in_file_end before now number (stop.TooManyFiles i) end own = absurd (none_some own)
in_file_end before now number (stop.TooManyCandidates i) end own = absurd (none_some own)
in_file_end before now number (stop.NoBarline i) end own = absurd (none_some own)
in_file_end before now number stop.NoCandidate end own = absurd (none_some own)
in_file_end before now number (stop.ScriptLine row why) end own = absurd (none_some own)
in_file_end before now number (stop.Read kind.Midi) end own = λ _. end
in_file_end before now number (stop.Read kind.Grammar) end own = absurd (none_some own)
in_file_end before now number (stop.Read kind.Kern) end own = absurd (none_some own)
in_file_end before now number (stop.Read kind.ScriptFile) end own = absurd (none_some own)
in_file_end before now number (stop.Read kind.Script) end own = absurd (none_some own)
in_file_end before now number stop.Write end own = absurd (none_some own)
in_file_end before now number stop.Memory end own = tt

pub rose_later : (a b c : ℕ) → a ≤ b → Rose b c → Rose a c
rose_later a b c le h = omega (arith, le, h)

-- so does one after files that were read before
end_later : (a b c : ℕ) (s : Stop) → a ≤ b → EndsReading b c s → EndsReading a c s
end_later a b c stop.Usage le end = absurd end
end_later a b c (stop.FileTooLong kind.Midi i) le end = tt
end_later a b c (stop.FileTooLong kind.Grammar i) le end = tt
end_later a b c (stop.FileTooLong kind.Kern i) le end = tt
end_later a b c (stop.FileTooLong kind.ScriptFile i) le end = tt
end_later a b c (stop.FileTooLong kind.Script i) le end = absurd end
end_later a b c (stop.LineTooLong i) le end = absurd end
end_later a b c (stop.Smf e) le end = tt
end_later a b c (stop.Grammar e) le end = tt
end_later a b c (stop.Kern e) le end = tt
end_later a b c stop.NoNotes le end = tt
end_later a b c (stop.TooManyNotes i) le end = tt
end_later a b c (stop.BadSignature i j) le end = tt
end_later a b c (stop.UnevenBar i j k) le end = tt
end_later a b c (stop.TooManyBars i) le end = tt
end_later a b c (stop.TooManyCells i) le end = tt
end_later a b c (stop.NoStart i j k) le end = tt
end_later a b c (stop.NoDerivation i j) le end = tt
end_later a b c (stop.ScoreTooLong i) le end = tt
end_later a b c (stop.Unprepared e) le end = tt
end_later a b c (stop.RenderTooLong i) le end = tt
end_later a b c (stop.InFile i x) le end = λ e. rose_later a b c le (end e)
end_later a b c (stop.TooManyFiles i) le end = tt
end_later a b c (stop.TooManyCandidates i) le end = tt
end_later a b c (stop.NoBarline i) le end = tt
end_later a b c stop.NoCandidate le end = tt
end_later a b c (stop.ScriptLine row why) le end = tt
end_later a b c (stop.Read kind.Midi) le end = rose_later a b c le end
end_later a b c (stop.Read kind.Grammar) le end = rose_later a b c le end
end_later a b c (stop.Read kind.Kern) le end = rose_later a b c le end
end_later a b c (stop.Read kind.ScriptFile) le end = rose_later a b c le end
end_later a b c (stop.Read kind.Script) le end = absurd end
end_later a b c stop.Write le end = absurd end
end_later a b c stop.Memory le end = tt

-- ---- one more file

module _ (g : Grammar) (files : List File) (midis : List (List ℕ)) (n : ℕ) (lt : n < length midis) where
  of_files_more : (lists own : List (List ℕ)) → AreOfFiles g files (take n midis) lists → AreOfFile g (file_content files (get_or midis n [])) (Ok own)
      → AreOfFiles g files (take (n + 1) midis) (lists ++ own)
  of_files_more lists own h of = record {
    own = h.own ++ own ∷ [];
    each = each_more (λ name l. AreOfFile g (file_content files name) (Ok l)) midis h.own n [] own lt h.each of;
    are = ap (λ l. l ++ own) h.are
        ∙ sym (flat_map-append (λ (l : List (List ℕ)). l) h.own (own ∷ []) ∙ ap (λ l. flat_map (λ (l : List (List ℕ)). l) h.own ++ l) (append-nil own));
  }

module _ (files : List File) (midis : List (List ℕ)) (n : ℕ) (lt : n < length midis) where
  cells_more : (count own : ℕ) → HaveCells files (take n midis) count → HasCells (file_content files (get_or midis n [])) own → HaveCells files (take (n + 1) midis) (count + own)
  cells_more count own h has = record {
    counts = h.counts ++ own ∷ [];
    each = each_more (λ name k. HasCells (file_content files name) k) midis h.counts n [] own lt h.each has;
    all = ap (λ k. k + own) h.all ∙ sym (sum_by_push (λ k. k) h.counts own);
  }

  built_file_more : (old mid new : ℕ) → AreCellsBuilt files (take n midis) old mid → IsFileBuilt files (get_or midis n []) mid new → AreCellsBuilt files (take (n + 1) midis) old new
  built_file_more old mid new (count, have, built) (own, has, more) =
      (count + own, cells_more count own have has, more ∙ ap (λ m. risen m own) built ∙ risen_more old count own)

  some_file_more : (old mid new : ℕ) → AreCellsBuilt files (take n midis) old mid → IsFilePartlyBuilt files (get_or midis n []) mid new
      → (k : ℕ) × (count : ℕ) × (k ≤ length midis) × HaveCells files (take k midis) count × (new ≤ risen old count)
  some_file_more old mid new (count, have, built) (own, has, more) =
      (n + 1, count + own, omega (arith, lt), cells_more count own have has, omega (arith, more, built, risen_more old count own))

  some_before : (old mid new : ℕ) → AreCellsBuilt files (take n midis) old mid → new ≡ mid
      → (k : ℕ) × (count : ℕ) × (k ≤ length midis) × HaveCells files (take k midis) count × (new ≤ risen old count)
  some_before old mid new (count, have, built) same = (n, count, omega (arith, lt), have, omega (arith, same, built))

-- ---- cells by a stop

module _ (fs : Option (List File)) (midis : List (List ℕ)) (n : ℕ) (lt : n < length midis) (old mid new : ℕ) (before : AreFirstBuilt fs midis n old mid) where
  none_more : new ≡ mid → AreFirstBuilt fs midis n old new
  none_more same = λ files are. subst (AreCellsBuilt files (take n midis) old) (sym same) (before files are)

  all_more_built : ForSome fs (λ files. IsFileBuilt files (get_or midis n []) mid new) → AreFirstBuilt fs midis (n + 1) old new
  all_more_built built = λ files are. built_file_more files midis n lt old mid new (before files are) (built files are)

  some_more : (new ≡ mid) ⊎ ForSome fs (λ files. IsFilePartlyBuilt files (get_or midis n []) mid new) → AreSomeBuilt fs midis old new
  some_more (inl same) = λ files are. some_before files midis n lt old mid new (before files are) same
  some_more (inr built) = λ files are. some_file_more files midis n lt old mid new (before files are) (built files are)

  learned_built : (s : Stop) → IsOfMidi s
      → MatchBuilds (ForSome fs (λ files. IsFileBuilt files (get_or midis n []) mid new)) ((new ≡ mid) ⊎ ForSome fs (λ files. IsFilePartlyBuilt files (get_or midis n []) mid new)) (new ≡ mid) s
      → HasLearnedOf fs midis old new (in_file (n + 1) s)
  learned_built stop.Usage own h = absurd (none_some own)
  learned_built (stop.FileTooLong kind.Midi i) own h = (n, refl, none_more h)
  learned_built (stop.FileTooLong kind.Grammar i) own h = absurd (none_some own)
  learned_built (stop.FileTooLong kind.Kern i) own h = absurd (none_some own)
  learned_built (stop.FileTooLong kind.ScriptFile i) own h = absurd (none_some own)
  learned_built (stop.FileTooLong kind.Script i) own h = absurd (none_some own)
  learned_built (stop.LineTooLong i) own h = absurd (none_some own)
  learned_built (stop.Smf e) own h = (n, refl, none_more h)
  learned_built (stop.Grammar e) own h = absurd (none_some own)
  learned_built (stop.Kern e) own h = absurd (none_some own)
  learned_built stop.NoNotes own h = (n, refl, none_more h)
  learned_built (stop.TooManyNotes i) own h = (n, refl, none_more h)
  learned_built (stop.BadSignature i j) own h = (n, refl, none_more h)
  learned_built (stop.UnevenBar i j k) own h = (n, refl, none_more h)
  learned_built (stop.TooManyBars i) own h = (n, refl, none_more h)
  learned_built (stop.TooManyCells i) own h = (n, refl, none_more h)
  learned_built (stop.NoStart i j k) own h = (n, refl, none_more h)
  learned_built (stop.NoDerivation i j) own h = all_more_built h
  learned_built (stop.ScoreTooLong i) own h = absurd (none_some own)
  learned_built (stop.Unprepared e) own h = absurd (none_some own)
  learned_built (stop.RenderTooLong i) own h = absurd (none_some own)
  learned_built (stop.InFile i x) own h = absurd (none_some own)
  learned_built (stop.TooManyFiles i) own h = absurd (none_some own)
  learned_built (stop.TooManyCandidates i) own h = absurd (none_some own)
  learned_built (stop.NoBarline i) own h = absurd (none_some own)
  learned_built stop.NoCandidate own h = absurd (none_some own)
  learned_built (stop.ScriptLine row why) own h = absurd (none_some own)
  learned_built (stop.Read kind.Midi) own h = (n, refl, none_more h)
  learned_built (stop.Read kind.Grammar) own h = absurd (none_some own)
  learned_built (stop.Read kind.Kern) own h = absurd (none_some own)
  learned_built (stop.Read kind.ScriptFile) own h = absurd (none_some own)
  learned_built (stop.Read kind.Script) own h = absurd (none_some own)
  learned_built stop.Write own h = absurd (none_some own)
  learned_built stop.Memory own h = some_more h

-- nothing is built where the grammar is not had
early_learned : (fs : Option (List File)) (midis : List (List ℕ)) (built : ℕ) (s : Stop) → IsEarly s → HasLearnedOf fs midis built built s
early_learned fs midis built stop.Usage early = absurd early
early_learned fs midis built (stop.FileTooLong kind.Midi i) early = refl
early_learned fs midis built (stop.FileTooLong kind.Grammar i) early = refl
early_learned fs midis built (stop.FileTooLong kind.Kern i) early = refl
early_learned fs midis built (stop.FileTooLong kind.ScriptFile i) early = refl
early_learned fs midis built (stop.FileTooLong kind.Script i) early = refl
early_learned fs midis built (stop.LineTooLong i) early = absurd early
early_learned fs midis built (stop.Smf e) early = refl
early_learned fs midis built (stop.Grammar e) early = refl
early_learned fs midis built (stop.Kern e) early = refl
early_learned fs midis built stop.NoNotes early = refl
early_learned fs midis built (stop.TooManyNotes i) early = refl
early_learned fs midis built (stop.BadSignature i j) early = refl
early_learned fs midis built (stop.UnevenBar i j k) early = refl
early_learned fs midis built (stop.TooManyBars i) early = refl
early_learned fs midis built (stop.TooManyCells i) early = refl
early_learned fs midis built (stop.NoStart i j k) early = refl
early_learned fs midis built (stop.NoDerivation i j) early = absurd early
early_learned fs midis built (stop.ScoreTooLong i) early = absurd early
early_learned fs midis built (stop.Unprepared e) early = refl
early_learned fs midis built (stop.RenderTooLong i) early = absurd early
early_learned fs midis built (stop.InFile i x) early = absurd early
early_learned fs midis built (stop.TooManyFiles i) early = absurd early
early_learned fs midis built (stop.TooManyCandidates i) early = absurd early
early_learned fs midis built (stop.NoBarline i) early = absurd early
early_learned fs midis built stop.NoCandidate early = absurd early
early_learned fs midis built (stop.ScriptLine row why) early = absurd early
early_learned fs midis built (stop.Read kind.Midi) early = refl
early_learned fs midis built (stop.Read kind.Grammar) early = refl
early_learned fs midis built (stop.Read kind.Kern) early = refl
early_learned fs midis built (stop.Read kind.ScriptFile) early = refl
early_learned fs midis built (stop.Read kind.Script) early = refl
early_learned fs midis built stop.Write early = absurd early
early_learned fs midis built stop.Memory early = nothing_counted fs midis built

-- ---- one file

module _ {S O E : Type 0} (g : Grammar) (name : List ℕ) (counts : List ℕ) (old mid : Lent S O E) where
  mid_files : ReadsShelf old mid → mid.files ≡ old.files
  mid_files reads = ap (λ (l : Lent S O E). l.files) reads

  -- no performance is had
  pub unread_file : {T : Type 0} (s : Stop) → HasPerformance name old mid (Err s) → CountsFile g name counts counts old mid {T = T} (Err s)
  unread_file s h = record {
    had = tt;
    of_each = refl;
    cause = λ files are. follows files (h.tests files are);
    own = h.own;
    all = tt;
    built = subst (λ m. MatchBuilds (ForSome old.files (λ files. IsFileBuilt files name old.built m)) ((m ≡ old.built) ⊎ ForSome old.files (λ files. IsFilePartlyBuilt files name old.built m)) (m ≡ old.built) s)
        (sym (same_built old mid h.reads)) (early_built _ _ old.built s (ends_early kind.Midi old.shelf_faults mid.shelf_faults s h.end));
    strays = h.strays;
    read = record {
      end = read_end kind.Midi old.shelf_faults mid.shelf_faults s h.end midi_is_no_script;
      later = h.later;
      rises = (omega (arith, same_built old mid h.reads), omega (arith, ap (λ (l : Lent S O E). l.multiplied) h.reads));
      alone = counted_alone old mid mid h.reads refl;
    };
  }
    where
      follows : (files : List File) → Follows (IsMidiLoading (file_content files name)) (Err s) → Follows (AreOfFile g (file_content files name)) (Err s)
      follows files (inl (inl read)) = inl (inl read)
      follows files (inl (inr (f, read, loads))) = inl (inr (f, read, inl loads))
      follows files (inr failed) = inr failed

  module _ (p : Performance) (h : HasPerformance name old mid (Ok p)) (new : Lent S O E) (counted : List ℕ) where
    file_cells : (files : List File) → old.files ≡ Some files → HasCells (file_content files name) (cells_of p)
    file_cells files are = (p, no_failure (IsMidiLoading (file_content files name)) p (h.tests files are), refl)

    from_old : (P : ℕ → Type 0) → P mid.built → P old.built
    from_old P = subst P (same_built old mid h.reads)

    file_end : {T : Type 0} (r : Result T Stop) → IfErr r (λ s. IsUnopened g p s ⊎ (s ≡ stop.Memory)) → IfErr r IsOfContent
    file_end (Ok x) cause = tt
    file_end (Err s) cause = unopened_content g p s cause

    file_read : {T : Type 0} (r : Result T Stop) → CountsPerformance g p counts counted mid new r → IsReadAndCounted old new r
    file_read r k = record {
      end = content_ends old.shelf_faults new.shelf_faults r (file_end r k.cause);
      later = omega (arith, h.later, ap (λ (l : Lent S O E). l.shelf_faults) k.counters.0);
      rises = (omega (arith, k.counters.1.0, same_built old mid h.reads), omega (arith, k.counters.1.1, ap (λ (l : Lent S O E). l.multiplied) h.reads));
      alone = counted_alone old mid new h.reads k.counters.0;
    }

    file_strays : CountsAlone mid new → ForSome old.files (λ files. file_of files name ≢ None → new.strays ≡ old.strays)
    file_strays alone = λ files are named. ap (λ (l : Lent S O E). l.strays) alone ∙ h.strays files are named

    -- the performance is counted
    pub read_file : {T : Type 0} (r : Result T Stop) → CountsPerformance g p counts counted mid new r → CountsFile g name counts counted old new r
    read_file (Ok x) k = record {
      had = λ files are.
          let loads = no_failure (IsMidiLoading (file_content files name)) p (h.tests files are) in
          (k.had.1.0, (loads.0, loads.1, (p, loads.2, (k.had.0, k.had.1.1))), k.had.1.2);
      of_each = k.of_each;
      cause = tt;
      own = tt;
      all = λ files are. (cells_of p, file_cells files are, from_old (λ m. new.built ≡ risen m (cells_of p)) k.all);
      built = tt;
      strays = file_strays k.counters.0;
      read = file_read (Ok x) k;
    }
    read_file {T} (Err s) k = record {
      had = tt;
      of_each = k.of_each;
      cause = λ files are. follows files (no_failure (IsMidiLoading (file_content files name)) p (h.tests files are)) k.cause;
      own = unopened_own g p s k.cause;
      all = tt;
      built = built_more {T = T} (Err s)
          (λ all files are. (cells_of p, file_cells files are, from_old (λ m. new.built ≡ risen m (cells_of p)) all))
          (λ some. inr (λ files are. (cells_of p, file_cells files are, from_old (λ m. new.built ≤ risen m (cells_of p)) some)))
          (λ none. from_old (λ m. new.built ≡ m) none) k.built;
      strays = file_strays k.counters.0;
      read = file_read (Err s) k;
    }
      where
        follows : (files : List File) → IsMidiLoading (file_content files name) (Ok p) → IsUnopened g p s ⊎ (s ≡ stop.Memory) → Follows (AreOfFile g (file_content files name)) (Err s)
        follows files (f, read, loads) (inl unopened) = inl (inr (f, read, inr (p, loads, unopened)))
        follows files (f, read, loads) (inr e) = subst (λ (x : Stop). Follows (AreOfFile g (file_content files name)) (Err x)) (sym e) (inr tt)

-- a performance is counted by the session that was opened on it
pub session_counted : {S O E T : Type 0} (g h : Grammar) (p q : Performance) (counts counted : List ℕ) (old new : Lent S O E) (x : T) → h ≡ g → q ≡ p → CanOpen g p
    → AreCountedIn h q counts counted → length counted ≡ length counts → new.built ≡ risen old.built (cells_of p)
    → CountsUp old new → CountsPerformance g p counts counted old new (Ok x)
session_counted g h p q counts counted old new x same_grammar same_performance can own of_each all counters =
    let counts_own = subst (λ (r : Performance). AreCountedIn g r counts counted) same_performance (subst (λ (k : Grammar). AreCountedIn k q counts counted) same_grammar own) in
    record { had = (can, counts_own); of_each = of_each; cause = tt; all = all; built = tt; counters = counters }

-- ---- the words

got_at : (ws : List (List ℕ)) (k : ℕ) (m : List ℕ) → Some m ≡ slice_get ws k → get_or ws k [] ≡ m
got_at [] k m e = absurd (cc)
got_at (w ∷ ws) zero m e = cc
got_at (w ∷ ws) (suc k) m e = got_at ws k m e

named_from : (ws : List (List ℕ)) (k : ℕ) (m : List ℕ) → Some m ≡ slice_get ws (suc (suc (suc k))) → get_or (drop 3 ws) k [] ≡ m
named_from [] k m e = absurd (cc)
named_from (a ∷ []) k m e = absurd (cc)
named_from (a ∷ b ∷ []) k m e = absurd (cc)
named_from (a ∷ b ∷ c ∷ ws) k m e = got_at ws k m e

-- the word at this place, from the fourth on, is the name of a file
pub named_word : (ws : List (List ℕ)) (place : ℕ) (m : List ℕ) → 3 ≤ place → Some m ≡ slice_get ws place → get_or (drop 3 ws) (place - 3) [] ≡ m
named_word ws place m from e =
    let same : place ≡ suc (suc (suc (place - 3))) = omega (arith, from) in
    named_from ws (place - 3) m (subst (λ n. Some m ≡ slice_get ws n) same e)

-- there is one at each place
pub some_word : {X : Type 0} (o : Option X) (f : X → List ℕ) (ws : List (List ℕ)) (place : ℕ) → option_map f o ≡ slice_get ws place → place < length ws → IsSome o
some_word (Some x) f ws place e lt = refl
some_word None f [] place e lt = absurd (omega (arith, lt))
some_word None f (w ∷ ws) zero e lt = absurd (cc)
some_word None f (w ∷ ws) (suc place) e lt = some_word None f ws place e (omega (arith, lt))

-- ---- files

reads_both : {S O E : Type 0} (old mid new : Lent S O E) → ReadsAlone old mid → ReadsAlone mid new → ReadsAlone old new
reads_both {S} {O} {E} old mid new h k =
    k ∙ ap (λ (l : Lent S O E). record l { strays = new.strays; shelf_faults = new.shelf_faults; built = new.built; multiplied = new.multiplied }) h

-- the first of the files, so many, are counted
pub record AreCountedUpTo {S O E : Type 0} (g : Grammar) (midis : List (List ℕ)) (n : ℕ) (counts counted : List ℕ) (old new : Lent S O E) : Type 0 where
  pub had : ForSome old.files (λ files. (lists : List (List ℕ)) × AreOfFiles g files (take n midis) lists × AreRaisedBy (length g.rules) lists counts counted)
  pub of_each : length counted ≡ length counts
  pub all : AreFirstBuilt old.files midis n old.built new.built
  pub strays : ForSome old.files (λ files. HaveNames files (map one_of_several midis) → new.strays ≡ old.strays)
  pub later : old.shelf_faults ≤ new.shelf_faults
  pub rises : (old.built ≤ new.built) × (old.multiplied ≤ new.multiplied)
  pub alone : ReadsAlone old new

pub none_counted : {S O E : Type 0} (g : Grammar) (midis : List (List ℕ)) (counts : List ℕ) (old : Lent S O E) → AreCountedUpTo g midis 0 counts counts old old
none_counted g midis counts old = record {
  had = λ files are. ([], record { own = []; each = refl; are = refl }, by_none (length g.rules) counts);
  of_each = refl;
  all = λ files are. (0, record { counts = []; each = refl; all = refl }, omega arith);
  strays = λ files are names. refl;
  later = omega arith;
  rises = (omega arith, omega arith);
  alone = refl;
}

name_at : (files : List File) (midis : List (List ℕ)) (n : ℕ) → n < length midis → HaveNames files (map one_of_several midis) → file_of files (get_or midis n []) ≢ None
name_at files [] n lt names = absurd (omega arith)
name_at files (m ∷ ms) zero lt names = All-head (λ (it : Named). file_of files it.name ≢ None) (one_of_several m) (map one_of_several ms) names
name_at files (m ∷ ms) (suc n) lt names =
    name_at files ms n (omega arith) (All-tail (λ (it : Named). file_of files it.name ≢ None) (one_of_several m) (map one_of_several ms) names)

module _ {S O E : Type 0} (g : Grammar) (midis : List (List ℕ)) (n : ℕ) (lt : n < length midis) (counts counted more : List ℕ) (old mid new : Lent S O E)
    (h : AreCountedUpTo g midis n counts counted old mid) where
  still : (files : List File) → old.files ≡ Some files → mid.files ≡ Some files
  still files are = ap (λ (l : Lent S O E). l.files) h.alone ∙ are

  strays_more : ForSome mid.files (λ files. file_of files (get_or midis n []) ≢ None → new.strays ≡ mid.strays)
      → ForSome old.files (λ files. HaveNames files (map one_of_several midis) → new.strays ≡ old.strays)
  strays_more strays = λ files are names. strays files (still files are) (name_at files midis n lt names) ∙ h.strays files are names

  -- one more
  pub one_more : {T : Type 0} (x : T) → CountsFile g (get_or midis n []) counted more mid new (Ok x) → AreCountedUpTo g midis (n + 1) counts more old new
  one_more x k = record {
    had = λ files are.
        let before = h.had files are in
        let own = k.had files (still files are) in
        (before.0 ++ own.0, of_files_more g files midis n lt before.0 own.0 before.1 own.1, by_both (length g.rules) before.0 own.0 counts counted more before.2 own.2);
    of_each = k.of_each ∙ h.of_each;
    all = λ files are. built_file_more files midis n lt old.built mid.built new.built (h.all files are) (k.all files (still files are));
    strays = strays_more k.strays;
    later = omega (arith, h.later, k.read.later);
    rises = (omega (arith, h.rises.0, k.read.rises.0), omega (arith, h.rises.1, k.read.rises.1));
    alone = reads_both old mid new h.alone k.read.alone;
  }

  -- or this one is stopped
  pub one_stopped : {T U : Type 0} (s : Stop) → CountsFile g (get_or midis n []) counted more mid new {T = T} (Err s)
      → CountsAll g midis counts more old new {T = U} (Err (in_file (n + 1) s))
  one_stopped s k = record {
    had = tt;
    of_each = k.of_each ∙ h.of_each;
    cause = λ files are. caused files (let before = h.had files are in (before.0, before.1)) (k.cause files (still files are));
    files = record {
      all = tt;
      built = learned_built old.files midis n lt old.built mid.built new.built h.all s k.own at_old;
      strays = strays_more k.strays;
      read = record {
        end = end_later old.shelf_faults mid.shelf_faults new.shelf_faults (in_file (n + 1) s) h.later (in_file_end mid.shelf_faults new.shelf_faults (n + 1) s k.read.end k.own);
        later = omega (arith, h.later, k.read.later);
        rises = (omega (arith, h.rises.0, k.read.rises.0), omega (arith, h.rises.1, k.read.rises.1));
        alone = reads_both old mid new h.alone k.read.alone;
      };
    };
  }
    where
      at_old : MatchBuilds (ForSome old.files (λ files. IsFileBuilt files (get_or midis n []) mid.built new.built))
          ((new.built ≡ mid.built) ⊎ ForSome old.files (λ files. IsFilePartlyBuilt files (get_or midis n []) mid.built new.built)) (new.built ≡ mid.built) s
      at_old = subst (λ (fs : Option (List File)). MatchBuilds (ForSome fs (λ files. IsFileBuilt files (get_or midis n []) mid.built new.built))
          ((new.built ≡ mid.built) ⊎ ForSome fs (λ files. IsFilePartlyBuilt files (get_or midis n []) mid.built new.built)) (new.built ≡ mid.built) s) (ap (λ (l : Lent S O E). l.files) h.alone) k.built

      failure : (files : List File) → ((lists : List (List ℕ)) × AreOfFiles g files (take n midis) lists) → (s ≡ stop.Read kind.Midi) ⊎ (s ≡ stop.Memory) → IsFileFailure g files midis (in_file (n + 1) s)
      failure files before (inl e) = subst (λ (x : Stop). IsFileFailure g files midis (in_file (n + 1) x)) (sym e) (n, refl, refl, (lt, before))
      failure files before (inr e) = subst (λ (x : Stop). IsFileFailure g files midis (in_file (n + 1) x)) (sym e) tt

      caused : (files : List File) → ((lists : List (List ℕ)) × AreOfFiles g files (take n midis) lists) → Follows (AreOfFile g (file_content files (get_or midis n []))) (Err s)
          → AreAllListed g files midis (Err (in_file (n + 1) s)) ⊎ IsFileFailure g files midis (in_file (n + 1) s)
      caused files before (inl of) = inl (n, s, ((lt, before), of), refl)
      caused files before (inr failed) = inr (failure files before (failed_midi s failed k.own))

-- all are
pub all_counted : {S O E T : Type 0} (g : Grammar) (midis : List (List ℕ)) (n : ℕ) (counts counted : List ℕ) (old new : Lent S O E) (x : T) → length midis ≤ n
    → AreCountedUpTo g midis n counts counted old new → CountsAll g midis counts counted old new (Ok x)
all_counted {S} {O} {E} {T} g midis n counts counted old new x all h = go (take_all n midis all)
  where
    go : take n midis ≡ midis → CountsAll g midis counts counted old new {T = T} (Ok x)
    go same = record {
      had = λ files are. let it = h.had files are in (it.0, subst (λ l. AreOfFiles g files l it.0) same it.1, it.2);
      of_each = h.of_each;
      cause = tt;
      files = record {
        all = λ files are. subst (λ l. AreCellsBuilt files l old.built new.built) same (h.all files are);
        built = tt;
        strays = h.strays;
        read = record { end = tt; later = h.later; rises = h.rises; alone = h.alone };
      };
    }

-- ---- the text

module _ {S O E A : Type 0} (bit : ℕ) (g : Grammar) (midis : List (List ℕ)) (zeros counted : List ℕ) (old new : Lent S O E) (none : AreRuleCounts (length g.rules) [] zeros) where
  -- all are counted
  pub text_learned : {T : Type 0} (x : T) (r : Result (Vec ℕ A) Stop) → CountsAll g midis zeros counted old new (Ok x)
      → IfOk r (λ v. v.items ≡ printed (learned g counted bit)) → IfErr r (λ s. s ≡ stop.Memory) → IsTextLearned bit g midis old new r
  text_learned x (Ok v) h text memory = record {
    text = λ files are. let it = h.had files are in (it.0, it.1, (counted, it.2 [] none, text));
    cause = tt;
    files = record { all = h.files.all; built = tt; strays = h.files.strays; read = record { end = tt; later = h.files.read.later; rises = h.files.read.rises; alone = h.files.read.alone } };
  }
  text_learned x (Err s) h text memory = subst (λ (y : Stop). IsTextLearned {A = A} bit g midis old new (Err y)) (sym memory) (record {
    text = tt;
    cause = λ files are. inr tt;
    files = record {
      all = tt;
      built = λ files are. let it = h.files.all files are in (length midis, it.0, omega arith, subst (λ l. HaveCells files l it.0) (sym (take_all (length midis) midis (omega arith))) it.1, omega (arith, it.2));
      strays = h.files.strays;
      read = record { end = tt; later = h.files.read.later; rises = h.files.read.rises; alone = h.files.read.alone };
    };
  })

  -- one is stopped
  pub text_stopped : {T : Type 0} (s : Stop) → CountsAll g midis zeros counted old new {T = T} (Err s) → IsTextLearned {A = A} bit g midis old new (Err s)
  text_stopped s h = record {
    text = tt;
    cause = λ files are. caused files (h.cause files are);
    files = record { all = tt; built = h.files.built; strays = h.files.strays; read = record { end = h.files.read.end; later = h.files.read.later; rises = h.files.read.rises; alone = h.files.read.alone } };
  }
    where
      caused : (files : List File) → AreAllListed g files midis (Err s) ⊎ IsFileFailure g files midis s → IsLearning bit files midis g (Err s) ⊎ IsFileFailure g files midis s
      caused files (inl are) = inl (inl are)
      caused files (inr failed) = inr failed

-- there is not enough memory for the counts
pub uncounted : {S O E A : Type 0} (bit : ℕ) (g : Grammar) (midis : List (List ℕ)) (old : Lent S O E) → IsTextLearned {A = A} bit g midis old old (Err stop.Memory)
uncounted bit g midis old = record {
  text = tt;
  cause = λ files are. inr tt;
  files = record {
    all = tt;
    built = nothing_counted old.files midis old.built;
    strays = λ files are names. refl;
    read = record { end = tt; later = omega arith; rises = (omega arith, omega arith); alone = refl };
  };
}

-- ---- the command

some_cells : (midis : List (List ℕ)) → cells_learned midis ≢ no_cells
some_cells midis e = cc

module _ (bit : ℕ) (grammar : List ℕ) (midis : List (List ℕ)) (g : Grammar) (files : List File) (understood : IsUnderstood (file_content files grammar) (Ok g)) where
  failure_cause : (s : Stop) → IsFileFailure g files midis s → IsCauseOf (Some (learn bit grammar midis)) files s
  failure_cause stop.Usage failed = absurd failed
  failure_cause (stop.FileTooLong kind.Midi i) failed = absurd failed
  failure_cause (stop.FileTooLong kind.Grammar i) failed = absurd failed
  failure_cause (stop.FileTooLong kind.Kern i) failed = absurd failed
  failure_cause (stop.FileTooLong kind.ScriptFile i) failed = absurd failed
  failure_cause (stop.FileTooLong kind.Script i) failed = absurd failed
  failure_cause (stop.LineTooLong i) failed = absurd failed
  failure_cause (stop.Smf e) failed = absurd failed
  failure_cause (stop.Grammar e) failed = absurd failed
  failure_cause (stop.Kern e) failed = absurd failed
  failure_cause stop.NoNotes failed = absurd failed
  failure_cause (stop.TooManyNotes i) failed = absurd failed
  failure_cause (stop.BadSignature i j) failed = absurd failed
  failure_cause (stop.UnevenBar i j k) failed = absurd failed
  failure_cause (stop.TooManyBars i) failed = absurd failed
  failure_cause (stop.TooManyCells i) failed = absurd failed
  failure_cause (stop.NoStart i j k) failed = absurd failed
  failure_cause (stop.NoDerivation i j) failed = absurd failed
  failure_cause (stop.ScoreTooLong i) failed = absurd failed
  failure_cause (stop.Unprepared e) failed = absurd failed
  failure_cause (stop.RenderTooLong i) failed = absurd failed
  failure_cause (stop.InFile i x) failed = inr (failed.1, (g, failed.0, understood, failed.2, failed.3))
  failure_cause (stop.TooManyFiles i) failed = absurd failed
  failure_cause (stop.TooManyCandidates i) failed = absurd failed
  failure_cause (stop.NoBarline i) failed = absurd failed
  failure_cause stop.NoCandidate failed = absurd failed
  failure_cause (stop.ScriptLine row why) failed = absurd failed
  failure_cause (stop.Read kind.Midi) failed = absurd failed
  failure_cause (stop.Read kind.Grammar) failed = absurd failed
  failure_cause (stop.Read kind.Kern) failed = absurd failed
  failure_cause (stop.Read kind.ScriptFile) failed = absurd failed
  failure_cause (stop.Read kind.Script) failed = absurd failed
  failure_cause stop.Write failed = absurd failed
  failure_cause stop.Memory failed = inr tt

  learning_cause : (s : Stop) → IsLearning bit files midis g (Err s) ⊎ IsFileFailure g files midis s → IsCauseOf (Some (learn bit grammar midis)) files s
  learning_cause s (inl h) = inl (inr (g, understood, h))
  learning_cause s (inr failed) = failure_cause s failed

module _ {S O E : Type 0} (bit : ℕ) (grammar : List ℕ) (midis : List (List ℕ)) (old mid : Lent S O E) where
  grammar_strays : ForSome old.files (λ files. file_of files grammar ≢ None → mid.strays ≡ old.strays)
      → ForSome old.files (λ files. HasNames files (Some (learn bit grammar midis)) → mid.strays ≡ old.strays)
  grammar_strays strays files are names = strays files are (All-head (λ (it : Named). file_of files it.name ≢ None) (named kind.Grammar grammar) (map one_of_several midis) names)

  -- the grammar is not had
  pub unlearned : {A : Type 0} (s : Stop) → HasRules grammar old mid (Err s) → HasText {A = A} (Some (learn bit grammar midis)) old mid (Err s)
  unlearned s h = record {
    text = tt;
    all = tt;
    before = record {
      cause = λ files are. caused files (h.tests files are);
      end = read_end kind.Grammar old.shelf_faults mid.shelf_faults s h.end grammar_is_no_script;
      built = subst (λ m. HasLearnedOf old.files midis old.built m s) (sym (same_built old mid h.reads)) (early_learned old.files midis old.built s (ends_early kind.Grammar old.shelf_faults mid.shelf_faults s h.end));
      strays = grammar_strays h.strays;
      rises = (omega (arith, same_built old mid h.reads), omega (arith, ap (λ (l : Lent S O E). l.multiplied) h.reads));
      no_cells = λ e. absurd (some_cells midis e);
      alone = counted_alone old mid mid h.reads refl;
    };
  }
    where
      caused : (files : List File) → Follows (IsUnderstood (file_content files grammar)) (Err s) → IsCauseOf (Some (learn bit grammar midis)) files s
      caused files (inl is) = inl (inl is)
      caused files (inr failed) =
          inr (failure_of (learn bit grammar midis) files s (read_fails kind.Grammar (named kind.Grammar grammar ∷ map one_of_several midis) files old.shelf_faults mid.shelf_faults grammar_is_no_script (inl (refl, refl)) s failed h.end))

  module _ (g : Grammar) (h : HasRules grammar old mid (Ok g)) (new : Lent S O E) where
    shelf_then : ReadsAlone mid new → ReadsAlone old new
    shelf_then alone = reads_both old mid new (counted_alone old mid mid h.reads refl) alone

    still_there : (files : List File) → old.files ≡ Some files → mid.files ≡ Some files
    still_there files are = ap (λ (l : Lent S O E). l.files) h.reads ∙ are

    at_start : (P : ℕ → Type 0) → P mid.built → P old.built
    at_start P = subst P (same_built old mid h.reads)

    -- it is
    pub learned_had : {A : Type 0} (r : Result (Vec ℕ A) Stop) → IsTextLearned bit g midis mid new r → HasText (Some (learn bit grammar midis)) old new r
    learned_had {A} r k = record {
      text = text r k.text;
      all = all r k.files.all;
      before = record {
        cause = cause r k.cause;
        end = end r k.files.read.end;
        built = built r k.files.built;
        strays = λ files are names.
            k.files.strays files (still_there files are) (All-tail (λ (it : Named). file_of files it.name ≢ None) (named kind.Grammar grammar) (map one_of_several midis) names)
            ∙ grammar_strays h.strays files are names;
        rises = (omega (arith, k.files.read.rises.0, same_built old mid h.reads), omega (arith, k.files.read.rises.1, ap (λ (l : Lent S O E). l.multiplied) h.reads));
        no_cells = λ e. absurd (some_cells midis e);
        alone = shelf_then k.files.read.alone;
      };
    }
      where
        understood : (files : List File) → old.files ≡ Some files → IsUnderstood (file_content files grammar) (Ok g)
        understood files are = no_failure (IsUnderstood (file_content files grammar)) g (h.tests files are)

        text : (r : Result (Vec ℕ A) Stop) → IfOk r (λ v. ForSome mid.files (λ files. IsLearning bit files midis g (Ok (say v.items))))
            → IfOk r (λ v. ForSome old.files (λ files. HasOutcomeOf (Some (learn bit grammar midis)) files (Ok (say v.items))))
        text (Ok v) it = λ files are. (g, understood files are, it files (still_there files are))
        text (Err s) it = tt

        all : (r : Result (Vec ℕ A) Stop) → OnOk r (ForSome mid.files (λ files. AreCellsBuilt files midis mid.built new.built))
            → IfOk r (λ _. ForSome old.files (λ files. HasBuiltAll (cells_learned midis) files old.built new.built))
        all (Ok v) it = λ files are. at_start (λ m. AreCellsBuilt files midis m new.built) (it files (still_there files are))
        all (Err s) it = tt

        cause : (r : Result (Vec ℕ A) Stop) → IfErr r (λ s. ForSome mid.files (λ files. IsLearning bit files midis g (Err s) ⊎ IsFileFailure g files midis s))
            → IfErr r (λ s. ForSome old.files (λ files. IsCauseOf (Some (learn bit grammar midis)) files s))
        cause (Ok v) it = tt
        cause (Err s) it = λ files are. learning_cause bit grammar midis g files (understood files are) s (it files (still_there files are))

        end : (r : Result (Vec ℕ A) Stop) → IfErr r (EndsReading mid.shelf_faults new.shelf_faults) → IfErr r (EndsReading old.shelf_faults new.shelf_faults)
        end (Ok v) it = tt
        end (Err s) it = end_later old.shelf_faults mid.shelf_faults new.shelf_faults s h.later it

        built : (r : Result (Vec ℕ A) Stop) → IfErr r (HasLearnedOf mid.files midis mid.built new.built) → IfErr r (HasBuilt (cells_learned midis) old.files old.built new.built)
        built (Ok v) it = tt
        built (Err s) it =
            at_start (λ m. HasLearnedOf old.files midis m new.built s)
            (subst (λ (fs : Option (List File)). HasLearnedOf fs midis mid.built new.built s) (ap (λ (l : Lent S O E). l.files) h.reads) it)
