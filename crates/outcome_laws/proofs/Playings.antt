-- What a MIDI file says is played by options, or has a stop.
use Rattle.std.proofs.Common.{◌≡◌, ℕ, subst, inl, inr, List, [], map, refl, Result, Ok, Err}
use Rattle.std.specs.Prelude.{◌≢◌, IfOk, eqb}
use Rattle.std.specs.List.{dedup}
use Rattle.note_list.specs.Pairing.{ArePaired, IsNoteFault}
use Rattle.note_list.specs.declared.fault.NoteFault.{NoteFault}
use Rattle.note_list.specs.declared.fault.NoteFault.TheVariants as note
use Rattle.performance_load.proofs.FormedTakes.{ends_near, loaded_well, onsets_early}
use Rattle.performance_load.proofs.TakesLoaded.{takes_formed}
use Rattle.performance_load.proofs.VoiceLemmas.{voices_are}
use Rattle.performance_load.specs.Loading.{AreMergedOf, greatest_end, greatest_onset, last_tick}
use Rattle.performance_load.specs.Take.{Take}
use Rattle.performance_load.specs.Taking.{IsLoadedOf, IsTake, IsTakeFormed, LoadsTake, Takes}
use Rattle.performance_load.specs.declared.load_fault.LoadFault.{LoadFault}
use Rattle.performance_load.specs.declared.load_fault.LoadFault.TheVariants.{Bars, Memory}
use Rattle.performance_prepare.proofs.Told.{prepared_formed}
use Rattle.performance_prepare.specs.Prepared.{prepared}
use Rattle.performance_prepare.specs.Ranges.{AreInRange}
use Rattle.performance_prepare.specs.declared.options.Options.{Options}
use Rattle.performance_prepare.specs.declared.prepare_fault.PrepareFault.{PrepareFault}
use Rattle.rhythm_app.specs.Outcome.{AreInTurn, IsPlaying, IsPreparing, IsTakeLoading, IsTaking, load_stop, note_stop, stopped}
use Rattle.rhythm_app.specs.declared.stop.Stop.{Stop}
use Rattle.rhythm_app.specs.declared.stop.Stop.TheVariants.{Unprepared}
use Rattle.rhythm_base.specs.Bars.{IsLaying}
use Rattle.rhythm_base.specs.Performance.{IsWellFormed, Performance}
use Rattle.rhythm_base.specs.Time.{keys_of, signatures_of, tempos_of}
use Rattle.rhythm_base.specs.declared.bar_fault.BarFault.{BarFault}
use Rattle.rhythm_base.specs.declared.event.Event.{Event}
use Rattle.rhythm_base.specs.declared.note.Bar.{Bar}
use Rattle.rhythm_base.specs.declared.note.Note.{Note}
use Rattle.smf_reader.specs.Played.{Smf}
use Rattle.smf_reader.specs.Ranges.{IsPlayedFile}
use Rattle.outcome_laws.proofs.InTurn.{ComesTo, in_turn}
use Rattle.outcome_laws.proofs.KeptNotes.{paired_or_fault}
use Rattle.outcome_laws.proofs.LaidBars.{some_laying}
use Rattle.render_laws.proofs.MergedEvents.{some_merged}

-- ---- the take

some_taking : (f : Smf) → ComesTo (IsTaking f)
some_taking f =
    let events = some_merged (map (λ t. t.events) f.tracks) in
    elim (paired_or_fault (last_tick f) events.0) [
      | inl notes ↦ (
        stopped note_stop (Ok (taken events.0 notes.0)),
        (
          Ok (taken events.0 notes.0),
          record { events = events.0; merged = events.1; division = refl; notes = notes.1; tempos = refl; key_marks = refl; signatures = refl },
          (λ e. cc),
          refl,
        ),
      )
      | inr fault ↦ (
        stopped note_stop (Err fault.0),
        (Err fault.0, at_fault fault.0 (events.0, events.1, fault.1) fault.2, (λ e. let same : fault.0 ≡ note.Memory = cc in fault.2 same), refl),
      )
    ]
  where
    taken : List Event → List Note → Take
    taken events notes = record {
      division = f.division;
      notes = notes;
      tempos = tempos_of events;
      key_marks = keys_of events;
      signatures = signatures_of events;
    }

    at_fault : (x : NoteFault) → ((events : List Event) × AreMergedOf f events × IsNoteFault (last_tick f) events x) → x ≢ note.Memory → Takes f (Err x)
    at_fault note.NoNotes is other = is
    at_fault (note.TooManyNotes count) is other = is
    at_fault note.Memory is other = tt

-- ---- its performance

module _ (t : Take) (formed : IsTakeFormed t) where
  abbrev performance : List Bar → ℕ → Performance
  performance bars last = record {
    division = t.division;
    tempos = t.tempos;
    key_marks = t.key_marks;
    bars = bars;
    last = last;
    channels = dedup eqb (map (λ n. n.channel) t.notes);
    notes = t.notes;
    pins = [];
  }

  is_loaded : (bars : List Bar) (last : ℕ) → IsLaying t.division t.signatures (greatest_onset t.notes) (greatest_end t.notes) (Ok (bars, last))
      → IsLoadedOf t (performance bars last)
  is_loaded bars last laid = record {
    division = refl;
    tempos = refl;
    key_marks = refl;
    notes = refl;
    bars = laid;
    voices = voices_are t.notes formed.notes_in_order;
    pins = refl;
  }

  loading_of : (loaded : Result Performance LoadFault) → LoadsTake t loaded → loaded ≢ Err Memory → IfOk loaded IsWellFormed → ComesTo (IsTakeLoading t)
  loading_of loaded loads other well = (stopped load_stop loaded, (loaded, loads, other, well, refl))

  by_bars : (r : Result (List Bar × ℕ) BarFault) → IsLaying t.division t.signatures (greatest_onset t.notes) (greatest_end t.notes) r → ComesTo (IsTakeLoading t)
  by_bars (Ok (bars, last)) laid =
      let loaded = is_loaded bars last laid in
      loading_of (Ok (performance bars last)) loaded (λ e. cc) (loaded_well t formed (performance bars last) loaded)
  by_bars (Err fault) laid = loading_of (Err (Bars fault)) laid (λ e. cc) tt

  some_loading : ComesTo (IsTakeLoading t)
  some_loading =
      let laid = some_laying t.division t.signatures (greatest_onset t.notes) (greatest_end t.notes) formed.division_high (onsets_early t formed) (ends_near t formed) in
      by_bars laid.0 laid.1

-- ---- as it is prepared

module _ (o : Options) (range : AreInRange o) (f : Smf) (played : IsPlayedFile f) where
  mapped : (t u : Take) → IsPreparing o t (Ok u) → prepared o t ≡ Ok u
  mapped t u h = go (prepared o t) h
    where
      go : (r : Result Take PrepareFault) → stopped Unprepared r ≡ Ok u → r ≡ Ok u
      go (Ok v) e = cc
      go (Err fault) e = absurd (cc)

  taken_of : (t : Take) → IsTaking f (Ok t) → IsTake f t
  taken_of t h = go h.0 h.1 h.3
    where
      go : (r : Result Take NoteFault) → Takes f r → ◌≡◌ {A = Result Take Stop} (Ok t) (stopped note_stop r) → IsTake f t
      go (Ok u) takes e = let same : u ≡ t = cc in subst (IsTake f) same takes
      go (Err fault) takes e = absurd (cc)

  pub some_playing : ComesTo (IsPlaying o f)
  some_playing =
      in_turn (IsTaking f) (λ t. AreInTurn (IsPreparing o t) IsTakeLoading) (some_taking f)
      (λ t taken. in_turn (IsPreparing o t) IsTakeLoading (stopped Unprepared (prepared o t), refl)
      (λ u h.
      let ready = takes_formed f t played (taken_of t taken) in
      some_loading u (prepared_formed o t u range (record { formed = ready.0; marks = ready.1 }) (mapped t u h))))
