-- What a MIDI file says loads to a performance, or has a fault that is no want of memory.
use Rattle.std.proofs.Common.{ℕ, inl, inr, List, [], map, refl, Result, Ok, Err}
use Rattle.std.specs.Prelude.{◌≢◌, IfOk, eqb}
use Rattle.std.specs.List.{dedup}
use Rattle.note_list.specs.Pairing.{ArePaired}
use Rattle.performance_load.proofs.Formed.{end_low, loaded_formed, onset_low}
use Rattle.performance_load.proofs.VoiceLemmas.{voices_are}
use Rattle.performance_load.specs.Loading.{AreMergedOf, IsLoaded, Loads, greatest_end, greatest_onset, last_tick}
use Rattle.performance_load.specs.declared.load_fault.LoadFault.{LoadFault}
use Rattle.performance_load.specs.declared.load_fault.LoadFault.TheVariants.{Notes, Bars, Memory}
use Rattle.rhythm_app.specs.Outcome.{IsLoading, load_stop, stopped}
use Rattle.rhythm_app.specs.declared.stop.Stop.{Stop}
use Rattle.rhythm_base.specs.Bars.{IsLaying}
use Rattle.rhythm_base.specs.declared.bar_fault.BarFault.{BarFault}
use Rattle.rhythm_base.specs.declared.event.Event.{Event}
use Rattle.rhythm_base.specs.declared.note.Bar.{Bar}
use Rattle.rhythm_base.specs.declared.note.Note.{Note}
use Rattle.rhythm_base.specs.Performance.{IsWellFormed, Performance}
use Rattle.rhythm_base.specs.Time.{keys_of, signatures_of, tempos_of}
use Rattle.smf_reader.specs.Played.{Smf}
use Rattle.smf_reader.specs.Ranges.{IsPlayedFile}
use Rattle.outcome_laws.proofs.KeptNotes.{paired_or_fault}
use Rattle.outcome_laws.proofs.LaidBars.{some_laying}
use Rattle.render_laws.proofs.MergedEvents.{some_merged}

module _ (f : Smf) (played : IsPlayedFile f) where
  abbrev HasLoading : Type 0
  HasLoading = (r : Result Performance Stop) × IsLoading f r

  loading_of : (loaded : Result Performance LoadFault) → Loads f loaded → loaded ≢ Err Memory → IfOk loaded IsWellFormed → HasLoading
  loading_of loaded loads other formed = (stopped load_stop loaded, (loaded, loads, other, formed, refl))

  module _ (events : List Event) (merged : AreMergedOf f events) (notes : List Note) (paired : ArePaired (last_tick f) events notes) where
    abbrev performance : List Bar → ℕ → Performance
    performance bars last = record {
      division = f.division;
      tempos = tempos_of events;
      key_marks = keys_of events;
      bars = bars;
      last = last;
      channels = dedup eqb (map (λ n. n.channel) notes);
      notes = notes;
      pins = [];
    }

    is_loaded : (bars : List Bar) (last : ℕ) → IsLaying f.division (signatures_of events) (greatest_onset notes) (greatest_end notes) (Ok (bars, last))
        → IsLoaded f (performance bars last)
    is_loaded bars last laid = record {
      events = events;
      merged = merged;
      division = refl;
      tempos = refl;
      key_marks = refl;
      notes = paired;
      bars = laid;
      voices = voices_are notes paired.notes.in_order;
      pins = refl;
    }

    by_bars : (r : Result (List Bar × ℕ) BarFault) → IsLaying f.division (signatures_of events) (greatest_onset notes) (greatest_end notes) r → HasLoading
    by_bars (Ok (bars, last)) laid =
        let loaded = is_loaded bars last laid in
        loading_of (Ok (performance bars last)) loaded (λ e. cc) (loaded_formed f (performance bars last) played loaded)
    by_bars (Err fault) laid = loading_of (Err (Bars fault)) (events, notes, merged, paired, laid) (λ e. cc) tt

  pub some_loading : HasLoading
  some_loading =
      let events = some_merged (map (λ t. t.events) f.tracks) in
      elim (paired_or_fault (last_tick f) events.0) [
        | inl notes ↦
            let laid =
            some_laying f.division (signatures_of events.0) (greatest_onset notes.0) (greatest_end notes.0) played.few_ticks
            (onset_low f events.0 played events.1 notes.0 notes.1) (end_low f events.0 played events.1 notes.0 notes.1) in
            by_bars events.0 events.1 notes.0 notes.1 laid.0 laid.1
        | inr fault ↦ loading_of (Err (Notes fault.0)) (events.0, events.1, fault.1, fault.2) (λ e. cc) tt
      ]
