-- Without options a file is played as it is loaded.
use Rattle.std.proofs.Common.{◌≡◌, ◌≢◌, ◌⊎◌, ◌∙◌, inl, inr, refl, sym, ap, subst, List, Result, Ok, Err}
use Rattle.std.specs.Prelude.{◌↔◌, IfOk}
use Rattle.note_list.specs.Pairing.{ArePaired, IsNoteFault}
use Rattle.note_list.specs.declared.fault.NoteFault.{NoteFault}
use Rattle.note_list.specs.declared.fault.NoteFault.TheVariants as note
use Rattle.performance_load.proofs.Formed.{file_take}
use Rattle.performance_load.proofs.TakesLoaded.{loadings_of_takes, loads_as_taken, loads_at_fault}
use Rattle.performance_load.specs.Loading.{AreMergedOf, IsLoaded, Loads, last_tick, note_fault_gives}
use Rattle.performance_load.specs.Take.{Take}
use Rattle.performance_load.specs.Taking.{IsTake, LoadsTake, Takes}
use Rattle.performance_load.specs.declared.load_fault.LoadFault.{LoadFault}
use Rattle.performance_load.specs.declared.load_fault.LoadFault.TheVariants.{Notes, Bars, Memory}
use Rattle.performance_prepare.specs.Laws.{no_options}
use Rattle.rhythm_app.specs.Outcome.{IsLoading, IsPlaying, IsPreparing, IsTakeLoading, IsTaking, load_stop, note_stop, stopped}
use Rattle.rhythm_app.specs.declared.stop.Stop.{Stop}
use Rattle.rhythm_app.specs.declared.stop.Stop.TheVariants.{Unprepared}
use Rattle.rhythm_base.specs.Bars.{IsLaying}
use Rattle.rhythm_base.specs.Performance.{IsWellFormed, Performance}
use Rattle.rhythm_base.specs.declared.event.Event.{Event}
use Rattle.rhythm_base.specs.declared.note.Note.{Note}
use Rattle.smf_reader.specs.Played.{Smf}
use Rattle.outcome_laws.specs.Laws.{PlayingsWithoutOptions}

module _ (f : Smf) where
  -- ---- as played, as loaded

  -- the take is the file's
  take_of : (t : Take) → IsTaking f (Ok t) → IsTake f t
  take_of t h = go h.0 h.1 h.3
    where
      go : (r : Result Take NoteFault) → Takes f r → ◌≡◌ {A = Result Take Stop} (Ok t) (stopped note_stop r) → IsTake f t
      go (Ok u) takes e = let same : u ≡ t = cc in subst (IsTake f) same takes
      go (Err fault) takes e = absurd (cc)

  -- and stays as it is
  same_take : (t u : Take) → IsPreparing no_options t (Ok u) → t ≡ u
  same_take t u e = cc

  loaded : (t : Take) (r : Result Performance Stop) → IsTake f t → IsTakeLoading t r → IsLoading f r
  loaded t r taken h = (h.0, loads_as_taken f t h.0 taken h.1, h.2, h.3, h.4)

  -- the notes of the file are at fault
  unloaded : (s : Stop) → IsTaking f (Err s) → IsLoading f (Err s)
  unloaded s h = go h.0 h.1 h.2 h.3
    where
      fault_is : (x : NoteFault) → x ≢ note.Memory → (Err (note_fault_gives x) ≢ (let r : Result Performance LoadFault = Err Memory in r)) × (note_stop x ≡ load_stop (note_fault_gives x))
      fault_is note.NoNotes other = ((λ e. cc), refl)
      fault_is (note.TooManyNotes count) other = ((λ e. cc), refl)
      fault_is note.Memory other = absurd (other refl)

      go : (r : Result Take NoteFault) → Takes f r → r ≢ Err note.Memory → ◌≡◌ {A = Result Take Stop} (Err s) (stopped note_stop r) → IsLoading f (Err s)
      go (Ok u) takes other e = absurd (cc)
      go (Err x) takes other e =
          let is = fault_is x (λ same. other (ap (λ (y : NoteFault). Err y) same)) in
          let stop : s ≡ note_stop x = cc in
          let line : ◌≡◌ {A = Result Performance Stop} (Err s) (Err (load_stop (note_fault_gives x))) = ap (λ (y : Stop). Err y) (stop ∙ is.1) in
          (Err (note_fault_gives x), loads_at_fault f x takes, is.0, tt, line)

  played_as_loaded : (r : Result Performance Stop) → IsPlaying no_options f r → IsLoading f r
  played_as_loaded (Ok p) (t, taken, (u, same, h)) = loaded t (Ok p) (take_of t taken) (subst (λ v. IsTakeLoading v (Ok p)) (sym (same_take t u same)) h)
  played_as_loaded (Err s) (inl h) = unloaded s h
  played_as_loaded (Err s) (inr (t, taken, inl h)) = absurd (cc)
  played_as_loaded (Err s) (inr (t, taken, inr (u, same, h))) =
      loaded t (Err s) (take_of t taken) (subst (λ v. IsTakeLoading v (Err s)) (sym (same_take t u same)) h)

  -- ---- as loaded, as played

  taken : (t : Take) → IsTake f t → IsTaking f (Ok t)
  taken t is = (Ok t, is, (λ e. cc), refl)

  by_take : (t : Take) → IsTake f t → (r : Result Performance Stop) → IsTakeLoading t r → IsPlaying no_options f r
  by_take t is (Ok p) h = (t, taken t is, (t, refl, h))
  by_take t is (Err s) h = inr (t, taken t is, inr (t, refl, h))

  by_fault : (x : NoteFault) → ((events : List Event) × AreMergedOf f events × IsNoteFault (last_tick f) events x) → x ≢ note.Memory → (s : Stop)
      → ◌≡◌ {A = Result Performance Stop} (Err s) (Err (load_stop (Notes x))) → IsPlaying no_options f (Err s)
  by_fault note.NoNotes is other s e = inl (Err note.NoNotes, is, (λ e. cc), (let same : s ≡ note_stop note.NoNotes = cc in ap (λ (y : Stop). Err y) same))
  by_fault (note.TooManyNotes count) is other s e =
      inl (Err (note.TooManyNotes count), is, (λ e. cc), (let same : s ≡ note_stop (note.TooManyNotes count) = cc in ap (λ (y : Stop). Err y) same))
  by_fault note.Memory is other s e = absurd (other refl)

  loaded_as_played : (r : Result Performance Stop) → IsLoading f r → IsPlaying no_options f r
  loaded_as_played r (Ok p, loads, other, well, e) =
      let t = (loadings_of_takes f p).0 loads in
      subst (IsPlaying no_options f) (sym e) (by_take t.0 t.1 (Ok p) (Ok p, t.2, (λ e. cc), well, refl))
  loaded_as_played (Ok p) (Err fault, loads, other, well, e) = absurd (cc)
  loaded_as_played (Err s) (Err (Notes x), loads, other, well, e) = by_fault x (loads.0, loads.1, loads.2) loads.3 s e
  loaded_as_played (Err s) (Err (Bars x), loads, other, well, e) =
      by_take (file_take f loads.0 loads.1)
      (record { events = loads.0; merged = loads.2; division = refl; notes = loads.3; tempos = refl; key_marks = refl; signatures = refl })
      (Err s) (Err (Bars x), loads.4, (λ e. cc), tt, e)
  loaded_as_played (Err s) (Err Memory, loads, other, well, e) = absurd (other refl)

pub untold : PlayingsWithoutOptions
untold f r = (played_as_loaded f r, loaded_as_played f r)
