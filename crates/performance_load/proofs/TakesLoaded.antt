-- A file is loaded as its take is; and a file has one take, which has one performance.
use Rattle.std.proofs.Common.{◌≡◌, refl, sym, ap, ◌∙◌, subst}
use Rattle.std.specs.Prelude.{◌≢◌, Result, Ok, Err}
use Rattle.note_list.specs.Pairing.{ArePaired, IsNoteFault}
use Rattle.note_list.specs.declared.fault.NoteFault.{NoteFault}
use Rattle.note_list.specs.declared.fault.NoteFault.TheVariants as note
use Rattle.rhythm_base.specs.Performance.{Performance}
use Rattle.performance_laws.proofs.OneBars.{one_laying}
use Rattle.smf_reader.specs.Played.{Smf}
use Rattle.smf_reader.specs.Ranges.{IsPlayedFile}
use Rattle.performance_load.specs.Laws.{LoadingsAreOfTakes, TakesAreFormed, TakesAreLoadedAsOne, TakesAreOne}
use Rattle.performance_load.specs.Loading.{IsLoaded, Loads, greatest_end, greatest_onset, last_tick, note_fault_gives}
use Rattle.performance_load.specs.Take.{Take}
use Rattle.performance_load.specs.Taking.{AreMarksUpTo, IsLoadedOf, IsTake, IsTakeFormed, LoadsTake, Takes}
use Rattle.performance_load.specs.declared.load_fault.LoadFault.{LoadFault}
use Rattle.performance_load.specs.declared.load_fault.LoadFault.TheVariants.{Notes, Bars, Memory}
use Rattle.performance_load.proofs.Formed.{file_take, marks_low, take_formed}
use Rattle.performance_load.proofs.FormedTakes.{loaded_well}
use Rattle.performance_load.proofs.OneLoading.{bars_in, events_one, faults_apart, last_in, notes_one, one_note_fault, one_voices}

-- ---- one take

module _ (f : Smf) (t : Take) (h : IsTake f t) where
  pub taken : file_take f h.events t.notes ≡ t
  taken = λ i. record {
    division = sym h.division i;
    notes = t.notes;
    tempos = sym h.tempos i;
    key_marks = sym h.key_marks i;
    signatures = sym h.signatures i;
  }

  pub taken_formed : IsPlayedFile f → IsTakeFormed t
  taken_formed played = subst IsTakeFormed taken (take_formed f h.events played h.merged t.notes h.notes)

  pub taken_marks : IsPlayedFile f → AreMarksUpTo 1000000000 t
  taken_marks played = subst (AreMarksUpTo 1000000000) taken (marks_low f h.events played h.merged t.notes)

pub takes_formed : TakesAreFormed
takes_formed f t played h = (taken_formed f t h played, taken_marks f t h played)

same_take : (f : Smf) (t u : Take) → IsTake f t → IsTake f u → t ≡ u
same_take f t u h k =
    let events = events_one f h.events k.events h.merged k.merged in
    let notes = notes_one f h.events k.events t.notes u.notes h.merged k.merged h.notes k.notes in
    let joined : file_take f h.events t.notes ≡ file_take f k.events u.notes = λ i. file_take f (events i) (notes i) in
    sym (taken f t h) ∙ joined ∙ taken f u k

-- a fault of the notes of a file, as one that is not want of memory
fault_of_notes : (f : Smf) (x : NoteFault) → Takes f (Err x) → x ≢ note.Memory → Loads f (Err (Notes x))
fault_of_notes f note.NoNotes h a = (h.0, h.1, h.2, a)
fault_of_notes f (note.TooManyNotes count) h a = (h.0, h.1, h.2, a)
fault_of_notes f note.Memory h a = absurd (a refl)

fault_of_take : (f : Smf) (t : Take) (x : NoteFault) → IsTake f t → Takes f (Err x) → x ≢ note.Memory → ⊥
fault_of_take f t x h k a =
    let l = fault_of_notes f x k a in
    faults_apart f x l.0 h.events t.notes l.1 h.merged l.2 l.3 h.notes

other : (x : NoteFault) → ((let r : Result Take NoteFault = Err x in r) ≢ Err note.Memory) → x ≢ note.Memory
other x a same = a (ap (λ y. Err y) same)

same_fault : (f : Smf) (x y : NoteFault) → Takes f (Err x) → Takes f (Err y) → x ≢ note.Memory → y ≢ note.Memory → x ≡ y
same_fault f x y h k a b =
    let l = fault_of_notes f x h a in
    let m = fault_of_notes f y k b in
    let moved = subst (λ es. IsNoteFault (last_tick f) es x) (events_one f l.0 m.0 l.1 m.1) l.2 in
    one_note_fault (last_tick f) m.0 x y moved m.2 a b

pub takes_one : TakesAreOne
takes_one f (Ok t) (Ok u) h k a b = ap Ok (same_take f t u h k)
takes_one f (Ok t) (Err y) h k a b = absurd (fault_of_take f t y h k (other y b))
takes_one f (Err x) (Ok u) h k a b = absurd (fault_of_take f u x k h (other x a))
takes_one f (Err x) (Err y) h k a b = ap Err (same_fault f x y h k (other x a) (other y b))

-- ---- one performance of a take

same_loaded : (t : Take) (p q : Performance) → IsLoadedOf t p → IsLoadedOf t q → p ≡ q
same_loaded t p q h k =
    let laid = one_laying t.division t.signatures (greatest_onset t.notes) (greatest_end t.notes) (Ok (p.bars, p.last)) (Ok (q.bars, q.last)) h.bars k.bars in
    let division : p.division ≡ q.division = h.division ∙ sym k.division in
    let tempos : p.tempos ≡ q.tempos = h.tempos ∙ sym k.tempos in
    let key_marks : p.key_marks ≡ q.key_marks = h.key_marks ∙ sym k.key_marks in
    let bars : p.bars ≡ q.bars = ap bars_in laid in
    let last : p.last ≡ q.last = ap last_in laid in
    let channels : p.channels ≡ q.channels = one_voices t.notes p.channels q.channels h.voices k.voices in
    let notes : p.notes ≡ q.notes = h.notes ∙ sym k.notes in
    let pins : p.pins ≡ q.pins = h.pins ∙ sym k.pins in
    λ i. record {
      division = division i;
      tempos = tempos i;
      key_marks = key_marks i;
      bars = bars i;
      last = last i;
      channels = channels i;
      notes = notes i;
      pins = pins i;
    }

one_loaded_take : (t : Take) (r s : Result Performance LoadFault) → LoadsTake t r → LoadsTake t s → r ≢ Err Memory → s ≢ Err Memory → r ≡ s
one_loaded_take t (Ok p) (Ok q) h k a b = ap Ok (same_loaded t p q h k)
one_loaded_take t (Ok p) (Err (Notes y)) h k a b = absurd k
one_loaded_take t (Ok p) (Err (Bars y)) h k a b =
    let wrong = one_laying t.division t.signatures (greatest_onset t.notes) (greatest_end t.notes) (Ok (p.bars, p.last)) (Err y) h.bars k in
    absurd (cc)
one_loaded_take t (Ok p) (Err Memory) h k a b = absurd (b refl)
one_loaded_take t (Err (Notes x)) s h k a b = absurd h
one_loaded_take t (Err (Bars x)) (Ok q) h k a b =
    let wrong = one_laying t.division t.signatures (greatest_onset t.notes) (greatest_end t.notes) (Err x) (Ok (q.bars, q.last)) h k.bars in
    absurd (cc)
one_loaded_take t (Err (Bars x)) (Err (Notes y)) h k a b = absurd k
one_loaded_take t (Err (Bars x)) (Err (Bars y)) h k a b =
    let laid = one_laying t.division t.signatures (greatest_onset t.notes) (greatest_end t.notes) (Err x) (Err y) h k in
    let same : x ≡ y = cc in
    ap (λ z. Err (Bars z)) same
one_loaded_take t (Err (Bars x)) (Err Memory) h k a b = absurd (b refl)
one_loaded_take t (Err Memory) s h k a b = absurd (a refl)

pub takes_loaded : TakesAreLoadedAsOne
takes_loaded = record {
  one = one_loaded_take;
  formed = λ t p h l. loaded_well t h p l;
}

-- ---- a file and its take

-- the performance of a file's take is that of the file
pub loaded_as_taken : (f : Smf) (t : Take) (p : Performance) → IsTake f t → IsLoadedOf t p → IsLoaded f p
loaded_as_taken f t p h l =
    let moved : IsLoadedOf (file_take f h.events t.notes) p = subst (λ u. IsLoadedOf u p) (sym (taken f t h)) l in
    let back : IsLoadedOf (file_take f h.events p.notes) p = subst (λ ns. IsLoadedOf (file_take f h.events ns) p) (sym l.notes) moved in
    record {
      events = h.events;
      merged = h.merged;
      division = back.division;
      tempos = back.tempos;
      key_marks = back.key_marks;
      notes = subst (ArePaired (last_tick f) h.events) (sym l.notes) h.notes;
      bars = back.bars;
      voices = back.voices;
      pins = back.pins;
    }

taken_as_loaded : (f : Smf) (p : Performance) → IsLoaded f p → (t : Take) × IsTake f t × IsLoadedOf t p
taken_as_loaded f p h = (
  file_take f h.events p.notes,
  record { events = h.events; merged = h.merged; division = refl; notes = h.notes; tempos = refl; key_marks = refl; signatures = refl },
  record { division = h.division; tempos = h.tempos; key_marks = h.key_marks; notes = refl; bars = h.bars; voices = h.voices; pins = h.pins },
)

pub loadings_of_takes : LoadingsAreOfTakes
loadings_of_takes f p = (taken_as_loaded f p, λ h. loaded_as_taken f h.0 p h.1 h.2)

-- what a file loads to is what its take does
pub loads_as_taken : (f : Smf) (t : Take) (r : Result Performance LoadFault) → IsTake f t → LoadsTake t r → Loads f r
loads_as_taken f t (Ok p) h l = loaded_as_taken f t p h l
loads_as_taken f t (Err (Notes x)) h l = absurd l
loads_as_taken f t (Err (Bars x)) h l = (
  h.events,
  t.notes,
  h.merged,
  h.notes,
  subst (λ u. LoadsTake u (Err (Bars x))) (sym (taken f t h)) l,
)
loads_as_taken f t (Err Memory) h l = tt

-- or what is wrong with its notes
pub loads_at_fault : (f : Smf) (x : NoteFault) → Takes f (Err x) → Loads f (Err (note_fault_gives x))
loads_at_fault f note.Memory h = tt
loads_at_fault f note.NoNotes h = fault_of_notes f note.NoNotes h (λ e. cc)
loads_at_fault f (note.TooManyNotes count) h = fault_of_notes f (note.TooManyNotes count) h (λ e. cc)
