-- What a file loads to is one: its performance, or one fault.
use Rattle.std.proofs.Common.{◌≡◌, ℕ, ◌<◌, List, [], ◌∷◌, length, map, refl, sym, ap, ◌∙◌, subst, arith}
use Rattle.std.specs.Prelude.{◌≢◌, Contains, Result, Ok, Err}
use Rattle.std.proofs.lemmas.List.Kept.{AllPairs-from_increasing}
use Rattle.note_list.proofs.Ending.{none_if_silent}
use Rattle.note_list.proofs.OneList.{are_one}
use Rattle.note_list.specs.Pairing.{ArePaired, AreSilent, IsNoteFault}
use Rattle.note_list.specs.declared.fault.NoteFault.{NoteFault}
use Rattle.note_list.specs.declared.fault.NoteFault.TheVariants as note
use Rattle.performance_load.specs.Loading.{AreMergedOf, AreVoicesOf, IsLoaded, Loads, greatest_end, greatest_onset, last_tick}
use Rattle.performance_load.specs.declared.load_fault.LoadFault.{LoadFault}
use Rattle.performance_load.specs.declared.load_fault.LoadFault.TheVariants.{Notes, Bars, Memory}
use Rattle.rhythm_base.specs.Bars.{IsLaying}
use Rattle.rhythm_base.specs.Notes.{AreNotes}
use Rattle.rhythm_base.specs.Performance.{Performance}
use Rattle.rhythm_base.specs.Time.{keys_of, signatures_of, tempos_of}
use Rattle.rhythm_base.specs.declared.bar_fault.BarFault.{BarFault}
use Rattle.rhythm_base.specs.declared.event.Event.{Event}
use Rattle.rhythm_base.specs.declared.note.Bar.{Bar}
use Rattle.rhythm_base.specs.declared.note.Note.{Note}
use Rattle.rhythm_base.proofs.FirstLists.{one_order}
use Rattle.performance_laws.proofs.OneEvents.{one_merged}
use Rattle.performance_laws.proofs.OneBars.{one_laying}
use Rattle.smf_reader.specs.Played.{Smf}

-- ---- voices

pub one_voices : (notes : List Note) (xs ys : List ℕ) → AreVoicesOf notes xs → AreVoicesOf notes ys → xs ≡ ys
one_voices notes xs ys h k =
    one_order (λ a b. a < b) (λ a b less more. omega (arith, less, more)) xs ys
    (λ i j d less within. AllPairs-from_increasing xs h.rise i j d less within)
    (λ i j d less within. AllPairs-from_increasing ys k.rise i j d less within)
    (λ c there. (k.exactly c).1 ((h.exactly c).0 there))
    (λ c there. (h.exactly c).1 ((k.exactly c).0 there))

-- ---- notes and their faults

-- without a note that begins there is none
silent_has_none : (last : ℕ) (events : List Event) (notes : List Note) → AreSilent events → AreNotes last events notes → length notes ≡ 0
silent_has_none last events [] silent are = refl
silent_has_none last events (n ∷ notes) silent are =
    let kept = (are.kept n).0 (0, omega arith, refl) in
    let none : Contains [] n = subst (λ l. Contains l n) (none_if_silent last events silent) kept.0 in
    absurd (omega (arith, none.1))

module _ (last : ℕ) (events : List Event) where
  one_count : (xs ys : List Note) → AreNotes last events xs → AreNotes last events ys → length xs ≡ length ys
  one_count xs ys h k = ap length (are_one last events xs ys h k)

  -- notes that are neither none nor too many have no fault
  no_note_fault : (notes : List Note) (fault : NoteFault) → ArePaired last events notes → IsNoteFault last events fault → fault ≢ note.Memory → ⊥
  no_note_fault notes note.NoNotes h k other = h.sounding k
  no_note_fault notes (note.TooManyNotes count) h k other =
      let same = one_count k.0 notes k.1 h.notes in
      omega (arith, same, k.2, k.3, h.few)
  no_note_fault notes note.Memory h k other = other refl

  not_both : (count : ℕ) → AreSilent events → IsNoteFault last events (note.TooManyNotes count) → ⊥
  not_both count silent many = let none = silent_has_none last events many.0 silent many.1 in omega (arith, none, many.2, many.3)

  pub one_note_fault : (x y : NoteFault) → IsNoteFault last events x → IsNoteFault last events y → x ≢ note.Memory → y ≢ note.Memory → x ≡ y
  one_note_fault note.NoNotes note.NoNotes h k a b = refl
  one_note_fault note.NoNotes (note.TooManyNotes count) h k a b = absurd (not_both count h k)
  one_note_fault note.NoNotes note.Memory h k a b = absurd (b refl)
  one_note_fault (note.TooManyNotes count) note.NoNotes h k a b = absurd (not_both count k h)
  one_note_fault (note.TooManyNotes count) (note.TooManyNotes count') h k a b = ap note.TooManyNotes (sym h.2 ∙ one_count h.0 k.0 h.1 k.1 ∙ k.2)
  one_note_fault (note.TooManyNotes count) note.Memory h k a b = absurd (b refl)
  one_note_fault note.Memory y h k a b = absurd (a refl)

-- ---- the performance

abbrev pub bars_in : Result (List Bar × ℕ) BarFault → List Bar
bars_in (Ok (bars, last)) = bars
bars_in (Err fault) = []

abbrev pub last_in : Result (List Bar × ℕ) BarFault → ℕ
last_in (Ok (bars, last)) = last
last_in (Err fault) = 0

module _ (f : Smf) where
  pub events_one : (es fs : List Event) → AreMergedOf f es → AreMergedOf f fs → es ≡ fs
  events_one es fs h k = one_merged (map (λ t. t.events) f.tracks) es fs h k

  pub notes_one : (es fs : List Event) (xs ys : List Note) → AreMergedOf f es → AreMergedOf f fs → ArePaired (last_tick f) es xs → ArePaired (last_tick f) fs ys → xs ≡ ys
  notes_one es fs xs ys h k p q =
      let same = events_one es fs h k in
      are_one (last_tick f) fs xs ys (subst (λ l. ArePaired (last_tick f) l xs) same p).notes q.notes

  abbrev Laying : List Event → List Note → Result (List Bar × ℕ) BarFault → Type 0
  Laying es notes r = IsLaying f.division (signatures_of es) (greatest_onset notes) (greatest_end notes) r

  layings_one : (es fs : List Event) (xs ys : List Note) (r s : Result (List Bar × ℕ) BarFault) → es ≡ fs → xs ≡ ys → Laying es xs r → Laying fs ys s → r ≡ s
  layings_one es fs xs ys r s e n h k =
      let moved : Laying fs xs r = subst (λ l. Laying l xs r) e h in
      one_laying f.division (signatures_of fs) (greatest_onset ys) (greatest_end ys) r s (subst (λ l. Laying fs l r) n moved) k

  one_loaded : (p q : Performance) → IsLoaded f p → IsLoaded f q → p ≡ q
  one_loaded p q h k =
      let events = events_one h.events k.events h.merged k.merged in
      let notes = notes_one h.events k.events p.notes q.notes h.merged k.merged h.notes k.notes in
      let laid = layings_one h.events k.events p.notes q.notes (Ok (p.bars, p.last)) (Ok (q.bars, q.last)) events notes h.bars k.bars in
      let division : p.division ≡ q.division = h.division ∙ sym k.division in
      let tempos : p.tempos ≡ q.tempos = h.tempos ∙ ap tempos_of events ∙ sym k.tempos in
      let key_marks : p.key_marks ≡ q.key_marks = h.key_marks ∙ ap keys_of events ∙ sym k.key_marks in
      let channels : p.channels ≡ q.channels = one_voices q.notes p.channels q.channels (subst (λ l. AreVoicesOf l p.channels) notes h.voices) k.voices in
      let bars : p.bars ≡ q.bars = ap bars_in laid in
      let last : p.last ≡ q.last = ap last_in laid in
      let pins : p.pins ≡ q.pins = h.pins ∙ sym k.pins in
      λ i. record {
        division = division i;
        tempos = tempos i;
        key_marks = key_marks i;
        bars = bars i;
        last = last i;
        channels = channels i;
        notes = notes i;
        pins = pins i;
      }

  -- ---- all answers

  pub faults_apart : (fault : NoteFault) (es fs : List Event) (notes : List Note) → AreMergedOf f es → AreMergedOf f fs
      → IsNoteFault (last_tick f) es fault → fault ≢ note.Memory → ArePaired (last_tick f) fs notes → ⊥
  faults_apart fault es fs notes h k x other p =
      no_note_fault (last_tick f) fs notes fault p (subst (λ l. IsNoteFault (last_tick f) l fault) (events_one es fs h k) x) other

  pub one_loading : (r s : Result Performance LoadFault) → Loads f r → Loads f s → r ≢ Err Memory → s ≢ Err Memory → r ≡ s
  one_loading (Ok p) (Ok q) h k a b = ap Ok (one_loaded p q h k)
  one_loading (Ok p) (Err (Notes y)) h k a b = absurd (faults_apart y k.0 h.events p.notes k.1 h.merged k.2 k.3 h.notes)
  one_loading (Ok p) (Err (Bars y)) h k a b =
      let events = events_one h.events k.0 h.merged k.2 in
      let notes = notes_one h.events k.0 p.notes k.1 h.merged k.2 h.notes k.3 in
      let wrong = layings_one h.events k.0 p.notes k.1 (Ok (p.bars, p.last)) (Err y) events notes h.bars k.4 in
      absurd (cc)
  one_loading (Ok p) (Err Memory) h k a b = absurd (b refl)
  one_loading (Err (Notes x)) (Ok q) h k a b = absurd (faults_apart x h.0 k.events q.notes h.1 k.merged h.2 h.3 k.notes)
  one_loading (Err (Notes x)) (Err (Notes y)) h k a b =
      let moved = subst (λ l. IsNoteFault (last_tick f) l x) (events_one h.0 k.0 h.1 k.1) h.2 in
      ap (λ z. Err (Notes z)) (one_note_fault (last_tick f) k.0 x y moved k.2 h.3 k.3)
  one_loading (Err (Notes x)) (Err (Bars y)) h k a b = absurd (faults_apart x h.0 k.0 k.1 h.1 k.2 h.2 h.3 k.3)
  one_loading (Err (Notes x)) (Err Memory) h k a b = absurd (b refl)
  one_loading (Err (Bars x)) (Ok q) h k a b =
      let events = events_one h.0 k.events h.2 k.merged in
      let notes = notes_one h.0 k.events h.1 q.notes h.2 k.merged h.3 k.notes in
      let wrong = layings_one h.0 k.events h.1 q.notes (Err x) (Ok (q.bars, q.last)) events notes h.4 k.bars in
      absurd (cc)
  one_loading (Err (Bars x)) (Err (Notes y)) h k a b = absurd (faults_apart y k.0 h.0 h.1 k.1 h.2 k.2 k.3 h.3)
  one_loading (Err (Bars x)) (Err (Bars y)) h k a b =
      let events = events_one h.0 k.0 h.2 k.2 in
      let notes = notes_one h.0 k.0 h.1 k.1 h.2 k.2 h.3 k.3 in
      let laid = layings_one h.0 k.0 h.1 k.1 (Err x) (Err y) events notes h.4 k.4 in
      let same : x ≡ y = cc in
      ap (λ z. Err (Bars z)) same
  one_loading (Err (Bars x)) (Err Memory) h k a b = absurd (b refl)
  one_loading (Err Memory) s h k a b = absurd (a refl)
