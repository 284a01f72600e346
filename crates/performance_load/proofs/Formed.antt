-- The take of a file is well formed, and so is its performance.
use Rattle.std.proofs.Common.{◌≡◌, ℕ, ◌≤◌, List, map, get_or, subst, refl, arith, Some}
use Rattle.std.specs.Prelude.{All, ◌≤ℤ◌, pos, negsuc}
use Rattle.std.specs.List.Sorted.{IsNonDecreasing}
use Rattle.rhythm_base.specs.declared.event.Event.{Event}
use Rattle.rhythm_base.specs.declared.event.KeyMark.{KeyMark}
use Rattle.rhythm_base.specs.declared.event.Signature.{Signature}
use Rattle.rhythm_base.specs.declared.event.Tempo.{Tempo}
use Rattle.rhythm_base.specs.declared.event.What.{What}
use Rattle.rhythm_base.specs.declared.event.What.TheVariants as what
use Rattle.rhythm_base.specs.declared.note.Note.{Note}
use Rattle.rhythm_base.specs.Performance.{IsKeyMark, IsTempo}
use Rattle.rhythm_base.specs.Time.{key_in, keys_of, signature_in, signatures_of, tempo_in, tempos_of}
use Rattle.note_list.specs.Pairing.{ArePaired, IsPlayable, IsEventOf, IsPlayed}
use Rattle.smf_reader.specs.Played.{Smf}
use Rattle.smf_reader.specs.Ranges.{IsPlayedFile, IsPlayedTrack, IsSaid}
use Rattle.performance_load.specs.Loading.{AreMergedOf, LoadedPerformancesAreWellFormed, greatest_end, greatest_onset, last_tick}
use Rattle.performance_load.specs.Take.{Take}
use Rattle.performance_load.specs.Taking.{AreMarksUpTo, IsTakeFormed}
use Rattle.performance_load.proofs.FormedTakes.{loaded_well}
use Rattle.performance_load.proofs.EventLemmas.{all_merged, all_tracks, below_greatest, chosen_all, chosen_in_order, greatest_low}
use Rattle.performance_load.proofs.PlayedNotes.{notes_are_played}
use Rattle.performance_load.proofs.SomeNote.{some_note}

-- the take of these events and notes
abbrev pub file_take : Smf → List Event → List Note → Take
file_take f events notes = record {
  division = f.division;
  notes = notes;
  tempos = tempos_of events;
  key_marks = keys_of events;
  signatures = signatures_of events;
}

-- ---- the events

has_key : (w : What) → IsSaid w → IsPlayable w
has_key (what.On c k) h = h
has_key (what.Off c k) h = h
has_key _ h = tt

abbrev IsFileEvent : ℕ → Event → Type 0
IsFileEvent last e = (e.tick ≤ last) × IsSaid e.what

module _ (f : Smf) (events : List Event) (played : IsPlayedFile f) (merged : AreMergedOf f events) where
  all_events : All (IsFileEvent (last_tick f)) events
  all_events =
      all_merged (IsFileEvent (last_tick f)) (map (λ t. t.events) f.tracks) events merged
      (all_tracks (IsFileEvent (last_tick f)) f.tracks (λ i d lt k e within. (
        let t : IsPlayedTrack (get_or f.tracks i d) = played.tracks i d lt in
            let most = below_greatest (λ t. t.last) f.tracks i d lt in
            let here = t.within k e within in
            omega (arith, most, here),
        (played.tracks i d lt).said k e within,
      )))

  pub are_events : All (IsEventOf (last_tick f)) events
  are_events k d lt = let e = all_events k d lt in record { tick = e.0; keyed = has_key (get_or events k d).what e.1 }

  pub few_ticks : last_tick f ≤ 1000000000
  few_ticks = greatest_low (λ t. t.last) f.tracks 1000000000 (λ k d lt. (played.tracks k d lt).few_ticks)

  tempo_tick : (e : Event) (t : Tempo) → tempo_in e.tick e.what ≡ Some t → t.tick ≡ e.tick
  tempo_tick e t is = by e.what is
    where
      by : (w : What) → tempo_in e.tick w ≡ Some t → t.tick ≡ e.tick
      by (what.Tempo m) is = cc
      by _ is = absurd (cc)

  key_tick : (e : Event) (t : KeyMark) → key_in e.tick e.what ≡ Some t → t.tick ≡ e.tick
  key_tick e t is = by e.what is
    where
      by : (w : What) → key_in e.tick w ≡ Some t → t.tick ≡ e.tick
      by (what.KeySig s) is = cc
      by _ is = absurd (cc)

  signature_tick : (e : Event) (t : Signature) → signature_in e.tick e.what ≡ Some t → t.tick ≡ e.tick
  signature_tick e t is = by e.what is
    where
      by : (w : What) → signature_in e.tick w ≡ Some t → t.tick ≡ e.tick
      by (what.Signature a b) is = cc
      by _ is = absurd (cc)

  is_tempo : (e : Event) (t : Tempo) → IsFileEvent (last_tick f) e → tempo_in e.tick e.what ≡ Some t → IsTempo t
  is_tempo e t h is = by e.what h.1 is
    where
      by : (w : What) → IsSaid w → tempo_in e.tick w ≡ Some t → IsTempo t
      by (what.Tempo m) h is = let same : m ≡ t.micros = cc in record { some = subst (λ n. 1 ≤ n) same h.0; few = subst (λ n. n ≤ 16777215) same h.1 }
      by _ h is = absurd (cc)

  is_key_mark : (e : Event) (t : KeyMark) → IsFileEvent (last_tick f) e → key_in e.tick e.what ≡ Some t → IsKeyMark t
  is_key_mark e t h is = by e.what h.1 is
    where
      by : (w : What) → IsSaid w → key_in e.tick w ≡ Some t → IsKeyMark t
      by (what.KeySig s) h is = let same : s ≡ t.sf = cc in record { low = subst (λ z. negsuc 6 ≤ℤ z) same h.0; high = subst (λ z. z ≤ℤ pos 7) same h.1 }
      by _ h is = absurd (cc)

  pub signatures_in_order : IsNonDecreasing (map (λ s. s.tick) (signatures_of events))
  signatures_in_order = chosen_in_order (λ e. signature_in e.tick e.what) (λ s. s.tick) signature_tick events merged.in_order

  pub marks_low : (notes : List Note) → AreMarksUpTo 1000000000 (file_take f events notes)
  marks_low notes = record {
    tempos = chosen_all (λ e. tempo_in e.tick e.what) (IsFileEvent (last_tick f)) (λ t. t.tick ≤ 1000000000) (λ e t h is. omega (arith, h.0, tempo_tick e t is, few_ticks)) events all_events;
    key_marks = chosen_all (λ e. key_in e.tick e.what) (IsFileEvent (last_tick f)) (λ t. t.tick ≤ 1000000000) (λ e t h is. omega (arith, h.0, key_tick e t is, few_ticks)) events all_events;
    signatures = chosen_all (λ e. signature_in e.tick e.what) (IsFileEvent (last_tick f)) (λ t. t.tick ≤ 1000000000) (λ e t h is. omega (arith, h.0, signature_tick e t is, few_ticks)) events all_events;
  }

  -- ---- the notes

  module _ (notes : List Note) (paired : ArePaired (last_tick f) events notes) where
    sounded : All (IsPlayed (last_tick f)) notes
    sounded = notes_are_played (last_tick f) events notes merged.in_order are_events paired.notes

    pub onset_low : greatest_onset notes ≤ greatest_end notes
    onset_low =
        greatest_low (λ n. n.onset) notes (greatest_end notes) (λ k d lt.
        let n = sounded k d lt in
        let most = below_greatest (λ n. n.end) notes k d lt in
        omega (arith, n.after, most))

    pub end_low : greatest_end notes ≤ 1000000000
    end_low = greatest_low (λ n. n.end) notes 1000000000 (λ k d lt. let n = sounded k d lt in omega (arith, n.within, few_ticks))

    -- the take of the file
    pub take_formed : IsTakeFormed (file_take f events notes)
    take_formed = record {
      division_low = played.some_tick;
      division_high = played.few_ticks;
      some_note = some_note (last_tick f) events notes paired;
      few_notes = paired.few;
      notes = λ k d lt. let n = sounded k d lt in let most = few_ticks in record {
        channel = n.channel;
        key = n.key;
        after = n.after;
        within = omega (arith, n.within, most);
      };
      notes_in_order = paired.notes.in_order;
      tempos = chosen_all (λ e. tempo_in e.tick e.what) (IsFileEvent (last_tick f)) IsTempo is_tempo events all_events;
      tempos_in_order = chosen_in_order (λ e. tempo_in e.tick e.what) (λ t. t.tick) tempo_tick events merged.in_order;
      key_marks = chosen_all (λ e. key_in e.tick e.what) (IsFileEvent (last_tick f)) IsKeyMark is_key_mark events all_events;
      key_marks_in_order = chosen_in_order (λ e. key_in e.tick e.what) (λ t. t.tick) key_tick events merged.in_order;
      signatures_in_order = signatures_in_order;
    }

-- the performance of a file is well formed
pub loaded_formed : LoadedPerformancesAreWellFormed
loaded_formed f p played h = loaded_well (file_take f h.events p.notes) (take_formed f h.events played h.merged p.notes h.notes) p record {
  division = h.division;
  tempos = h.tempos;
  key_marks = h.key_marks;
  notes = refl;
  bars = h.bars;
  voices = h.voices;
  pins = h.pins;
}
