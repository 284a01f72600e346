-- The bars of a loaded piece.
use Rattle.std.proofs.Common.{◌≡◌, ℕ, ◌+◌, ◌-◌, ◌*◌, ◌≤◌, List, [], ◌∷◌, length, length-append, ◌==◌, Err, refl, sym, ap, ◌∙◌, subst, inl, inr, Ok, arith}
use Rattle.std.specs.Prelude.{◌≢◌, All, Contains, filter}
use Rattle.rhythm_base.proofs.Members.{Among, all_among, all_from_among, among_contained, among_left, among_both}
use Rattle.note_list.proofs.OneList.{are_one}
use Rattle.performance_load.proofs.EventLemmas.{below_greatest, chosen_all, greatest_low}
use Rattle.performance_load.specs.Loading.{AreMergedOf, IsLoaded, Loads, greatest_end, greatest_onset, last_tick}
use Rattle.performance_load.specs.declared.load_fault.LoadFault.{LoadFault}
use Rattle.performance_load.specs.declared.load_fault.LoadFault.TheVariants.{Notes, Bars, Memory}
use Rattle.note_list.proofs.Ending.{none_if_silent}
use Rattle.note_list.specs.Pairing.{ArePaired, IsNoteFault}
use Rattle.note_list.specs.declared.fault.NoteFault.{NoteFault}
use Rattle.note_list.specs.declared.fault.NoteFault.TheVariants as note
use Rattle.rhythm_base.specs.declared.bar_fault.BarFault.{BarFault}
use Rattle.rhythm_gen.specs.Draws.{draw}
use Rattle.rhythm_gen.proofs.Voices.{beats_few}
use Rattle.rhythm_base.specs.Bars.{IsLaying}
use Rattle.rhythm_base.specs.Performance.{Performance}
use Rattle.rhythm_base.specs.Time.{signature_in, signatures_of}
use Rattle.rhythm_base.specs.declared.event.Event.{Event}
use Rattle.rhythm_base.specs.declared.note.Note.{Note}
use Rattle.rhythm_gen.specs.MidiFile.{generated}
use Rattle.rhythm_gen.proofs.FirstBeats.{first_beat, some_notes}
use Rattle.rhythm_gen.proofs.Sung.{AreSung, sung_within}
use Rattle.smf_reader.proofs.OneOutcome.{one_outcome}
use Rattle.smf_reader.specs.Outcomes.{SaysFile}
use Rattle.smf_reader.specs.Played.{Smf}
use Rattle.piece_laws.specs.Events.{meant_file, meant_bars, meant_notes}
use Rattle.piece_laws.specs.Laws.{IsLoadingOf, PiecesAreLoaded, PiecesHaveTheirBars, PiecesKeepTheirNotes}
use Rattle.piece_laws.proofs.EvenBars.{IsFourFour, laid_bars, laid_without_fault, so_many}
use Rattle.piece_laws.proofs.Files.{pieces_read}
use Rattle.piece_laws.proofs.PieceEvents.{IsOfPiece, calm_signature}
use Rattle.piece_laws.proofs.PieceNotes.{are_notes, lower_notes, lower_sung, merged_events, upper_notes, upper_begun, upper_sung}

-- the notes of a voice are within its bars
in_bars : (voice low end : ℕ) (notes : List Note) → AreSung voice low notes end → (n : Note) → Among n notes → (n.onset + 220 ≤ end) × (n.end ≤ end)
in_bars voice low end [] sung n a = absurd a
in_bars voice low end (m ∷ ns) sung n (inl is) =
    let late = sung_within voice m.end end ns sung.1 in
    (omega (arith, ap (λ (x : Note). x.onset) is, sung.0.early), omega (arith, ap (λ (x : Note). x.end) is, late))
in_bars voice low end (m ∷ ns) sung n (inr a) = in_bars voice m.end end ns sung.1 n a

module _ (number bars : ℕ) where
  notes_in_bars : (n : Note) → Among n (meant_notes number bars) → (n.onset + 220 ≤ 1920 * bars) × (n.end ≤ 1920 * bars)
  notes_in_bars n a = elim (among_both (upper_notes number bars) (lower_notes number bars) n a) [
    | inl b ↦ in_bars 0 0 (1920 * bars) (upper_notes number bars) (upper_sung number bars) n b
    | inr b ↦ in_bars 1 0 (1920 * bars) (lower_notes number bars) (lower_sung number bars) n b
  ]

  -- the last onset is in the last bar, and not near to its end
  onset_in_last_bar : 1 ≤ bars → 1920 * (bars - 1) ≤ greatest_onset (meant_notes number bars)
  onset_in_last_bar some =
      let one = first_beat number bars 0 (bars - 1) (omega arith) in
      let notes : List Note = meant_notes number bars in
      let there : Among one.0 notes = among_left (upper_notes number bars) (lower_notes number bars) one.0 (among_contained (upper_notes number bars) one.0 one.1) in
      let below : one.0.onset ≤ greatest_onset notes = all_among (λ n. n.onset ≤ greatest_onset notes) notes (below_greatest (λ n. n.onset) notes) one.0 there in
      omega (arith, one.2.low, below)

  early_onset : 1 ≤ bars → greatest_onset (meant_notes number bars) + 220 ≤ 1920 * bars
  early_onset some =
      let notes : List Note = meant_notes number bars in
      let low : greatest_onset notes ≤ 1920 * bars - 220 = greatest_low (λ n. n.onset) notes (1920 * bars - 220)
      (all_from_among (λ n. n.onset ≤ 1920 * bars - 220) notes (λ n a. let le = (notes_in_bars n a).0 in omega (arith, le))) in
      omega (arith, low)

  -- and no end is after it
  ends_by_barline : greatest_end (meant_notes number bars) ≤ 1920 * bars
  ends_by_barline = greatest_low (λ n. n.end) (meant_notes number bars) (1920 * bars) (all_from_among (λ n. n.end ≤ 1920 * bars) (meant_notes number bars) (λ n a. (notes_in_bars n a).1))

  -- all signatures are 4/4
  four : (events : List Event) → AreMergedOf (meant_file number bars) events → All IsFourFour (signatures_of events)
  four events merged = chosen_all (λ e. signature_in e.tick e.what) (IsOfPiece (1920 * bars)) IsFourFour (calm_signature (1920 * bars)) events (merged_events number bars (last_tick (meant_file number bars)) events merged)

  module _ (p : Performance) (h : IsLoaded (meant_file number bars) p) where
    pub loaded_notes : p.notes ≡ meant_notes number bars
    loaded_notes = are_one (last_tick (meant_file number bars)) h.events p.notes (meant_notes number bars) h.notes.notes (are_notes number bars (last_tick (meant_file number bars)) h.events h.merged)

    loaded_bars : 1 ≤ bars → (length p.bars ≡ bars) × (p.last ≡ 1920 * bars)
    loaded_bars some =
        let P : List Note → Type 0 = λ notes. IsLaying 480 (signatures_of h.events) (greatest_onset notes) (greatest_end notes) (Ok (p.bars, p.last)) in
        so_many (signatures_of h.events) (four h.events h.merged) (greatest_onset (meant_notes number bars)) (greatest_end (meant_notes number bars)) bars p.bars p.last some (onset_in_last_bar some) (early_onset some) ends_by_barline
        (subst P loaded_notes h.bars)

-- a file of a piece says the piece
pub says_piece : (number bars : ℕ) (f : Smf) → bars ≤ 2000 → SaysFile (generated number bars) f → f ≡ meant_file number bars
says_piece number bars f few says = (one_outcome (generated number bars)).one_reading f (meant_file number bars) says (pieces_read number bars few)

pub pieces_bars : PiecesHaveTheirBars
pieces_bars = record {
  count = λ number bars p h. (both number bars p h).0;
  each = λ number bars p h. each number bars p h ∙ ap meant_bars (both number bars p h).0;
  last = λ number bars p h. (both number bars p h).1;
}
  where
    loaded : (number bars : ℕ) (p : Performance) → IsLoadingOf number bars (Ok p) → IsLoaded (meant_file number bars) p
    loaded number bars p h = subst (λ g. IsLoaded g p) (says_piece number bars h.file h.few_bars h.says) h.loads

    both : (number bars : ℕ) (p : Performance) → IsLoadingOf number bars (Ok p) → (length p.bars ≡ bars) × (p.last ≡ 1920 * bars)
    both number bars p h = loaded_bars number bars p (loaded number bars p h) h.some_bar

    each : (number bars : ℕ) (p : Performance) → IsLoadingOf number bars (Ok p) → p.bars ≡ meant_bars (length p.bars)
    each number bars p h =
        let is = loaded number bars p h in
        laid_bars (signatures_of is.events) (four number bars is.events is.merged) 0 0 p.bars p.last 0 is.bars.0 refl

pub pieces_notes : PiecesKeepTheirNotes
pieces_notes = record { notes = kept; many = λ number bars p h. many number bars p (kept number bars p h) }
  where
    kept : (number bars : ℕ) (p : Performance) → IsLoadingOf number bars (Ok p) → p.notes ≡ meant_notes number bars
    kept number bars p h = loaded_notes number bars p (subst (λ g. IsLoaded g p) (says_piece number bars h.file h.few_bars h.says) h.loads)

    many : (number bars : ℕ) (p : Performance) → p.notes ≡ meant_notes number bars → 2 * bars ≤ length p.notes
    many number bars p same = omega (
      arith,
      ap length same,
      length-append (upper_notes number bars) (lower_notes number bars),
      some_notes number bars 0,
      some_notes (draw number (4 * bars)) bars 1,
    )

-- ---- no fault

module _ (number bars : ℕ) (some : 1 ≤ bars) (few : bars ≤ 2000) where
  notes_without_fault : (events : List Event) (fault : NoteFault) → AreMergedOf (meant_file number bars) events → IsNoteFault (last_tick (meant_file number bars)) events fault → fault ≢ note.Memory → ⊥
  notes_without_fault events note.NoNotes merged h other =
      let one = first_beat number bars 0 0 some in
      let none : upper_notes number bars ≡ [] = sym (upper_begun number bars (last_tick (meant_file number bars)) events merged) ∙ ap (filter (λ n. n.channel == 0)) (none_if_silent (last_tick (meant_file number bars)) events h) in
      let there : Contains [] one.0 = subst (λ l. Contains l one.0) none one.1 in
      omega (arith, there.1)
  notes_without_fault events (note.TooManyNotes count) merged h other =
      let same : h.0 ≡ meant_notes number bars = are_one (last_tick (meant_file number bars)) events h.0 (meant_notes number bars) h.1 (are_notes number bars (last_tick (meant_file number bars)) events merged) in
      omega (
        arith,
        ap length same,
        h.2,
        h.3,
        length-append (upper_notes number bars) (lower_notes number bars),
        beats_few number 0 (4 * bars),
        beats_few (draw number (4 * bars)) 1 (4 * bars),
      )
  notes_without_fault events note.Memory merged h other = other refl

  bars_without_fault : (events : List Event) (notes : List Note) (fault : BarFault) → AreMergedOf (meant_file number bars) events → ArePaired (last_tick (meant_file number bars)) events notes
      → IsLaying 480 (signatures_of events) (greatest_onset notes) (greatest_end notes) (Err fault) → ⊥
  bars_without_fault events notes fault merged paired h =
      let last = last_tick (meant_file number bars) in
      let same : notes ≡ meant_notes number bars = are_one last events notes (meant_notes number bars) paired.notes (are_notes number bars last events merged) in
      let P : List Note → Type 0 = λ l. IsLaying 480 (signatures_of events) (greatest_onset l) (greatest_end l) (Err fault) in
      laid_without_fault (signatures_of events) (four number bars events merged) (greatest_onset (meant_notes number bars)) (greatest_end (meant_notes number bars)) bars fault some few (early_onset number bars some) (ends_by_barline number bars) (subst P same h)

  is_loaded : (fault : LoadFault) → Loads (meant_file number bars) (Err fault) → fault ≡ Memory
  is_loaded (Notes fault) h = absurd (notes_without_fault h.0 fault h.1 h.2 h.3)
  is_loaded (Bars fault) h = absurd (bars_without_fault h.0 h.1 fault h.2 h.3 h.4)
  is_loaded Memory h = refl

pub pieces_loaded : PiecesAreLoaded
pieces_loaded number bars fault h = is_loaded number bars h.some_bar h.few_bars fault (subst (λ g. Loads g (Err fault)) (says_piece number bars h.file h.few_bars h.says) h.loads)
