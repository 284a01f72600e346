-- The notes of a loaded piece are those that it was made of.
use Rattle.std.proofs.Common.{◌≡◌, ◌⊎◌, ℕ, ◌*◌, ◌<◌, ◌≤◌, ◌==◌, true, List, [], ◌∷◌, ◌++◌, map, refl, sym, ap, ◌∙◌, subst, append-nil, inl, inr, arith}
use Rattle.std.specs.Prelude.{All, Contains, filter}
use Rattle.std.specs.List.{flat_map}
use Rattle.std.proofs.lemmas.Bool.{cases_lt}
use Rattle.std.proofs.lemmas.Bool.Decides.{nat_tests}
use Rattle.std.proofs.lemmas.List.Elements.{All-append, All-nil, filter-append}
use Rattle.rhythm_base.proofs.Members.{Among, all_among, all_from_among, among_contained, place_among, pairs_from, Pairwise, among_left, among_right, among_both, kept_by}
use Rattle.note_list.proofs.Places.{IsBefore, not_before_itself}
use Rattle.performance_load.proofs.EventLemmas.{all_merged}
use Rattle.rhythm_base.specs.Events.{IsMerged}
use Rattle.rhythm_base.specs.Notes.{AreNotes, IsKept, begun}
use Rattle.rhythm_base.specs.declared.event.Event.{Event}
use Rattle.rhythm_base.specs.declared.note.Note.{Note}
use Rattle.rhythm_gen.specs.Draws.{draw}
use Rattle.rhythm_gen.specs.Voice.{voice_notes}
use Rattle.rhythm_gen.proofs.Sung.{AreSung, voice_sung}
use Rattle.piece_laws.specs.Events.{meant_file, meant_notes, played_conductor, played_note}
use Rattle.smf_laws.proofs.PlayedNotes.{notes_begun}
use Rattle.piece_laws.proofs.ChannelNotes.{channel_begun, channel_events, channel_is, no_events, of_channel, own_events}
use Rattle.piece_laws.proofs.NoteEvents.{begins_with, from_event, out_of}
use Rattle.piece_laws.proofs.PieceEvents.{IsOfPiece, conductor_events, voice_events}
use Rattle.rhythm_base.proofs.NotePlaces.{ArePlacedAlike}

-- ---- the order of the notes

before_onset : (m n : Note) → m.channel ≡ n.channel → m.onset < n.onset → IsBefore m n
before_onset m n same less = grind (arith, nat_tests)

before_channel : (m n : Note) → m.channel < n.channel → IsBefore m n
before_channel m n less = grind (arith, nat_tests)

later_note : (voice low end : ℕ) (notes : List Note) (n : Note) → AreSung voice low notes end → Among n notes → (n.channel ≡ voice) × (low ≤ n.onset)
later_note voice low end [] n sung a = absurd a
later_note voice low end (m ∷ ns) n sung (inl is) =
    (ap (λ (x : Note). x.channel) is ∙ sung.0.of_voice, omega (arith, ap (λ (x : Note). x.onset) is, sung.0.after))
later_note voice low end (m ∷ ns) n sung (inr a) =
    let rest = later_note voice m.end end ns n sung.1 a in
    (rest.0, omega (arith, rest.1, sung.0.after, sung.0.order))

-- the notes of a voice, and after them those of later channels
in_order : (voice low end : ℕ) (notes others : List Note) → AreSung voice low notes end → Pairwise IsBefore others → ((n : Note) → Among n others → voice < n.channel) → Pairwise IsBefore (notes ++ others)
in_order voice low end [] others sung order far = order
in_order voice low end (m ∷ ns) others sung order far = ((λ n a. near n (among_both ns others n a)), in_order voice m.end end ns others sung.1 order far)
  where
    near : (n : Note) → Among n ns ⊎ Among n others → IsBefore m n
    near n (inl a) =
        let later = later_note voice m.end end ns n sung.1 a in
        before_onset m n (sung.0.of_voice ∙ sym later.0) (omega (arith, later.1, sung.0.order))
    near n (inr b) = before_channel m n (omega (arith, far n b, sung.0.of_voice))

-- of notes in order one alone is at a place
one_at : (notes : List Note) (m n : Note) → Pairwise IsBefore notes → Among m notes → Among n notes → ArePlacedAlike m n → m ≡ n
one_at [] m n order a b same = absurd a
one_at (x ∷ xs) m n order (inl e) (inl f) same = e ∙ sym f
one_at (x ∷ xs) m n order (inl e) (inr b) same = absurd (not_before_itself m n same (subst (λ y. IsBefore y n) (sym e) (order.0 n b)))
one_at (x ∷ xs) m n order (inr a) (inl f) same =
    absurd (not_before_itself n m (record { channel = sym same.channel; onset = sym same.onset; key = sym same.key }) (subst (λ y. IsBefore y m) (sym f) (order.0 m a)))
one_at (x ∷ xs) m n order (inr a) (inr b) same = one_at xs m n order.1 a b same

-- ---- a piece

module _ (number bars : ℕ) where
  abbrev pub upper_notes : List Note
  upper_notes = voice_notes number bars 0

  abbrev pub lower_notes : List Note
  lower_notes = voice_notes (draw number (4 * bars)) bars 1

  abbrev pub track_events : List (List Event)
  track_events = map (λ t. t.events) (meant_file number bars).tracks

  pub upper_sung : AreSung 0 0 upper_notes (1920 * bars)
  upper_sung = voice_sung number bars 0

  pub lower_sung : AreSung 1 0 lower_notes (1920 * bars)
  lower_sung = voice_sung (draw number (4 * bars)) bars 1

  notes_order : Pairwise IsBefore (meant_notes number bars)
  notes_order =
      let second : Pairwise IsBefore lower_notes = subst (Pairwise IsBefore) (append-nil lower_notes) (in_order 1 0 (1920 * bars) lower_notes [] lower_sung tt (λ n a. absurd a)) in
      in_order 0 0 (1920 * bars) upper_notes lower_notes upper_sung second (λ n a. let later = later_note 1 0 (1920 * bars) lower_notes n lower_sung a in omega (arith, later.0))

  -- the events of all tracks are those of a piece
  all_events : All (IsOfPiece (1920 * bars)) (flat_map (λ track. track) track_events)
  all_events =
      let P : Event → Type 0 = IsOfPiece (1920 * bars) in
      let first : List Event = flat_map played_note upper_notes in
      let second : List Event = flat_map played_note lower_notes in
      All-append P played_conductor.events (first ++ (second ++ [])) (conductor_events (1920 * bars))
      (All-append P first (second ++ []) (voice_events 0 0 (1920 * bars) upper_notes (omega arith) upper_sung)
      (All-append P second [] (voice_events 1 0 (1920 * bars) lower_notes (omega arith) lower_sung) (All-nil P)))

  -- those of a channel
  only : (channel : ℕ) → channel_events channel (flat_map (λ track. track) track_events) ≡ channel_events channel (flat_map played_note upper_notes) ++ channel_events channel (flat_map played_note lower_notes)
  only channel =
      let first : List Event = flat_map played_note upper_notes in
      let second : List Event = flat_map played_note lower_notes in
      ap (λ (l : List Event). channel_events channel (first ++ l)) (append-nil second) ∙ filter-append (λ e. of_channel channel e.what) first second

  only_upper : channel_events 0 (flat_map (λ track. track) track_events) ≡ flat_map played_note upper_notes
  only_upper =
      only 0
      ∙ ap (λ (l : List Event). l ++ channel_events 0 (flat_map played_note lower_notes)) (own_events 0 0 (1920 * bars) upper_notes upper_sung)
      ∙ ap (λ (l : List Event). flat_map played_note upper_notes ++ l) (no_events 1 0 0 (1920 * bars) lower_notes refl lower_sung)
      ∙ append-nil (flat_map played_note upper_notes)

  only_lower : channel_events 1 (flat_map (λ track. track) track_events) ≡ flat_map played_note lower_notes
  only_lower =
      only 1
      ∙ ap (λ (l : List Event). l ++ channel_events 1 (flat_map played_note lower_notes)) (no_events 0 1 0 (1920 * bars) upper_notes refl upper_sung)
      ∙ own_events 1 0 (1920 * bars) lower_notes lower_sung

  module _ (last : ℕ) (merged : List Event) (h : IsMerged track_events merged) where
    pub merged_events : All (IsOfPiece (1920 * bars)) merged
    merged_events = all_merged (IsOfPiece (1920 * bars)) track_events merged h all_events

    pub upper_begun : filter (λ n. n.channel == 0) (begun last merged) ≡ upper_notes
    upper_begun = channel_begun last 0 merged ∙ ap (begun last) (channel_is 0 (1920 * bars) upper_notes track_events merged upper_sung h only_upper) ∙ notes_begun last upper_notes

    lower_begun : filter (λ n. n.channel == 1) (begun last merged) ≡ lower_notes
    lower_begun = channel_begun last 1 merged ∙ ap (begun last) (channel_is 1 (1920 * bars) lower_notes track_events merged lower_sung h only_lower) ∙ notes_begun last lower_notes

    to_piece : (n : Note) → Among n (begun last merged) → Among n (meant_notes number bars)
    to_piece n a =
        let few : n.channel < 2 = (all_among (IsOfPiece (1920 * bars)) merged merged_events (begins_with n) (from_event last merged n a)).calm.1 in
        elim (cases_lt n.channel 1) [
          | inl first ↦ (
              let t : (n.channel == 0) ≡ true = grind (arith, nat_tests) in
              among_left upper_notes lower_notes n (subst (Among n) upper_begun (kept_by (λ m. m.channel == 0) (begun last merged) n a t)))
          | inr second ↦ (
              let t : (n.channel == 1) ≡ true = grind (arith, nat_tests) in
              among_right upper_notes lower_notes n (subst (Among n) lower_begun (kept_by (λ m. m.channel == 1) (begun last merged) n a t)))
        ]

    from_piece : (n : Note) → Among n (meant_notes number bars) → Among n (begun last merged)
    from_piece n a = elim (among_both upper_notes lower_notes n a) [
      | inl b ↦ out_of (λ m. m.channel == 0) (begun last merged) n (subst (Among n) (sym upper_begun) b)
      | inr b ↦ out_of (λ m. m.channel == 1) (begun last merged) n (subst (Among n) (sym lower_begun) b)
    ]

    pub are_notes : AreNotes last merged (meant_notes number bars)
    are_notes = record { in_order = pairs_from IsBefore (meant_notes number bars) notes_order; kept = λ n. (fwd n, bwd n) }
      where
        fwd : (n : Note) → Contains (meant_notes number bars) n → IsKept (begun last merged) n
        fwd n c =
            let a = among_contained (meant_notes number bars) n c in (
              place_among (begun last merged) n (from_piece n a),
              all_from_among (λ m. m.channel ≡ n.channel → m.key ≡ n.key → m.onset ≡ n.onset → m.end ≤ n.end) (begun last merged) (λ m b channel key onset.
                  let same : m ≡ n = one_at (meant_notes number bars) m n notes_order (to_piece m b) a (record { channel = channel; onset = onset; key = key }) in
                  omega (arith, ap (λ (x : Note). x.end) same)),
            )

        bwd : (n : Note) → IsKept (begun last merged) n → Contains (meant_notes number bars) n
        bwd n kept = place_among (meant_notes number bars) n (to_piece n (among_contained (begun last merged) n kept.0))
