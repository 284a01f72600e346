-- The tracks of all voices: their events, key by key, are those of their notes, voice after voice.
use Rattle.std.proofs.Common.{◌≡◌, ℕ, suc, ◌+◌, ◌<◌, ◌≤◌, Bool, true, false, List, [], ◌∷◌, ◌++◌, length, map, refl, sym, ap, ◌∙◌, subst, inl, inr, arith}
use Rattle.std.specs.Prelude.{All, AllPairs, filter, if◌then◌else◌}
use Rattle.std.specs.List.{flat_map}
use Rattle.std.proofs.lemmas.Bool.Decides.{nat_tests}
use Rattle.std.proofs.lemmas.Grind.{flat_map-append}
use Rattle.std.proofs.lemmas.List.Elements.{filter-append}
use Rattle.rhythm_base.proofs.OrderedLists.{all_head, all_tail, pairs_head, pairs_tail}
use Rattle.performance_load.proofs.EventLemmas.{Up}
use Rattle.rhythm_base.specs.declared.event.Event.{Event}
use Rattle.rhythm_base.specs.declared.note.Note.{Note}
use Rattle.voice_events.specs.declared.event.KernEvent.{KernEvent}
use Rattle.smf_laws.specs.Written.{AreLater}
use Rattle.voice_events.specs.VoiceEvents.{AreVoiceEventsFrom}
use Rattle.smf_writer.specs.NoteMessages.{Message, begins, ends, event_of}
use Rattle.smf_writer.specs.Strokes.{spine_events, voices_from}
use Rattle.rhythm_base.proofs.Members.{Among, Pairwise, all_among, among_both, out_of, pairs_join, pairs_weaken}
use Rattle.smf_writer.proofs.Spines.{HasSpans, events_are, spine_kept, spine_spans}
use Rattle.smf_writer.proofs.StrokeOrder.{DoesNotOverlap, IsEarlier, Succeed, all_of, messages_of_notes, messages_order, notes_apart, notes_have_messages, notes_of, notes_order, notes_within}
use Rattle.smf_writer.proofs.Voices.{spans_succeed, voice_strokes}
use Rattle.render_laws.specs.ReadBack.{AreSpineNotesFrom, is_change}
use Rattle.render_laws.proofs.PlayedNotes.{at_key, touching}
use Rattle.smf_laws.proofs.PlayedNotes.{played_note}
use Rattle.render_laws.proofs.VoiceTracks.{IsTrackOf, track_later, track_passing}

-- ---- one voice

module _ (resolution last spine channel : ℕ) (events : List KernEvent) (h : HasSpans resolution last spine events) where
  succeed : Succeed 0 (voice_strokes resolution h.spans) last
  succeed = spans_succeed resolution channel 0 last h.spans h.voice.each h.voice.follow

  pub spine_track : IsTrackOf channel last (notes_of channel (voice_strokes resolution h.spans)) (spine_events resolution events spine channel)
  spine_track = record {
    messages = all_of channel (voice_strokes resolution h.spans);
    order = messages_order channel 0 last (voice_strokes resolution h.spans) succeed;
    from = λ m a. messages_of_notes channel 0 last (voice_strokes resolution h.spans) m succeed a;
    to = λ m a. notes_have_messages channel (voice_strokes resolution h.spans) m a;
    are = events_are resolution channel last spine events h;
    notes_order = notes_order channel 0 last (voice_strokes resolution h.spans) succeed;
    apart = notes_apart channel 0 last (voice_strokes resolution h.spans) succeed;
    each = λ n a. notes_within channel 0 last (voice_strokes resolution h.spans) n succeed a;
  }

-- none of them is a change
no_changes : (ms : List Message) → filter (λ e. is_change e.what) (map event_of ms) ≡ []
no_changes [] = refl
no_changes (begins n ∷ ms) = no_changes ms
no_changes (ends n ∷ ms) = no_changes ms

-- ---- all voices

-- of two notes of one channel and key the later begins where the earlier ends or after that
abbrev pub IsApart : Note → Note → Type 0
IsApart m n = m.channel ≡ n.channel → m.key ≡ n.key → m.end ≤ n.onset

pub record HasVoices (resolution last spine : ℕ) (events : List KernEvent) (channels : List ℕ) : Type 0 where
  pub notes : List Note
  pub are_notes : AreSpineNotesFrom resolution events spine channels notes
  pub passing : (c k : ℕ) → filter (touching c k) (flat_map (λ track. track) (voices_from resolution events spine channels)) ≡ flat_map played_note (filter (at_key c k) notes)
  pub unchanged : filter (λ e. is_change e.what) (flat_map (λ track. track) (voices_from resolution events spine channels)) ≡ []
  pub order : Pairwise IsEarlier notes
  pub apart : Pairwise IsApart notes
  pub lasting : (n : Note) → Among n notes → n.onset ≤ n.end
  pub of_channels : (n : Note) → Among n notes → Among n.channel channels
  pub later : (track : List Event) → Among track (voices_from resolution events spine channels) → AreLater 0 track last

by_channel : (m n : Note) → m.channel < n.channel → IsEarlier m n
by_channel m n less = grind (arith, nat_tests)

same_channel : (c d : ℕ) → c < d → c ≡ d → ⊥
same_channel c d less same = omega (arith, less, same)

module _ (resolution last voices : ℕ) (events : List KernEvent) (are : AreVoiceEventsFrom resolution last 1 voices events) where
  pub all_voices : (spine : ℕ) (channels : List ℕ) → 1 ≤ spine → spine + length channels ≤ 1 + voices → AllPairs (λ (c : ℕ) d. c < d) channels → All (λ c. c < 16) channels → HasVoices resolution last spine events channels
  all_voices spine [] some few rise small = record {
    notes = [];
    are_notes = refl;
    passing = λ c k. refl;
    unchanged = refl;
    order = tt;
    apart = tt;
    lasting = λ n a. absurd a;
    of_channels = λ n a. absurd a;
    later = λ track a. absurd a;
  }
  all_voices spine (channel ∷ channels) some few rise small =
      let spans = spine_spans resolution last 1 voices spine events some (omega arith) are in
      let rest = all_voices (suc spine) channels (omega arith) (omega arith) (pairs_tail (λ (c : ℕ) d. c < d) channel channels rise) (all_tail (λ c. c < 16) channel channels small) in
      let track = spine_track resolution last spine channel events spans in
      let own : List Note = notes_of channel (voice_strokes resolution spans.spans) in
      let these : List Event = spine_events resolution events spine channel in
      let others : List Event = flat_map (λ t. t) (voices_from resolution events (suc spine) channels) in
      let below : All (λ d. channel < d) channels = pairs_head (λ (c : ℕ) d. c < d) channel channels rise in
      let less : (m n : Note) → Among m own → Among n rest.notes → m.channel < n.channel =
      λ m n a b. subst (λ c. c < n.channel) (sym (track.each m a).channel_is) (all_among (λ d. channel < d) channels below n.channel (rest.of_channels n b)) in
      record {
        notes = own ++ rest.notes;
        are_notes = (own, rest.notes, spine_kept resolution channel last spine events spans, rest.are_notes, refl);
        passing = λ c k.
            filter-append (touching c k) these others
            ∙ ap (λ (es : List Event). es ++ filter (touching c k) others) (track_passing channel last own these track c k)
            ∙ ap (λ (es : List Event). flat_map played_note (filter (at_key c k) own) ++ es) (rest.passing c k)
            ∙ sym (flat_map-append played_note (filter (at_key c k) own) (filter (at_key c k) rest.notes))
            ∙ ap (flat_map played_note) (sym (filter-append (at_key c k) own rest.notes));
        unchanged =
            filter-append (λ e. is_change e.what) these others
            ∙ ap (λ (es : List Event). filter (λ e. is_change e.what) es ++ filter (λ e. is_change e.what) others) track.are
            ∙ ap (λ (es : List Event). es ++ filter (λ e. is_change e.what) others) (no_changes track.messages)
            ∙ rest.unchanged;
        order = pairs_join IsEarlier own rest.notes track.notes_order rest.order (λ m n a b. by_channel m n (less m n a b));
        apart = pairs_join IsApart own rest.notes (pairs_weaken DoesNotOverlap IsApart own (λ m n apart channel key. apart key) track.apart) rest.apart
            (λ m n a b same key. absurd (same_channel m.channel n.channel (less m n a b) same));
        lasting = λ n a. elim (among_both own rest.notes n a) [
          | inl b ↦ (track.each n b).order
          | inr b ↦ rest.lasting n b
        ];
        of_channels = λ n a. elim (among_both own rest.notes n a) [
          | inl b ↦ inl (track.each n b).channel_is
          | inr b ↦ inr (rest.of_channels n b)
        ];
        later = λ t a. by t a (track_later channel last own these track (all_head (λ c. c < 16) channel channels small)) rest.later;
      }
    where
      by : (t : List Event) → Among t (spine_events resolution events spine channel ∷ voices_from resolution events (suc spine) channels) → AreLater 0 (spine_events resolution events spine channel) last
          → ((t : List Event) → Among t (voices_from resolution events (suc spine) channels) → AreLater 0 t last) → AreLater 0 t last
      by t (inl is) first rest = subst (λ (es : List Event). AreLater 0 es last) (sym is) first
      by t (inr a) first rest = rest t a

-- ---- the ticks of the notes of one key go up

played_up : (low : ℕ) (notes : List Note) → ((n : Note) → Among n notes → (low ≤ n.onset) × (n.onset ≤ n.end)) → Pairwise (λ (m : Note) n. m.end ≤ n.onset) notes → Up low (map (λ e. e.tick) (flat_map played_note notes))
played_up low [] each apart = tt
played_up low (n ∷ ns) each apart =
    let is = each n (inl refl) in
    (is.0, (is.1, played_up n.end ns (λ m a. (apart.0 m a, (each m (inr a)).1)) apart.1))

of_one_key : (c k : ℕ) (n : Note) → at_key c k n ≡ true → (n.channel ≡ c) × (n.key ≡ k)
of_one_key c k n is = (grind (arith, nat_tests, is), grind (arith, nat_tests, is))

key_apart : (c k : ℕ) (notes : List Note) → Pairwise IsApart notes → Pairwise (λ (m : Note) n. m.end ≤ n.onset) (filter (at_key c k) notes)
key_apart c k [] h = tt
key_apart c k (n ∷ ns) h = go (at_key c k n) refl (key_apart c k ns h.1)
  where
    first : at_key c k n ≡ true → (m : Note) → Among m (filter (at_key c k) ns) → n.end ≤ m.onset
    first is m a =
        let r = out_of (at_key c k) ns m a in
        let own = of_one_key c k n is in
        let other = of_one_key c k m r.1 in
        h.0 m r.0 (own.0 ∙ sym other.0) (own.1 ∙ sym other.1)

    go : (b : Bool) → at_key c k n ≡ b → Pairwise (λ (m : Note) n. m.end ≤ n.onset) (filter (at_key c k) ns)
        → Pairwise (λ (m : Note) n. m.end ≤ n.onset) (if b then n ∷ filter (at_key c k) ns else filter (at_key c k) ns)
    go true is rest = (first is, rest)
    go false is rest = rest

pub key_up : (c k : ℕ) (notes : List Note) → ((n : Note) → Among n notes → n.onset ≤ n.end) → Pairwise IsApart notes → Up 0 (map (λ e. e.tick) (flat_map played_note (filter (at_key c k) notes)))
key_up c k notes lasting apart = played_up 0 (filter (at_key c k) notes) (λ n a. (omega arith, lasting n (out_of (at_key c k) notes n a).0)) (key_apart c k notes apart)
