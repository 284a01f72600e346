-- A rendered file is read as its tracks, and its notes are the kept notes.
use Rattle.std.proofs.Common.{◌≡◌, ℕ, suc, ◌*◌, ◌<◌, ◌≤◌, ◌^◌, true, List, [], ◌∷◌, ◌++◌, length, map, refl, sym, ap, ◌∙◌, subst, append-nil, inl, inr, arith}
use Rattle.std.specs.Prelude.{All, Contains, filter}
use Rattle.std.specs.List.{flat_map}
use Rattle.std.proofs.lemmas.Bool.Decides.{nat_tests}
use Rattle.std.proofs.lemmas.List.{length-map}
use Rattle.std.proofs.lemmas.List.Elements.{filter-append}
use Rattle.std.proofs.lemmas.List.Kept.{AllPairs-from_increasing}
use Rattle.rhythm_base.proofs.OrderedLists.{all_cons, all_head, all_tail}
use Rattle.performance_load.proofs.EventLemmas.{below_greatest, greatest_low}
use Rattle.performance_load.specs.Loading.{AreMergedOf, last_tick}
use Rattle.rhythm_base.specs.declared.event.Event.{Event}
use Rattle.rhythm_base.specs.declared.note.Note.{Note}
use Rattle.rhythm_base.specs.Events.{IsMerged}
use Rattle.rhythm_base.specs.Lists.{greatest}
use Rattle.rhythm_base.specs.Notes.{AreNotes, IsKept, begun}
use Rattle.derivation.specs.declared.score.ScoreBar.{ScoreBar}
use Rattle.voice_events.specs.declared.event.KernEvent.{KernEvent}
use Rattle.smf_bytes.specs.Chunk.{file_bytes}
use Rattle.smf_bytes.specs.Track.{content_bytes}
use Rattle.smf_bytes.specs.declared.quantity.TheConstants.{GREATEST_QUANTITY}
use Rattle.smf_laws.specs.Written.{AreLater, IsWritableTrack, written_track}
use Rattle.smf_laws.proofs.Files.{files_read}
use Rattle.smf_reader.specs.Outcomes.{SaysFile}
use Rattle.smf_reader.specs.Played.{Smf, Track}
use Rattle.voice_events.specs.Parts.{score_parts}
use Rattle.voice_events.specs.VoiceEvents.{AreVoiceEvents}
use Rattle.voice_events.specs.Writable as handed
use Rattle.smf_writer.specs.Changes.{conductor}
use Rattle.smf_writer.specs.RenderedFile.{AreChannels, IsRendered}
use Rattle.smf_writer.specs.Strokes.{voices_from}
use Rattle.smf_writer.proofs.Covering.{one_at}
use Rattle.rhythm_base.proofs.Members.{Among, Pairwise, all_from_among, among_contained, kept_by, out_of, pairs_from, place_among}
use Rattle.smf_writer.proofs.OneFile.{voices_one}
use Rattle.smf_writer.proofs.Spines.{are_voices}
use Rattle.smf_writer.proofs.StrokeOrder.{IsEarlier}
use Rattle.render_laws.specs.Laws.{RenderedFilesReadBack}
use Rattle.render_laws.specs.ReadBack.{RendersBack, is_change}
use Rattle.render_laws.proofs.LoadedFile.{loaded}
use Rattle.render_laws.proofs.MergedEvents.{some_merged}
use Rattle.render_laws.proofs.AllVoices.{HasVoices, all_voices, key_up}
use Rattle.render_laws.proofs.PlayedNotes.{at_key, key_begun, merged_passing, touching}
use Rattle.smf_laws.proofs.PlayedNotes.{notes_begun, played_note}
use Rattle.render_laws.proofs.ReadChanges.{conductor_changes, conductor_later, conductor_silent, later_up}

-- ---- notes that are found key by key are the notes

module _ (last : ℕ) (merged : List Event) (notes : List Note) (order : Pairwise IsEarlier notes) (keys : (c k : ℕ) → filter (at_key c k) (begun last merged) ≡ filter (at_key c k) notes) where
  self : (n : Note) → at_key n.channel n.key n ≡ true
  self n = grind (arith, nat_tests)

  to_begun : (n : Note) → Among n notes → Among n (begun last merged)
  to_begun n a =
      (out_of (at_key n.channel n.key) (begun last merged) n (subst (Among n) (sym (keys n.channel n.key)) (kept_by (at_key n.channel n.key) notes n a (self n)))).0

  from_begun : (n : Note) → Among n (begun last merged) → Among n notes
  from_begun n a =
      (out_of (at_key n.channel n.key) notes n (subst (Among n) (keys n.channel n.key) (kept_by (at_key n.channel n.key) (begun last merged) n a (self n)))).0

  pub are_notes : AreNotes last merged notes
  are_notes = record { in_order = pairs_from IsEarlier notes order; kept = λ n. (to n, from n) }
    where
      to : (n : Note) → Contains notes n → IsKept (begun last merged) n
      to n c =
          let a = among_contained notes n c in (
            place_among (begun last merged) n (to_begun n a),
            all_from_among (λ m. m.channel ≡ n.channel → m.key ≡ n.key → m.onset ≡ n.onset → m.end ≤ n.end) (begun last merged)
                (λ m b channel key onset.
                let same : m ≡ n = one_at notes m n order (from_begun m b) a (record { channel = channel; onset = onset; key = key }) in
                omega (arith, ap (λ (x : Note). x.end) same)),
          )

      from : (n : Note) → IsKept (begun last merged) n → Contains notes n
      from n kept = place_among notes n (from_begun n (among_contained (begun last merged) n kept.0))

-- ---- the file

abbrev track_up_to : ℕ → List Event → Track
track_up_to last events = record { events = events; last = last }

abbrev file_of : ℕ → List ScoreBar → List (List Event) → Smf
file_of resolution bars voices = record {
  division = 16 * resolution;
  tracks = map (track_up_to (score_parts resolution bars)) (conductor resolution bars ∷ voices);
}

written : (last : ℕ) (tracks : List (List Event)) → map written_track (map (track_up_to last) tracks) ≡ map (λ track. content_bytes track last) tracks
written last [] = refl
written last (t ∷ tracks) = ap (λ (cs : List (List ℕ)). content_bytes t last ∷ cs) (written last tracks)

events_again : (last : ℕ) (tracks : List (List Event)) → map (λ t. t.events) (map (track_up_to last) tracks) ≡ tracks
events_again last [] = refl
events_again last (t ∷ tracks) = ap (λ (ts : List (List Event)). t ∷ ts) (events_again last tracks)

one_last : (last : ℕ) (first : List Event) (tracks : List (List Event)) → greatest (map (λ t. t.last) (map (track_up_to last) (first ∷ tracks))) ≡ last
one_last last first tracks =
    let all : List Track = map (track_up_to last) (first ∷ tracks) in
    let high = greatest_low (λ (t : Track). t.last) all last (lasts (first ∷ tracks)) in
    let low = below_greatest (λ (t : Track). t.last) all 0 (track_up_to last first) (omega arith) in
    omega (arith, high, low)
  where
    lasts : (tracks : List (List Event)) → All (λ (t : Track). t.last ≤ last) (map (track_up_to last) tracks)
    lasts [] = λ k d lt. absurd (omega arith)
    lasts (t ∷ tracks) = all_cons (λ (t : Track). t.last ≤ last) (track_up_to last t) (map (track_up_to last) tracks) (omega arith) (lasts tracks)

can_be_written : (last : ℕ) (tracks : List (List Event)) → last ≤ GREATEST_QUANTITY → ((t : List Event) → Among t tracks → AreLater 0 t last)
    → All (λ content. length content < 2 ^ 32) (map (λ track. content_bytes track last) tracks) → All IsWritableTrack (map (track_up_to last) tracks)
can_be_written last [] early later short = λ k d lt. absurd (omega arith)
can_be_written last (t ∷ tracks) early later short =
    all_cons IsWritableTrack (track_up_to last t) (map (track_up_to last) tracks)
    (record { later = later t (inl refl); early = early; short = all_head (λ content. length content < 2 ^ 32) (content_bytes t last) (map (λ track. content_bytes track last) tracks) short })
    (can_be_written last tracks early (λ u a. later u (inr a)) (all_tail (λ content. length content < 2 ^ 32) (content_bytes t last) (map (λ track. content_bytes track last) tracks) short))

module _ (resolution : ℕ) (bars : List ScoreBar) (channels : List ℕ) (events : List KernEvent) (bytes : List ℕ)
    (can : handed.IsWritable resolution bars (length channels)) (own : AreChannels channels) (are : AreVoiceEvents resolution bars (length channels) events) (h : IsRendered resolution bars channels events bytes) where
  abbrev last : ℕ
  last = score_parts resolution bars

  abbrev voices : List (List Event)
  voices = voices_from resolution events 1 channels

  has_voices : HasVoices resolution (score_parts resolution bars) 1 events channels
  has_voices = all_voices resolution (score_parts resolution bars) (length channels) events are 1 channels (omega arith) (omega arith) (AllPairs-from_increasing channels own.rise) own.few

  same_voices : h.voices ≡ voices
  same_voices = voices_one resolution events 1 channels h.voices voices h.are_voices (are_voices resolution last (length channels) 1 events channels (omega arith) (omega arith) are)

  contents : h.contents ≡ map (λ track. content_bytes track last) (conductor resolution bars ∷ voices)
  contents = h.are_contents ∙ ap (λ (vs : List (List Event)). map (λ track. content_bytes track last) (conductor resolution bars ∷ vs)) same_voices

  abbrev file : Smf
  file = file_of resolution bars voices

  each_later : (t : List Event) → Among t (conductor resolution bars ∷ voices) → AreLater 0 t last
  each_later t (inl is) = subst (λ (es : List Event). AreLater 0 es last) (sym is) (conductor_later resolution last bars (omega arith) can.each_bar)
  each_later t (inr a) = has_voices.later t a

  voices_count : (spine : ℕ) (cs : List ℕ) → length (voices_from resolution events spine cs) ≡ length cs
  voices_count spine [] = refl
  voices_count spine (c ∷ cs) = ap suc (voices_count (suc spine) cs)

  said : SaysFile bytes file
  said =
      let tracks : List (List Event) = conductor resolution bars ∷ voices in
      let short = subst (All (λ content. length content < 2 ^ 32)) contents h.short in
      let units = can.few_units in
      let some = can.some_unit in
      let few = can.few_voices in
      let P : List ℕ → Type 0 = λ b. SaysFile b file in
      subst P (sym (h.are ∙ ap (file_bytes (16 * resolution)) (contents ∙ sym (written last tracks))))
      (files_read file record {
        some_tick = omega arith;
        few_ticks = omega arith;
        few_tracks = omega (arith, length-map tracks (track_up_to last), voices_count 1 channels);
        tracks = can_be_written last tracks h.early each_later short;
      })

  module _ (merged : List Event) (m : AreMergedOf file merged) where
    is_merged : IsMerged (conductor resolution bars ∷ voices) merged
    is_merged = subst (λ (ts : List (List Event)). IsMerged ts merged) (events_again last (conductor resolution bars ∷ voices)) m

    by_key : (tick c k : ℕ) → filter (at_key c k) (begun tick merged) ≡ filter (at_key c k) has_voices.notes
    by_key tick c k =
        let some : List Event = flat_map played_note (filter (at_key c k) has_voices.notes) in
        let only : filter (touching c k) (flat_map (λ track. track) (conductor resolution bars ∷ voices)) ≡ some =
        filter-append (touching c k) (conductor resolution bars) (flat_map (λ track. track) voices)
        ∙ ap (λ (es : List Event). es ++ filter (touching c k) (flat_map (λ track. track) voices)) (conductor_silent c k resolution bars can.each_bar)
        ∙ has_voices.passing c k in
        key_begun c k tick merged
        ∙ ap (begun tick) (merged_passing (touching c k) (conductor resolution bars ∷ voices) merged some is_merged only (key_up c k has_voices.notes has_voices.lasting has_voices.apart))
        ∙ notes_begun tick (filter (at_key c k) has_voices.notes)

    played : AreNotes (last_tick file) merged has_voices.notes
    played = are_notes (last_tick file) merged has_voices.notes has_voices.order (by_key (last_tick file))

    changed : filter (λ e. is_change e.what) merged ≡ conductor resolution bars
    changed =
        let changes : List Event = conductor resolution bars in
        let only : filter (λ e. is_change e.what) (flat_map (λ track. track) (changes ∷ voices)) ≡ changes =
        filter-append (λ e. is_change e.what) changes (flat_map (λ track. track) voices)
        ∙ ap (λ (es : List Event). filter (λ e. is_change e.what) changes ++ es) has_voices.unchanged
        ∙ append-nil (filter (λ e. is_change e.what) changes)
        ∙ conductor_changes resolution bars can.each_bar in
        merged_passing (λ e. is_change e.what) (changes ∷ voices) merged changes is_merged only (later_up 0 last changes (conductor_later resolution last bars (omega arith) can.each_bar))

  pub reads_back : RendersBack resolution bars channels events bytes
  reads_back = record {
    file = file;
    says = said;
    division = refl;
    last = one_last last (conductor resolution bars) voices;
    notes = has_voices.notes;
    are_notes = has_voices.are_notes;
    merged = (some_merged (map (λ t. t.events) file.tracks)).0;
    is_merged = (some_merged (map (λ t. t.events) file.tracks)).1;
    played = played;
    changed = changed;
    loaded = loaded resolution bars file has_voices.notes refl played changed;
  }

pub files_read_back : RenderedFilesReadBack
files_read_back resolution bars channels events bytes can own are h = reads_back resolution bars channels events bytes can own are h
