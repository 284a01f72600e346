-- The tracks of a file, one after another.
use Rattle.std.proofs.Common.{◌≡◌, ℕ, zero, suc, ◌+◌, ◌*◌, ◌<◌, ◌≤◌, ◌^◌, List, [], ◌∷◌, ◌++◌, drop, get_or, length, map, refl, sym, ap, ◌∙◌, subst, append_assoc, append-nil, arith}
use Rattle.std.specs.Prelude.{All}
use Rattle.std.specs.List.{flat_map}
use Rattle.std.proofs.lemmas.List.{drop_more, length-map}
use Rattle.rhythm_base.proofs.OrderedLists.{all_cons, all_head, all_tail}
use Rattle.rhythm_base.specs.declared.event.Event.{Event}
use Rattle.derivation.specs.declared.score.ScoreBar.{ScoreBar}
use Rattle.voice_events.specs.declared.event.KernEvent.{KernEvent}
use Rattle.smf_bytes.specs.Chunk.{header_bytes, track_chunk_bytes}
use Rattle.smf_bytes.specs.Track.{AreTimed, content_bytes}
use Rattle.smf_bytes.specs.declared.quantity.TheConstants.{GREATEST_QUANTITY}
use Rattle.voice_events.specs.Parts.{score_parts}
use Rattle.voice_events.specs.VoiceEvents.{AreVoiceEvents}
use Rattle.smf_writer.specs.Changes.{conductor}
use Rattle.smf_writer.specs.RenderedFile.{IsRendered}
use Rattle.smf_writer.specs.Strokes.{spine_events, voices_from}
use Rattle.smf_writer.proofs.Spines.{are_voices, spine_spans, spine_stands, spine_timed}
use Rattle.smf_writer.proofs.Voices.{CanStand}

module _ (last : ℕ) where
  abbrev pub track_of : List Event → List ℕ
  track_of track = track_chunk_bytes (content_bytes track last)

  abbrev pub IsShort : List Event → Type 0
  IsShort track = length (content_bytes track last) < 2 ^ 32

  module _ (resolution : ℕ) (events : List KernEvent) (channels : List ℕ) (i d : ℕ) (lt : i < length channels) where
    abbrev pub track : List Event
    track = spine_events resolution events (i + 1) (get_or channels i d)

    abbrev pub later : List (List Event)
    later = voices_from resolution events (i + 1 + 1) (drop (i + 1) channels)

    next_track : voices_from resolution events (i + 1) (drop i channels) ≡ track ∷ later
    next_track =
        let same : suc (i + 1) ≡ i + 1 + 1 = omega arith in
        ap (voices_from resolution events (i + 1)) (drop_more channels i d lt) ∙ ap (λ s. track ∷ voices_from resolution events s (drop (i + 1) channels)) same

    pub one_more : (old new : List ℕ) (all : List ℕ) (own : List Event) → own ≡ track → new ≡ old ++ track_of own → old ++ flat_map track_of (voices_from resolution events (i + 1) (drop i channels)) ≡ all → new ++ flat_map track_of later ≡ all
    one_more old new all own is pushed so_far =
        ap (λ (bytes : List ℕ). bytes ++ flat_map track_of later) (pushed ∙ ap (λ (t : List Event). old ++ track_of t) is)
        ∙ append_assoc old (track_of track) (flat_map track_of later)
        ∙ ap (λ (ts : List (List Event)). old ++ flat_map track_of ts) (sym next_track)
        ∙ so_far

    pub one_more_short : (Q : Type 0) (own : List Event) → own ≡ track → IsShort own → (All IsShort (voices_from resolution events (i + 1) (drop i channels)) → Q) → All IsShort later → Q
    one_more_short Q own is short so_far rest = so_far (subst (All IsShort) (sym next_track) (all_cons IsShort track later (subst IsShort is short) rest))

  no_more : (resolution : ℕ) (events : List KernEvent) (channels : List ℕ) (i : ℕ) → length channels ≤ i → voices_from resolution events (i + 1) (drop i channels) ≡ []
  no_more resolution events channels i end = ap (voices_from resolution events (i + 1)) (drop_all channels i end)
    where
      drop_all : (xs : List ℕ) (i : ℕ) → length xs ≤ i → drop i xs ≡ []
      drop_all [] zero le = refl
      drop_all [] (suc i) le = refl
      drop_all (x ∷ xs) zero le = absurd (omega arith)
      drop_all (x ∷ xs) (suc i) le = drop_all xs i (omega arith)

  pub all_there : (resolution : ℕ) (events : List KernEvent) (channels : List ℕ) (i : ℕ) (bytes all : List ℕ) → length channels ≤ i
      → bytes ++ flat_map track_of (voices_from resolution events (i + 1) (drop i channels)) ≡ all → bytes ≡ all
  all_there resolution events channels i bytes all end so_far =
      sym (append-nil bytes) ∙ ap (λ (ts : List (List Event)). bytes ++ flat_map track_of ts) (sym (no_more resolution events channels i end)) ∙ so_far

  pub all_short : (resolution : ℕ) (events : List KernEvent) (channels : List ℕ) (i : ℕ) (Q : Type 0) → length channels ≤ i
      → (All IsShort (voices_from resolution events (i + 1) (drop i channels)) → Q) → Q
  all_short resolution events channels i Q end so_far = so_far (subst (All IsShort) (sym (no_more resolution events channels i end)) (λ k d lt. absurd (omega arith)))

-- ---- the file

tracks_of : (last : ℕ) (tracks : List (List Event)) → flat_map (track_of last) tracks ≡ flat_map track_chunk_bytes (map (λ track. content_bytes track last) tracks)
tracks_of last [] = refl
tracks_of last (t ∷ tracks) = ap (λ (bytes : List ℕ). track_of last t ++ bytes) (tracks_of last tracks)

contents_short : (last : ℕ) (tracks : List (List Event)) → All (IsShort last) tracks → All (λ content. length content < 2 ^ 32) (map (λ track. content_bytes track last) tracks)
contents_short last [] h = λ k d lt. absurd (omega arith)
contents_short last (t ∷ tracks) h =
    all_cons (λ content. length content < 2 ^ 32) (content_bytes t last) (map (λ track. content_bytes track last) tracks) (all_head (IsShort last) t tracks h)
    (contents_short last tracks (all_tail (IsShort last) t tracks h))

voices_count : (resolution : ℕ) (events : List KernEvent) (spine : ℕ) (channels : List ℕ) → length (voices_from resolution events spine channels) ≡ length channels
voices_count resolution events spine [] = refl
voices_count resolution events spine (channel ∷ channels) = ap suc (voices_count resolution events (suc spine) channels)

pub rendered : (resolution : ℕ) (bars : List ScoreBar) (channels : List ℕ) (events : List KernEvent) (bytes : List ℕ)
    → score_parts resolution bars ≤ GREATEST_QUANTITY → AreVoiceEvents resolution bars (length channels) events
    → IsShort (score_parts resolution bars) (conductor resolution bars)
    → All (IsShort (score_parts resolution bars)) (voices_from resolution events 1 channels)
    → bytes ≡ (header_bytes (length channels + 1) (16 * resolution) ++ track_of (score_parts resolution bars) (conductor resolution bars)) ++ flat_map (track_of (score_parts resolution bars)) (voices_from resolution events 1 channels)
    → IsRendered resolution bars channels events bytes
rendered resolution bars channels events bytes early are changes short made =
    let last = score_parts resolution bars in
    let voices : List (List Event) = voices_from resolution events 1 channels in
    let tracks : List (List Event) = conductor resolution bars ∷ voices in
    let contents : List (List ℕ) = map (λ track. content_bytes track last) tracks in
    let count : length channels + 1 ≡ length contents = omega (arith, length-map tracks (λ track. content_bytes track last), voices_count resolution events 1 channels) in
    record {
      early = early;
      voices = voices;
      are_voices = are_voices resolution last (length channels) 1 events channels (omega arith) (omega arith) are;
      contents = contents;
      are_contents = refl;
      short = contents_short last tracks (all_cons (IsShort last) (conductor resolution bars) voices changes short);
      are = made
          ∙ append_assoc (header_bytes (length channels + 1) (16 * resolution)) (track_of last (conductor resolution bars)) (flat_map (track_of last) voices)
          ∙ ap (λ (chunks : List ℕ). header_bytes (length channels + 1) (16 * resolution) ++ chunks) (tracks_of last tracks)
          ∙ ap (λ n. header_bytes n (16 * resolution) ++ flat_map track_chunk_bytes contents) count;
    }

-- the same where the last tick has a name
pub rendered_up_to : (resolution : ℕ) (bars : List ScoreBar) (channels : List ℕ) (events : List KernEvent) (bytes : List ℕ) (last : ℕ)
    → last ≡ score_parts resolution bars → last ≤ GREATEST_QUANTITY → AreVoiceEvents resolution bars (length channels) events
    → IsShort last (conductor resolution bars)
    → All (IsShort last) (voices_from resolution events 1 channels)
    → bytes ≡ (header_bytes (length channels + 1) (16 * resolution) ++ track_of last (conductor resolution bars)) ++ flat_map (track_of last) (voices_from resolution events 1 channels)
    → IsRendered resolution bars channels events bytes
rendered_up_to resolution bars channels events bytes last is early are changes short made =
    rendered resolution bars channels events bytes (omega (arith, is, early)) are (subst (λ l. IsShort l (conductor resolution bars)) is changes)
    (subst (λ l. All (IsShort l) (voices_from resolution events 1 channels)) is short)
    (made ∙ ap (λ l. (header_bytes (length channels + 1) (16 * resolution) ++ track_of l (conductor resolution bars)) ++ flat_map (track_of l) (voices_from resolution events 1 channels)) is)

-- the events of a voice's track can be written
pub voice_can_stand : (resolution : ℕ) (bars : List ScoreBar) (channels : List ℕ) (events : List KernEvent) (i d : ℕ) (own : List Event)
    → i < length channels → AreVoiceEvents resolution bars (length channels) events → All (λ c. c < 16) channels
    → own ≡ spine_events resolution events (i + 1) (get_or channels i d) → All (CanStand resolution (get_or channels i d) (score_parts resolution bars)) own
voice_can_stand resolution bars channels events i d own lt are few is =
    let last = score_parts resolution bars in
    let channel = get_or channels i d in
    subst (All (CanStand resolution channel last)) (sym is)
    (spine_stands resolution channel last (i + 1) events (spine_spans resolution last 1 (length channels) (i + 1) events (omega arith) (omega arith) are) (few i d lt))

-- they stand in the order of their ticks
pub voice_in_order : (resolution : ℕ) (bars : List ScoreBar) (channels : List ℕ) (events : List KernEvent) (i d last : ℕ) (own : List Event)
    → i < length channels → AreVoiceEvents resolution bars (length channels) events → last ≡ score_parts resolution bars
    → own ≡ spine_events resolution events (i + 1) (get_or channels i d) → AreTimed 0 own last
voice_in_order resolution bars channels events i d last own lt are end is =
    subst (λ (es : List Event). AreTimed 0 es last) (sym is)
    (subst (AreTimed 0 (spine_events resolution events (i + 1) (get_or channels i d))) (sym end)
    (spine_timed resolution (get_or channels i d) (score_parts resolution bars) (i + 1) events
    (spine_spans resolution (score_parts resolution bars) 1 (length channels) (i + 1) events (omega arith) (omega arith) are)))
