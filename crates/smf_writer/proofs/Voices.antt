-- The track of a voice has the messages of the kept notes of its events.
use Rattle.std.proofs.Common.{◌≡◌, ℕ, suc, ◌+◌, ◌-◌, ◌/◌, ◌<◌, ◌≤◌, Bool, true, false, List, [], ◌∷◌, ◌++◌, length, map, refl, sym, ap, ◌∙◌, subst, append_assoc, append-nil, arith}
use Rattle.std.specs.Prelude.{All, if◌then◌else◌, nat_lt}
use Rattle.std.specs.List.{flat_map}
use Rattle.std.proofs.lemmas.Bool.Decides.{nat_tests}
use Rattle.std.proofs.lemmas.Grind.{flat_map-append}
use Rattle.rhythm_base.proofs.OrderedLists.{all_head, all_tail}
use Rattle.rhythm_base.specs.declared.event.Event.{Event}
use Rattle.rhythm_base.specs.declared.note.Note.{Note}
use Rattle.rhythm_base.specs.declared.span.Span.{Span}
use Rattle.smf_bytes.specs.Message.{HasChannel}
use Rattle.smf_bytes.specs.Track.{AreTimed}
use Rattle.voice_events.specs.Parts.{end_parts, len_parts, start_parts}
use Rattle.voice_events.specs.VoiceEvents.{AreOfVoice, FollowFrom, IsVoiceSpan}
use Rattle.smf_writer.specs.EventNotes.{AreKept, chord_notes, event_notes, grace_notes, grace_ticks, main_end, main_onset}
use Rattle.smf_writer.specs.NoteMessages.{AreMessages, Message, begins, ends, event_of, message_note}
use Rattle.smf_writer.specs.Strokes.{event_strokes, grace_strokes, joined_keys, main_stroke, stroke_notes}
use Rattle.smf_writer.specs.declared.stroke.Stroke.{Stroke}
use Rattle.smf_writer.proofs.Covering.{Cover, cover_both, cover_nothing, graces_cover, graces_passing, kept_notes, none_passing, stroke_cover, ArePassing}
use Rattle.smf_writer.proofs.EventStrokes.{crowded_onset, graced_onset}
use Rattle.rhythm_base.proofs.Members.{all_from_among, among_contained, from_map, pairs_from, place_among}
use Rattle.smf_writer.proofs.MessageOrder.{IsBefore, messages_timed}
use Rattle.smf_writer.proofs.StrokeOrder.{IsWithin, Succeed, all_of, message_within, messages_of_notes, messages_order, notes_have_messages, notes_of, notes_order, notes_within}

-- ---- the strokes of an event follow one another

half : (b : Bool) (o e : ℕ) → o ≤ e → (o ≤ (if b then o + (e - o) / 2 else e)) × ((if b then o + (e - o) / 2 else e) ≤ e)
half true o e le = (omega arith, omega arith)
half false o e le = (le, omega arith)

succeed_earlier : (low tick last : ℕ) (strokes : List Stroke) → low ≤ tick → Succeed tick strokes last → Succeed low strokes last
succeed_earlier low tick last [] le h = omega (arith, le, h)
succeed_earlier low tick last (s ∷ strokes) le (next, first, order, end, less, later) = (next, omega (arith, le, first), order, end, less, later)

graces_succeed : (low onset last : ℕ) (graces : List ℕ) (more : List Stroke) → low ≤ onset → Succeed (onset + length graces) more last → Succeed low (grace_strokes onset graces ++ more) last
graces_succeed low onset last [] more le h = succeed_earlier low (onset + 0) last more (omega arith) h
graces_succeed low onset last (keys ∷ graces) more le h =
    let same : onset + suc (length graces) ≡ (onset + 1) + length graces = omega arith in
    let P : ℕ → Type 0 = λ t. Succeed t more last in
    (onset + 1, le, omega arith, omega arith, omega arith, graces_succeed (onset + 1) (onset + 1) last graces more (omega arith) (subst P same h))

module _ (resolution : ℕ) (x : Span) (span : IsVoiceSpan resolution x) where
  onset_early : (b : Bool) → nat_lt (length x.graces) (len_parts resolution x) ≡ b → main_onset resolution x < end_parts resolution x
  onset_early true few = omega (arith, graced_onset resolution x few, grind_less few)
    where
      grind_less : nat_lt (length x.graces) (len_parts resolution x) ≡ true → length x.graces < len_parts resolution x
      grind_less few = less (length x.graces) (len_parts resolution x) few
        where
          less : (m n : ℕ) → nat_lt m n ≡ true → m < n
          less m n h = grind (arith, nat_tests, h)
  onset_early false many = omega (arith, crowded_onset resolution x many, span.long)

  main_early : main_onset resolution x < end_parts resolution x
  main_early = onset_early (nat_lt (length x.graces) (len_parts resolution x)) refl

  main_bounds : (main_onset resolution x ≤ main_end resolution x) × (main_end resolution x ≤ end_parts resolution x)
  main_bounds = let less = main_early in half x.short (main_onset resolution x) (end_parts resolution x) (omega arith)

  main_succeeds : (low last passing : ℕ) (more : List Stroke) → low ≤ main_onset resolution x → Succeed (end_parts resolution x) more last → Succeed low (main_stroke resolution x passing ∷ more) last
  main_succeeds low last passing more le h = (end_parts resolution x, le, main_bounds.0, main_bounds.1, main_early, h)

  pub event_succeeds : (low last : ℕ) (more : List Stroke) → low ≤ start_parts resolution x → Succeed (end_parts resolution x) more last → Succeed low (event_strokes resolution x ++ more) last
  event_succeeds low last more le h = go (nat_lt (length x.graces) (len_parts resolution x)) refl
    where
      P : List Stroke → Type 0
      P strokes = Succeed low strokes last

      go : (b : Bool) → nat_lt (length x.graces) (len_parts resolution x) ≡ b → Succeed low (event_strokes resolution x ++ more) last
      go true few =
          let graces : List Stroke = grace_strokes (start_parts resolution x) x.graces in
          let main : Stroke = main_stroke resolution x 0 in
          let is : event_strokes resolution x ≡ graces ++ main ∷ [] = rw few refl in
          let all : event_strokes resolution x ++ more ≡ graces ++ (main ∷ more) = ap (λ (ss : List Stroke). ss ++ more) is ∙ append_assoc graces (main ∷ []) more in
          subst P (sym all) (graces_succeed low (start_parts resolution x) last x.graces (main ∷ more) le
          (main_succeeds (start_parts resolution x + length x.graces) last 0 more (omega (arith, graced_onset resolution x few)) h))
      go false many =
          let main : Stroke = main_stroke resolution x (joined_keys x.graces) in
          let is : event_strokes resolution x ≡ main ∷ [] = rw many refl in
          subst P (sym (ap (λ (ss : List Stroke). ss ++ more) is)) (main_succeeds low last (joined_keys x.graces) more (omega (arith, le, crowded_onset resolution x many)) h)

  module _ (channel : ℕ) where
    abbrev notes_by : ℕ → List Note
    notes_by grace = grace_notes channel (start_parts resolution x) grace x.graces ++ chord_notes channel (main_onset resolution x) (main_end resolution x) x.keys

    -- its strokes cover its notes
    pub event_cover : Cover (event_notes resolution channel x) (flat_map (stroke_notes channel) (event_strokes resolution x))
    event_cover = go (nat_lt (length x.graces) (len_parts resolution x)) refl
      where
        chord : List Note
        chord = chord_notes channel (main_onset resolution x) (main_end resolution x) x.keys

        go : (b : Bool) → nat_lt (length x.graces) (len_parts resolution x) ≡ b → Cover (event_notes resolution channel x) (flat_map (stroke_notes channel) (event_strokes resolution x))
        go true few =
            let graces : List Stroke = grace_strokes (start_parts resolution x) x.graces in
            let main : Stroke = main_stroke resolution x 0 in
            let ticks : grace_ticks resolution x ≡ 1 = rw few refl in
            let played : event_notes resolution channel x ≡ grace_notes channel (start_parts resolution x) 1 x.graces ++ chord = ap notes_by ticks in
            let is : event_strokes resolution x ≡ graces ++ main ∷ [] = rw few refl in
            let made : flat_map (stroke_notes channel) (event_strokes resolution x) ≡ flat_map (stroke_notes channel) graces ++ stroke_notes channel main =
            ap (flat_map (stroke_notes channel)) is
            ∙ flat_map-append (stroke_notes channel) graces (main ∷ [])
            ∙ ap (λ (ns : List Note). flat_map (stroke_notes channel) graces ++ ns) (append-nil (stroke_notes channel main)) in
            let own = stroke_cover channel main main_bounds.0 [] (none_passing channel (main_onset resolution x)) in
            let both = cover_both (grace_notes channel (start_parts resolution x) 1 x.graces) chord (flat_map (stroke_notes channel) graces) (stroke_notes channel main)
            (graces_cover channel (start_parts resolution x) x.graces) own in
            subst (λ (ns : List Note). Cover ns (flat_map (stroke_notes channel) (event_strokes resolution x))) (sym played)
            (subst (λ (ns : List Note). Cover (grace_notes channel (start_parts resolution x) 1 x.graces ++ chord) ns) (sym made) both)
        go false many =
            let main : Stroke = main_stroke resolution x (joined_keys x.graces) in
            let ticks : grace_ticks resolution x ≡ 0 = rw many refl in
            let played : event_notes resolution channel x ≡ grace_notes channel (start_parts resolution x) 0 x.graces ++ chord = ap notes_by ticks in
            let is : event_strokes resolution x ≡ main ∷ [] = rw many refl in
            let made : flat_map (stroke_notes channel) (event_strokes resolution x) ≡ stroke_notes channel main = ap (flat_map (stroke_notes channel)) is ∙ append-nil (stroke_notes channel main) in
            let passing : ArePassing channel (main_onset resolution x) (joined_keys x.graces) (grace_notes channel (start_parts resolution x) 0 x.graces) =
            subst (λ t. ArePassing channel t (joined_keys x.graces) (grace_notes channel (start_parts resolution x) 0 x.graces)) (crowded_onset resolution x many) (graces_passing channel (start_parts resolution x) x.graces) in
            let own = stroke_cover channel main main_bounds.0 (grace_notes channel (start_parts resolution x) 0 x.graces) passing in
            subst (λ (ns : List Note). Cover ns (flat_map (stroke_notes channel) (event_strokes resolution x))) (sym played)
            (subst (λ (ns : List Note). Cover (grace_notes channel (start_parts resolution x) 0 x.graces ++ chord) ns) (sym made) own)

-- ---- a voice

abbrev pub voice_strokes : ℕ → List Span → List Stroke
voice_strokes resolution spans = flat_map (event_strokes resolution) spans

module _ (resolution channel : ℕ) where
  pub spans_succeed : (from last : ℕ) (spans : List Span) → All (IsVoiceSpan resolution) spans → FollowFrom resolution last from spans → Succeed from (voice_strokes resolution spans) last
  spans_succeed from last [] each follow = follow
  spans_succeed from last (x ∷ spans) each follow =
      event_succeeds resolution x (all_head (IsVoiceSpan resolution) x spans each) from last (voice_strokes resolution spans) follow.0
      (spans_succeed (end_parts resolution x) last spans (all_tail (IsVoiceSpan resolution) x spans each) follow.1)

  spans_cover : (spans : List Span) → All (IsVoiceSpan resolution) spans → Cover (flat_map (event_notes resolution channel) spans) (notes_of channel (voice_strokes resolution spans))
  spans_cover [] each = cover_nothing
  spans_cover (x ∷ spans) each =
      let both = cover_both (event_notes resolution channel x) (flat_map (event_notes resolution channel) spans) (flat_map (stroke_notes channel) (event_strokes resolution x)) (notes_of channel (voice_strokes resolution spans))
      (event_cover resolution x (all_head (IsVoiceSpan resolution) x spans each) channel) (spans_cover spans (all_tail (IsVoiceSpan resolution) x spans each)) in
      subst (λ (ns : List Note). Cover (flat_map (event_notes resolution channel) (x ∷ spans)) ns) (sym (flat_map-append (stroke_notes channel) (event_strokes resolution x) (voice_strokes resolution spans))) both

  pub voice_kept : (last : ℕ) (spans : List Span) → AreOfVoice resolution last spans → AreKept (flat_map (event_notes resolution channel) spans) (notes_of channel (voice_strokes resolution spans))
  voice_kept last spans h =
      kept_notes (flat_map (event_notes resolution channel) spans) (notes_of channel (voice_strokes resolution spans))
      (notes_order channel 0 last (voice_strokes resolution spans) (spans_succeed 0 last spans h.each h.follow)) (spans_cover spans h.each)

  pub voice_messages : (last : ℕ) (spans : List Span) → AreOfVoice resolution last spans → AreMessages (notes_of channel (voice_strokes resolution spans)) (map event_of (all_of channel (voice_strokes resolution spans)))
  voice_messages last spans h =
      let strokes : List Stroke = voice_strokes resolution spans in
      let succeed = spans_succeed 0 last spans h.each h.follow in
      record {
        messages = all_of channel strokes;
        in_order = pairs_from IsBefore (all_of channel strokes) (messages_order channel 0 last strokes succeed);
        exactly = λ m. (
          (λ c. place_among (notes_of channel strokes) (message_note m) (messages_of_notes channel 0 last strokes m succeed (among_contained (all_of channel strokes) m c))),
          λ c. place_among (all_of channel strokes) m (notes_have_messages channel strokes m (among_contained (notes_of channel strokes) (message_note m) c)),
        );
        are = refl;
      }

  -- its events can be written
  pub record CanStand (last : ℕ) (e : Event) : Type 0 where
    pub early : e.tick ≤ last
    pub channel_fits : HasChannel e.what

  can_stand : (last : ℕ) (m : Message) → channel < 16 → IsWithin channel last (message_note m) → CanStand last (event_of m)
  can_stand last (begins n) small is = record { early = is.onset; channel_fits = omega (arith, small, is.channel_is) }
  can_stand last (ends n) small is = record { early = is.end; channel_fits = omega (arith, small, is.channel_is) }

  pub voice_stands : (last : ℕ) (spans : List Span) → channel < 16 → AreOfVoice resolution last spans → All (CanStand last) (map event_of (all_of channel (voice_strokes resolution spans)))
  voice_stands last spans small h =
      let strokes : List Stroke = voice_strokes resolution spans in
      let succeed = spans_succeed 0 last spans h.each h.follow in
      all_from_among (CanStand last) (map event_of (all_of channel strokes)) (λ e a.
      let r = from_map event_of (all_of channel strokes) e a in
      let m : Message = r.0 in
      subst (CanStand last) (sym r.2) (can_stand last m small (notes_within channel 0 last strokes (message_note m) succeed (messages_of_notes channel 0 last strokes m succeed r.1))))

  -- in the order of their ticks
  pub voice_timed : (last : ℕ) (spans : List Span) → AreOfVoice resolution last spans → AreTimed 0 (map event_of (all_of channel (voice_strokes resolution spans))) last
  voice_timed last spans h =
      let strokes : List Stroke = voice_strokes resolution spans in
      let succeed = spans_succeed 0 last spans h.each h.follow in
      messages_timed 0 last (all_of channel strokes) (omega arith) (λ m a. omega arith)
      (λ m a. message_within channel last m (notes_within channel 0 last strokes (message_note m) succeed (messages_of_notes channel 0 last strokes m succeed a)))
      (messages_order channel 0 last strokes succeed)
