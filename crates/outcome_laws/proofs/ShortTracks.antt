-- The tracks of the events of a score are no longer than a file can say.
use Rattle.std.proofs.Common.{◌≡◌, ◌+◌, ◌-◌, ◌*◌, ◌≤◌, ◌==◌, ℕ, suc, Bool, true, false, List, [], ◌∷◌, ◌++◌, length, map, refl, arith, Option, Some, None, bit_or}
use Rattle.std.specs.Prelude.{All, if◌then◌else◌, nat_lt}
use Rattle.std.specs.List.{flat_map}
use Rattle.std.proofs.lemmas.List.{length-append, length-map}
use Rattle.std.proofs.lemmas.List.Elements.{All-nil}
use Rattle.derivation.specs.declared.score.ScoreBar.{ScoreBar}
use Rattle.voice_events.specs.declared.event.KernEvent.{KernEvent}
use Rattle.rhythm_base.specs.declared.event.Event.{Event}
use Rattle.rhythm_base.specs.declared.event.What.{What}
use Rattle.rhythm_base.specs.declared.event.What.TheVariants.{On, Off, Tempo, Signature, KeySig}
use Rattle.rhythm_base.specs.declared.note.Note.{Note}
use Rattle.rhythm_base.specs.declared.span.Span.{Span}
use Rattle.rhythm_base.proofs.OrderedLists.{all_cons}
use Rattle.smf_bytes.specs.Message.{message_bytes}
use Rattle.smf_bytes.specs.Quantity.{quantity_bytes}
use Rattle.smf_bytes.specs.Track.{bytes_from, end_of_track_bytes, timed_message}
use Rattle.smf_bytes.proofs.ShortForms.{quantity_short}
use Rattle.smf_writer.specs.Changes.{change_at, changes_at, changes_from, conductor, key_event, signature_event, tempo_event}
use Rattle.score_words.specs.Changes.{key_before}
use Rattle.smf_writer.specs.NoteMessages.{ends, event_of}
use Rattle.smf_writer.specs.Strokes.{begun_messages, ended, event_strokes, grace_strokes, joined_keys, main_stroke, own_events, spine_events, stroke_messages, stroke_note, stroke_notes, strokes_events, together, voices_from}
use Rattle.smf_writer.proofs.Tracks.{IsShort}
use Rattle.voice_events.specs.Parts.{len_parts, score_bar_parts, start_parts}
use Rattle.outcome_laws.proofs.EventKeys.{span_keys}
use Rattle.outcome_laws.proofs.KeyCounts.{flat_few, fold_count, joined_count, key_count, length_flat, mapped_count, no_keys, total, total_append}

-- ---- the bytes of a track

message_few : (what : What) → length (message_bytes what) ≤ 7
message_few (On channel key) = omega arith
message_few (Off channel key) = omega arith
message_few (Tempo micros) = omega arith
message_few (Signature num dd) = omega arith
message_few (KeySig sf) = omega arith

-- eleven for each event, and seven for the end
content_few : (t last : ℕ) (events : List Event) → length (bytes_from t (map timed_message events ++ (last, end_of_track_bytes) ∷ [])) ≤ 11 * length events + 7
unfolding bytes_from
content_few t last [] = let own = quantity_short (last - t) in let both = length-append (quantity_bytes (last - t)) (end_of_track_bytes ++ []) in omega (arith, own, both)
content_few t last (e ∷ events) =
    let own = quantity_short (e.tick - t) in
    let message = message_few e.what in
    let rest = content_few e.tick last events in
    let later : List ℕ = bytes_from e.tick (map timed_message events ++ (last, end_of_track_bytes) ∷ []) in
    let first = length-append (quantity_bytes (e.tick - t)) (message_bytes e.what ++ later) in
    let second = length-append (message_bytes e.what) later in
    omega (arith, own, message, rest, first, second)

pub few_are_short : (last : ℕ) (events : List Event) → length events ≤ 300000000 → IsShort last events
few_are_short last events few = let bytes = content_few 0 last events in omega (arith, bytes, few)

-- ---- the conductor

change_few : (tick : ℕ) (o : Option What) → length (change_at tick o) ≤ 1
change_few tick None = omega arith
change_few tick (Some what) = omega arith

conductor_few : (resolution : ℕ) (before : Option ScoreBar) (tick : ℕ) (bars : List ScoreBar) → length (changes_from resolution before tick bars) ≤ 3 * length bars
conductor_few resolution before tick [] = omega arith
conductor_few resolution before tick (bar ∷ bars) =
    let first = change_few tick (tempo_event before bar) in
    let second = change_few tick (signature_event before bar) in
    let third = change_few tick (key_event (key_before before) bar.sf) in
    let own = length_flat (change_at tick) (tempo_event before bar ∷ signature_event before bar ∷ key_event (key_before before) bar.sf ∷ []) in
    let rest = conductor_few resolution (Some bar) (tick + score_bar_parts resolution bar) bars in
    let both = length-append (changes_at tick before bar) (changes_from resolution (Some bar) (tick + score_bar_parts resolution bar) bars) in
    omega (arith, first, second, third, own, rest, both)

pub conductor_short : (resolution last : ℕ) (bars : List ScoreBar) → length bars ≤ 4096 → IsShort last (conductor resolution bars)
conductor_short resolution last bars few = let all = conductor_few resolution None 0 bars in few_are_short last (conductor resolution bars) (omega (arith, all, few))

-- ---- the voices

-- a note begins once and ends once
two_messages : (n : Note) → length (begun_messages n) + length (ended n) ≡ 2
two_messages n = go (nat_lt n.onset n.end)
  where
    go : (b : Bool) → suc (length (if b then [] else ends n ∷ [])) + length (if b then ends n ∷ [] else []) ≡ 2
    go true = refl
    go false = refl

messages_few : (notes : List Note) → total (λ n. length (begun_messages n)) notes + total (λ n. length (ended n)) notes ≡ 2 * length notes
messages_few [] = refl
messages_few (n ∷ notes) = let own = two_messages n in let rest = messages_few notes in omega (arith, own, rest)

messages_count : (notes : List Note) → length (map event_of (together notes)) ≡ 2 * length notes
messages_count notes =
    let mapped = length-map (together notes) event_of in
    let both = length-append (flat_map begun_messages notes) (flat_map ended notes) in
    let begun = length_flat begun_messages notes in
    let over = length_flat ended notes in
    let two = messages_few notes in
    omega (arith, mapped, both, begun, over, two)

-- ---- steps of numbers, which are stated of variables so that no list of keys is computed

twice_joined : (messages notes keys held passing : ℕ) → messages ≡ 2 * notes → notes ≡ keys → keys ≤ held + passing → messages ≤ 2 * (held + passing)
twice_joined messages notes keys held passing two same few = omega (arith, two, same, few)

twice_fewer : (a b c : ℕ) → a ≤ 2 * b → b ≤ c → a ≤ 2 * c
twice_fewer a b c two few = omega (arith, two, few)

few_enough : (a b : ℕ) → a ≤ 2 * b → b ≤ 150000000 → a ≤ 300000000
few_enough a b two few = omega (arith, two, few)

-- ---- strokes and events

abbrev type_of_result : {X Y Z W : Type 0} → (X → Y → Z → W) → Type 0
type_of_result {X} {Y} {Z} {W} f = W

abbrev Stroke : Type 0
Stroke = type_of_result main_stroke

abbrev stroke_keys : Stroke → ℕ
stroke_keys s = key_count s.held + key_count s.passing

stroke_few : (channel : ℕ) (s : Stroke) → length (map event_of (stroke_messages channel s)) ≤ 2 * stroke_keys s
stroke_few channel s =
    twice_joined _ _ _ _ _ (messages_count (stroke_notes channel s)) (mapped_count (stroke_note channel s) (bit_or s.held s.passing))
    (joined_count s.held s.passing)

graces_few : (onset : ℕ) (graces : List ℕ) → total stroke_keys (grace_strokes onset graces) ≡ total key_count graces
graces_few onset [] = refl
graces_few onset (keys ∷ graces) = let none = no_keys in let rest = graces_few (onset + 1) graces in omega (arith, none, rest)

strokes_few : (resolution : ℕ) (x : Span) → total stroke_keys (event_strokes resolution x) ≤ span_keys x
strokes_few resolution x = go (nat_lt (length x.graces) (len_parts resolution x))
  where
    go : (b : Bool)
        → total stroke_keys (if b then grace_strokes (start_parts resolution x) x.graces ++ main_stroke resolution x 0 ∷ [] else main_stroke resolution x (joined_keys x.graces) ∷ []) ≤ span_keys x
    go true =
        let none = no_keys in
        let graces = graces_few (start_parts resolution x) x.graces in
        let both = total_append stroke_keys (grace_strokes (start_parts resolution x) x.graces) (main_stroke resolution x 0 ∷ []) in
        omega (arith, none, graces, both)
    go false = let none = no_keys in let joined : key_count (joined_keys x.graces) ≤ key_count 0 + total key_count x.graces = fold_count (λ (keys : ℕ). keys) 0 x.graces in omega (arith, none, joined)

events_few : (channel : ℕ) (strokes : List Stroke) → length (strokes_events channel strokes) ≤ 2 * total stroke_keys strokes
events_few channel strokes = flat_few (λ s. map event_of (stroke_messages channel s)) stroke_keys (stroke_few channel) strokes

own_few : (resolution channel spine : ℕ) (e : KernEvent) → length (own_events resolution channel spine e) ≤ 2 * span_keys e.span
own_few resolution channel spine e = go (e.spine == spine)
  where
    go : (b : Bool) → length (if b then strokes_events channel (event_strokes resolution e.span) else []) ≤ 2 * span_keys e.span
    go true = twice_fewer _ _ _ (events_few channel (event_strokes resolution e.span)) (strokes_few resolution e.span)
    go false = omega arith

spine_few : (resolution spine channel : ℕ) (events : List KernEvent) → length (spine_events resolution events spine channel) ≤ 2 * total (λ (e : KernEvent). span_keys e.span) events
spine_few resolution spine channel events = flat_few (own_events resolution channel spine) (λ (e : KernEvent). span_keys e.span) (own_few resolution channel spine) events

pub voices_short : (resolution last : ℕ) (events : List KernEvent) → total (λ (e : KernEvent). span_keys e.span) events ≤ 150000000
    → (spine : ℕ) (channels : List ℕ) → All (IsShort last) (voices_from resolution events spine channels)
voices_short resolution last events few spine [] = All-nil (IsShort last)
voices_short resolution last events few spine (channel ∷ channels) =
    all_cons (IsShort last) (spine_events resolution events spine channel) (voices_from resolution events (suc spine) channels)
    (few_are_short last (spine_events resolution events spine channel) (few_enough _ _ (spine_few resolution spine channel events) few))
    (voices_short resolution last events few (suc spine) channels)
