-- What is read is in its ranges, where the bytes are.
use Rattle.std.proofs.Common.{◌≡◌, ◌+◌, ◌-◌, ◌*◌, ◌/◌, ◌%◌, ◌<◌, ◌≤◌, ◌==◌, ◌&&◌, ◌||◌, nat_le, nat_lt, ℕ, zero, suc, Bool, true, false, List, [], ◌∷◌, length, map, get_or, take, drop, Option, Some, None, Result, Ok, Err, refl, sym, subst, arith}
use Rattle.std.specs.Prelude.{⊤, if◌then◌else◌, All, ◌≤ℤ◌, pos, negsuc}
use Rattle.std.specs.Int.{w8, cast_signed}
use Rattle.std.specs.List.Sorted.{IsNonDecreasing}
use Rattle.std.proofs.Math.Nat.{mod-lt}
use Rattle.std.proofs.lemmas.List.{get_or-take, length-take}
use Rattle.std.proofs.lemmas.Bool.Decides.{nat_tests}
use Rattle.rhythm_base.specs.declared.event.Event.{Event}
use Rattle.rhythm_base.specs.declared.event.What.TheVariants.{On, Off, Tempo, Signature, KeySig}
use Rattle.smf_reader.specs.declared.fault.SmfFault.{SmfFault}
use Rattle.smf_reader.specs.declared.fault.SmfFault.TheVariants.{BadMeta, BadData, Smpte, ZeroDivision, TooLate}
use Rattle.smf_reader.specs.declared.meaning.Meaning.{Meaning}
use Rattle.smf_reader.specs.declared.meaning.Meaning.TheVariants as meanings
use Rattle.smf_reader.specs.declared.event.Step.{Step}
use Rattle.smf_reader.specs.declared.header.Header.{Header}
use Rattle.smf_reader.specs.Outcome.{◌>>=◌, or_smf_fault}
use Rattle.smf_reader.specs.Played.{Smf, Track}
use Rattle.smf_reader.specs.Bytes.{byte, data_byte, content}
use Rattle.smf_reader.specs.Quantity.{quantity}
use Rattle.smf_reader.specs.Meta.{key_signature, meta_meaning, meta_event, signature, tempo, end_of_track}
use Rattle.smf_reader.specs.Message.{running_after, note_meaning, status, channel_message, system_exclusive, message}
use Rattle.smf_reader.specs.Event.{tick_after, event}
use Rattle.smf_reader.specs.Track.{begun_by, followed, silence, events}
use Rattle.smf_reader.specs.Chunk.{chunk, number, tracks}
use Rattle.smf_reader.specs.Header.{header, header_size}
use Rattle.smf_reader.specs.SmfFile.{smf}
use Rattle.smf_reader.specs.Ranges.{IsPlayedFile, IsPlayedTrack, IsSaid}
use Rattle.smf_reader.proofs.ReadToTheEnd.{Finds, any, chained, chosen, no_value, value}

abbrev pub AreBytes : List ℕ → Type 0
AreBytes bytes = All (λ b. b < 256) bytes

abbrev IsMeaning : Meaning → Type 0
IsMeaning (meanings.Event what) = IsSaid what
IsMeaning meanings.Skipped = ⊤
IsMeaning meanings.EndOfTrack = ⊤

-- ---- one message

read_data : (bytes : List ℕ) (p : ℕ) → Finds (λ b. b < 128) (data_byte bytes p)
unfolding data_byte
read_data bytes p = chained (any (byte bytes p)) (λ b _. below b (nat_lt b 128) refl)
  where
    below : (b : ℕ) (t : Bool) → nat_lt b 128 ≡ t → Finds (λ b. b < 128) (if t then Ok b else Err (BadData p))
    below b true is = value (grind (arith, nat_tests, is))
    below b false is = no_value

noted : (s key velocity : ℕ) → key < 128 → (a b : Bool) → IsMeaning (if a then meanings.Event (On (s % 16) key) else (if b then meanings.Event (Off (s % 16) key) else meanings.Skipped))
noted s key velocity low true b = (mod-lt s (omega arith), low)
noted s key velocity low false true = (mod-lt s (omega arith), low)
noted s key velocity low false false = tt

read_channel : (bytes : List ℕ) (s p : ℕ) → Finds (λ m. IsMeaning m.0) (channel_message bytes s p)
unfolding channel_message
read_channel bytes s p =
    chained (read_data bytes p)
    (λ first low. chosen _ _ _ (value {x = (meanings.Skipped, p + 1)} tt)
    (chained (any (data_byte bytes (p + 1))) (λ second _. value {x = (note_meaning s first second, p + 2)} (noted s first second low ((s / 16 == 9) && nat_lt 0 second) ((s / 16 == 9) || (s / 16 == 8))))))

read_exclusive : (bytes : List ℕ) (p : ℕ) → Finds (λ m. IsMeaning m.0) (system_exclusive bytes p)
unfolding system_exclusive
read_exclusive bytes p = chained (any (quantity bytes p)) (λ size _. chained (any (content bytes size.1 size.0)) (λ said _. value {x = (meanings.Skipped, size.1 + size.0)} tt))

-- ---- meta events

from_option : {A : Type 0} (P : A → Type 0) (o : Option A) (fault : SmfFault) → ((x : A) → o ≡ Some x → P x) → Finds P (or_smf_fault o fault)
from_option P None fault h = no_value
from_option P (Some x) fault h = value (h x refl)

some_is : {A : Type 0} (x y : A) → ◌≡◌ {A = Option A} (Some x) (Some y) → x ≡ y
some_is x y h = cc

read_tempo : (said : List ℕ) → AreBytes said → (m : Meaning) → tempo said ≡ Some m → IsMeaning m
read_tempo [] bytes m is = absurd (cc)
read_tempo (a ∷ []) bytes m is = absurd (cc)
read_tempo (a ∷ b ∷ []) bytes m is = absurd (cc)
read_tempo (a ∷ b ∷ c ∷ []) bytes m is = by (a * 65536 + b * 256 + c == 0) refl is
  where
    first : a < 256
    first = bytes 0 0 (omega arith)

    second : b < 256
    second = bytes 1 0 (omega arith)

    third : c < 256
    third = bytes 2 0 (omega arith)

    by : (t : Bool) → (a * 65536 + b * 256 + c == 0) ≡ t → (if t then None else Some (meanings.Event (Tempo (a * 65536 + b * 256 + c)))) ≡ Some m → IsMeaning m
    by true none is = absurd (cc)
    by false some is = subst IsMeaning (some_is (meanings.Event (Tempo (a * 65536 + b * 256 + c))) m is) (grind (arith, nat_tests, some), omega (arith, first, second, third))
read_tempo (a ∷ b ∷ c ∷ d ∷ more) bytes m is = absurd (cc)

sharps_or_flats : (s : ℕ) → s < 256 → (nat_le s 7 || nat_le 249 s) ≡ true → (negsuc 6 ≤ℤ cast_signed w8 s) × (cast_signed w8 s ≤ℤ pos 7)
sharps_or_flats s low_byte h = by (nat_lt s 128) refl
  where
    by : (b : Bool) → nat_lt s 128 ≡ b → (negsuc 6 ≤ℤ cast_signed w8 s) × (cast_signed w8 s ≤ℤ pos 7)
    by true low =
        let same : cast_signed w8 s ≡ pos s = rw low refl in
        let few : s ≤ 7 = grind (arith, nat_tests, h, low) in
        subst (λ z. (negsuc 6 ≤ℤ z) × (z ≤ℤ pos 7)) (sym same) (grind (arith, nat_tests, few), grind (arith, nat_tests, few))
    by false high =
        let same : cast_signed w8 s ≡ negsuc (256 - suc s) = rw high refl in
        let few : 249 ≤ s = grind (arith, nat_tests, h, high) in
        subst (λ z. (negsuc 6 ≤ℤ z) × (z ≤ℤ pos 7)) (sym same) (grind (arith, nat_tests, few, low_byte), grind (arith, nat_tests, few))

read_key : (said : List ℕ) → AreBytes said → (m : Meaning) → key_signature said ≡ Some m → IsMeaning m
read_key [] bytes m is = absurd (cc)
read_key (s ∷ []) bytes m is = absurd (cc)
read_key (s ∷ minor ∷ []) bytes m is = by (nat_le s 7 || nat_le 249 s) (nat_le minor 1) refl is
  where
    by : (t u : Bool) → (nat_le s 7 || nat_le 249 s) ≡ t → (if t && u then Some (meanings.Event (KeySig (cast_signed w8 s))) else None) ≡ Some m → IsMeaning m
    by true true few is = subst IsMeaning (some_is (meanings.Event (KeySig (cast_signed w8 s))) m is) (sharps_or_flats s (bytes 0 0 (omega arith)) few)
    by true false few is = absurd (cc)
    by false u few is = absurd (cc)
read_key (s ∷ minor ∷ c ∷ more) bytes m is = absurd (cc)

read_signature : (said : List ℕ) (m : Meaning) → signature said ≡ Some m → IsMeaning m
read_signature [] m is = absurd (cc)
read_signature (a ∷ []) m is = absurd (cc)
read_signature (a ∷ b ∷ []) m is = absurd (cc)
read_signature (a ∷ b ∷ c ∷ []) m is = absurd (cc)
read_signature (a ∷ b ∷ c ∷ d ∷ []) m is = subst IsMeaning (some_is (meanings.Event (Signature a b)) m is) tt
read_signature (a ∷ b ∷ c ∷ d ∷ e ∷ more) m is = absurd (cc)

read_end : (said : List ℕ) (m : Meaning) → end_of_track said ≡ Some m → IsMeaning m
read_end [] m is = subst IsMeaning (some_is meanings.EndOfTrack m is) tt
read_end (a ∷ more) m is = absurd (cc)

which : (a b c d : Bool) (said : List ℕ) → AreBytes said → (m : Meaning)
    → (if a then end_of_track said else (if b then tempo said else (if c then signature said else (if d then key_signature said else Some meanings.Skipped)))) ≡ Some m → IsMeaning m
which true b c d said bytes m is = read_end said m is
which false true c d said bytes m is = read_tempo said bytes m is
which false false true d said bytes m is = read_signature said m is
which false false false true said bytes m is = read_key said bytes m is
which false false false false said bytes m is = subst IsMeaning (some_is meanings.Skipped m is) tt

bytes-drop : (n : ℕ) (bytes : List ℕ) → AreBytes bytes → AreBytes (drop n bytes)
bytes-drop zero bytes h = h
bytes-drop (suc n) [] h = h
bytes-drop (suc n) (b ∷ bytes) h = bytes-drop n bytes (λ k d lt. h (suc k) d (omega (arith, lt)))

bytes-take : (n : ℕ) (bytes : List ℕ) → AreBytes bytes → AreBytes (take n bytes)
bytes-take n bytes h k d lt =
    let within = length-take n bytes in
    subst (λ b. b < 256) (sym (get_or-take n bytes k d (omega (arith, lt, within)))) (h k d (omega (arith, lt, within)))

read_content : (bytes : List ℕ) (p size : ℕ) → AreBytes bytes → Finds AreBytes (content bytes p size)
read_content bytes p size h = chosen _ _ _ no_value (value (bytes-take size (drop p bytes) (bytes-drop p bytes h)))

read_meta : (bytes : List ℕ) (p : ℕ) → AreBytes bytes → Finds (λ m. IsMeaning m.0) (meta_event bytes p)
unfolding meta_event
read_meta bytes p h =
    chained (any (byte bytes (p + 1)))
    (λ type _. chained (any (quantity bytes (p + 2)))
    (λ size _. chained (read_content bytes size.1 size.0 h)
    (λ said are. chained (from_option IsMeaning (meta_meaning type said) (BadMeta p) (λ m is. which (type == 0x2f) (type == 0x51) (type == 0x58) (type == 0x59) said are m is))
    (λ meaning good. value {x = (meaning, size.1 + size.0)} good))))

-- ---- events

read_message : (bytes : List ℕ) (p s after : ℕ) → AreBytes bytes → Finds (λ m. IsMeaning m.0) (message bytes p s after)
unfolding message
read_message bytes p s after h =
    chosen _ _ _ (read_channel bytes s after) (chosen _ _ _ (read_meta bytes p h) (chosen _ _ _ (read_exclusive bytes after) no_value))

read_tick : (bytes : List ℕ) (tick p : ℕ) → Finds {A = ℕ × ℕ} (λ d. (tick ≤ d.0) × (d.0 ≤ 1000000000)) (tick_after bytes tick p)
unfolding tick_after
read_tick bytes tick p = chained (any (quantity bytes p)) (λ delta _. small delta (nat_le (tick + delta.0) 1000000000) refl)
  where
    small : (delta : ℕ × ℕ) (t : Bool) → nat_le (tick + delta.0) 1000000000 ≡ t
        → Finds {A = ℕ × ℕ} (λ d. (tick ≤ d.0) × (d.0 ≤ 1000000000)) (if t then Ok (tick + delta.0, delta.1) else Err (TooLate p))
    small delta true is = value {x = (tick + delta.0, delta.1)} (omega arith, grind (arith, nat_tests, is))
    small delta false is = no_value

abbrev IsStep : ℕ → Step → Type 0
IsStep tick step = (tick ≤ step.tick) × (step.tick ≤ 1000000000) × IsMeaning step.meaning

read_event : (bytes : List ℕ) (tick : ℕ) (running : Option ℕ) (p : ℕ) → AreBytes bytes → Finds (IsStep tick) (event bytes tick running p)
unfolding event
read_event bytes tick running p h =
    chained (read_tick bytes tick p)
    (λ at late. chained (any (status bytes running at.1))
    (λ head _. chained (read_message bytes at.1 head.0 head.1 h)
    (λ said good. value {x = record { tick = at.0; meaning = said.0; running = running_after head.0 running; next = said.1 }} (late.0, late.1, good))))

-- ---- tracks

-- events from a tick on, in order, up to the last
abbrev Climbs : ℕ → List Event → ℕ → Type 0
Climbs tick [] last = (tick ≤ last) × (last ≤ 1000000000)
Climbs tick (e ∷ es) last = (tick ≤ e.tick) × IsSaid e.what × Climbs e.tick es last

climbs_from : (a b : ℕ) (es : List Event) (last : ℕ) → a ≤ b → Climbs b es last → Climbs a es last
climbs_from a b [] last le h = (omega (arith, le, h.0), h.1)
climbs_from a b (e ∷ es) last le h = (omega (arith, le, h.0), h.1, h.2)

abbrev IsTrackFrom : ℕ → Track → Type 0
IsTrackFrom tick t = Climbs tick t.events t.last

read_followed : (tick : ℕ) (step : Step) (after : Result Track SmfFault) → IsStep tick step → Finds (IsTrackFrom step.tick) after
    → (m : Meaning) → step.meaning ≡ m → Finds (IsTrackFrom tick) (followed m step.tick after)
read_followed tick step after is later (meanings.Event what) same =
    chained later (λ t climbs. value {x = begun_by step.tick what t} (is.0, subst IsMeaning same is.2, climbs))
read_followed tick step after is later meanings.Skipped same = record { at = λ t e. climbs_from tick step.tick t.events t.last is.0 (later.at t e) }
read_followed tick step after is later meanings.EndOfTrack same = value {x = silence step.tick} (is.0, is.1)

read_events : (n : ℕ) (bytes : List ℕ) (tick : ℕ) (running : Option ℕ) (p : ℕ) → AreBytes bytes → tick ≤ 1000000000 → Finds (IsTrackFrom tick) (events n bytes tick running p)
unfolding events
read_events zero bytes tick running p h le = value {x = silence tick} (omega arith, le)
read_events (suc n) bytes tick running p h le =
    chosen _ _ _ (value {x = silence tick} (omega arith, le))
    (chained (read_event bytes tick running p h)
    (λ step is. read_followed tick step (events n bytes step.tick step.running step.next) is (read_events n bytes step.tick step.running step.next h is.1) step.meaning refl))

climbs_last : (tick : ℕ) (es : List Event) (last : ℕ) → Climbs tick es last → (tick ≤ last) × (last ≤ 1000000000)
climbs_last tick [] last h = h
climbs_last tick (e ∷ es) last h = let rest = climbs_last e.tick es last h.2 in (omega (arith, h.0, rest.0), rest.1)

climbs_low : (tick : ℕ) (es : List Event) (last : ℕ) → Climbs tick es last → (j d : ℕ) → j < length (map (λ e. e.tick) es) → tick ≤ get_or (map (λ e. e.tick) es) j d
climbs_low tick [] last h j d lt = absurd (omega (arith, lt))
climbs_low tick (e ∷ es) last h zero d lt = h.0
climbs_low tick (e ∷ es) last h (suc j) d lt = let later = climbs_low e.tick es last h.2 j d (omega (arith, lt)) in omega (arith, h.0, later)

climbs_order : (tick : ℕ) (es : List Event) (last : ℕ) → Climbs tick es last → IsNonDecreasing (map (λ e. e.tick) es)
climbs_order tick [] last h i j d le lt = absurd (omega (arith, lt))
climbs_order tick (e ∷ es) last h zero zero d le lt = omega arith
climbs_order tick (e ∷ es) last h zero (suc j) d le lt = climbs_low e.tick es last h.2 j d (omega (arith, lt))
climbs_order tick (e ∷ es) last h (suc i) zero d le lt = absurd (omega (arith, le))
climbs_order tick (e ∷ es) last h (suc i) (suc j) d le lt = climbs_order e.tick es last h.2 i j d (omega (arith, le)) (omega (arith, lt))

climbs_all : (tick : ℕ) (es : List Event) (last : ℕ) → Climbs tick es last → All (λ e. (e.tick ≤ last) × IsSaid e.what) es
climbs_all tick [] last h k d lt = absurd (omega (arith, lt))
climbs_all tick (e ∷ es) last h zero d lt = ((climbs_last e.tick es last h.2).0, h.1)
climbs_all tick (e ∷ es) last h (suc k) d lt = climbs_all e.tick es last h.2 k d (omega (arith, lt))

is_track : (t : Track) → IsTrackFrom 0 t → IsPlayedTrack t
is_track t h =
    let all = climbs_all 0 t.events t.last h in
    record {
      in_order = climbs_order 0 t.events t.last h;
      within = λ k d lt. (all k d lt).0;
      said = λ k d lt. (all k d lt).1;
      few_ticks = (climbs_last 0 t.events t.last h).1;
    }

all_cons : (t : Track) (ts : List Track) → IsPlayedTrack t → All IsPlayedTrack ts → All IsPlayedTrack (t ∷ ts)
all_cons t ts one all zero d lt = one
all_cons t ts one all (suc k) d lt = all k d (omega (arith, lt))

read_tracks : (n count : ℕ) (bytes : List ℕ) (p : ℕ) → AreBytes bytes → Finds (All IsPlayedTrack) (tracks n count bytes p)
unfolding tracks
read_tracks n zero bytes p h = value {x = []} (λ k d lt. absurd (omega (arith, lt)))
read_tracks zero (suc count) bytes p h = no_value
read_tracks (suc n) (suc count) bytes p h =
    chained (any (chunk bytes p))
    (λ c _. chosen _ _ _
    (chained (read_events (length (take c.end bytes)) (take c.end bytes) 0 None c.begin (bytes-take c.end bytes h) (omega arith))
    (λ first is. chained (read_tracks n count bytes c.end h) (λ others are. value {x = first ∷ others} (all_cons first others (is_track first is) are))))
    (read_tracks n (suc count) bytes c.end h))

-- ---- the file

read_header : (bytes : List ℕ) → Finds {A = Header} (λ head. (1 ≤ head.division) × (head.division ≤ 32767)) (header bytes)
unfolding header
read_header bytes =
    chained (any (header_size bytes))
    (λ size _. chosen _ _ _ no_value (ticks size (nat_le 32768 (number 2 bytes 12)) (number 2 bytes 12 == 0) refl refl))
  where
    ticks : (size : ℕ) (a b : Bool) → nat_le 32768 (number 2 bytes 12) ≡ a → (number 2 bytes 12 == 0) ≡ b
        → Finds {A = Header} (λ head. (1 ≤ head.division) × (head.division ≤ 32767)) (if a then Err Smpte else (if b then Err ZeroDivision else Ok (record { tracks = number 2 bytes 10; division = number 2 bytes 12; end = 8 + size })))
    ticks size true b few some = no_value
    ticks size false true few some = no_value
    ticks size false false few some = value {x = record { tracks = number 2 bytes 10; division = number 2 bytes 12; end = 8 + size }} (grind (arith, nat_tests, some), grind (arith, nat_tests, few))

pub in_range : (bytes : List ℕ) → AreBytes bytes → (played : Smf) → smf bytes ≡ Ok played → IsPlayedFile played
unfolding smf
in_range bytes h played is =
    let finds : Finds IsPlayedFile (header bytes >>= λ head. tracks (length bytes) head.tracks bytes head.end >>= λ played. Ok (record { division = head.division; tracks = played })) =
    chained (read_header bytes)
    (λ head ticks. chained (read_tracks (length bytes) head.tracks bytes head.end h)
    (λ ts are. value {x = record { division = head.division; tracks = ts }} (record { some_tick = ticks.0; few_ticks = ticks.1; tracks = are }))) in
    finds.at played is
