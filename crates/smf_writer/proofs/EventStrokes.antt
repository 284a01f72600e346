-- The events that the strokes of an event make.
use Rattle.std.proofs.Common.{◌≡◌, ℕ, ◌+◌, ◌-◌, ◌*◌, ◌/◌, ◌<◌, ◌≤◌, ◌==◌, ◌≢◌, Bool, true, false, List, [], ◌∷◌, ◌++◌, length, map, refl, sym, ap, ◌∙◌, append_assoc, append-nil, arith}
use Rattle.std.specs.Prelude.{if◌then◌else◌, nat_lt}
use Rattle.std.proofs.lemmas.Bool.Decides.{nat_tests}
use Rattle.std.proofs.lemmas.Grind.{flat_map-append}
use Rattle.rhythm_base.specs.declared.event.Event.{Event}
use Rattle.rhythm_base.specs.declared.span.Span.{Span}
use Rattle.voice_events.specs.declared.event.KernEvent.{KernEvent}
use Rattle.voice_events.specs.Parts.{end_parts, len_parts, start_parts}
use Rattle.smf_writer.specs.EventNotes.{main_end, main_onset}
use Rattle.smf_writer.specs.NoteMessages.{event_of}
use Rattle.smf_writer.specs.Strokes.{event_strokes, grace_strokes, joined_keys, main_stroke, own_events, stroke_messages, strokes_events}
use Rattle.smf_writer.specs.declared.stroke.Stroke.{Stroke}
use Rattle.rhythm_base.proofs.Booleans.{equal_test}

module _ (resolution : ℕ) (x : Span) where
  abbrev pub half_way : ℕ → ℕ
  half_way onset = if x.short then onset + (end_parts resolution x - onset) / 2 else end_parts resolution x

  main_is : (onset end passing : ℕ) → onset ≡ main_onset resolution x → end ≡ half_way onset → ◌≡◌ {A = Stroke} record { onset = onset; end = end; held = x.keys; passing = passing } (main_stroke resolution x passing)
  main_is onset end passing at ending =
      let ends : end ≡ main_end resolution x = ending ∙ ap half_way at in
      λ i. record { onset = at i; end = ends i; held = x.keys; passing = passing }

  onset_by : Bool → ℕ
  onset_by b = start_parts resolution x + (if b then 1 else 0) * length x.graces

  pub graced_onset : nat_lt (length x.graces) (len_parts resolution x) ≡ true → start_parts resolution x + length x.graces ≡ main_onset resolution x
  unfolding onset_by
  graced_onset few = let one : start_parts resolution x + length x.graces ≡ onset_by true = omega arith in one ∙ sym (ap onset_by few)

  pub crowded_onset : nat_lt (length x.graces) (len_parts resolution x) ≡ false → start_parts resolution x ≡ main_onset resolution x
  unfolding onset_by
  crowded_onset many = let none : start_parts resolution x ≡ onset_by false = omega arith in none ∙ sym (ap onset_by many)

  module _ (channel : ℕ) (old now : List Event) (onset end passing : ℕ) where
    abbrev pub made : List Event
    made = now ++ map event_of (stroke_messages channel (record { onset = onset; end = end; held = x.keys; passing = passing }))

    abbrev pub meant : List Event
    meant = old ++ strokes_events channel (event_strokes resolution x)

    pub graced : end ≡ half_way onset → length x.graces < len_parts resolution x → now ≡ old ++ strokes_events channel (grace_strokes (start_parts resolution x) x.graces) → onset ≡ start_parts resolution x + length x.graces → passing ≡ 0 → made ≡ meant
    graced ending less so_far at none =
        let few : nat_lt (length x.graces) (len_parts resolution x) ≡ true = grind (arith, nat_tests) in
        let graces : List Stroke = grace_strokes (start_parts resolution x) x.graces in
        let main : Stroke = main_stroke resolution x 0 in
        let strokes : event_strokes resolution x ≡ graces ++ main ∷ [] = rw few refl in
        let is = main_is onset end passing (at ∙ graced_onset few) ending ∙ ap (main_stroke resolution x) none in
        ap (λ (s : Stroke). now ++ map event_of (stroke_messages channel s)) is
        ∙ ap (λ (es : List Event). es ++ map event_of (stroke_messages channel main)) so_far
        ∙ append_assoc old (strokes_events channel graces) (map event_of (stroke_messages channel main))
        ∙ ap (λ (es : List Event). old ++ (strokes_events channel graces ++ es)) (sym (append-nil (map event_of (stroke_messages channel main))))
        ∙ ap (λ (es : List Event). old ++ es) (sym (flat_map-append (λ s. map event_of (stroke_messages channel s)) graces (main ∷ [])))
        ∙ ap (λ (ss : List Stroke). old ++ strokes_events channel ss) (sym strokes)

    pub crowded : end ≡ half_way onset → len_parts resolution x ≤ length x.graces → now ≡ old → onset ≡ start_parts resolution x → passing ≡ joined_keys x.graces → made ≡ meant
    crowded ending more so_far at all =
        let many : nat_lt (length x.graces) (len_parts resolution x) ≡ false = grind (arith, nat_tests) in
        let main : Stroke = main_stroke resolution x (joined_keys x.graces) in
        let strokes : event_strokes resolution x ≡ main ∷ [] = rw many refl in
        let is = main_is onset end passing (at ∙ crowded_onset many) ending ∙ ap (main_stroke resolution x) all in
        ap (λ (s : Stroke). now ++ map event_of (stroke_messages channel s)) is
        ∙ ap (λ (es : List Event). es ++ map event_of (stroke_messages channel main)) so_far
        ∙ ap (λ (es : List Event). old ++ es) (sym (append-nil (map event_of (stroke_messages channel main))))
        ∙ ap (λ (ss : List Stroke). old ++ strokes_events channel ss) (sym strokes)

-- ---- the events of one spine

pub other_false : (m n : ℕ) → m ≢ n → (m == n) ≡ false
other_false m n other = grind (arith, nat_tests)

pub own_there : (resolution channel spine : ℕ) (e : KernEvent) → e.spine ≡ spine → own_events resolution channel spine e ≡ strokes_events channel (event_strokes resolution e.span)
own_there resolution channel spine e is = ap (λ b. if b then strokes_events channel (event_strokes resolution e.span) else []) (equal_test e.spine spine is)

pub own_absent : (resolution channel spine : ℕ) (e : KernEvent) → e.spine ≢ spine → own_events resolution channel spine e ≡ []
own_absent resolution channel spine e other = ap (λ b. if b then strokes_events channel (event_strokes resolution e.span) else []) (other_false e.spine spine other)
