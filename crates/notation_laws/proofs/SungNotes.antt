-- The notes of a voice have the keys of its spans, so each chord has some, and each grace chord.
use Rattle.std.proofs.Common.{◌≡◌, ℕ, ◌+◌, ◌*◌, ◌/◌, ◌==◌, Bool, true, false, List, [], ◌∷◌, ◌++◌, Option, Some, None, length, map, refl, sym, ap, ◌∙◌, subst, ◌⊎◌, inl, inr, arith}
use Rattle.std.specs.Prelude.{All, IfSome, if◌then◌else◌}
use Rattle.std.proofs.lemmas.Bool.{false≢true}
use Rattle.std.proofs.lemmas.Bool.Decides.{nat_tests}
use Rattle.std.proofs.lemmas.List.Elements.{All-cons, All-head, All-nil, All-tail}
use Rattle.rhythm_base.proofs.Booleans.{not_both_tests}
use Rattle.rhythm_base.specs.declared.note.Bar.{Bar}
use Rattle.rhythm_base.specs.declared.sound.Sound.{Sound}
use Rattle.rhythm_base.specs.declared.sound.SoundKind.{SoundKind}
use Rattle.rhythm_base.specs.declared.sound.SoundKind.TheVariants.{Begin, Short, Tie, Rest}
use Rattle.rhythm_base.specs.SoundKinds.{begins_chord, is_rest}
use Rattle.durations.specs.Spans.{chord_runs}
use Rattle.derivation.specs.declared.score.ScoreBar.{ScoreBar}
use Rattle.derivation.specs.WellSounded.{AreKeys, IsWellSounding}
use Rattle.derivation.proofs.SpansRead.{ties_of}
use Rattle.text_words.specs.Steps.{◌>>=◌}
use Rattle.notation.specs.Bars.{AreVoiceGroups}
use Rattle.notation.specs.Notes.{Group, Note}
use Rattle.notation_laws.specs.Hearing.{HeardSpan, HeardVoice, ended_spans}
use Rattle.notation_laws.specs.Laws.{IsVoice}
use Rattle.notation_laws.specs.NotesHeard.{group_notes, hear_bar, hear_bars}
use Rattle.notation_laws.proofs.BarHeard.{rest_segment}
use Rattle.voice_events.proofs.BarUnits.{signatures_kept, some_bar}
use Rattle.notation_laws.proofs.GroupSegments.{note_segment, note_segments, notes_heard}
use Rattle.notation_laws.proofs.Says.{IsClean, clean_later, heard_first}
use Rattle.notation_laws.proofs.Segments.{IsBegin, IsRest, Segment, begun, clean, hear_segment, hear_segments, longer, more_only, rest_or_begin, sounded}
use Rattle.notation_laws.proofs.SoundsHeard.{run_heard, spans_heard}
use Rattle.notation_laws.proofs.VoiceHeard.{all_front, voice_runs}

pub record IsSung (keys : ℕ) (graces : List ℕ) : Type 0 where
  pub keys_are : AreKeys keys
  pub graces_are : All AreKeys graces

abbrev IsSungSpan : HeardSpan ℕ → Type 0
IsSungSpan x = IsSung x.keys x.graces

-- all that was heard has keys
record IsSungVoice (h : HeardVoice ℕ) : Type 0 where
  ended : All IsSungSpan h.spans
  on : IfSome h.going IsSungSpan

-- a note has keys, or is a rest
pub record IsSungSegment (p : Segment) : Type 0 where
  pub keys : (p.keys == 0) ≡ false → AreKeys p.keys
  pub graces : All AreKeys p.graces

-- ---- what is known before a segment, by what is known after it

record WasSung (done : List (HeardSpan ℕ)) (at : ℕ) (going : Option (HeardSpan ℕ)) (p : Segment) : Type 0 where
  before : IsSungVoice (clean done at going)
  own : IsSungSegment p

all_last : (xs : List (HeardSpan ℕ)) (x : HeardSpan ℕ) → All IsSungSpan (xs ++ x ∷ []) → IsSungSpan x
all_last [] x all = All-head IsSungSpan x [] all
all_last (y ∷ xs) x all = all_last xs x (All-tail IsSungSpan y (xs ++ x ∷ []) all)

span_sung : (goes : Bool) (done : List (HeardSpan ℕ)) (at : ℕ) (x : HeardSpan ℕ) → IsSungVoice (sounded goes done at x)
    → All IsSungSpan done × IsSungSpan x
span_sung true done at x is = (is.ended, is.on)
span_sung false done at x is = (all_front IsSungSpan done (x ∷ []) is.ended, all_last done x is.ended)

no_graces : (graces : List ℕ) → graces ≡ [] → All AreKeys graces
no_graces graces none = subst (All AreKeys) (sym none) (All-nil AreKeys)

segment_sung : (done : List (HeardSpan ℕ)) (at : ℕ) (going : Option (HeardSpan ℕ)) (p : Segment) (h : HeardVoice ℕ)
    → hear_segment (clean done at going) p ≡ Some h → IsSungVoice h → WasSung done at going p
segment_sung done at None p h e sung = go (rest_or_begin done at p h e)
  where
    go : (IsRest p × (h ≡ clean done (at + p.len) None)) ⊎ (IsBegin p × (h ≡ sounded p.goes done (at + p.len) (begun at p)))
        → WasSung done at None p
    go (inl (is, same)) =
        let after = subst IsSungVoice same sung in
        record {
          before = record { ended = after.ended; on = tt };
          own = record { keys = λ sounds. absurd (not_both_tests (p.keys == 0) is.silent sounds); graces = no_graces p.graces is.graces };
        }
    go (inr (is, same)) =
        let (ended, x) = span_sung p.goes done (at + p.len) (begun at p) (subst IsSungVoice same sung) in
        record { before = record { ended = ended; on = tt }; own = record { keys = λ sounds. x.keys_are; graces = x.graces_are } }
segment_sung done at (Some x) p h e sung =
    let (is, same) = more_only done at x p h e in
    let (ended, long) = span_sung p.goes done (at + p.len) (longer x p.len) (subst IsSungVoice same sung) in
    let keys : x.keys ≡ p.keys = equal x.keys p.keys is.same in
    record {
      before = record { ended = ended; on = record { keys_are = long.keys_are; graces_are = long.graces_are } };
      own = record { keys = λ sounds. subst AreKeys keys long.keys_are; graces = no_graces p.graces is.graces };
    }
  where
    equal : (a b : ℕ) → (a == b) ≡ true → a ≡ b
    equal a b h = grind (arith, nat_tests)

segments_sung : (done : List (HeardSpan ℕ)) (at : ℕ) (going : Option (HeardSpan ℕ)) (ps : List Segment) (h : HeardVoice ℕ)
    → hear_segments (clean done at going) ps ≡ Some h → IsSungVoice h → IsSungVoice (clean done at going) × All IsSungSegment ps
segments_sung done at going [] h e sung = (subst IsSungVoice (sym (same (clean done at going) h e)) sung, All-nil IsSungSegment)
  where
    same : (x y : HeardVoice ℕ) → Some x ≡ Some y → x ≡ y
    same x y e = cc
segments_sung done at going (p ∷ ps) h e sung =
    let (next, one, rest) = heard_first (hear_segment (clean done at going) p) (λ next. hear_segments next ps) h e in
    let (done', at', going', is) = clean_later done at going (p ∷ []) next (ap (λ o. o >>= λ n. Some n) one) in
    let (after, others) = segments_sung done' at' going' ps h (subst (λ n. hear_segments n ps ≡ Some h) is rest) sung in
    let own = segment_sung done at going p next one (subst IsSungVoice (sym is) after) in
    (own.before, All-cons IsSungSegment p ps own.own others)

-- ---- bars

abbrev pub IsSungNote : Note → Type 0
IsSungNote n = IsSungSegment (note_segment n)

abbrev pub AreSung : List Group → Type 0
AreSung groups = All IsSungNote (group_notes groups)

all_notes : (notes : List Note) → All IsSungSegment (note_segments notes) → All IsSungNote notes
all_notes [] all = All-nil IsSungNote
all_notes (n ∷ notes) all =
    All-cons IsSungNote n notes (All-head IsSungSegment (note_segment n) (note_segments notes) all)
    (all_notes notes (All-tail IsSungSegment (note_segment n) (note_segments notes) all))

record BarSung (done : List (HeardSpan ℕ)) (at : ℕ) (going : Option (HeardSpan ℕ)) (groups : List Group)
    (next : HeardVoice ℕ) : Type 0 where
  clean_there : IsClean next
  sung : IsSungVoice next → IsSungVoice (clean done at going) × AreSung groups

bar_sung : (r : ℕ) (bar : ScoreBar) (groups : List Group) (done : List (HeardSpan ℕ)) (at : ℕ) (going : Option (HeardSpan ℕ))
    (next : HeardVoice ℕ)
    → hear_bar r bar (clean done at going) groups ≡ Some next → BarSung done at going groups next
bar_sung r bar [] done at going next e =
    let rest = rest_segment (r * (bar.num * (64 / bar.den))) in
    let heard : hear_segments (clean done at going) (rest ∷ []) ≡ Some next = ap (λ o. o >>= λ n. Some n) e in
    record {
      clean_there = clean_later done at going (rest ∷ []) next heard;
      sung = λ sung. ((segments_sung done at going (rest ∷ []) next heard sung).0, All-nil IsSungNote);
    }
bar_sung r bar (g ∷ groups) done at going next e =
    let notes = group_notes (g ∷ groups) in
    let heard : hear_segments (clean done at going) (note_segments notes) ≡ Some next = sym (notes_heard (clean done at going) notes) ∙ e in
    record {
      clean_there = clean_later done at going (note_segments notes) next heard;
      sung = λ sung. let (before, all) = segments_sung done at going (note_segments notes) next heard sung in (before, all_notes notes all);
    }

bars_sung : (r : ℕ) (bars : List ScoreBar) (all : List (List Group)) (done : List (HeardSpan ℕ)) (at : ℕ) (going : Option (HeardSpan ℕ))
    (last : HeardVoice ℕ)
    → hear_bars r bars (clean done at going) all ≡ Some last → IsSungVoice last → IsSungVoice (clean done at going) × All AreSung all
bars_sung r [] [] done at going last e sung = (subst IsSungVoice (sym (same (clean done at going) last e)) sung, All-nil AreSung)
  where
    same : (x y : HeardVoice ℕ) → Some x ≡ Some y → x ≡ y
    same x y e = cc
bars_sung r [] (groups ∷ all) done at going last e sung = absurd (cc)
bars_sung r (bar ∷ bars) [] done at going last e sung = absurd (cc)
bars_sung r (bar ∷ bars) (groups ∷ all) done at going last e sung =
    let (next, one, rest) = heard_first (hear_bar r bar (clean done at going) groups) (λ next. hear_bars r bars next all) last e in
    let own = bar_sung r bar groups done at going next one in
    let (done', at', going', is) = own.clean_there in
    let (after, others) = bars_sung r bars all done' at' going' last (subst (λ n. hear_bars r bars n all ≡ Some last) is rest) sung in
    let (before, mine) = own.sung (subst IsSungVoice (sym is) after) in
    (before, All-cons AreSung groups all mine others)

-- ---- the voice

runs_sung : (r total : ℕ) (bars : List Bar) (sounds : List Sound) → All IsWellSounding sounds
    → All IsSungSpan (spans_heard r total bars sounds)
runs_sung r total bars [] well = All-nil IsSungSpan
runs_sung r total bars (s ∷ sounds) well =
    go (begins_chord s.kind) refl (runs_sung r total bars sounds (All-tail IsWellSounding s sounds well))
  where
    chord_sounds : (k : SoundKind) → begins_chord k ≡ true → is_rest k ≡ false
    chord_sounds Begin e = refl
    chord_sounds Short e = refl
    chord_sounds Tie e = refl
    chord_sounds Rest e = absurd (false≢true e)

    own : IsWellSounding s
    own = All-head IsWellSounding s sounds well

    go : (b : Bool) → begins_chord s.kind ≡ b → All IsSungSpan (spans_heard r total bars sounds)
        → All IsSungSpan (map (run_heard r total bars) (if b then (s, ties_of sounds) ∷ chord_runs sounds else chord_runs sounds))
    go true e rest =
        All-cons IsSungSpan (run_heard r total bars (s, ties_of sounds)) (spans_heard r total bars sounds)
        (record { keys_are = own.sounding (chord_sounds s.kind e); graces_are = own.graces }) rest
    go false e rest = rest

ended : (h : HeardVoice ℕ) (spans : List (HeardSpan ℕ)) → ended_spans h ≡ Some spans → All IsSungSpan spans → IsSungVoice h
ended h spans e all = go h.going h.graces refl e
  where
    some : (x y : List (HeardSpan ℕ)) → Some x ≡ Some y → x ≡ y
    some x y e = cc

    go : (going : Option (HeardSpan ℕ)) (graces : List ℕ) → h.going ≡ going
        → ended_spans (record { spans = h.spans; at = h.at; going = going; graces = graces }) ≡ Some spans → IsSungVoice h
    go None [] none e =
        record { ended = subst (All IsSungSpan) (sym (some h.spans spans e)) all; on = subst (λ o. IfSome o IsSungSpan) (sym none) tt }
    go None (g ∷ graces) none e = absurd (cc)
    go (Some x) graces none e = absurd (cc)

pub voice_sung : (r : ℕ) (bars : List ScoreBar) (sounds : List Sound) (all : List (List Group)) → IsVoice r bars sounds
    → AreVoiceGroups r 0 bars sounds all
    → All AreSung all
voice_sung r bars sounds all voice groups =
    let spans = spans_heard r (length bars) (map some_bar bars) sounds in
    let runs = voice_runs r bars (map some_bar bars) sounds all voice (signatures_kept bars) groups in
    let (last, one, end) = heard_first (hear_bars r bars (clean [] 0 None) all) ended_spans spans runs in
    (bars_sung r bars all [] 0 None last one
    (ended last spans end (runs_sung r (length bars) (map some_bar bars) sounds voice.well.each))).1
