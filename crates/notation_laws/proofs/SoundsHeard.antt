-- What is heard of the sounds of a voice are its runs: each chord that begins, with the ties right after it.
use Rattle.std.proofs.Common.{◌≡◌, ℕ, suc, ◌+◌, ◌*◌, ◌<◌, ◌≤◌, ◌==◌, Bool, true, false, cond, List, [], ◌∷◌, ◌++◌, Option, Some, None, append_assoc, length, map, refl, sym, ap, ap₂, ◌∙◌, subst, arith}
use Rattle.std.specs.Prelude.{All, if◌then◌else◌, sum_by, ⊤}
use Rattle.std.proofs.lemmas.Bool.{eq-eqb, false≢true}
use Rattle.std.proofs.lemmas.Bool.Decides.{nat_tests}
use Rattle.std.proofs.lemmas.List.Elements.{All-head, All-tail}
use Rattle.std.proofs.lemmas.List.Sums.{sum_by-cons, take_while-cons}
use Rattle.rhythm_base.proofs.Booleans.{not_both_tests}
use Rattle.rhythm_base.specs.declared.note.Bar.{Bar}
use Rattle.rhythm_base.specs.declared.sound.Sound.{Sound}
use Rattle.rhythm_base.specs.declared.sound.SoundKind.{SoundKind}
use Rattle.rhythm_base.specs.declared.sound.SoundKind.TheVariants.{Begin, Short, Tie, Rest}
use Rattle.rhythm_base.specs.SoundKinds.{begins_chord, is_rest, is_short, is_tie}
use Rattle.durations.specs.Spans.{chord_runs, place_of, sound_length}
use Rattle.derivation.specs.WellSounded.{GoesOn, IsWellSounding, StandInBars, TiesGoOn}
use Rattle.derivation.proofs.FilledBars.{parts_at, place_at, place_next}
use Rattle.derivation.proofs.SpansRead.{ties_of}
use Rattle.voice_events.proofs.SpansFollow.{tied_length}
use Rattle.voice_values.specs.Ahead.{begins_with_tie}
use Rattle.text_words.specs.Steps.{◌>>=◌}
use Rattle.notation_laws.specs.Hearing.{HeardSpan}
use Rattle.notation_laws.proofs.Segments.{IsBegin, IsMore, IsRest, Segment, begin_heard, begun, clean, hear_segment, hear_segments, longer, more_heard, rest_heard, sounded}
use Rattle.notation_laws.proofs.SoundSegments.{IsKeyed, next_ties, sound_segment, sound_segments}

-- a sound has keys unless it is a rest
pub keyed : (s : Sound) → IsWellSounding s → IsKeyed s
keyed s well = go (is_rest s.kind) refl
  where
    some : (k : ℕ) → 1 ≤ k → (k == 0) ≡ false
    some k h = grind (arith, nat_tests, h)

    go : (b : Bool) → is_rest s.kind ≡ b → (s.keys == 0) ≡ is_rest s.kind
    go true e = ap (λ k. k == 0) (well.silent e) ∙ sym e
    go false e = some s.keys (well.sounding e).0 ∙ sym e

bare : (s : Sound) → IsWellSounding s → (s.kind ≡ Begin → ⊥) → s.graces ≡ []
bare s well other = go s.graces refl
  where
    go : (graces : List ℕ) → s.graces ≡ graces → s.graces ≡ []
    go [] e = e
    go (g ∷ graces) e = absurd (other (well.graced (λ none. some (sym e ∙ none))))
      where
        some : g ∷ graces ≡ [] → ⊥
        some e = cc

module _ (r total : ℕ) (bars : List Bar) where
  -- ---- the spans of sounds, and what is still to be heard of them

  abbrev pub run_heard : Sound × List Sound → HeardSpan ℕ
  run_heard run = record {
    start = place_of r bars run.0;
    len = sum_by (sound_length bars) (run.0 ∷ run.1);
    keys = run.0.keys;
    graces = run.0.graces;
    short = is_short run.0.kind;
  }

  abbrev pub spans_heard : List Sound → List (HeardSpan ℕ)
  spans_heard sounds = map run_heard (chord_runs sounds)

  -- where a span goes on, or none does
  abbrev pub still_heard : Option (HeardSpan ℕ) → List Sound → List (HeardSpan ℕ)
  still_heard None later = spans_heard later
  still_heard (Some x) later = longer x (tied_length bars later) ∷ spans_heard later

  -- a span that goes on has the keys of the sound before
  abbrev pub GoesWith : Option Sound → Option (HeardSpan ℕ) → Type 0
  GoesWith before None = ⊤
  GoesWith None (Some x) = ⊥
  GoesWith (Some s) (Some x) = s.keys ≡ x.keys

  abbrev pub is_some : Option (HeardSpan ℕ) → Bool
  is_some None = false
  is_some (Some x) = true

  -- between two sounds, the first of which begins at unit p of bar n, where all that is heard in the end is this
  pub record IsHeardTo (answer : List (HeardSpan ℕ)) (later : List Sound) (done : List (HeardSpan ℕ)) (at : ℕ)
      (going : Option (HeardSpan ℕ)) : Type 0 where
    pub bar : ℕ
    pub unit : ℕ
    pub before : Option Sound
    pub stand : StandInBars r total bar unit later
    pub well : All IsWellSounding later
    pub ties : TiesGoOn before later
    pub place : at ≡ place_at r bars bar unit
    pub with : GoesWith before going
    pub on : begins_with_tie later ≡ is_some going
    pub all : done ++ still_heard going later ≡ answer

  -- ---- one sound more

  tied_more : (s : Sound) (sounds : List Sound) → tied_length bars (s ∷ sounds)
      ≡ (if is_tie s.kind then sound_length bars s + tied_length bars sounds else 0)
  tied_more s sounds = ap (sum_by (sound_length bars)) (take_while-cons (λ t. is_tie t.kind) s sounds) ∙ go (is_tie s.kind)
    where
      go : (b : Bool) → sum_by (sound_length bars) (cond b (s ∷ ties_of sounds) [])
          ≡ (if b then sound_length bars s + tied_length bars sounds else 0)
      go true = sum_by-cons (sound_length bars) s (ties_of sounds)
      go false = refl

  none_tied : (later : List Sound) → begins_with_tie later ≡ false → tied_length bars later ≡ 0
  none_tied [] e = refl
  none_tied (s ∷ later) e = tied_more s later ∙ ap (λ b. if b then sound_length bars s + tied_length bars later else 0) e

  -- where the sound after one begins
  abbrev next_bar : ℕ → ℕ → Sound → ℕ
  next_bar n p s = if p + s.width == r then suc n else n

  abbrev next_unit : ℕ → Sound → ℕ
  next_unit p s = if p + s.width == r then 0 else p + s.width

  abbrev segment : Sound → List Sound → Segment
  segment s later = sound_segment (parts_at bars s.bar) (begins_with_tie later) s

  -- what is heard of a sound, and what is known then
  record IsStep (answer : List (HeardSpan ℕ)) (s : Sound) (later : List Sound) (done : List (HeardSpan ℕ)) (at : ℕ)
      (going : Option (HeardSpan ℕ)) : Type 0 where
    after : List (HeardSpan ℕ)
    place : ℕ
    next : Option (HeardSpan ℕ)
    heard : hear_segment (clean done at going) (segment s later) ≡ Some (clean after place next)
    reached : IsHeardTo answer later after place next

  module _ (answer : List (HeardSpan ℕ)) (s : Sound) (later : List Sound) (done : List (HeardSpan ℕ)) (at : ℕ) where
    abbrev there : ℕ
    there = at + s.width * parts_at bars s.bar

    -- where the next sound begins
    moved : (n p : ℕ) → n < total → StandInBars r total n p (s ∷ later) → n < length bars → at ≡ place_at r bars n p
        → there ≡ place_at r bars (next_bar n p s) (next_unit p s)
    moved n p few stand within place =
        ap₂ (λ a k. a + s.width * parts_at bars k) place stand.1 ∙ place_next r bars n p s.width within

    -- what is known before the next sound
    reached_next : (n p : ℕ) (after : List (HeardSpan ℕ)) (going : Option (HeardSpan ℕ)) → StandInBars r total n p (s ∷ later)
        → n < length bars → at ≡ place_at r bars n p → All IsWellSounding later → TiesGoOn (Some s) later → GoesWith (Some s) going
        → begins_with_tie later ≡ is_some going → after ++ still_heard going later ≡ answer → IsHeardTo answer later after there going
    reached_next n p after going stand within place well ties with on all = record {
      bar = next_bar n p s;
      unit = next_unit p s;
      before = Some s;
      stand = stand.5;
      well = well;
      ties = ties;
      place = moved n p stand.0 stand within place;
      with = with;
      on = on;
      all = all;
    }

    -- a span that is known after the sound, which goes on where the next sound is a tie
    span_step : (n p : ℕ) (x : HeardSpan ℕ) → StandInBars r total n p (s ∷ later) → n < length bars → at ≡ place_at r bars n p
        → All IsWellSounding later → TiesGoOn (Some s) later → s.keys ≡ x.keys
        → done ++ (longer x (tied_length bars later) ∷ spans_heard later) ≡ answer → (going : Option (HeardSpan ℕ))
        → hear_segment (clean done at going) (segment s later) ≡ Some (sounded (begins_with_tie later) done there x)
        → IsStep answer s later done at going
    span_step n p x stand within place well ties keys all going heard = go (begins_with_tie later) refl heard
      where
        go : (b : Bool) → begins_with_tie later ≡ b → hear_segment (clean done at going) (segment s later) ≡ Some (sounded b done there x)
            → IsStep answer s later done at going
        go true e heard = record {
          after = done;
          place = there;
          next = Some x;
          heard = heard;
          reached = reached_next n p done (Some x) stand within place well ties keys e all;
        }
        go false e heard =
            let same : longer x (tied_length bars later) ≡ x =
            let len : x.len + tied_length bars later ≡ x.len = omega (arith, none_tied later e) in λ i. record x { len = len i } in
            let whole = append_assoc done (x ∷ []) (spans_heard later) ∙ ap (λ y. done ++ y ∷ spans_heard later) (sym same) ∙ all in
            record {
              after = done ++ x ∷ [];
              place = there;
              next = None;
              heard = heard;
              reached = reached_next n p (done ++ x ∷ []) None stand within place well ties tt e whole;
            }

    -- ---- by the kind of the sound

    runs_of : (b : Bool) → begins_chord s.kind ≡ b
        → spans_heard (s ∷ later) ≡ map run_heard (if b then (s, ties_of later) ∷ chord_runs later else chord_runs later)
    runs_of b e = ap (λ b. map run_heard (if b then (s, ties_of later) ∷ chord_runs later else chord_runs later)) e

    tie_step : (h : (going : Option (HeardSpan ℕ)) × IsHeardTo answer (s ∷ later) done at going) → total ≤ length bars → is_tie s.kind
        ≡ true → is_rest s.kind ≡ false
        → begins_chord s.kind ≡ false → is_short s.kind ≡ false → (s.kind ≡ Begin → ⊥) → IsStep answer s later done at h.0
    tie_step (None, h) fits tie sounds begins short other = absurd (false≢true (sym h.on ∙ tie))
    tie_step (Some x, h) fits tie sounds begins short other = span_step h.bar h.unit
        (longer x len) h.stand within h.place wells h.ties.1 keys whole (Some x)
        (more_heard done at x (segment s later) more)
      where
        len : ℕ
        len = s.width * parts_at bars s.bar

        own : IsWellSounding s
        own = All-head IsWellSounding s later h.well

        wells : All IsWellSounding later
        wells = All-tail IsWellSounding s later h.well

        within : h.bar < length bars
        within = let (few, _, _, _, _, _) = h.stand in omega (arith, few, fits)

        same_keys : (before : Option Sound) → GoesOn before s → GoesWith before (Some x) → s.keys ≡ x.keys
        same_keys None on with = absurd on
        same_keys (Some b) on with = sym on.2 ∙ with

        keys : s.keys ≡ x.keys
        keys = same_keys h.before (h.ties.0 tie) h.with

        more : IsMore x (segment s later)
        more = record {
          sounds = keyed s own ∙ sounds;
          graces = bare s own other;
          short = short;
          comes = tie;
          same = eq-eqb x.keys s.keys (sym keys);
        }

        whole : done ++ (longer (longer x len) (tied_length bars later) ∷ spans_heard later) ≡ answer
        whole =
            let ends : tied_length bars (s ∷ later) ≡ len + tied_length bars later =
            tied_more s later ∙ ap (λ b. if b then sound_length bars s + tied_length bars later else 0) tie in
            let long : x.len + len + tied_length bars later ≡ x.len + tied_length bars (s ∷ later) = omega (arith, ends) in
            (λ i. done ++ (record x { len = long i } ∷ sym (runs_of false begins) i)) ∙ h.all

    begin_step : (h : (going : Option (HeardSpan ℕ)) × IsHeardTo answer (s ∷ later) done at going) → total ≤ length bars → is_tie s.kind
        ≡ false → is_rest s.kind ≡ false
        → begins_chord s.kind ≡ true → IsStep answer s later done at h.0
    begin_step (Some x, h) fits tie sounds begins = absurd (false≢true (sym tie ∙ h.on))
    begin_step (None, h) fits tie sounds begins = span_step h.bar h.unit
        (begun at (segment s later)) h.stand within h.place wells h.ties.1 refl whole None
        (begin_heard done at (segment s later) begin)
      where
        own : IsWellSounding s
        own = All-head IsWellSounding s later h.well

        wells : All IsWellSounding later
        wells = All-tail IsWellSounding s later h.well

        within : h.bar < length bars
        within = let (few, _, _, _, _, _) = h.stand in omega (arith, few, fits)

        begin : IsBegin (segment s later)
        begin = record { sounds = keyed s own ∙ sounds; comes = tie }

        start : at ≡ place_of r bars s
        start = h.place ∙ ap₂ (λ n p. place_at r bars n p) (sym h.stand.1) (sym h.stand.2)

        whole : done ++ (longer (begun at (segment s later)) (tied_length bars later) ∷ spans_heard later) ≡ answer
        whole =
            let len : s.width * parts_at bars s.bar + tied_length bars later ≡ sum_by (sound_length bars) (s ∷ ties_of later) =
            sym (sum_by-cons (sound_length bars) s (ties_of later)) in
            (λ i. done ++ (record { start = start i; len = len i; keys = s.keys; graces = s.graces; short = is_short s.kind }
            ∷ spans_heard later))
            ∙ ap (λ xs. done ++ xs) (sym (runs_of true begins)) ∙ h.all

    no_tie : (later : List Sound) → TiesGoOn (Some s) later → is_rest s.kind ≡ true → begins_with_tie later ≡ false
    no_tie [] ties rest = refl
    no_tie (t ∷ later) ties rest = go (is_tie t.kind) refl
      where
        go : (b : Bool) → is_tie t.kind ≡ b → is_tie t.kind ≡ false
        go false e = e
        go true e = absurd (not_both_tests (is_rest s.kind) rest (ties.0 e).0)

    rest_step : (h : (going : Option (HeardSpan ℕ)) × IsHeardTo answer (s ∷ later) done at going) → total ≤ length bars → is_tie s.kind
        ≡ false → is_rest s.kind ≡ true
        → begins_chord s.kind ≡ false → is_short s.kind ≡ false → (s.kind ≡ Begin → ⊥) → IsStep answer s later done at h.0
    rest_step (Some x, h) fits tie rest begins short other = absurd (false≢true (sym tie ∙ h.on))
    rest_step (None, h) fits tie rest begins short other = record {
      after = done;
      place = there;
      next = None;
      heard = rest_heard done at (segment s later) silent;
      reached = reached_next h.bar h.unit done None h.stand within h.place (All-tail IsWellSounding s later h.well) h.ties.1 tt
          (no_tie later h.ties.1 rest) (ap (λ xs. done ++ xs) (sym (runs_of false begins)) ∙ h.all);
    }
      where
        own : IsWellSounding s
        own = All-head IsWellSounding s later h.well

        within : h.bar < length bars
        within = let (few, _, _, _, _, _) = h.stand in omega (arith, few, fits)

        silent : IsRest (segment s later)
        silent = record {
          silent = keyed s own
              ∙ rest;
          graces = bare s own other;
          short = short;
          comes = tie;
          goes = no_tie later h.ties.1 rest;
        }

    step : (going : Option (HeardSpan ℕ)) → IsHeardTo answer (s ∷ later) done at going → total ≤ length bars
        → IsStep answer s later done at going
    step going h fits = go s.kind refl
      where
        go : (k : SoundKind) → s.kind ≡ k → IsStep answer s later done at going
        go Begin e = begin_step (going, h) fits (ap is_tie e) (ap is_rest e) (ap begins_chord e)
        go Short e = begin_step (going, h) fits (ap is_tie e) (ap is_rest e) (ap begins_chord e)
        go Tie e = tie_step (going, h) fits (ap is_tie e) (ap is_rest e) (ap begins_chord e) (ap is_short e)
            (λ f. not_both_tests (is_tie s.kind) (ap is_tie e) (ap is_tie f))
        go Rest e = rest_step (going, h) fits (ap is_tie e) (ap is_rest e) (ap begins_chord e) (ap is_short e)
            (λ f. not_both_tests (is_rest s.kind) (ap is_rest e) (ap is_rest f))

  -- ---- the sounds of a bar

  pub record AreHeard (answer : List (HeardSpan ℕ)) (segments : List Segment) (later : List Sound) (done : List (HeardSpan ℕ)) (at : ℕ)
      (going : Option (HeardSpan ℕ)) : Type 0 where
    pub after : List (HeardSpan ℕ)
    pub place : ℕ
    pub next : Option (HeardSpan ℕ)
    pub heard : hear_segments (clean done at going) segments ≡ Some (clean after place next)
    pub reached : IsHeardTo answer later after place next

  next_tie : (own later : List Sound) → next_ties (begins_with_tie later) own ≡ begins_with_tie (own ++ later)
  next_tie [] later = refl
  next_tie (s ∷ own) later = refl

  pub bar_sounds_heard : (answer : List (HeardSpan ℕ)) (n : ℕ) (own later : List Sound) (done : List (HeardSpan ℕ)) (at : ℕ)
      (going : Option (HeardSpan ℕ)) → total ≤ length bars
      → All (λ s. s.bar ≡ n) own → IsHeardTo answer (own ++ later) done at going
      → AreHeard answer (sound_segments (parts_at bars n) (begins_with_tie later) own) later done at going
  bar_sounds_heard answer n [] later done at going fits here h =
      record { after = done; place = at; next = going; heard = refl; reached = h }
  bar_sounds_heard answer n (s ∷ own) later done at going fits here h =
      let one = step answer s (own ++ later) done at going h fits in
      let rest = bar_sounds_heard answer n own later one.after one.place one.next fits (All-tail (λ s. s.bar ≡ n) s own here) one.reached in
      let same : segment s (own ++ later) ≡ sound_segment (parts_at bars n) (next_ties (begins_with_tie later) own) s =
      ap₂ (λ k b. sound_segment (parts_at bars k) b s) (All-head (λ s. s.bar ≡ n) s own here) (sym (next_tie own later)) in
      let others = sound_segments (parts_at bars n) (begins_with_tie later) own in
      let first : hear_segment (clean done at going) (sound_segment (parts_at bars n) (next_ties (begins_with_tie later) own) s)
      ≡ Some (clean one.after one.place one.next) =
      subst (λ p. hear_segment (clean done at going) p ≡ Some (clean one.after one.place one.next)) same one.heard in
      record {
        after = rest.after;
        place = rest.place;
        next = rest.next;
        heard = ap (λ o. o >>= λ next. hear_segments next others) first ∙ rest.heard;
        reached = rest.reached;
      }
