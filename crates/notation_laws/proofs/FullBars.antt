-- Each bar of a voice is heard in full.
use Rattle.std.proofs.Common.{◌≡◌, ℕ, suc, ◌+◌, ◌*◌, ◌/◌, ◌<◌, ◌≤◌, Bool, true, false, List, [], ◌∷◌, Option, Some, None, length, map, refl, sym, ap, ap₂, ◌∙◌, subst, ◌⊎◌, inl, inr, arith}
use Rattle.std.specs.Prelude.{All, sum, sum_by}
use Rattle.std.proofs.lemmas.List.{map-append}
use Rattle.std.proofs.lemmas.List.Elements.{All-head, All-tail}
use Rattle.std.proofs.lemmas.List.Sums.{sum-map, sum_by-append, sum_by-cons}
use Rattle.rhythm_base.specs.declared.sound.Sound.{Sound}
use Rattle.derivation.specs.declared.score.ScoreBar.{ScoreBar}
use Rattle.derivation.specs.Score.{IsScoreBar}
use Rattle.voice_events.proofs.BarUnits.{signatures_kept, some_bar}
use Rattle.voice_events.specs.Parts.{score_bar_parts}
use Rattle.derivation.specs.Ahead.{later_sounds}
use Rattle.voice_values.specs.Values.{sounds_in_bar}
use Rattle.voice_values.proofs.BarSounds.{stand_fill, stand_later}
use Rattle.text_words.specs.Steps.{◌>>=◌}
use Rattle.notation.specs.Bars.{AreVoiceGroups}
use Rattle.notation.specs.Laws.{group_length}
use Rattle.notation.specs.Notes.{Group, Note}
use Rattle.notation.proofs.FilledGroups.{bar_filled}
use Rattle.notation.proofs.VoiceLemmas.{AreAhead, ahead_later, own_are}
use Rattle.notation_laws.specs.Hearing.{HeardSpan, HeardVoice, ended_spans}
use Rattle.notation_laws.specs.Laws.{BarsAreHeardInFull}
use Rattle.notation_laws.specs.NotesHeard.{AreHeardInFull, group_notes, hear_bar, hear_bars}
use Rattle.notation_laws.proofs.BarHeard.{rest_segment}
use Rattle.notation_laws.proofs.GroupSegments.{note_segment, note_segments, notes_heard}
use Rattle.notation_laws.proofs.Says.{IsClean, clean_later, heard_first}
use Rattle.notation_laws.proofs.Segments.{IsBegin, IsRest, Segment, begun, clean, hear_segment, hear_segments, longer, more_only, rest_or_begin, sounded}
use Rattle.notation_laws.proofs.VoiceHeard.{voices_heard}

-- ---- the place that is reached

sounded_at : (goes : Bool) (done : List (HeardSpan ℕ)) (at : ℕ) (x : HeardSpan ℕ) → (sounded goes done at x).at ≡ at
sounded_at true done at x = refl
sounded_at false done at x = refl

segment_at : (done : List (HeardSpan ℕ)) (at : ℕ) (going : Option (HeardSpan ℕ)) (p : Segment) (h : HeardVoice ℕ)
    → hear_segment (clean done at going) p ≡ Some h → h.at ≡ at + p.len
segment_at done at None p h e = go (rest_or_begin done at p h e)
  where
    go : (IsRest p × (h ≡ clean done (at + p.len) None)) ⊎ (IsBegin p × (h ≡ sounded p.goes done (at + p.len) (begun at p))) → h.at
        ≡ at + p.len
    go (inl (is, same)) = ap (λ (n : HeardVoice ℕ). n.at) same
    go (inr (is, same)) = ap (λ (n : HeardVoice ℕ). n.at) same ∙ sounded_at p.goes done (at + p.len) (begun at p)
segment_at done at (Some x) p h e =
    ap (λ (n : HeardVoice ℕ). n.at) (more_only done at x p h e).1 ∙ sounded_at p.goes done (at + p.len) (longer x p.len)

abbrev segment_len : Segment → ℕ
segment_len p = p.len

segments_at : (done : List (HeardSpan ℕ)) (at : ℕ) (going : Option (HeardSpan ℕ)) (ps : List Segment) (h : HeardVoice ℕ)
    → hear_segments (clean done at going) ps ≡ Some h → h.at ≡ at + sum_by segment_len ps
segments_at done at going [] h e = same (clean done at going) h e ∙ omega arith
  where
    same : (x y : HeardVoice ℕ) → Some x ≡ Some y → y.at ≡ x.at
    same x y e = let is : x ≡ y = cc in ap (λ (n : HeardVoice ℕ). n.at) (sym is)
segments_at done at going (p ∷ ps) h e =
    let (next, one, rest) = heard_first (hear_segment (clean done at going) p) (λ next. hear_segments next ps) h e in
    let (done', at', going', is) = clean_later done at going (p ∷ []) next (ap (λ o. o >>= λ n. Some n) one) in
    let here : next.at ≡ at + p.len = segment_at done at going p next one in
    let there : next.at ≡ at' = ap (λ (n : HeardVoice ℕ). n.at) is in
    let more : h.at ≡ at' + sum_by segment_len ps = segments_at done' at' going' ps h (subst (λ n. hear_segments n ps ≡ Some h) is rest) in
    omega (arith, here, there, more, sum_by-cons segment_len p ps)

-- ---- the notes of groups

notes_len : (notes : List Note) → sum_by segment_len (note_segments notes) ≡ sum (map (λ n. n.duration) notes)
notes_len notes = go notes ∙ sym (sum-map (λ (n : Note). n.duration) notes)
  where
    go : (notes : List Note) → sum_by segment_len (note_segments notes) ≡ sum_by (λ (n : Note). n.duration) notes
    go [] = refl
    go (n ∷ notes) =
        sum_by-cons segment_len
        (record { len = n.duration; keys = n.keys; graces = n.graces; short = n.short; comes = n.comes; goes = n.goes })
        (note_segments notes)
        ∙ ap (λ k. n.duration + k) (go notes) ∙ sym (sum_by-cons (λ (n : Note). n.duration) n notes)

groups_len : (groups : List Group) → sum_by segment_len (note_segments (group_notes groups)) ≡ sum (map group_length groups)
groups_len groups = go groups ∙ sym (sum-map group_length groups)
  where
    go : (groups : List Group) → sum_by segment_len (note_segments (group_notes groups)) ≡ sum_by group_length groups
    go [] = refl
    go (g ∷ groups) =
        ap (sum_by segment_len) (map-append note_segment g.notes (group_notes groups))
        ∙ sum_by-append segment_len (note_segments g.notes) (note_segments (group_notes groups))
        ∙ ap₂ ◌+◌ (notes_len g.notes) (go groups) ∙ sym (sum_by-cons group_length g groups)

-- ---- a bar

record IsFullBar (r : ℕ) (bar : ScoreBar) (at : ℕ) (next : HeardVoice ℕ) : Type 0 where
  reached : next.at ≡ at + score_bar_parts r bar
  clean_there : IsClean next

full_bar : (r : ℕ) (bar : ScoreBar) (groups : List Group) → (groups ≡ []) ⊎ (sum (map group_length groups) ≡ r * bar.num * (64 / bar.den))
    → (done : List (HeardSpan ℕ)) (at : ℕ) (going : Option (HeardSpan ℕ)) (next : HeardVoice ℕ)
    → hear_bar r bar (clean done at going) groups ≡ Some next
    → IsFullBar r bar at next
full_bar r bar [] long done at going next e =
    let rest = rest_segment (score_bar_parts r bar) in
    let heard : hear_segments (clean done at going) (rest ∷ []) ≡ Some next = ap (λ o. o >>= λ n. Some n) e in
    record { reached = segment_at done at going rest next e; clean_there = clean_later done at going (rest ∷ []) next heard }
full_bar r bar (g ∷ groups) (inl none) done at going next e = absurd (some none)
  where
    some : g ∷ groups ≡ [] → ⊥
    some e = cc
full_bar r bar (g ∷ groups) (inr long) done at going next e =
    let ps = note_segments (group_notes (g ∷ groups)) in
    let heard : hear_segments (clean done at going) ps ≡ Some next = sym (notes_heard (clean done at going) (group_notes (g ∷ groups)))
    ∙ e in
    let there = segments_at done at going ps next heard in
    let all : r * bar.num * (64 / bar.den) ≡ score_bar_parts r bar = turned r bar.num (64 / bar.den) in
    record { reached = omega (arith, there, groups_len (g ∷ groups), long, all); clean_there = clean_later done at going ps next heard }
  where
    turned : (a b c : ℕ) → a * b * c ≡ a * (b * c)
    turned a b c = grind arith

-- ---- bar by bar

module _ (r total : ℕ) (some : 1 ≤ r) where
  -- a bar that is heard in full, and the bars after it
  bar_then : (bar : ScoreBar) (bars : List ScoreBar) (own : List Group) (all : List (List Group)) (done : List (HeardSpan ℕ)) (at : ℕ)
      (going : Option (HeardSpan ℕ)) (next last : HeardVoice ℕ) → hear_bar r bar (clean done at going) own ≡ Some next
      → IsFullBar r bar at next → hear_bars r bars next all ≡ Some last
      → ((done' : List (HeardSpan ℕ)) (at' : ℕ) (going' : Option (HeardSpan ℕ)) → hear_bars r bars (clean done' at' going') all ≡ Some last
      → AreHeardInFull r bars (clean done' at' going') all)
      → AreHeardInFull r (bar ∷ bars) (clean done at going) (own ∷ all)
  bar_then bar bars own all done at going next last one is rest later =
      let (done', at', going', same) = is.clean_there in
      let others = later done' at' going' (subst (λ h. hear_bars r bars h all ≡ Some last) same rest) in
      (next, one, is.reached, ap (λ (h : HeardVoice ℕ). h.graces) same, subst (λ h. AreHeardInFull r bars h all) (sym same) others)

  full_bars : (n : ℕ) (bars : List ScoreBar) (sounds later : List Sound) (all : List (List Group)) (done : List (HeardSpan ℕ)) (at : ℕ)
      (going : Option (HeardSpan ℕ))
      (last : HeardVoice ℕ) → n + length bars ≡ total → All IsScoreBar bars → AreAhead r total n sounds later
      → AreVoiceGroups r n bars sounds all
      → hear_bars r bars (clean done at going) all ≡ Some last → AreHeardInFull r bars (clean done at going) all
  full_bars n [] sounds later all done at going last count right ahead groups e = groups
  full_bars n (bar ∷ bars) sounds later [] done at going last count right ahead groups e = absurd groups
  full_bars n (bar ∷ bars) sounds later (own ∷ all) done at going last count right ahead (mine, groups) e =
      let few : n < total = omega (arith, count) in
      let (next, one, rest) = heard_first (hear_bar r bar (clean done at going) own) (λ next. hear_bars r bars next all) last e in
      let full : sum (map (λ s. s.width) (sounds_in_bar n sounds)) ≡ r =
      subst (λ xs. sum (map (λ (s : Sound). s.width) xs) ≡ r) (own_are r total n sounds later ahead)
      (stand_fill r total n later few ahead.stand).full in
      let is = full_bar r bar own
      (bar_filled r bar _ (sounds_in_bar n sounds) own some (All-head IsScoreBar bar bars right) full mine) done at going next one in
      bar_then bar bars own all done at going next last one is rest
      (λ done' at' going' e'.
      full_bars (suc n) bars sounds (later_sounds n later) all done' at' going' last (omega (arith, count))
      (All-tail IsScoreBar bar bars right)
      (ahead_later r total n sounds later ahead (stand_later r total n later few ahead.stand)) groups e')

pub bars_in_full : BarsAreHeardInFull
bars_in_full r bars sounds all voice groups =
    let heard = voices_heard r bars (map some_bar bars) sounds all voice (signatures_kept bars) groups in
    let (last, one, _) = heard_first (hear_bars r bars (clean [] 0 None) all) ended_spans heard.heard heard.hears in
    full_bars r (length bars) voice.some_unit 0 bars sounds sounds all [] 0 None last (omega arith) voice.each_bar
    (record { stand = voice.well.places; same = λ m le. refl }) groups one
