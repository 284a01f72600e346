-- The changes at the barlines can be written: they stand in the order of their ticks, none after the last barline, and none has a channel.
use Rattle.std.proofs.Common.{ℕ, ◌+◌, ◌≤◌, Bool, true, false, List, [], ◌∷◌, ◌++◌, Some, None, arith, sym, ap, ◌∙◌, subst, ◌≡◌, append-nil, append_assoc, ℤ}
use Rattle.std.specs.Prelude.{All, Option, if◌then◌else◌}
use Rattle.std.specs.Int.{trailing_zeros, w8}
use Rattle.std.proofs.lemmas.List.Elements.{All-append, All-cons, All-nil}
use Rattle.std.proofs.lemmas.List.Sums.{sum_by-cons}
use Rattle.rhythm_base.specs.declared.event.Event.{Event}
use Rattle.rhythm_base.specs.declared.event.What.{What}
use Rattle.rhythm_base.specs.declared.event.What.TheVariants.{Tempo, Signature, KeySig}
use Rattle.derivation.specs.declared.score.ScoreBar.{ScoreBar}
use Rattle.smf_bytes.specs.Message.{HasChannel}
use Rattle.smf_bytes.specs.Track.{AreTimed}
use Rattle.voice_events.specs.Parts.{score_bar_parts, score_parts}
use Rattle.score_words.specs.Changes.{key_before, same_key, same_signature}
use Rattle.smf_writer.specs.Changes.{change_at, changes_at, changes_from, conductor, key_event, same_midi_tempo, signature_event, tempo_event}

module _ (last : ℕ) where
  pub record IsChange (e : Event) : Type 0 where
    pub early : e.tick ≤ last
    pub no_channel : HasChannel e.what

  one : (tick : ℕ) (b : Bool) (what : What) → tick ≤ last → HasChannel what → All IsChange (change_at tick (if b then None else Some what))
  one tick true what le has = All-nil IsChange
  one tick false what le has = All-cons IsChange (record { tick = tick; what = what }) [] (record { early = le; no_channel = has }) (All-nil IsChange)

  key : (tick : ℕ) (before sf : Option ℤ) → tick ≤ last → All IsChange (change_at tick (key_event before sf))
  key tick before None le = All-nil IsChange
  key tick before (Some sf) le = one tick (same_key before sf) (KeySig sf) le tt

  bar_changes : (tick : ℕ) (before : Option ScoreBar) (bar : ScoreBar) → tick ≤ last → All IsChange (changes_at tick before bar)
  bar_changes tick before bar le =
      let keys : List Event = change_at tick (key_event (key_before before) bar.sf) in
      All-append IsChange (change_at tick (tempo_event before bar)) (change_at tick (signature_event before bar) ++ (keys ++ [])) (one tick (same_midi_tempo before bar) (Tempo bar.tempo) le tt)
      (All-append IsChange (change_at tick (signature_event before bar)) (keys ++ []) (one tick (same_signature before bar) (Signature bar.num (trailing_zeros w8 bar.den)) le tt)
      (All-append IsChange keys [] (key tick (key_before before) bar.sf le) (All-nil IsChange)))

  first_part : (t b s : ℕ) → t + (b + s) ≤ last → t ≤ last
  first_part t b s le = omega (arith, le)

  next_part : (t b s : ℕ) → t + (b + s) ≤ last → t + b + s ≤ last
  next_part t b s le = omega (arith, le)

  changes : (resolution tick : ℕ) (before : Option ScoreBar) (bars : List ScoreBar) → tick + score_parts resolution bars ≤ last → All IsChange (changes_from resolution before tick bars)
  changes resolution tick before [] le = All-nil IsChange
  changes resolution tick before (bar ∷ bars) le =
      let all : tick + (score_bar_parts resolution bar + score_parts resolution bars) ≤ last = subst (λ s. tick + s ≤ last) (sum_by-cons (score_bar_parts resolution) bar bars) le in
      All-append IsChange (changes_at tick before bar) (changes_from resolution (Some bar) (tick + score_bar_parts resolution bar) bars) (bar_changes tick before bar (first_part tick (score_bar_parts resolution bar) (score_parts resolution bars) all))
      (changes resolution (tick + score_bar_parts resolution bar) (Some bar) bars (next_part tick (score_bar_parts resolution bar) (score_parts resolution bars) all))

  pub conductor_changes : (resolution : ℕ) (bars : List ScoreBar) → score_parts resolution bars ≤ last → All IsChange (conductor resolution bars)
  conductor_changes resolution bars le = changes resolution 0 None bars (omega (arith, le))

  -- ---- in the order of their ticks

  timed_earlier : (low tick : ℕ) (es : List Event) → low ≤ tick → AreTimed tick es last → AreTimed low es last
  timed_earlier low tick [] le h = omega (arith, le, h)
  timed_earlier low tick (e ∷ es) le h = (omega (arith, le, h.0), h.1)

  one_timed : (low tick : ℕ) (o : Option What) (es : List Event) → low ≤ tick → AreTimed tick es last → AreTimed low (change_at tick o ++ es) last
  one_timed low tick None es le h = timed_earlier low tick es le h
  one_timed low tick (Some what) es le h = (le, h)

  changes_timed : (resolution low tick : ℕ) (before : Option ScoreBar) (bars : List ScoreBar) → low ≤ tick → tick + score_parts resolution bars ≤ last
      → AreTimed low (changes_from resolution before tick bars) last
  changes_timed resolution low tick before [] le within = omega (arith, le, within)
  changes_timed resolution low tick before (bar ∷ bars) le within =
      let all : tick + (score_bar_parts resolution bar + score_parts resolution bars) ≤ last = subst (λ s. tick + s ≤ last) (sum_by-cons (score_bar_parts resolution) bar bars) within in
      let rest = changes_timed resolution tick (tick + score_bar_parts resolution bar) (Some bar) bars (omega arith) (next_part tick (score_bar_parts resolution bar) (score_parts resolution bars) all) in
      let more : List Event = changes_from resolution (Some bar) (tick + score_bar_parts resolution bar) bars in
      subst (λ es. AreTimed low es last) (regroup tick (tempo_event before bar) (signature_event before bar) (key_event (key_before before) bar.sf) more)
      (one_timed low tick (tempo_event before bar) (change_at tick (signature_event before bar) ++ (change_at tick (key_event (key_before before) bar.sf) ++ more)) le
      (one_timed tick tick (signature_event before bar) (change_at tick (key_event (key_before before) bar.sf) ++ more) (omega arith)
      (one_timed tick tick (key_event (key_before before) bar.sf) more (omega arith) rest)))
    where
      regroup : (tick : ℕ) (a b c : Option What) (more : List Event)
          → change_at tick a ++ (change_at tick b ++ (change_at tick c ++ more)) ≡ (change_at tick a ++ (change_at tick b ++ (change_at tick c ++ []))) ++ more
      regroup tick a b c more =
          ap (λ es. change_at tick a ++ (change_at tick b ++ (es ++ more))) (sym (append-nil (change_at tick c)))
          ∙ ap (λ es. change_at tick a ++ es) (sym (append_assoc (change_at tick b) (change_at tick c ++ []) more))
          ∙ sym (append_assoc (change_at tick a) (change_at tick b ++ (change_at tick c ++ [])) more)

  pub conductor_timed : (resolution : ℕ) (bars : List ScoreBar) → score_parts resolution bars ≤ last → AreTimed 0 (conductor resolution bars) last
  conductor_timed resolution bars le = changes_timed resolution 0 0 None bars (omega arith) (omega (arith, le))
