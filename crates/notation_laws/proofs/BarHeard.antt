-- What is heard of the groups of a bar is what is heard of its values.
use Rattle.std.proofs.Common.{◌≡◌, ℕ, zero, suc, ◌+◌, ◌-◌, ◌*◌, ◌≤◌, ◌==◌, Bool, true, false, cond, List, [], ◌∷◌, Option, Some, None, map, refl, sym, ap, ◌∙◌, subst, ◌⊎◌, inl, inr, arith}
use Rattle.std.specs.Prelude.{sum}
use Rattle.std.proofs.Math.Nat.{div-mul_cancel}
use Rattle.std.proofs.lemmas.Bool.{and_parts, false≢true}
use Rattle.rhythm_base.proofs.Booleans.{not_both_tests}
use Rattle.rhythm_base.specs.declared.sound.Sound.{Sound}
use Rattle.rhythm_base.specs.Lists.{Each}
use Rattle.durations.proofs.Beats.{beat_part}
use Rattle.durations.proofs.Wide.{some_product}
use Rattle.derivation.specs.declared.score.ScoreBar.{ScoreBar}
use Rattle.derivation.specs.Score.{IsScoreBar}
use Rattle.voice_events.specs.Parts.{score_bar_parts}
use Rattle.voice_values.specs.Values.{AreBarValues, VoiceValue}
use Rattle.voice_values.proofs.TimedSounds.{width_of}
use Rattle.text_words.specs.Steps.{◌>>=◌}
use Rattle.notation.specs.Bars.{are_silent, grouped}
use Rattle.notation.specs.Groups.{parted}
use Rattle.notation.specs.Notes.{Group, IsGroup}
use Rattle.notation.specs.Places.{IsOddPart}
use Rattle.notation.specs.Rests.{joined_rests}
use Rattle.notation.specs.Runs.{StandBetween}
use Rattle.notation.specs.Tokens.{Token, bar_tokens, is_silent}
use Rattle.notation.proofs.BarRuns.{bar_end, bar_values_stand, scale}
use Rattle.notation.proofs.CutRuns.{tokens_stand}
use Rattle.notation.proofs.JoinedRuns.{rests_stand}
use Rattle.notation.proofs.Joining.{ended}
use Rattle.notation.proofs.PlainGroups.{end_is}
use Rattle.notation_laws.specs.Hearing.{HeardSpan, HeardVoice}
use Rattle.notation_laws.specs.NotesHeard.{group_notes, hear_bar}
use Rattle.notation_laws.proofs.Segments.{IsBegin, IsRest, Segment, begun, clean, hear_segments, more_only, rest_heard, rest_or_begin, sounded}
use Rattle.notation_laws.proofs.Says.{Says, heard_only, says_then}
use Rattle.notation_laws.proofs.TokenSegments.{SideBySide, cuts_say, joined_says, rests_say, stand_side, token_segment, token_segments, whole_tokens}
use Rattle.notation_laws.proofs.GroupSegments.{gathered, groups_say, note_segments, notes_heard, parted_gathers}

-- ---- rests in a row are one

abbrev pub rest_segment : ℕ → Segment
rest_segment len = record { len = len; keys = 0; graces = []; short = false; comes = false; goes = false }

rest_says : (p : Segment) → (p.keys == 0) ≡ true → Says (p ∷ []) (rest_segment p.len ∷ [])
rest_says p silent done at None h e = go (rest_or_begin done at p h (heard_only (clean done at None) h p e))
  where
    is : IsRest (rest_segment p.len)
    is = record { silent = refl; graces = refl; short = refl; comes = refl; goes = refl }

    go : (IsRest p × (h ≡ clean done (at + p.len) None)) ⊎ (IsBegin p × (h ≡ sounded p.goes done (at + p.len) (begun at p)))
        → hear_segments (clean done at None) (rest_segment p.len ∷ []) ≡ Some h
    go (inl (_, same)) = ap (λ o. o >>= λ next. hear_segments next []) (rest_heard done at (rest_segment p.len) is)
        ∙ ap (λ k. Some k) (sym same)
    go (inr (begin, _)) = absurd (not_both_tests (p.keys == 0) silent begin.sounds)
rest_says p silent done at (Some x) h e =
    let (more, _) = more_only done at x p h (heard_only (clean done at (Some x)) h p e) in
    absurd (not_both_tests (p.keys == 0) silent more.sounds)

silent_says : (from to : ℕ) (t : Token) (more : List Token) → is_silent t ≡ true → are_silent more ≡ true → SideBySide from (t ∷ more) to
    → Says (token_segments (t ∷ more)) (rest_segment (to - from) ∷ [])
silent_says from to t [] silent others side =
    let len : t.end - t.start ≡ to - from = omega (arith, side.0, side.2) in
    subst (λ k. Says (token_segment t ∷ []) (rest_segment k ∷ [])) len (rest_says (token_segment t) silent)
silent_says from to t (u ∷ more) silent others side =
    let (second, rest) = and_parts (is_silent u) (are_silent more) others in
    says_then (token_segments (t ∷ u ∷ more)) (token_segments (ended t u ∷ more)) (rest_segment (to - from) ∷ [])
    (joined_says 1 from to t (u ∷ more) side (inr (silent, second), tt))
    (silent_says from to (ended t u) more silent rest (side.0, omega (arith, side.1, side.2.0, side.2.1), side.2.2))

-- ---- a bar

some_scale : (bar : ScoreBar) → IsScoreBar bar → 1 ≤ scale bar
some_scale bar h = go (scale bar) (div-mul_cancel bar.den (beat_part bar.den h.signature.power))
  where
    go : (n : ℕ) → n * bar.den ≡ 64 → 1 ≤ n
    go zero e = omega (arith, e)
    go (suc n) e = omega arith

-- tokens have no group only where there are none
none_gathered : (r odd : ℕ) (gs : List (List Token)) → Each (IsGroup r odd) gs [] → gathered gs ≡ []
none_gathered r odd [] each = refl
none_gathered r odd (g ∷ gs) each = absurd each

bar_length : (r n d to : ℕ) → to ≡ r * n → to * d - 0 * d ≡ r * (n * d)
bar_length r n d to e = omega (arith, ap (λ k. k * d) e, turned r n d)
  where
    turned : (r n d : ℕ) → r * n * d ≡ r * (n * d)
    turned r n d = grind arith

pub bar_heard :
    (r odd : ℕ) (bar : ScoreBar) (after : Bool) (sounds : List Sound) (vs : List VoiceValue) (groups : List Group) → 1 ≤ r → IsOddPart r odd
    → IsScoreBar bar → sum (map width_of sounds) ≡ r → AreBarValues r bar sounds vs
    → Each (IsGroup r odd) (grouped r odd bar (bar_tokens r odd bar after vs)) groups
    → (done : List (HeardSpan ℕ)) (at : ℕ) (going : Option (HeardSpan ℕ)) (h : HeardVoice ℕ)
    → hear_segments (clean done at going) (token_segments (whole_tokens r bar after vs)) ≡ Some h
    → hear_bar r bar (clean done at going) groups ≡ Some h
bar_heard r odd bar after sounds vs groups some part right full values each done at going h heard =
    go (are_silent ts) refl each
  where
    ts : List Token
    ts = bar_tokens r odd bar after vs

    from : ℕ
    from = 0 * scale bar

    to : ℕ
    to = bar_end bar sounds * scale bar

    stand : StandBetween r from ts to
    stand = tokens_stand r odd bar after 0 (bar_end bar sounds) vs some right (bar_values_stand r bar sounds vs some right values)

    cut : hear_segments (clean done at going) (token_segments ts) ≡ Some h
    cut = cuts_say r odd from to bar after vs (stand_side r from to ts stand) done at going h heard

    rested : (ts : List Token) → StandBetween r from ts to → are_silent ts ≡ true
        → hear_segments (clean done at going) (token_segments ts) ≡ Some h
        → hear_bar r bar (clean done at going) [] ≡ Some h
    rested [] stand silent heard =
        let long : 1 ≤ bar_end bar sounds = subst (λ k. 1 ≤ k) (sym (end_is r bar sounds full))
        (some_product r bar.num some right.signature.some) in
        let wide = some_product (bar_end bar sounds) (scale bar) long (some_scale bar right) in
        absurd (omega (arith, stand, wide))
    rested (t ∷ more) stand silent heard =
        let (first, others) = and_parts (is_silent t) (are_silent more) silent in
        let len : to - from ≡ score_bar_parts r bar = bar_length r bar.num (scale bar) (bar_end bar sounds) (end_is r bar sounds full) in
        let one = silent_says from to t more first others (stand_side r from to (t ∷ more) stand) done at going h heard in
        heard_only (clean done at going) h (rest_segment (score_bar_parts r bar))
        (subst (λ k. hear_segments (clean done at going) (rest_segment k ∷ []) ≡ Some h) len one)

    grouping : (ts : List Token) → StandBetween r from ts to → are_silent ts ≡ false → (groups : List Group)
        → Each (IsGroup r odd) (parted r odd (joined_rests r bar ts)) groups
        → hear_segments (clean done at going) (token_segments ts) ≡ Some h → hear_bar r bar (clean done at going) groups ≡ Some h
    grouping [] stand sounds groups each heard = absurd (false≢true (sym sounds))
    grouping (t ∷ more) stand sounds groups each heard = of groups each said
      where
        joined : List Token
        joined = joined_rests r bar (t ∷ more)

        gs : List (List Token)
        gs = parted r odd joined

        same : gathered gs ≡ joined
        same = parted_gathers r odd [] joined

        said : hear_segments (clean done at going) (note_segments (group_notes groups)) ≡ Some h
        said =
            let side = stand_side r from to joined (rests_stand r bar from to (t ∷ more) some right stand) in
            let rests = rests_say r from to bar (t ∷ more) (stand_side r from to (t ∷ more) stand) done at going h heard in
            groups_say r odd from to gs groups some part (subst (λ us. SideBySide from us to) (sym same) side) each done at going h
            (subst (λ us. hear_segments (clean done at going) (token_segments us) ≡ Some h) (sym same) rests)

        of : (groups : List Group) → Each (IsGroup r odd) gs groups
            → hear_segments (clean done at going) (note_segments (group_notes groups)) ≡ Some h
            → hear_bar r bar (clean done at going) groups ≡ Some h
        of [] none heard = absurd (some_tokens (sym same ∙ none_gathered r odd gs none))
          where
            some_tokens : joined ≡ [] → ⊥
            some_tokens e = cc
        of (g ∷ groups) each heard = notes_heard (clean done at going) (group_notes (g ∷ groups)) ∙ heard

    go : (b : Bool) → are_silent ts ≡ b → Each (IsGroup r odd) (cond b [] (parted r odd (joined_rests r bar ts))) groups
        → hear_bar r bar (clean done at going) groups ≡ Some h
    go true silent none = subst (λ gs. hear_bar r bar (clean done at going) gs ≡ Some h) (sym none) (rested ts stand silent cut)
    go false sounds are = grouping ts stand sounds groups are cut
