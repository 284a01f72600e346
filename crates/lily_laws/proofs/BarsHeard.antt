-- The pieces of a bar are heard from the place where it begins up to where it ends.
use Rattle.rhythm_base.specs.declared.limits.TheConstants.{MOST_UNITS}
use Rattle.std.proofs.Common.{◌≡◌, ℕ, ◌+◌, ◌-◌, ◌*◌, ◌<◌, ◌≤◌, ◌==◌, Bool, true, false, List, [], ◌∷◌, ◌++◌, max, min, refl, sym, ap, ap₂, ◌∙◌, subst, inl, inr, arith, Option, Some}
use Rattle.std.specs.Prelude.{◌⊎◌, All, nat_lt, sum_by}
use Rattle.std.specs.List.{flat_map}
use Rattle.std.proofs.lemmas.Bool.{cases_lt}
use Rattle.std.proofs.lemmas.Bool.Decides.{nat_tests}
use Rattle.std.proofs.lemmas.Grind.{flat_map-append}
use Rattle.std.proofs.lemmas.List.Elements.{All-head, All-tail}
use Rattle.rhythm_base.specs.declared.span.Span.{Span}
use Rattle.rhythm_base.specs.Lists.{Each}
use Rattle.durations.specs.Value.{width}
use Rattle.voice_events.specs.Parts.{end_parts, len_parts, start_parts}
use Rattle.voice_events.specs.VoiceEvents.{FollowFrom, IsVoiceSpan}
use Rattle.lily_writer.specs.Elements.{Element}
use Rattle.lily_writer.specs.Fractions.{frac}
use Rattle.lily_writer.specs.Hearing.{HeardVoice, hear_words}
use Rattle.lily_writer.specs.Pieces.{AreElements, Stretch, cut, elements_of, bar_gap, bar_pieces, sounding, stretches}
use Rattle.lily_writer.specs.Staves.{AreBarElements}
use Rattle.lily_laws.proofs.ChordsHeard.{hear_more}
use Rattle.lily_laws.proofs.ElementWords.{element_words}
use Rattle.lily_laws.proofs.ElementsHeard.{resting, sounded}
use Rattle.lily_laws.proofs.Reached.{reached, reached_after, reached_before, reached_rest, reached_within, span_start, span_whole}
use Rattle.lily_laws.proofs.ValuesHeard.{IsCounted, counted_values, first_piece, later_piece, partial, rests_heard}
use Rattle.rhythm_base.proofs.Booleans.{lt_test, ge_test}

-- ---- pieces that have no length are left out

no_length : (from to : ℕ) (s : Stretch) (ss : List Stretch) → min to s.to ≤ max from s.from
    → bar_pieces from to (s ∷ ss) ≡ bar_pieces from to ss
no_length from to s ss le = let no : nat_lt (max from s.from) (min to s.to) ≡ false = grind (arith, nat_tests, le) in rw no refl

some_length : (from to : ℕ) (s : Stretch) (ss : List Stretch) → max from s.from < min to s.to
    → bar_pieces from to (s ∷ ss) ≡ cut from to s ∷ bar_pieces from to ss
some_length from to s ss lt = let yes : nat_lt (max from s.from) (min to s.to) ≡ true = grind (arith, nat_tests, lt) in rw yes refl

-- nothing of what begins after the bar is in it
later_pieces : (r from to end s0 : ℕ) (spans : List Span) → FollowFrom r end s0 spans → to ≤ s0
    → bar_pieces from to (stretches r s0 end spans) ≡ []
later_pieces r from to end s0 [] follow le = no_length from to (bar_gap s0 end) [] (omega (arith, le))
later_pieces r from to end s0 (x ∷ spans) (first, follow) le =
    no_length from to (bar_gap s0 (start_parts r x)) (sounding r x ∷ stretches r (end_parts r x) end spans) (omega (arith, le))
    ∙ no_length from to (sounding r x) (stretches r (end_parts r x) end spans) (omega (arith, le, first))
    ∙ later_pieces r from to end (end_parts r x) spans follow (omega (arith, le, first))

module _ (r : ℕ) (flats : Bool) (some : 1 ≤ r) (few : r ≤ MOST_UNITS) where
  abbrev words_in : List (List Element) → List (List ℕ)
  words_in own = flat_map (element_words flats) (flat_map (λ es. es) own)

  abbrev state : List Span → ℕ → List Span → HeardVoice
  state done n spans = reached r done n spans

  -- one piece more
  piece_more : (h next : HeardVoice) (es : List Element) (own : List (List Element)) (last : Option HeardVoice)
      → hear_words h (flat_map (element_words flats) es) ≡ Some next
      → hear_words next (words_in own) ≡ last → hear_words h (words_in (es ∷ own)) ≡ last
  piece_more h next es own last first rest =
      ap (hear_words h) (flat_map-append (element_words flats) es (flat_map (λ es. es) own))
      ∙ hear_more h next (flat_map (element_words flats) es) (words_in own) first ∙ rest

  -- ---- a piece of a gap

  gap_heard : (from to a b : ℕ) (done : List Span) (es : List Element) → max from a < min to b → AreElements r (cut from to (bar_gap a b)) es
      → hear_words (resting done (frac (max from a) (64 * r))) (flat_map (element_words flats) es)
      ≡ Some (resting done (frac (min to b) (64 * r)))
  gap_heard from to a b done es long (vs, values, is) =
      let (counted, sum) = counted_values r (min to b - max from a) vs some few values in
      let there : max from a + sum_by (width (64 * r)) vs ≡ min to b = omega (arith, sum, long) in
      ap (λ list. hear_words (resting done (frac (max from a) (64 * r))) (flat_map (element_words flats) list)) is
      ∙ rests_heard r flats some done (max from a) vs counted ∙ ap (λ n. Some (resting done (frac n (64 * r)))) there

  -- ---- a piece of a span

  span_heard : (from to : ℕ) (x : Span) (done spans : List Span) (es : List Element) → IsVoiceSpan r x
      → max from (start_parts r x) < min to (end_parts r x)
      → AreElements r (cut from to (sounding r x)) es
      → hear_words (state done (max from (start_parts r x)) (x ∷ spans)) (flat_map (element_words flats) es)
      ≡ Some (sounded (nat_lt (min to (end_parts r x)) (end_parts r x)) done (frac (min to (end_parts r x)) (64 * r))
      (partial r x (min to (end_parts r x) - start_parts r x)))
  span_heard from to x done spans es is long (vs, values, are) =
      let a = max from (start_parts r x) in
      let b = min to (end_parts r x) in
      let all = counted_values r (b - a) vs some few values in
      ap (λ list. hear_words (state done a (x ∷ spans)) (flat_map (element_words flats) list)) are
      ∙ go (a == start_parts r x) refl all.0 all.1
    where
      go : (first : Bool) → (max from (start_parts r x) == start_parts r x) ≡ first → All (IsCounted r) vs
          → sum_by (width (64 * r)) vs ≡ min to (end_parts r x) - max from (start_parts r x)
          → hear_words (state done (max from (start_parts r x)) (x ∷ spans))
          (flat_map (element_words flats) (elements_of (Some x) first (nat_lt (min to (end_parts r x)) (end_parts r x)) vs))
          ≡ Some (sounded (nat_lt (min to (end_parts r x)) (end_parts r x)) done (frac (min to (end_parts r x)) (64 * r))
          (partial r x (min to (end_parts r x) - start_parts r x)))
      go true e counted sum =
          let goes = nat_lt (min to (end_parts r x)) (end_parts r x) in
          let here : max from (start_parts r x) ≡ start_parts r x = grind (arith, nat_tests, e) in
          let there : start_parts r x + sum_by (width (64 * r)) vs ≡ min to (end_parts r x) = omega (arith, sum, long, here) in
          let lasting : sum_by (width (64 * r)) vs ≡ min to (end_parts r x) - start_parts r x = omega (arith, sum, here) in
          ap (λ h. hear_words h (flat_map (element_words flats) (elements_of (Some x) true goes vs)))
          (reached_before r done (max from (start_parts r x)) x spans (omega (arith, here)) ∙ ap (λ n. resting done (frac n (64 * r))) here)
          ∙ first_piece r flats some done (start_parts r x) x goes vs (span_start r x some is) is.keys is.graces counted
          (omega (arith, sum, long))
          ∙ ap₂ (λ n m. Some (sounded goes done (frac n (64 * r)) (partial r x m))) there lasting
      go false e counted sum =
          let goes = nat_lt (min to (end_parts r x)) (end_parts r x) in
          let past : start_parts r x < max from (start_parts r x) = later (max from (start_parts r x)) (start_parts r x) e (omega arith) in
          let there : max from (start_parts r x) + sum_by (width (64 * r)) vs ≡ min to (end_parts r x) = omega (arith, sum, long) in
          let lasting : max from (start_parts r x) - start_parts r x + sum_by (width (64 * r)) vs
          ≡ min to (end_parts r x) - start_parts r x = omega (arith, sum, long) in
          ap (λ h. hear_words h (flat_map (element_words flats) (elements_of (Some x) false goes vs)))
          (reached_within r done (max from (start_parts r x)) x spans past (omega (arith, long)))
          ∙ later_piece r flats some done (max from (start_parts r x))
          (max from (start_parts r x) - start_parts r x) x goes vs is.keys counted (omega (arith, sum, long))
          ∙ ap₂ (λ n m. Some (sounded goes done (frac n (64 * r)) (partial r x m))) there lasting
        where
          later : (a s : ℕ) → (a == s) ≡ false → s ≤ a → s < a
          later a s e le = grind (arith, nat_tests, e, le)

  -- ---- all pieces of a bar

  module _ (from to end : ℕ) (bar : from < to) (inside : to ≤ end) where
    -- whatever the elements of the pieces of these stretches are, they lead from one state to another
    abbrev Leads : HeardVoice → List Stretch → HeardVoice → Type 0
    Leads h ss last = (own : List (List Element)) → Each (AreElements r) (bar_pieces from to ss) own
        → hear_words h (words_in own) ≡ Some last

    -- nothing is left
    none_heard : (h : HeardVoice) (ss : List Stretch) → bar_pieces from to ss ≡ [] → Leads h ss h
    none_heard h ss none own each =
        let empty : own ≡ [] = subst (λ ps. Each (AreElements r) ps own) none each in
        ap (λ list. hear_words h (words_in list)) empty

    -- a piece of no length adds nothing
    skipped : (s : Stretch) (ss : List Stretch) (h last : HeardVoice) → min to s.to ≤ max from s.from → Leads h ss last → Leads h (s ∷ ss) last
    skipped s ss h last le rest own each = rest own (subst (λ ps. Each (AreElements r) ps own) (no_length from to s ss le) each)

    -- and any other one is heard first
    heard : (s : Stretch) (ss : List Stretch) (h next last : HeardVoice) → max from s.from < min to s.to
        → ((es : List Element) → AreElements r (cut from to s) es → hear_words h (flat_map (element_words flats) es) ≡ Some next)
        → Leads next ss last → Leads h (s ∷ ss) last
    heard s ss h next last lt first rest own each = go own (subst (λ ps. Each (AreElements r) ps own) (some_length from to s ss lt) each)
      where
        go : (own : List (List Element)) → Each (AreElements r) (cut from to s ∷ bar_pieces from to ss) own
            → hear_words h (words_in own) ≡ Some last
        go [] each = absurd each
        go (es ∷ own) (is, each) = piece_more h next es own (Some last) (first es is) (rest own each)

    -- the gap before a place, and what follows it
    gap_next : (a b : ℕ) (ss : List Stretch) (done : List Span) (last : HeardVoice) → a ≤ b → a ≤ to
        → Leads (resting done (frac (min to (max from b)) (64 * r))) ss last
        → Leads (resting done (frac (max from a) (64 * r))) (bar_gap a b ∷ ss) last
    gap_next a b ss done last le few rest = go (cases_lt (max from a) (min to b))
      where
        go : (max from a < min to b) ⊎ (min to b ≤ max from a) → Leads (resting done (frac (max from a) (64 * r))) (bar_gap a b ∷ ss) last
        go (inl lt) =
            let there : min to b ≡ min to (max from b) = omega (arith, lt, le, bar) in
            heard (bar_gap a b) ss (resting done (frac (max from a) (64 * r))) (resting done (frac (min to (max from b)) (64 * r))) last lt
            (λ es is. gap_heard from to a b done es lt is ∙ ap (λ n. Some (resting done (frac n (64 * r)))) there) rest
        go (inr ge) =
            let there : min to (max from b) ≡ max from a = omega (arith, ge, le, few, bar) in
            skipped (bar_gap a b) ss (resting done (frac (max from a) (64 * r))) last ge
            (subst (λ n. Leads (resting done (frac n (64 * r))) ss last) there rest)

    -- what follows a span is not in the bar where the span ends with it or later
    past : (x : Span) (spans : List Span) → FollowFrom r end (end_parts r x) spans → to ≤ end_parts r x
        → bar_pieces from to (stretches r (end_parts r x) end spans) ≡ []
    past x spans follow le = later_pieces r from to end (end_parts r x) spans follow le

    -- a span, and what follows it
    span_next : (x : Span) (spans done : List Span) → IsVoiceSpan r x → FollowFrom r end (end_parts r x) spans → start_parts r x < to
        → (end_parts r x ≤ to → Leads (state (done ++ x ∷ []) (max from (end_parts r x)) spans) (stretches r (end_parts r x) end spans)
        (state (done ++ x ∷ []) to spans))
        → Leads (state done (max from (start_parts r x)) (x ∷ spans)) (sounding r x ∷ stretches r (end_parts r x) end spans)
        (state done to (x ∷ spans))
    span_next x spans done is follow begun rest = go (cases_lt from (end_parts r x)) (cases_lt to (end_parts r x))
      where
        long : start_parts r x < end_parts r x
        long = let some = is.long in omega (arith, some)

        -- the span has ended before
        over : end_parts r x ≤ from → Leads (state done (max from (start_parts r x)) (x ∷ spans))
            (sounding r x ∷ stretches r (end_parts r x) end spans) (state done to (x ∷ spans))
        over le =
            let here : max from (start_parts r x) ≡ from = omega (arith, le, long) in
            let there : from ≡ max from (end_parts r x) = omega (arith, le) in
            let before : state done (max from (start_parts r x)) (x ∷ spans) ≡ state (done ++ x ∷ []) (max from (end_parts r x)) spans =
            ap (λ n. state done n (x ∷ spans)) here ∙ reached_after r done from x spans (omega (arith, le, long)) le
            ∙ ap (λ n. state (done ++ x ∷ []) n spans) there in
            let after : state done to (x ∷ spans) ≡ state (done ++ x ∷ []) to spans =
            reached_after r done to x spans begun (omega (arith, le, bar)) in
            skipped (sounding r x) (stretches r (end_parts r x) end spans) (state done (max from (start_parts r x)) (x ∷ spans))
            (state done to (x ∷ spans)) (omega (arith, le))
            (subst (λ h. Leads h (stretches r (end_parts r x) end spans) (state done to (x ∷ spans))) (sym before)
            (subst (λ h. Leads (state (done ++ x ∷ []) (max from (end_parts r x)) spans) (stretches r (end_parts r x) end spans) h)
            (sym after) (rest (omega (arith, le, bar)))))

        -- it goes on after the bar
        on : from < end_parts r x → to < end_parts r x
            → Leads (state done (max from (start_parts r x)) (x ∷ spans)) (sounding r x ∷ stretches r (end_parts r x) end spans)
            (state done to (x ∷ spans))
        on less more =
            let there : min to (end_parts r x) ≡ to = omega (arith, more) in
            let goes : nat_lt (min to (end_parts r x)) (end_parts r x) ≡ true = let e = there in
            lt_test (min to (end_parts r x)) (end_parts r x) (omega (arith, e, more)) in
            let last : sounded (nat_lt (min to (end_parts r x)) (end_parts r x)) done (frac (min to (end_parts r x)) (64 * r))
            (partial r x (min to (end_parts r x) - start_parts r x))
            ≡ state done to (x ∷ spans) =
            ap₂ (λ b n. sounded b done (frac n (64 * r)) (partial r x (n - start_parts r x))) goes there
            ∙ sym (reached_within r done to x spans begun more) in
            heard (sounding r x) (stretches r (end_parts r x) end spans) (state done (max from (start_parts r x)) (x ∷ spans))
            (state done to (x ∷ spans)) (state done to (x ∷ spans))
            (omega (arith, less, more, begun, bar, long))
            (λ es own. span_heard from to x done spans es is (omega (arith, less, more, begun, bar, long)) own ∙ ap Some last)
            (none_heard (state done to (x ∷ spans)) (stretches r (end_parts r x) end spans) (past x spans follow (omega (arith, more))))

        -- it ends in the bar
        ends : from < end_parts r x → end_parts r x ≤ to
            → Leads (state done (max from (start_parts r x)) (x ∷ spans)) (sounding r x ∷ stretches r (end_parts r x) end spans)
            (state done to (x ∷ spans))
        ends less le =
            let there : min to (end_parts r x) ≡ end_parts r x = omega (arith, le) in
            let goes : nat_lt (min to (end_parts r x)) (end_parts r x) ≡ false = let e = there in
            ge_test (min to (end_parts r x)) (end_parts r x) (omega (arith, e)) in
            let all : end_parts r x - start_parts r x ≡ len_parts r x = omega arith in
            let next : end_parts r x ≡ max from (end_parts r x) = omega (arith, less) in
            let last : sounded (nat_lt (min to (end_parts r x)) (end_parts r x)) done (frac (min to (end_parts r x)) (64 * r))
            (partial r x (min to (end_parts r x) - start_parts r x))
            ≡ state (done ++ x ∷ []) (max from (end_parts r x)) spans =
            ap₂ (λ b n. sounded b done (frac n (64 * r)) (partial r x (n - start_parts r x))) goes there
            ∙ ap (λ y. resting (done ++ y ∷ []) (frac (end_parts r x) (64 * r))) (ap (partial r x) all ∙ span_whole r x some is)
            ∙ sym (reached_rest r (done ++ x ∷ []) (end_parts r x) end spans follow) ∙ ap (λ n. state (done ++ x ∷ []) n spans) next in
            let after : state done to (x ∷ spans) ≡ state (done ++ x ∷ []) to spans = reached_after r done to x spans begun le in
            heard (sounding r x) (stretches r (end_parts r x) end spans) (state done (max from (start_parts r x)) (x ∷ spans))
            (state (done ++ x ∷ []) (max from (end_parts r x)) spans)
            (state done to (x ∷ spans)) (omega (arith, less, begun, bar, long))
            (λ es own. span_heard from to x done spans es is (omega (arith, less, begun, bar, long)) own ∙ ap Some last)
            (subst (λ h. Leads (state (done ++ x ∷ []) (max from (end_parts r x)) spans) (stretches r (end_parts r x) end spans) h)
            (sym after) (rest le))

        go : (from < end_parts r x) ⊎ (end_parts r x ≤ from) → (to < end_parts r x) ⊎ (end_parts r x ≤ to)
            → Leads (state done (max from (start_parts r x)) (x ∷ spans)) (sounding r x ∷ stretches r (end_parts r x) end spans)
            (state done to (x ∷ spans))
        go (inr le) other = over le
        go (inl less) (inl more) = on less more
        go (inl less) (inr le) = ends less le

    -- the pieces of a voice in the bar, from a place up to which all is heard
    voice_heard : (spans done : List Span) (s0 : ℕ) → FollowFrom r end s0 spans → All (IsVoiceSpan r) spans → s0 ≤ to
        → Leads (state done (max from s0) spans) (stretches r s0 end spans) (state done to spans)
    voice_heard [] done s0 follow are le =
        let before = reached_rest r done (max from s0) end [] (omega (arith, follow, bar, inside)) in
        let after = reached_rest r done to end [] inside in
        let there : to ≡ min to (max from end) = omega (arith, inside) in
        subst (λ h. Leads h (bar_gap s0 end ∷ []) (state done to [])) (sym before)
        (gap_next s0 end [] done (state done to []) follow le
        (subst (λ n. Leads (resting done (frac n (64 * r))) [] (state done to [])) there
        (subst (λ h. Leads h [] (state done to [])) after (none_heard (state done to []) [] refl))))
    voice_heard (x ∷ spans) done s0 (first, follow) are le = go (cases_lt (start_parts r x) from) (cases_lt (start_parts r x) to)
        (λ few. voice_heard spans (done ++ x ∷ []) (end_parts r x) follow (All-tail (IsVoiceSpan r) x spans are) few)
      where
        is : IsVoiceSpan r x
        is = All-head (IsVoiceSpan r) x spans are

        go : (start_parts r x < from) ⊎ (from ≤ start_parts r x) → (start_parts r x < to) ⊎ (to ≤ start_parts r x)
            → (end_parts r x ≤ to → Leads (state (done ++ x ∷ []) (max from (end_parts r x)) spans) (stretches r (end_parts r x) end spans)
            (state (done ++ x ∷ []) to spans))
            → Leads (state done (max from s0) (x ∷ spans)) (stretches r s0 end (x ∷ spans)) (state done to (x ∷ spans))
        go (inl less) other rest =
            let here : max from (start_parts r x) ≡ max from s0 = omega (arith, less, first) in
            skipped (bar_gap s0 (start_parts r x)) (sounding r x ∷ stretches r (end_parts r x) end spans)
            (state done (max from s0) (x ∷ spans)) (state done to (x ∷ spans)) (omega (arith, less))
            (subst (λ n. Leads (state done n (x ∷ spans)) (sounding r x ∷ stretches r (end_parts r x) end spans)
            (state done to (x ∷ spans))) here
            (span_next x spans done is follow (omega (arith, less, bar)) rest))
        go (inr ge) (inl begun) rest =
            let before = reached_before r done (max from s0) x spans (omega (arith, ge, first)) in
            let there : max from (start_parts r x) ≡ min to (max from (start_parts r x)) = omega (arith, ge, begun) in
            let start = reached_before r done (max from (start_parts r x)) x spans (omega (arith, ge)) in
            subst (λ h. Leads h (stretches r s0 end (x ∷ spans)) (state done to (x ∷ spans))) (sym before)
            (gap_next s0 (start_parts r x) (sounding r x ∷ stretches r (end_parts r x) end spans) done (state done to (x ∷ spans)) first le
            (subst (λ n. Leads (resting done (frac n (64 * r))) (sounding r x ∷ stretches r (end_parts r x) end spans)
            (state done to (x ∷ spans))) there
            (subst (λ h. Leads h (sounding r x ∷ stretches r (end_parts r x) end spans) (state done to (x ∷ spans))) start
            (span_next x spans done is follow begun rest))))
        go (inr ge) (inr later) rest =
            let before = reached_before r done (max from s0) x spans (omega (arith, ge, first)) in
            let there : to ≡ min to (max from (start_parts r x)) = omega (arith, ge, later) in
            let last = reached_before r done to x spans later in
            let none : bar_pieces from to (sounding r x ∷ stretches r (end_parts r x) end spans) ≡ [] =
            no_length from to (sounding r x) (stretches r (end_parts r x) end spans) (omega (arith, later))
            ∙ past x spans follow (omega (arith, later)) in
            subst (λ h. Leads h (stretches r s0 end (x ∷ spans)) (state done to (x ∷ spans))) (sym before)
            (gap_next s0 (start_parts r x) (sounding r x ∷ stretches r (end_parts r x) end spans) done (state done to (x ∷ spans)) first le
            (subst (λ n. Leads (resting done (frac n (64 * r))) (sounding r x ∷ stretches r (end_parts r x) end spans)
            (state done to (x ∷ spans))) there
            (subst (λ h. Leads h (sounding r x ∷ stretches r (end_parts r x) end spans) (state done to (x ∷ spans))) last
            (none_heard (state done to (x ∷ spans)) (sounding r x ∷ stretches r (end_parts r x) end spans) none))))

    -- the elements of the bar lead from its beginning to its end
    pub bar_heard : (spans : List Span) (elements : List Element) → FollowFrom r end 0 spans → All (IsVoiceSpan r) spans
        → AreBarElements r from to (stretches r 0 end spans) elements
        → hear_words (state [] from spans) (flat_map (element_words flats) elements) ≡ Some (state [] to spans)
    bar_heard spans elements follow are (own, each, is) =
        let here : max from 0 ≡ from = omega arith in
        ap (λ es. hear_words (state [] from spans) (flat_map (element_words flats) es)) is
        ∙ subst (λ n. hear_words (state [] n spans) (words_in own) ≡ Some (state [] to spans)) here
        (voice_heard spans [] 0 follow are (omega arith) own each)
