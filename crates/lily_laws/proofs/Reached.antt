-- What is known of a voice at a place of it: the spans that have ended there, and the one that sounds on.
use Rattle.std.proofs.Common.{◌≡◌, ℕ, ◌-◌, ◌*◌, ◌<◌, ◌≤◌, Bool, true, false, List, [], ◌∷◌, ◌++◌, refl, sym, ap, ◌∙◌, arith, append_assoc, append-nil}
use Rattle.std.specs.Prelude.{All, nat_le, nat_lt, if◌then◌else◌}
use Rattle.std.proofs.lemmas.Bool.Decides.{nat_tests}
use Rattle.std.proofs.lemmas.List.Elements.{All-head, All-tail}
use Rattle.rhythm_base.specs.declared.span.Span.{Span}
use Rattle.voice_events.proofs.SpanEnds.{from_within}
use Rattle.voice_events.specs.Parts.{end_parts, len_parts, start_parts}
use Rattle.voice_events.specs.VoiceEvents.{FollowFrom, IsVoiceSpan}
use Rattle.lily_writer.specs.Fractions.{frac}
use Rattle.lily_writer.specs.Hearing.{HeardVoice, is_between}
use Rattle.lily_laws.proofs.ElementsHeard.{holding, resting}
use Rattle.lily_laws.proofs.Fractions.{is_frac}
use Rattle.lily_laws.proofs.ValuesHeard.{partial}

module _ (r : ℕ) where
  pub reached : List Span → ℕ → List Span → HeardVoice
  reached done n [] = resting done (frac n (64 * r))
  reached done n (x ∷ spans) =
      if nat_le n (start_parts r x) then resting done (frac n (64 * r))
      else if nat_lt n (end_parts r x) then holding done (frac n (64 * r)) (partial r x (n - start_parts r x))
      else reached (done ++ x ∷ []) n spans

  pub reached_before : (done : List Span) (n : ℕ) (x : Span) (spans : List Span) → n ≤ start_parts r x
      → reached done n (x ∷ spans) ≡ resting done (frac n (64 * r))
  unfolding reached
  reached_before done n x spans le = let yes : nat_le n (start_parts r x) ≡ true = grind (arith, nat_tests) in rw yes refl

  pub reached_within : (done : List Span) (n : ℕ) (x : Span) (spans : List Span) → start_parts r x < n → n < end_parts r x
      → reached done n (x ∷ spans) ≡ holding done (frac n (64 * r)) (partial r x (n - start_parts r x))
  unfolding reached
  reached_within done n x spans after before =
      let no : nat_le n (start_parts r x) ≡ false = grind (arith, nat_tests) in
      let yes : nat_lt n (end_parts r x) ≡ true = grind (arith, nat_tests) in
      rw (no, yes) refl

  pub reached_after : (done : List Span) (n : ℕ) (x : Span) (spans : List Span) → start_parts r x < n → end_parts r x ≤ n
      → reached done n (x ∷ spans) ≡ reached (done ++ x ∷ []) n spans
  unfolding reached
  reached_after done n x spans after le =
      let no : nat_le n (start_parts r x) ≡ false = grind (arith, nat_tests) in
      let past : nat_lt n (end_parts r x) ≡ false = grind (arith, nat_tests) in
      rw (no, past) refl

  -- before all spans that are left
  pub reached_rest : (done : List Span) (n end : ℕ) (spans : List Span) → FollowFrom r end n spans
      → reached done n spans ≡ resting done (frac n (64 * r))
  unfolding reached
  reached_rest done n end [] follow = refl
  reached_rest done n end (x ∷ spans) follow = reached_before done n x spans follow.0

  -- at the last barline
  pub reached_end : (done : List Span) (from end : ℕ) (spans : List Span) → FollowFrom r end from spans → All (IsVoiceSpan r) spans
      → reached done end spans ≡ resting (done ++ spans) (frac end (64 * r))
  unfolding reached
  reached_end done from end [] follow are = ap (λ xs. resting xs (frac end (64 * r))) (sym (append-nil done))
  reached_end done from end (x ∷ spans) (first, follow) are =
      let long = (All-head (IsVoiceSpan r) x spans are).long in
      let within = from_within r end (end_parts r x) spans follow in
      reached_after done end x spans (omega (arith, long, within)) within
      ∙ reached_end (done ++ x ∷ []) (end_parts r x) end spans follow (All-tail (IsVoiceSpan r) x spans are)
      ∙ ap (λ xs. resting xs (frac end (64 * r))) (append_assoc done (x ∷ []) spans)

  pub reached_start : (end : ℕ) (spans : List Span) → FollowFrom r end 0 spans → reached [] 0 spans ≡ resting [] (frac 0 (64 * r))
  reached_start end spans follow = reached_rest [] 0 end spans follow

  -- it is no place within an element, and it is this place
  pub reached_between : (done : List Span) (n : ℕ) (spans : List Span) → is_between (reached done n spans) ≡ true
  unfolding reached
  reached_between done n [] = refl
  reached_between done n (x ∷ spans) = go (nat_le n (start_parts r x)) (nat_lt n (end_parts r x)) (reached_between (done ++ x ∷ []) n spans)
    where
      go : (b c : Bool) → is_between (reached (done ++ x ∷ []) n spans) ≡ true
          → is_between (if b then resting done (frac n (64 * r))
          else if c then holding done (frac n (64 * r)) (partial r x (n - start_parts r x)) else reached (done ++ x ∷ []) n spans) ≡ true
      go true c rest = refl
      go false true rest = refl
      go false false rest = rest

  pub reached_place : (done : List Span) (n : ℕ) (spans : List Span) → (reached done n spans).at ≡ frac n (64 * r)
  unfolding reached
  reached_place done n [] = refl
  reached_place done n (x ∷ spans) = go (nat_le n (start_parts r x)) (nat_lt n (end_parts r x)) (reached_place (done ++ x ∷ []) n spans)
    where
      go : (b c : Bool) → (reached (done ++ x ∷ []) n spans).at ≡ frac n (64 * r)
          → (if b then resting done (frac n (64 * r))
          else if c then holding done (frac n (64 * r)) (partial r x (n - start_parts r x)) else reached (done ++ x ∷ []) n spans).at
          ≡ frac n (64 * r)
      go true c rest = refl
      go false true rest = refl
      go false false rest = rest

  -- ---- a span in lowest terms

  pub span_start : (x : Span) → 1 ≤ r → IsVoiceSpan r x → x.start ≡ frac (start_parts r x) (64 * r)
  span_start x some is = is_frac (start_parts r x) (64 * r) x.start (omega (arith, some)) is.start

  -- all of it has sounded
  pub span_whole : (x : Span) → 1 ≤ r → IsVoiceSpan r x → partial r x (len_parts r x) ≡ x
  span_whole x some is = ap (λ f. record x { len = f }) (sym (is_frac (len_parts r x) (64 * r) x.len (omega (arith, some)) is.len))
