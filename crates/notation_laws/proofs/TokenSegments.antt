-- Tokens as segments: a token that is cut at places, and one that is joined with others.
use Rattle.std.proofs.Common.{◌≡◌, ℕ, zero, suc, ◌+◌, ◌-◌, ◌/◌, ◌<◌, ◌≤◌, Bool, true, false, ◌&&◌, ◌||◌, not, cond, List, [], ◌∷◌, ◌++◌, length, map, refl, sym, ap, ◌∙◌, subst, inl, inr, arith}
use Rattle.std.specs.Prelude.{if◌then◌else◌, take_while, ⊤}
use Rattle.std.proofs.lemmas.List.{length-map, map-append}
use Rattle.std.proofs.lemmas.List.Sums.{take_while-cons}
use Rattle.derivation.specs.declared.score.ScoreBar.{ScoreBar}
use Rattle.voice_values.specs.GoesOn.{next_in_column}
use Rattle.voice_values.specs.Values.{VoiceValue}
use Rattle.notation.specs.Notes.{tied_ends, ties_taken}
use Rattle.notation.specs.Places.{is_halved}
use Rattle.notation.specs.Rests.{joined, joined_from, joined_rests, last_number, may_stand, rests_taken}
use Rattle.notation.specs.Runs.{StandBetween}
use Rattle.notation.specs.Tokens.{Token, bar_tokens, cut_token, cuts, is_silent, value_token}
use Rattle.notation.proofs.CutTokens.{on_from, up_to}
use Rattle.notation.proofs.Joining.{ended}
use Rattle.notation.proofs.LastNumbers.{last_few}
use Rattle.notation_laws.proofs.Segments.{Segment}
use Rattle.notation_laws.proofs.Says.{AreLinked, IsSplit, Says, join_says, joint, says_both, says_cons, says_front, says_same, says_then, split_says}

-- a part of a token, which is its first or not
abbrev pub token_piece : Token → Bool → ℕ → Segment
token_piece t first len = record {
  len = len;
  keys = t.keys;
  graces = if first then t.graces else [];
  short = t.short && first;
  comes = not (is_silent t) && (not first || t.comes);
  goes = not (is_silent t) && t.goes;
}

abbrev pub token_segment : Token → Segment
token_segment t = token_piece t true (t.end - t.start)

abbrev pub token_segments : List Token → List Segment
token_segments ts = map token_segment ts

-- ---- tokens side by side

abbrev pub SideBySide : ℕ → List Token → ℕ → Type 0
SideBySide from [] to = from ≡ to
SideBySide from (t ∷ ts) to = (t.start ≡ from) × (t.start < t.end) × SideBySide t.end ts to

pub stand_side : (r from to : ℕ) (ts : List Token) → StandBetween r from ts to → SideBySide from ts to
stand_side r from to [] h = h
stand_side r from to (t ∷ ts) h = (h.0, h.1, stand_side r t.end to ts h.3)

pub side_append : (from to : ℕ) (xs ys : List Token) → SideBySide from (xs ++ ys) to
    → (mid : ℕ) × SideBySide from xs mid × SideBySide mid ys to
side_append from to [] ys h = (from, refl, h)
side_append from to (x ∷ xs) ys h =
    let (mid, front, back) = side_append x.end to xs ys h.2 in
    (mid, (h.0, h.1, front), back)

-- ---- a token that is cut

cut_wide : (from to : ℕ) (places : List ℕ) (t : Token) → SideBySide from (cut_token places t) to → t.start < t.end
cut_wide from to [] t h = h.1
cut_wide from to (p ∷ places) t h = let later = cut_wide p to places (on_from p t) h.2 in omega (arith, h.1, later)

pub cut_says : (from to : ℕ) (places : List ℕ) (t : Token) → SideBySide from (cut_token places t) to
    → Says (token_segment t ∷ []) (token_segments (cut_token places t))
cut_says from to [] t h = says_same (token_segment t ∷ [])
cut_says from to (p ∷ places) t h =
    let later = cut_wide p to places (on_from p t) h.2 in
    let is : IsSplit (token_segment t) (token_segment (up_to p t)) (token_segment (on_from p t)) = record {
      len = omega (arith, h.1, later);
      keys = refl;
      more = refl;
      graces = refl;
      none = refl;
      short = refl;
      plain = refl;
      comes = refl;
      goes = refl;
      held = λ e. (ap (λ b. not b && true) e, ap (λ b. not b && true) e);
      loose = λ e. (ap (λ b. not b && true) e, ap (λ b. not b && true) e);
    } in
    says_then (token_segment t ∷ []) (token_segment (up_to p t) ∷ token_segment (on_from p t) ∷ [])
    (token_segments (cut_token (p ∷ places) t))
    (split_says (token_segment t) (token_segment (up_to p t)) (token_segment (on_from p t)) is)
    (says_cons (token_segment (up_to p t)) (token_segment (on_from p t) ∷ []) (token_segments (cut_token places (on_from p t)))
    (cut_says p to places (on_from p t) h.2))

-- ---- the tokens of the values of a bar, before any is cut

abbrev pub whole_tokens : ℕ → ScoreBar → Bool → List VoiceValue → List Token
whole_tokens r bar after [] = []
whole_tokens r bar after (v ∷ vs) = value_token r bar (next_in_column after vs) v ∷ whole_tokens r bar after vs

pub cuts_say : (r odd from to : ℕ) (bar : ScoreBar) (after : Bool) (vs : List VoiceValue)
    → SideBySide from (bar_tokens r odd bar after vs) to
    → Says (token_segments (whole_tokens r bar after vs)) (token_segments (bar_tokens r odd bar after vs))
cuts_say r odd from to bar after [] h = says_same []
cuts_say r odd from to bar after (v ∷ vs) h =
    let t = value_token r bar (next_in_column after vs) v in
    let own = cut_token (cuts r odd v.value t) t in
    let more = bar_tokens r odd bar after vs in
    let (mid, front, back) = side_append from to own more h in
    subst (λ ss. Says (token_segment t ∷ token_segments (whole_tokens r bar after vs)) ss) (sym (map-append token_segment own more))
    (says_both (token_segment t ∷ []) (token_segments own) (token_segments (whole_tokens r bar after vs)) (token_segments more)
    (cut_says from mid (cuts r odd v.value t) t front) (cuts_say r odd mid to bar after vs back))

-- ---- tokens that are joined

-- a token goes on in so many after it, or is silent as they are
abbrev pub AreJoined : ℕ → Token → List Token → Type 0
AreJoined zero t more = ⊤
AreJoined (suc n) t [] = ⊤
AreJoined (suc n) t (u ∷ more) = AreLinked (token_segment t) (token_segment u) × AreJoined n (ended t u) more

abbrev pub left_after : ℕ → List Token → List Token
left_after zero ts = ts
left_after (suc n) [] = []
left_after (suc n) (t ∷ ts) = left_after n ts

pub joined_says : (n from to : ℕ) (t : Token) (more : List Token) → SideBySide from (t ∷ more) to → AreJoined n t more
    → Says (token_segments (t ∷ more)) (token_segment (joined n t more) ∷ token_segments (left_after n more))
joined_says zero from to t more h are = says_same (token_segments (t ∷ more))
joined_says (suc n) from to t [] h are = says_same (token_segments (t ∷ []))
joined_says (suc n) from to t (u ∷ more) h (linked, are) =
    let a = token_segment t in
    let b = token_segment u in
    let goes = not (is_silent t) && u.goes in
    let len : t.end - t.start + (u.end - u.start) ≡ u.end - t.start = omega (arith, h.1, h.2.0, h.2.1) in
    let one : Says (a ∷ b ∷ []) (token_segment (ended t u) ∷ []) =
    subst (λ k. Says (a ∷ b ∷ []) (record (joint a b goes) { len = k } ∷ [])) len
    (join_says a b goes (λ e. ap (λ s. not s && u.goes) e) linked) in
    says_then (a ∷ b ∷ token_segments more) (token_segment (ended t u) ∷ token_segments more)
    (token_segment (joined n (ended t u) more) ∷ token_segments (left_after n more))
    (says_front (a ∷ b ∷ []) (token_segment (ended t u) ∷ []) (token_segments more) one)
    (joined_says n t.start to (ended t u) more (refl, omega (arith, h.1, h.2.0, h.2.1), h.2.2) are)

-- the tokens of a list, each joined with as many as a count says
abbrev pub CountsJoined : (Token → List Token → ℕ) → Type 0
CountsJoined count = (t : Token) (more : List Token) → AreJoined (count t more) t more

side_after : (n from to : ℕ) (ts : List Token) → SideBySide from ts to → (mid : ℕ) × SideBySide mid (left_after n ts) to
side_after zero from to ts h = (from, h)
side_after (suc n) from to [] h = (from, h)
side_after (suc n) from to (t ∷ ts) h = side_after n t.end to ts h.2

pub joined_from_says : (count : Token → List Token → ℕ) (taken from to : ℕ) (ts : List Token) → CountsJoined count → SideBySide from ts to
    → Says (token_segments (left_after taken ts)) (token_segments (joined_from count taken ts))
joined_from_says count zero from to [] are h = says_same []
joined_from_says count (suc taken) from to [] are h = says_same []
joined_from_says count (suc taken) from to (t ∷ more) are h = joined_from_says count taken t.end to more are h.2
joined_from_says count zero from to (t ∷ more) are h =
    let n = count t more in
    let one = token_segment (joined n t more) in
    says_then (token_segments (t ∷ more)) (one ∷ token_segments (left_after n more)) (one ∷ token_segments (joined_from count n more))
    (joined_says n from to t more h (are t more))
    (says_cons one (token_segments (left_after n more)) (token_segments (joined_from count n more))
    (joined_from_says count n t.end to more are h.2))

-- ---- rests

silent_joined : (n : ℕ) (t : Token) (more : List Token) → is_silent t ≡ true → n ≤ length (take_while is_silent more) → AreJoined n t more
silent_joined zero t more silent few = tt
silent_joined (suc n) t [] silent few = tt
silent_joined (suc n) t (u ∷ more) silent few = go (is_silent u) refl
    (subst (λ us. suc n ≤ length us) (take_while-cons is_silent u more) few) (silent_joined n (ended t u) more silent)
  where
    go : (b : Bool) → is_silent u ≡ b → suc n ≤ length (cond b (u ∷ take_while is_silent more) [])
        → (n ≤ length (take_while is_silent more) → AreJoined n (ended t u) more)
        → AreJoined (suc n) t (u ∷ more)
    go true e few rest = (inr (silent, e), rest (omega (arith, few)))
    go false e few rest = absurd (omega (arith, few))

rests_joined : (r : ℕ) (bar : ScoreBar) → CountsJoined (rests_taken r bar)
rests_joined r bar t more = go (is_silent t) refl
  where
    ends : List ℕ
    ends = map (λ (u : Token). u.end) (take_while is_silent more)

    go : (b : Bool) → is_silent t ≡ b → AreJoined (if b then last_number (may_stand r bar t.start) ends else 0) t more
    go true e =
        let few = last_few (may_stand r bar t.start) ends in
        let count = length-map (take_while is_silent more) (λ (u : Token). u.end) in
        silent_joined (last_number (may_stand r bar t.start) ends) t more e (omega (arith, few, count))
    go false e = tt

pub rests_say : (r from to : ℕ) (bar : ScoreBar) (ts : List Token) → SideBySide from ts to
    → Says (token_segments ts) (token_segments (joined_rests r bar ts))
rests_say r from to bar ts h = joined_from_says (rests_taken r bar) 0 from to ts (rests_joined r bar) h

-- ---- ties

tied_joined : (n : ℕ) (goes : Bool) (t : Token) (more : List Token) → (goes ≡ true → (is_silent t ≡ false) × (t.goes ≡ true))
    → n ≤ length (tied_ends goes more) → AreJoined n t more
tied_joined zero goes t more held few = tt
tied_joined (suc n) goes t [] held few = tt
tied_joined (suc n) goes t (u ∷ more) held few = go goes refl u.comes few (tied_joined n (u.goes && not (is_silent u)) (ended t u) more)
  where
    after : List ℕ
    after = tied_ends (u.goes && not (is_silent u)) more

    both : (a b : Bool) → (a && b) ≡ true → a ≡ true
    both true b e = refl
    both false b e = absurd (cc)

    go : (b : Bool) → goes ≡ b → (c : Bool) → suc n ≤ length (if b && c then u.end ∷ after else [])
        → (((u.goes && not (is_silent u)) ≡ true → (is_silent t ≡ false) × (u.goes ≡ true)) → n ≤ length after
        → AreJoined n (ended t u) more)
        → AreJoined (suc n) t (u ∷ more)
    go true e true few rest =
        let (sounds, on) = held e in (
          inl (ap (λ b. not b && t.goes) sounds ∙ on),
          rest (λ f. (sounds, both u.goes (not (is_silent u)) f)) (omega (arith, few)),
        )
    go true e false few rest = absurd (omega (arith, few))
    go false e c few rest = absurd (omega (arith, few))

ties_joined : (grid whole : ℕ) → CountsJoined (ties_taken grid whole)
ties_joined grid whole t more =
    let may : ℕ → Bool = λ end. is_halved whole ((end - t.start) / grid) in
    let goes = t.goes && not (is_silent t) in
    tied_joined (ties_taken grid whole t more) goes t more (on t.goes (is_silent t)) (last_few may (tied_ends goes more))
  where
    on : (a b : Bool) → (a && not b) ≡ true → (b ≡ false) × (a ≡ true)
    on true false e = (refl, refl)
    on true true e = absurd (cc)
    on false b e = absurd (cc)

pub ties_say : (grid whole from to : ℕ) (ts : List Token) → SideBySide from ts to
    → Says (token_segments ts) (token_segments (joined_from (ties_taken grid whole) 0 ts))
ties_say grid whole from to ts h = joined_from_says (ties_taken grid whole) 0 from to ts (ties_joined grid whole) h
