-- Segments that say at least what others say: what is heard of the others is heard of them.
use Rattle.std.proofs.Common.{◌≡◌, ℕ, ◌+◌, ◌==◌, Bool, true, false, List, [], ◌∷◌, ◌++◌, Option, Some, None, refl, sym, ap, ◌∙◌, subst, ◌⊎◌, inl, inr, arith}
use Rattle.std.proofs.lemmas.Bool.{eq-eqb}
use Rattle.rhythm_base.proofs.Booleans.{not_both_tests}
use Rattle.text_words.specs.Steps.{◌>>=◌}
use Rattle.notation_laws.specs.Hearing.{HeardSpan, HeardVoice}
use Rattle.notation_laws.proofs.Segments.{IsBegin, IsMore, IsRest, Segment, begin_heard, begun, clean, hear_segment, hear_segments, longer, more_heard, more_only, rest_heard, rest_or_begin, sounded}

abbrev pub Says : List Segment → List Segment → Type 0
Says ps qs =
    (done : List (HeardSpan ℕ)) (at : ℕ) (going : Option (HeardSpan ℕ)) (h : HeardVoice ℕ)
    → hear_segments (clean done at going) ps ≡ Some h → hear_segments (clean done at going) qs ≡ Some h

-- ---- one segment after another

pub heard_first : {A B : Type 0} (o : Option A) (next : A → Option B) (y : B) → (o >>= next) ≡ Some y → (x : A) × (o ≡ Some x)
    × (next x ≡ Some y)
heard_first None next y e = absurd (cc)
heard_first (Some x) next y e = (x, refl, e)

-- what is known between two segments
abbrev pub IsClean : HeardVoice ℕ → Type 0
IsClean h = (done : List (HeardSpan ℕ)) × (at : ℕ) × (going : Option (HeardSpan ℕ)) × (h ≡ clean done at going)

sounded_clean : (goes : Bool) (done : List (HeardSpan ℕ)) (at : ℕ) (x : HeardSpan ℕ) → IsClean (sounded goes done at x)
sounded_clean true done at x = (done, at, Some x, refl)
sounded_clean false done at x = (done ++ x ∷ [], at, None, refl)

clean_after : (done : List (HeardSpan ℕ)) (at : ℕ) (going : Option (HeardSpan ℕ)) (p : Segment) (h : HeardVoice ℕ)
    → hear_segment (clean done at going) p ≡ Some h → IsClean h
clean_after done at None p h e = go (rest_or_begin done at p h e)
  where
    go : (IsRest p × (h ≡ clean done (at + p.len) None)) ⊎ (IsBegin p × (h ≡ sounded p.goes done (at + p.len) (begun at p))) → IsClean h
    go (inl (is, same)) = (done, at + p.len, None, same)
    go (inr (is, same)) = subst IsClean (sym same) (sounded_clean p.goes done (at + p.len) (begun at p))
clean_after done at (Some x) p h e =
    let (is, same) = more_only done at x p h e in
    subst IsClean (sym same) (sounded_clean p.goes done (at + p.len) (longer x p.len))

pub clean_later : (done : List (HeardSpan ℕ)) (at : ℕ) (going : Option (HeardSpan ℕ)) (ps : List Segment) (h : HeardVoice ℕ)
    → hear_segments (clean done at going) ps ≡ Some h → IsClean h
clean_later done at going [] h e = (done, at, going, sym (some_is (clean done at going) h e))
  where
    some_is : (x y : HeardVoice ℕ) → Some x ≡ Some y → x ≡ y
    some_is x y e = cc
clean_later done at going (p ∷ ps) h e =
    let (next, one, rest) = heard_first (hear_segment (clean done at going) p) (λ next. hear_segments next ps) h e in
    let (done', at', going', is) = clean_after done at going p next one in
    clean_later done' at' going' ps h (subst (λ n. hear_segments n ps ≡ Some h) is rest)

pub says_same : (ps : List Segment) → Says ps ps
says_same ps done at going h e = e

pub says_then : (ps qs rs : List Segment) → Says ps qs → Says qs rs → Says ps rs
says_then ps qs rs first second done at going h e = second done at going h (first done at going h e)

pub says_cons : (p : Segment) (ps qs : List Segment) → Says ps qs → Says (p ∷ ps) (p ∷ qs)
says_cons p ps qs says done at going h e =
    let (next, one, rest) = heard_first (hear_segment (clean done at going) p) (λ next. hear_segments next ps) h e in
    let (done', at', going', is) = clean_after done at going p next one in
    let more : hear_segments next qs ≡ Some h =
    subst (λ n. hear_segments n qs ≡ Some h) (sym is) (says done' at' going' h (subst (λ n. hear_segments n ps ≡ Some h) is rest)) in
    ap (λ o. o >>= λ next. hear_segments next qs) one ∙ more

pub heard_append : (h : HeardVoice ℕ) (ps qs : List Segment) → hear_segments h (ps ++ qs)
    ≡ (hear_segments h ps >>= λ next. hear_segments next qs)
heard_append h [] qs = refl
heard_append h (p ∷ ps) qs = go (hear_segment h p) (λ next. heard_append next ps qs)
  where
    go : (o : Option (HeardVoice ℕ))
        → ((next : HeardVoice ℕ) → hear_segments next (ps ++ qs) ≡ (hear_segments next ps >>= λ next. hear_segments next qs))
        → (o >>= λ next. hear_segments next (ps ++ qs)) ≡ ((o >>= λ next. hear_segments next ps) >>= λ next. hear_segments next qs)
    go None rest = refl
    go (Some next) rest = rest next

-- the same before others ..
pub says_front : (ps qs rs : List Segment) → Says ps qs → Says (ps ++ rs) (qs ++ rs)
says_front ps qs rs says done at going h e =
    let (next, one, rest) = heard_first (hear_segments (clean done at going) ps) (λ next. hear_segments next rs) h
    (sym (heard_append (clean done at going) ps rs) ∙ e) in
    heard_append (clean done at going) qs rs ∙ ap (λ o. o >>= λ next. hear_segments next rs) (says done at going next one) ∙ rest

-- .. and after them
pub says_back : (rs ps qs : List Segment) → Says ps qs → Says (rs ++ ps) (rs ++ qs)
says_back [] ps qs says = says
says_back (r ∷ rs) ps qs says = says_cons r (rs ++ ps) (rs ++ qs) (says_back rs ps qs says)

pub says_both : (ps qs rs us : List Segment) → Says ps qs → Says rs us → Says (ps ++ rs) (qs ++ us)
says_both ps qs rs us first second = says_then (ps ++ rs) (qs ++ rs) (qs ++ us) (says_front ps qs rs first) (says_back qs rs us second)

heard_two : (h next last : HeardVoice ℕ) (a b : Segment) → hear_segment h a ≡ Some next → hear_segment next b ≡ Some last
    → hear_segments h (a ∷ b ∷ []) ≡ Some last
heard_two h next last a b one two =
    ap (λ o. o >>= λ next. hear_segments next (b ∷ [])) one ∙ ap (λ o. o >>= λ next. hear_segments next []) two

pub heard_only : (h next : HeardVoice ℕ) (p : Segment) → hear_segments h (p ∷ []) ≡ Some next → hear_segment h p ≡ Some next
heard_only h next p e = go (hear_segment h p) e
  where
    go : (o : Option (HeardVoice ℕ)) → (o >>= λ next. hear_segments next []) ≡ Some next → o ≡ Some next
    go None e = e
    go (Some x) e = e

-- ---- a segment in two

pub record IsSplit (p a b : Segment) : Type 0 where
  pub len : p.len ≡ a.len + b.len
  pub keys : a.keys ≡ p.keys
  pub more : b.keys ≡ p.keys
  pub graces : a.graces ≡ p.graces
  pub none : b.graces ≡ []
  pub short : a.short ≡ p.short
  pub plain : b.short ≡ false
  pub comes : a.comes ≡ p.comes
  pub goes : b.goes ≡ p.goes
  pub held : (p.keys == 0) ≡ false → (a.goes ≡ true) × (b.comes ≡ true)
  pub loose : (p.keys == 0) ≡ true → (a.goes ≡ false) × (b.comes ≡ false)

same_keys : (a b : ℕ) → a ≡ b → (a == b) ≡ true
same_keys a b e = eq-eqb a b e

pub split_says : (p a b : Segment) → IsSplit p a b → Says (p ∷ []) (a ∷ b ∷ [])
split_says p a b is done at None h e = go (rest_or_begin done at p h (heard_only (clean done at None) h p e))
  where
    long : at + a.len + b.len ≡ at + p.len
    long = let len = is.len in omega (arith, len)

    go : (IsRest p × (h ≡ clean done (at + p.len) None)) ⊎ (IsBegin p × (h ≡ sounded p.goes done (at + p.len) (begun at p)))
        → hear_segments (clean done at None) (a ∷ b ∷ []) ≡ Some h
    go (inl (rest, same)) =
        let (goes, comes) = is.loose rest.silent in
        let first : IsRest a = record {
          silent = ap (λ k. k == 0) is.keys ∙ rest.silent;
          graces = is.graces ∙ rest.graces;
          short = is.short ∙ rest.short;
          comes = is.comes ∙ rest.comes;
          goes = goes;
        } in
        let second : IsRest b = record {
          silent = ap (λ k. k == 0) is.more ∙ rest.silent;
          graces = is.none;
          short = is.plain;
          comes = comes;
          goes = is.goes ∙ rest.goes;
        } in
        heard_two (clean done at None) (clean done (at + a.len) None) h a b (rest_heard done at a first)
        (rest_heard done (at + a.len) b second ∙ ap (λ k. Some (clean done k None)) long ∙ ap (λ k. Some k) (sym same))
    go (inr (begin, same)) =
        let (goes, comes) = is.held begin.sounds in
        let first : IsBegin a = record { sounds = ap (λ k. k == 0) is.keys ∙ begin.sounds; comes = is.comes ∙ begin.comes } in
        let second : IsMore (begun at a) b = record {
          sounds = ap (λ k. k == 0) is.more ∙ begin.sounds;
          graces = is.none;
          short = is.plain;
          comes = comes;
          same = same_keys a.keys b.keys (is.keys ∙ sym is.more);
        } in
        let span : longer (begun at a) b.len ≡ begun at p =
        λ i. record { start = at; len = sym is.len i; keys = is.keys i; graces = is.graces i; short = is.short i } in
        heard_two (clean done at None) (clean done (at + a.len) (Some (begun at a))) h a b
        (begin_heard done at a first ∙ ap (λ g. Some (sounded g done (at + a.len) (begun at a))) goes)
        (more_heard done (at + a.len) (begun at a) b second ∙ (λ i. Some (sounded (is.goes i) done (long i) (span i)))
        ∙ ap (λ k. Some k) (sym same))
split_says p a b is done at (Some x) h e =
    let (more, same) = more_only done at x p h (heard_only (clean done at (Some x)) h p e) in
    let (goes, comes) = is.held more.sounds in
    let first : IsMore x a = record {
      sounds = ap (λ k. k == 0) is.keys ∙ more.sounds;
      graces = is.graces ∙ more.graces;
      short = is.short ∙ more.short;
      comes = is.comes ∙ more.comes;
      same = ap (λ k. x.keys == k) is.keys ∙ more.same;
    } in
    let second : IsMore (longer x a.len) b = record {
      sounds = ap (λ k. k == 0) is.more ∙ more.sounds;
      graces = is.none;
      short = is.plain;
      comes = comes;
      same = ap (λ k. x.keys == k) is.more ∙ more.same;
    } in
    let long : at + a.len + b.len ≡ at + p.len = let len = is.len in omega (arith, len) in
    let all : x.len + a.len + b.len ≡ x.len + p.len = let len = is.len in omega (arith, len) in
    heard_two (clean done at (Some x)) (clean done (at + a.len) (Some (longer x a.len))) h a b
    (more_heard done at x a first ∙ ap (λ g. Some (sounded g done (at + a.len) (longer x a.len))) goes)
    (more_heard done (at + a.len) (longer x a.len) b second ∙ (λ i. Some (sounded (is.goes i) done (long i) (record x { len = all i })))
    ∙ ap (λ k. Some k) (sym same))

-- ---- two segments in one

abbrev pub joint : Segment → Segment → Bool → Segment
joint a b goes = record a { len = a.len + b.len; goes = goes }

-- a tie goes on from the first, or both are silent
abbrev pub AreLinked : Segment → Segment → Type 0
AreLinked a b = (a.goes ≡ true) ⊎ (((a.keys == 0) ≡ true) × ((b.keys == 0) ≡ true))

-- one that goes on as the second does, where both are rests or both sound
pub join_says : (a b : Segment) (g : Bool) → ((a.keys == 0) ≡ (b.keys == 0) → g ≡ b.goes) → AreLinked a b
    → Says (a ∷ b ∷ []) (joint a b g ∷ [])
join_says a b g alike linked done at going h e =
    let (next, one, rest) = heard_first (hear_segment (clean done at going) a) (λ next. hear_segments next (b ∷ [])) h e in
    ap (λ o. o >>= λ next. hear_segments next []) (go going next one (heard_only next h b rest) linked)
  where
    place : at + (a.len + b.len) ≡ at + a.len + b.len
    place = omega arith

    -- both are rests
    rests : IsRest a → hear_segment (clean done (at + a.len) None) b ≡ Some h → (b.keys == 0) ≡ true
        → hear_segment (clean done at None) (joint a b g) ≡ Some h
    rests first two silent = case (rest_or_begin done (at + a.len) b h two)
      where
        case : (IsRest b × (h ≡ clean done (at + a.len + b.len) None))
            ⊎ (IsBegin b × (h ≡ sounded b.goes done (at + a.len + b.len) (begun (at + a.len) b)))
            → hear_segment (clean done at None) (joint a b g) ≡ Some h
        case (inl (second, same)) =
            let is : IsRest (joint a b g) = record {
              silent = first.silent;
              graces = first.graces;
              short = first.short;
              comes = first.comes;
              goes = alike (first.silent ∙ sym silent) ∙ second.goes;
            } in
            rest_heard done at (joint a b g) is ∙ ap (λ k. Some (clean done k None)) place ∙ ap (λ k. Some k) (sym same)
        case (inr (second, same)) = absurd (not_both_tests (b.keys == 0) silent second.sounds)

    -- the first begins a chord
    begins : IsBegin a → hear_segment (clean done (at + a.len) (Some (begun at a))) b ≡ Some h
        → hear_segment (clean done at None) (joint a b g) ≡ Some h
    begins first two =
        let (second, same) = more_only done (at + a.len) (begun at a) b h two in
        let is : IsBegin (joint a b g) = record { sounds = first.sounds; comes = first.comes } in
        let next = alike (first.sounds ∙ sym second.sounds) in
        begin_heard done at (joint a b g) is ∙ (λ i. Some (sounded (next i) done (place i) (begun at (joint a b g))))
        ∙ ap (λ k. Some k) (sym same)

    -- or goes on with one
    goes_on : (x : HeardSpan ℕ) → IsMore x a → hear_segment (clean done (at + a.len) (Some (longer x a.len))) b ≡ Some h
        → hear_segment (clean done at (Some x)) (joint a b g) ≡ Some h
    goes_on x first two =
        let (second, same) = more_only done (at + a.len) (longer x a.len) b h two in
        let is : IsMore x (joint a b g) = record {
          sounds = first.sounds;
          graces = first.graces;
          short = first.short;
          comes = first.comes;
          same = first.same;
        } in
        let all : x.len + (a.len + b.len) ≡ x.len + a.len + b.len = omega arith in
        let next = alike (first.sounds ∙ sym second.sounds) in
        more_heard done at x (joint a b g) is ∙ (λ i. Some (sounded (next i) done (place i) (record x { len = all i })))
        ∙ ap (λ k. Some k) (sym same)

    held : (next : HeardVoice ℕ) (x : HeardSpan ℕ) → next ≡ sounded a.goes done (at + a.len) x → a.goes ≡ true
        → hear_segment next b ≡ Some h → hear_segment (clean done (at + a.len) (Some x)) b ≡ Some h
    held next x same goes two =
        subst (λ n. hear_segment n b ≡ Some h) (same ∙ ap (λ g. sounded g done (at + a.len) x) goes) two

    go : (going : Option (HeardSpan ℕ)) (next : HeardVoice ℕ) → hear_segment (clean done at going) a ≡ Some next
        → hear_segment next b ≡ Some h → AreLinked a b → hear_segment (clean done at going) (joint a b g) ≡ Some h
    go None next one two linked = case (rest_or_begin done at a next one) linked
      where
        case : (IsRest a × (next ≡ clean done (at + a.len) None)) ⊎ (IsBegin a × (next ≡ sounded a.goes done (at + a.len) (begun at a)))
            → AreLinked a b → hear_segment (clean done at None) (joint a b g) ≡ Some h
        case (inl (first, same)) (inl goes) = absurd (not_both_tests a.goes goes first.goes)
        case (inl (first, same)) (inr (_, silent)) = rests first (subst (λ n. hear_segment n b ≡ Some h) same two) silent
        case (inr (first, same)) (inl goes) = begins first (held next (begun at a) same goes two)
        case (inr (first, same)) (inr (silent, _)) = absurd (not_both_tests (a.keys == 0) silent first.sounds)
    go (Some x) next one two (inl goes) =
        let (first, same) = more_only done at x a next one in
        goes_on x first (held next (longer x a.len) same goes two)
    go (Some x) next one two (inr (silent, _)) =
        let (first, same) = more_only done at x a next one in
        absurd (not_both_tests (a.keys == 0) silent first.sounds)
