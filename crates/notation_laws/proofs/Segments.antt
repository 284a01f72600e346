-- Segments of a voice, each with its length, its keys, its grace chords, its mark and its ties, and what is heard of them.
use Rattle.std.proofs.Common.{◌≡◌, ℕ, ◌+◌, ◌==◌, Bool, true, false, ◌&&◌, ◌||◌, not, List, [], ◌∷◌, ◌++◌, Option, Some, None, refl, sym, ap, ◌∙◌, append_assoc, append-nil, ◌⊎◌, inl, inr}
use Rattle.std.specs.Prelude.{if◌then◌else◌}
use Rattle.text_words.specs.Steps.{◌>>=◌}
use Rattle.notation.specs.Notes.{is_empty}
use Rattle.notation_laws.specs.Hearing.{HeardSpan, HeardVoice, Stretch, hear, hear_graces}

pub record Segment : Type 0 where
  pub len : ℕ
  pub keys : ℕ
  pub graces : List ℕ
  pub short : Bool
  pub comes : Bool
  pub goes : Bool

abbrev pub segment_stretch : Segment → Stretch ℕ
segment_stretch p = record { len = p.len; keys = p.keys; short = p.short; comes = p.comes; goes = p.goes }

abbrev pub hear_segment : HeardVoice ℕ → Segment → Option (HeardVoice ℕ)
hear_segment h p = hear_graces h p.graces >>= λ graced. hear ◌+◌ graced (segment_stretch p)

abbrev pub hear_segments : HeardVoice ℕ → List Segment → Option (HeardVoice ℕ)
hear_segments h [] = Some h
hear_segments h (p ∷ ps) = hear_segment h p >>= λ next. hear_segments next ps

-- ---- between two segments no grace chord waits

abbrev pub clean : List (HeardSpan ℕ) → ℕ → Option (HeardSpan ℕ) → HeardVoice ℕ
clean done at going = record { spans = done; at = at; going = going; graces = [] }

-- after a span that goes on or not
abbrev pub sounded : Bool → List (HeardSpan ℕ) → ℕ → HeardSpan ℕ → HeardVoice ℕ
sounded goes done at x = if goes then clean done at (Some x) else clean (done ++ x ∷ []) at None

abbrev pub begun : ℕ → Segment → HeardSpan ℕ
begun at p = record { start = at; len = p.len; keys = p.keys; graces = p.graces; short = p.short }

abbrev pub longer : HeardSpan ℕ → ℕ → HeardSpan ℕ
longer x len = record x { len = x.len + len }

-- a rest, a chord that begins, and one that goes on with a span
pub record IsRest (p : Segment) : Type 0 where
  pub silent : (p.keys == 0) ≡ true
  pub graces : p.graces ≡ []
  pub short : p.short ≡ false
  pub comes : p.comes ≡ false
  pub goes : p.goes ≡ false

pub record IsBegin (p : Segment) : Type 0 where
  pub sounds : (p.keys == 0) ≡ false
  pub comes : p.comes ≡ false

pub record IsMore (x : HeardSpan ℕ) (p : Segment) : Type 0 where
  pub sounds : (p.keys == 0) ≡ false
  pub graces : p.graces ≡ []
  pub short : p.short ≡ false
  pub comes : p.comes ≡ true
  pub same : (x.keys == p.keys) ≡ true

some_one : {X : Type 0} (x y : X) → Some x ≡ Some y → x ≡ y
some_one x y e = cc

pub no_some : {X : Type 0} (x : X) → None ≡ Some x → ⊥
no_some x e = cc

-- ---- grace chords

graces_wait : (done : List (HeardSpan ℕ)) (at : ℕ) (graces more : List ℕ)
    → hear_graces (record { spans = done; at = at; going = None; graces = graces }) more
    ≡ Some (record { spans = done; at = at; going = None; graces = graces ++ more })
graces_wait done at graces [] = ap (λ gs. Some (record { spans = done; at = at; going = None; graces = gs })) (sym (append-nil graces))
graces_wait done at graces (keys ∷ more) =
    graces_wait done at (graces ++ keys ∷ []) more
    ∙ ap (λ gs. Some (record { spans = done; at = at; going = None; graces = gs })) (append_assoc graces (keys ∷ []) more)

abbrev graced : List (HeardSpan ℕ) → ℕ → List ℕ → HeardVoice ℕ
graced done at graces = record { spans = done; at = at; going = None; graces = graces }

resting_is : (done : List (HeardSpan ℕ)) (at : ℕ) (p : Segment)
    → hear_segment (clean done at None) p ≡ hear ◌+◌ (graced done at p.graces) (segment_stretch p)
resting_is done at p = ap (λ o. o >>= λ graced. hear ◌+◌ graced (segment_stretch p)) (graces_wait done at [] p.graces)

-- ---- which segments are heard, and what is known then

pub rest_or_begin : (done : List (HeardSpan ℕ)) (at : ℕ) (p : Segment) (h : HeardVoice ℕ) → hear_segment (clean done at None) p ≡ Some h
    → (IsRest p × (h ≡ clean done (at + p.len) None)) ⊎ (IsBegin p × (h ≡ sounded p.goes done (at + p.len) (begun at p)))
rest_or_begin done at p h heard = go (p.keys == 0) refl (sym (resting_is done at p) ∙ heard)
  where
    rest : (graces : List ℕ) (short comes goes : Bool)
        → (if is_empty graces && not (short || (comes || goes)) then Some (graced done (at + p.len) graces) else None) ≡ Some h
        → (graces ≡ []) × (short ≡ false) × (comes ≡ false) × (goes ≡ false) × (h ≡ clean done (at + p.len) None)
    rest [] false false false e = (refl, refl, refl, refl, sym (some_one _ _ e))
    rest [] false false true e = absurd (no_some h e)
    rest [] false true goes e = absurd (no_some h e)
    rest [] true comes goes e = absurd (no_some h e)
    rest (g ∷ graces) short comes goes e = absurd (no_some h e)

    begin : (comes : Bool)
        → ((if comes then None else Some (begun at p)) >>= λ x. Some (sounded p.goes done (at + p.len) x)) ≡ Some h
        → (comes ≡ false) × (h ≡ sounded p.goes done (at + p.len) (begun at p))
    begin false e = (refl, sym (some_one _ _ e))
    begin true e = absurd (no_some h e)

    go : (b : Bool) → (p.keys == 0) ≡ b
        → (if b
        then (if is_empty p.graces && not (p.short || (p.comes || p.goes)) then Some
        (record (graced done at p.graces) { at = at + p.len }) else None)
        else ((if p.comes then None else Some (begun at p)) >>= λ x. Some (sounded p.goes done (at + p.len) x))) ≡ Some h
        → (IsRest p × (h ≡ clean done (at + p.len) None)) ⊎ (IsBegin p × (h ≡ sounded p.goes done (at + p.len) (begun at p)))
    go true k e =
        let (graces, short, comes, goes, is) = rest p.graces p.short p.comes p.goes e in
        inl (record { silent = k; graces = graces; short = short; comes = comes; goes = goes }, is)
    go false k e = let (comes, is) = begin p.comes e in inr (record { sounds = k; comes = comes }, is)

pub more_only : (done : List (HeardSpan ℕ)) (at : ℕ) (x : HeardSpan ℕ) (p : Segment) (h : HeardVoice ℕ)
    → hear_segment (clean done at (Some x)) p ≡ Some h → IsMore x p × (h ≡ sounded p.goes done (at + p.len) (longer x p.len))
more_only done at x p h heard = bare p.graces refl heard
  where
    chord : (comes same short : Bool)
        → ((if comes && (same && not short) then Some (longer x p.len) else None) >>= λ x. Some (sounded p.goes done (at + p.len) x))
        ≡ Some h
        → (comes ≡ true) × (same ≡ true) × (short ≡ false) × (h ≡ sounded p.goes done (at + p.len) (longer x p.len))
    chord true true false e = (refl, refl, refl, sym (some_one _ _ e))
    chord true true true e = absurd (no_some h e)
    chord true false short e = absurd (no_some h e)
    chord false same short e = absurd (no_some h e)

    go : (b : Bool) → (p.keys == 0) ≡ b → p.graces ≡ []
        → (if b
        then None
        else ((if p.comes && ((x.keys == p.keys) && not p.short) then Some (longer x p.len) else None) >>= λ x. Some
        (sounded p.goes done (at + p.len) x))) ≡ Some h
        → IsMore x p × (h ≡ sounded p.goes done (at + p.len) (longer x p.len))
    go true k none e = absurd (no_some h e)
    go false k none e =
        let (comes, same, short, is) = chord p.comes (x.keys == p.keys) p.short e in
        (record { sounds = k; graces = none; short = short; comes = comes; same = same }, is)

    bare : (graces : List ℕ) → p.graces ≡ graces
        → (hear_graces (clean done at (Some x)) graces >>= λ graced. hear ◌+◌ graced (segment_stretch p)) ≡ Some h
        → IsMore x p × (h ≡ sounded p.goes done (at + p.len) (longer x p.len))
    bare [] none e = go (p.keys == 0) refl none e
    bare (g ∷ graces) none e = absurd (no_some h e)

-- ---- and so they are heard

pub rest_heard : (done : List (HeardSpan ℕ)) (at : ℕ) (p : Segment) → IsRest p → hear_segment (clean done at None) p
    ≡ Some (clean done (at + p.len) None)
rest_heard done at p is = resting_is done at p
    ∙ go (p.keys == 0) is.silent p.graces is.graces p.short is.short p.comes is.comes p.goes is.goes
  where
    go : (b : Bool) → b ≡ true → (graces : List ℕ) → graces ≡ [] → (short : Bool) → short ≡ false → (comes : Bool) → comes ≡ false
        → (goes : Bool) → goes ≡ false
        → (if b
        then (if is_empty graces && not (short || (comes || goes)) then Some (graced done (at + p.len) graces) else None)
        else ((if comes then None else Some (record { start = at; len = p.len; keys = p.keys; graces = graces; short = short }))
        >>= λ x. Some (sounded goes done (at + p.len) x)))
        ≡ Some (clean done (at + p.len) None)
    go false e _ _ _ _ _ _ _ _ = absurd (cc)
    go true _ (g ∷ graces) e _ _ _ _ _ _ = absurd (cc)
    go true _ [] _ true e _ _ _ _ = absurd (cc)
    go true _ [] _ false _ true e _ _ = absurd (cc)
    go true _ [] _ false _ false _ true e = absurd (cc)
    go true _ [] _ false _ false _ false _ = refl

pub begin_heard : (done : List (HeardSpan ℕ)) (at : ℕ) (p : Segment) → IsBegin p
    → hear_segment (clean done at None) p ≡ Some (sounded p.goes done (at + p.len) (begun at p))
begin_heard done at p is = resting_is done at p ∙ go (p.keys == 0) is.sounds p.comes is.comes
  where
    go : (b : Bool) → b ≡ false → (comes : Bool) → comes ≡ false
        → (if b
        then (if is_empty p.graces && not (p.short || (comes || p.goes)) then Some (graced done (at + p.len) p.graces) else None)
        else ((if comes then None else Some (begun at p)) >>= λ x. Some (sounded p.goes done (at + p.len) x)))
        ≡ Some (sounded p.goes done (at + p.len) (begun at p))
    go true e _ _ = absurd (cc)
    go false _ true e = absurd (cc)
    go false _ false _ = refl

pub more_heard : (done : List (HeardSpan ℕ)) (at : ℕ) (x : HeardSpan ℕ) (p : Segment) → IsMore x p
    → hear_segment (clean done at (Some x)) p ≡ Some (sounded p.goes done (at + p.len) (longer x p.len))
more_heard done at x p is = bare p.graces is.graces
  where
    go : (b : Bool) → b ≡ false → (comes : Bool) → comes ≡ true → (same : Bool) → same ≡ true → (short : Bool) → short ≡ false
        → (if b
        then None
        else ((if comes && (same && not short) then Some (longer x p.len) else None) >>= λ x. Some (sounded p.goes done (at + p.len) x)))
        ≡ Some (sounded p.goes done (at + p.len) (longer x p.len))
    go true e _ _ _ _ _ _ = absurd (cc)
    go false _ false e _ _ _ _ = absurd (cc)
    go false _ true _ false e _ _ = absurd (cc)
    go false _ true _ true _ true e = absurd (cc)
    go false _ true _ true _ false _ = refl

    bare : (graces : List ℕ) → graces ≡ []
        → (hear_graces (clean done at (Some x)) graces >>= λ graced. hear ◌+◌ graced (segment_stretch p))
        ≡ Some (sounded p.goes done (at + p.len) (longer x p.len))
    bare [] _ = go (p.keys == 0) is.sounds p.comes is.comes (x.keys == p.keys) is.same p.short is.short
    bare (g ∷ graces) e = absurd (cc)
