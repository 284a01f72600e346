-- What of a voice is in a bar, stretch by stretch.
use Rattle.std.proofs.Common.{◌≡◌, ℕ, ◌≤◌, ◌<◌, Bool, true, false, List, [], ◌∷◌, ◌++◌, append_assoc, refl, sym, ap, ◌∙◌, subst, arith}
use Rattle.std.specs.Prelude.{cond}
use Rattle.std.proofs.lemmas.List.{append-nil}
use Rattle.std.proofs.lemmas.List.Elements.{All-tail}
use Rattle.rhythm_base.specs.declared.span.Span.{Span}
use Rattle.voice_events.specs.Parts.{end_parts, start_parts}
use Rattle.voice_events.specs.VoiceEvents.{FollowFrom, IsVoiceSpan}
use Rattle.lily_writer.specs.Pieces.{Stretch, cut, bar_gap, has_length, bar_pieces, sounding, stretches}
use Rattle.lily_writer.specs.Writing.{Ahead, HasPassed, HasWrittenBar, IsAhead, WritesPieces, stretches_ahead}
use Rattle.lily_writer.proofs.WrittenPieces.{pieces_none, writes_more, writes_none}

-- those of the first stretch, and of the others
pub pieces_cons : (from to : ℕ) (s : Stretch) (ss : List Stretch) → bar_pieces from to (s ∷ ss) ≡ bar_pieces from to (s ∷ []) ++ bar_pieces
    from to ss
pieces_cons from to s ss = go (has_length (cut from to s))
  where
    go : (b : Bool) → cond b (cut from to s ∷ bar_pieces from to ss) (bar_pieces from to ss) ≡ cond b (cut from to s ∷ []) [] ++ bar_pieces
        from to ss
    go true = refl
    go false = refl

-- a span, the gap before it, and the others
pub pieces_next : (resolution from to at end : ℕ) (x : Span) (spans : List Span)
    → bar_pieces from to (stretches resolution at end (x ∷ spans))
    ≡ bar_pieces from to (bar_gap at (start_parts resolution x) ∷ []) ++ bar_pieces from to (sounding resolution x ∷ [])
    ++ bar_pieces from to (stretches resolution (end_parts resolution x) end spans)
pieces_next resolution from to at end x spans =
    let s = bar_gap at (start_parts resolution x) in
    let t = sounding resolution x in
    let others = stretches resolution (end_parts resolution x) end spans in
    pieces_cons from to s (t ∷ others) ∙ ap (λ ps. bar_pieces from to (s ∷ []) ++ ps) (pieces_cons from to t others)
    ∙ sym (append_assoc (bar_pieces from to (s ∷ [])) (bar_pieces from to (t ∷ [])) (bar_pieces from to others))

-- nothing is in a bar of what ends before it
pub pieces_passed : (resolution from to at end : ℕ) (x : Span) (spans : List Span) → end_parts resolution x ≤ from
    → bar_pieces from to (stretches resolution at end (x ∷ spans)) ≡ bar_pieces from to
    (stretches resolution (end_parts resolution x) end spans)
pieces_passed resolution from to at end x spans before =
    let none : bar_pieces from to (bar_gap at (start_parts resolution x) ∷ []) ≡ [] =
    pieces_none from to (bar_gap at (start_parts resolution x)) (omega (arith, before)) in
    let nothing : bar_pieces from to (sounding resolution x ∷ []) ≡ [] =
    pieces_none from to (sounding resolution x) (omega (arith, before)) in
    pieces_next resolution from to at end x spans
    ∙ (λ i. none i ++ nothing i ++ bar_pieces from to (stretches resolution (end_parts resolution x) end spans))

-- nor of what begins after it
pub pieces_later : (resolution from to at end : ℕ) (spans : List Span) → FollowFrom resolution end at spans → to ≤ at
    → bar_pieces from to (stretches resolution at end spans) ≡ []
pieces_later resolution from to at end [] follow after = pieces_none from to (bar_gap at end) (omega (arith, after))
pieces_later resolution from to at end (x ∷ spans) (first, follow) after =
    let none : bar_pieces from to (bar_gap at (start_parts resolution x) ∷ []) ≡ [] =
    pieces_none from to (bar_gap at (start_parts resolution x)) (omega (arith, after)) in
    let nothing : bar_pieces from to (sounding resolution x ∷ []) ≡ [] =
    pieces_none from to (sounding resolution x) (omega (arith, after, first)) in
    let rest = pieces_later resolution from to (end_parts resolution x) end spans follow (omega (arith, after, first)) in
    pieces_next resolution from to at end x spans ∙ (λ i. none i ++ nothing i ++ rest i)

-- ---- what is ahead

pub passed_none : (resolution from to : ℕ) (flats : Bool) (a : Ahead) (text : List ℕ) → IsAhead resolution a
    → HasPassed resolution from to flats a a text text
passed_none resolution from to flats a text is = record {
  pieces = [];
  written = writes_none resolution flats text;
  others = refl;
  later = λ f t after. refl;
  ahead = is;
}

ahead_next : (resolution at end : ℕ) (x : Span) (spans : List Span) → IsAhead resolution (record { spans = x ∷ spans; at = at; end = end })
    → IsAhead resolution (record { spans = spans; at = end_parts resolution x; end = end })
ahead_next resolution at end x spans is = record {
  some_unit = is.some_unit;
  few_units = is.few_units;
  each = All-tail (IsVoiceSpan resolution) x spans is.each;
  follow = is.follow.1;
  small = is.small;
}

pub passed_more : (resolution from to : ℕ) (flats : Bool) (before : Ahead) (at end : ℕ) (x : Span) (spans : List Span)
    (text first second new : List ℕ)
    → HasPassed resolution from to flats before (record { spans = x ∷ spans; at = at; end = end }) text first → end_parts resolution x ≤ to
    → WritesPieces resolution flats (bar_pieces from to (bar_gap at (start_parts resolution x) ∷ [])) first second
    → WritesPieces resolution flats (bar_pieces from to (sounding resolution x ∷ [])) second new
    → HasPassed resolution from to flats before (record { spans = spans; at = end_parts resolution x; end = end }) text new
passed_more resolution from to flats before at end x spans text first second new h ends one two =
    let ps = bar_pieces from to (bar_gap at (start_parts resolution x) ∷ []) in
    let qs = bar_pieces from to (sounding resolution x ∷ []) in
    let others = bar_pieces from to (stretches resolution (end_parts resolution x) end spans) in
    record {
      pieces = h.pieces ++ (ps ++ qs);
      written = writes_more resolution flats h.pieces (ps ++ qs) text first new h.written
          (writes_more resolution flats ps qs first second new one two);
      others = append_assoc h.pieces (ps ++ qs) others ∙ ap (λ rs. h.pieces ++ rs) (sym (pieces_next resolution from to at end x spans))
          ∙ h.others;
      later = λ f t after. sym (pieces_passed resolution f t at end x spans (omega (arith, ends, after))) ∙ h.later f t after;
      ahead = ahead_next resolution at end x spans h.ahead;
    }

-- the front of a bar in which nothing ends
pub front_written : (resolution from to : ℕ) (flats : Bool) (at end : ℕ) (x : Span) (spans : List Span) (text middle new : List ℕ)
    → IsAhead resolution (record { spans = x ∷ spans; at = at; end = end }) → to < end_parts resolution x
    → WritesPieces resolution flats (bar_pieces from to (bar_gap at (start_parts resolution x) ∷ [])) text middle
    → WritesPieces resolution flats (bar_pieces from to (sounding resolution x ∷ [])) middle new
    → WritesPieces resolution flats (bar_pieces from to (stretches resolution at end (x ∷ spans))) text new
front_written resolution from to flats at end x spans text middle new is after one two =
    let ps = bar_pieces from to (bar_gap at (start_parts resolution x) ∷ []) in
    let qs = bar_pieces from to (sounding resolution x ∷ []) in
    let none = pieces_later resolution from to (end_parts resolution x) end spans is.follow.1 (omega (arith, after)) in
    let all : ps ++ qs ≡ bar_pieces from to (stretches resolution at end (x ∷ spans)) =
    sym (append-nil (ps ++ qs)) ∙ ap (λ rs. ps ++ qs ++ rs) (sym none) ∙ sym (pieces_next resolution from to at end x spans) in
    subst (λ rs. WritesPieces resolution flats rs text new) all (writes_more resolution flats ps qs text middle new one two)

pub bar_written : (resolution from to : ℕ) (flats : Bool) (before after : Ahead) (text middle new : List ℕ)
    → HasPassed resolution from to flats before after text middle
    → WritesPieces resolution flats (bar_pieces from to (stretches_ahead resolution after)) middle new
    → HasWrittenBar resolution from to flats before after text new
bar_written resolution from to flats before after text middle new h rest = record {
  written = subst (λ rs. WritesPieces resolution flats rs text new) h.others (writes_more resolution flats h.pieces
      (bar_pieces from to (stretches_ahead resolution after)) text middle new h.written rest);
  later = h.later;
  ahead = h.ahead;
}
