-- Pieces that are written after a text.
use Rattle.std.proofs.Common.{◌≡◌, ℕ, ◌-◌, ◌*◌, ◌==◌, ◌&&◌, ◌≤◌, ◌<◌, Bool, true, false, List, [], ◌∷◌, ◌++◌, append_assoc, refl, sym, ap, ◌∙◌, subst, arith}
use Rattle.std.specs.Prelude.{codes, cond, map, max, min, nat_lt}
use Rattle.std.specs.List.{flat_map}
use Rattle.std.proofs.lemmas.Bool.Decides.{nat_tests}
use Rattle.std.proofs.lemmas.List.{append-nil}
use Rattle.std.proofs.lemmas.List.Concat.{flat_map-append}
use Rattle.rhythm_base.specs.declared.span.Span.{Span}
use Rattle.durations.specs.declared.value.Value.{Value}
use Rattle.durations.specs.Values.{AreValues}
use Rattle.voice_events.specs.Parts.{end_parts, start_parts}
use Rattle.lily_writer.specs.Elements.{Element, element_text, elements_text, rest_value}
use Rattle.lily_writer.specs.Pieces.{AreElements, Piece, Stretch, cut, first_graces, bar_gap, notes, bar_pieces, sounding}
use Rattle.lily_writer.specs.Writing.{WritesPieces}
use Rattle.rhythm_base.proofs.PairedLists.{each_append}

pub elements_append : (flats : Bool) (es fs : List Element) → elements_text flats (es ++ fs) ≡ elements_text flats es ++ elements_text
    flats fs
elements_append flats es fs = flat_map-append (λ e. element_text flats e ++ codes " ") es fs

pub writes_none : (resolution : ℕ) (flats : Bool) (text : List ℕ) → WritesPieces resolution flats [] text text
writes_none resolution flats text = ([], refl, sym (append-nil text))

pub writes_one : (resolution : ℕ) (flats : Bool) (p : Piece) (es : List Element) (text new : List ℕ) → AreElements resolution p es
    → new ≡ text ++ elements_text flats es → WritesPieces resolution flats (p ∷ []) text new
writes_one resolution flats p es text new are is =
    (es ∷ [], (are, refl), is ∙ ap (λ fs. text ++ elements_text flats fs) (sym (append-nil es)))

pub writes_more : (resolution : ℕ) (flats : Bool) (ps qs : List Piece) (text middle new : List ℕ) → WritesPieces resolution flats ps text middle
    → WritesPieces resolution flats qs middle new → WritesPieces resolution flats (ps ++ qs) text new
writes_more resolution flats ps qs text middle new (own, each, is) (others, too, same) =
    let all = flat_map-append (λ (es : List Element). es) own others in (
      own ++ others,
      each_append (AreElements resolution) ps qs own others each too,
      same ∙ ap (λ t. t ++ elements_text flats (flat_map (λ es. es) others)) is
          ∙ append_assoc text (elements_text flats (flat_map (λ es. es) own)) (elements_text flats (flat_map (λ es. es) others))
          ∙ ap (λ t. text ++ t) (sym (elements_append flats (flat_map (λ es. es) own) (flat_map (λ es. es) others)))
          ∙ ap (λ es. text ++ elements_text flats es) (sym all),
    )

-- ---- one stretch

pub pieces_none : (from to : ℕ) (s : Stretch) → min to s.to ≤ max from s.from → bar_pieces from to (s ∷ []) ≡ []
pieces_none from to s none =
    let test : nat_lt (max from s.from) (min to s.to) ≡ false = grind (arith, nat_tests) in
    ap (λ b. cond b (cut from to s ∷ []) []) test

pub pieces_one : (from to : ℕ) (s : Stretch) → max from s.from < min to s.to → bar_pieces from to (s ∷ []) ≡ cut from to s ∷ []
pieces_one from to s some =
    let test : nat_lt (max from s.from) (min to s.to) ≡ true = grind (arith, nat_tests) in
    ap (λ b. cond b (cut from to s ∷ []) []) test

pub none_written : (resolution : ℕ) (flats : Bool) (from to first last : ℕ) (s : Stretch) (text : List ℕ) → first ≡ max from s.from
    → last ≡ min to s.to
    → last ≤ first → WritesPieces resolution flats (bar_pieces from to (s ∷ [])) text text
none_written resolution flats from to first last s text begin end none =
    subst (λ ps. WritesPieces resolution flats ps text text) (sym (pieces_none from to s (omega (arith, begin, end, none))))
    (writes_none resolution flats text)

-- the elements of the piece that a stretch has in a bar
one_written : (resolution : ℕ) (flats : Bool) (from to : ℕ) (s : Stretch) (es : List Element) (text new : List ℕ)
    → max from s.from < min to s.to
    → AreElements resolution (cut from to s) es → new ≡ text ++ elements_text flats es
    → WritesPieces resolution flats (bar_pieces from to (s ∷ [])) text new
one_written resolution flats from to s es text new some are is =
    subst (λ ps. WritesPieces resolution flats ps text new) (sym (pieces_one from to s some))
    (writes_one resolution flats (cut from to s) es text new are is)

pub gap_written : (resolution : ℕ) (flats : Bool) (from to start end first last : ℕ) (values : List Value) (text new : List ℕ)
    → first ≡ max from start → last ≡ min to end → first < last → AreValues (last - first) (64 * resolution) values
    → new ≡ text ++ elements_text flats (map rest_value values) → WritesPieces resolution flats (bar_pieces from to (bar_gap start end ∷ [])) text new
gap_written resolution flats from to start end first last values text new begin finish some are is =
    let length : last - first ≡ min to end - max from start = omega (arith, begin, finish) in
    one_written resolution flats from to (bar_gap start end) (map rest_value values) text new (omega (arith, begin, finish, some))
    (values, subst (λ n. AreValues n (64 * resolution) values) length are, refl) is

pub span_written : (resolution : ℕ) (flats : Bool) (from to first last : ℕ) (x : Span) (begins goes : Bool) (values : List Value)
    (text middle new : List ℕ)
    → first ≡ max from (start_parts resolution x) → last ≡ min to (end_parts resolution x) → first < last
    → begins ≡ (first == start_parts resolution x) → goes ≡ nat_lt last (end_parts resolution x)
    → AreValues (last - first) (64 * resolution) values
    → middle ≡ text ++ elements_text flats (first_graces begins x) → new ≡ middle ++ elements_text flats
    (notes x.keys (begins && x.short) goes values)
    → WritesPieces resolution flats (bar_pieces from to (sounding resolution x ∷ [])) text new
span_written resolution flats from to first last x begins goes values text middle new begin finish some is_begin is_going are one two =
    let start = start_parts resolution x in
    let end = end_parts resolution x in
    let length : last - first ≡ min to end - max from start = omega (arith, begin, finish) in
    let begins_is : begins ≡ (max from start == start) = is_begin ∙ ap (λ n. n == start) begin in
    let going_is : goes ≡ nat_lt (min to end) end = is_going ∙ ap (λ n. nat_lt n end) finish in
    let all : new ≡ text ++ elements_text flats (first_graces begins x ++ notes x.keys (begins && x.short) goes values) =
    two ∙ ap (λ t. t ++ elements_text flats (notes x.keys (begins && x.short) goes values)) one
    ∙ append_assoc text (elements_text flats (first_graces begins x)) (elements_text flats (notes x.keys (begins && x.short) goes values))
    ∙ ap (λ t. text ++ t) (sym (elements_append flats (first_graces begins x) (notes x.keys (begins && x.short) goes values))) in
    one_written resolution flats from to (sounding resolution x) (first_graces begins x ++ notes x.keys (begins && x.short) goes values)
    text new
    (omega (arith, begin, finish, some)) (
      values,
      subst (λ n. AreValues n (64 * resolution) values) length are,
      (λ i. first_graces (begins_is i) x ++ notes x.keys (begins_is i && x.short) (going_is i) values),
    ) all
