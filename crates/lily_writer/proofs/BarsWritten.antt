-- The lines of the bars of a staff, one bar after another.
use Rattle.std.proofs.Common.{◌≡◌, ℕ, ◌+◌, ◌^◌, ◌≤◌, ◌<◌, Bool, List, [], ◌∷◌, ◌++◌, Option, Some, None, add-one, append_assoc, drop, drop-cons, get_or, length, refl, sym, ap, ◌∙◌, subst, arith}
use Rattle.std.specs.Prelude.{All, IfSome, codes}
use Rattle.std.specs.List.{flat_map}
use Rattle.std.proofs.lemmas.List.{append-nil, drop_all}
use Rattle.std.proofs.lemmas.List.Elements.{All-get_or}
use Rattle.std.proofs.lemmas.List.Sums.{sum_by-drop_more}
use Rattle.rhythm_base.specs.declared.limits.TheConstants.{MOST_UNITS}
use Rattle.rhythm_base.specs.declared.span.Span.{Span}
use Rattle.rhythm_base.specs.Lists.{Each}
use Rattle.derivation.specs.declared.score.ScoreBar.{ScoreBar}
use Rattle.derivation.specs.Score.{IsScoreBar}
use Rattle.score_words.specs.Changes.{has_flats}
use Rattle.voice_events.specs.Parts.{score_bar_parts, score_parts}
use Rattle.voice_events.specs.VoiceEvents.{AreOfVoice}
use Rattle.voice_events.proofs.SpanEnds.{score_few}
use Rattle.score_words.specs.LilyChanges.{lily_changes}
use Rattle.lily_writer.specs.Elements.{Element, elements_text}
use Rattle.lily_writer.specs.Pieces.{AreElements, Stretch, bar_pieces, stretches}
use Rattle.lily_writer.specs.Staves.{AreBarElements, AreBarsOfStaff, AreStaffLines, staff_bar}
use Rattle.score_words.specs.TextLines.{lines_text}
use Rattle.score_words.proofs.TextLines.{lines_append}
use Rattle.lily_writer.specs.Writing.{Ahead, HasWrittenBar, IsAhead, stretches_ahead}

-- The lines of the bars before number n are written after a text. The bar before is this one, the next bar begins at a place, and
-- what is in the bars from there on is ahead
pub record HasWrittenBars (resolution : ℕ) (first : Bool) (ss : List Stretch) (bars : List ScoreBar) (n : ℕ) (before : Option ScoreBar)
    (from : ℕ) (a : Ahead) (text new : List ℕ) : Type 0 where
  pub lines : List (List ℕ)
  pub written : new ≡ text ++ lines_text lines
  pub others : (more : List (List ℕ)) → AreBarsOfStaff resolution first ss before from (drop n bars) more
      → AreBarsOfStaff resolution first ss None 0 bars (lines ++ more)
  pub stands : (f t : ℕ) → from ≤ f → bar_pieces f t (stretches_ahead resolution a) ≡ bar_pieces f t ss
  pub ahead : IsAhead resolution a
  pub rest : from + score_parts resolution (drop n bars) ≡ score_parts resolution bars
  pub earlier : IfSome before IsScoreBar

pub ahead_first : (resolution : ℕ) (bars : List ScoreBar) (spans : List Span) → 1 ≤ resolution → resolution ≤ MOST_UNITS
    → All IsScoreBar bars → length bars ≤ 2 ^ 32
    → AreOfVoice resolution (score_parts resolution bars) spans → IsAhead resolution
    (record { spans = spans; at = 0; end = score_parts resolution bars })
ahead_first resolution bars spans some units each few are =
    let small = score_few resolution bars units each in
    record { some_unit = some; few_units = units; each = are.each; follow = are.follow; small = omega (arith, small, few) }

pub bars_none : (resolution : ℕ) (first : Bool) (bars : List ScoreBar) (spans : List Span) (a : Ahead) (text : List ℕ)
    → a ≡ record { spans = spans; at = 0; end = score_parts resolution bars }
    → IsAhead resolution (record { spans = spans; at = 0; end = score_parts resolution bars })
    → HasWrittenBars resolution first (stretches resolution 0 (score_parts resolution bars) spans) bars 0 None 0 a text text
bars_none resolution first bars spans a text is ahead = record {
  lines = [];
  written = sym (append-nil text);
  others = λ more are. are;
  stands = λ f t after. ap (λ b. bar_pieces f t (stretches_ahead resolution b)) is;
  ahead = subst (IsAhead resolution) (sym is) ahead;
  rest = omega arith;
  earlier = tt;
}

-- the lines of one bar
bar_lines : (resolution : ℕ) (first : Bool) (ss : List Stretch) (before : Option ScoreBar) (from : ℕ) (bar : ScoreBar)
    (bars : List ScoreBar) (elements : List Element) (more : List (List ℕ))
    → AreBarElements resolution from (from + score_bar_parts resolution bar) ss elements
    → AreBarsOfStaff resolution first ss (Some bar) (from + score_bar_parts resolution bar) bars more
    → AreBarsOfStaff resolution first ss before from (bar ∷ bars) (lily_changes first before bar ++ staff_bar (has_flats bar.sf) elements ∷ more)
bar_lines resolution first ss before from bar bars elements more own others = (elements, more, own, others, refl)

-- the text of one bar
bar_text : (first : Bool) (before : Option ScoreBar) (bar : ScoreBar) (elements : List Element) (lines : List (List ℕ))
    (text one two three new : List ℕ)
    → one ≡ text ++ lines_text lines → two ≡ one ++ lines_text (lily_changes first before bar)
    → three ≡ two ++ elements_text (has_flats bar.sf) elements → new ≡ three ++ codes "|\n"
    → new ≡ text ++ lines_text (lines ++ (lily_changes first before bar ++ staff_bar (has_flats bar.sf) elements ∷ []))
bar_text first before bar elements lines text one two three new a b c d =
    let said = lily_changes first before bar in
    let es = elements_text (has_flats bar.sf) elements in
    let line : es ++ codes "|\n" ≡ lines_text (staff_bar (has_flats bar.sf) elements ∷ []) =
    sym (append-nil ((es ++ codes "|") ++ 10 ∷ []) ∙ append_assoc es (codes "|") (10 ∷ [])) in
    let all : lines_text (lines ++ (said ++ staff_bar (has_flats bar.sf) elements ∷ [])) ≡ lines_text
    lines ++ (lines_text said ++ (es ++ codes "|\n")) =
    lines_append lines (said ++ staff_bar (has_flats bar.sf) elements ∷ [])
    ∙ ap (λ t. lines_text lines ++ t) (lines_append said (staff_bar (has_flats bar.sf) elements ∷ []) ∙ ap (λ t. lines_text said ++ t)
    (sym line)) in
    let whole : new ≡ text ++ (lines_text lines ++ (lines_text said ++ (es ++ codes "|\n"))) = grind (arith, append_assoc) in
    whole ∙ ap (λ t. text ++ t) (sym all)

pub bars_next : (resolution : ℕ) (first : Bool) (ss : List Stretch) (bars : List ScoreBar) (n : ℕ) (d : ScoreBar)
    (before : Option ScoreBar) (from to : ℕ) (a after : Ahead) (text one two three new : List ℕ)
    → n < length bars → All IsScoreBar bars → to ≡ from + score_bar_parts resolution (get_or bars n d)
    → HasWrittenBars resolution first ss bars n before from a text one → two ≡ one ++ lines_text (lily_changes first before (get_or bars n d))
    → HasWrittenBar resolution from to (has_flats (get_or bars n d).sf) a after two three → new ≡ three ++ codes "|\n"
    → HasWrittenBars resolution first ss bars (n + 1) (Some (get_or bars n d)) to after text new
bars_next resolution first ss bars n d before from to a after text one two three new within each ending h said here barline =
    let bar = get_or bars n d in
    let (own, is_own, written) = here.written in
    let elements : List Element = flat_map (λ es. es) own in
    let there : AreBarElements resolution from (from + score_bar_parts resolution bar) ss elements = (
      own,
      subst (λ t. Each (AreElements resolution) (bar_pieces from t ss) own) ending
          (subst (λ ps. Each (AreElements resolution) ps own) (h.stands from to (omega arith)) is_own),
      refl,
    ) in
    let next : drop n bars ≡ bar ∷ drop (n + 1) bars = drop-cons bars n d within ∙ ap (λ k. bar ∷ drop k bars) (sym (add-one n)) in
    let rest = sum_by-drop_more (score_bar_parts resolution) bars n d within in
    record {
      lines = h.lines ++ (lily_changes first before bar ++ staff_bar (has_flats bar.sf) elements ∷ []);
      written = bar_text first before bar elements h.lines text one two three new h.written said written barline;
      others = λ more are.
          let own_lines = lily_changes first before bar ++ staff_bar (has_flats bar.sf) elements ∷ more in
          let whole = bar_lines resolution first ss before from bar (drop (n + 1) bars) elements more there
          (subst (λ t. AreBarsOfStaff resolution first ss (Some bar) t (drop (n + 1) bars) more) ending are) in
          subst (AreBarsOfStaff resolution first ss None 0 bars) (joined h.lines (lily_changes first before bar)
          (staff_bar (has_flats bar.sf) elements) more)
          (h.others own_lines (subst (λ xs. AreBarsOfStaff resolution first ss before from xs own_lines) (sym next) whole));
      stands = λ f t le. here.later f t le ∙ h.stands f t (omega (arith, ending, le));
      ahead = here.ahead;
      rest = omega (arith, ending, rest, h.rest);
      earlier = All-get_or IsScoreBar bars n d within each;
    }
  where
    joined : (xs ys : List (List ℕ)) (line : List ℕ) (more : List (List ℕ)) → xs ++ (ys ++ line ∷ more) ≡ (xs ++ (ys ++ line ∷ [])) ++ more
    joined xs ys line more = ap (λ t. xs ++ t) (sym (append_assoc ys (line ∷ []) more)) ∙ sym (append_assoc xs (ys ++ line ∷ []) more)

pub bars_all : (resolution : ℕ) (first : Bool) (ss : List Stretch) (bars : List ScoreBar) (n : ℕ) (before : Option ScoreBar) (from : ℕ)
    (a : Ahead) (text new : List ℕ)
    → length bars ≤ n → HasWrittenBars resolution first ss bars n before from a text new
    → (lines : List (List ℕ)) × AreBarsOfStaff resolution first ss None 0 bars lines × (new ≡ text ++ lines_text lines)
bars_all resolution first ss bars n before from a text new all h = (
  h.lines,
  subst (AreBarsOfStaff resolution first ss None 0 bars) (append-nil h.lines)
      (h.others [] (subst (λ xs. AreBarsOfStaff resolution first ss before from xs []) (sym (drop_all n bars all)) refl)),
  h.written,
)

-- ---- the staff

staff_text : (lines : List (List ℕ)) → codes "\\new Staff {\n" ++ (lines_text lines ++ codes "}\n") ≡ lines_text
    (codes "\\new Staff {" ∷ (lines ++ codes "}" ∷ []))
staff_text lines = ap (λ t. codes "\\new Staff {\n" ++ t) (sym (lines_append lines (codes "}" ∷ [])))

pub staff_written : (resolution : ℕ) (bars : List ScoreBar) (first : Bool) (spans : List Span) (lines : List (List ℕ))
    (text one two new : List ℕ)
    → AreBarsOfStaff resolution first (stretches resolution 0 (score_parts resolution bars) spans) None 0 bars lines
    → one ≡ text ++ codes "\\new Staff {\n" → two ≡ one ++ lines_text lines → new ≡ two ++ codes "}\n"
    → (all : List (List ℕ)) × AreStaffLines resolution bars first spans all × (new ≡ text ++ lines_text all)
staff_written resolution bars first spans lines text one two new are a b c =
    let whole : new ≡ text ++ (codes "\\new Staff {\n" ++ (lines_text lines ++ codes "}\n")) = grind (arith, append_assoc) in
    (codes "\\new Staff {" ∷ (lines ++ codes "}" ∷ []), (lines, are, refl), whole ∙ ap (λ t. text ++ t) (staff_text lines))
